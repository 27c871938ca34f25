-- Numbers as lists of their digits, and back.
use Rattle.std.proofs.Common.{◌≡◌, ℕ, ◌-◌, ◌%◌, ◌^◌, ◌<◌, ◌≤◌, Bool, true, false, List, length, sym, ap, ◌∙◌, arith}
use Rattle.std.specs.Prelude.{slice_range}
use Rattle.std.proofs.Math.Nat.{mod-eq_of_lt}
use Rattle.bitvec.specs.Digit.{digit}
use Rattle.bitvec.specs.Span.{element}
use Rattle.bitvec.proofs.MemoryLemmas.{length-tabulate, tabulate-from_elements}
use Rattle.bitvec_slice.specs.Numbers.{number_le, number_be, digits_le, digits_be}
use Rattle.bitvec_slice.specs.Ranges.{with_range}
use Rattle.bitvec_slice.proofs.EditRangeLemmas.{range_within}
use Rattle.bitvec_slice.proofs.FieldLemmas.{field_digit, field_below}
use Rattle.bitvec_slice.proofs.FieldStoreLemmas.{stored_loads, field_list_low}

pub length-digits_le : (count n : ℕ) → length (digits_le count n) ≡ count
length-digits_le count n = length-tabulate count (digit n)

pub length-digits_be : (count n : ℕ) → length (digits_be count n) ≡ count
length-digits_be count n = length-tabulate count (λ j. digit n (count - 1 - j))

-- the number of a list has its elements as digits, and no more
pub digit-number_le : (xs : List Bool) (j : ℕ) → j < length xs → digit (number_le xs) j ≡ element xs j
digit-number_le xs j h = field_digit 8 0 (number_le xs) xs (omega arith) (omega arith) false true (λ i. number_le xs) j h

pub digit-number_be : (xs : List Bool) (j : ℕ) → j < length xs → digit (number_be xs) (length xs - 1 - j) ≡ element xs j
digit-number_be xs j h = field_digit 8 0 (number_be xs) xs (omega arith) (omega arith) true false (λ i. number_be xs) j h

pub number_le-below : (xs : List Bool) → number_le xs < 2 ^ length xs
number_le-below xs = field_below 8 0 (number_le xs) xs (omega arith) (omega arith) false true (λ i. number_le xs)

pub number_be-below : (xs : List Bool) → number_be xs < 2 ^ length xs
number_be-below xs = field_below 8 0 (number_be xs) xs (omega arith) (omega arith) true false (λ i. number_be xs)

-- the number of digits is what they are of, as far as they go
pub number_le-digits : (count n : ℕ) → number_le (digits_le count n) ≡ n % 2 ^ count
number_le-digits count n = stored_loads false true 8 0 count n (omega arith) (omega arith)

pub number_be-digits : (count n : ℕ) → number_be (digits_be count n) ≡ n % 2 ^ count
number_be-digits count n = stored_loads true false 8 0 count n (omega arith) (omega arith)

-- and that is all of a number that has no more
pub number_le-back : (count n : ℕ) → n < 2 ^ count → number_le (digits_le count n) ≡ n
number_le-back count n h = number_le-digits count n ∙ mod-eq_of_lt {n = n} {m = 2 ^ count} h

pub number_be-back : (count n : ℕ) → n < 2 ^ count → number_be (digits_be count n) ≡ n
number_be-back count n h = number_be-digits count n ∙ mod-eq_of_lt {n = n} {m = 2 ^ count} h

-- the digits of a list's number are the list
pub digits_le-number : (xs : List Bool) (count : ℕ) → length xs ≡ count → digits_le count (number_le xs) ≡ xs
digits_le-number xs count long =
    sym (tabulate-from_elements xs count (digit (number_le xs)) false long (λ j h. sym (digit-number_le xs j (omega (arith, h, long)))))

pub digits_be-number : (xs : List Bool) (count : ℕ) → length xs ≡ count → digits_be count (number_be xs) ≡ xs
digits_be-number xs count long =
    sym (tabulate-from_elements xs count (λ j. digit (number_be xs) (count - 1 - j)) false long
    (λ j h. sym (ap (λ n. digit (number_be xs) (n - 1 - j)) (sym long) ∙ digit-number_be xs j (omega (arith, h, long)))))

-- digits are those of whatever number is the same as far as they go
pub digits_le-low : (count n m : ℕ) → n % 2 ^ count ≡ m → digits_le count n ≡ digits_le count m
digits_le-low count n m h = field_list_low false true 8 0 count n m (omega arith) (omega arith) h

pub digits_be-low : (count n m : ℕ) → n % 2 ^ count ≡ m → digits_be count n ≡ digits_be count m
digits_be-low count n m h = field_list_low true false 8 0 count n m (omega arith) (omega arith) h

-- a list with a number's digits put into a stretch has that number there, as far as the stretch goes
module _ (xs new : List Bool) (from to n : ℕ) (rises : from ≤ to) (inside : to ≤ length xs) where
  pub number_le-range : new ≡ with_range xs from to (digits_le (to - from) n) → number_le (slice_range new from to) ≡ n % 2 ^ (to - from)
  number_le-range is =
      ap (λ us. number_le (slice_range us from to)) is
      ∙ ap number_le (range_within xs (digits_le (to - from) n) from to rises inside (length-digits_le (to - from) n))
      ∙ number_le-digits (to - from) n

  pub number_be-range : new ≡ with_range xs from to (digits_be (to - from) n) → number_be (slice_range new from to) ≡ n % 2 ^ (to - from)
  number_be-range is =
      ap (λ us. number_be (slice_range us from to)) is
      ∙ ap number_be (range_within xs (digits_be (to - from) n) from to rises inside (length-digits_be (to - from) n))
      ∙ number_be-digits (to - from) n
