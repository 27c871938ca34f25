-- Which symbol's code a list of bits begins with.
use Rattle.std.proofs.Common.{◌≡◌, ◌≢◌, ◌⊎◌, ℕ, suc, ◌+◌, ◌-◌, ◌/◌, ◌^◌, ◌<◌, ◌≤◌, Bool, false, List, ◌++◌, length, take, drop, get_or, sym, ap, subst, ◌∙◌, inl, inr, arith}
use Rattle.std.proofs.lemmas.List.{get_or-take, length-take-le, take-append-drop}
use Rattle.std.proofs.lemmas.List.Elements.{All-get_or}
use Rattle.std.proofs.Math.Nat.{two-pow-succ}
use Rattle.bitvec.specs.Digit.{digit}
use Rattle.bitvec.proofs.DigitLemmas.{digit-shr}
use Rattle.bitvec.proofs.MemoryLemmas.{tabulate-from_elements}
use Rattle.bitvec_slice.proofs.DigitListLemmas.{length-digits_be, digit-number_be, number_be-below, number_be-back, digits_be-number}
use Rattle.bitvec_stream.specs.Numbers.{number_be, digits_be}
use Rattle.bitvec_stream.proofs.GolombLemmas.{part_long}
use Rattle.example_huffman.specs.Codes.{IsComplete, first_code, behind_codes, code_of}
use Rattle.example_huffman.specs.Laws.{AreBeginnings, BeginsWithCode}
use Rattle.example_huffman.proofs.CodeLemmas.{code_below, lies, known, one_symbol, some_symbol}
use Rattle.example_huffman_text.specs.Text.{code_bits, BeginsWithSymbol}

-- a code has as many bits as its length says
pub code_long : (lengths : List ℕ) (s : ℕ) → length (code_bits lengths s) ≡ get_or lengths s 0
code_long lengths s = length-digits_be (get_or lengths s 0) (code_of lengths s)

-- the numbers that a list begins with, by how many bits they are of
abbrev pub beginning : List Bool → ℕ → ℕ
beginning xs k = number_be (take k xs)

-- without its last digit a number is half as great
half : (xs : List Bool) (k : ℕ) → k < length xs → beginning xs k ≡ beginning xs (k + 1) / 2
half xs k h =
    let ys = take (k + 1) xs in
    let n = number_be ys in
    let long : length ys ≡ k + 1 = length-take-le (k + 1) xs (omega (arith, h)) in
    let many : length (take k xs) ≡ k = length-take-le k xs (omega (arith, h)) in
    let twice : 2 ^ (k + 1) ≡ 2 ^ k + 2 ^ k = ap (λ m. 2 ^ m) (let e : k + 1 ≡ suc k = omega arith in e) ∙ two-pow-succ k in
    let all : n < 2 ^ (k + 1) = subst (λ m. n < 2 ^ m) long (number_be-below ys) in
    let below : n / 2 < 2 ^ k = omega (arith, all, twice) in
    let digits : take k xs ≡ digits_be k (n / 2) = tabulate-from_elements (take k xs) k (λ j. digit (n / 2) (k - 1 - j)) false many (λ j less.
    let place : length ys - 1 - j ≡ 1 + (k - 1 - j) = omega (arith, long, less) in
    get_or-take k xs j false less
    ∙ sym (get_or-take (k + 1) xs j false (omega (arith, less)))
    ∙ sym (digit-number_be ys j (omega (arith, less, long)))
    ∙ ap (digit n) place
    ∙ sym (digit-shr n 1 (k - 1 - j))) in
    ap number_be digits ∙ number_be-back k (n / 2) below

pub beginnings : (xs : List Bool) → AreBeginnings (length xs) (beginning xs)
beginnings xs =
    let none : length (take 0 xs) ≡ 0 = length-take-le 0 xs (omega arith) in
    let below : beginning xs 0 < 2 ^ 0 = subst (λ m. beginning xs 0 < 2 ^ m) none (number_be-below (take 0 xs)) in
    (omega (arith, below), λ k h. (omega (arith, half xs k h), omega (arith, half xs k h)))

module _ (lengths : List ℕ) (xs : List Bool) (s : ℕ) where
  -- a list begins with a symbol's code where it begins with the code's number
  pub begins_by : 0 < get_or lengths s 0 → get_or lengths s 0 ≤ length xs → beginning xs (get_or lengths s 0) ≡ code_of lengths s → BeginsWithSymbol lengths xs s
  begins_by some inside is =
      let count = get_or lengths s 0 in record {
        code = some;
        bits =
            ap (λ n. take n xs) (code_long lengths s)
            ∙ sym (digits_be-number (take count xs) count (length-take-le count xs inside))
            ∙ ap (digits_be count) is;
      }

  -- the code lies in the list, and what is behind the code is left
  pub code_inside : BeginsWithSymbol lengths xs s → get_or lengths s 0 ≤ length xs
  code_inside begins = omega (arith, code_long lengths s, part_long xs (code_bits lengths s) begins.bits)

  pub behind_code : BeginsWithSymbol lengths xs s → xs ≡ code_bits lengths s ++ drop (get_or lengths s 0) xs
  behind_code begins =
      sym (take-append-drop (length (code_bits lengths s)) xs)
      ∙ ap (λ us. us ++ drop (length (code_bits lengths s)) xs) begins.bits
      ∙ ap (λ n. code_bits lengths s ++ drop n xs) (code_long lengths s)

module _ (lengths : List ℕ) (whole : IsComplete lengths) (xs : List Bool) where
  -- and it begins with the number where it begins with the code
  pub begins : (s : ℕ) → BeginsWithSymbol lengths xs s → BeginsWithCode lengths (length xs) (beginning xs) s
  begins s is =
      let front : take (get_or lengths s 0) xs ≡ code_bits lengths s = ap (λ n. take n xs) (sym (code_long lengths s)) ∙ is.bits in (
        is.code,
        code_inside lengths xs s is,
        ap number_be front ∙ number_be-back (get_or lengths s 0) (code_of lengths s) (code_below lengths s whole is.code).0,
      )

  -- it begins with at most one
  pub one_begins : (s t : ℕ) → BeginsWithSymbol lengths xs s → BeginsWithSymbol lengths xs t → s ≡ t
  one_begins s t a b = one_symbol lengths (length xs) (beginning xs) s t whole (beginnings xs) (begins s a) (begins t b)

  -- with no code of so many bits, where their number lies before the first code or behind the last
  pub no_code : (len n s : ℕ) → n ≡ beginning xs len → (n < first_code lengths (len - 1)) ⊎ (behind_codes lengths (len - 1) ≤ n) → BeginsWithSymbol lengths xs s → get_or lengths s 0 ≢ len
  no_code len n s is out one same =
      let it = begins s one in
      let k = len - 1 in
      let low = lies lengths s k (omega (arith, same, it.0)) in
      let here : n ≡ code_of lengths s = is ∙ ap (beginning xs) (sym same) ∙ it.2 in
      elim out [ inl less ↦ omega (arith, low.0, here, less) | inr past ↦ omega (arith, low.1, here, past) ]

  -- and a list of 15 bits begins with the code of some symbol
  pub some_begins : 15 ≤ length xs → (s : ℕ) × BeginsWithSymbol lengths xs s × (get_or lengths s 0 ≤ 15)
  some_begins inside =
      let it = some_symbol lengths (length xs) (beginning xs) whole (beginnings xs) inside in
      (it.0, begins_by lengths xs it.0 it.1.0 it.1.1 it.1.2, All-get_or (λ len. len ≤ 15) lengths it.0 0 (known lengths it.0 it.1.0) whole.0)

-- what the search takes where a code is known by its number, and where it is known that one comes next
pub ruleset by_numbers = (begins_by, no_code)

pub ruleset next_codes = (code_inside, behind_code)
