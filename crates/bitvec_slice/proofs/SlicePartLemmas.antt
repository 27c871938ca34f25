-- The list of a whole memory, the lists of a slice's parts, and the list of words that are all zero.
use Rattle.std.proofs.Common.{◌≡◌, ℕ, ◌+◌, ◌*◌, ◌-◌, ◌/◌, ◌%◌, ◌<◌, ◌≤◌, Bool, false, List, ◌++◌, length, get_or, take, drop, replicate, refl, sym, ap, subst, ◌∙◌, inl, inr, arith}
use Rattle.std.specs.Prelude.{pos, nat_abs}
use Rattle.std.proofs.Math.Seq.{take-append_seam, drop-append_seam}
use Rattle.std.proofs.lemmas.Bool.{cases_eq, cases_lt}
use Rattle.std.proofs.lemmas.Int.{ints}
use Rattle.std.proofs.lemmas.List.{get_or_past, get_or-replicate, length-replicate}
use Rattle.std.proofs.lemmas.Nat.{div-add-mod', mod_below}
use Rattle.std.proofs.Math.Nat.{mul-le-mul_right}
use Rattle.bitvec.specs.Digit.{digit}
use Rattle.bitvec.specs.Memory.{bit_of, memory_bits}
use Rattle.bitvec.specs.Place.{words_met}
use Rattle.bitvec.specs.Span.{Span, Fits, list_of, span_upto, span_from, front_span}
use Rattle.bitvec.proofs.CopyLemmas.{word_within}
use Rattle.bitvec.proofs.DigitLemmas.{digit-zero}
use Rattle.bitvec.proofs.MemoryLemmas.{tabulate-from_elements, tabulate_same}
use Rattle.bitvec.proofs.PartLemmas.{length-list_of}
use Rattle.bitvec.proofs.PlaceLemmas.{words_met-none, words_met-some}
use Rattle.bitvec.proofs.SplitLemmas.{parts-lists}

met_whole : (bits words count : ℕ) → count ≤ words * bits → words_met bits 0 count ≤ words
met_whole bits words count h =
    elim (cases_eq count 0) [
      | inl none ↦ omega (arith, words_met-none bits 0 count none)
      | inr other ↦ (
          let last = word_within ((count - 1) / bits) ((count - 1) % bits) bits words (omega (arith, h, other, div-add-mod' (count - 1) bits)) in
          let some = words_met-some bits 0 count (omega arith) in
          let same : (0 + count - 1) / bits ≡ (count - 1) / bits = ap (λ n. n / bits) (omega arith) in
          omega (arith, last, some, same))
    ]

-- the bits from the first on lie in a memory
pub whole_fits : (bits words count : ℕ) → count ≤ words * bits → Fits bits (record { word = pos 0; head = 0; len = count }) words
whole_fits bits words count h = (omega (arith, ints), omega (arith, met_whole bits words count h))

-- the list of the span of all bits of a memory is the list of these bits
pub list_of_whole : (bits : ℕ) (at : ℕ → ℕ) (span : Span) (words : List ℕ) (count : ℕ) → span ≡ front_span (count * bits) → length words ≡ count → list_of bits at span words ≡ memory_bits bits at words
list_of_whole bits at span words count is_span many =
    ap (λ (s : Span). list_of bits at s words) is_span
    ∙ ap (λ n. list_of bits at (front_span (n * bits)) words) (sym many)
    ∙ tabulate_same (length words * bits) _ _ false (λ j h. ap (bit_of bits at words) (let same : 0 * bits + 0 + j ≡ j = omega arith in same))

take_first : (xs ys : List Bool) (n : ℕ) → length xs ≡ n → take n (xs ++ ys) ≡ xs
take_first xs ys n e = subst (λ m. take m (xs ++ ys) ≡ xs) e (take-append_seam xs ys)

drop_first : (xs ys : List Bool) (n : ℕ) → length xs ≡ n → drop n (xs ++ ys) ≡ ys
drop_first xs ys n e = subst (λ m. drop m (xs ++ ys) ≡ ys) e (drop-append_seam xs ys)

-- two spans whose lists, joined, are that of a third, where the first has its first `mid` bits
module _ (bits : ℕ) (at : ℕ → ℕ) (first second span : Span) (words : List ℕ) (mid : ℕ) (is_first : first ≡ span_upto span mid)
    (joined : list_of bits at first words ++ list_of bits at second words ≡ list_of bits at span words) where
  long : length (list_of bits at first words) ≡ mid
  long = length-list_of bits at first words ∙ ap (λ (s : Span). s.len) is_first

  pub list_of-front : list_of bits at first words ≡ take mid (list_of bits at span words)
  list_of-front = sym (ap (take mid) (sym joined) ∙ take_first (list_of bits at first words) (list_of bits at second words) mid long)

  pub list_of-back : list_of bits at second words ≡ drop mid (list_of bits at span words)
  list_of-back = sym (ap (drop mid) (sym joined) ∙ drop_first (list_of bits at first words) (list_of bits at second words) mid long)

-- the span of the first bits lies in no memory that has fewer
pub front_inside : (bits words len : ℕ) → 0 < bits → Fits bits (front_span len) words → len ≤ words * bits
front_inside bits words len some fits =
    elim (cases_eq len 0) [
      | inl none ↦ omega (arith, none)
      | inr other ↦ (
          let met = words_met-some bits 0 len (omega arith) in
          let row : ((0 + len - 1) / bits + 1) * bits ≤ words * bits = mul-le-mul_right bits (omega (arith, ints, fits.1, met)) in
          omega (arith, row, div-add-mod' (0 + len - 1) bits, mod_below (0 + len - 1) bits some))
    ]

-- the list of the span of the first bits has the first of all bits
pub first_bits : (bits : ℕ) (at : ℕ → ℕ) (span : Span) (words : List ℕ) (len count : ℕ) → 0 < bits → span ≡ front_span len → length words ≡ count → len ≤ count * bits
    → list_of bits at span words ≡ take len (memory_bits bits at words)
first_bits bits at span words len count some is many within =
    let all : Span = front_span (count * bits) in
    ap (λ (s : Span). list_of bits at s words) is
    ∙ list_of-front bits at (front_span len) (span_from bits all len) all words len refl (parts-lists bits all len some within at words (omega (arith, ints)))
    ∙ ap (take len) (list_of_whole bits at all words count refl many)

zero_word : (n k : ℕ) → let none : ℕ = 0 in get_or (replicate n none) k none ≡ none
zero_word n k =
    elim (cases_lt k n) [
      | inl inside ↦ get_or-replicate n k 0 0 inside
      | inr past ↦ get_or_past (replicate n 0) k 0 (omega (arith, past, length-replicate {A = ℕ} n 0))
    ]

-- each bit of words that are all zero is false, whatever the register and the order are
pub list_of-zeros : (bits : ℕ) (at : ℕ → ℕ) (span : Span) (n : ℕ) → list_of bits at span (replicate n 0) ≡ replicate span.len false
list_of-zeros bits at span n =
    let place : ℕ → ℕ = λ j. nat_abs span.word * bits + span.head + j in
    sym (tabulate-from_elements (replicate span.len false) span.len (λ j. bit_of bits at (replicate n 0) (place j)) false (length-replicate span.len false)
    (λ j h. get_or-replicate span.len j false false h ∙ sym (ap (λ w. digit w (at (place j % bits))) (zero_word n (place j / bits)) ∙ digit-zero (at (place j % bits)))))
