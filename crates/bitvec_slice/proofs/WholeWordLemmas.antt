-- Words that a span has whole.
use Rattle.std.proofs.Common.{◌≡◌, ℕ, ◌+◌, ◌-◌, ◌*◌, ◌/◌, ◌%◌, ◌==◌, ◌<◌, ◌^◌, ◌&&◌, if◌then◌else◌, Bool, false, List, length, nat_le, nat_lt, refl, ◌∙◌, arith}
use Rattle.std.proofs.lemmas.Bool.{le-leb, lt-ltb, eq-eqb}
use Rattle.bitvec.specs.Digit.{digit}
use Rattle.bitvec.specs.Order.{IsOneToOne}
use Rattle.bitvec.specs.Place.{words_met}
use Rattle.bitvec.specs.Span.{Span, element}
use Rattle.bitvec.proofs.DigitLemmas.{digit_all}
use Rattle.bitvec.proofs.MemoryLemmas.{get_or-tabulate}
use Rattle.bitvec_slice.specs.Words.{HasWord, with_digits}
use Rattle.bitvec_slice.proofs.SkipLemmas.{met_before}

module _ (bits : ℕ) (span : Span) (k : ℕ) (some : 0 < bits) (has : HasWord bits span k) where
  -- it is met
  pub whole_is_met : k < words_met bits span.head span.len
  whole_is_met = met_before bits span.head span.len k some (omega (arith, some, has.0, has.1)) (omega (arith, some, has.1))

  -- and all ones are the mask of the span's positions in it
  pub whole_mask : (at : ℕ → ℕ) (r : ℕ) → IsOneToOne bits at → r ≡ 2 ^ bits - 1
      → (i : ℕ) → i < bits → digit r (at i) ≡ (nat_le span.head (k * bits + i) && nat_lt (k * bits + i) (span.head + span.len))
  whole_mask at r order all i h =
      let in_word = order.below i h in
      rw (all, digit_all bits (at i) in_word, le-leb span.head (k * bits + i) (omega (arith, has.0)), lt-ltb (k * bits + i) (span.head + span.len) (omega (arith, has.1, h))) refl

-- an element of the word that a list has the digits of
pub put_digit : (bits : ℕ) (at : ℕ → ℕ) (head : ℕ) (xs : List Bool) (k w j : ℕ) → j < length xs → (head + j) / bits ≡ k
    → element (with_digits bits at head xs k w) j ≡ digit w (at ((head + j) % bits))
put_digit bits at head xs k w j h same =
    get_or-tabulate (length xs) (λ i. if (head + i) / bits == k then digit w (at ((head + i) % bits)) else element xs i) j false h
    ∙ rw (eq-eqb ((head + j) / bits) k same) refl
