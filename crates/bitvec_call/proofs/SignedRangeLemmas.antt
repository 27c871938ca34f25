-- A range that a signed number is loaded from, or stored into, by the slice that borrows it.
use Rattle.std.proofs.Common.{◌≡◌, ℕ, ◌%◌, ℤ, Bool, List, length, subst}
use Rattle.bitvec.proofs.PartLemmas.{length-list_of}
use Rattle.bitvec.specs.Span.{Span, BecomesList, span_at}
use Rattle.bitvec_slice.specs.Field.{field_number, field_list}
use Rattle.bitvec_slice.specs.Signed.{signed_of, complement_of}
use Rattle.bitvec_call.specs.Number.{loaded_number}
use Rattle.bitvec_call.specs.Range.{range_bits, RangeBecomes}

module _ (bits : ℕ) (at : ℕ → ℕ) (big rises : Bool) (start count : ℕ) where
  -- the signed number of a slice is that of its range
  pub signed_range : (words : List ℕ) (s : Span) (xs : List Bool) (z : ℤ) → s ≡ span_at bits start count → xs ≡ range_bits bits at start count words
      → z ≡ signed_of (length xs) (field_number big bits rises s.head xs) → z ≡ signed_of count (loaded_number big bits rises at start count words)
  signed_range words s xs z is same value =
      let ys = range_bits bits at start count words in
      let long = length-list_of bits at (span_at bits start count) words in
      let here = subst (λ (us : List Bool). z ≡ signed_of (length us) (field_number big bits rises s.head us)) same value in
      let there = subst (λ (r : Span). z ≡ signed_of (length ys) (field_number big bits rises r.head ys)) is here in
      subst (λ (n : ℕ). z ≡ signed_of n (field_number big bits rises (start % bits) ys)) long there

  -- the span of a range gets as many lowest digits of a signed number's two's complement as it has bits
  pub stored_signed : (z : ℤ) (digits : ℕ) (s : Span) (old new : List ℕ) → s ≡ span_at bits start count → digits ≡ s.len
      → BecomesList bits at s old new (field_list big bits rises s.head digits (complement_of digits z))
      → RangeBecomes bits at start count (field_list big bits rises (start % bits) count (complement_of count z)) old new
  stored_signed z digits s old new is many edit =
      subst (λ (r : Span). BecomesList bits at r old new (field_list big bits rises r.head r.len (complement_of r.len z))) is
      (subst (λ n. BecomesList bits at s old new (field_list big bits rises s.head n (complement_of n z))) many edit)
