-- A range that a number is stored into, by the slice that borrows it.
use Rattle.std.proofs.Common.{◌≡◌, ℕ, ◌%◌, Bool, List, subst}
use Rattle.bitvec.specs.Span.{Span, BecomesList, span_at}
use Rattle.bitvec_slice.specs.Field.{field_list}
use Rattle.bitvec_call.specs.Range.{RangeBecomes}

-- the span of a range gets as many lowest digits of a number as it has bits
module _ (bits : ℕ) (at : ℕ → ℕ) (big rises : Bool) (start count value : ℕ) where
  pub stored_range : (digits : ℕ) (s : Span) (old new : List ℕ) → s ≡ span_at bits start count → digits ≡ s.len
      → BecomesList bits at s old new (field_list big bits rises s.head digits value)
      → RangeBecomes bits at start count (field_list big bits rises (start % bits) count value) old new
  stored_range digits s old new is many edit =
      subst (λ (r : Span). BecomesList bits at r old new (field_list big bits rises r.head r.len value)) is
      (subst (λ n. BecomesList bits at s old new (field_list big bits rises s.head n value)) many edit)
