-- Edits of a slice for writing, one after the other.
use Rattle.std.proofs.Common.{Bool, List, ap, subst, ◌∙◌}
use Rattle.bitvec.specs.Span.{Span, BecomesList}
use Rattle.bitvec.proofs.BecomesLemmas.{becomes-same, becomes-then}
use Rattle.bitvec_slice.specs.BitSliceMut.{lent_span, lent_words, lent_bits, BecomesBits}
use Rattle.bitvec_slice.specs.declared.slice.bit_slice_mut.BitSliceMut.{BitSliceMut}

-- Two edits are one: `f` is what the second makes of a list.
pub edits-both : {R O : Type 0} {a b c d e f g h i : _} → (old mid new : BitSliceMut R O a b c d e f g h i) (xs : List Bool) (f : List Bool → List Bool) → BecomesBits old mid xs → BecomesBits mid new (f (lent_bits mid))
    → BecomesBits old new (f xs)
edits-both {a = own} {i = order} old mid new xs f first second =
    let is = ap f first.0 in
    let there = subst (λ (s : Span). BecomesList own.BITS order.at_of s (lent_words mid) (lent_words new) (f (lent_bits mid))) first.1 second.3 in
    let both = becomes-then own.BITS order.at_of (lent_span old) (lent_words old) (lent_words mid) (lent_words new) xs (f (lent_bits mid)) first.3 there in
    (second.0 ∙ is, second.1 ∙ first.1, second.2 ∙ first.2, becomes-same own.BITS order.at_of (lent_span old) (lent_words old) (lent_words new) _ _ is both)
