-- What slices for writing make of a memory that they borrow.
use Rattle.std.proofs.Common.{◌≡◌, Bool, List, map, sym, subst}
use Rattle.bitvec.specs.Span.{Span, BecomesList, list_of}
use Rattle.bitvec_slice.specs.BitSliceMut.{lent_memory, lent_span, lent_bits, BecomesBits}
use Rattle.bitvec_slice.specs.declared.slice.bit_slice_mut.BitSliceMut.{BitSliceMut}

-- A memory was lent to a slice of a span, whose bits became others, and then came back: so the span's bits became these.
pub lent_edit : {R O : Type 0} {a b c d e f g h i : _} → (first last : BitSliceMut R O a b c d e f g h i) (span : Span) (old new : List R) (xs : List Bool → List Bool)
    → lent_span first ≡ span → (lent_memory first).now ≡ old → new ≡ (lent_memory last).now → BecomesBits first last (xs (lent_bits first))
    → BecomesList a.BITS i.at_of span (map a.number old) (map a.number new) (xs (list_of a.BITS i.at_of span (map a.number old)))
lent_edit {a = own} {i = order} first last span old new xs there lent back edit =
    let here = subst (λ (s : Span). BecomesList own.BITS order.at_of s (map own.number (lent_memory first).now) (map own.number (lent_memory last).now) (xs (list_of own.BITS order.at_of s (map own.number (lent_memory first).now)))) there edit.3 in
    let was = subst (λ (us : List _). BecomesList own.BITS order.at_of span (map own.number us) (map own.number (lent_memory last).now) (xs (list_of own.BITS order.at_of span (map own.number us)))) lent here in
    subst (λ (us : List _). BecomesList own.BITS order.at_of span (map own.number old) (map own.number us) (xs (list_of own.BITS order.at_of span (map own.number old)))) (sym back) was
