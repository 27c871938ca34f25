use Rattle.std.proofs.Common.{ℕ, length, map, ap, arith}
use Rattle.bitvec.specs.BitSpan.{span_of}
use Rattle.bitvec.specs.Span.{Span, list_of}
use Rattle.bitvec.proofs.BecomesLemmas.{becomes-same}
use Rattle.bitvec.proofs.PartLemmas.{length-list_of}
use Rattle.bitvec_slice.specs.Numbers.{digits_le}
use Rattle.bitvec_slice.proofs.SamePlaceLemmas.{becomes-under}
use Rattle.bitvec_slice.proofs.SpanEdits.{edit-named}
use Rattle.bitvec_slice.proofs.field.digits.store_rising.Goals as goal

pub store-requires-clause-small : goal.store-requires-clause-small
store-requires-clause-small g c =
    let places = span_of c.places_of-places.result in
    let long = length-list_of g.R.BitRegister.BITS (λ (i : ℕ). i) places (map g.R.BitRegister.number c.args.memory.now) in
    omega (arith, long, ap (λ (s : Span). s.len) c.places_of-places.ensures, c.requires.small)

pub returns : goal.returns
returns g c =
    let width = g.R.BitRegister.BITS in
    let eight = g.met.R.BitRegister.width_at_least_8 in
    let at = g.O.BitAt.at_of in
    let span = span_of c.args.span in
    let old = map g.R.BitRegister.number c.args.memory.now in
    let new = map g.R.BitRegister.number c.store.new.memory in
    let value = g.N.BitRegister.number c.args.value in
    let bits = λ (s : Span). digits_le (length (list_of width (λ (i : ℕ). i) s old)) value in
    let edit = edit-named width (λ (i : ℕ). i) (span_of c.places_of-places.result) span old new bits c.places_of-places.ensures c.store.ensures.stored in
    becomes-same width at span old new _ _ (ap (λ n. digits_le n value) (length-list_of width (λ (i : ℕ). i) span old))
    (becomes-under width at (λ (i : ℕ). i) (omega (arith, eight)) c.requires.order span old new _ edit)
