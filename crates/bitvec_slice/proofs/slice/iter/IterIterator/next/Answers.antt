use Rattle.std.proofs.Common.{◌≡◌, ◌+◌, ◌-◌, ◌∷◌, map, sym, subst, arith}
use Rattle.std.proofs.lemmas.List.{length-map}
use Rattle.bitvec.specs.Span.{Fits, list_of, span_from, span_range}
use Rattle.bitvec_slice.specs.BitSlice.{slice_memory, slice_span}
use Rattle.bitvec_slice.specs.Iter.{iter_left}
use Rattle.bitvec_slice.proofs.IterLemmas.{range_first, range_later}
use Rattle.bitvec_slice.proofs.OnesLemmas.{progress_first}
use Rattle.bitvec_slice.proofs.slice.iter.IterIterator.next.Goals as goal

pub returns-clause-steps : goal.returns-clause-steps
returns-clause-steps g c =
    let it = c.args.self.now in
    let bits = g.R.BitRegister.BITS in
    let at = g.O.BitAt.at_of in
    let slice = it.slice in
    let span = slice_span slice in
    let from = it.next - span.head in
    let to = it.end - span.head in
    let words = map g.R.BitRegister.number (slice_memory slice) in
    let bit = c.bit_at_place-bit.result in
    let later : from + 1 ≡ it.next + 1 - span.head = omega (arith, it.begins) in
    subst (λ n. list_of bits at (span_range bits span from to) words ≡ bit ∷ list_of bits at (span_range bits span n to) words) later
    (range_first bits at span from to words (omega (arith, slice.span.in_word, g.met.R.BitRegister.width_at_least_8))
    (subst (λ n. Fits bits span n) (sym (length-map (slice_memory slice) g.R.BitRegister.number)) slice.fits)
    (omega (arith, it.inside)) bit c.bit_at_place-bit.ensures (omega (arith, it.begins, it.rises, c.if-self.false)))

pub returns-clause-goes : goal.returns-clause-goes
returns-clause-goes g c = progress_first _ iter_left _ _ _ tt (returns-clause-steps g c)

pub returns-clause-span : goal.returns-clause-span
returns-clause-span g c =
    let it = c.args.self.now in
    let bits = g.R.BitRegister.BITS in
    let span = slice_span it.slice in
    let from = it.next - span.head in
    let to = it.end - span.head in
    let later : from + 1 ≡ it.next + 1 - span.head = omega (arith, it.begins) in
    subst (λ n. span_range bits span n to ≡ span_from bits (span_range bits span from to) 1) later
    (range_later bits span from to (omega (arith, g.met.R.BitRegister.width_at_least_8)))
