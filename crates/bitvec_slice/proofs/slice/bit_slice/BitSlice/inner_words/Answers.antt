use Rattle.std.proofs.Common.{◌≡◌, ◌+◌, ◌-◌, map, ap, ◌∙◌, arith}
use Rattle.std.specs.Prelude.{nat_abs, slice_index}
use Rattle.std.specs.Int.{w64}
use mir.Val.{to_z, of_z}
use Rattle.bitvec.specs.Digit.{digit}
use Rattle.bitvec_slice.specs.BitSlice.{slice_memory, slice_span}
use Rattle.bitvec_slice.proofs.AddressLemmas.{address_index}
use Rattle.bitvec_slice.proofs.InnerWordLemmas.{inner_index, inner_digits}
use Rattle.bitvec_slice.proofs.slice.bit_slice.BitSlice.inner_words.Goals as goal

pub returns-clause-digits : goal.returns-clause-digits
returns-clause-digits g c =
    let bits = g.R.BitRegister.BITS in
    let number = g.R.BitRegister.number in
    let slice = c.args.self.now in
    let span = slice_span slice in
    let first = nat_abs (to_z w64 (of_z w64 c.address-first.result)) in
    let met = c.elements.result in
    let start = address_index c.address-first.result span.word c.address-first.type_inv
    c.address-first.ensures in
    λ q p h small.
    let place : first + 1 + q ≡ nat_abs span.word + (q + 1) = omega (arith, start) in
    ap (λ n. digit n p) (inner_index number (slice_memory slice) (first + 1) (first + met - 1 - (first + 1)) q (omega (arith, h)))
    ∙ ap (λ w. digit (slice_index (map number (slice_memory slice)) w) p) place
    ∙ inner_digits bits g.O.BitAt.at_of span (map number (slice_memory slice)) (q + 1) p g.met.O.BitOrder.one_to_one (omega (arith, slice.span.in_word, g.met.R.BitRegister.width_at_least_8)) (omega arith) (omega (arith, h, c.elements.ensures.value)) small
