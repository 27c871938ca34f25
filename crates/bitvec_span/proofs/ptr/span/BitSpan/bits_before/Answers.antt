use Rattle.std.proofs.Common.{◌≡◌, ◌+◌, ◌/◌, ◌<◌, ◌+ℤ◌, ◌≤ℤ◌, pos, arith, rules, to_z, of_z}
use Rattle.std.specs.Int.{w64}
use Rattle.std.proofs.lemmas.Int.{ints}
use Rattle.bitvec_ptr.specs.Place.{greatest_isize}
use Rattle.bitvec_ptr.proofs.PlaceLemmas.{floor_place}
use Rattle.bitvec_span.proofs.PointerLemmas.{quotient_up}
use Rattle.bitvec_span.proofs.ptr.span.BitSpan.bits_before.Goals as goal

pub invariant_of-result-clause-low : goal.invariant_of-result-clause-low
invariant_of-result-clause-low g c =
    let width = g.R.BitRegister.BITS in
    let span = c.args.self in
    let some : 0 < width = omega (arith, g.met.R.BitRegister.width_at_least_8) in
    let same : to_z w64 (of_z w64 span.word) ≡ span.word = search rules in
    let up = quotient_up (span.head + c.args.mid) (span.head + span.len) width some (omega (arith, c.requires)) in
    let ends : (span.word +ℤ pos ((span.head + span.len) / width)) ≤ℤ greatest_isize = rw (floor_place width span.word span.head span.len some) at span.low in
    rw (same, floor_place width span.word span.head c.args.mid some) (omega (arith, ints, ends, up))
