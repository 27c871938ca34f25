use Rattle.std.proofs.Common.{◌≡◌, ℕ, ◌+◌, ◌*◌, ◌/◌, ◌%◌, ◌<◌, ◌≤◌, ◌∙◌, ◌+ℤ◌, ◌≤ℤ◌, pos, ap, arith, to_z, of_z}
use Rattle.std.specs.Int.{w64}
use Rattle.std.proofs.Math.Nat.{mul-le-mul_left}
use Rattle.std.proofs.lemmas.Int.{ints}
use Rattle.std.proofs.lemmas.Nat.{div-add-mod'}
use Rattle.bitvec_ptr.specs.Place.{Ptr, greatest_isize}
use Rattle.bitvec_ptr.proofs.PlaceLemmas.{floor_place}
use Rattle.bitvec_span.proofs.ptr.span.BitSpan.at_unchecked.Goals as goal

-- a number of 64 bits and a length end in a word that an `isize` can name
ends-low : (bits place len : ℕ) → 8 ≤ bits → place < 18446744073709551616 → len ≤ 2305843009213693951 → (pos (place / bits) +ℤ pos ((place % bits + len) / bits)) ≤ℤ greatest_isize
ends-low bits place len eight below short =
    let word = div-add-mod' place bits in
    let end = div-add-mod' (place % bits + len) bits in
    let words : place / bits * 8 ≤ place / bits * bits = mul-le-mul_left (place / bits) eight in
    let ends : (place % bits + len) / bits * 8 ≤ (place % bits + len) / bits * bits = mul-le-mul_left ((place % bits + len) / bits) eight in
    omega (arith, ints, word, end, words, ends, below, short)

pub invariant_of-result-clause-low : goal.invariant_of-result-clause-low
invariant_of-result-clause-low g c =
    let width = g.R.BitRegister.BITS in
    let eight = g.met.R.BitRegister.width_at_least_8 in
    let some : 0 < width = omega (arith, eight) in
    let same : to_z w64 (of_z w64 c.address.result) ≡ c.address.result = omega (arith, ints, c.address.type_inv) in
    let word : c.address.result ≡ pos (c.args.place / width) = c.address.ensures ∙ ap (λ (p : Ptr). p.word) c.at-start.ensures in
    let head : c.into_inner.result ≡ c.args.place % width = c.into_inner.ensures.value ∙ c.bit.ensures.value ∙ ap (λ (p : Ptr). p.bit) c.at-start.ensures in
    rw (same, word, head, floor_place width (pos (c.args.place / width)) (c.args.place % width) c.args.len some) (ends-low width c.args.place c.args.len eight c.ranges.place.fits c.requires)
