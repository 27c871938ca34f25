use Rattle.std.proofs.Common.{◌≡◌, pos, ◌+◌, ◌/◌, ◌<◌, ◌+ℤ◌, ◌≤ℤ◌, ap, ◌∙◌, arith, rules}
use Rattle.std.proofs.lemmas.Int.{ints}
use Rattle.bitvec_ptr.specs.BitPtr.{ptr_of}
use Rattle.bitvec_ptr.specs.Place.{Ptr, place_of, greatest_isize}
use Rattle.bitvec_ptr.proofs.PlaceLemmas.{floor_place}
use Rattle.bitvec_ptr.proofs.PlaceOrder.{bit_below}
use Rattle.bitvec_span.specs.BitSpan.{span_of}
use Rattle.bitvec_span.proofs.PointerLemmas.{quotient_up, in-place_of}
use Rattle.bitvec_span.proofs.ptr.span.BitSpan.to_bitptr.Goals as goal

pub returns-clause-steps : goal.returns-clause-steps
returns-clause-steps g c =
    let width = g.R.BitRegister.BITS in
    let span = c.args.self in
    let some : 0 < width = omega (arith, g.met.R.BitRegister.width_at_least_8) in
    let ends : (span.word +ℤ pos ((span.head + span.len) / width)) ≤ℤ greatest_isize = rw (floor_place width span.word span.head span.len some) at span.low in
    let pointer : ptr_of c.new.result ≡ record { word = span.word; bit = span.head } = search rules in
    let word : c.new.result.word ≡ span.word = ap (λ (p : Ptr). p.word) pointer in
    let bit : c.new.result.bit ≡ span.head = ap (λ (p : Ptr). p.bit) pointer in
    λ index most.
    let up = quotient_up (span.head + index) (span.head + span.len) width some (omega (arith, most)) in
    rw (word, bit) (omega (arith, ints, span.short, span.in_word, g.met.R.BitRegister.width_at_most_128, most), omega (arith, ints, ends, up))

pub returns-clause-inside : goal.returns-clause-inside
returns-clause-inside g c =
    let width = g.R.BitRegister.BITS in
    let span = c.args.self in
    let eight = g.met.R.BitRegister.width_at_least_8 in
    let pointer : ptr_of c.new.result ≡ record { word = span.word; bit = span.head } = search rules in
    λ index words bit word place below small fits.
    in-place_of width (span_of span) words (bit_below width span.head eight span.in_word) fits (record { word = word; bit = bit }) index (bit_below width bit eight small) below (place ∙ ap (λ (p : Ptr). place_of width p +ℤ pos index) pointer)
