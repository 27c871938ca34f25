use Rattle.std.proofs.Common.{◌+ℤ◌, ◌≤ℤ◌, pos, arith}
use Rattle.std.proofs.lemmas.Int.{ints}
use Rattle.bitvec_ptr.specs.Place.{place_of}
use Rattle.bitvec_ptr.specs.BitPtr.{ptr_of}
use Rattle.bitvec_ptr.specs.BitPtrRange.{range_of}
use Rattle.bitvec_ptr.proofs.PlaceOrder.{bit_below, word_inside}
use Rattle.bitvec_ptr.proofs.RangeLemmas.{count_gap}
use Rattle.bitvec_ptr.proofs.ptr.range.BitPtrRange.nth.Goals as goal

pub forward-found-requires-clause-inside : goal.forward-found-requires-clause-inside
forward-found-requires-clause-inside g c =
    let width = g.R.BitRegister.BITS in
    let eight = g.met.R.BitRegister.width_at_least_8 in
    let start = c.args.self.now.start in
    let end = c.args.self.now.end in
    let apart = count_gap width (range_of c.args.self.now) c.args.self.now.ordered in
    let inside : (place_of width (ptr_of start) +ℤ pos c.args.n) ≤ℤ place_of width (ptr_of end) = omega (arith, ints, apart, c.left.ensures.value, c.if-n-left.false) in
    let words = word_inside width c.args.n (ptr_of start) (ptr_of end) (omega (arith, eight)) (bit_below width end.bit eight end.in_word) inside in
    omega (arith, ints, words, c.left.ensures.word)

pub forward-self-requires-clause-inside : goal.forward-self-requires-clause-inside
forward-self-requires-clause-inside g c =
    let width = g.R.BitRegister.BITS in
    let eight = g.met.R.BitRegister.width_at_least_8 in
    let end = c.args.self.now.end in
    let apart = count_gap width (range_of c.args.self.now) c.args.self.now.ordered in
    let inside : (place_of width (ptr_of c.forward-found.result) +ℤ pos 1) ≤ℤ place_of width (ptr_of end) = omega (arith, ints, apart, c.left.ensures.value, c.if-n-left.false, c.forward-found.ensures) in
    let words = word_inside width 1 (ptr_of c.forward-found.result) (ptr_of end) (omega (arith, eight)) (bit_below width end.bit eight end.in_word) inside in
    omega (arith, ints, words, c.left.ensures.word)

pub invariant_of-self-2 : goal.invariant_of-self-2
invariant_of-self-2 g c =
    let apart = count_gap g.R.BitRegister.BITS (range_of c.args.self.now) c.args.self.now.ordered in
    record {
      ordered = omega (arith, ints, apart, c.left.ensures.value, c.if-n-left.false, c.forward-found.ensures, c.forward-self.ensures);
      near = omega (arith, ints, apart, c.args.self.now.near, c.forward-found.ensures, c.forward-self.ensures);
    }
