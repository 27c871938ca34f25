use Rattle.std.proofs.Common.{◌+◌, ◌-◌, ◌≤◌, length, arith, length-drop}
use Rattle.bitvec_slice.specs.BitSlice.{slice_bits}
use Rattle.bitvec_stream.proofs.reader.BitReader.read_near.Goals as goal

pub returns-then-count-self : goal.returns-then-count-self
returns-then-count-self g c =
    let it = c.args.self.now in
    let xs = slice_bits it.slice in
    let place = it.loaded - it.kept in
    let many = it.slice.many in
    let inside : place + it.kept ≤ length xs = omega (arith, it.within, it.behind, many) in
    let left = length-drop place xs in
    (omega (arith, inside, left, c.if-count-self.true), c.first_number-value.ensures xs place it.kept it.shown c.if-count-self.true (omega (arith, it.few)) inside, c.pass_kept.ensures)

pub returns : goal.returns
returns g c =
    let it = c.args.self.now in
    let bits = g.R.BitRegister.BITS in
    let xs = slice_bits it.slice in
    let place = it.loaded - it.kept in
    let many = it.slice.many in
    let there = c.in_ok-chunk.ensures.0 in
    let few : c.args.count ≤ bits = omega (arith, c.if-bits_of-count.false, c.bits_of.ensures.value) in
    let inside : place + bits ≤ length xs = omega (arith, there, many) in
    let left = length-drop place xs in
    (omega (arith, inside, few, left), c.first_number-value-2.ensures xs place bits c.joined.ensures few (omega arith) inside, c.pass_into.ensures)
