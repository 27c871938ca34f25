use Rattle.std.proofs.Common.{◌≡◌, ◌+◌, ◌-◌, ◌≤◌, arith}
use Rattle.bitvec_slice.specs.BitSlice.{slice_bits}
use Rattle.bitvec_stream.proofs.KeepLemmas.{keeps_at}
use Rattle.bitvec_stream.proofs.reader.BitReader.pass_into.Goals as goal

pub invariant_of-self-clause-shown : goal.invariant_of-self-clause-shown
invariant_of-self-clause-shown g c =
    let it = c.args.self.now in
    let bits = g.R.BitRegister.BITS in
    let xs = slice_bits it.slice in
    let width = c.bits_of-width.result in
    let n = c.args.count - it.kept in
    let whole : width ≡ bits = c.bits_of-width.ensures.value in
    let more = c.requires.more in
    let most : n ≤ bits = omega (arith, c.requires.most) in
    let first = c.passed.ensures xs it.loaded bits c.requires.chunk (omega (arith, most)) (omega arith) in
    let second = c.passed-2.ensures xs (it.loaded + (n - 1)) (bits - (n - 1)) first (omega (arith, more, most)) (omega arith) in
    keeps_at bits g.O.BitAt.at_of xs _ _ _ _ (g.R.BitRegister.number c.passed-2.result) (omega (arith, whole, more, most)) (omega (arith, whole, more, most)) second
