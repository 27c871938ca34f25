use Rattle.std.proofs.Common.{◌≡◌, ◌+◌, ◌-◌, refl, arith}
use Rattle.bitvec_slice.specs.BitSlice.{slice_bits}
use Rattle.bitvec_stream.proofs.KeepLemmas.{keeps_at}
use Rattle.bitvec_stream.proofs.reader.BitReader.pass_kept.Goals as goal

pub invariant_of-self-clause-shown : goal.invariant_of-self-clause-shown
invariant_of-self-clause-shown g c =
    let it = c.args.self.now in
    let xs = slice_bits it.slice in
    let place : it.loaded - it.kept + c.args.count ≡ it.loaded - (it.kept - c.args.count) = omega (arith, c.requires.kept, it.behind) in
    keeps_at g.R.BitRegister.BITS g.O.BitAt.at_of xs _ _ _ _ (g.R.BitRegister.number c.passed.result) place refl
    (c.passed.ensures xs (it.loaded - it.kept) it.kept it.shown c.requires.kept (omega (arith, it.few)))
