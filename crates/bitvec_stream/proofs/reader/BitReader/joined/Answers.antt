use Rattle.std.proofs.Common.{◌≡◌, ◌+◌, ◌-◌, arith, refl}
use Rattle.bitvec_slice.specs.BitSlice.{slice_bits}
use Rattle.bitvec_stream.proofs.KeepLemmas.{keeps_at}
use Rattle.bitvec_stream.proofs.reader.BitReader.joined.Goals as goal

pub returns : goal.returns
returns g c =
    let it = c.args.self.now in
    let xs = slice_bits it.slice in
    let bits = g.R.BitRegister.BITS in
    let next : it.loaded ≡ it.loaded - it.kept + it.kept = omega (arith, it.behind) in
    c.filled_up.ensures xs (it.loaded - it.kept) it.shown (keeps_at bits g.O.BitAt.at_of xs _ _ bits bits (g.R.BitRegister.number c.args.chunk) next refl c.requires.chunk)
