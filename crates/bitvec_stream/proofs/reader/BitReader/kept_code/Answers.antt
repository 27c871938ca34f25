use Rattle.std.proofs.Common.{◌+◌, ◌-◌, ◌≤◌, length, arith}
use Rattle.bitvec_slice.specs.BitSlice.{slice_bits}
use Rattle.bitvec_stream.proofs.KeepLemmas.{window_of, some_then}
use Rattle.bitvec_stream.proofs.reader.BitReader.kept_code.Goals as goal

pub returns-in-Falls : goal.returns-in-Falls
returns-in-Falls g c =
    let it = c.args.self.now in
    let xs = slice_bits it.slice in
    let place = it.loaded - it.kept in
    let many = it.slice.many in
    let falls = c.direction_of.ensures.falls.0 c.in-Falls.is in
    let window = window_of g.R.BitRegister.BITS g.O.BitAt.at_of xs place it.kept (g.R.BitRegister.number it.window) falls (omega (arith, it.few)) it.shown in
    let long : place + it.kept ≤ length xs = omega (arith, it.within, it.behind, many) in
    some_then _ _ c.code_in.result (λ found h. (falls, h.0, h.1 xs place window long)) c.code_in.ensures
