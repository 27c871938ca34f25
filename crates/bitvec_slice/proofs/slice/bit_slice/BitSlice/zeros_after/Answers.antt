use Rattle.std.proofs.Common.{map, arith}
use Rattle.bitvec_slice.specs.BitSlice.{slice_memory, slice_bits}
use Rattle.bitvec_slice.proofs.PatternLemmas.{run_behind, none_behind}
use Rattle.bitvec_slice.proofs.slice.bit_slice.BitSlice.zeros_after.Goals as goal

pub returns-in-Some : goal.returns-in-Some
returns-in-Some g c =
    let slice = c.args.self.now in
    let long = slice.many (map g.R.BitRegister.number (slice_memory slice)) in
    run_behind (slice_bits slice) (slice_bits c.split_at.result.1) c.args.from c.args.count (omega (arith, c.requires, long)) c.split_at.ensures.back c.in-Some.i c.in-Some.ensures

pub returns-in-None : goal.returns-in-None
returns-in-None g c =
    let slice = c.args.self.now in
    let long = slice.many (map g.R.BitRegister.number (slice_memory slice)) in
    none_behind (slice_bits slice) (slice_bits c.split_at.result.1) c.args.from c.args.count (omega (arith, c.requires, long)) c.split_at.ensures.back c.in-None.ensures
