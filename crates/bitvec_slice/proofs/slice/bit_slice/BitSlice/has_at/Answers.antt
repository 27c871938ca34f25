use Rattle.std.proofs.Common.{map, arith}
use Rattle.bitvec_slice.specs.BitSlice.{slice_memory, slice_bits}
use Rattle.bitvec_slice.proofs.PatternLemmas.{part_has}
use Rattle.bitvec_slice.proofs.slice.bit_slice.BitSlice.has_at.Goals as goal

pub returns : goal.returns
returns g c =
    let slice = c.args.self.now in
    let pattern = c.args.pattern.now in
    let long = slice.many (map g.R.BitRegister.number (slice_memory slice)) in
    let many = pattern.many (map g.R2.BitRegister.number (slice_memory pattern)) in
    let has = part_has (slice_bits slice) (slice_bits pattern) (slice_bits c.split_at.result.1) (slice_bits c.split_at-2.result.0) c.args.i c.len.result c.len.ensures.list (omega (arith, c.requires, long, many)) c.split_at.ensures.back c.split_at-2.ensures.front in
    (λ yes. has.0 (c.equals.ensures.list.0 yes), λ here. c.equals.ensures.list.1 (has.1 here))
