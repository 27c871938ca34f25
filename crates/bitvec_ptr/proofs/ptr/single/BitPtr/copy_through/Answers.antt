use Rattle.std.proofs.Common.{◌+◌, ◌*◌, map, nat_abs, ◌∙◌}
use Rattle.bitvec_ptr.specs.Memory.{memory_bits}
use Rattle.bitvec_ptr.proofs.CombineLemmas.{combined_is_copied, met_fits}
use Rattle.bitvec_ptr.proofs.ptr.single.BitPtr.copy_through.Goals as goal

pub returns-clause-bits : goal.returns-clause-bits
returns-clause-bits g c =
    let R = g.R.BitRegister in
    let R2 = g.R2.BitRegister in
    let at = g.O.BitAt.at_of in
    let at2 = g.O2.BitAt.at_of in
    let from = c.args.self in
    let dest = c.args.dest in
    let source = c.args.memory.now in
    let target = c.args.writer.now.words.now in
    let count = c.args.count in
    c.combine_through.ensures.bits
    ∙ combined_is_copied (memory_bits R.BITS at (map R.number source)) (nat_abs from.word * R.BITS + from.bit)
    (memory_bits R2.BITS at2 (map R2.number target)) (nat_abs dest.word * R2.BITS + dest.bit) count
    (met_fits R2.BITS at2 R2.number target (nat_abs dest.word) dest.bit count g.met.R2.BitRegister.width_at_least_8 c.requires.to_in.1)
    (met_fits R.BITS at R.number source (nat_abs from.word) from.bit count g.met.R.BitRegister.width_at_least_8 c.requires.from_in.1)
