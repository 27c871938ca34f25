use Rattle.std.proofs.Common.{◌+◌, ◌*◌, map, nat_abs, ◌∙◌}
use Rattle.bitvec_ptr.specs.Memory.{memory_bits}
use Rattle.bitvec_ptr.proofs.CombineLemmas.{combined_is_copied, met_fits}
use Rattle.bitvec_ptr.proofs.ptr.single.BitPtr.copy_within_through.Goals as goal

pub returns-clause-bits : goal.returns-clause-bits
returns-clause-bits g c =
    let R = g.R.BitRegister in
    let at = g.O.BitAt.at_of in
    let words = c.args.writer.now.words.now in
    let from = c.args.self in
    let dest = c.args.dest in
    let count = c.args.count in
    let some = g.met.R.BitRegister.width_at_least_8 in
    let bits = memory_bits R.BITS at (map R.number words) in
    c.combine_within_through.ensures.bits
    ∙ combined_is_copied bits (nat_abs from.word * R.BITS + from.bit) bits (nat_abs dest.word * R.BITS + dest.bit) count
    (met_fits R.BITS at R.number words (nat_abs dest.word) dest.bit count some c.requires.to_in.1)
    (met_fits R.BITS at R.number words (nat_abs from.word) from.bit count some c.requires.from_in.1)
