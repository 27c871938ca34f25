use Rattle.std.proofs.Common.{◌+◌, rules}
use Rattle.bitvec.specs.BitSpan.{span_of}
use Rattle.bitvec_slice.proofs.LentLemmas.{lent_edit}
use Rattle.bitvec_slice.specs.BitSlice.{slice_bits, slice_len}
use Rattle.bitvec_slice.specs.Ranges.{with_range}
use Rattle.bitvec_stream.proofs.writer.memory.copy_bits.Goals as goal

pub returns : goal.returns
returns g c =
    let source = c.args.source in
    lent_edit c.new_unchecked-slice.result c.copy_from_range.new.self (span_of c.args.span) c.args.memory.now _ (λ us. with_range us c.args.at (c.args.at + slice_len source) (slice_bits source)) c.new_unchecked-slice.ensures.span c.new_unchecked-slice.ensures.memory (search rules) c.copy_from_range.ensures.bits
