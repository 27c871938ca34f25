use Rattle.std.proofs.Common.{rules}
use Rattle.std.proofs.Output.{has_written_styled_append}
use Rattle.bitvec_mem.proofs.StyledWrites.{WritesOnOk-from_styled}
use Rattle.bitvec_span.proofs.ptr.span.error.BitSpanErrorDebug.fmt.Goals as goal

pub returns-clause-styled : goal.returns-clause-styled
returns-clause-styled g c = λ flush ok.
    let name = c.in_ok-write_error_name.ensures flush (search rules) in
    let end = c.write_case.ensures name.flush ok in
    has_written_styled_append _ _ _ _ _ _ name end

pub returns-clause-writes : goal.returns-clause-writes
returns-clause-writes g c = WritesOnOk-from_styled _ _ _ _ _ (returns-clause-styled g c)
