use Rattle.std.proofs.Common.{replicate}
use Rattle.std.specs.Prelude.{not}
use Rattle.bitvec_stream.proofs.WriterLemmas.{writes-both}
use Rattle.bitvec_stream.proofs.writer.BitWriter.write_unary.Goals as goal

pub returns-clause-written : goal.returns-clause-written
returns-clause-written g c =
    writes-both c.args.self.now c.fill.new.self c.fill-2.new.self (replicate c.args.count c.args.bit) (replicate 1 (not c.args.bit)) c.fill.ensures c.fill-2.ensures
