use Rattle.bitvec_stream.proofs.WriterLemmas.{writes-both}
use Rattle.example_tcp.proofs.header.Header.put_ports.Goals as goal

pub returns-clause-written : goal.returns-clause-written
returns-clause-written g c =
    writes-both c.args.writer.now c.put.new.writer c.put-2.new.writer
    _ _ c.put.ensures.written c.put-2.ensures.written
