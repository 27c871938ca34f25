use Rattle.std.proofs.Common.{append_assoc}
use Rattle.std.proofs.lemmas.List.{append-nil}
use Rattle.bitvec_stream.proofs.WriterLemmas.{writes-as}
use Rattle.example_tcp.specs.Header.{header_bits}
use Rattle.example_tcp.proofs.HeaderLemmas.{writes-four}
use Rattle.example_tcp.proofs.header.Header.write.Goals as goal

pub returns-clause-written : goal.returns-clause-written
returns-clause-written g c =
    let wrote = writes-four c.args.writer.now c.put_ports.new.writer c.put_bytes.new.writer
    c.put_control.new.writer c.put_sum.new.writer _ _ _ _ c.put_ports.ensures.written
    c.put_bytes.ensures.written c.put_control.ensures.written c.put_sum.ensures.written in
    writes-as c.args.writer.now c.put_sum.new.writer _ (header_bits c.args.self)
    (simp (append_assoc, append-nil)) wrote
