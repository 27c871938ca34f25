use Rattle.std.proofs.Common.{arith}
use Rattle.example_tcp.proofs.HeaderLemmas.{writes-four}
use Rattle.example_tcp.proofs.header.Header.put_control.Goals as goal

pub returns-clause-written : goal.returns-clause-written
returns-clause-written g c =
    writes-four c.args.writer.now c.put.new.writer c.put-2.new.writer c.put-3.new.writer
    c.put-4.new.writer _ _ _ _ c.put.ensures.written c.put-2.ensures.written
    c.put-3.ensures.written c.put-4.ensures.written

pub put-requires-4-clause-digits : goal.put-requires-4-clause-digits
put-requires-4-clause-digits g c = omega arith
