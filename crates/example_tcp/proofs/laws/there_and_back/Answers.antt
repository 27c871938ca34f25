use Rattle.std.proofs.Common.{refl, sym, ◌∙◌, rules}
use Rattle.bitvec_stream.specs.Reader.{unread}
use Rattle.bitvec_stream.specs.Writer.{written}
use Rattle.example_tcp.proofs.HeaderLemmas.{header_back}
use Rattle.example_tcp.proofs.laws.there_and_back.Goals as goal

pub returns-clause-value : goal.returns-clause-value
returns-clause-value g c =
    let write = c.in_ok-write.ensures in
    let since = c.written_from.ensures.since (written c.args.writer.now) _ in
    let bits = since (sym c.position-before.ensures.list) write.written.0 in
    header_back c.args.header c.unwrap.result (unread c.new-reader.result)
    (unread c.read.new.reader) (write.accepted.0 refl).1 (search rules)
    (c.new-reader.ensures.rest ∙ bits) (search rules)
