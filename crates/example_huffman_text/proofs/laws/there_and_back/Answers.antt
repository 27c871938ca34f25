use Rattle.std.proofs.Common.{refl, sym}
use Rattle.bitvec_stream.specs.Writer.{written}
use Rattle.example_huffman_text.proofs.laws.there_and_back.Goals as goal

pub returns-clause-value : goal.returns-clause-value
returns-clause-value g c =
    let encode = c.in_ok-encode.ensures in
    let since = c.written_from.ensures.since (written c.args.writer.now) _ in
    let bits = since (sym c.position-before.ensures.list) encode.written.0 in
    c.read_text.ensures.value c.args.symbols.now ((encode.accepted.0 refl).0, bits) c.requires
