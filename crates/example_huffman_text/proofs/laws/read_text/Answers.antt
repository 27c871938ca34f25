use Rattle.std.proofs.Common.{◌∙◌, arith}
use Rattle.example_huffman.specs.Huffman.{lengths_of}
use Rattle.example_huffman_text.proofs.TextLemmas.{read_back}
use Rattle.example_huffman_text.proofs.laws.read_text.Goals as goal

pub returns-clause-value : goal.returns-clause-value
returns-clause-value g c = λ symbols text enough.
    let code = c.args.code.now in
    let read = c.decode_into.ensures in
    let is = c.new-reader.ensures.rest ∙ text.1 in
    read_back (lengths_of code) symbols c.decode_into.new.out _ _ _ _ code.complete text.0
    read.codes (omega arith) read.few enough read.ended is read.bits
