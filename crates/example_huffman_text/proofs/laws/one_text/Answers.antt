use Rattle.example_huffman_text.proofs.laws.one_text.Goals as goal
use Rattle.example_huffman_text.proofs.TextLemmas as texts

pub returns : goal.returns
returns c = texts.one_text
