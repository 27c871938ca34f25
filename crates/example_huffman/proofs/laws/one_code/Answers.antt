use Rattle.example_huffman.proofs.laws.one_code.Goals as goal
use Rattle.example_huffman.proofs.CodeLemmas as codes

pub returns-clause-one : goal.returns-clause-one
returns-clause-one c = codes.one_symbol

pub returns-clause-some : goal.returns-clause-some
returns-clause-some c = codes.some_symbol
