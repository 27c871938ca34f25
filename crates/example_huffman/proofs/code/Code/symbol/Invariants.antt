use Rattle.std.proofs.Common.{◌≡◌, ◌≤◌, take}
use Rattle.example_huffman.specs.Codes.{codes_of}
use Rattle.example_huffman.specs.Huffman.{lengths_of}
use Rattle.example_huffman.proofs.code.Code.symbol.Given as goal

-- how many codes of this length were passed, and the one that is looked for was not
abbrev pub invariant-loop-symbol : goal.invariant-loop-symbol
invariant-loop-symbol l = (l.before ≡ codes_of (take l.symbol (lengths_of l.self)) l.len) × (l.before ≤ l.rank)
