use Rattle.std.proofs.Common.{◌<◌, ◌≤◌, ℕ, length, get_or}
use Rattle.bitvec_stream.specs.Reader.{unread}
use Rattle.example_huffman.specs.Huffman.{lengths_of}
use Rattle.example_huffman_text.specs.Text.{BeginsWithSymbol}
use Rattle.example_huffman_text.proofs.symbol.symbol_before.Given as goal

-- so many bits are left, and a code that they begin with is longer
abbrev pub invariant-loop-shorter : goal.invariant-loop-shorter
invariant-loop-shorter g l =
    (l.shorter ≤ length (unread l.reader))
    × ((s : ℕ) → BeginsWithSymbol (lengths_of l.code) (unread l.reader) s → l.shorter < get_or (lengths_of l.code) s 0)
