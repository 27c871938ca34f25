use Rattle.std.proofs.Common.{◌≤◌, length, take, drop}
use Rattle.bitvec_stream.specs.Writer.{room, Writes}
use Rattle.example_huffman.specs.Huffman.{lengths_of}
use Rattle.example_huffman_text.specs.Text.{encoded_bits}
use Rattle.example_huffman_text.proofs.text.put_symbols.Given as goal

-- the symbols so far were written, and there is room for the others
abbrev pub invariant-loop-place : goal.invariant-loop-place
invariant-loop-place g l =
    Writes l.fn.writer l.writer (encoded_bits (lengths_of l.code) (take l.place l.symbols))
    × (length (encoded_bits (lengths_of l.code) (drop l.place l.symbols)) ≤ length (room l.writer))
