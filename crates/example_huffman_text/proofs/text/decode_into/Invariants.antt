use Rattle.std.proofs.Common.{◌≡◌}
use Rattle.bitvec_stream.specs.Reader.{source, bits_read, unread}
use Rattle.example_huffman.specs.Huffman.{lengths_of}
use Rattle.example_huffman_text.proofs.TextLemmas.{AreRead}
use Rattle.example_huffman_text.proofs.text.decode_into.Given as goal

-- the symbols so far were read, and the reader stands behind them
abbrev pub invariant-loop-place : goal.invariant-loop-place
invariant-loop-place g l =
    AreRead (lengths_of l.code) l.fn.out l.out l.place (unread l.fn.reader) (unread l.reader) (bits_read l.fn.reader) (bits_read l.reader)
    × (source l.reader ≡ source l.fn.reader)
