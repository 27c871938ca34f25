use Rattle.std.proofs.Common.{◌≡◌, ◌+◌, length, take}
use Rattle.example_huffman.specs.Huffman.{lengths_of}
use Rattle.example_huffman_text.specs.Text.{encoded_bits}
use Rattle.example_huffman_text.proofs.text.fits.Given as goal

-- what is left of the room behind the symbols so far
abbrev pub invariant-loop-place : goal.invariant-loop-place
invariant-loop-place l = l.left + length (encoded_bits (lengths_of l.code) (take l.place l.symbols)) ≡ l.room
