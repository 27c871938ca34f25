use Rattle.std.proofs.Common.{◌+◌, arith}
use Rattle.example_huffman.specs.Huffman.{lengths_of}
use Rattle.example_huffman_text.proofs.TextLemmas.{text_part, long_more}
use Rattle.example_huffman_text.proofs.text.fits.Goals as goal

pub returns-then-left-len : goal.returns-then-left-len
returns-then-left-len c =
    let symbols = c.args.symbols.now in
    let place = c.loop-place.place in
    let more = long_more (lengths_of c.args.code.now) symbols place c.loop-place-test.true in
    let part = text_part (lengths_of c.args.code.now) symbols (place + 1) in
    (λ h. cc, λ h. absurd (omega (arith, h, more, part)))
