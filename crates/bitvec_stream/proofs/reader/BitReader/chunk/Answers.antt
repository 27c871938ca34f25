use Rattle.std.proofs.Common.{◌≡◌, ◌+◌, ◌*◌, ◌/◌, ◌≤◌, length, ap, arith}
use Rattle.std.proofs.lemmas.Nat.{div-add-mod'}
use Rattle.bitvec_slice.specs.BitSlice.{slice_len, slice_span, slice_bits}
use Rattle.bitvec_stream.proofs.KeepLemmas.{keeps_word}
use Rattle.bitvec_stream.proofs.reader.BitReader.chunk.Goals as goal

pub returns : goal.returns
returns g c =
    let it = c.args.self.now in
    let bits = g.R.BitRegister.BITS in
    let width = c.bits_of-width.result in
    let whole = c.bits_of-width.ensures.value in
    let place = (slice_span it.slice).head + it.loaded in
    let room : it.loaded + bits ≤ slice_len it.slice = omega (arith, c.if-len-self.false, c.len.ensures.value, whole, it.within) in
    let inside : it.loaded + bits ≤ length (slice_bits it.slice) = omega (arith, room, c.len.ensures.value, c.len.ensures.list) in
    let k = (c.head.result + it.loaded) / width in
    let parts = div-add-mod' (c.head.result + it.loaded) width in
    let row : k * width ≡ k * bits = ap (λ n. k * n) whole in
    let starts : place ≡ k * bits = omega (arith, parts, row, c.if-place-width-ne0.false, c.head.ensures) in (
      room,
      keeps_word bits g.O.BitAt.at_of (slice_span it.slice).head (slice_bits it.slice) it.loaded k (g.R.BitRegister.number c.whole_word.result) starts inside
          (λ j h same. c.whole_word.ensures j (omega (arith, h, c.len.ensures.value, c.len.ensures.list)) same),
    )
