use Rattle.std.proofs.Common.{◌≡◌, ◌+◌, ◌*◌, ap, arith}
use Rattle.bitvec_slice.proofs.ListCountLemmas.{met_small}
use Rattle.bitvec_slice.proofs.slice.bit_slice.BitSlice.first_later.Goals as goal

-- the word behind begins at most a word past the slice's end
pub overflow_mul-word : goal.overflow_mul-word
overflow_mul-word g c =
    let bits = g.R.BitRegister.BITS in
    let span = c.args.self.now.span in
    let small = met_small bits span.head span.len c.args.word
    (omega (arith, g.met.R.BitRegister.width_at_least_8)) c.requires.met in
    let row : (c.args.word + 1) * c.bits_of-width.result ≡ (c.args.word + 1) * bits =
    ap (λ b. (c.args.word + 1) * b) c.bits_of-width.ensures.value in
    omega (arith, small, row, span.in_word, span.short)

pub overflow_add-near : goal.overflow_add-near
overflow_add-near g c = omega (arith, c.min.ensures, c.min-end.ensures, c.ranges.upto)

pub first_behind-requires : goal.first_behind-requires
first_behind-requires g c = omega (arith, c.min.ensures, c.min-end.ensures, c.requires.inside)

pub returns-in-Some : goal.returns-in-Some
returns-in-Some g c =
    let first = c.in-Some.ensures in
    (first.0, omega (arith, first.1, c.min.ensures, c.min-end.ensures), first.2, first.3)
