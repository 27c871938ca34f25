use Rattle.std.proofs.Common.{◌≡◌, ℕ, ◌+◌, ◌-◌, ◌*◌, ◌%◌, ◌<◌, ◌∙◌, ap, arith}
use Rattle.std.proofs.lemmas.Nat.{mod-mul-add}
use Rattle.bitvec_stream.proofs.TurnedLemmas.{turned_up, turned_round}
use Rattle.bitvec_stream.proofs.writer.window.turned.Goals as goal

-- a number below another is its own rest
itself : (n m w : ℕ) → n < w → m ≡ w → n % m ≡ n
itself n m w below is =
    let whole : n ≡ 0 * m + n = omega arith in
    ap (λ k. k % m) whole ∙ mod-mul-add 0 m n (omega (arith, below, is))

pub returns-clause-up : goal.returns-clause-up
returns-clause-up g c =
    let number = g.R.BitRegister.number in
    let up = c.args.count % c.BITS.result in
    let down = (c.BITS-2.result - up) % c.BITS-3.result in
    turned_up g.R.BitRegister.BITS c.args.count up down (number c.args.word) (number c.shl.result) (number c.shr.result) (number c.or.result) c.requires (itself c.args.count c.BITS.result g.R.BitRegister.BITS c.requires c.BITS.ensures)
    (ap (λ n. (n - up) % c.BITS-3.result) c.BITS-2.ensures ∙ ap (λ n. (g.R.BitRegister.BITS - up) % n) c.BITS-3.ensures)
    c.shl.ensures.low c.shl.ensures.moved c.shr.ensures.moved c.shr.ensures.high c.or.ensures.digits

pub returns-clause-round : goal.returns-clause-round
returns-clause-round g c =
    let number = g.R.BitRegister.number in
    let up = c.args.count % c.BITS.result in
    let down = (c.BITS-2.result - up) % c.BITS-3.result in
    turned_round g.R.BitRegister.BITS c.args.count up down (number c.args.word) (number c.shl.result) (number c.shr.result) (number c.or.result) c.requires (itself c.args.count c.BITS.result g.R.BitRegister.BITS c.requires c.BITS.ensures)
    (ap (λ n. (n - up) % c.BITS-3.result) c.BITS-2.ensures ∙ ap (λ n. (g.R.BitRegister.BITS - up) % n) c.BITS-3.ensures)
    c.shl.ensures.low c.shl.ensures.moved c.shr.ensures.moved c.shr.ensures.high c.or.ensures.digits
