use Rattle.std.proofs.Common.{◌+◌, ◌/◌, ap, sym, subst, ◌∙◌}
use Rattle.bitvec.specs.Digit.{digit, exclusive_or}
use Rattle.bitvec_slice.proofs.WordTurns.{IsTurnedTo, halves, turned_none, turned_more, turned_all}
use Rattle.bitvec_slice.proofs.slice.turn.turned.Goals as goal

pub loop-width-init : goal.loop-width-init
loop-width-init g c =
    let bits = g.R.BitRegister.BITS in
    let number = g.R.BitRegister.number in
    let laws = g.met.R.BitRegister in
    let word = number c.args.word in
    let mask = number c.ALL-mask.result in
    subst (λ w. IsTurnedTo bits w word mask word) (sym c.BITS-width.ensures)
    (turned_none bits g.R.BitRegister.INDX word mask laws.width_is_power_of_two (ap number c.ALL-mask.ensures ∙ laws.all_is_greatest))

pub loop-width-preserved : goal.loop-width-preserved
loop-width-preserved g c =
    let number = g.R.BitRegister.number in
    let before = c.loop-width.invariant in
    let width = c.loop-width.width in
    let mask = number c.loop-width.mask in
    let half = halves width before.exponent before.power c.loop-width-test.true in
    turned_more g.R.BitRegister.BITS width (width / 2) (number c.args.word) mask (number c.loop-width.value)
    (number c.xor-mask.result) (number c.exchanged-value.result) half.0 (half.1, half.2) before (record {
      low = λ p below inside. c.xor-mask.ensures.digits p inside ∙ ap (exclusive_or (digit mask p)) (c.shl.ensures.low p below);
      high = λ p inside. c.xor-mask.ensures.digits (width / 2 + p) inside ∙ ap (exclusive_or (digit mask (width / 2 + p))) (c.shl.ensures.moved p inside);
      from_above = c.exchanged-value.ensures.above;
      from_below = c.exchanged-value.ensures.below;
    })

pub returns : goal.returns
returns g c =
    let number = g.R.BitRegister.number in
    turned_all g.R.BitRegister.BITS c.loop-width.width (number c.args.word) (number c.loop-width.mask) (number c.loop-width.value)
    c.loop-width-test.false c.loop-width.invariant
