use Rattle.std.proofs.Common.{◌+◌, ◌-◌, ◌*◌, ap, ◌∙◌}
use Rattle.bitvec_slice.proofs.WordListLemmas.{chosen_none, chosen_last}
use Rattle.bitvec_slice.proofs.slice.bit_slice.BitSlice.last_in_word.Goals as goal

pub returns-in-Some : goal.returns-in-Some
returns-in-Some g c =
    let k = c.args.k in
    let index = c.in-Some.index in
    chosen_last c.chosen-word.ensures index _ c.in-Some.ensures
    (ap (λ b. k * b + c.from.result - c.head.result) c.bits_of.ensures.value
    ∙ ap (λ n. k * g.R.BitRegister.BITS + n - c.head.result) c.from.ensures
    ∙ ap (λ h. k * g.R.BitRegister.BITS + index - h) c.head.ensures)

pub returns-in-None : goal.returns-in-None
returns-in-None g c = chosen_none c.chosen-word.ensures c.in-None.ensures
