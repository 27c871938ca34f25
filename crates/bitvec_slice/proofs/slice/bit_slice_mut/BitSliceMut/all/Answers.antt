use Rattle.std.proofs.Common.{map, length, ap, ◌∙◌}
use Rattle.std.proofs.lemmas.List.{length-map}
use Rattle.bitvec.specs.Memory.{memory_bits}
use Rattle.bitvec_slice.specs.BitSliceMut.{lent_memory, lent_span}
use Rattle.bitvec_slice.proofs.SlicePartLemmas.{list_of_whole}
use Rattle.bitvec_slice.proofs.slice.bit_slice_mut.BitSliceMut.all.Goals as goal

pub returns-in-Ok-clause-whole : goal.returns-in-Ok-clause-whole
returns-in-Ok-clause-whole g c = λ words. list_of_whole g.R.BitRegister.BITS g.O.BitAt.at_of (lent_span c.new_unchecked.result) words (length c.args.memory.now) (c.new_unchecked.ensures.span ∙ c.in-Ok.ensures.span)

pub returns-in-Ok-clause-bits : goal.returns-in-Ok-clause-bits
returns-in-Ok-clause-bits g c =
    let width = g.R.BitRegister.BITS in
    let at = g.O.BitAt.at_of in
    let number = g.R.BitRegister.number in
    let slice = c.new_unchecked.result in
    let words = (lent_memory slice).now in
    let same = c.new_unchecked.ensures.memory in
    list_of_whole width at (lent_span slice) (map number words) (length c.args.memory.now) (c.new_unchecked.ensures.span ∙ c.in-Ok.ensures.span) (length-map words number ∙ ap length same)
    ∙ ap (λ ws. memory_bits width at (map number ws)) same
