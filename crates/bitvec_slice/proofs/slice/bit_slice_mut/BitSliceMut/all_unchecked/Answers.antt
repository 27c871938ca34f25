use Rattle.std.proofs.Common.{◌≡◌, IfOk, map, length, subst, ap, ◌∙◌, ◌*◌}
use Rattle.std.proofs.lemmas.List.{length-map}
use Rattle.bitvec.specs.BitSpan.{span_of}
use Rattle.bitvec.specs.Memory.{memory_bits}
use Rattle.bitvec.specs.Span.{front_span}
use Rattle.bitvec_slice.specs.BitSliceMut.{lent_memory, lent_span}
use Rattle.bitvec_slice.proofs.SlicePartLemmas.{list_of_whole}
use Rattle.bitvec_slice.proofs.slice.bit_slice_mut.BitSliceMut.all_unchecked.Goals as goal

pub returns-clause-span : goal.returns-clause-span
returns-clause-span g c = c.new_unchecked.ensures.span ∙ subst (λ o. IfOk o (λ span. span_of span ≡ front_span (length c.args.memory.now * g.R.BitRegister.BITS))) c.unwrap-span.ensures c.span_of_all.ensures.span

pub returns-clause-whole : goal.returns-clause-whole
returns-clause-whole g c = λ words. list_of_whole g.R.BitRegister.BITS g.O.BitAt.at_of (lent_span c.new_unchecked.result) words (length c.args.memory.now) (returns-clause-span g c)

pub returns-clause-bits : goal.returns-clause-bits
returns-clause-bits g c =
    let width = g.R.BitRegister.BITS in
    let at = g.O.BitAt.at_of in
    let number = g.R.BitRegister.number in
    let slice = c.new_unchecked.result in
    let words = (lent_memory slice).now in
    let same = c.new_unchecked.ensures.memory in
    list_of_whole width at (lent_span slice) (map number words) (length c.args.memory.now) (returns-clause-span g c) (length-map words number ∙ ap length same)
    ∙ ap (λ ws. memory_bits width at (map number ws)) same
