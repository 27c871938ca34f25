use Rattle.std.proofs.Common.{◌≡◌, ◌+◌, ◌/◌, ◌∙◌, length, sym, ap}
use Rattle.std.proofs.lemmas.List.{length-replicate}
use Rattle.freemap.specs.Blocks.{word_count}
use Rattle.freemap.specs.Map.{in_use}
use Rattle.freemap.proofs.LoanLemmas.{two_behind}
use Rattle.freemap.proofs.stack.two_levels.Goals as goal

pub over-requires : goal.over-requires
over-requires g c =
    let top = c.new_unchecked-top.ensures.unmarked in
    let marks = c.new_unchecked-marks.ensures.unmarked in
    ap length top ∙ length-replicate c.words_for-groups.result _ ∙ c.words_for-groups.ensures ∙ ap word_count (sym (ap length marks ∙ length-replicate c.words_for-words.result _))

pub over-requires-2 : goal.over-requires-2
over-requires-2 g c =
    let marks = c.new_unchecked-marks.ensures.unmarked in
    ap length c.over.ensures.marks ∙ ap length marks ∙ length-replicate c.words_for-words.result _ ∙ c.words_for-words.ensures ∙ ap word_count c.blocks-2.ensures.count

pub returns-clause-behind : goal.returns-clause-behind
returns-clause-behind g c =
    let top = c.new_unchecked-top.ensures.lent in
    let marks = c.new_unchecked-marks.ensures.lent in
    let parts = c.split_at_mut-low.ensures in
    let low = c.split_at_mut-low.result in
    two_behind (λ i. i) _ _ _ low.0 low.1 _ _ _ _ (c.over-2.ensures.lent ∙ c.over.ensures.lent) marks top c.words_for-groups.ensures (c.words_for-words.ensures ∙ ap word_count c.blocks-2.ensures.count) parts.front parts.back
