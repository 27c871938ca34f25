use Rattle.std.proofs.Common.{sym, ◌∙◌, arith, inl, inr}
use Rattle.std.proofs.lemmas.Bool.{cases_Bool}
use Rattle.bitvec_ptr.proofs.ptr.single.BitPtr.combine_within.Goals as goal

pub near_edge-edge-requires : goal.near_edge-edge-requires
near_edge-edge-requires g c = omega (arith, c.requires.to_in.1, c.at-to.ensures.word, c.elements.ensures)

pub standing_at-writer-requires : goal.standing_at-writer-requires
standing_at-writer-requires g c = omega (arith, c.near_edge-edge.ensures.most, c.requires.to_in.1, c.at-to.ensures.word, c.elements.ensures)

pub combine_within_through-requires-clause-rising : goal.combine_within_through-requires-clause-rising
combine_within_through-requires-clause-rising g c = λ _ r.
    let writer = c.standing_at-writer.ensures in
    writer.mark ∙ c.near_edge-edge.ensures.rising (sym writer.direction ∙ r) ∙ c.at-to.ensures.word

pub combine_within_through-requires-clause-falling : goal.combine_within_through-requires-clause-falling
combine_within_through-requires-clause-falling g c = λ _ r.
    let writer = c.standing_at-writer.ensures in
    let edge = c.near_edge-edge.ensures.falling (sym writer.direction ∙ r) in
    omega (arith, edge, writer.mark, c.at-to.ensures.word, c.elements.ensures)

pub combine_within_through-requires-clause-needs_rising : goal.combine_within_through-requires-clause-needs_rising
combine_within_through-requires-clause-needs_rising g c = λ _ down.
    c.standing_at-writer.ensures.direction
    ∙ elim (cases_Bool c.is_at_most-rising.result) [
      | inl e ↦ e
      | inr e ↦ (let past = c.is_at_most-rising.ensures.no e in absurd (omega (arith, past, down, c.at-to.ensures.place, c.at.ensures.place)))
    ]

pub combine_within_through-requires-clause-needs_falling : goal.combine_within_through-requires-clause-needs_falling
combine_within_through-requires-clause-needs_falling g c = λ _ up.
    c.standing_at-writer.ensures.direction
    ∙ elim (cases_Bool c.is_at_most-rising.result) [
      | inl e ↦ (let at_most = c.is_at_most-rising.ensures.yes e in absurd (omega (arith, at_most, up, c.at-to.ensures.place, c.at.ensures.place)))
      | inr e ↦ e
    ]
