use Rattle.std.proofs.Common.{ap, ◌∷◌, ◌∙◌}
use Rattle.freemap.specs.Map.{map_words, map_loan}
use Rattle.freemap.proofs.LoanLemmas.{same_loan}
use Rattle.freemap.proofs.leveled.StackedLevelLevel.set_mark.Goals as goal

pub returns-clause-lent : goal.returns-clause-lent
returns-clause-lent g c =
    let old = c.args.self.now.map in
    let new = c.mark_one.new.self in
    let edit = c.mark_one.ensures.becomes in
    ap (λ loan. loan ∷ g.S.Level.loans new.full) (same_loan (λ i. i) _ _ (map_words old.blocks) (map_words new.blocks) edit.loan edit.many edit.words.others edit.words.words)
    ∙ ap (λ loans. map_loan old.blocks ∷ loans) c.mark_one.ensures.lent
