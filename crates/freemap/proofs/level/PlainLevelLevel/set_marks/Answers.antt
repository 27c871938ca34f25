use Rattle.std.proofs.Common.{ap, ◌∷◌, []}
use Rattle.freemap.specs.Map.{map_words}
use Rattle.freemap.proofs.LoanLemmas.{same_loan}
use Rattle.freemap.proofs.level.PlainLevelLevel.set_marks.Goals as goal

pub returns-clause-lent : goal.returns-clause-lent
returns-clause-lent c =
    let edit = c.mark.ensures in
    ap (λ loan. loan ∷ []) (same_loan (λ i. i) _ _ (map_words c.args.self.now.map) (map_words c.mark.new.self) edit.loan edit.many edit.words.others edit.words.words)
