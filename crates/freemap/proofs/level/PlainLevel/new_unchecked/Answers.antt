use Rattle.std.proofs.Common.{ap, ◌∙◌, length}
use Rattle.std.proofs.lemmas.List.{length-replicate}
use Rattle.freemap.specs.Map.{map_words}
use Rattle.freemap.proofs.LoanLemmas.{same_loan}
use Rattle.freemap.proofs.level.PlainLevel.new_unchecked.Goals as goal

pub returns-clause-lent : goal.returns-clause-lent
returns-clause-lent c =
    let made = c.new_unchecked.ensures in
    same_loan (λ i. i) c.args.count _ c.args.words (map_words c.new_unchecked.result) made.reference (ap length made.free ∙ length-replicate c.args.count _) made.others made.words
