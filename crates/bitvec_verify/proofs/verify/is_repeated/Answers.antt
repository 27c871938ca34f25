use Rattle.std.proofs.Common.{◌≡◌, sym, ap, ◌∙◌, arith}
use Rattle.std.proofs.lemmas.Bool.Decides.{nat_tests}
use Rattle.bitvec_verify.proofs.ScanLemmas.{is_repeated-lower, is_repeated-none}
use Rattle.bitvec_verify.proofs.verify.is_repeated.Goals as goal

pub returns-then-eq : goal.returns-then-eq
returns-then-eq g c =
    let at = g.O.BitAt.at_of in
    let same : c.at.result ≡ c.args.position = grind (arith, nat_tests) in
    sym (is_repeated-lower at c.args.index c.loop-lower.lower (omega arith) (ap at (sym c.new_unchecked.ensures) ∙ sym c.at.ensures ∙ same ∙ c.requires))

pub returns : goal.returns
returns g c = sym (is_repeated-none g.O.BitAt.at_of c.args.index (λ k h. c.loop-lower.invariant k (omega arith)))
