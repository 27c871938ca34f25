use Rattle.std.proofs.Common.{arith, rules}
use Rattle.bitvec_call.proofs.PlainLemmas.{ends_before, apart_before}
use Rattle.bitvec_call.proofs.plain.are_disjoint.Goals as goal

pub returns : goal.returns
returns g c =
    let width = g.R.BitRegister.BITS in
    let here = c.args.span in
    let there = c.args.other in (
      (λ ends place a b. apart_before width there.start there.count here.start here.count (c.ends_by-2.ensures.0 ends) place b a),
      λ apart. c.ends_by-2.ensures.1 (ends_before width here.start here.count there.start there.count (omega arith) (omega arith) apart (search rules)),
    )
