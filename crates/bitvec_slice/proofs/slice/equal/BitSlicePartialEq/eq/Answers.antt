use Rattle.std.proofs.Common.{refl}
use Rattle.std.specs.Bool.{beq}
use Rattle.std.specs.Cmp.{booleans_Decides}
use Rattle.std.specs.Cmp.Lexicographic.{pointwise}
use Rattle.std.proofs.lemmas.Slice.Eq.{slice_eq-Decides}
use Rattle.bitvec_slice.specs.BitSlice.{slice_bits}
use Rattle.bitvec_slice.proofs.QuestionLemmas.{same_answer}
use Rattle.bitvec_slice.proofs.slice.equal.BitSlicePartialEq.eq.Goals as goal

pub returns-clause-value : goal.returns-clause-value
returns-clause-value g c =
    let xs = slice_bits c.args.self.now in
    let ys = slice_bits c.args.other.now in
    let decides = slice_eq-Decides booleans_Decides xs ys (pointwise beq xs ys) refl in
    same_answer c.equals.result (pointwise beq xs ys) (λ yes. decides.1 (c.equals.ensures.list.0 yes)) (λ yes. c.equals.ensures.list.1 (decides.0 yes))
