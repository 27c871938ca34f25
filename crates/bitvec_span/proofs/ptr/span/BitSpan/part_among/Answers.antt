use Rattle.std.proofs.Common.{◌≡◌, ◌+◌, ◌∙◌, ap, map, arith}
use Rattle.std.proofs.lemmas.Int.{ints}
use Rattle.std.specs.Prelude.{slice_index, nat_abs}
use Rattle.std.specs.Int.{w64}
use mir.Val.{to_z, of_z}
use Rattle.bitvec_span.proofs.PartLemmas.{part_same}
use Rattle.bitvec_span.proofs.ptr.span.BitSpan.part_among.Goals as goal

pub returns : goal.returns
returns g c =
    let words = map g.R.BitRegister.number c.args.memory.now in
    let first : nat_abs (to_z w64 (of_z w64 c.address.result)) ≡ nat_abs c.args.self.word = ap nat_abs (let same : to_z w64 (of_z w64 c.address.result) ≡ c.args.self.word = omega (arith, ints) in same) in
    c.new.ensures ∙ part_same _ _ _ _ _ _ (ap (λ n. slice_index words (n + c.args.k)) first) c.bounds_among-head.ensures.head c.bounds_among-head.ensures.tail
