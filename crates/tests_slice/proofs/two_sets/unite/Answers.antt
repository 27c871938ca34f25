use Rattle.std.proofs.Common.{◌≡◌, Bool, List, length, map, arith, sym, subst, ◌∙◌}
use Rattle.std.specs.Prelude.{IsTrue}
use Rattle.std.specs.List.{AllZip}
use Rattle.bitvec_slice.specs.BitSlice.{slice_bits, slice_memory}
use Rattle.bitvec_slice.specs.BitSliceMut.{lent_bits, lent_words}
use Rattle.tests_slice.proofs.SubsetLemmas.{below_union}
use Rattle.tests_slice.proofs.two_sets.unite.Goals as goal

pub returns-clause-subset : goal.returns-clause-subset
returns-clause-subset g c =
    let set = c.args.set.now in
    let other = c.args.other in
    let same : length (slice_bits other) ≡ length (lent_bits set) = omega (arith, other.many (map g.R2.BitRegister.number (slice_memory other)), set.many (lent_words set), c.requires) in
    let is = c.as_bitslice.ensures.bits ∙ c.or_from.ensures.bits.0 in
    c.is_subset.ensures.1 (subst (λ (zs : List Bool). AllZip (λ x y. IsTrue x → IsTrue y) (slice_bits c.args.other) (zs)) (sym is) (below_union (lent_bits set) (slice_bits other) same))
