use Rattle.std.proofs.Common.{rules, ◌≡◌, ◌-◌, map, Some, IfSome, refl, sym, subst, ◌∙◌, arith}
use Rattle.std.specs.Iterator.{at_most, UpTo}
use Rattle.std.specs.Iterator.SizeHint.{IsWithinCount}
use Rattle.bitvec.proofs.PartLemmas.{length-list_of}
use Rattle.bitvec_slice.specs.BitSlice.{slice_span}
use Rattle.bitvec_slice.specs.Iter.{iter_memory, iter_span}
use Rattle.bitvec_slice.proofs.slice.iter.IterIterator.size_hint.Goals as goal

pub returns-clause-exact : goal.returns-clause-exact
returns-clause-exact g c =
    let it = c.args.self.now in
    let head = (slice_span it.slice).head in
    let count : it.end - it.next ≡ it.end - head - (it.next - head) = omega (arith, it.begins, it.rises) in
    (count ∙ sym (length-list_of g.R.BitRegister.BITS g.O.BitAt.at_of (iter_span it) (map g.R.BitRegister.number (iter_memory it))), refl)

pub returns-clause-lower : goal.returns-clause-lower
returns-clause-lower g c =
    let it = c.args.self.now in
    subst (λ n. IsWithinCount (it.end - it.next) (at_most n)) (returns-clause-exact g c).0 (search rules)

pub returns-clause-upper : goal.returns-clause-upper
returns-clause-upper g c =
    let it = c.args.self.now in
    subst (λ n. IfSome (Some (it.end - it.next)) (UpTo (at_most n))) (returns-clause-exact g c).0 (search rules)
