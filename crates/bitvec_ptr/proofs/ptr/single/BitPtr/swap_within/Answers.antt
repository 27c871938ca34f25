use Rattle.std.proofs.Common.{◌≡◌, ℕ, List, Some, map, get_or, sym, ap, ◌∙◌}
use Rattle.std.specs.Prelude.{slice_get, slice_set, swap}
use Rattle.std.proofs.lemmas.List.Edits.{swap_is}
use Rattle.std.proofs.lemmas.Option.{get_or_from_slice_get, slice_get_within}
use Rattle.bitvec_ptr.specs.BitPtr.{ptr_of}
use Rattle.bitvec_ptr.specs.Memory.{memory_bits}
use Rattle.bitvec_ptr.specs.Place.{memory_place}
use Rattle.bitvec_ptr.proofs.ptr.single.BitPtr.swap_within.Goals as goal

-- two elements of a list, each written over the other
exchanged : {X : Type 0} (xs between new : List X) (i j : ℕ) (x y : X) → slice_get xs i ≡ Some x → slice_get xs j ≡ Some y → between ≡ slice_set xs i y → new ≡ slice_set between j x → new ≡ swap xs i j
exchanged xs between new i j x y p q e f =
    f
    ∙ ap (λ v. slice_set v j x) e
    ∙ ap (λ v. slice_set (slice_set xs i v) j x) (sym (get_or_from_slice_get xs j y x q))
    ∙ ap (λ v. slice_set (slice_set xs i (get_or xs j x)) j v) (sym (get_or_from_slice_get xs i x x p))
    ∙ swap_is xs i j x (slice_get_within xs i x p) (slice_get_within xs j y q)

pub returns-clause-bits : goal.returns-clause-bits
returns-clause-bits g c =
    let R = g.R.BitRegister in
    let bits = memory_bits R.BITS g.O.BitAt.at_of in
    exchanged (bits (map R.number c.args.memory.now)) (bits (map R.number c.replace-ours.new.memory)) (bits (map R.number c.write.new.memory))
    (memory_place R.BITS (ptr_of c.args.self)) (memory_place R.BITS (ptr_of c.args.with)) c.replace-ours.result c.read-theirs.result
    c.replace-ours.ensures.previous c.read-theirs.ensures c.replace-ours.ensures.bits c.write.ensures.bits
