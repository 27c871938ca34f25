use Rattle.std.proofs.Common.{◌≡◌, ◌<◌, map, length, get_or, nat_abs, sym, ap, ◌∙◌, arith}
use Rattle.std.specs.Prelude.{slice_index, slice_set}
use Rattle.std.specs.Int.{w64}
use mir.Val.{to_z, of_z}
use Rattle.std.proofs.lemmas.Int.{ints}
use Rattle.std.proofs.lemmas.List.{get_or-map, length-map, map-set}
use Rattle.bitvec_ptr.specs.Memory.{memory_bits}
use Rattle.bitvec_ptr.proofs.BitLemmas.{write_is}
use Rattle.bitvec_ptr.proofs.ptr.single.BitPtr.write.Goals as goal

pub returns-clause-bits : goal.returns-clause-bits
returns-clause-bits g c =
    let width = g.R.BitRegister.BITS in
    let at = g.O.BitAt.at_of in
    let number = g.R.BitRegister.number in
    let xs = c.args.memory.now in
    let w = nat_abs c.args.self.word in
    let r = c.index-memory-at.result in
    let first : nat_abs (to_z w64 (of_z w64 c.args.self.word)) ≡ nat_abs c.args.self.word = ap nat_abs (let same : to_z w64 (of_z w64 c.args.self.word) ≡ c.args.self.word = omega (arith, ints) in same) in
    let inside : nat_abs c.args.self.word < length c.args.memory.now = omega (arith, ints, c.requires) in
    let within : nat_abs c.args.self.word < length (map number xs) = omega (arith, inside, length-map xs number) in
    let word : number r ≡ slice_index (map number xs) (nat_abs c.args.self.word) = ap number c.index-memory-at.is ∙ ap (λ k. number (get_or xs k r)) first ∙ sym (get_or-map number xs (nat_abs c.args.self.word) r 0 inside) in
    let v = c.with_bit.result in
    ap (memory_bits width at) (ap (λ k. map number (slice_set xs k v)) first ∙ map-set number xs w v)
    ∙ write_is width at (map number xs) w c.args.self.bit (number v) c.args.bit within c.bit.ensures.below (λ j h. rw (c.bit.ensures.value, word) at c.with_bit.ensures j h)
