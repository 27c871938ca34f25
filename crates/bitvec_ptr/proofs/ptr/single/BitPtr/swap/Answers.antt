use Rattle.std.proofs.Common.{◌<◌, map, length, nat_abs, ap, ◌∙◌, arith}
use Rattle.std.specs.Prelude.{slice_set}
use Rattle.std.proofs.lemmas.Int.{ints}
use Rattle.std.proofs.lemmas.List.{length-map}
use Rattle.bitvec_ptr.specs.BitPtr.{ptr_of}
use Rattle.bitvec_ptr.specs.Place.{memory_place}
use Rattle.bitvec_ptr.specs.Memory.{memory_bits}
use Rattle.bitvec_ptr.proofs.CopyLemmas.{bit_is}
use Rattle.bitvec_ptr.proofs.ptr.single.BitPtr.swap.Goals as goal

pub returns-clause-bits : goal.returns-clause-bits
returns-clause-bits g c =
    let R = g.R.BitRegister in
    let R2 = g.R2.BitRegister in
    let words = map R2.number c.args.other.now in
    let below : c.args.with.bit < R2.BITS = omega (arith, g.met.R2.BitRegister.width_at_least_8, c.args.with.in_word) in
    let within : nat_abs c.args.with.word < length words = omega (arith, ints, c.requires.with_in, length-map c.args.other.now R2.number) in
    let theirs = bit_is R2.BITS g.O2.BitAt.at_of words (nat_abs c.args.with.word) c.args.with.bit c.read-theirs.result within below c.read-theirs.ensures in
    c.replace-ours.ensures.bits ∙ ap (slice_set (memory_bits R.BITS g.O.BitAt.at_of (map R.number c.args.memory.now)) (memory_place R.BITS (ptr_of c.args.self))) theirs

pub returns-clause-other_bits : goal.returns-clause-other_bits
returns-clause-other_bits g c =
    let R = g.R.BitRegister in
    let R2 = g.R2.BitRegister in
    let words = map R.number c.args.memory.now in
    let below : c.args.self.bit < R.BITS = omega (arith, g.met.R.BitRegister.width_at_least_8, c.args.self.in_word) in
    let within : nat_abs c.args.self.word < length words = omega (arith, ints, c.requires.self_in, length-map c.args.memory.now R.number) in
    let ours = bit_is R.BITS g.O.BitAt.at_of words (nat_abs c.args.self.word) c.args.self.bit c.replace-ours.result within below c.replace-ours.ensures.previous in
    c.write.ensures.bits ∙ ap (slice_set (memory_bits R2.BITS g.O2.BitAt.at_of (map R2.number c.args.other.now)) (memory_place R2.BITS (ptr_of c.args.with))) ours
