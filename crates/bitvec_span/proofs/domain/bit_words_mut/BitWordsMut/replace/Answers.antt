use Rattle.std.proofs.Common.{◌≡◌, ◌<◌, ◌-◌, ◌+◌, length, map, take, drop, sym, ap, ◌∙◌, arith, length-drop, length-take-le}
use Rattle.std.specs.Prelude.{slice_get, slice_set}
use Rattle.bitvec_ptr.specs.BitPtr.{ptr_of}
use Rattle.bitvec_ptr.specs.Place.{memory_place}
use borrow.Rule.Slice.PartMut.{mid_of}
use Rattle.bitvec_ptr.specs.Memory.{memory_bits}
use Rattle.bitvec_span.specs.Stretch.{stretch_bits}
use Rattle.bitvec_span.specs.BitWordsMut.{words_memory, stretch_in}
use Rattle.bitvec_span.proofs.SliceLemmas.{map-slice}
use Rattle.bitvec_span.proofs.AppendLemmas.{write_mid}
use Rattle.bitvec_span.proofs.WordsLemmas.{met_within, read_known, length_stretch}
use Rattle.bitvec_span.proofs.domain.bit_words_mut.BitWordsMut.replace.Goals as goal

pub replace-requires : goal.replace-requires
replace-requires g c =
    let width = g.R.BitRegister.BITS in
    let some : 0 < width = omega (arith, g.met.R.BitRegister.width_at_least_8) in
    let bits = c.args.self.now in
    let count : bits.first + bits.count - bits.first ≡ bits.count = omega arith in
    let long : length (take (bits.first + bits.count - bits.first) (drop bits.first bits.memory.now)) ≡ bits.count = ap (λ n. length (take n (drop bits.first bits.memory.now))) count ∙ length-take-le bits.count (drop bits.first bits.memory.now) (omega (arith, bits.in_memory, length-drop bits.first bits.memory.now)) in
    c.word_pointer-pointer.ensures.inside _ (met_within width bits.head bits.len c.args.i _ some c.requires (omega (arith, bits.fits, long)))

pub returns-clause-previous : goal.returns-clause-previous
returns-clause-previous g c =
    let width = g.R.BitRegister.BITS in
    let some : 0 < width = omega (arith, g.met.R.BitRegister.width_at_least_8) in
    let bits = c.args.self.now in
    let number = g.R.BitRegister.number in
    let shown = stretch_bits (stretch_in bits) (map number (words_memory bits).now) in
    let long = length_stretch number bits.memory.now bits.first bits.count bits.in_memory in
    read_known width g.O.BitAt.at_of shown c.args.i _ c.replace.result some c.requires (omega (arith, bits.fits, long)) c.word_pointer-pointer.ensures.place
    (ap (λ ws. slice_get (memory_bits width g.O.BitAt.at_of ws) (memory_place width (ptr_of c.word_pointer-pointer.result))) (sym (map-slice number bits.memory.now bits.first (bits.first + bits.count))) ∙ c.replace.ensures.previous)

pub returns-clause-bits : goal.returns-clause-bits
returns-clause-bits g c =
    let width = g.R.BitRegister.BITS in
    let some : 0 < width = omega (arith, g.met.R.BitRegister.width_at_least_8) in
    let bits = c.args.self.now in
    let number = g.R.BitRegister.number in
    let at = g.O.BitAt.at_of in
    let inside = met_within width bits.head bits.len c.args.i bits.count some c.requires bits.fits in
    let count : bits.first + bits.count - bits.first ≡ bits.count = omega arith in
    write_mid width at number bits.first (bits.first + bits.count - bits.first)
    (bits.head + c.args.i) c.args.bit bits.memory.now c.replace.new.memory
    (omega (arith, bits.in_memory)) (rw count inside)
    (c.replace.ensures.bits ∙ ap (λ n. slice_set (memory_bits width at (map number (mid_of bits.first (bits.first + bits.count - bits.first) bits.memory.now))) n c.args.bit) c.word_pointer-pointer.ensures.place)
