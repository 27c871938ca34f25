use Rattle.std.proofs.Common.{◌≡◌, ◌<◌, length, map, sym, ap, ◌∙◌, arith}
use Rattle.std.specs.Prelude.{slice_get}
use Rattle.std.proofs.lemmas.List.{length-map}
use Rattle.bitvec_ptr.specs.BitPtr.{ptr_of}
use Rattle.bitvec_ptr.specs.Place.{memory_place}
use Rattle.bitvec_ptr.specs.Memory.{memory_bits}
use Rattle.bitvec_span.specs.Stretch.{stretch_bits}
use Rattle.bitvec_span.specs.BitWordsMut.{words_memory, stretch_in}
use Rattle.bitvec_span.proofs.WordsLemmas.{met_within, read_known, length_stretch}
use Rattle.bitvec_span.proofs.domain.bit_words_mut.BitWordsMut.read.Goals as goal

pub read-requires : goal.read-requires
read-requires g c =
    let width = g.R.BitRegister.BITS in
    let some : 0 < width = omega (arith, g.met.R.BitRegister.width_at_least_8) in
    let bits = c.args.self.now in
    let number = g.R.BitRegister.number in
    let long : length c.words.result.now ≡ bits.count = sym (length-map c.words.result.now number) ∙ ap length c.words.ensures ∙ length_stretch number bits.memory.now bits.first bits.count bits.in_memory in
    c.word_pointer.ensures.inside (length c.words.result.now) (met_within width bits.head bits.len c.args.i (length c.words.result.now) some c.requires (omega (arith, bits.fits, long)))

pub returns : goal.returns
returns g c =
    let width = g.R.BitRegister.BITS in
    let some : 0 < width = omega (arith, g.met.R.BitRegister.width_at_least_8) in
    let bits = c.args.self.now in
    let number = g.R.BitRegister.number in
    let shown = stretch_bits (stretch_in bits) (map number (words_memory bits).now) in
    let long = length_stretch number bits.memory.now bits.first bits.count bits.in_memory in
    read_known width g.O.BitAt.at_of shown c.args.i _ c.read.result some c.requires (omega (arith, bits.fits, long)) c.word_pointer.ensures.place
    (ap (λ ws. slice_get (memory_bits width g.O.BitAt.at_of ws) (memory_place width (ptr_of c.word_pointer.result))) (sym c.words.ensures) ∙ c.read.ensures)
