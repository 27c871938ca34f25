use Rattle.std.proofs.Common.{◌≡◌, ℕ, ◌+◌, ◌*◌, ◌/◌, ◌<◌, ◌≤◌, length, map, ap, ◌∙◌, arith, rules}
use Rattle.std.specs.Prelude.{nat_abs, slice_index, slice_set}
use Rattle.std.specs.Int.{w64}
use Rattle.std.proofs.lemmas.List.{length-map, map-set}
use Rattle.std.proofs.lemmas.Nat.{div-add-mod', mod_below}
use Rattle.std.proofs.Math.ListN.{length-set}
use mir.Val.{to_z, of_z}
use Rattle.bitvec.specs.BitSpan.{span_of}
use Rattle.bitvec.specs.Memory.{memory_bits}
use Rattle.bitvec.specs.Place.{words_met}
use Rattle.bitvec.proofs.BecomesLemmas.{bit-becomes, fits-numbers}
use Rattle.bitvec.proofs.BitLemmas.{write_is}
use Rattle.bitvec_slice.proofs.FieldLemmas.{met_word}
use Rattle.bitvec_slice.proofs.SkipLemmas.{number_at}
use Rattle.bitvec_slice.proofs.AddressLemmas.{address_index}
use Rattle.bitvec_slice.proofs.slice.bit_slice_mut.put_bit.Goals as goal

-- bit i of a span lies in a word of a memory that the span fits, by other names of these numbers
in_memory : (bits head len i first words wide from at : ℕ) → wide ≡ bits → from ≡ head → at ≡ first → 0 < bits → i < len → first + words_met bits head len ≤ words → at + (from + i) / wide < words
in_memory bits head len i first words wide from at is_wide is_head is_first some inside fits =
    let same : (from + i) / wide ≡ (head + i) / bits = (λ m. (is_head m + i) / is_wide m) in
    omega (arith, same, is_first, fits, met_word bits head len i some inside)

pub bounds-memory-at : goal.bounds-memory-at
bounds-memory-at g c =
    let span = c.args.span in
    let first = address_index c.address.result span.word c.address.type_inv c.address.ensures in
    let is_head : c.from.result ≡ span.head = omega (arith, c.from.ensures, c.into_inner.ensures.value, c.head.ensures) in
    in_memory g.R.BitRegister.BITS span.head span.len c.args.i (nat_abs span.word) (length c.args.memory.now) c.bits_of-width.result c.from.result _ c.bits_of-width.ensures.value is_head first (omega (arith, g.met.R.BitRegister.width_at_least_8)) c.requires.inside c.requires.fits.1

pub offset_bounds-memory-at : goal.offset_bounds-memory-at
offset_bounds-memory-at g c =
    let span = c.args.span in
    let first = address_index c.address.result span.word c.address.type_inv c.address.ensures in
    let is_head : c.from.result ≡ span.head = omega (arith, c.from.ensures, c.into_inner.ensures.value, c.head.ensures) in
    let inside : nat_abs (to_z w64 (of_z w64 c.address.result)) + (c.from.result + c.args.i) / c.bits_of-width.result < length c.args.memory.now = in_memory g.R.BitRegister.BITS span.head span.len c.args.i (nat_abs span.word) (length c.args.memory.now) c.bits_of-width.result c.from.result _ c.bits_of-width.ensures.value is_head first (omega (arith, g.met.R.BitRegister.width_at_least_8)) c.requires.inside c.requires.fits.1 in
    search rules

pub bounds-memory-at-2 : goal.bounds-memory-at-2
bounds-memory-at-2 g c =
    let span = c.args.span in
    let first = address_index c.address.result span.word c.address.type_inv c.address.ensures in
    let is_head : c.from.result ≡ span.head = omega (arith, c.from.ensures, c.into_inner.ensures.value, c.head.ensures) in
    in_memory g.R.BitRegister.BITS span.head span.len c.args.i (nat_abs span.word) (length c.args.memory.now) c.bits_of-width.result c.from.result _ c.bits_of-width.ensures.value is_head first (omega (arith, g.met.R.BitRegister.width_at_least_8)) c.requires.inside c.requires.fits.1

pub offset_bounds-memory-at-2 : goal.offset_bounds-memory-at-2
offset_bounds-memory-at-2 g c =
    let span = c.args.span in
    let first = address_index c.address.result span.word c.address.type_inv c.address.ensures in
    let is_head : c.from.result ≡ span.head = omega (arith, c.from.ensures, c.into_inner.ensures.value, c.head.ensures) in
    let inside : nat_abs (to_z w64 (of_z w64 c.address.result)) + (c.from.result + c.args.i) / c.bits_of-width.result < length c.args.memory.now = in_memory g.R.BitRegister.BITS span.head span.len c.args.i (nat_abs span.word) (length c.args.memory.now) c.bits_of-width.result c.from.result _ c.bits_of-width.ensures.value is_head first (omega (arith, g.met.R.BitRegister.width_at_least_8)) c.requires.inside c.requires.fits.1 in
    search rules

pub returns : goal.returns
returns g c =
    let bits = g.R.BitRegister.BITS in
    let at = g.O.BitAt.at_of in
    let number = g.R.BitRegister.number in
    let eight = g.met.R.BitRegister.width_at_least_8 in
    let span = c.args.span in
    let memory = c.args.memory.now in
    let words = map number memory in
    let w = nat_abs (to_z w64 (of_z w64 c.address.result)) in
    let wide = c.bits_of-width.result in
    let place = c.from.result + c.args.i in
    let k = place / wide in
    let r = c.index-memory-at.result in
    let index = c.new_unchecked-index.result in
    let v = c.with_bit.result in
    let in_head : span.head < bits = omega (arith, span.in_word, eight) in
    let is_wide : wide ≡ bits = c.bits_of-width.ensures.value in
    let is_head : c.from.result ≡ span.head = omega (arith, c.from.ensures, c.into_inner.ensures.value, c.head.ensures) in
    let first = address_index c.address.result span.word c.address.type_inv c.address.ensures in
    let inside : nat_abs (to_z w64 (of_z w64 c.address.result)) + k < length memory = in_memory bits span.head span.len c.args.i (nat_abs span.word) (length memory) wide c.from.result _ is_wide is_head first (omega (arith, eight)) c.requires.inside c.requires.fits.1 in
    let within : nat_abs span.word + k < length words = omega (arith, inside, first, length-map memory number) in
    let small : index < bits = omega (arith, c.new_unchecked-index.ensures, is_wide, mod_below place wide (omega (arith, c.bits_of-width.ensures.least))) in
    let word : number r ≡ slice_index words (nat_abs span.word + k) = ap number c.index-memory-at.is ∙ number_at number memory (w + k) r inside ∙ ap (λ n. slice_index words (n + k)) first in
    let new : map number (slice_set memory (w + k) v) ≡ slice_set words (nat_abs span.word + k) (number v) = map-set number memory (w + k) v ∙ ap (λ n. slice_set words (n + k) (number v)) first in
    let row : k * wide ≡ k * bits = ap (λ n. k * n) is_wide in
    let here : (nat_abs span.word + k) * bits + index ≡ nat_abs span.word * bits + span.head + c.args.i = omega (arith, row, is_head, div-add-mod' place wide, c.new_unchecked-index.ensures) in
    bit-becomes bits at (span_of span) words _ in_head (fits-numbers bits (span_of span) number memory c.requires.fits) c.args.i _ c.args.bit c.requires.inside here
    (ap length new ∙ length-set words (nat_abs span.word + k) (number v))
    (ap (memory_bits bits at) new ∙ write_is bits at words (nat_abs span.word + k) index (number v) c.args.bit within small (λ j h. rw word at c.with_bit.ensures j h))
