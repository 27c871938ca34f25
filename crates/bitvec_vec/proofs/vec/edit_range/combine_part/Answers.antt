use Rattle.std.proofs.Common.{◌+◌, ◌∙◌, rules, Bool, List, length, ap, arith}
use Rattle.std.specs.Prelude.{slice_range}
use Rattle.bitvec.specs.BitSpan.{span_of}
use Rattle.bitvec.specs.Memory.{zip_with}
use Rattle.bitvec.specs.Span.{Span}
use Rattle.bitvec_slice.specs.BitSlice.{slice_len, slice_bits}
use Rattle.bitvec_slice.specs.BitSliceMut.{lent_span}
use Rattle.bitvec_slice.specs.Ranges.{with_range}
use Rattle.bitvec_vec.proofs.VecLemmas.{front-fits, front-lent}
use Rattle.bitvec_vec.proofs.vec.edit_range.combine_part.Goals as goal

pub new_unchecked-bits-requires : goal.new_unchecked-bits-requires
new_unchecked-bits-requires g c =
    front-fits g.R.BitRegister.BITS c.args.len (length c.args.words.now) (span_of c.span_of_front-span.result) c.span_of_front-span.ensures.span c.requires.room

pub combine_from_range-requires : goal.combine_from_range-requires
combine_from_range-requires g c =
    omega (arith, c.requires.inside, c.span_of_front-span.ensures.len, ap (λ (s : Span). s.len) c.new_unchecked-bits.ensures.span)

pub returns : goal.returns
returns g c =
    let slice = c.new_unchecked-bits.result in
    let from = c.args.from in
    let to = from + slice_len c.args.source in
    front-lent g.R.BitRegister.BITS g.O.BitAt.at_of g.R.BitRegister.number c.args.len c.args.words.now slice.memory.now c.combine_from_range.new.self.memory.now _ (lent_span slice)
    (λ (xs : List Bool). with_range xs from to (zip_with g.C.Combine.of (slice_range xs from to) (slice_bits c.args.source)))
    (c.new_unchecked-bits.ensures.span ∙ c.span_of_front-span.ensures.span) c.new_unchecked-bits.ensures.memory (search rules) c.combine_from_range.ensures.bits.3
