use Rattle.std.proofs.Common.{◌∙◌, rules, sym, Bool, List, length, ap}
use Rattle.bitvec.specs.BitSpan.{span_of}
use Rattle.bitvec.specs.Memory.{zip_with}
use Rattle.bitvec.specs.Span.{Span}
use Rattle.bitvec_slice.specs.BitSlice.{slice_bits}
use Rattle.bitvec_slice.specs.BitSliceMut.{lent_span}
use Rattle.bitvec_array.proofs.ArrayLemmas.{span-fits, bits-lent}
use Rattle.bitvec_array.proofs.array.operators.combine_slice.Goals as goal

pub new_unchecked-bits-requires : goal.new_unchecked-bits-requires
new_unchecked-bits-requires g c =
    span-fits g.row.N (span_of c.span_of_all.result) (length c.args.words.now) c.span_of_all.ensures.span c.requires.many

pub combine_from-requires : goal.combine_from-requires
combine_from-requires g c =
    c.requires.same ∙ sym (ap (λ (s : Span). s.len) (c.new_unchecked-bits.ensures.span ∙ c.span_of_all.ensures.span))

pub returns : goal.returns
returns g c =
    let slice = c.new_unchecked-bits.result in
    let left = c.combine_from.new.self.memory.now in
    bits-lent g.O.BitAt.at_of g.row.N (lent_span slice) (c.new_unchecked-bits.ensures.span ∙ c.span_of_all.ensures.span) c.args.words.now slice.memory.now left _
    (λ (xs : List Bool). zip_with g.C.Combine.of xs (slice_bits c.args.source))
    c.new_unchecked-bits.ensures.memory (search rules) c.combine_from.ensures.bits.3
