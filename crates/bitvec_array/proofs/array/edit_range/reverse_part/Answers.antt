use Rattle.std.proofs.Common.{◌∙◌, rules, Bool, List, length, ap, arith}
use Rattle.std.specs.Prelude.{reverse, slice_range}
use Rattle.bitvec.specs.BitSpan.{span_of}
use Rattle.bitvec.specs.Span.{Span}
use Rattle.bitvec_slice.specs.BitSliceMut.{lent_span}
use Rattle.bitvec_slice.specs.Ranges.{with_range}
use Rattle.bitvec_array.proofs.ArrayLemmas.{span-fits, bits-lent}
use Rattle.bitvec_array.proofs.array.edit_range.reverse_part.Goals as goal

pub new_unchecked-bits-requires : goal.new_unchecked-bits-requires
new_unchecked-bits-requires g c =
    span-fits g.row.N (span_of c.span_of_all.result) (length c.args.words.now) c.span_of_all.ensures.span c.requires.many

pub reverse_range-requires-clause-inside : goal.reverse_range-requires-clause-inside
reverse_range-requires-clause-inside g c =
    omega (arith, c.requires.inside, ap (λ (s : Span). s.len) (c.new_unchecked-bits.ensures.span ∙ c.span_of_all.ensures.span))

pub returns : goal.returns
returns g c =
    let slice = c.new_unchecked-bits.result in
    bits-lent g.O.BitAt.at_of g.row.N (lent_span slice) (c.new_unchecked-bits.ensures.span ∙ c.span_of_all.ensures.span) c.args.words.now slice.memory.now
    c.reverse_range.new.self.memory.now _
    (λ (xs : List Bool). with_range xs c.args.from c.args.to (reverse (slice_range xs c.args.from c.args.to)))
    c.new_unchecked-bits.ensures.memory (search rules) c.reverse_range.ensures.bits.3
