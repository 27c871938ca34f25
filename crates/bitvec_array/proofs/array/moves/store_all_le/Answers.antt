use Rattle.std.proofs.Common.{◌-◌, ◌∙◌, rules, Bool, List, length, ap, arith}
use Rattle.bitvec.specs.BitSpan.{span_of}
use Rattle.bitvec.specs.Span.{Span}
use Rattle.bitvec_slice.specs.BitSliceMut.{lent_span}
use Rattle.std.specs.Prelude.{slice_range}
use Rattle.bitvec_slice.specs.Numbers.{number_le, digits_le}
use Rattle.bitvec_slice.specs.Ranges.{with_range}
use Rattle.bitvec_array.proofs.ArrayLemmas.{span-fits, bits-lent, bits-left}
use Rattle.bitvec_array.proofs.array.moves.store_all_le.Goals as goal

pub new_unchecked-bits-requires : goal.new_unchecked-bits-requires
new_unchecked-bits-requires g c =
    span-fits g.row.N (span_of c.span_of_all.result) (length c.args.words.now) c.span_of_all.ensures.span c.requires.many

pub store_digits_le-requires-clause-inside : goal.store_digits_le-requires-clause-inside
store_digits_le-requires-clause-inside g c =
    omega (arith, c.requires.inside, ap (λ (s : Span). s.len) (c.new_unchecked-bits.ensures.span ∙ c.span_of_all.ensures.span))

pub returns-clause-bits : goal.returns-clause-bits
returns-clause-bits g c =
    let slice = c.new_unchecked-bits.result in
    bits-lent g.O.BitAt.at_of g.row.N (lent_span slice) (c.new_unchecked-bits.ensures.span ∙ c.span_of_all.ensures.span) c.args.words.now slice.memory.now
    c.store_digits_le.new.self.memory.now _
    (λ (xs : List Bool). with_range xs c.args.from c.args.to (digits_le (c.args.to - c.args.from) (g.D.BitRegister.number c.args.value)))
    c.new_unchecked-bits.ensures.memory (search rules) c.store_digits_le.ensures.bits.3

pub returns-clause-loaded : goal.returns-clause-loaded
returns-clause-loaded g c =
    let now = c.store_digits_le.new.self in
    let is = c.store_digits_le.ensures.bits.1 ∙ c.new_unchecked-bits.ensures.span ∙ c.span_of_all.ensures.span in
    ap (λ (xs : List Bool). number_le (slice_range xs c.args.from c.args.to))
    (bits-left g.O.BitAt.at_of g.row.N (lent_span now) is now.memory.now _ (search rules))
    ∙ c.store_digits_le.ensures.loaded
