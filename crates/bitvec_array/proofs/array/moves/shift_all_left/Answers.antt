use Rattle.std.proofs.Common.{◌++◌, ◌∙◌, rules, Bool, false, List, length, ap, arith, drop, replicate}
use Rattle.bitvec.specs.BitSpan.{span_of}
use Rattle.bitvec.specs.Span.{Span}
use Rattle.bitvec_slice.specs.BitSliceMut.{lent_span}
use Rattle.bitvec_array.proofs.ArrayLemmas.{span-fits, bits-lent}
use Rattle.bitvec_array.proofs.array.moves.shift_all_left.Goals as goal

pub new_unchecked-bits-requires : goal.new_unchecked-bits-requires
new_unchecked-bits-requires g c =
    span-fits g.row.N (span_of c.span_of_all.result) (length c.args.words.now) c.span_of_all.ensures.span c.requires.many

pub shift_left-requires : goal.shift_left-requires
shift_left-requires g c =
    omega (arith, c.requires.inside, ap (λ (s : Span). s.len) (c.new_unchecked-bits.ensures.span ∙ c.span_of_all.ensures.span))

pub returns : goal.returns
returns g c =
    let slice = c.new_unchecked-bits.result in
    bits-lent g.O.BitAt.at_of g.row.N (lent_span slice) (c.new_unchecked-bits.ensures.span ∙ c.span_of_all.ensures.span) c.args.words.now slice.memory.now
    c.shift_left.new.self.memory.now _
    (λ (xs : List Bool). drop c.args.by xs ++ replicate c.args.by false)
    c.new_unchecked-bits.ensures.memory (search rules) c.shift_left.ensures.3
