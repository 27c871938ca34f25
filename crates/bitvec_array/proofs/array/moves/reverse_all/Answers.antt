use Rattle.std.proofs.Common.{◌∙◌, rules, Bool, List, length, reverse}
use Rattle.bitvec.specs.BitSpan.{span_of}
use Rattle.bitvec_slice.specs.BitSliceMut.{lent_span}
use Rattle.bitvec_array.proofs.ArrayLemmas.{span-fits, bits-lent}
use Rattle.bitvec_array.proofs.array.moves.reverse_all.Goals as goal

pub new_unchecked-bits-requires : goal.new_unchecked-bits-requires
new_unchecked-bits-requires g c =
    span-fits g.row.N (span_of c.span_of_all.result) (length c.args.words.now) c.span_of_all.ensures.span c.requires

pub returns : goal.returns
returns g c =
    let slice = c.new_unchecked-bits.result in
    bits-lent g.O.BitAt.at_of g.row.N (lent_span slice) (c.new_unchecked-bits.ensures.span ∙ c.span_of_all.ensures.span) c.args.words.now slice.memory.now
    c.reverse.new.self.memory.now _
    (λ (xs : List Bool). reverse xs)
    c.new_unchecked-bits.ensures.memory (search rules) c.reverse.ensures.3
