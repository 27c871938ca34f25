use Rattle.std.proofs.Common.{◌∙◌, rules, Bool, List, length, reverse}
use Rattle.bitvec.specs.BitSpan.{span_of}
use Rattle.bitvec_slice.specs.BitSliceMut.{lent_span}
use Rattle.bitvec_vec.proofs.VecLemmas.{front-fits, front-lent}
use Rattle.bitvec_vec.proofs.vec.moves.reverse_front.Goals as goal

pub new_unchecked-bits-requires : goal.new_unchecked-bits-requires
new_unchecked-bits-requires g c =
    front-fits g.R.BitRegister.BITS c.args.len (length c.args.words.now) (span_of c.span_of_front-span.result) c.span_of_front-span.ensures.span c.requires.room

pub returns : goal.returns
returns g c =
    let slice = c.new_unchecked-bits.result in
    front-lent g.R.BitRegister.BITS g.O.BitAt.at_of g.R.BitRegister.number c.args.len c.args.words.now slice.memory.now c.reverse.new.self.memory.now _ (lent_span slice)
    (λ (xs : List Bool). reverse xs)
    (c.new_unchecked-bits.ensures.span ∙ c.span_of_front-span.ensures.span) c.new_unchecked-bits.ensures.memory (search rules) c.reverse.ensures.3
