use Rattle.std.proofs.Common.{◌&&◌, ◌||◌, not, ap, ◌∙◌}
use Rattle.bitvec_mem.specs.Digit.{digit}
use Rattle.bitvec_ptr.proofs.GatherLemmas.{IsMasked, masked_inside, masked_outside}
use Rattle.bitvec_ptr.proofs.ptr.copy.gather.under_mask.Goals as goal

pub returns-clause-inside : goal.returns-clause-inside
returns-clause-inside g c =
    let number = g.R.BitRegister.number in
    let at = g.O.BitAt.at_of in
    let law = g.met.O.BitOrder.one_to_one in
    let mask = number c.args.mask in
    let is : IsMasked g.R.BitRegister.BITS at c.args.bit c.args.count mask (number c.args.word) (number c.args.with) (number c.or.result) =
    record {
      law = law;
      room = c.requires.end;
      ones = c.requires.mask;
      digits = λ i h.
          c.or.ensures.digits (at i) (law.below i h)
          ∙ ap (λ b. b || digit (number c.and-2.result) (at i))
          (c.and.ensures.digits (at i) (law.below i h)
          ∙ ap (λ b. digit (number c.args.word) (at i) && b) (c.not.ensures.digits (at i) (law.below i h)))
          ∙ ap (λ b. (digit (number c.args.word) (at i) && not (digit mask (at i))) || b) (c.and-2.ensures.digits (at i) (law.below i h));
    } in
    masked_inside is

pub returns-clause-outside : goal.returns-clause-outside
returns-clause-outside g c =
    let number = g.R.BitRegister.number in
    let at = g.O.BitAt.at_of in
    let law = g.met.O.BitOrder.one_to_one in
    let mask = number c.args.mask in
    let is : IsMasked g.R.BitRegister.BITS at c.args.bit c.args.count mask (number c.args.word) (number c.args.with) (number c.or.result) =
    record {
      law = law;
      room = c.requires.end;
      ones = c.requires.mask;
      digits = λ i h.
          c.or.ensures.digits (at i) (law.below i h)
          ∙ ap (λ b. b || digit (number c.and-2.result) (at i))
          (c.and.ensures.digits (at i) (law.below i h)
          ∙ ap (λ b. digit (number c.args.word) (at i) && b) (c.not.ensures.digits (at i) (law.below i h)))
          ∙ ap (λ b. (digit (number c.args.word) (at i) && not (digit mask (at i))) || b) (c.and-2.ensures.digits (at i) (law.below i h));
    } in
    masked_outside is
