use Rattle.std.proofs.Common.{rules, ◌+◌, ◌∙◌, Bool, List, refl}
use Rattle.bitvec.specs.Span.{with_filled}
use Rattle.bitvec_slice.proofs.LentLemmas.{lent_edit}
use Rattle.bitvec_slice.specs.BitSliceMut.{lent_span}
use Rattle.freemap.proofs.MapLemmas.{edited_words}
use Rattle.freemap.proofs.map.fill_words.Goals as goal

pub returns : goal.returns
returns g c =
    let slice = c.new_unchecked-bits.result in
    let filled : List Bool → List Bool = λ us. with_filled us c.args.at (c.args.at + c.args.count) c.args.used in
    edited_words g.O.BitAt.at_of c.args.blocks (lent_span slice) (c.new_unchecked-bits.ensures.span ∙ c.at_unchecked-span.ensures) c.args.words.now _ filled
    (lent_edit slice c.fill_range.new.self (lent_span slice) c.args.words.now _ filled refl c.new_unchecked-bits.ensures.memory (search rules) c.fill_range.ensures.bits)
