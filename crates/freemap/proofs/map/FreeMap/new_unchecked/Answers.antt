use Rattle.std.proofs.Common.{◌≡◌, ◌∙◌, false, ap, subst, length, arith}
use Rattle.bitvec.specs.Span.{KeepsOthers, front_span}
use Rattle.freemap.specs.Map.{map_words, in_use}
use Rattle.freemap.proofs.MapLemmas.{all_filled}
use Rattle.freemap.proofs.WordLemmas.{stored_long}
use Rattle.freemap.proofs.map.FreeMap.new_unchecked.Goals as goal

pub mark-requires : goal.mark-requires
mark-requires g c =
    let map = c.from_words_unchecked-map.result in
    let many : length (in_use map) ≡ c.args.blocks = ap length c.from_words_unchecked-map.ensures.stored ∙ stored_long g.O.BitAt.at_of c.args.blocks c.args.words.now in
    omega (arith, many)

pub returns-clause-free : goal.returns-clause-free
returns-clause-free g c =
    let map = c.from_words_unchecked-map.result in
    let many : length (in_use map) ≡ c.args.blocks = ap length c.from_words_unchecked-map.ensures.stored ∙ stored_long g.O.BitAt.at_of c.args.blocks c.args.words.now in
    c.mark.ensures.used ∙ all_filled (in_use map) c.args.blocks false many

pub returns-clause-others : goal.returns-clause-others
returns-clause-others g c =
    let map = c.from_words_unchecked-map.result in
    let at = g.O.BitAt.at_of in
    let many : length (in_use map) ≡ c.args.blocks = ap length c.from_words_unchecked-map.ensures.stored ∙ stored_long at c.args.blocks c.args.words.now in
    let kept = subst (λ n. KeepsOthers 64 at (front_span n) (map_words map).now (map_words c.mark.new.self).now) many c.mark.ensures.words.others in
    rw (← c.from_words_unchecked-map.ensures.words) kept
