use Rattle.std.proofs.Common.{◌≡◌, ◌∙◌, Bool, List, ap, arith}
use Rattle.bitvec.specs.BitSpan.{span_of}
use Rattle.bitvec.specs.Span.{Span, element}
use Rattle.freemap.proofs.MapLemmas.{shown}
use Rattle.freemap.proofs.WordLemmas.{stored_long}
use Rattle.freemap.proofs.map.FreeMap.is_set.Goals as goal

pub read-requires-clause-inside : goal.read-requires-clause-inside
read-requires-clause-inside g c =
    let map = c.args.self.now in
    let len : c.at_unchecked-span.result.len ≡ map.blocks = ap (λ (s : Span). s.len) c.at_unchecked-span.ensures in
    omega (arith, len, c.requires, stored_long g.O.BitAt.at_of map.blocks map.words.now)

pub returns : goal.returns
returns g c =
    let map = c.args.self.now in
    c.read.ensures ∙ ap (λ (xs : List Bool). element xs c.args.block) (shown g.O.BitAt.at_of map.blocks (span_of c.at_unchecked-span.result) c.at_unchecked-span.ensures map.words.now)
