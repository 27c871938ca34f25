use Rattle.std.proofs.Common.{◌+◌, refl, sym, subst, true, arith}
use Rattle.bitvec.specs.Span.{BecomesList, with_filled, front_span}
use Rattle.freemap.specs.Map.{in_use}
use Rattle.freemap.proofs.MapLemmas.{edit_shows, as_many}
use Rattle.freemap.proofs.WordLemmas.{stored_long}
use Rattle.freemap.proofs.map.FreeMap.put_in_use.Goals as goal

pub set_in_words-requires-clause-inside : goal.set_in_words-requires-clause-inside
set_in_words-requires-clause-inside g c = (let map = c.args.self.now in omega (arith, c.requires, stored_long g.O.BitAt.at_of map.blocks map.words.now))

pub free_in_words-requires : goal.free_in_words-requires
free_in_words-requires g c = (let map = c.args.self.now in record { room = (omega (arith, map.room, c.set_in_words.ensures.words), map.room.1); inside = omega (arith, c.requires, stored_long g.O.BitAt.at_of map.blocks map.words.now) })

pub returns-clause-becomes : goal.returns-clause-becomes
returns-clause-becomes g c =
    let at = g.O.BitAt.at_of in
    let map = c.args.self.now in
    let new = c.set_in_words.new.words in
    let filled = subst (λ n. BecomesList 64 at (front_span n) map.words.now new (with_filled (in_use map) c.args.at (c.args.at + 1) true)) (sym (stored_long at map.blocks map.words.now)) c.set_in_words.ensures in
    record {
      used = edit_shows at map.blocks map.words.now new _ filled;
      many = as_many at map.blocks map.words.now new;
      loan = refl;
      words = filled;
    }
