use Rattle.std.proofs.Common.{rules}
use Rattle.example_packet.proofs.field.Field.put.Goals as goal
use Rattle.example_packet.proofs.HeaderFieldLemmas.{has_number, inside_stored, outside_same}

pub returns-clause-written : goal.returns-clause-written
returns-clause-written g c =
    has_number g.O.BitAt.at_of c.args.self.start c.args.self.len c.args.number _ _ c.lowest.ensures.lowest
    (inside_stored g.O.BitAt.at_of c.args.self.start c.args.self.len _ _ _ c.args.memory.now _ _ _ _ g.met.O.BitOrder.one_to_one c.args.self.some c.args.self.in_word c.requires
    c.span.ensures c.part_mut-part.ensures.slot c.part_mut-part.ensures.memory c.store_value.ensures.edit (search rules))

pub returns-clause-others : goal.returns-clause-others
returns-clause-others g c =
    outside_same g.O.BitAt.at_of c.args.self.start c.args.self.len _ _ _ c.args.memory.now _ _ _ _ g.met.O.BitOrder.one_to_one c.args.self.some c.args.self.in_word c.requires
    c.span.ensures c.part_mut-part.ensures.slot c.part_mut-part.ensures.memory c.store_value.ensures.edit (search rules)
