use Rattle.std.proofs.Common.{◌∙◌}
use Rattle.example_packet.proofs.field.Field.get.Goals as goal
use Rattle.example_packet.proofs.HeaderFieldLemmas.{number_in-from}
use Rattle.example_packet.proofs.SteadyLemmas.{number_in-same}

pub returns-clause-field : goal.returns-clause-field
returns-clause-field g c =
    number_in-from g.O.BitAt.at_of c.args.self.start c.args.self.len c.load_value.result c.lowest.result _ c.args.memory.now c.span.ensures (c.load_value.ensures ∙ c.part-part.ensures.word) c.lowest.ensures.lowest

pub returns-clause-number : goal.returns-clause-number
returns-clause-number g c number steady small has =
    returns-clause-field g c
    ∙ number_in-same g.O.BitAt.at_of c.args.self.start c.args.self.len c.args.self.some c.args.self.in_word g.met.O.BitOrder.one_to_one number c.args.memory.now has steady small
