use Rattle.std.proofs.Common.{◌∙◌}
use Rattle.tests_span.proofs.isolation.edit_three_alone.Goals as goal

pub returns : goal.returns
returns g c = λ place in_a in_b in_c. c.write.ensures.others place in_c ∙ c.fill-2.ensures.others place in_b ∙ c.fill.ensures.others place in_a
