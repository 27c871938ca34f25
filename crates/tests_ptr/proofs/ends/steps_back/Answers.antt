use Rattle.std.proofs.Common.{◌≡◌, subst, lt_irrefl}
use Rattle.std.specs.Prelude.{negsuc}
use Rattle.bitvec_ptr.specs.Steps.{CanOffset}
use Rattle.tests_ptr.proofs.ends.steps_back.Goals as goal

pub returns : goal.returns
returns c = λ t. let step = subst (λ p. CanOffset 8 p (negsuc 0)) c.requires (c.can_offset.ensures.0 t) in lt_irrefl 9223372036854775808 step.1.sfits
