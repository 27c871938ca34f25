use Rattle.std.proofs.Common.{ℕ, Bool, List, subst}
use Rattle.bitvec_slice.specs.Bits.{AreFree}
use Rattle.tests_slice.proofs.block_map.alloc_run.Goals as goal

pub returns-in_default-clause-none : goal.returns-in_default-clause-none
returns-in_default-clause-none g c = subst (λ (used : List Bool). (at : ℕ) → ¬ AreFree used at c.args.count) c.all_unchecked.ensures.bits c.in_default.ensures
