use Rattle.std.proofs.Common.{◌||◌, ap}
use Rattle.bitvec_ptr.specs.Place.{memory_place}
use Rattle.tests_ptr.proofs.SetLemmas.{sets_combined}
use Rattle.tests_ptr.proofs.combinations.union.Goals as goal

pub returns : goal.returns
returns c = sets_combined ◌||◌ c.combine_to.new.target c.args.set c.args.other _ (ap (memory_place 64) c.bit_at-first.ensures) c.combine_to.ensures.bits
