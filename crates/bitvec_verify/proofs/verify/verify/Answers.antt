use Rattle.std.proofs.Common.{rules}
use Rattle.bitvec_verify.proofs.VerifiedLemmas.{verifies-from_each}
use Rattle.bitvec_verify.proofs.verify.verify.Goals as goal

pub returns-in_err-map_err : goal.returns-in_err-map_err
returns-in_err-map_err g c = verifies-from_each _ _ (search rules) (search rules) (search rules)

pub returns-in_err-map_err-2 : goal.returns-in_err-map_err-2
returns-in_err-map_err-2 g c = verifies-from_each _ _ (search rules) (search rules) (search rules)

pub returns-in_err-map_err-3 : goal.returns-in_err-map_err-3
returns-in_err-map_err-3 g c = verifies-from_each _ _ (search rules) (search rules) (search rules)

pub returns-in_err-map_err-4 : goal.returns-in_err-map_err-4
returns-in_err-map_err-4 g c = verifies-from_each _ _ (search rules) (search rules) (search rules)

pub returns-in_err-map_err-5 : goal.returns-in_err-map_err-5
returns-in_err-map_err-5 g c = verifies-from_each _ _ (search rules) (search rules) (search rules)

pub returns : goal.returns
returns g c = verifies-from_each _ _ (search rules) (search rules) (search rules)
