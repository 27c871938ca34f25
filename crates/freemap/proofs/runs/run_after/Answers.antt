use Rattle.bitvec_slice.specs.BitSlice.{slice_bits}
use Rattle.freemap.proofs.RunLemmas.{run_is}
use Rattle.freemap.proofs.runs.run_after.Goals as goal

pub returns-in_err-at : goal.returns-in_err-at
returns-in_err-at g c = rw c.from_residual.ensures c.in_err-at.ensures

pub end_of_free-requires : goal.end_of_free-requires
end_of_free-requires g c = (let first = c.in_ok-at.ensures in record { inside = first.1; free = first.2 })

pub returns : goal.returns
returns g c = run_is (slice_bits c.args.bits.now) c.args.from c.in_ok-at.at c.end_of_free.result c.in_ok-at.ensures c.end_of_free.ensures
