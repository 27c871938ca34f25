use Rattle.std.proofs.Common.{length, ◌-◌, ◌≡◌, ◌≤◌, ◌+◌, ◌++◌, take}
use Rattle.bitvec_vec.specs.BitVec.{vec_bits, bit_capacity}
use Rattle.bitvec_vec.proofs.vec.bit_vec.BitVec.extend_from_bools.Given as goal

-- the first of the truth values are put behind, and there is room for all
abbrev pub invariant-loop-done : goal.invariant-loop-done
invariant-loop-done g l = record {
  inside : l.done ≤ length l.bits;
  list : vec_bits l.self ≡ vec_bits l.fn.self ++ take l.done l.bits;
  room : length (vec_bits l.fn.self) + length l.bits ≤ bit_capacity l.self;
  grown : bit_capacity l.fn.self ≤ bit_capacity l.self;
}

abbrev pub decreases-loop-done : goal.decreases-loop-done
decreases-loop-done g l = length l.bits - l.done
