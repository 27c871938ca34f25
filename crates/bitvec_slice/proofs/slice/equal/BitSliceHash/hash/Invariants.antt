use Rattle.std.proofs.Common.{◌≡◌, ◌++◌, take}
use Rattle.std.specs.Hash as fed
use Rattle.std.specs.List.{fold, flat_map}
use Rattle.bitvec_slice.specs.BitSlice.{slice_bits, slice_len}
use Rattle.bitvec_slice.proofs.slice.equal.BitSliceHash.hash.Given as goal

-- the length was fed, and each bit so far
abbrev pub invariant-loop-i : goal.invariant-loop-i
invariant-loop-i g l =
    l.state ≡ fold g.H.Hasher.write l.fn.state (fed.usize (slice_len l.self) ++ flat_map fed.bool (take l.i (slice_bits l.self)))
