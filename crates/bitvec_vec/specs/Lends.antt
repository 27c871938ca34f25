-- What a vector is once a slice that it lent is let go.
use Rattle.std.specs.Borrow.{MutBor, Fml, RattleType, Array, follows}
use Rattle.std.specs.Vec.{with_items}
use Rattle.std.specs.declared.alloc.Allocator as alloc
use Rattle.bitvec_slice.specs.BitSliceMut.{lent_memory}
use Rattle.bitvec_slice.specs.declared.slice.bit_slice_mut.BitSliceMut.{BitSliceMut}
use Rattle.bitvec_vec.specs.declared.vec.bit_vec.BitVec.{BitVec}
use Rattle.bitvec_vec.specs.contracts.vec.bit_vec.BitVec.{the_row}

module _ (R O A : RattleType) {a b c d e f g h i : _} (heap : alloc.Ghosts A.Denot) (vec : MutBor (BitVec R.Denot O.Denot A.Denot a b c d e f g h i)) where
  -- its words are those that the slice has last, and all else stays
  abbrev pub vec_follows : BitSliceMut R.Denot O.Denot a b c d e f g h i → Fml
  vec_follows slice = follows (the_row R O A a b c d e f g h i heap) (Array R 0) vec.ghost_name (lent_memory slice).ghost_name
      (λ ws. record { words = with_items vec.now.words ws; len = vec.now.len; of = vec.now.of; short = vec.now.short; enough = vec.now.enough })
