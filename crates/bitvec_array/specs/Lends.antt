-- What an array is once a slice that it lent is let go.
use Rattle.std.specs.Prelude.{ℕ}
use Rattle.std.specs.Borrow.{MutBor, Fml, RattleType, Array, usize, follows}
use Rattle.bitvec_slice.specs.BitSliceMut.{lent_memory}
use Rattle.bitvec_slice.specs.declared.slice.bit_slice_mut.BitSliceMut.{BitSliceMut}
use Rattle.bitvec_array.specs.contracts.array.bit_array.BitArray.{the_row}

module _ (O N : RattleType) {a b : _} (array : MutBor (the_row O N a b).Denot) {c d e f g h i j k : _} where
  -- its words are those that the slice has last
  abbrev pub array_follows : BitSliceMut ℕ O.Denot c d e f g h i j k → Fml
  array_follows slice = follows (the_row O N a b) (Array usize 0) array.ghost_name (lent_memory slice).ghost_name (λ ws. record { words = ws; of = array.now.of; positions = array.now.positions })
