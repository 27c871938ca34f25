-- Words that are written in one direction.
use Rattle.std.specs.Prelude.{ℕ, Bool, List}

-- A writer by its parts: the words of the memory that it borrows, whether it goes by rising index, the edge between two
-- words up to which it has gone, and how many words it has put.
pub record Writer (W : Type 0) : Type 0 where
  pub words : List W
  pub rising : Bool
  pub mark : ℕ
  pub writes : ℕ
