-- What a free map shows.
use Rattle.std.specs.Prelude.{◌≡◌, ◌+◌, ℕ, Bool, true, List, Option, MatchOption, length}
use Rattle.std.specs.Borrow.{MutBor}
use Rattle.bitvec.specs.Span.{BecomesList, with_filled, front_span}
use Rattle.freemap.specs.Blocks.{stored_blocks}
use Rattle.freemap.specs.Loans.{LevelLoan, loan_of}
use Rattle.freemap.specs.declared.map.FreeMap.{FreeMap}

-- the words that it is kept in, which it borrows
abbrev pub map_words : {O : Type 0} {a b : _} → FreeMap O a b → MutBor (List ℕ)
map_words map = map.words

-- whether each block is in use, in order
abbrev pub in_use : {O : Type 0} {a b : _} → FreeMap O a b → List Bool
in_use {b = order} map = stored_blocks order.at_of map.blocks map.words.now

-- Whether each block is in use becomes a list, and all else stays: how many blocks there are, the loan, and every bit of
-- its words that is none of the blocks'.
pub record BecomesBlocks {O : Type 0} {a b : _} (old new : FreeMap O a b) (blocks : List Bool) : Type 0 where
  pub used : in_use new ≡ blocks
  pub many : length (in_use new) ≡ length (in_use old)
  pub loan : (map_words new).ghost_name ≡ (map_words old).ghost_name
  pub words : BecomesList 64 b.at_of (front_span (length (in_use old))) (map_words old).now (map_words new).now blocks

-- `count` blocks from an answer on are in use afterwards, and all else is as before; after `None` the map is as before
abbrev pub Allocates : {O : Type 0} {a b : _} → (old new : FreeMap O a b) → ℕ → Option ℕ → Type 0
Allocates old new count answer = MatchOption answer (new ≡ old) (λ at. BecomesBlocks old new (with_filled (in_use old) at (at + count) true))

-- the loan of its words, with the bits behind those of the blocks
abbrev pub map_loan : {O : Type 0} {a b : _} → FreeMap O a b → LevelLoan
map_loan {b = order} map = loan_of order.at_of (length (in_use map)) (map_words map)
