-- The scan of a candidate for an order: a list of tests, and the fault of the first test that fails.
use Rattle.std.specs.Prelude.{ℕ, ◌+◌, ◌^◌, ◌==◌, Bool, if◌then◌else◌, Option, Some, None, List, [], ◌∷◌, ◌++◌, map}
use Rattle.std.specs.List.{flat_map, list_any}
use Rattle.std.specs.Option.{option_or}
use Rattle.bitvec_order.specs.Index.{numbers_between}
use Rattle.bitvec_order.specs.Order.{mask_start, mask_end, IsOneToOne, SelectsPositions, MasksPositions, plain_mask_of}

-- what a candidate gives at a register of that width
pub record Candidate : Type 0 where
  pub width : ℕ
  pub at : ℕ → ℕ
  pub select : ℕ → ℕ
  pub mask : Option ℕ → Option ℕ → ℕ

-- the candidate of a width, by its three functions
abbrev pub candidate : ℕ → (ℕ → ℕ) → (ℕ → ℕ) → (Option ℕ → Option ℕ → ℕ) → Candidate
candidate width at select mask = record { width = width; at = at; select = select; mask = mask }

-- what an impl of `OrderCandidate` at a register says of itself: its positions, its selectors and its masks
abbrev pub Members : Type 0
Members = record { at_of : ℕ → ℕ; select_of : ℕ → ℕ; mask_of : Option ℕ → Option ℕ → ℕ }

-- the candidate of a width, by what its impl says
abbrev pub candidate_of : ℕ → Members → Candidate
candidate_of width it = candidate width it.at_of it.select_of it.mask_of

-- the candidates of the six registers, in the order of the scan, by what the six impls say
abbrev pub candidates : (u8 u16 u32 usize u64 u128 : Members) → List Candidate
candidates u8 u16 u32 usize u64 u128 =
    candidate_of 8 u8 ∷ candidate_of 16 u16 ∷ candidate_of 32 u32 ∷ candidate_of 64 usize ∷ candidate_of 64 u64 ∷ candidate_of 128 u128 ∷ []

-- the candidate is an order of its register: its positions are one to one, and its selectors and its masks are those of
-- its positions
pub record IsLawful (c : Candidate) : Type 0 where
  pub one_to_one : IsOneToOne c.width c.at
  pub selects : SelectsPositions c.width c.at c.select
  pub masks : MasksPositions c.width c.at c.mask

-- a test: that the selector of an index is that of its position, that no lower index has its position, that the
-- mask between two bounds has the positions of the indices there
pub data Test : Type 0 where
  selector : ℕ → Test
  repetition : ℕ → Test
  masked : Option ℕ → Option ℕ → Test

-- what a failed test found: the index or the bounds, with what the candidate gave and what it should have given
pub data Fault : Type 0 where
  wrong_selector : (index got want : ℕ) → Fault
  repeated : (index position : ℕ) → Fault
  wrong_mask : (from upto : Option ℕ) (got want : ℕ) → Fault

-- whether an index below i has the position of i
abbrev pub is_repeated : (ℕ → ℕ) → ℕ → Bool
is_repeated at i = list_any (λ j. at j == at i) (numbers_between 0 i)

-- the mask that a candidate should answer
abbrev pub wanted_mask : Candidate → Option ℕ → Option ℕ → ℕ
wanted_mask c from upto = plain_mask_of c.at (mask_start from) (mask_end c.width upto)

-- the fault of a test, where it fails
unfoldable pub fault_of : Candidate → Test → Option Fault
fault_of c (selector i) = if c.select i == 2 ^ c.at i then None else Some (wrong_selector i (c.select i) (2 ^ c.at i))
fault_of c (repetition i) = if is_repeated c.at i then Some (repeated i (c.at i)) else None
fault_of c (masked from upto) =
    if c.mask from upto == wanted_mask c from upto then None else Some (wrong_mask from upto (c.mask from upto) (wanted_mask c from upto))

-- the fault of the first test that fails
unfoldable pub first_fault : Candidate → List Test → Option Fault
first_fault c [] = None
first_fault c (t ∷ ts) = option_or (fault_of c t) (first_fault c ts)

-- each index in rising order, first its selector and then its repetition
unfoldable pub index_tests : ℕ → List Test
index_tests width = flat_map (λ i. selector i ∷ repetition i ∷ []) (numbers_between 0 width)

-- the masks from one start, to each end from there on
unfoldable pub start_tests : ℕ → ℕ → List Test
start_tests width from = map (λ upto. masked (Some from) (Some upto)) (numbers_between from (width + 1))

-- the masks of each pair of present bounds, in rising order
unfoldable pub pair_tests : ℕ → List Test
pair_tests width = flat_map (start_tests width) (numbers_between 0 width)

-- the masks with an absent bound: both absent, then the end, then the start
unfoldable pub absent_tests : ℕ → List Test
absent_tests width =
    masked None None
    ∷ map (λ from. masked (Some from) None) (numbers_between 0 width)
    ++ map (λ upto. masked None (Some upto)) (numbers_between 0 (width + 1))

-- the whole scan
unfoldable pub tests : ℕ → List Test
tests width = index_tests width ++ pair_tests width ++ absent_tests width
