-- What a search takes of arrays, so that a caller writes one attribute and no proof file.
use Rattle.std.proofs.Common.{◌≡◌, ℕ, ◌<◌, Bool, false, not, List, length, map}
use Rattle.std.proofs.lemmas.List.{get_or-map, length-map}
use Rattle.bitvec.specs.Memory.{zip_with, tabulate}
use Rattle.bitvec.specs.Span.{element}
use Rattle.bitvec.proofs.CombineLemmas.{get_or-zip_with}
use Rattle.bitvec.proofs.MemoryLemmas.{length-tabulate}
use Rattle.bitvec.proofs.ZipLemmas.{length-zip_with}
use Rattle.bitvec_slice.proofs.EditRangeLemmas.{filled_new, filled_kept, range_new, range_kept}
use Rattle.bitvec_slice.proofs.OneCountLemmas.{slice_counts, turned_counts}

-- an element of two lists that an operator combines, and of one that is turned over
pub element-zip_with : (f : Bool → Bool → Bool) (xs ys : List Bool) (j : ℕ) → j < length xs → j < length ys → element (zip_with f xs ys) j ≡ f (element xs j) (element ys j)
element-zip_with f xs ys j first second = get_or-zip_with f xs ys j false false false first second

pub element-not : (xs : List Bool) (j : ℕ) → j < length xs → element (map not xs) j ≡ not (element xs j)
element-not xs j inside = get_or-map not xs j false false inside

-- Which bits an array has behind an edit or an operator, and how many: `#[tactic(auto, using(bitvec_array::proofs::ArrayRules::lists))]`.
pub ruleset lists = (length-tabulate, length-map, length-zip_with, element-zip_with, element-not, filled_new, filled_kept, range_new, range_kept)

-- How many of them are one, and what they are.
pub ruleset arrays = (lists, slice_counts)
