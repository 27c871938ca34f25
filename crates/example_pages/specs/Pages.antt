-- Which pages of a store are in use.
use Rattle.std.specs.Prelude.{ℕ, ◌+◌, ◌≤◌, Bool, true, List, length}
use Rattle.std.specs.Borrow.{MutBor}
use Rattle.bitvec.specs.Span.{Span}
use Rattle.bitvec_slice.specs.BitSliceMut.{lent_memory, lent_span, lent_bits, BecomesBits}
use Rattle.bitvec_slice.specs.Bits.{zeros_in, AllBetween}
use Rattle.example_pages.specs.declared.pages.Pages.{Pages}

-- the words that it borrows
abbrev pub pages_memory : {R O : Type 0} {a b c d e f g h i : _} → Pages R O a b c d e f g h i → MutBor (List R)
pages_memory pages = lent_memory pages.bits

-- where its bits lie in them
abbrev pub pages_span : {R O : Type 0} {a b c d e f g h i : _} → Pages R O a b c d e f g h i → Span
pages_span pages = lent_span pages.bits

-- of each page whether it is in use
abbrev pub used : {R O : Type 0} {a b c d e f g h i : _} → Pages R O a b c d e f g h i → List Bool
used pages = lent_bits pages.bits

-- how many pages are free
abbrev pub free_count : {R O : Type 0} {a b c d e f g h i : _} → Pages R O a b c d e f g h i → ℕ
free_count pages = zeros_in (used pages)

-- there are `count` pages from page `at` on, and each is in use
abbrev pub ArePagesInUse : List Bool → ℕ → ℕ → Type 0
ArePagesInUse used at count = (at + count ≤ length used) × AllBetween true used at (at + count)

-- the pages become those of a list, and every other bit of the words stays
abbrev pub BecomesPages : {R O : Type 0} {a b c d e f g h i : _} → (old new : Pages R O a b c d e f g h i) → List Bool → Type 0
BecomesPages old new pages = BecomesBits old.bits new.bits pages
