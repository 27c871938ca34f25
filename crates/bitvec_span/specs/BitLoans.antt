-- The loans of stretches of bits: their names, and where the bits lie in them.
use Rattle.std.specs.Prelude.{ℕ, Bool, if◌then◌else◌, List, [], length, Option, Some, None, option_map}
use Rattle.std.specs.Borrow.{GName}
use Rattle.bitvec_span.specs.Slot.{Slot}
use Rattle.bitvec_span.specs.Stretch.{Stretch, no_stretch, slot_stretch, whole_stretch}
use Rattle.bitvec_span.specs.Loans.{Loan, Loans, loan_words}

-- the names of the loans before, in and behind the body, where those of the head and of the tail are of a part that is there
abbrev pub names_if : Bool → Bool → GName × Option (GName × GName) → Option GName × Option GName × Option GName
names_if head tail (first, None) = (Some first, None, None)
names_if head tail (first, Some (body, last)) = ((if head then Some first else None), Some body, (if tail then Some last else None))

-- the loans of a head's, the body's and a tail's stretches of bits, or that of one stretch alone
abbrev pub BitLoans : Type 0 → Type 0
BitLoans R = Loan R Stretch × Option (Loan R Stretch × Loan R Stretch)

-- the words behind the loans of stretches, each where there is one
abbrev pub words_of_bit_loans : {R : Type 0} → BitLoans R → Option (List R) × Option (List R) × Option (List R)
words_of_bit_loans (first, None) = (Some (loan_words first), None, None)
words_of_bit_loans (first, Some (body, last)) = (Some (loan_words first), Some (loan_words body), Some (loan_words last))

-- the loan of a part's bits: that of the part; no bits of no words where there is no part
abbrev pub stretch_loan : {R : Type 0} → Option (Loan R Slot) → Loan R Stretch
stretch_loan (Some loan) = record { words = loan.words; place = slot_stretch loan.place }
stretch_loan None = record { words = []; place = no_stretch }

-- the loan of all bits of some words
abbrev pub whole_loan : {R : Type 0} → ℕ → List R → Loan R Stretch
whole_loan bits words = record { words = words; place = whole_stretch bits (length words) }

-- the loans of the stretches of bits of a domain's parts
abbrev pub stretch_loans : {R : Type 0} → ℕ → Loans R → BitLoans R
stretch_loans bits loans = (stretch_loan loans.0, option_map (λ body. (whole_loan bits body, stretch_loan loans.2)) loans.1)
