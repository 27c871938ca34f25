-- What a `DomainMut` shows.
use Rattle.std.specs.Prelude.{ℕ, List, Option, Some, None, option_map}
use Rattle.std.specs.Borrow.{Fml, GName, RattleType, MutBor}
use Rattle.bitvec_span.specs.declared.domain.partial_element_mut.PartialElementMut.{PartialElementMut}
use Rattle.bitvec_span.specs.declared.domain.domain_mut.DomainMut.{DomainMut}
pub use Rattle.bitvec_span.specs.declared.domain.domain_mut.DomainMut.TheVariants.{Enclave, Region}
use Rattle.bitvec_span.specs.Span.{Span}
use Rattle.bitvec_span.specs.Parts.{Part, Parts}
use Rattle.bitvec_span.specs.Slot.{Slot}
use Rattle.bitvec_span.specs.Loans.{Loan, Loans, loan_part, loan_parts, words_of_loans, words_before, body_words}
use Rattle.bitvec_span.specs.PartialElementMut.{memory_of, slot_in}
use Rattle.bitvec_span.specs.Lending.{LendsNamed, LoansRestIfNone}

-- the name of a part's loan, if there is one
abbrev pub part_name : {R O : Type 0} {a b c d e f g : _} → Option (PartialElementMut R O a b c d e f g) → Option GName
part_name (Some part) = Some (memory_of part).ghost_name
part_name None = None

-- the names of the loans before, in and behind the body; an enclave is lent with all words up to its own
abbrev pub loan_names : {R O : Type 0} {a b c d e f g : _} → DomainMut R O a b c d e f g → Option GName × Option GName × Option GName
loan_names (Enclave part) = (part_name (Some part), None, None)
loan_names (Region head body tail) = (part_name head, Some body.ghost_name, part_name tail)

-- when the loans of a span's domain end, s ends as the last words behind them, one behind the other, and the words of an
-- absent part are as they were
abbrev pub LendsDomain : (R : RattleType) {O : Type 0} {a b c d e f g : _} → ℕ → Span → MutBor (List R.Denot) → DomainMut R.Denot O a b c d e f g → Fml
LendsDomain R bits span s domain = LendsNamed R s (words_before span) (body_words bits span) (loan_names domain)

-- the words behind a part's loan, and where the part lies in them
abbrev pub part_loan : {R O : Type 0} {a b c d e f g : _} → PartialElementMut R O a b c d e f g → Loan R Slot
part_loan part = record { words = (memory_of part).now; place = slot_in part }

-- the word and the bounds of a part
abbrev pub lent_part : {R O : Type 0} {a b c d e f g : _} → (R → ℕ) → PartialElementMut R O a b c d e f g → Part
lent_part number part = loan_part number (part_loan part)

-- the loans before, in and behind the body; an enclave's is before it
abbrev pub loans_of : {R O : Type 0} {a b c d e f g : _} → DomainMut R O a b c d e f g → Loans R
loans_of (Enclave part) = (Some (part_loan part), None, None)
loans_of (Region head body tail) = (option_map part_loan head, Some body.now, option_map part_loan tail)

-- the parts of a domain
abbrev pub lent_parts : {R O : Type 0} {a b c d e f g : _} → (R → ℕ) → DomainMut R O a b c d e f g → Parts
lent_parts number domain = loan_parts number (loans_of domain)

-- where an answer is `None`, each loan of the domain ends as the words that lie behind it now
abbrev pub DomainRestsIfNone : (R : RattleType) {O A : Type 0} {a b c d e f g : _} → DomainMut R.Denot O a b c d e f g → Option A → Fml
DomainRestsIfNone R domain answer = LoansRestIfNone R (loan_names domain) (words_of_loans (loans_of domain)) answer
