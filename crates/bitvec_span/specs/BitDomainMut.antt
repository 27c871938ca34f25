-- What a `BitDomainMut` shows.
use Rattle.std.specs.Prelude.{ℕ, true, List, Option, Some, None, map}
use Rattle.std.specs.Borrow.{Fml, GName, RattleType, MutBor}
use Rattle.bitvec_span.specs.declared.domain.bit_words_mut.BitWordsMut.{BitWordsMut}
use Rattle.bitvec_span.specs.declared.domain.bit_domain_mut.BitDomainMut.{BitDomainMut}
pub use Rattle.bitvec_span.specs.declared.domain.bit_domain_mut.BitDomainMut.TheVariants.{Enclave, Region}
use Rattle.bitvec_span.specs.Lending.{LendsNamed, LoansRestIfNone}
use Rattle.bitvec_span.specs.Span.{Span}
use Rattle.bitvec_span.specs.Loans.{Loan, has_head, has_tail, words_before, body_words}
use Rattle.bitvec_span.specs.BitLoans.{BitLoans, names_if, words_of_bit_loans}
use Rattle.bitvec_span.specs.BitParts.{WordBits, BitParts, bit_enclave, bit_region}
use Rattle.bitvec_span.specs.Stretch.{Stretch, stretch_bits}
use Rattle.bitvec_span.specs.BitWordsMut.{words_memory, stretch_in}

-- the words of a stretch, its head and its length
abbrev pub lent_word_bits : {R O : Type 0} {a b c d e f g : _} → (R → ℕ) → BitWordsMut R O a b c d e f g → WordBits
lent_word_bits number stretch = stretch_bits (stretch_in stretch) (map number (words_memory stretch).now)

-- the stretches of bits of a domain
abbrev pub lent_bit_parts : {R O : Type 0} {a b c d e f g : _} → (R → ℕ) → BitDomainMut R O a b c d e f g → BitParts
lent_bit_parts number (Enclave stretch) = bit_enclave (lent_word_bits number stretch)
lent_bit_parts number (Region head body tail) = bit_region (lent_word_bits number head) (lent_word_bits number body) (lent_word_bits number tail)

-- the name of the loan of one stretch alone, or of the head's, and then those of the body's and of the tail's
abbrev pub bit_loan_names : {R O : Type 0} {a b c d e f g : _} → BitDomainMut R O a b c d e f g → GName × Option (GName × GName)
bit_loan_names (Enclave stretch) = ((words_memory stretch).ghost_name, None)
bit_loan_names (Region head body tail) = ((words_memory head).ghost_name, Some ((words_memory body).ghost_name, (words_memory tail).ghost_name))

-- the words behind a stretch's loan, and where the stretch lies in them
abbrev pub words_loan : {R O : Type 0} {a b c d e f g : _} → BitWordsMut R O a b c d e f g → Loan R Stretch
words_loan stretch = record { words = (words_memory stretch).now; place = stretch_in stretch }

-- the loan of one stretch alone, or of the head's, and then those of the body's and of the tail's
abbrev pub bit_loans_of : {R O : Type 0} {a b c d e f g : _} → BitDomainMut R O a b c d e f g → BitLoans R
bit_loans_of (Enclave stretch) = (words_loan stretch, None)
bit_loans_of (Region head body tail) = (words_loan head, Some (words_loan body, words_loan tail))

-- when the loans of the stretches of a span's domain end, s ends as the last words behind them, one behind the other, and
-- the words of an absent head or tail are as they were
abbrev pub LendsBits : (R : RattleType) {O : Type 0} {a b c d e f g : _} → ℕ → Span → MutBor (List R.Denot) → BitDomainMut R.Denot O a b c d e f g → Fml
LendsBits R bits span s domain = LendsNamed R s (words_before span) (body_words bits span) (names_if (has_head span) (has_tail bits span) (bit_loan_names domain))

-- where an answer is `None`, each loan of the domain ends as the words that lie behind it now
abbrev pub BitDomainRestsIfNone : (R : RattleType) {O A : Type 0} {a b c d e f g : _} → BitDomainMut R.Denot O a b c d e f g → Option A → Fml
BitDomainRestsIfNone R domain answer = LoansRestIfNone R (names_if true true (bit_loan_names domain)) (words_of_bit_loans (bit_loans_of domain)) answer
