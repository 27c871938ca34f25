-- Filling the parts of a span one by one: the words behind each loan of a domain then, and what the memory is.
use Rattle.std.specs.Prelude.{ℕ, ◌^◌, ◌-◌, Bool, if◌then◌else◌, List, ◌++◌, length, map, take, drop, replicate, slice_set, Option, Some, None, option_map}
use Rattle.bitvec_span.specs.Span.{Span}
use Rattle.bitvec_span.specs.Slot.{Slot, slot_part, edited_word}
use Rattle.bitvec_span.specs.Loans.{Loan, Loans, loan_words, words_before, body_words, head_slot, tail_slot}

-- the word whose bits are all the same
abbrev pub word_of_bit : ℕ → Bool → ℕ
word_of_bit bits bit = if bit then 2 ^ bits - 1 else 0

-- some words with each bit of the part that lies in a slot made the same
abbrev pub filled_slot : ℕ → (ℕ → ℕ) → Bool → Slot → List ℕ → List ℕ
filled_slot bits at bit slot words = slice_set words slot.word (edited_word bits at (slot_part slot words) (λ i. bit))

-- the same where there may be no part
abbrev pub filled_slot_if : ℕ → (ℕ → ℕ) → Bool → Option Slot → List ℕ → List ℕ
filled_slot_if bits at bit (Some slot) words = filled_slot bits at bit slot words
filled_slot_if bits at bit None words = words

-- the numbers of the words behind a loan, where there is one
abbrev pub loan_numbers : {R : Type 0} → (R → ℕ) → Option (Loan R Slot) → Option (List ℕ)
loan_numbers number loan = option_map (map number) (option_map loan_words loan)

-- the words behind a loan with each bit of its part made the same
abbrev pub filled_loan : {R : Type 0} → (R → ℕ) → ℕ → (ℕ → ℕ) → Bool → Loan R Slot → List ℕ
filled_loan number bits at bit loan = filled_slot bits at bit loan.place (map number loan.words)

-- the words behind the loans of a domain with each bit of it made the same
abbrev pub filled_loans : {R : Type 0} → (R → ℕ) → ℕ → (ℕ → ℕ) → Bool → Loans R → Option (List ℕ) × Option (List ℕ) × Option (List ℕ)
filled_loans number bits at bit loans = (
  option_map (filled_loan number bits at bit) loans.0,
  option_map (λ words. replicate (length words) (word_of_bit bits bit)) loans.1,
  option_map (filled_loan number bits at bit) loans.2,
)

-- a memory with each bit of a span made the same: its words up to the head's, those of the body, and those from the
-- tail's on
abbrev pub filled_memory : ℕ → (ℕ → ℕ) → Bool → Span → List ℕ → List ℕ
filled_memory bits at bit span words =
    filled_slot_if bits at bit (head_slot bits span) (take (words_before span) words)
    ++ (replicate (body_words bits span) (word_of_bit bits bit)
    ++ filled_slot_if bits at bit (tail_slot bits span) (drop (body_words bits span) (drop (words_before span) words)))

-- the numbers of the words behind three loans
abbrev pub numbers_of_words : {R : Type 0} → (R → ℕ) → Option (List R) × Option (List R) × Option (List R) → Option (List ℕ) × Option (List ℕ) × Option (List ℕ)
numbers_of_words number words = (option_map (map number) words.0, option_map (map number) words.1, option_map (map number) words.2)
