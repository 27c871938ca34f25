-- The loans that the parts of a span are in a memory: the words up to the head's, those of the body, and those from the tail's on.
use Rattle.std.specs.Prelude.{ℕ, nat_abs, ◌+◌, ◌-◌, ◌==◌, ◌&&◌, Bool, not, if◌then◌else◌, List, map, take, drop, Option, Some, None, option_map}
use Rattle.bitvec_ptr.specs.Place.{words_met, tail_of}
use Rattle.bitvec_span.specs.Span.{Span}
use Rattle.bitvec_span.specs.Parts.{Part, Parts, enclave, region, no_parts}
use Rattle.bitvec_span.specs.Slot.{Slot, slot_at, slot_part}

-- a loan: the words behind it, and where in them lies what it was lent for
pub record Loan (R Place : Type 0) : Type 0 where
  pub words : List R
  pub place : Place

-- the loans of a domain: perhaps a part's, perhaps the whole words of the body, and perhaps a part's
abbrev pub Loans : Type 0 → Type 0
Loans R = Option (Loan R Slot) × Option (List R) × Option (Loan R Slot)

-- the words behind a loan
abbrev pub loan_words : {R Place : Type 0} → Loan R Place → List R
loan_words loan = loan.words

-- the words behind the loans of a domain, each where there is one
abbrev pub words_of_loans : {R : Type 0} → Loans R → Option (List R) × Option (List R) × Option (List R)
words_of_loans (head, body, tail) = (option_map loan_words head, body, option_map loan_words tail)

-- the part that lies in a loan
abbrev pub loan_part : {R : Type 0} → (R → ℕ) → Loan R Slot → Part
loan_part number loan = slot_part loan.place (map number loan.words)

-- the parts that lie in loans; with no body there is one part alone
abbrev pub loan_parts : {R : Type 0} → (R → ℕ) → Loans R → Parts
loan_parts number (head, Some body, tail) = region (option_map (loan_part number) head) (map number body) (option_map (loan_part number) tail)
loan_parts number (Some part, None, tail) = enclave (loan_part number part)
loan_parts number (None, None, tail) = no_parts

-- the span has bits of one word alone, with neither its first nor its last
abbrev pub is_inside : ℕ → Span → Bool
is_inside bits span = not (span.len == 0) && not (span.head == 0) && not (tail_of bits span.head span.len == bits) && (words_met bits span.head span.len == 1)

-- there is a part before the body, or the one part of an enclave
abbrev pub has_head : Span → Bool
has_head span = not (span.len == 0) && not (span.head == 0)

-- there is a part behind the body
abbrev pub has_tail : ℕ → Span → Bool
has_tail bits span = not (span.len == 0) && not (tail_of bits span.head span.len == bits) && not (is_inside bits span)

-- how many words lie before the body; the part before it is in the last of these
abbrev pub words_before : Span → ℕ
words_before span = nat_abs span.word + (if has_head span then 1 else 0)

-- how many words the body has; the part behind it is in the word after these
abbrev pub body_words : ℕ → Span → ℕ
body_words bits span = words_met bits span.head span.len - (if has_head span then 1 else 0) - (if has_tail bits span then 1 else 0)

-- where a part before the body lies in the words up to it, if there is one
abbrev pub head_slot : ℕ → Span → Option Slot
head_slot bits span = if has_head span then Some (slot_at bits span 0 (nat_abs span.word)) else None

-- where a part behind the body lies in the words from it on, if there is one
abbrev pub tail_slot : ℕ → Span → Option Slot
tail_slot bits span = if has_tail bits span then Some (slot_at bits span (words_met bits span.head span.len - 1) 0) else None

-- the loan of some words in which a part lies, if there is one
abbrev pub loan_at : {R : Type 0} → List R → Option Slot → Option (Loan R Slot)
loan_at words = option_map (λ slot. record { words = words; place = slot })

-- the loans of a span's parts in a memory
abbrev pub span_loans : {R : Type 0} → ℕ → Span → List R → Loans R
span_loans bits span memory = (
  loan_at (take (words_before span) memory) (head_slot bits span),
  (if is_inside bits span then None else Some (take (body_words bits span) (drop (words_before span) memory))),
  loan_at (drop (body_words bits span) (drop (words_before span) memory)) (tail_slot bits span),
)
