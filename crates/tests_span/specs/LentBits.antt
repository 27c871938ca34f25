-- Setting the first bit of each stretch that a memory is lent as: the bits behind each loan then, and those of the memory.
use Rattle.std.specs.Prelude.{ℕ, ◌+◌, ◌*◌, ◌==◌, Bool, true, if◌then◌else◌, List, ◌++◌, map, take, drop, slice_set, Option, Some, None, option_map}
use Rattle.bitvec_ptr.specs.Memory.{memory_bits}
use Rattle.bitvec_span.specs.Span.{Span}
use Rattle.bitvec_span.specs.Stretch.{Stretch, slot_stretch, whole_stretch}
use Rattle.bitvec_span.specs.Loans.{Loan, words_before, body_words, head_slot, tail_slot}
use Rattle.bitvec_span.specs.BitLoans.{BitLoans}

-- the bits of some words with the first bit of a stretch in them set, where the stretch has bits
abbrev pub first_set : ℕ → (ℕ → ℕ) → Stretch → List ℕ → List Bool
first_set bits at stretch words = if stretch.len == 0 then memory_bits bits at words else slice_set (memory_bits bits at words) (stretch.first * bits + (stretch.head + 0)) true

-- the same where there may be no stretch
abbrev pub first_set_if : ℕ → (ℕ → ℕ) → Option Stretch → List ℕ → List Bool
first_set_if bits at (Some stretch) words = first_set bits at stretch words
first_set_if bits at None words = memory_bits bits at words

-- the bits of the words behind a loan with the first bit of its stretch set
abbrev pub first_set_of : {R : Type 0} → (R → ℕ) → ℕ → (ℕ → ℕ) → Loan R Stretch → List Bool
first_set_of number bits at loan = first_set bits at loan.place (map number loan.words)

-- the bits of the words behind the loans of a domain, each where there is one, with the first bit of each stretch set
abbrev pub firsts_set_of : {R : Type 0} → (R → ℕ) → ℕ → (ℕ → ℕ) → BitLoans R → List Bool × Option (List Bool × List Bool)
firsts_set_of number bits at loans = (
  first_set_of number bits at loans.0,
  option_map (λ others. (first_set_of number bits at others.0, first_set_of number bits at others.1)) loans.1,
)

-- the bits of the words behind the loans of a domain, each where there is one
abbrev pub loan_bits : {R : Type 0} → (R → ℕ) → ℕ → (ℕ → ℕ) → BitLoans R → List Bool × Option (List Bool × List Bool)
loan_bits number bits at loans = (
  memory_bits bits at (map number loans.0.words),
  option_map (λ others. (memory_bits bits at (map number others.0.words), memory_bits bits at (map number others.1.words))) loans.1,
)

-- a memory's bits with the first bit of each stretch of a span set: those of the words up to the head's, those of the
-- body, and those from the tail's on
abbrev pub firsts_set : ℕ → (ℕ → ℕ) → Span → List ℕ → List Bool
firsts_set bits at span words =
    first_set_if bits at (option_map slot_stretch (head_slot bits span)) (take (words_before span) words)
    ++ (first_set bits at (whole_stretch bits (body_words bits span)) (take (body_words bits span) (drop (words_before span) words))
    ++ first_set_if bits at (option_map slot_stretch (tail_slot bits span)) (drop (body_words bits span) (drop (words_before span) words)))
