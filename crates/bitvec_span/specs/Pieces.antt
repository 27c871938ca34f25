-- What `Pieces` shows.
use Rattle.std.specs.Prelude.{ℕ, nat_abs, ◌-◌, List, Option, option_map}
use Rattle.std.specs.Borrow.{GName}
use Rattle.bitvec_ptr.specs.Place.{words_met}
use Rattle.bitvec_span.specs.declared.lend.Pieces.{Pieces}
use Rattle.bitvec_span.specs.Span.{Span}
use Rattle.bitvec_span.specs.Slot.{slot_at}
use Rattle.bitvec_span.specs.Loans.{Loans}
use Rattle.bitvec_span.specs.Lending.{name_of}

-- the names of the loans
abbrev pub names_of : {X : Type 0} → Pieces X → Option GName × Option GName × Option GName
names_of pieces = (name_of pieces.front, name_of pieces.body, name_of pieces.back)

-- the lists behind the loans
abbrev pub piece_words : {X : Type 0} → Pieces X → Option (List X) × Option (List X) × Option (List X)
piece_words pieces = (option_map (λ r. r.now) pieces.front, option_map (λ r. r.now) pieces.body, option_map (λ r. r.now) pieces.back)

-- the loans of a span's parts, where these are lent
abbrev pub piece_loans : {X : Type 0} → ℕ → Span → Pieces X → Loans X
piece_loans bits span pieces = (
  option_map (λ r. record { words = r.now; place = slot_at bits span 0 (nat_abs span.word) }) pieces.front,
  option_map (λ r. r.now) pieces.body,
  option_map (λ r. record { words = r.now; place = slot_at bits span (words_met bits span.head span.len - 1) 0 }) pieces.back,
)
