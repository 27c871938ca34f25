-- The words that a level lends: what is no mark of it stays in an edit of its marks.
use Rattle.std.proofs.Common.{◌≡◌, ℕ, pos, ◌*◌, ◌-◌, List, ◌∷◌, [], length, take, drop, refl, ap, ◌∙◌, arith, MutBor}
use Rattle.std.proofs.lemmas.Int.{ints}
use Rattle.bitvec.specs.Span.{KeepsOthers, list_of, front_span}
use Rattle.bitvec.proofs.BecomesLemmas.{lists-kept}
use Rattle.freemap.specs.Blocks.{word_count}
use Rattle.freemap.specs.Loans.{LevelLoan, bits_behind, loan_of, behind_loans, behind_levels}

module _ (at : ℕ → ℕ) where
  -- the bits behind the marks
  behind_kept : (bits : ℕ) (old new : List ℕ) → KeepsOthers 64 at (front_span bits) old new → length new ≡ length old → bits_behind at bits new ≡ bits_behind at bits old
  behind_kept bits old new others words =
      ap (λ n. list_of 64 at (record { word = pos 0; head = bits; len = n * 64 - bits }) new) words
      ∙ lists-kept 64 at (front_span bits) old new others (pos 0) bits (length old * 64 - bits) (omega (arith, ints)) (λ place here there. omega (arith, ints, here.1, there.0))

  -- the loan, with these
  pub same_loan : (bits many : ℕ) (old new : MutBor (List ℕ)) → new.ghost_name ≡ old.ghost_name → many ≡ bits → KeepsOthers 64 at (front_span bits) old.now new.now → length new.now ≡ length old.now → loan_of at many new ≡ loan_of at bits old
  same_loan bits many old new name same others words = (let behind = behind_kept bits old.now new.now others words in rw (name, same, behind) refl)

  -- what lies behind the marks of two levels in words that they share
  pub two_behind : (loans : List LevelLoan) (a b : LevelLoan) (low high : MutBor (List ℕ)) (many groups words : ℕ) (summary : List ℕ) → loans ≡ (a ∷ b ∷ []) → a ≡ loan_of at many low → b ≡ loan_of at groups high
      → groups ≡ word_count many → many ≡ words → low.now ≡ take groups summary → high.now ≡ drop groups summary → behind_loans loans ≡ behind_levels at words summary
  two_behind loans a b low high many groups words summary both lower upper few same front back = rw (both, lower, upper, front, back, few, same) refl
