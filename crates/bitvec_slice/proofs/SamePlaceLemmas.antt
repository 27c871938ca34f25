-- Lists of spans, and edits of them, under two orders that take each index to the same position.
use Rattle.std.proofs.Common.{◌≡◌, ℕ, ◌+◌, ◌*◌, ◌/◌, ◌%◌, ◌<◌, Bool, false, List, sym, ap, ◌∙◌}
use Rattle.std.specs.Prelude.{nat_abs, slice_index}
use Rattle.std.proofs.lemmas.Nat.{mod_below}
use Rattle.bitvec.specs.Digit.{digit}
use Rattle.bitvec.specs.Memory.{bit_of}
use Rattle.bitvec.specs.Span.{Span, BecomesList, list_of}
use Rattle.bitvec.proofs.BecomesLemmas.{becomes}
use Rattle.bitvec.proofs.MemoryLemmas.{tabulate_same}

module _ (bits : ℕ) (at other : ℕ → ℕ) (some : 0 < bits) (same : (i : ℕ) → i < bits → at i ≡ other i) where
  bit-same : (words : List ℕ) (place : ℕ) → bit_of bits at words place ≡ bit_of bits other words place
  bit-same words place = ap (digit (slice_index words (place / bits))) (same (place % bits) (mod_below place bits some))

  pub list-same : (span : Span) (words : List ℕ) → list_of bits at span words ≡ list_of bits other span words
  list-same span words = tabulate_same span.len _ _ false (λ j h. bit-same words (nat_abs span.word * bits + span.head + j))

  pub becomes-under : (span : Span) (old new : List ℕ) (xs : List Bool) → BecomesList bits other span old new xs → BecomesList bits at span old new xs
  becomes-under span old new xs edit =
      becomes bits at span old new xs
      (list-same span new ∙ edit.list)
      (λ place out. bit-same new place ∙ edit.others place out ∙ sym (bit-same old place))
      edit.words
