-- Two runs from one memory whose spans get the same commands in the same order: the same replies, and the same memory.
use Rattle.std.proofs.Common.{◌≡◌, ◌≢◌, ◌⊎◌, ℕ, ◌+◌, ◌-◌, ◌*◌, ◌^◌, ◌<◌, ◌≤◌, Bool, true, false, List, [], ◌∷◌, ◌++◌, append-nil, drop, length, map, replicate, Some, refl, sym, ◌∙◌, ap, subst, inl, inr, arith}
use Rattle.std.specs.Prelude.{ℤ, pos, negsuc, nat_abs, ◌+ℤ◌, ◌*ℤ◌, ◌≤ℤ◌, ◌<ℤ◌, slice_get, slice_index, All}
use Rattle.std.proofs.lemmas.Int.{ints}
use Rattle.std.proofs.lemmas.List.{same_lists, get_or_default, drop_all}
use Rattle.std.proofs.lemmas.List.Elements.{All-head, All-tail}
use Rattle.std.proofs.lemmas.Option.{slice_get_cases, slice_get_within, get_or_from_slice_get}
use Rattle.bitvec.specs.Order.{IsOneToOne}
use Rattle.bitvec.proofs.IndexLemmas.{same_from_indices}
use Rattle.bitvec.specs.Memory.{bit_of}
use Rattle.bitvec_ptr.proofs.BitLemmas.{bit_of-word}
use Rattle.bitvec.specs.Span.{Span, Covers, Fits, list_of, element, with_filled}
use Rattle.bitvec.proofs.PartLemmas.{element-list_of}
use Rattle.bitvec.specs.declared.run.command.Request.{Request}
use Rattle.bitvec.specs.declared.run.command.Reply.{Reply}
use Rattle.bitvec.specs.declared.run.command.Command.{Command}
use Rattle.bitvec.specs.Commands.{alone}
use Rattle.bitvec.specs.Laws.{HaveSameOwnCommands, HaveSameOwnReplies}
use Rattle.bitvec.specs.Run.{IsRun, IsOutside, alone_from}
use Rattle.bitvec.proofs.ReplyLemmas.{own_replies-alone}
use Rattle.tests_bitvec.specs.SameRuns.{OrderBetweenSpansDoesNotMatter}

-- the bounds of a span that begins at a word from 0 on
covered_bounds : (word : ℤ) (bits head len place : ℕ) → pos 0 ≤ℤ word → ((word *ℤ pos bits) +ℤ pos head) ≤ℤ pos place → pos place <ℤ (((word *ℤ pos bits) +ℤ pos head) +ℤ pos len)
    → (nat_abs word * bits + head ≤ place) × (place < nat_abs word * bits + head + len)
covered_bounds (pos w) bits head len place from low high = (omega (arith, ints, low), omega (arith, ints, high))
covered_bounds (negsuc w) bits head len place from low high = absurd (omega (arith, ints, from))

-- memories in which a span has the same list have the same bit at each place of the span
bit_from_list : (bits : ℕ) (at : ℕ → ℕ) (span : Span) (words place : ℕ) (here there : List ℕ) → Fits bits span words → list_of bits at span here ≡ list_of bits at span there → Covers bits span (pos place)
    → bit_of bits at here place ≡ bit_of bits at there place
bit_from_list bits at span words place here there fits same covered =
    let bounds = covered_bounds span.word bits span.head span.len place fits.0 covered.0 covered.1 in
    let j : ℕ = place - (nat_abs span.word * bits + span.head) in
    let inside : place - (nat_abs span.word * bits + span.head) < span.len = omega (arith, bounds.0, bounds.1) in
    let back : nat_abs span.word * bits + span.head + (place - (nat_abs span.word * bits + span.head)) ≡ place = omega (arith, bounds.0) in
    ap (bit_of bits at here) (sym back)
    ∙ sym (element-list_of bits at span here j inside)
    ∙ ap (λ xs. element xs j) same
    ∙ element-list_of bits at span there j inside
    ∙ ap (bit_of bits at there) back

same_or_not : (a b : Bool) → (a ≡ b) ⊎ (a ≢ b)
same_or_not true true = inl refl
same_or_not true false = inr (λ e. cc)
same_or_not false true = inr (λ e. cc)
same_or_not false false = inl refl

-- each span fits
fits_of : {S : Type 0} (bits : ℕ) (view : S → Span) (spans : List S) (words s : ℕ) (span : S) → All (λ x. Fits bits (view x) words) spans → slice_get spans s ≡ Some span → Fits bits (view span) words
fits_of bits view spans words s span fits is = subst (λ x. Fits bits (view x) words) (get_or_from_slice_get spans s span span is) (fits s span (slice_get_within spans s span is))

module _ {S W : Type 0} (number : W → ℕ) (bits : ℕ) (at : ℕ → ℕ) (view : S → Span) (spans : List S) (old here there : List ℕ) (requests other_requests : List (Request W)) (replies other_replies : List (Reply ℕ))
    (same : HaveSameOwnCommands (length spans) requests other_requests)
    (run : IsRun number bits at view spans old requests replies here) (other_run : IsRun number bits at view spans old other_requests other_replies there) where
  -- what its commands give a span alone is the same in both
  same_alone : (s : ℕ) (span : S) → slice_get spans s ≡ Some span → alone_from number bits at (view span) old s requests ≡ alone_from number bits at (view span) old s other_requests
  same_alone s span is =
      ap (λ (cs : List (Command W)). alone number bits at (view span).head cs (list_of bits at (view span) old)) (same s (slice_get_within spans s span is))

  replies_of_numbers : HaveSameOwnReplies (length spans) requests replies other_requests other_replies
  replies_of_numbers s within =
      elim ((slice_get_cases spans s).1) [
        | inl found ↦ (
            own_replies-alone number bits at view spans old here requests replies run s found.0 found.2
            ∙ ap (λ (o : List (Reply ℕ) × List Bool). o.0) (same_alone s found.0 found.2)
            ∙ sym (own_replies-alone number bits at view spans old there other_requests other_replies other_run s found.0 found.2))
        | inr past ↦ absurd (omega (arith, past.0, within))
      ]

  same_list : (s : ℕ) (span : S) → slice_get spans s ≡ Some span → list_of bits at (view span) here ≡ list_of bits at (view span) there
  same_list s span is = run.placed.lists s span is ∙ ap (λ (o : List (Reply ℕ) × List Bool). o.1) (same_alone s span is) ∙ sym (other_run.placed.lists s span is)

  -- a bit that differed would lie in no span, and so be as before in both
  same_bit : All (λ span. Fits bits (view span) (length old)) spans → (place : ℕ) → bit_of bits at here place ≡ bit_of bits at there place
  same_bit fits place =
      elim (same_or_not (bit_of bits at here place) (bit_of bits at there place)) [
        | inl e ↦ e
        | inr differ ↦ (
            let outside : IsOutside bits view spans place = λ s span is covered. differ (bit_from_list bits at (view span) (length old) place here there (fits_of bits view spans (length old) s span fits is) (same_list s span is) covered) in
            run.placed.others place outside ∙ sym (other_run.placed.others place outside))
      ]

  same_number : All (λ span. Fits bits (view span) (length old)) spans → IsOneToOne bits at → (k : ℕ) → slice_index here k < 2 ^ bits → slice_index there k < 2 ^ bits → slice_index here k ≡ slice_index there k
  same_number fits law k below other_below =
      same_from_indices bits at (slice_index here k) (slice_index there k) law below other_below (λ i in_word.
      sym (bit_of-word bits at here k i in_word) ∙ same_bit fits (k * bits + i) ∙ bit_of-word bits at there k i in_word)

  same_memory : All (λ span. Fits bits (view span) (length old)) spans → IsOneToOne bits at
      → All (λ word. word < 2 ^ bits) here → All (λ word. word < 2 ^ bits) there → here ≡ there
  same_memory fits law below other_below =
      let long : length here ≡ length there =
      run.placed.as_many_words ∙ sym other_run.placed.as_many_words in
      same_lists here there long (λ k d h.
      let within : k < length there = omega (arith, h, long) in
      get_or_default here k d 0 h
      ∙ same_number fits law k (below k 0 h) (other_below k 0 within)
      ∙ sym (get_or_default there k d 0 within))

-- the law, of lists of numbers
pub same_runs : {W : Type 0} (number : W → ℕ) (bits : ℕ) (at : ℕ → ℕ) → IsOneToOne bits at → OrderBetweenSpansDoesNotMatter number bits at
same_runs number bits at law = λ spans old here there requests other_requests replies other_replies
    fits below other_below same run other_run.
    let view : Span → Span = λ x. x in (
      replies_of_numbers number bits at view spans old here there requests other_requests
          replies other_replies same run other_run,
      same_memory number bits at view spans old here there requests other_requests
          replies other_replies same run other_run fits law below other_below,
    )

-- memories of words below a limit are the same where the words have the same numbers
pub same_words : {W : Type 0} (number : W → ℕ) (limit : ℕ) → ((a b : W) → number a < limit → number b < limit → number a ≡ number b → a ≡ b) → (here there : List W) → All (λ word. number word < limit) here → All (λ word. number word < limit) there → map number here ≡ map number there → here ≡ there
same_words number limit one [] [] below other_below e = refl
same_words number limit one [] (b ∷ there) below other_below e = cc
same_words number limit one (a ∷ here) [] below other_below e = cc
same_words {W} number limit one (a ∷ here) (b ∷ there) below other_below e =
    let first : number a ≡ number b = cc in
    let rest : map number here ≡ map number there = cc in
    let Below : W → Type 0 = λ word. number word < limit in
    let same = one a b (All-head Below a here below) (All-head Below b there other_below) first in
    let others = same_words number limit one here there (All-tail Below a here below) (All-tail Below b there other_below) rest in
    rw (same, others) refl

-- a list with all of its bits made the same
pub filled_whole : (xs : List Bool) (len : ℕ) (bit : Bool) → length xs ≡ len → with_filled xs 0 len bit ≡ replicate len bit
filled_whole xs len bit long =
    let none : drop len xs ≡ [] = drop_all len xs (omega (arith, long)) in
    let many : len - 0 ≡ len = omega arith in
    rw (many, none) (append-nil (replicate len bit))
