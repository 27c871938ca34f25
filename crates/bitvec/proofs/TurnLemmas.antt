-- One list under two orders.
use Rattle.std.proofs.Common.{◌≡◌, ℕ, ◌+◌, ◌-◌, ◌*◌, ◌/◌, ◌%◌, ◌<◌, ◌≤◌, Bool, true, false, cond, eqb, List, [], ◌∷◌, length, get_or, ap, ◌∙◌, sym, refl, arith}
use Rattle.std.specs.Prelude.{nat_abs, nat_le, nat_lt, ◌&&◌, Option}
use Rattle.std.specs.List.{AllByRecursion, AllZip}
use Rattle.std.proofs.lemmas.Nat.{mod_below}
use Rattle.std.proofs.Math.Nat.{mul-le-mul_right}
use Rattle.bitvec_mem.specs.Digit.{digit}
use Rattle.bitvec_order.specs.Order.{IsOneToOne}
use Rattle.bitvec_order.proofs.IndexLemmas.{digit-number_of_at}
use Rattle.bitvec_ptr.specs.Memory.{memory_bits}
use Rattle.bitvec_ptr.specs.Place.{words_met}
use Rattle.bitvec_ptr.proofs.MemoryLemmas.{tabulate_same}
use Rattle.bitvec_ptr.proofs.BitLemmas.{length-memory_bits, get_or-memory_bits}
use Rattle.bitvec_span.specs.Span.{Span, Fits, list_of, element, word_of, with_word}
use Rattle.bitvec_span.proofs.WordsLemmas.{met_within}
use Rattle.bitvec.specs.declared.run.command.Command.{Command}
use Rattle.bitvec.specs.declared.run.command.Command.TheVariants.{Load, Store, Set, Clear, Invert, Read, Replace, Swap, Copy, Fill}
use Rattle.bitvec.specs.declared.run.command.Reply.{Reply}
use Rattle.bitvec.specs.Commands.{when, on_word, outcome, reply_in, list_in, alone}
use Rattle.bitvec.specs.Laws.{AreSameCommands, AreSameReplies, IsTurned}

module _ {W : Type 0} (number : W → ℕ) (bits : ℕ) (at other_at : ℕ → ℕ) (some : 0 < bits) (one : IsOneToOne bits at) (other_one : IsOneToOne bits other_at) (head : ℕ) where
  abbrev IsTurnedHere : ℕ → ℕ → Type 0
  IsTurnedHere = IsTurned bits at other_at

  -- a word of a list under the one order is turned to its word under the other
  word_turned : (xs : List Bool) (k : ℕ) → IsTurnedHere (word_of bits at head xs k) (word_of bits other_at head xs k)
  word_turned xs k i h =
      digit-number_of_at bits other_at (λ i. nat_le head (k * bits + i) && element xs (k * bits + i - head)) i other_one h
      ∙ sym (digit-number_of_at bits at (λ i. nat_le head (k * bits + i) && element xs (k * bits + i - head)) i one h)

  -- two outcomes are the same but for how words are written: neither is one, or the replies are so and the lists are equal
  abbrev AreSameOutcomes : Option (Reply ℕ × List Bool) → Option (Reply ℕ × List Bool) → Type 0
  AreSameOutcomes o p = (xs : List Bool) → AreSameReplies IsTurnedHere (reply_in o) (reply_in p) × (list_in xs o ≡ list_in xs p)

  same_when : (b : Bool) (r t : Reply ℕ) (ys zs : List Bool) → AreSameReplies IsTurnedHere r t → ys ≡ zs → AreSameOutcomes (when b r ys) (when b t zs)
  same_when true r t ys zs h e xs = (h, e)
  same_when false r t ys zs h e xs = (tt, refl)

  same_word : (xs : List Bool) (k : ℕ) (ys zs : List Bool) → ys ≡ zs → AreSameOutcomes (on_word bits at head xs k ys) (on_word bits other_at head xs k zs)
  same_word xs k ys zs e = same_when (nat_lt k (words_met bits head (length xs))) _ _ ys zs (word_turned xs k) e

  store_turned : (xs : List Bool) (k v w : ℕ) → IsTurnedHere v w → with_word bits head xs k (λ j. digit v (at ((head + j) % bits))) ≡ with_word bits head xs k (λ j. digit w (other_at ((head + j) % bits)))
  store_turned xs k v w turned =
      tabulate_same (length xs) _ _ false (λ j h. ap (λ b. cond (eqb ((head + j) / bits) k) b (element xs j)) (sym (turned ((head + j) % bits) (mod_below (head + j) bits some))))

  outcome_turned : (c d : Command W) (xs : List Bool) → AreSameCommands number number IsTurnedHere c d → AreSameOutcomes (outcome number bits at head c xs) (outcome number bits other_at head d xs)
  outcome_turned (Load k) (Load l) xs h = rw h (same_word xs l _ _ refl)
  outcome_turned (Store k v) (Store l w) xs h = let e = h.0 in rw e (same_word xs l _ _ (store_turned xs l (number v) (number w) h.1))
  outcome_turned (Set k) (Set l) xs h = rw h (same_word xs l _ _ refl)
  outcome_turned (Clear k) (Clear l) xs h = rw h (same_word xs l _ _ refl)
  outcome_turned (Invert k) (Invert l) xs h = rw h (same_word xs l _ _ refl)
  outcome_turned (Read i) (Read j) xs h = rw h (same_when (nat_lt j (length xs)) _ _ _ _ refl refl)
  outcome_turned (Replace i a) (Replace j b) xs h = let e = h.0 in let f = h.1 in rw (e, f) (same_when (nat_lt j (length xs)) _ _ _ _ refl refl)
  outcome_turned (Swap i k) (Swap j l) xs h = let e = h.0 in let f = h.1 in rw (e, f) (same_when (nat_lt j (length xs) && nat_lt l (length xs)) _ _ _ _ tt refl)
  outcome_turned (Copy from to count) (Copy other_from other_to other_count) xs h =
      let e = h.0 in let f = h.1 in let k = h.2 in
      rw (e, f, k) (same_when (nat_le (other_from + other_count) (length xs) && nat_le (other_to + other_count) (length xs)) _ _ _ _ tt refl)
  outcome_turned (Fill from to value) (Fill other_from other_to other_value) xs h =
      let e = h.0 in let f = h.1 in let k = h.2 in
      rw (e, f, k) (same_when (nat_le other_from other_to && nat_le other_to (length xs)) _ _ _ _ tt refl)
  outcome_turned _ _ xs h = absurd h

  -- turned commands give turned replies, and leave the same
  pub alone_turned : (cs ds : List (Command W)) (xs : List Bool) → AllZip (AreSameCommands number number IsTurnedHere) cs ds
      → AllZip (AreSameReplies IsTurnedHere) (alone number bits at head cs xs).0 (alone number bits other_at head ds xs).0
      × ((alone number bits at head cs xs).1 ≡ (alone number bits other_at head ds xs).1)
  alone_turned [] [] xs h = (tt, refl)
  alone_turned [] (d ∷ ds) xs h = absurd h
  alone_turned (c ∷ cs) [] xs h = absurd h
  alone_turned (c ∷ cs) (d ∷ ds) xs h =
      let first = outcome_turned c d xs h.0 xs in
      let after = first.1 in
      let rest = alone_turned cs ds (list_in xs (outcome number bits other_at head d xs)) h.1 in
      rw after ((first.0, rest.0), rest.1)

-- a place of a span that fits lies in the memory
pub place_within : (bits : ℕ) (span : Span) (n j : ℕ) → 0 < bits → Fits bits span n → j < span.len → nat_abs span.word * bits + span.head + j < n * bits
place_within bits span n j some fits h =
    let met = met_within bits span.head span.len j (words_met bits span.head span.len) some h (omega arith) in
    let last = fits.1 in
    let rows : (nat_abs span.word + words_met bits span.head span.len) * bits ≤ n * bits = mul-le-mul_right bits last in
    omega (arith, met, rows)

-- in memories with the same bits a span that fits has one list
pub list_of-same_bits : (bits : ℕ) (at other_at : ℕ → ℕ) (span : Span) (memory other : List ℕ) → 0 < bits → Fits bits span (length memory) → memory_bits bits at memory ≡ memory_bits bits other_at other
    → list_of bits at span memory ≡ list_of bits other_at span other
list_of-same_bits bits at other_at span memory other some fits same =
    let long : length memory * bits ≡ length other * bits = sym (length-memory_bits bits at memory) ∙ (ap length same ∙ length-memory_bits bits other_at other) in
    tabulate_same span.len _ _ false (λ j h.
    let place : ℕ = nat_abs span.word * bits + span.head + j in
    let within : nat_abs span.word * bits + span.head + j < length memory * bits = place_within bits span (length memory) j some fits h in
    sym (get_or-memory_bits bits at memory (nat_abs span.word * bits + span.head + j) false within)
    ∙ ap (λ bs. get_or bs (nat_abs span.word * bits + span.head + j) false) same
    ∙ get_or-memory_bits bits other_at other (nat_abs span.word * bits + span.head + j) false (omega (arith, within, long)))

-- spans that fit, in memories with the same bits: what `turned_orders` asks of the spans and their lists
pub same_bits-turned : (bits : ℕ) (at other_at : ℕ → ℕ) (spans : List Span) (memory other : List ℕ) → 0 < bits → AllByRecursion (λ span. Fits bits span (length memory)) spans → memory_bits bits at memory ≡ memory_bits bits other_at other
    → AllZip (λ (a b : Span). (a.head ≡ b.head) × (list_of bits at a memory ≡ list_of bits other_at b other)) spans spans
same_bits-turned bits at other_at [] memory other some fits same = tt
same_bits-turned bits at other_at (span ∷ spans) memory other some fits same =
    ((refl, list_of-same_bits bits at other_at span memory other some fits.0 same), same_bits-turned bits at other_at spans memory other some fits.1 same)
