-- A run can be cut at any request: into the run of those before it, and a run of the others that goes on from there.
use Rattle.std.proofs.Common.{◌≡◌, ℕ, zero, suc, ◌+◌, ◌-◌, ◌<◌, ◌≤◌, ◌/◌, ◌%◌, ◌==◌, if◌then◌else◌, Bool, true, false, not, ◌&&◌, nat_le, nat_lt, List, [], ◌∷◌, ◌++◌, length, length-append, length-drop, length-take-le, replicate, take, drop, ◌∙◌, ap, sym, refl, subst, Some, inl, inr, arith}
use Rattle.std.specs.Prelude.{slice_get, slice_set, swap}
use Rattle.std.proofs.Math.ListN.{length-set}
use Rattle.std.proofs.lemmas.Bool.{cases_Bool, leb-true}
use Rattle.std.proofs.lemmas.List.{length-replicate}
use Rattle.std.proofs.lemmas.List.Edits.{length-swap}
use Rattle.std.proofs.lemmas.Option.{none-some}
use Rattle.bitvec_order.specs.Order.{IsOneToOne}
use Rattle.bitvec_mem.specs.Digit.{digit}
use Rattle.bitvec_ptr.specs.Memory.{list_with_copy}
use Rattle.bitvec_ptr.specs.Place.{words_met}
use Rattle.bitvec_ptr.proofs.CopyLemmas.{length-copied}
use Rattle.bitvec_ptr.proofs.MemoryLemmas.{length-tabulate}
use Rattle.bitvec_span.specs.Span.{Span, list_of, element, word_of, with_word, with_filled}
use Rattle.bitvec_span.proofs.PartLemmas.{length-list_of}
use Rattle.bitvec.specs.declared.run.command.Command.{Command}
use Rattle.bitvec.specs.declared.run.command.Command.TheVariants.{Load, Store, Set, Clear, Invert, Read, Replace, Swap, Copy, Fill}
use Rattle.bitvec.specs.declared.run.command.Request.{Request}
use Rattle.bitvec.specs.declared.run.command.Reply.{Reply}
use Rattle.bitvec.specs.declared.run.command.Reply.TheVariants.{Word, Bit, Done}
use Rattle.bitvec.specs.Commands.{when, on_word, outcome, list_in, alone, own_commands}
use Rattle.bitvec.specs.Run.{CanRun, IsRun, IsPlaced, alone_from, reply_behind}
use Rattle.bitvec.proofs.AppendedRuns.{alone_from-append, reply_behind-append}
use Rattle.bitvec.proofs.PutLemmas.{put, put-placed}

-- a command leaves a list of the same length
length-when : (within : Bool) (reply : Reply ℕ) (xs ys : List Bool) → (within ≡ true → length ys ≡ length xs) → length (list_in xs (when within reply ys)) ≡ length xs
length-when true reply xs ys same = same refl
length-when false reply xs ys same = refl

both-true : (a b c d : ℕ) → (nat_le a b && nat_le c d) ≡ true → (a ≤ b) × (c ≤ d)
both-true a b c d h =
    elim (cases_Bool (nat_le a b)) [
      | inl first ↦ (leb-true a b first, leb-true c d (subst (λ t. (t && nat_le c d) ≡ true) first h))
      | inr beyond ↦ absurd (subst (λ t. (t && nat_le c d) ≡ true → ⊥) (sym beyond) (λ e. cc) h)
    ]

length-filled : (xs : List Bool) (from to : ℕ) (value : Bool) → from ≤ to → to ≤ length xs → length (with_filled xs from to value) ≡ length xs
length-filled xs from to value rises within =
    let front = length-take-le from xs (omega (arith, rises, within)) in
    let middle = length-replicate (to - from) value in
    let back = length-drop to xs in
    let first = length-append (take from xs) (replicate (to - from) value) in
    let sum : from + (to - from) + (length xs - to) ≡ length xs = omega (arith, rises, within) in
    length-append (take from xs ++ replicate (to - from) value) (drop to xs) ∙ (λ i. (first ∙ (λ j. front j + middle j)) i + back i) ∙ sum

length-on_word : (bits : ℕ) (at : ℕ → ℕ) (head : ℕ) (xs : List Bool) (k : ℕ) (f : ℕ → Bool) → length (list_in xs (on_word bits at head xs k (with_word bits head xs k f))) ≡ length xs
length-on_word bits at head xs k f =
    length-when (nat_lt k (words_met bits head (length xs))) (Word (word_of bits at head xs k)) xs (with_word bits head xs k f)
    (λ _. length-tabulate (length xs) (λ j. if (head + j) / bits == k then f j else element xs j))

length-outcome : {W : Type 0} (number : W → ℕ) (bits : ℕ) (at : ℕ → ℕ) (head : ℕ) (c : Command W) (xs : List Bool) → length (list_in xs (outcome number bits at head c xs)) ≡ length xs
length-outcome number bits at head (Load k) xs = length-when (nat_lt k (words_met bits head (length xs))) (Word (word_of bits at head xs k)) xs xs (λ _. refl)
length-outcome number bits at head (Store k v) xs = length-on_word bits at head xs k (λ j. digit (number v) (at ((head + j) % bits)))
length-outcome number bits at head (Set k) xs = length-on_word bits at head xs k (λ j. true)
length-outcome number bits at head (Clear k) xs = length-on_word bits at head xs k (λ j. false)
length-outcome number bits at head (Invert k) xs = length-on_word bits at head xs k (λ j. not (element xs j))
length-outcome number bits at head (Read i) xs = length-when (nat_lt i (length xs)) (Bit (element xs i)) xs xs (λ _. refl)
length-outcome number bits at head (Replace i b) xs = length-when (nat_lt i (length xs)) (Bit (element xs i)) xs (slice_set xs i b) (λ _. length-set xs i b)
length-outcome number bits at head (Swap i j) xs = length-when (nat_lt i (length xs) && nat_lt j (length xs)) Done xs (swap xs i j) (λ _. length-swap xs i j)
length-outcome number bits at head (Copy from to count) xs =
    length-when (nat_le (from + count) (length xs) && nat_le (to + count) (length xs)) Done xs (list_with_copy xs from xs to count)
    (λ h. let both = both-true (from + count) (length xs) (to + count) (length xs) h in length-copied xs from xs to count both.1 both.0)
length-outcome number bits at head (Fill from to value) xs =
    length-when (nat_le from to && nat_le to (length xs)) Done xs (with_filled xs from to value)
    (λ h. let both = both-true from to to (length xs) h in length-filled xs from to value both.0 both.1)

length-alone : {W : Type 0} (number : W → ℕ) (bits : ℕ) (at : ℕ → ℕ) (head : ℕ) (cs : List (Command W)) (xs : List Bool) → length (alone number bits at head cs xs).1 ≡ length xs
length-alone number bits at head [] xs = refl
length-alone number bits at head (c ∷ cs) xs =
    length-alone number bits at head cs (list_in xs (outcome number bits at head c xs)) ∙ length-outcome number bits at head c xs

-- an element of the first of two lists, beside two others as long
in_front : {A B : Type 0} (qs ps : List A) (rs ts : List B) (n : ℕ) (q : A) → length rs ≡ length qs → slice_get qs n ≡ Some q
    → (slice_get (qs ++ ps) n ≡ Some q) × (take n (qs ++ ps) ≡ take n qs) × (slice_get (rs ++ ts) n ≡ slice_get rs n)
in_front [] ps rs ts n q long is = absurd (none-some q is)
in_front (p ∷ qs) ps [] ts n q long is = absurd (omega (arith, long))
in_front (p ∷ qs) ps (r ∷ rs) ts zero q long is = (is, refl, refl)
in_front (p ∷ qs) ps (r ∷ rs) ts (suc n) q long is =
    let rest = in_front qs ps rs ts n q (omega (arith, long)) is in
    (rest.0, ap (λ xs. p ∷ xs) rest.1, rest.2)

-- and one of the second
behind_front : {A B : Type 0} (qs ps : List A) (rs ts : List B) (n m : ℕ) → length rs ≡ length qs → n ≡ length qs + m
    → (slice_get (qs ++ ps) n ≡ slice_get ps m) × (take n (qs ++ ps) ≡ qs ++ take m ps) × (slice_get (rs ++ ts) n ≡ slice_get ts m)
behind_front [] ps [] ts n m long e = let same : n ≡ m = omega (arith, e) in rw same (refl, refl, refl)
behind_front [] ps (r ∷ rs) ts n m long e = absurd (omega (arith, long))
behind_front (p ∷ qs) ps [] ts n m long e = absurd (omega (arith, long))
behind_front (p ∷ qs) ps (r ∷ rs) ts zero m long e = absurd (omega (arith, e))
behind_front (p ∷ qs) ps (r ∷ rs) ts (suc n) m long e =
    let rest = behind_front qs ps rs ts n m (omega (arith, long)) (omega (arith, e)) in
    (rest.0, ap (λ xs. p ∷ xs) rest.1, rest.2)

module _ {S W : Type 0} (number : W → ℕ) (bits : ℕ) (at : ℕ → ℕ) (view : S → Span) (spans : List S) (old new : List ℕ) (qs ps : List (Request W)) (rs ts : List (Reply ℕ))
    (some : 0 < bits) (law : IsOneToOne bits at) (can : CanRun bits view spans (length old)) (long : length rs ≡ length qs)
    (run : IsRun number bits at view spans old (qs ++ ps) (rs ++ ts) new) where
  abbrev left : ℕ → S → List Bool
  left s span = (alone_from number bits at (view span) old s qs).1

  -- the memory between
  abbrev mid : List ℕ
  mid = put bits at view left old spans

  mid-placed : IsPlaced bits at view spans left old mid
  mid-placed =
      put-placed bits at view left old spans some law can
      (λ s span is. length-alone number bits at (view span).head (own_commands s qs) (list_of bits at (view span) old) ∙ length-list_of bits at (view span) old)

  first : IsRun number bits at view spans old qs rs mid
  first = record {
    as_many = long;
    each = λ n q is.
        let both = in_front qs ps rs ts n q long is in
        sym both.2 ∙ run.each n q both.0 ∙ ap (λ before. Some (reply_behind number bits at view old before q (slice_get spans q.span))) both.1;
    placed = mid-placed;
  }

  rest : IsRun number bits at view spans mid ps ts new
  rest = record {
    as_many = let all = run.as_many in let replies = length-append rs ts in let requests = length-append qs ps in omega (arith, all, replies, requests, long);
    each = λ m q is.
        let both = behind_front qs ps rs ts (length qs + m) m long refl in
        sym both.2 ∙ run.each (length qs + m) q (both.0 ∙ is)
        ∙ ap (λ before. Some (reply_behind number bits at view old before q (slice_get spans q.span))) both.1
        ∙ ap (λ r. Some r) (sym (reply_behind-append number bits at view spans old mid qs (take m ps) mid-placed.lists q));
    placed = record {
      lists = λ s span is. run.placed.lists s span is ∙ sym (alone_from-append number bits at (view span) old mid s qs ps (mid-placed.lists s span is));
      others = λ place out. run.placed.others place out ∙ sym (mid-placed.others place out);
      apart = λ word head len from beside. run.placed.apart word head len from beside ∙ sym (mid-placed.apart word head len from beside);
      as_many_words = run.placed.as_many_words ∙ sym mid-placed.as_many_words;
    };
  }

  -- a run of two lists of requests is a run of the first that a run of the second goes on from
  pub run-cut : (between : List ℕ) × IsRun number bits at view spans old qs rs between × IsRun number bits at view spans between ps ts new
  run-cut = (mid, first, rest)
