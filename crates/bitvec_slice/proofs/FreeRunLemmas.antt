-- The first run of `count` zeros in a list that lies in words. `bits` is the width of a word, and `rises` says whether
-- positions rise with the index.
use Rattle.std.proofs.Common.{◌≡◌, ℕ, ◌+◌, ◌-◌, ◌*◌, ◌/◌, ◌<◌, ◌≤◌, Bool, true, false, true≢false, not, nat_le, ◌&&◌, List, length, Option, Some, None, MatchOption, refl, sym, ap, subst, ◌∙◌, inl, inr, arith}
use Rattle.std.proofs.lemmas.Bool.{cases_lt, le-leb, lt-leb, lt-ltb, le-ltb, ne_eqb}
use Rattle.std.proofs.lemmas.Nat.{div-add-mod', mod_below}
use Rattle.std.proofs.Math.Nat.{mul-le-mul_right}
use Rattle.bitvec.specs.Digit.{digit}
use Rattle.bitvec.specs.Order.{IsOneToOne}
use Rattle.bitvec.specs.Place.{words_met}
use Rattle.bitvec.specs.Span.{element, word_of}
use Rattle.bitvec.proofs.DigitLemmas.{digit-zero}
use Rattle.bitvec.proofs.IndexLemmas.{digit-number_of_at}
use Rattle.bitvec.proofs.PartLemmas.{inside-from_part}
use Rattle.bitvec.proofs.PlaceLemmas.{words_met-some}
use Rattle.bitvec_slice.specs.Bits.{AreFree}
use Rattle.bitvec_slice.specs.Field.{position_of, IsSequential}
use Rattle.bitvec.specs.Ones.{HasNoOne, IsLowestOne, IsHighestOne}
use Rattle.bitvec_slice.specs.FreeRuns.{digit_of, AllPass, IsFirstRun, AreStarts, behind, is_free}
use Rattle.bitvec_slice.proofs.FindLemmas.{test_at}
use Rattle.bitvec_slice.proofs.PartMasks.{IsLacking}

-- ---- the digits of a word

-- a word's digit of an index within it
pub digit_of-inside : (bits : ℕ) (rises : Bool) (word i : ℕ) → i < bits → digit_of bits rises word i ≡ digit word (position_of bits rises i)
unfolding digit_of
digit_of-inside bits rises word i h = rw (lt-ltb i bits h) refl

pub digit_of-past : (bits : ℕ) (rises : Bool) (word i : ℕ) → bits ≤ i → digit_of bits rises word i ≡ false
unfolding digit_of
digit_of-past bits rises word i h = rw (le-ltb i bits h) refl

-- a position is in the word
pub position_of-below : (bits : ℕ) (rises : Bool) (i : ℕ) → i < bits → position_of bits rises i < bits
position_of-below bits true i h = h
position_of-below bits false i h = omega arith

-- what a word has at each index, from what it has at each position
pub digit_of-not : (bits : ℕ) (rises : Bool) (word turned i : ℕ) → ((p : ℕ) → p < bits → digit turned p ≡ not (digit word p)) → i < bits → digit_of bits rises turned i ≡ not (digit_of bits rises word i)
digit_of-not bits rises word turned i is h =
    digit_of-inside bits rises turned i h ∙ is (position_of bits rises i) (position_of-below bits rises i h) ∙ ap not (sym (digit_of-inside bits rises word i h))

pub digit_of-and : (bits : ℕ) (rises : Bool) (a b both i : ℕ) → ((p : ℕ) → p < bits → digit both p ≡ (digit a p && digit b p)) → digit_of bits rises both i ≡ (digit_of bits rises a i && digit_of bits rises b i)
digit_of-and bits rises a b both i is =
    elim (cases_lt i bits) [
      | inl h ↦ (
          digit_of-inside bits rises both i h
          ∙ is (position_of bits rises i) (position_of-below bits rises i h)
          ∙ sym (rw (digit_of-inside bits rises a i h, digit_of-inside bits rises b i h) refl))
      | inr past ↦ (digit_of-past bits rises both i past ∙ sym (rw (digit_of-past bits rises a i past) refl))
    ]

-- a digit by its position
digit_of-rising : (bits : ℕ) (rises : Bool) (word i : ℕ) → rises ≡ true → i < bits → digit_of bits rises word i ≡ digit word i
digit_of-rising bits rises word i e h = digit_of-inside bits rises word i h ∙ rw e refl

digit_of-falling : (bits : ℕ) (rises : Bool) (word i : ℕ) → rises ≡ false → i < bits → digit_of bits rises word i ≡ digit word (bits - 1 - i)
digit_of-falling bits rises word i e h = digit_of-inside bits rises word i h ∙ rw e refl

-- no digit is one
pub digits_none : (bits : ℕ) (rises : Bool) (word i : ℕ) → HasNoOne bits word → digit_of bits rises word i ≡ false
digits_none bits rises word i none =
    elim (cases_lt i bits) [
      | inl h ↦ (digit_of-inside bits rises word i h ∙ none (position_of bits rises i) (position_of-below bits rises i h))
      | inr past ↦ digit_of-past bits rises word i past
    ]

-- the first digit that is one, and the last
pub first_rising : (bits : ℕ) (rises : Bool) (word p : ℕ) → rises ≡ true → IsLowestOne bits word p
    → (p < bits) × (digit_of bits rises word p ≡ true) × ((j : ℕ) → j < p → digit_of bits rises word j ≡ false)
first_rising bits rises word p e low =
    let below = low.0 in
    (low.0, digit_of-rising bits rises word p e low.0 ∙ low.1, (λ j h. digit_of-rising bits rises word j e (omega arith) ∙ low.2 j h))

pub last_rising : (bits : ℕ) (rises : Bool) (word p : ℕ) → rises ≡ true → IsHighestOne bits word p
    → (p < bits) × (digit_of bits rises word p ≡ true) × ((j : ℕ) → p < j → digit_of bits rises word j ≡ false)
last_rising bits rises word p e high = (
  high.0,
  digit_of-rising bits rises word p e high.0 ∙ high.1,
  (λ j h. elim (cases_lt j bits) [
    | inl inside ↦ (digit_of-rising bits rises word j e inside ∙ high.2 j h inside)
    | inr past ↦ digit_of-past bits rises word j past
  ]),
)

pub first_falling : (bits : ℕ) (rises : Bool) (word p i mask : ℕ) → rises ≡ false → mask ≡ bits - 1 → i ≡ mask - p → IsHighestOne bits word p
    → (i < bits) × (digit_of bits rises word i ≡ true) × ((j : ℕ) → j < i → digit_of bits rises word j ≡ false)
first_falling bits rises word p i mask e m d high =
    let below = high.0 in
    let here : bits - 1 - i ≡ p = omega arith in (
      omega arith,
      digit_of-falling bits rises word i e (omega arith) ∙ ap (digit word) here ∙ high.1,
      (λ j h. digit_of-falling bits rises word j e (omega arith) ∙ high.2 (bits - 1 - j) (omega arith) (omega arith)),
    )

pub last_falling : (bits : ℕ) (rises : Bool) (word p i mask : ℕ) → rises ≡ false → mask ≡ bits - 1 → i ≡ mask - p → IsLowestOne bits word p
    → (i < bits) × (digit_of bits rises word i ≡ true) × ((j : ℕ) → i < j → digit_of bits rises word j ≡ false)
last_falling bits rises word p i mask e m d low =
    let below = low.0 in
    let here : bits - 1 - i ≡ p = omega arith in (
      omega arith,
      digit_of-falling bits rises word i e (omega arith) ∙ ap (digit word) here ∙ low.1,
      (λ j h. elim (cases_lt j bits) [
        | inl inside ↦ (digit_of-falling bits rises word j e inside ∙ low.2 (bits - 1 - j) (omega arith))
        | inr past ↦ digit_of-past bits rises word j past
      ]),
    )

pub first_rising_any : (bits : ℕ) (rises : Bool) (word : ℕ) (o : Option ℕ) → rises ≡ true → MatchOption o (HasNoOne bits word) (IsLowestOne bits word)
    → MatchOption o ((i : ℕ) → digit_of bits rises word i ≡ false) (λ i. (i < bits) × (digit_of bits rises word i ≡ true) × ((j : ℕ) → j < i → digit_of bits rises word j ≡ false))
first_rising_any bits rises word None e none = λ i. digits_none bits rises word i none
first_rising_any bits rises word (Some p) e low = first_rising bits rises word p e low

pub last_rising_any : (bits : ℕ) (rises : Bool) (word : ℕ) (o : Option ℕ) → rises ≡ true → MatchOption o (HasNoOne bits word) (IsHighestOne bits word)
    → MatchOption o ((i : ℕ) → digit_of bits rises word i ≡ false) (λ i. (i < bits) × (digit_of bits rises word i ≡ true) × ((j : ℕ) → i < j → digit_of bits rises word j ≡ false))
last_rising_any bits rises word None e none = λ i. digits_none bits rises word i none
last_rising_any bits rises word (Some p) e high = last_rising bits rises word p e high

pub true_from_not : (b : Bool) → not b ≡ false → b ≡ true
true_from_not true e = refl
true_from_not false e = sym e

false_from_not : (b : Bool) → not b ≡ true → b ≡ false
false_from_not true e = sym e
false_from_not false e = refl

-- a digit, from that of the word turned over
pub one_from_turned : (bits : ℕ) (rises : Bool) (word turned i : ℕ) → ((p : ℕ) → p < bits → digit turned p ≡ not (digit word p)) → i < bits → digit_of bits rises turned i ≡ false → digit_of bits rises word i ≡ true
one_from_turned bits rises word turned i is h e = true_from_not (digit_of bits rises word i) (sym (digit_of-not bits rises word turned i is h) ∙ e)

pub zero_from_turned : (bits : ℕ) (rises : Bool) (word turned i : ℕ) → ((p : ℕ) → p < bits → digit turned p ≡ not (digit word p)) → i < bits → digit_of bits rises turned i ≡ true → digit_of bits rises word i ≡ false
zero_from_turned bits rises word turned i is h e = false_from_not (digit_of bits rises word i) (sym (digit_of-not bits rises word turned i is h) ∙ e)

-- digits brought to lower indices, by a move down or up
pub brought_rising : (bits : ℕ) (rises : Bool) (word moved n : ℕ) → rises ≡ true
    → ((p : ℕ) → n + p < bits → digit moved p ≡ digit word (n + p)) → ((p : ℕ) → p < bits → bits ≤ n + p → digit moved p ≡ false)
    → (i : ℕ) → digit_of bits rises moved i ≡ digit_of bits rises word (n + i)
brought_rising bits rises word moved n e low high i =
    elim (cases_lt (n + i) bits) [
      | inl h ↦ (digit_of-rising bits rises moved i e (omega arith) ∙ low i h ∙ sym (digit_of-rising bits rises word (n + i) e h))
      | inr past ↦ (elim (cases_lt i bits) [
        | inl inside ↦ (digit_of-rising bits rises moved i e inside ∙ high i inside past)
        | inr out ↦ digit_of-past bits rises moved i out
      ]
          ∙ sym (digit_of-past bits rises word (n + i) past))
    ]

pub brought_falling : (bits : ℕ) (rises : Bool) (word moved n : ℕ) → rises ≡ false
    → ((p : ℕ) → p < n → digit moved p ≡ false) → ((p : ℕ) → n + p < bits → digit moved (n + p) ≡ digit word p)
    → (i : ℕ) → digit_of bits rises moved i ≡ digit_of bits rises word (n + i)
brought_falling bits rises word moved n e low high i =
    elim (cases_lt (n + i) bits) [
      | inl h ↦ (
          let up : bits - 1 - i ≡ n + (bits - 1 - (n + i)) = omega arith in
          digit_of-falling bits rises moved i e (omega arith) ∙ ap (digit moved) up ∙ high (bits - 1 - (n + i)) (omega arith) ∙ sym (digit_of-falling bits rises word (n + i) e h))
      | inr past ↦ (elim (cases_lt i bits) [
        | inl inside ↦ (digit_of-falling bits rises moved i e inside ∙ low (bits - 1 - i) (omega arith))
        | inr out ↦ digit_of-past bits rises moved i out
      ]
          ∙ sym (digit_of-past bits rises word (n + i) past))
    ]

pub digit_of-zero : (bits : ℕ) (rises : Bool) (word i : ℕ) → word ≡ 0 → digit_of bits rises word i ≡ false
digit_of-zero bits rises word i e = digits_none bits rises word i (λ p h. ap (λ w. digit w p) e ∙ digit-zero p)

-- ---- runs in a test

both_true : (a b : Bool) → (a && b) ≡ true → (a ≡ true) × (b ≡ true)
both_true true true e = (refl, refl)
both_true true false e = (refl, e)
both_true false b e = absurd (true≢false (sym e))

true_both : (a b : Bool) → a ≡ true → b ≡ true → (a && b) ≡ true
true_both a b d e = rw (d, e) refl

-- a run is one more stretch long where one that is no shorter begins that far on
pub starts_longer : (test starts more : ℕ → Bool) (have by : ℕ) → by ≤ have → AreStarts test have starts → ((i : ℕ) → more i ≡ (starts i && starts (by + i))) → AreStarts test (have + by) more
starts_longer test starts more have by short are is i = (
  (λ e j from upto.
      let parts = both_true (starts i) (starts (by + i)) (sym (is i) ∙ e) in
      elim (cases_lt j (i + have)) [
        | inl near ↦ (are i).0 parts.0 j from near
        | inr far ↦ (are (by + i)).0 parts.1 j (omega arith) (omega arith)
      ]),
  (λ all. is i ∙ true_both (starts i) (starts (by + i))
      ((are i).1 (λ j from upto. all j from (omega arith)))
      ((are (by + i)).1 (λ j from upto. all j (omega arith) (omega arith)))),
)

-- where no run begins, no longer one does
pub starts_none : (test starts : ℕ → Bool) (have count : ℕ) → have ≤ count → AreStarts test have starts → ((i : ℕ) → starts i ≡ false) → AreStarts test count starts
starts_none test starts have count short are none i = (
  (λ e. absurd (true≢false (sym e ∙ none i))),
  (λ all. (are i).1 (λ j from upto. all j from (omega arith))),
)

-- ---- a run in a word, with those that pass before it

pub behind-first : (before : ℕ) (test : ℕ → Bool) (t : ℕ) → t < before → behind before test t ≡ true
unfolding behind
behind-first before test t h = rw (lt-ltb t before h) refl

pub behind-later : (before : ℕ) (test : ℕ → Bool) (t i : ℕ) → t ≡ before + i → behind before test t ≡ test i
unfolding behind
behind-later before test t i e = rw (le-ltb t before (omega arith)) (ap test (let same : t - before ≡ i = omega arith in same))

-- the run goes on from those before the word
pub first_run-early : (before low count : ℕ) (test : ℕ → Bool) → count ≤ before + low → ((j : ℕ) → j < low → test j ≡ true) → IsFirstRun (behind before test) count 0
first_run-early before low count test enough ones = (
  (λ j from upto. elim (cases_lt j before) [
    | inl early ↦ behind-first before test j early
    | inr late ↦ (behind-later before test j (j - before) (omega arith) ∙ ones (j - before) (omega arith))
  ]),
  (λ t h all. absurd (omega arith)),
)

-- a run in the word is one behind them
to_behind : (before count i : ℕ) (test : ℕ → Bool) → AllPass test i count → AllPass (behind before test) (before + i) count
to_behind before count i test all j from upto = behind-later before test j (j - before) (omega arith) ∙ all (j - before) (omega arith) (omega arith)

-- where the word's first `low` digits end those that pass, and too early
module _ (before low count : ℕ) (test starts : ℕ → Bool) (short : before + low < count) (stop : test low ≡ false) (are : AreStarts test count starts) where
  -- no run begins before the word
  none_early : (t : ℕ) → t < before → ¬ AllPass (behind before test) t count
  none_early t early all =
      true≢false (sym (all (before + low) (omega arith) (omega arith)) ∙ behind-later before test (before + low) low refl ∙ stop)

  -- a run from the word on is one in the word
  from_behind : (i : ℕ) → AllPass (behind before test) (before + i) count → AllPass test i count
  from_behind i all j from upto = sym (behind-later before test (before + j) j refl) ∙ all (before + j) (omega arith) (omega arith)

  -- none begins before the first in the word
  none_later : (i : ℕ) → ((j : ℕ) → j < i → starts j ≡ false) → (t : ℕ) → t < before + i → ¬ AllPass (behind before test) t count
  none_later i none t h all =
      elim (cases_lt t before) [
        | inl early ↦ none_early t early all
        | inr late ↦ (
            let e : t ≡ before + (t - before) = omega arith in
            let here = (are (t - before)).1 (from_behind (t - before) (subst (λ n. AllPass (behind before test) n count) e all)) in
            true≢false (sym here ∙ none (t - before) (omega arith)))
      ]

  -- the first in the word is the first of all
  pub first_run-in_word : (i : ℕ) → starts i ≡ true → ((j : ℕ) → j < i → starts j ≡ false) → IsFirstRun (behind before test) count (before + i)
  first_run-in_word i here none = (to_behind before count i test ((are i).0 here), none_later i none)

  -- where none is in the word there is none
  pub first_run-none : ((j : ℕ) → starts j ≡ false) → (s : ℕ) → ¬ AllPass (behind before test) s count
  first_run-none none s = none_later (s + 1) (λ j h. none j) s (omega arith)

-- ---- a run over words

-- Up to the word that begins at `place` no run of `count` begins but among the `before` places before it, which pass.
pub record IsPassed (test : ℕ → Bool) (count place before : ℕ) : Type 0 where
  pub short : before < count
  pub within : before ≤ place
  pub ones : (j : ℕ) → place ≤ j + before → j < place → test j ≡ true
  pub none : (m : ℕ) → m + before < place → ¬ AllPass test m count

-- at the start nothing is passed
pub passed_none : (test : ℕ → Bool) (count place : ℕ) → 0 < count → place ≡ 0 → IsPassed test count place 0
passed_none test count place some e = record {
  short = some;
  within = omega arith;
  ones = λ j from upto. absurd (omega arith);
  none = λ m h. absurd (omega arith);
}

-- the word at `place` shows the test, and nothing past its width
pub record IsWordAt (test : ℕ → Bool) (bits place : ℕ) (word : ℕ → Bool) : Type 0 where
  pub inside : (i : ℕ) → i < bits → word i ≡ test (place + i)
  pub past : (i : ℕ) → bits ≤ i → word i ≡ false

module _ (test word : ℕ → Bool) (bits count place before : ℕ) (passed : IsPassed test count place before) (here : IsWordAt test bits place word) where
  -- what is behind the places before the word is the test from there on
  at_place : (t : ℕ) → t < before + bits → behind before word t ≡ test (place - before + t)
  at_place t h =
      let w = passed.within in
      elim (cases_lt t before) [
        | inl early ↦ (behind-first before word t early ∙ sym (passed.ones (place - before + t) (omega arith) (omega arith)))
        | inr late ↦ (
            let e : place + (t - before) ≡ place - before + t = omega arith in
            behind-later before word t (t - before) (omega arith) ∙ here.inside (t - before) (omega arith) ∙ ap test e)
      ]

  -- a run there ends in the word
  run_inside : (s : ℕ) → AllPass (behind before word) s count → s + count ≤ before + bits
  run_inside s all =
      let c = passed.short in
      elim (cases_lt (before + bits) (s + count)) [
        | inl over ↦ absurd (elim (cases_lt s (before + bits)) [
          | inl starts ↦ true≢false (sym (all (before + bits) (omega arith) over) ∙ behind-later before word (before + bits) bits refl ∙ here.past bits (omega arith))
          | inr far ↦ true≢false (sym (all s (omega arith) (omega arith)) ∙ behind-later before word s (s - before) (omega arith) ∙ here.past (s - before) (omega arith))
        ])
        | inr within ↦ within
      ]

  to_word : (m t : ℕ) → place - before + t ≡ m → t + count ≤ before + bits → AllPass test m count → AllPass (behind before word) t count
  to_word m t e room all j from upto = at_place j (omega arith) ∙ all (place - before + j) (omega arith) (omega arith)

  -- the first run there is the first of all
  pub first_of_all : (s m : ℕ) → m + before ≡ place + s → IsFirstRun (behind before word) count s → IsFirstRun test count m
  first_of_all s m e first =
      let room = run_inside s first.0 in
      let w = passed.within in (
        (λ j from upto.
            let back : place - before + (j + before - place) ≡ j = omega arith in
            ap test (sym back) ∙ sym (at_place (j + before - place) (omega arith)) ∙ first.0 (j + before - place) (omega arith) (omega arith)),
        (λ t h all. elim (cases_lt (t + before) place) [
          | inl early ↦ passed.none t early all
          | inr late ↦ first.1 (t + before - place) (omega arith) (to_word t (t + before - place) (omega arith) (omega arith) all)
        ]),
      )

  -- where there is none, the word is passed too
  pub passed_more : (after next : ℕ) → count ≤ bits → next ≡ place + bits → after ≤ bits
      → ((j : ℕ) → bits ≤ j + after → j < bits → word j ≡ true) → ((j : ℕ) → j + after + 1 ≡ bits → word j ≡ false)
      → ((s : ℕ) → ¬ AllPass (behind before word) s count) → IsPassed test count next after
  passed_more after next most e fits ones stop none =
      let w = passed.within in
      let few : after < count = elim (cases_lt after count) [
        | inl less ↦ less
        | inr enough ↦ absurd (none (before + (bits - after)) (to_behind before count (bits - after) word (λ j from upto. ones j (omega arith) (omega arith))))
      ] in
      record {
        short = few;
        within = omega arith;
        ones = λ j from upto.
            let back : place + (j - place) ≡ j = omega arith in
            ap test (sym back) ∙ sym (here.inside (j - place) (omega arith)) ∙ ones (j - place) (omega arith) (omega arith);
        none = λ m h all. elim (cases_lt (m + before) place) [
          | inl early ↦ passed.none m early all
          | inr late ↦ elim (cases_lt (before + bits) (m + before - place + count)) [
            | inl over ↦ (
                let back : place + (bits - after - 1) ≡ place + bits - after - 1 = omega arith in
                true≢false (sym (all (place + bits - after - 1) (omega arith) (omega arith)) ∙ ap test (sym back) ∙ sym (here.inside (bits - after - 1) (omega arith)) ∙ stop (bits - after - 1) (omega arith)))
            | inr room ↦ none (m + before - place) (to_word m (m + before - place) (omega arith) room all)
          ]
        ];
      }

-- where all words are passed there is no run that ends in them
pub passed_all : (test : ℕ → Bool) (count place before : ℕ) → IsPassed test count place before → (m : ℕ) → m + count ≤ place → ¬ AllPass test m count
passed_all test count place before passed m room all =
    let few = passed.short in
    passed.none m (omega arith) all

-- ---- the zeros of a list

pub is_free-before : (head : ℕ) (xs : List Bool) (m : ℕ) → m < head → is_free head xs m ≡ false
unfolding is_free
is_free-before head xs m h = rw (lt-leb head m h) refl

pub is_free-inside : (head : ℕ) (xs : List Bool) (m i : ℕ) → m ≡ head + i → i < length xs → is_free head xs m ≡ not (element xs i)
unfolding is_free
is_free-inside head xs m i e h =
    let same : m - head ≡ i = omega arith in
    rw (le-leb head m (omega arith), same, lt-ltb i (length xs) h) refl

pub is_free-past : (head : ℕ) (xs : List Bool) (m : ℕ) → head + length xs ≤ m → is_free head xs m ≡ false
unfolding is_free
is_free-past head xs m h = rw (le-leb head m (omega arith), le-ltb (m - head) (length xs) (omega arith)) refl

-- what passes is an element
free_inside : (head : ℕ) (xs : List Bool) (m : ℕ) → is_free head xs m ≡ true → (head ≤ m) × (m < head + length xs)
free_inside head xs m e =
    elim (cases_lt m head) [
      | inl early ↦ absurd (true≢false (sym e ∙ is_free-before head xs m early))
      | inr from ↦ elim (cases_lt m (head + length xs)) [
        | inl upto ↦ (from, upto)
        | inr past ↦ absurd (true≢false (sym e ∙ is_free-past head xs m past))
      ]
    ]

not_true : (b : Bool) → not b ≡ true → b ≡ false
not_true true e = sym e
not_true false e = refl

pub free_from_run : (head : ℕ) (xs : List Bool) (m i count : ℕ) → 0 < count → m ≡ head + i → AllPass (is_free head xs) m count → AreFree xs i count
free_from_run head xs m i count some e all =
    let last = free_inside head xs (m + count - 1) (all (m + count - 1) (omega arith) (omega arith)) in (
      omega (arith, last.1),
      (λ j from upto. not_true (element xs j) (sym (is_free-inside head xs (head + j) j refl (omega (arith, last.1))) ∙ all (head + j) (omega arith) (omega arith))),
    )

pub run_from_free : (head : ℕ) (xs : List Bool) (i count : ℕ) → AreFree xs i count → AllPass (is_free head xs) (head + i) count
run_from_free head xs i count free j from upto =
    let room = free.0 in
    is_free-inside head xs j (j - head) (omega arith) (omega arith) ∙ ap not (free.1 (j - head) (omega arith) (omega arith))

-- the first run of zeros
pub first_free : (head : ℕ) (xs : List Bool) (m i count : ℕ) → 0 < count → i ≡ m - head → IsFirstRun (is_free head xs) count m
    → (head ≤ m) × AreFree xs i count × ((k : ℕ) → k < i → ¬ AreFree xs k count)
first_free head xs m i count some e first =
    let start = free_inside head xs m (first.0 m (omega arith) (omega arith)) in
    let from = start.0 in
    (start.0, free_from_run head xs m i count some (omega arith) first.0, (λ k h free. first.1 (head + k) (omega arith) (run_from_free head xs k count free)))

-- ---- words that the list lies in

-- a word whose ones are the list's zeros shows them
pub shows_free : (bits : ℕ) (rises : Bool) (at : ℕ → ℕ) (number head : ℕ) (xs : List Bool) (k : ℕ) → IsSequential bits rises at
    → ((i : ℕ) → i < bits → digit number (at i) ≡ is_free head xs (k * bits + i)) → IsWordAt (is_free head xs) bits (k * bits) (digit_of bits rises number)
shows_free bits rises at number head xs k order digits = record {
  inside = λ i h. digit_of-inside bits rises number i h ∙ ap (digit number) (sym (order.positions i h)) ∙ digits i h;
  past = λ i h. digit_of-past bits rises number i h;
}

and_true : (a b : Bool) → b ≡ true → (a && b) ≡ a
and_true true b e = e
and_true false b e = refl

and_false : (a b : Bool) → b ≡ false → (a && b) ≡ false
and_false true b e = e
and_false false b e = refl

-- what the word of a list has at an index
word_digit : (bits : ℕ) (at : ℕ → ℕ) (head k number i : ℕ) (xs : List Bool) → IsOneToOne bits at → number ≡ word_of bits at head xs k → i < bits → head ≤ k * bits + i
    → digit number (at i) ≡ element xs (k * bits + i - head)
word_digit bits at head k number i xs law is h from =
    ap (λ w. digit w (at i)) is
    ∙ digit-number_of_at bits at (λ i. nat_le head (k * bits + i) && element xs (k * bits + i - head)) i law h
    ∙ test_at head xs (k * bits + i) (k * bits + i - head) (omega arith)

-- a word of the list, turned over
module _ (bits : ℕ) (at : ℕ → ℕ) (head len k : ℕ) (xs : List Bool) (number turned : ℕ) (law : IsOneToOne bits at) (long : length xs ≡ len) (over : (p : ℕ) → p < bits → digit turned p ≡ not (digit number p)) where
  -- under a mask of the list's places
  pub free_masked : (mask both : ℕ) → number ≡ word_of bits at head xs k → IsLacking bits at head len k true mask
      → ((p : ℕ) → p < bits → digit both p ≡ (digit turned p && digit mask p))
      → (i : ℕ) → i < bits → digit both (at i) ≡ is_free head xs (k * bits + i)
  free_masked mask both is lacking and i h =
      let small = law.below i h in
      and (at i) small
      ∙ elim (cases_lt (k * bits + i) head) [
        | inl before ↦ (and_false (digit turned (at i)) (digit mask (at i)) (lacking.before i h before) ∙ sym (is_free-before head xs (k * bits + i) before))
        | inr from ↦ elim (cases_lt (k * bits + i) (head + len)) [
          | inl upto ↦ (
              and_true (digit turned (at i)) (digit mask (at i)) (lacking.inside i h from upto)
              ∙ over (at i) small
              ∙ ap not (word_digit bits at head k number i xs law is h from)
              ∙ sym (is_free-inside head xs (k * bits + i) (k * bits + i - head) (omega arith) (omega arith)))
          | inr past ↦ (and_false (digit turned (at i)) (digit mask (at i)) (lacking.past i h past) ∙ sym (is_free-past head xs (k * bits + i) (omega arith)))
        ]
      ]

  -- between the first word and the last
  pub free_whole : head < bits → 0 < k → k + 1 < words_met bits head len → ((p : ℕ) → p < bits → digit number p ≡ digit (word_of bits at head xs k) p)
      → (i : ℕ) → i < bits → digit turned (at i) ≡ is_free head xs (k * bits + i)
  free_whole in_head later more is i h =
      let small = law.below i h in
      let place = inside-from_part bits head len k i in_head h (omega arith) (rw (ne_eqb k 0 (omega arith)) (omega arith)) (rw (ne_eqb (k + 1) (words_met bits head len) (omega arith)) h) in
      let from = place.0 in
      let upto = place.1 in
      over (at i) small
      ∙ ap not (is (at i) small ∙ word_digit bits at head k (word_of bits at head xs k) i xs law refl h place.0)
      ∙ sym (is_free-inside head xs (k * bits + i) (k * bits + i - head) (omega arith) (omega arith))

-- the words that a list meets have room for it
pub met_enough : (bits head len : ℕ) → 0 < bits → 0 < len → head + len ≤ words_met bits head len * bits
met_enough bits head len some many =
    let met : words_met bits head len * bits ≡ ((head + len - 1) / bits + 1) * bits = ap (λ n. n * bits) (words_met-some bits head len many) in
    omega (arith, met, div-add-mod' (head + len - 1) bits, mod_below (head + len - 1) bits some)

-- where all words are passed, no run is free
module _ (bits head len : ℕ) (xs : List Bool) (some : 0 < bits) (long : length xs ≡ len) where
  pub none_free : (k met before count : ℕ) → 0 < count → met ≡ words_met bits head len → met ≤ k → IsPassed (is_free head xs) count (k * bits) before → (i : ℕ) → ¬ AreFree xs i count
  none_free k met before count many is all passed i free =
      let room = free.0 in
      let enough = met_enough bits head len some (omega arith) in
      let row : met * bits ≡ words_met bits head len * bits = ap (λ n. n * bits) is in
      let most : met * bits ≤ k * bits = mul-le-mul_right bits all in
      passed_all (is_free head xs) count (k * bits) before passed (head + i) (omega arith) (run_from_free head xs i count free)
