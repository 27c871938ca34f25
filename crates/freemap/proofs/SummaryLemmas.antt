-- What a map of words says of the blocks in them.
use Rattle.std.proofs.Common.{◌≡◌, ◌⊎◌, inl, inr, ◌↔◌, ℕ, ◌+◌, ◌-◌, ◌*◌, ◌/◌, ◌<◌, ◌≤◌, Bool, true, false, true≢false, List, length, refl, sym, ap, ◌∙◌, subst, arith}
use Rattle.std.specs.Prelude.{Option, None, Some, MatchOption, min, slice_range}
use Rattle.std.proofs.lemmas.Bool.{cases_lt}
use Rattle.bitvec.specs.Span.{element, with_filled}
use Rattle.bitvec.specs.Truths.{AllAre, IsFirst}
use Rattle.bitvec_slice.specs.Bits.{AreFree}
use Rattle.bitvec_slice.specs.Patterns.{IsLeast}
use Rattle.bitvec_slice.proofs.EditRangeLemmas.{filled_new, filled_kept, range_long}
use Rattle.freemap.specs.Blocks.{IsLowest, word_count}
use Rattle.freemap.proofs.SearchLemmas.{range_element}
use Rattle.freemap.specs.Summary.{IsFull, IsFullFrom, IsFirstFreeOf, SaysOf, Summarises, SummarisesBeside}

-- a block lies in the word of its number divided by 64
in_word : (b : ℕ) → (b / 64 * 64 ≤ b) × (b < b / 64 * 64 + 64)
in_word b = (omega arith, omega arith)

-- the word of a block is one of the words
word_there : (blocks words b : ℕ) → words ≡ word_count blocks → b < blocks → b / 64 < words
word_there blocks words b are h = omega arith

-- an element of a word that has no free block is no free block
not_in_full : (used : List Bool) (w b count : ℕ) → IsFull used w → w * 64 ≤ b → b < w * 64 + 64 → ¬ AreFree used b 1
not_in_full used w b count full from upto free =
    let room = free.0 in
    true≢false (sym (full b from upto (omega (arith, room))) ∙ free.1 b (omega arith) (omega arith))

-- an element that is no free one is true
on_where_not_free : (xs : List Bool) (i : ℕ) → i < length xs → ¬ AreFree xs i 1 → element xs i ≡ true
on_where_not_free xs i inside none = by_value (element xs i) refl where
  by_value : (v : Bool) → element xs i ≡ v → element xs i ≡ true
  by_value true e = e
  by_value false e = absurd (none (omega (arith, inside), λ j a b. ap (element xs) (let here : j ≡ i = omega (arith, a, b) in here) ∙ e))

-- the lowest free block of a word is free
first_free_one : (used : List Bool) (w b : ℕ) → IsFirstFreeOf used w b → AreFree used b 1
first_free_one used w b first = (omega (arith, first.inside), λ j a h. ap (element used) (let here : j ≡ b = omega (arith, a, h) in here) ∙ first.free)

module _ (used full : List Bool) (sum : Summarises used full) where
  -- a block is not free where its word has no free one
  pub none_in_word : (b : ℕ) → ¬ AreFree full (b / 64) 1 → ¬ AreFree used b 1
  none_in_word b none free =
      let room = free.0 in
      let there = word_there (length used) (length full) b sum.words (omega (arith, room)) in
      not_in_full used (b / 64) b 1 ((sum.says (b / 64) there).0 (on_where_not_free full (b / 64) there none)) (in_word b).0 (in_word b).1 free

  -- no word has a free block, so none is free
  pub none_free : ((w : ℕ) → ¬ AreFree full w 1) → (b : ℕ) → ¬ AreFree used b 1
  none_free none b = none_in_word b (none (b / 64))

  -- the lowest free block is the lowest from the lowest word on that has one
  pub lowest_through : (w : ℕ) → ((k : ℕ) → k < w → ¬ AreFree full k 1) → (o : Option ℕ) → IsLowest (λ b. (w * 64 ≤ b) × AreFree used b 1) o → IsLowest (λ b. AreFree used b 1) o
  lowest_through w none None later = λ b free. elim (cases_lt b (w * 64)) [
    | inl before ↦ none_in_word b (none (b / 64) (omega (arith, before))) free
    | inr from ↦ later b (from, free)
  ]
  lowest_through w none (Some b) found = (
    found.0.1,
    λ k before free. elim (cases_lt k (w * 64)) [
      | inl first ↦ none_in_word k (none (k / 64) (omega (arith, first))) free
      | inr from ↦ found.1 k before (from, free)
    ],
  )

  -- no block is free from one on where none is in the rest of its word, nor in any word behind
  pub none_after : (from : ℕ) → IsFullFrom used from → ((k : ℕ) → from / 64 + 1 ≤ k → ¬ AreFree full k 1) → (b : ℕ) → from ≤ b → ¬ AreFree used b 1
  none_after from here none b later free =
      let room = free.0 in
      elim (cases_lt b ((from / 64 + 1) * 64)) [
        | inl first ↦ true≢false (sym (here b later first (omega (arith, room))) ∙ free.1 b (omega arith) (omega arith))
        | inr behind ↦ none_in_word b (none (b / 64) (omega (arith, behind))) free
      ]

  -- else it is that of the lowest word behind that has one
  pub lowest_after : (from w b : ℕ) → IsFullFrom used from → ((k : ℕ) → k < w → ¬ ((from / 64 + 1 ≤ k) × AreFree full k 1)) → from / 64 + 1 ≤ w → IsFirstFreeOf used w b
      → IsLowest (λ k. (from ≤ k) × AreFree used k 1) (Some b)
  lowest_after from w b here none behind first = (
    (omega (arith, first.from, behind), first_free_one used w b first),
    λ k before free. elim (cases_lt k (w * 64)) [
      | inl earlier ↦ (elim (cases_lt k ((from / 64 + 1) * 64)) [
        | inl near ↦ (let room = free.1.0 in true≢false (sym (here k free.0 near (omega (arith, room))) ∙ free.1.1 k (omega arith) (omega arith)))
        | inr far ↦ none_in_word k (λ word. none (k / 64) (omega (arith, earlier)) (omega (arith, far), word)) free.1
      ])
      | inr past ↦ true≢false (sym (first.before k past before) ∙ free.1.1 k (omega arith) (omega arith))
    ],
  )

-- blocks that change leave the words beside them as full as they were
pub changed_beside : (used new full : List Bool) (at upto from to : ℕ) → Summarises used full → length new ≡ length used
    → ((j : ℕ) → (j < at) ⊎ (upto ≤ j) → element new j ≡ element used j) → from ≡ at / 64 → upto ≤ to * 64 → to ≤ length full → SummarisesBeside new full from to
changed_beside used new full at upto from to sum same kept first last inside = record {
  words = sum.words ∙ ap word_count (sym same);
  inside = inside;
  says = λ w beside there. (
    λ on b low high h. kept b (apart w b beside low high) ∙ (sum.says w there).0 on b low high (omega (arith, h, same)),
    λ full_now. (sum.says w there).1 (λ b low high h. sym (kept b (apart w b beside low high)) ∙ full_now b low high (omega (arith, h, same))),
  );
} where
  apart : (w b : ℕ) → (w < from) ⊎ (to ≤ w) → w * 64 ≤ b → b < w * 64 + 64 → (b < at) ⊎ (upto ≤ b)
  apart w b (inl before) low high = inl (omega (arith, before, high, first))
  apart w b (inr behind) low high = inr (omega (arith, behind, low, last))

-- an index is another, or before it, or behind it
where_is : (k w : ℕ) → (k ≡ w) ⊎ ((k < w) ⊎ (w + 1 ≤ k))
where_is k w =
    elim (cases_lt k w) [
      | inl before ↦ inr (inl before)
      | inr from ↦ (elim (cases_lt w k) [
        | inl behind ↦ inr (inr (omega (arith, behind)))
        | inr upto ↦ inl (omega (arith, from, upto))
      ])
    ]

-- what is said of a word by an element that stays
said_still : (used full new : List Bool) (k : ℕ) → element new k ≡ element full k → SaysOf used full k → SaysOf used new k
said_still used full new k same old = (λ on. old.0 (sym same ∙ on), λ full_now. same ∙ old.1 full_now)

-- one more word is said right, and all else stays
module _ (used full new : List Bool) (w : ℕ) (same : length new ≡ length full) (said : SaysOf used new w) (kept : (j : ℕ) → (j < w) ⊎ (w + 1 ≤ j) → element new j ≡ element full j) where
  more : {P Q : ℕ → Type 0} → ((k : ℕ) → Q k → (k ≡ w) ⊎ P k) → ((k : ℕ) → P k → k < length full → SaysOf used full k) → (k : ℕ) → Q k → k < length new → SaysOf used new k
  more {P} {Q} one was k beside there = at_place k there (where_is k w) (one k beside) where
    at_place : (k : ℕ) → k < length new → (k ≡ w) ⊎ ((k < w) ⊎ (w + 1 ≤ k)) → (k ≡ w) ⊎ P k → SaysOf used new k
    at_place k there (inl is) which = subst (λ n. SaysOf used new n) (sym is) said
    at_place k there (inr apart) (inl is) = subst (λ n. SaysOf used new n) (sym is) said
    at_place k there (inr apart) (inr other) = said_still used full new k (kept k apart) (was k other (omega (arith, there, same)))

  -- the first of those that were not
  pub said_first : (to : ℕ) → SummarisesBeside used full w to → SummarisesBeside used new (w + 1) to
  said_first to was = record {
    words = same ∙ was.words;
    inside = omega (arith, was.inside, same);
    says = more (λ k beside. elim beside [
      | inl before ↦ (elim (cases_lt k w) [
        | inl first ↦ inr (inl first)
        | inr here ↦ inl (omega (arith, before, here))
      ])
      | inr behind ↦ inr (inr behind)
    ]) was.says;
  }

  -- the last of those that were not
  pub said_last : (from to : ℕ) → w + 1 ≡ to → SummarisesBeside used full from to → SummarisesBeside used new from w
  said_last from to end was = record {
    words = same ∙ was.words;
    inside = omega (arith, was.inside, same, end);
    says = more (λ k beside. elim beside [
      | inl before ↦ inr (inl before)
      | inr from_w ↦ (elim (cases_lt w k) [
        | inl behind ↦ inr (inr (omega (arith, behind, end)))
        | inr here ↦ inl (omega (arith, from_w, here))
      ])
    ]) was.says;
  }

-- the rest is said by one value
pub said_inner : (used full new : List Bool) (from to : ℕ) (bit : Bool) → SummarisesBeside used full from to → length new ≡ length full
    → ((j : ℕ) → from ≤ j → j < to → element new j ≡ bit) → ((j : ℕ) → (j < from) ⊎ (to ≤ j) → element new j ≡ element full j)
    → ((w : ℕ) → from ≤ w → w < to → (bit ≡ true) ↔ IsFull used w) → Summarises used new
said_inner used full new from to bit was same set kept right = record {
  words = same ∙ was.words;
  says = λ w there. elim (cases_lt w from) [
    | inl before ↦ said_still used full new w (kept w (inl before)) (was.says w (inl before) (omega (arith, there, same)))
    | inr later ↦ (elim (cases_lt w to) [
      | inl inner ↦ (λ on. (right w later inner).0 (sym (set w later inner) ∙ on), λ full_now. set w later inner ∙ (right w later inner).1 full_now)
      | inr behind ↦ said_still used full new w (kept w (inr behind)) (was.says w (inr behind) (omega (arith, there, same)))
    ])
  ];
}

-- a word all of whose blocks have one value is full, or not, as that says
pub inner_word : (used : List Bool) (low high : ℕ) (bit : Bool) → ((k : ℕ) → low ≤ k → k < high → element used k ≡ bit) → high ≤ length used
    → (w : ℕ) → low ≤ w * 64 → w * 64 + 64 ≤ high → (bit ≡ true) ↔ IsFull used w
inner_word used low high bit all inside w from upto = (
  λ on block a b there. all block (omega (arith, from, a)) (omega (arith, upto, b)) ∙ on,
  λ full. sym (all (w * 64) from (omega (arith, upto))) ∙ full (w * 64) (omega arith) (omega arith) (omega (arith, upto, inside)),
)

-- a list with one element set
pub one_set : (full new : List Bool) (w : ℕ) (bit : Bool) → new ≡ with_filled full w (w + 1) bit → w < length full
    → (element new w ≡ bit) × ((j : ℕ) → (j < w) ⊎ (w + 1 ≤ j) → element new j ≡ element full j)
one_set full new w bit is inside = (
  ap (λ us. element us w) is ∙ filled_new full w (w + 1) bit (omega arith) (omega (arith, inside)) w (omega arith) (omega arith),
  λ j apart. ap (λ us. element us j) is ∙ filled_kept full w (w + 1) bit (omega arith) (omega (arith, inside)) j apart,
)

-- a stretch was given one value: each element beside it is as before
pub kept_beside : (old new : List Bool) (at upto : ℕ) (bit : Bool) → new ≡ with_filled old at upto bit → at ≤ upto → upto ≤ length old
    → (j : ℕ) → (j < at) ⊎ (upto ≤ j) → element new j ≡ element old j
kept_beside old new at upto bit is rises inside j apart = ap (λ us. element us j) is ∙ filled_kept old at upto bit rises inside j apart

-- each element in it has that value
pub set_within : (old new : List Bool) (at upto : ℕ) (bit : Bool) → new ≡ with_filled old at upto bit → at ≤ upto → upto ≤ length old
    → (j : ℕ) → at ≤ j → j < upto → element new j ≡ bit
set_within old new at upto bit is rises inside j first last = ap (λ us. element us j) is ∙ filled_new old at upto bit rises inside j first last

-- no word is left to be said
pub said_all : (used full : List Bool) (from to : ℕ) → SummarisesBeside used full from to → to ≤ from → Summarises used full
said_all used full from to was none = record {
  words = was.words;
  says = λ w there. was.says w (elim (cases_lt w from) [ inl before ↦ inl before | inr behind ↦ inr (omega (arith, behind, none)) ]) there;
}

-- it is the lowest free block from the word's first on
pub first_free_lowest : (used : List Bool) (w b : ℕ) → IsFirstFreeOf used w b → IsLowest (λ k. (w * 64 ≤ k) × AreFree used k 1) (Some b)
first_free_lowest used w b first =
    ((first.from, first_free_one used w b first), λ k before free. true≢false (sym (first.before k free.0 before) ∙ free.1.1 k (omega arith) (omega arith)))

-- no block of the words before word w is free: one word more
pub none_more : (used : List Bool) (w : ℕ) → ((b : ℕ) → b < w * 64 → ¬ AreFree used b 1) → IsFull used w → (b : ℕ) → b < (w + 1) * 64 → ¬ AreFree used b 1
none_more used w none full b before =
    elim (cases_lt b (w * 64)) [
      | inl first ↦ none b first
      | inr from ↦ not_in_full used w b 1 full from (omega (arith, before))
    ]

-- the lowest of a word is the lowest of all where none is free before
pub lowest_here : (used : List Bool) (w b : ℕ) → ((k : ℕ) → k < w * 64 → ¬ AreFree used k 1) → IsFirstFreeOf used w b → IsLowest (λ k. AreFree used k 1) (Some b)
lowest_here used w b none first = (
  first_free_one used w b first,
  λ k before free. elim (cases_lt k (w * 64)) [
    | inl earlier ↦ none k earlier free
    | inr from ↦ true≢false (sym (first.before k from before) ∙ free.1 k (omega arith) (omega arith))
  ],
)

-- no word is left
pub none_at_all : (used : List Bool) (w : ℕ) → ((b : ℕ) → b < w * 64 → ¬ AreFree used b 1) → length used ≤ w * 64 → (b : ℕ) → ¬ AreFree used b 1
none_at_all used w none all b free = (let room = free.0 in none b (omega (arith, room, all)) free)

-- a word that a map of words says is not full is not
pub not_full_there : (used full : List Bool) → Summarises used full → (w : ℕ) → AreFree full w 1 → ¬ IsFull used w
not_full_there used full sum w free is_full =
    let room = free.0 in
    true≢false (sym ((sum.says w (omega (arith, room))).1 is_full) ∙ free.1 w (omega arith) (omega arith))

-- a part of a list, from an index on to the end of its word or of the list
module _ (used part : List Bool) (from end : ℕ) (long : length part ≡ end - from) (same : (j : ℕ) → j < end - from → element part j ≡ element used (from + j))
    (rises : from ≤ end) (inside : end ≤ length used) (most : end ≤ (from / 64 + 1) * 64) (least : (b : ℕ) → b < (from / 64 + 1) * 64 → b < length used → b < end) where
  pub part_full : ((j : ℕ) → j < length part → element part j ≡ true) → IsFullFrom used from
  part_full on b later near there =
      let whole : from + (b - from) ≡ b = omega (arith, later) in
      let before = least b near there in
      subst (λ n. element used n ≡ true) whole (sym (same (b - from) (omega (arith, before, later))) ∙ on (b - from) (omega (arith, long, before, later)))

  pub part_first : (i : ℕ) → i < length part → element part i ≡ false → ((j : ℕ) → j < i → element part j ≡ true) → IsLowest (λ b. (from ≤ b) × AreFree used b 1) (Some (from + i))
  part_first i there off before = (
    (omega arith, (omega (arith, there, long, inside), λ j a h. ap (element used) (let here : j ≡ from + i = omega (arith, a, h) in here) ∙ sym (same i (omega (arith, there, long))) ∙ off)),
    λ k less free.
        let later = free.0 in
        let whole : from + (k - from) ≡ k = omega (arith, later) in
        true≢false (sym (subst (λ n. element used n ≡ true) whole (sym (same (k - from) (omega (arith, less, later, there, long))) ∙ before (k - from) (omega (arith, less, later)))) ∙ free.1.1 k (omega arith) (omega arith)),
  )

-- the rest of a word, from a block of the map on
module _ (used part : List Bool) (from end : ℕ) (there : from < length used) (ends : end ≡ min (length used) ((from / 64 + 1) * 64)) (is : part ≡ slice_range used from end) where
  rises : from ≤ end
  rises = omega (arith, there, ends)

  inside : end ≤ length used
  inside = omega (arith, ends)

  long : length part ≡ end - from
  long = ap length is ∙ range_long used from end rises inside

  pub rest_full : AllAre true part → IsFullFrom used from
  rest_full on = part_full used part from end long (range_element used part from end is) rises inside (omega (arith, ends)) (λ b near h. omega (arith, ends, near, h)) on

  pub rest_first : (i : ℕ) → IsFirst false part i → IsLowest (λ b. (from ≤ b) × AreFree used b 1) (Some (from + i))
  rest_first i first =
      part_first used part from end long (range_element used part from end is) rises inside (omega (arith, ends)) (λ b near h. omega (arith, ends, near, h)) i first.0 first.1 first.2

-- one block changed, and its word was said right
pub one_changed : (used new full said : List Bool) (at : ℕ) → Summarises used full → length new ≡ length used → ((j : ℕ) → (j < at) ⊎ (at + 1 ≤ j) → element new j ≡ element used j) → at < length used
    → length said ≡ length full → SaysOf new said (at / 64) → ((j : ℕ) → (j < at / 64) ⊎ (at / 64 + 1 ≤ j) → element said j ≡ element full j) → Summarises new said
one_changed used new full said at sum same kept there many right beside =
    let w = at / 64 in
    let inside = word_there (length used) (length full) at sum.words there in
    let was = changed_beside used new full at (at + 1) w (w + 1) sum same kept refl (omega arith) (omega (arith, inside)) in
    said_all new said (w + 1) (w + 1) (said_first new full said w many right beside (w + 1) was) (omega arith)

-- the lowest free block, by the lowest word that has one
module _ (used full : List Bool) (sum : Summarises used full) (w : ℕ) where
  pub through_word : IsLeast (λ k. AreFree full k 1) w → (o : Option ℕ) → MatchOption o (IsFull used w) (IsFirstFreeOf used w) → IsLowest (λ b. AreFree used b 1) o
  through_word least None is_full = absurd (not_full_there used full sum w least.0 is_full)
  through_word least (Some b) first = lowest_through used full sum w least.1 (Some b) (first_free_lowest used w b first)

  -- the same from a block on, of whose word none from it on is free
  pub after_word : (from : ℕ) → IsFullFrom used from → IsLeast (λ k. (from / 64 + 1 ≤ k) × AreFree full k 1) w → (o : Option ℕ) → MatchOption o (IsFull used w) (IsFirstFreeOf used w)
      → IsLowest (λ b. (from ≤ b) × AreFree used b 1) o
  after_word from here least None is_full = absurd (not_full_there used full sum w least.0.1 is_full)
  after_word from here least (Some b) first = lowest_after used full sum from w b here least.1 least.0.0 first
