-- Steps from place to place. `bits` is the width of a word.
use Rattle.std.specs.Prelude.{ℕ, ℤ, pos, nat_abs, ◌+◌, ◌+ℤ◌, ◌-ℤ◌, ◌≤◌, ◌≤ℤ◌, ◌<ℤ◌, FitsSigned}
use Rattle.std.specs.Int.{w64, int_wrap, int_div_euclid, int_rem_euclid}
use Rattle.bitvec_ptr.specs.Place.{Ptr, place_of, words_met}

-- a step by `count` bits stays in range: the sum of the pointer's bit and the count is an `isize`, and so is the index of
-- the word on which the step ends
abbrev pub CanOffset : ℕ → Ptr → ℤ → Type 0
CanOffset bits ptr count = FitsSigned w64 (pos ptr.bit +ℤ count) × FitsSigned w64 (ptr.word +ℤ int_div_euclid (pos ptr.bit +ℤ count) (pos bits))

-- where a step by `count` bits ends that wraps: the sum of bit and count does, and so does that of the words
abbrev pub wrapped_ptr : ℕ → Ptr → ℤ → Ptr
wrapped_ptr bits ptr count =
    let far = int_wrap w64 (pos ptr.bit +ℤ count) in
    record { word = int_wrap w64 (ptr.word +ℤ int_div_euclid far (pos bits)); bit = nat_abs (int_rem_euclid far (pos bits)) }

-- how many places a pointer is past another
abbrev pub distance : ℕ → Ptr → Ptr → ℤ
distance bits ptr origin = place_of bits ptr -ℤ place_of bits origin

-- the word of a pointer is one of `words` words: its index is from 0 to before `words`
abbrev pub IsIn : Ptr → ℕ → Type 0
IsIn ptr words = (pos 0 ≤ℤ ptr.word) × (ptr.word <ℤ pos words)

-- The words that `count` bits from a pointer on meet are among the first `words` of a memory: the pointer's word is not
-- negative, and its index and the number of these words are together at most `words`. For no bits the pointer may also be
-- to the word behind them.
abbrev pub RangeIsIn : ℕ → Ptr → ℕ → ℕ → Type 0
RangeIsIn bits ptr words count = (pos 0 ≤ℤ ptr.word) × (nat_abs ptr.word + words_met bits ptr.bit count ≤ words)

-- a place is one of the `count` places from a pointer on
abbrev pub RangeCovers : ℕ → Ptr → ℕ → ℤ → Type 0
RangeCovers bits ptr count place = (place_of bits ptr ≤ℤ place) × (place <ℤ (place_of bits ptr +ℤ pos count))

-- the `count` places from one pointer on and those from another have none in common
abbrev pub AreApart : ℕ → Ptr → Ptr → ℕ → Type 0
AreApart bits ptr other count = (place : ℤ) → RangeCovers bits ptr count place → RangeCovers bits other count place → ⊥
