-- Elements of a list copied over those of a list, one by one.
use Rattle.std.proofs.Common.{◌≡◌, ◌⊎◌, ⊎_elim, ℕ, ◌+◌, ◌*◌, ◌-◌, ◌/◌, ◌%◌, ◌<◌, ◌≤◌, Bool, true, false, List, ◌++◌, length, map, get_or, take, drop}
use Rattle.std.proofs.Common.{Some, sym, ◌∙◌, ap, arith, inl, inr, length-append, length-drop, get_or-drop}
use Rattle.std.specs.Prelude.{slice_get, slice_index}
use Rattle.std.proofs.Math.Nat.{lt_of_mul-lt-mul_right, mul-le-mul_right}
use Rattle.std.proofs.lemmas.Bool.{cases_lt, false≢true}
use Rattle.std.proofs.lemmas.List.{length-map, get_or-map, same_lists, get_or_append_left, get_or-append_right, length-take-le, get_or-take}
use Rattle.std.proofs.lemmas.List.Edits.{paste_none, length-paste}
use Rattle.std.proofs.lemmas.Nat.{div-add-mod', mod_below, row_fits}
use Rattle.std.proofs.lemmas.Option.{slice_get-get_or}
use Rattle.bitvec_ptr.specs.Place.{words_met}
use Rattle.bitvec_ptr.specs.Memory.{bit_of, memory_bits, list_with_copy}
use Rattle.bitvec_ptr.proofs.BitLemmas.{length-memory_bits, get_or-memory_bits, place_within}
use Rattle.bitvec_ptr.proofs.PlaceLemmas.{words_met-some}

-- a place inside n words is in one of them
pub word_within : (w i k n : ℕ) → w * k + i < n * k → w < n
word_within w i k n h = let p : w * k < n * k = omega arith in lt_of_mul-lt-mul_right k p

pub copied_none : {A : Type 0} (source : List A) (s : ℕ) (target : List A) (t : ℕ) → target ≡ list_with_copy source s target t 0
copied_none source s target t = paste_none target t (drop s source)

pub length-copied : {A : Type 0} (source : List A) (s : ℕ) (target : List A) (t n : ℕ) → t + n ≤ length target → s + n ≤ length source
    → length (list_with_copy source s target t n) ≡ length target
length-copied source s target t n h k = length-paste target t (drop s source) n h (omega (arith, length-drop s source))

module _ {A : Type 0} (source : List A) (s : ℕ) (target : List A) (t n : ℕ) (h : t + n ≤ length target) (k : s + n ≤ length source) where
  first_len : length (take t target) ≡ t
  first_len = length-take-le t target (omega arith)

  middle_len : length (take n (drop s source)) ≡ n
  middle_len = length-take-le n (drop s source) (omega (arith, length-drop s source))

  both_len : length (take t target ++ take n (drop s source)) ≡ t + n
  both_len = omega (arith, length-append (take t target) (take n (drop s source)), first_len, middle_len)

  pub get_or-copied_below : (q : ℕ) (d : A) → q < t → get_or (list_with_copy source s target t n) q d ≡ get_or target q d
  get_or-copied_below q d r =
      get_or_append_left (take t target ++ take n (drop s source)) (drop (t + n) target) d q (omega (arith, both_len))
      ∙ get_or_append_left (take t target) (take n (drop s source)) d q (omega (arith, first_len))
      ∙ get_or-take t target q d r

  pub get_or-copied_inside : (q j : ℕ) (d : A) → q ≡ t + j → j < n → get_or (list_with_copy source s target t n) q d ≡ get_or source (s + j) d
  get_or-copied_inside q j d e r =
      get_or_append_left (take t target ++ take n (drop s source)) (drop (t + n) target) d q (omega (arith, both_len))
      ∙ get_or-append_right (take t target) (take n (drop s source)) t q d first_len (omega arith)
      ∙ ap (λ v. get_or (take n (drop s source)) v d) (omega arith)
      ∙ get_or-take n (drop s source) j d r
      ∙ get_or-drop s source j d

  pub get_or-copied_above : (q : ℕ) (d : A) → t + n ≤ q → get_or (list_with_copy source s target t n) q d ≡ get_or target q d
  get_or-copied_above q d r =
      get_or-append_right (take t target ++ take n (drop s source)) (drop (t + n) target) (t + n) q d both_len r
      ∙ get_or-drop (t + n) target (q - (t + n)) d
      ∙ ap (λ v. get_or target v d) (omega arith)

  -- a list with those elements is the copy
  pub copied_from_points : (now : List A) → length now ≡ length target
      → ((j : ℕ) (d : A) → j < n → get_or now (t + j) d ≡ get_or source (s + j) d)
      → ((q : ℕ) (d : A) → q < length target → (q < t) ⊎ (t + n ≤ q) → get_or now q d ≡ get_or target q d)
      → now ≡ list_with_copy source s target t n
  copied_from_points now e inside outside =
      same_lists now (list_with_copy source s target t n) (e ∙ sym (length-copied source s target t n h k))
      (λ q d r.
      ⊎_elim
      (λ u. outside q d (omega arith) (inl u) ∙ sym (get_or-copied_below q d u))
      (λ u.
      ⊎_elim
      (λ v.
      let back : t + (q - t) ≡ q = omega arith in
      ap (λ w. get_or now w d) (sym back) ∙ inside (q - t) d (omega arith) ∙ sym (get_or-copied_inside q (q - t) d (sym back) (omega arith)))
      (λ v. outside q d (omega arith) (inr v) ∙ sym (get_or-copied_above q d v))
      (cases_lt q (t + n)))
      (cases_lt q t))

-- an element that is there
pub element_is : {A : Type 0} (xs : List A) (i : ℕ) (x d : A) → i < length xs → slice_get xs i ≡ Some x → x ≡ get_or xs i d
element_is xs i x d h e = cc (slice_get-get_or xs i d h)

-- the order of two places is that of their words, and then of their bits
pub place_order : (B v i w j : ℕ) → i < B → v < w → v * B + i ≤ w * B + j
place_order B v i w j h p = let row : v * B + B ≤ w * B = row_fits v B w B p (let x : B ≤ B = omega arith in x) in omega (arith, row)

-- and strictly so
pub place_before : (B v i w j : ℕ) → i < B → v < w → v * B + i < w * B + j
place_before B v i w j h p = let row : v * B + B ≤ w * B = row_fits v B w B p (let x : B ≤ B = omega arith in x) in omega (arith, row)

-- the words met cover the places
pub met_covers : (bits word head count words : ℕ) → 0 < bits → 0 < count → word + words_met bits head count ≤ words
    → word * bits + head + count ≤ words * bits
met_covers bits word head count words some h k =
    let met = words_met-some bits head count h in
    let up : (word + ((head + count - 1) / bits + 1)) * bits ≤ words * bits = mul-le-mul_right bits (omega (arith, met)) in
    omega (arith, up, div-add-mod' (head + count - 1) bits, mod_below (head + count - 1) bits some)

-- the word `count` places on from a bit of a word is before one that ends later
pub advanced_word : (word bit count bits words : ℕ) → 0 < bits → word * bits + bit + count < words * bits
    → word + count / bits + (bit + count % bits) / bits < words
advanced_word word bit count bits words some h =
    let low : (word + count / bits + (bit + count % bits) / bits) * bits < words * bits =
    omega (arith, div-add-mod' count bits, div-add-mod' (bit + count % bits) bits) in
    lt_of_mul-lt-mul_right bits low

-- how many bits a memory has
pub length-bits : {W : Type 0} (bits : ℕ) (at : ℕ → ℕ) (number : W → ℕ) (words : List W)
    → length (memory_bits bits at (map number words)) ≡ length words * bits
length-bits bits at number words = length-memory_bits bits at (map number words) ∙ ap (λ n. n * bits) (length-map words number)

-- the bit that a memory's list of bits has at an index of a word
pub bit_is : (bits : ℕ) (at : ℕ → ℕ) (words : List ℕ) (word bit : ℕ) (b : Bool) → word < length words → bit < bits
    → slice_get (memory_bits bits at words) (word * bits + bit) ≡ Some b → b ≡ bit_of bits at words (word * bits + bit)
bit_is bits at words word bit b h k e =
    let within = place_within bits at words word bit h k in
    let long = length-memory_bits bits at words in
    element_is (memory_bits bits at words) (word * bits + bit) b b (omega (arith, within, long)) e
    ∙ get_or-memory_bits bits at words (word * bits + bit) b within

-- the number of a word that was read
pub word_is : {W : Type 0} (number : W → ℕ) (words : List W) (k : ℕ) (w : W) → k < length words → slice_get words k ≡ Some w
    → number w ≡ slice_index (map number words) k
word_is number words k w h e = ap number (element_is words k w w h e) ∙ sym (get_or-map number words k w 0 h)

-- the place before which a memory ends is no further than its words allow
pub place_below : (bits place words : ℕ) → 0 < bits → place ≤ words * bits → words < 18446744073709551616 → place < 18446744073709551616 * bits
place_below bits place words some h k =
    let long : (words + 1) * bits ≤ 18446744073709551616 * bits = mul-le-mul_right bits (omega arith) in
    omega (arith, long)

-- the last of some places from a bit of a word on lies in the memory, and so does each word that has one of them
pub word_in : (bits word bit count words : ℕ) → 0 < count → word * bits + bit + count ≤ words * bits → word < words
word_in bits word bit count words some h = word_within word (bit + count - 1) bits words (omega arith)

pub next_word_in : (bits word bit count words : ℕ) → bits < bit + count → word * bits + bit + count ≤ words * bits → word + 1 < words
next_word_in bits word bit count words past h = word_within (word + 1) (bit + count - bits - 1) bits words (omega arith)

-- the first words of four that lie in a memory, and the one behind them where bits reach into it
pub block_word_in : (bits word bit k words : ℕ) → 0 < bits → k < 4 → word * bits + bit + 4 * bits ≤ words * bits → word + k < words
block_word_in bits word bit k words some h fits =
    let low : (k + 1) * bits ≤ 4 * bits = mul-le-mul_right bits (omega arith) in
    word_within (word + k) 0 bits words (omega (arith, low))

pub block_next_in : (bits word bit words : ℕ) → 0 < bit → word * bits + bit + 4 * bits ≤ words * bits → word + 4 < words
block_next_in bits word bit words some fits = word_within (word + 4) (bit - 1) bits words (omega arith)

-- where one place is not past another, by what each direction asks
pub from_rising : (rising : Bool) (s t : ℕ) → (s < t → rising ≡ false) → rising ≡ true → t ≤ s
from_rising rising s t h r = ⊎_elim (λ u. absurd (false≢true (sym (h u) ∙ r))) (λ u. u) (cases_lt s t)

pub from_falling : (rising : Bool) (s t : ℕ) → (t ≤ s → rising ≡ true) → rising ≡ false → s ≤ t
from_falling rising s t h r = ⊎_elim (λ u. omega arith) (λ u. absurd (false≢true (sym r ∙ h u))) (cases_lt s t)
