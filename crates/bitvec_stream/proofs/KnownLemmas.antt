-- A word of a list's elements that is known, and what becomes of the list where elements are put into that word.
use Rattle.std.proofs.Common.{◌≡◌, ◌⊎◌, ℕ, ◌+◌, ◌-◌, ◌*◌, ◌/◌, ◌%◌, ◌==◌, ◌<◌, ◌≤◌, if◌then◌else◌, Bool, false, List, ◌++◌, length, sym, ap, subst, ◌∙◌, inl, inr, arith, length-append}
use Rattle.std.proofs.lemmas.Bool.{cases_lt, cases_order, eq-eqb, ne_eqb}
use Rattle.std.proofs.lemmas.List.{ext_get_or, get_or_append_left, get_or-append_right}
use Rattle.std.proofs.lemmas.Nat.{div-add-mod', div-mul-add, mod-mul-add, mod_below, mul-le}
use Rattle.bitvec.specs.Digit.{digit}
use Rattle.bitvec.specs.Order.{Falls}
use Rattle.bitvec.specs.Span.{element}
use Rattle.bitvec.proofs.MemoryLemmas.{length-tabulate, get_or-tabulate, tabulate-from_elements}
use Rattle.bitvec_slice.specs.Ranges.{with_range}
use Rattle.bitvec_slice.specs.Words.{with_digits}
use Rattle.bitvec_slice.proofs.DigitListLemmas.{length-digits_be}
use Rattle.bitvec_slice.proofs.EditRangeLemmas.{range_kept, range_new, range_length}
use Rattle.bitvec_stream.specs.Numbers.{digits_be}
use Rattle.bitvec_stream.specs.Window.{IsKnown}

-- A number n of `count` digits takes the first places of those that are kept of word m, which was w, turned round: behind the
-- digits of w it makes `next`, which is r, turned round, where the word has its places.
module _ (bits : ℕ) (at : ℕ → ℕ) (head : ℕ) (xs : List Bool) (p end kept m w n r next count : ℕ) (some : 0 < count) (few : count ≤ kept) (ends : p + kept ≡ end) (in_list : end ≤ length xs)
    (is : IsKnown bits at head xs end kept m w)
    (new : (q : ℕ) → q < count → digit next q ≡ digit n q)
    (old : (q : ℕ) → count + q < bits → digit next (count + q) ≡ digit w q)
    (up : (q : ℕ) → kept - count + q < bits → digit r (kept - count + q) ≡ digit next q)
    (round : (q : ℕ) → q < kept - count → digit r q ≡ digit next (bits - (kept - count) + q)) where
  whole : (kept ≤ bits) × (head ≤ m * bits) × (head + (p + kept) ≡ m * bits + bits)
  whole = subst (λ e. (kept ≤ bits) × (head ≤ m * bits) × (head + e ≡ m * bits + bits)) (sym ends) (is.whole (omega (arith, some, few)))

  within : p + count ≤ length xs
  within = omega (arith, few, ends, in_list)

  long : length (digits_be count n) ≡ p + count - p
  long = length-digits_be count n ∙ (let e : count ≡ p + count - p = omega arith in e)

  abbrev wanted : List Bool
  wanted = with_range xs p (p + count) (digits_be count n)

  abbrev put : List Bool
  put = with_digits bits at head xs m r

  put_long : length put ≡ length xs
  put_long = length-tabulate (length xs) (λ j. if (head + j) / bits == m then digit r (at ((head + j) % bits)) else element xs j)

  put_element : (j : ℕ) → j < length xs → element put j ≡ (if (head + j) / bits == m then digit r (at ((head + j) % bits)) else element xs j)
  put_element j h = get_or-tabulate (length xs) (λ i. if (head + i) / bits == m then digit r (at ((head + i) % bits)) else element xs i) j false h

  -- an element of the word, and its digit
  put_digit : (j i : ℕ) → j < length xs → i < bits → head + j ≡ m * bits + i → element put j ≡ digit r (bits - 1 - i)
  put_digit j i h inner there =
      let word : (head + j) / bits ≡ m = ap (λ n. n / bits) there ∙ div-mul-add m bits i inner in
      let index : (head + j) % bits ≡ i = ap (λ n. n % bits) there ∙ mod-mul-add m bits i inner in
      put_element j h ∙ rw (eq-eqb ((head + j) / bits) m word) (ap (digit r) (ap at index ∙ is.falls (omega (arith, some, few)) i inner))

  in_word : (j i : ℕ) → j < length xs → i < bits → head + j ≡ m * bits + i → element put j ≡ element wanted j
  in_word j i h inner there =
      let first = put_digit j i h inner there in
      elim (cases_lt j p) [
        | inl before ↦ (
            let q : bits - 1 - i ≡ kept - count + (count + (p - 1 - j)) = omega (arith, before, few, there, whole.2) in
            let back : end - kept - 1 - (p - 1 - j) ≡ j = omega (arith, before, ends) in
            first
            ∙ ap (digit r) q
            ∙ up (count + (p - 1 - j)) (omega (arith, before, few, there, inner, whole.2))
            ∙ old (p - 1 - j) (omega (arith, before, few, there, inner, whole.2))
            ∙ is.before (omega (arith, some, few)) (p - 1 - j) (omega (arith, before, there, inner, whole.2))
            ∙ ap (element xs) back
            ∙ sym (range_kept xs (digits_be count n) p (p + count) (omega arith) within long j (inl before)))
        | inr past ↦ elim (cases_lt j (p + count)) [
          | inl within_count ↦ (
              let q : bits - 1 - i ≡ kept - count + (count - 1 - (j - p)) = omega (arith, past, within_count, few, there, whole.2) in
              first
              ∙ ap (digit r) q
              ∙ up (count - 1 - (j - p)) (omega (arith, past, within_count, few, there, inner, whole.2))
              ∙ new (count - 1 - (j - p)) (omega (arith, past, within_count))
              ∙ sym (range_new xs (digits_be count n) p (p + count) (omega arith) within long j past within_count
              ∙ get_or-tabulate count (λ i. digit n (count - 1 - i)) (j - p) false (omega (arith, past, within_count))))
          | inr behind ↦ (
              let q : bits - (kept - count) + (bits - 1 - i) ≡ count + (bits - 1 - (j - p)) = omega (arith, behind, few, there, inner, whole) in
              let back : end - kept + (j - p) ≡ j = omega (arith, past, ends) in
              first
              ∙ round (bits - 1 - i) (omega (arith, behind, few, there, inner, whole))
              ∙ ap (digit next) q
              ∙ old (bits - 1 - (j - p)) (omega (arith, behind, few, there, inner, whole))
              ∙ is.ahead (j - p) (omega (arith, past, there, inner, whole.2))
              ∙ ap (element xs) back
              ∙ sym (range_kept xs (digits_be count n) p (p + count) (omega arith) within long j (inr behind)))
        ]
      ]

  beside : (j : ℕ) → j < length xs → (j < p) ⊎ (p + count ≤ j) → ((head + j) / bits ≡ m → ⊥) → element put j ≡ element wanted j
  beside j h out other =
      put_element j h ∙ rw (ne_eqb ((head + j) / bits) m other) (sym (range_kept xs (digits_be count n) p (p + count) (omega arith) within long j out))

  each : 0 < bits → (j : ℕ) → j < length xs → element put j ≡ element wanted j
  each wide j h =
      let parts = div-add-mod' (head + j) bits in
      let small = mod_below (head + j) bits wide in
      elim (cases_order ((head + j) / bits) m) [
        | inl same ↦ (
            let product : (head + j) / bits * bits ≡ m * bits = ap (λ n. n * bits) same in
            in_word j ((head + j) % bits) h small (omega (arith, parts, product)))
        | inr (inl less) ↦ (
            let product : ((head + j) / bits + 1) * bits ≤ m * bits = mul-le ((head + j) / bits + 1) bits m bits (omega (arith, less)) (omega arith) in
            beside j h (inl (omega (arith, product, parts, small, whole))) (λ s. absurd (omega (arith, s, less))))
        | inr (inr more) ↦ (
            let product : (m + 1) * bits ≤ (head + j) / bits * bits = mul-le (m + 1) bits ((head + j) / bits) bits (omega (arith, more)) (omega arith) in
            beside j h (inr (omega (arith, product, parts, few, whole))) (λ s. absurd (omega (arith, s, more))))
      ]

  -- so the word put in its place puts the digits in theirs
  pub put_digits : with_digits bits at head xs m r ≡ with_range xs p (p + count) (digits_be count n)
  put_digits =
      let wide : 0 < bits = omega (arith, some, few, whole.0) in
      ext_get_or false put wanted (put_long ∙ sym (range_length xs (digits_be count n) p (p + count) (omega arith) within long)) (λ j h. each wide j (omega (arith, h, put_long)))

  -- and it is known behind the put
  pub put_known : (ys : List Bool) (left : ℕ) → ys ≡ with_digits bits at head xs m r → left ≡ kept - count → IsKnown bits at head ys end left m next
  put_known ys left ys_is left_is = record {
    falls = λ h. is.falls (omega (arith, some, few));
    whole = λ h. (let known = is.whole (omega (arith, some, few)) in (omega (arith, known.0, left_is), known.1, known.2));
    ahead = λ j h.
        let q : bits - 1 - j ≡ bits - (kept - count) + (kept - count - 1 - j) = omega (arith, h, left_is, few, whole.0) in
        let i : bits - 1 - (bits - left + j) ≡ kept - count - 1 - j = omega (arith, h, left_is, few, whole.0) in
        let there : head + (end - left + j) ≡ m * bits + (bits - left + j) = omega (arith, h, left_is, few, ends, whole) in
        ap (digit next) q
        ∙ sym (ap (λ us. element us (end - left + j)) ys_is
        ∙ put_digit (end - left + j) (bits - left + j) (omega (arith, h, left_is, few, ends, in_list)) (omega (arith, h, left_is, few, whole.0)) there
        ∙ ap (digit r) i
        ∙ round (kept - count - 1 - j) (omega (arith, h, left_is)));
    before = λ some_left j h.
        let i : bits - 1 - (bits - left - 1 - j) ≡ kept - count + j = omega (arith, h, left_is) in
        let there : head + (end - left - 1 - j) ≡ m * bits + (bits - left - 1 - j) = omega (arith, h, left_is, ends, whole) in
        sym (ap (λ us. element us (end - left - 1 - j)) ys_is
        ∙ put_digit (end - left - 1 - j) (bits - left - 1 - j) (omega (arith, some_left, in_list, there, h, ends, whole)) (omega (arith, h)) there
        ∙ ap (digit r) i
        ∙ up j (omega (arith, h, left_is)));
  }

-- a word c that is read is known, turned round at element number k of it
pub known_read : (bits : ℕ) (at : ℕ → ℕ) (head : ℕ) (xs : List Bool) (place k m c w : ℕ) → Falls bits at → k < bits → head ≤ m * bits → head + place ≡ m * bits + k → place + (bits - k) ≤ length xs
    → ((j : ℕ) → j < length xs → (head + j) / bits ≡ m → digit c (at ((head + j) % bits)) ≡ element xs j)
    → ((q : ℕ) → k + q < bits → digit w (k + q) ≡ digit c q) → ((q : ℕ) → q < k → digit w q ≡ digit c (bits - k + q))
    → IsKnown bits at head xs (place + (bits - k)) (bits - k) m w
known_read bits at head xs place k m c w falls inner from there in_list read up round =
    let one : (j i : ℕ) → j < length xs → i < bits → head + j ≡ m * bits + i → digit c (bits - 1 - i) ≡ element xs j = λ j i h small is.
    (let word : (head + j) / bits ≡ m = ap (λ n. n / bits) is ∙ div-mul-add m bits i small in
    let index : (head + j) % bits ≡ i = ap (λ n. n % bits) is ∙ mod-mul-add m bits i small in
    ap (digit c) (sym (ap at index ∙ falls i small)) ∙ read j h word) in
    record {
      falls = λ h. falls;
      whole = λ h. (omega arith, from, omega (arith, there, inner));
      ahead = λ j h.
          let q : bits - 1 - j ≡ k + (bits - 1 - (k + j)) = omega (arith, h) in
          let e : place + j ≡ place + (bits - k) - (bits - k) + j = omega arith in
          ap (digit w) q
          ∙ up (bits - 1 - (k + j)) (omega (arith, h))
          ∙ one (place + j) (k + j) (omega (arith, h, in_list)) (omega (arith, h)) (omega (arith, there))
          ∙ ap (element xs) e;
      before = λ some j h.
          let q : bits - k + j ≡ bits - 1 - (k - 1 - j) = omega (arith, h, inner) in
          let e : place - 1 - j ≡ place + (bits - k) - (bits - k) - 1 - j = omega arith in
          round j (omega (arith, h, inner))
          ∙ ap (digit c) q
          ∙ one (place - 1 - j) (k - 1 - j) (omega (arith, h, inner, there, from, in_list)) (omega (arith, h, inner)) (omega (arith, h, inner, there, from))
          ∙ ap (element xs) e;
    }

-- the digits of a number are those of its higher part, and behind them its lowest
pub digits_be-split : (a b n high : ℕ) → ((q : ℕ) → q < a → digit high q ≡ digit n (b + q)) → digits_be a high ++ digits_be b n ≡ digits_be (a + b) n
digits_be-split a b n high is =
    let front : length (digits_be a high) ≡ a = length-digits_be a high in
    let behind : length (digits_be b n) ≡ b = length-digits_be b n in
    tabulate-from_elements (digits_be a high ++ digits_be b n) (a + b) (λ j. digit n (a + b - 1 - j)) false (length-append (digits_be a high) (digits_be b n) ∙ omega (arith, front, behind)) (λ j h. elim (cases_lt j a) [
      | inl first ↦ (
          let q : b + (a - 1 - j) ≡ a + b - 1 - j = omega (arith, first) in
          get_or_append_left (digits_be a high) (digits_be b n) false j (omega (arith, front, first))
          ∙ get_or-tabulate a (λ i. digit high (a - 1 - i)) j false first
          ∙ is (a - 1 - j) (omega (arith, first))
          ∙ ap (digit n) q)
      | inr past ↦ (
          let q : b - 1 - (j - a) ≡ a + b - 1 - j = omega (arith, past, h) in
          get_or-append_right (digits_be a high) (digits_be b n) a j false front past
          ∙ get_or-tabulate b (λ i. digit n (b - 1 - i)) (j - a) false (omega (arith, past, h))
          ∙ ap (digit n) q)
    ])

-- nothing is known
pub known_none : (bits : ℕ) (at : ℕ → ℕ) (head : ℕ) (xs : List Bool) (end m w : ℕ) → IsKnown bits at head xs end 0 m w
known_none bits at head xs end m w = record {
  falls = λ h. absurd (omega (arith, h));
  whole = λ h. absurd (omega (arith, h));
  ahead = λ j h. absurd (omega (arith, h));
  before = λ h. absurd (omega (arith, h));
}
