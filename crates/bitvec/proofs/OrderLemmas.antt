-- Spans taken in another order: relations of each two of them, and the last one with bits in an order in which places rise.
use Rattle.std.proofs.Common.{◌≡◌, ℕ, ℤ, ◌*◌, ◌%◌, ◌^◌, pos, negsuc, ◌+◌, ◌<◌, ◌≤◌, ◌≤ℤ◌, ◌⊎◌, List, length, get_or, [], ◌∷◌, zero-add, refl, sym, ◌∙◌, subst, ap, inl, inr, arith}
use Rattle.std.specs.Prelude.{nat_abs, map, All, AllPairs, swap}
use Rattle.std.specs.Int.{w64, cast_unsigned}
use Rattle.std.specs.List.{range_with_len}
use Rattle.std.specs.List.Sorted.{IsPermutation, IsNonDecreasingBy}
use Rattle.std.proofs.lemmas.Bool.{cases_eq, cases_lt}
use Rattle.std.proofs.lemmas.Int.{ints}
use Rattle.std.proofs.lemmas.List.{get_or_default}
use Rattle.std.proofs.lemmas.List.Edits.{length-swap, swapped_from_swap}
use Rattle.std.proofs.lemmas.List.FromFn.{fill_by_all, length-range_with_len, get_or-range_with_len}
use Rattle.std.proofs.lemmas.List.Sorted.{IsPermutation-keeps, All-permutation, IsPermutation-sym}
use Rattle.std.proofs.lemmas.Nat.{mul-le}
use Rattle.std.proofs.lemmas.Option.{slice_get_read}
use Rattle.bitvec_ptr.specs.Place.{place_at}
use Rattle.bitvec_span.specs.Span.{Span, AreDisjoint}
use Rattle.bitvec_span.proofs.DisjointLemmas.{disjoint-sym}
use Rattle.bitvec.specs.Run.{span_in, span_or_empty, start_in}
use Rattle.bitvec.proofs.RisingLemmas.{place_number}

-- each two elements at different indices are related
abbrev pub EachTwo : {X : Type 0} → (X → X → Type 0) → List X → Type 0
EachTwo {X} R xs = (a b : ℕ) (d : X) → (a ≡ b → ⊥) → a < length xs → b < length xs → R (get_or xs a d) (get_or xs b d)

pub each_two_from_pairs : {X : Type 0} (R : X → X → Type 0) → ((x y : X) → R x y → R y x) → (xs : List X) → AllPairs R xs → EachTwo R xs
each_two_from_pairs R turns xs all a b d differ low high =
    elim (cases_lt a b) [
      | inl below ↦ all a b d below high
      | inr above ↦ turns (get_or xs b d) (get_or xs a d) (all b a d (omega arith) low)
    ]

pub pairs_from_each_two : {X : Type 0} (R : X → X → Type 0) (xs : List X) → EachTwo R xs → AllPairs R xs
pairs_from_each_two R xs all a b d below high = all a b d (λ e. omega arith) (omega arith) high

-- an exchange of indices i and j brings what stood at k to m
abbrev pub Brings : ℕ → ℕ → ℕ → ℕ → Type 0
Brings i j k m = ((m ≡ i) × (k ≡ j)) ⊎ (((m ≡ j) × (k ≡ i)) ⊎ ((m ≡ i → ⊥) × (m ≡ j → ⊥) × (k ≡ m)))

pub brings-differ : (i j k l a b : ℕ) → Brings i j k a → Brings i j l b → (a ≡ b → ⊥) → k ≡ l → ⊥
brings-differ i j k l a b (inl (p, q)) (inl (s, t)) differ same = differ (omega arith)
brings-differ i j k l a b (inl (p, q)) (inr (inl (s, t))) differ same = differ (omega arith)
brings-differ i j k l a b (inl (p, q)) (inr (inr (s, t, u))) differ same = t (omega arith)
brings-differ i j k l a b (inr (inl (p, q))) (inl (s, t)) differ same = differ (omega arith)
brings-differ i j k l a b (inr (inl (p, q))) (inr (inl (s, t))) differ same = differ (omega arith)
brings-differ i j k l a b (inr (inl (p, q))) (inr (inr (s, t, u))) differ same = s (omega arith)
brings-differ i j k l a b (inr (inr (p, q, r))) (inl (s, t)) differ same = q (omega arith)
brings-differ i j k l a b (inr (inr (p, q, r))) (inr (inl (s, t))) differ same = p (omega arith)
brings-differ i j k l a b (inr (inr (p, q, r))) (inr (inr (s, t, u))) differ same = differ (omega arith)

-- what an exchange brings to m
pub brought : {X : Type 0} (xs : List X) (i j m : ℕ) (d : X) → i < length xs → j < length xs → m < length xs
    → (k : ℕ) × (k < length xs) × (get_or (swap xs i j) m d ≡ get_or xs k d) × Brings i j k m
brought xs i j m d in_i in_j within =
    let moved = swapped_from_swap xs (swap xs i j) i j d in_i in_j refl in
    elim (cases_eq m i) [
      | inl e ↦ (j, in_j, ap (λ n. get_or (swap xs i j) n d) e ∙ moved.0, inl (e, refl))
      | inr not_i ↦ elim (cases_eq m j) [
        | inl e ↦ (i, in_i, ap (λ n. get_or (swap xs i j) n d) e ∙ moved.1, inr (inl (e, refl)))
        | inr not_j ↦ (m, within, moved.2 m not_i not_j, inr (inr (not_i, not_j, refl)))
      ]
    ]

pub each_two_swap : {X : Type 0} (R : X → X → Type 0) (xs : List X) (i j : ℕ) → i < length xs → j < length xs → EachTwo R xs → EachTwo R (swap xs i j)
each_two_swap R xs i j in_i in_j all a b d differ low high =
    let long = length-swap xs i j in
    let p = brought xs i j a d in_i in_j (omega arith) in
    let q = brought xs i j b d in_i in_j (omega arith) in
    subst (λ x. R x (get_or (swap xs i j) b d)) (sym p.2)
    (subst (λ y. R (get_or xs p.0 d) y) (sym q.2)
    (all p.0 q.0 d (brings-differ i j p.0 q.0 a b p.3 q.3 differ) p.1 q.1))

-- where a relation goes either way, so it is among the same elements in another order
pub pairs_in_order : {X : Type 0} (R : X → X → Type 0) → ((x y : X) → R x y → R y x) → (xs ys : List X) → IsPermutation xs ys → AllPairs R xs → AllPairs R ys
pairs_in_order R turns xs ys moved all =
    pairs_from_each_two R ys
    (IsPermutation-keeps xs (EachTwo R) (each_two_from_pairs R turns xs all) (λ l i j in_i in_j h. each_two_swap R l i j in_i in_j h) ys moved)

-- the span at an index that is there
pub span_in-at : {S : Type 0} (view : S → Span) (xs : List S) (i : ℕ) (d : S) → i < length xs → span_in view xs i ≡ view (get_or xs i d)
span_in-at view xs i d within =
    ap (span_or_empty view) (slice_get_read xs (length xs) i (get_or xs i d) refl within (get_or_default xs i d (get_or xs i d) within))

pub span_in-range : {S : Type 0} (view : S → Span) (xs : List S) (i : ℕ) (d : S) (e : ℕ) → i < length xs
    → span_in view xs (get_or (range_with_len 0 (length xs)) i e) ≡ view (get_or xs i d)
span_in-range view xs i d e within =
    ap (λ n. span_in view xs n) (get_or-range_with_len 0 (length xs) i e within ∙ zero-add i) ∙ span_in-at view xs i d within

-- a relation of spans, by the spans' numbers
pub pairs_by_number : {S : Type 0} (R : Span → Span → Type 0) (view : S → Span) (xs : List S)
    → AllPairs (λ a b. R (view a) (view b)) xs → AllPairs (λ i j. R (span_in view xs i) (span_in view xs j)) (range_with_len 0 (length xs))
pairs_by_number R view [] all i j d below high = absurd (omega arith)
pairs_by_number R view (x ∷ rest) all i j d below high =
    let long = length-range_with_len 0 (length (x ∷ rest)) in
    let within : j < length (x ∷ rest) = omega (arith, high, long) in
    subst (λ s. R s (span_in view (x ∷ rest) (get_or (range_with_len 0 (length (x ∷ rest))) j d))) (sym (span_in-range view (x ∷ rest) i x d (omega (arith, below, within))))
    (subst (λ s. R (view (get_or (x ∷ rest) i x)) s) (sym (span_in-range view (x ∷ rest) j x d within)) (all i j x below within))

pub pairs_from_number : {S : Type 0} (R : Span → Span → Type 0) (view : S → Span) (xs : List S)
    → AllPairs (λ i j. R (span_in view xs i) (span_in view xs j)) (range_with_len 0 (length xs)) → AllPairs (λ a b. R (view a) (view b)) xs
pairs_from_number R view xs all i j d below high =
    let long = length-range_with_len 0 (length xs) in
    subst (λ s. R s (view (get_or xs j d))) (span_in-range view xs i d 0 (omega arith))
    (subst (λ s. R (span_in view xs (get_or (range_with_len 0 (length xs)) i 0)) s) (span_in-range view xs j d 0 high)
    (all i j 0 below (omega arith)))

-- the span at an index that was read
pub span_in-read : {S : Type 0} (view : S → Span) (xs : List S) (i : ℕ) (x : S) → i < length xs → x ≡ get_or xs i x → span_in view xs i ≡ view x
span_in-read view xs i x within is = ap (span_or_empty view) (slice_get_read xs (length xs) i x refl within is)

-- spans that are apart are so in another order, and back
pub apart_along : {S : Type 0} (bits : ℕ) (view : S → Span) (spans : List S) (order : List ℕ) → IsPermutation (range_with_len 0 (length spans)) order
    → AllPairs (λ a b. AreDisjoint bits (view a) (view b)) spans → AllPairs (λ i j. AreDisjoint bits (span_in view spans i) (span_in view spans j)) order
apart_along bits view spans order moved apart =
    pairs_in_order (λ i j. AreDisjoint bits (span_in view spans i) (span_in view spans j)) (λ i j. disjoint-sym bits (span_in view spans i) (span_in view spans j))
    (range_with_len 0 (length spans)) order moved (pairs_by_number (AreDisjoint bits) view spans apart)

pub apart_back : {S : Type 0} (bits : ℕ) (view : S → Span) (spans : List S) (order : List ℕ) → IsPermutation (range_with_len 0 (length spans)) order
    → AllPairs (λ i j. AreDisjoint bits (span_in view spans i) (span_in view spans j)) order → AllPairs (λ a b. AreDisjoint bits (view a) (view b)) spans
apart_back bits view spans order moved apart =
    pairs_from_number (AreDisjoint bits) view spans
    (pairs_in_order (λ i j. AreDisjoint bits (span_in view spans i) (span_in view spans j)) (λ i j. disjoint-sym bits (span_in view spans i) (span_in view spans j))
    order (range_with_len 0 (length spans)) (IsPermutation-sym (range_with_len 0 (length spans)) order moved) apart)

-- a list that holds at each index the index
pub each_itself : (xs : List ℕ) → map (λ x. x) xs ≡ xs
each_itself [] = refl
each_itself (x ∷ xs) = ap (λ ys. x ∷ ys) (each_itself xs)

pub numbered : (xs : List ℕ) (n : ℕ) → length xs ≡ n → ((k : ℕ) → k < n → get_or xs k 0 ≡ k) → xs ≡ range_with_len 0 n
numbered xs n long is = fill_by_all (λ k. k) xs n 0 long is ∙ each_itself (range_with_len 0 n)

-- the numbers of an order are those of elements
pub below_in_order : (n : ℕ) (order : List ℕ) → IsPermutation (range_with_len 0 n) order → All (λ i. i < n) order
below_in_order n order moved =
    let long = length-range_with_len 0 n in
    All-permutation (λ i. i < n) (range_with_len 0 n) order moved (λ k d h. rw (get_or-range_with_len 0 n k d (omega arith)) (omega arith))

-- what holds of each span of a list, and so by its number
pub span_in-each : {S : Type 0} (P : Span → Type 0) (view : S → Span) (xs : List S) (i : ℕ) → i < length xs → All (λ x. P (view x)) xs → P (span_in view xs i)
span_in-each P view [] i within all = absurd (omega arith)
span_in-each P view (x ∷ rest) i within all = subst P (sym (span_in-at view (x ∷ rest) i x within)) (all i x within)

-- a word above an index in it, as one number
abbrev pub key_of : Span → ℕ
key_of span = cast_unsigned w64 span.word * 18446744073709551616 + span.head

unsigned-pos : (word : ℤ) → pos 0 ≤ℤ word → cast_unsigned w64 word ≡ nat_abs word
unsigned-pos (pos m) low = refl
unsigned-pos (negsuc m) low = absurd (omega (arith, ints, low))

-- it rises as the places of spans from word 0 on do
pub starts-by-key : (bits : ℕ) (a b : Span) → bits ≤ 128 → pos 0 ≤ℤ a.word → pos 0 ≤ℤ b.word → a.head < bits → b.head < bits
    → key_of a ≤ key_of b → nat_abs a.word * bits + a.head ≤ nat_abs b.word * bits + b.head
starts-by-key bits a b small low_a low_b in_a in_b rises =
    let m = nat_abs a.word in
    let n = nat_abs b.word in
    let order : m * 18446744073709551616 + a.head ≤ n * 18446744073709551616 + b.head = omega (arith, unsigned-pos a.word low_a, unsigned-pos b.word low_b, rises) in
    elim (cases_lt m n) [
      | inl below ↦ (let rows : (m + 1) * bits ≤ n * bits = mul-le (m + 1) bits n bits (omega (arith, below)) (omega arith) in omega (arith, rows, in_a))
      | inr past ↦ (
          let same : m ≡ n = omega (arith, past, order, in_a, in_b, small) in
          let rows : m * bits ≡ n * bits = ap (λ k. k * bits) same in
          omega (arith, rows, same, order))
    ]

-- an order of the numbers of spans along which it does not fall
pub rises_from_sort : {S : Type 0} (bits : ℕ) (view : S → Span) (spans : List S) (order : List ℕ) → bits ≤ 128
    → All (λ s. pos 0 ≤ℤ (view s).word) spans → All (λ s. (view s).head < bits) spans → All (λ i. i < length spans) order
    → IsNonDecreasingBy (λ i. key_of (span_in view spans i)) order → AllPairs (λ i j. start_in bits view spans i ≤ start_in bits view spans j) order
rises_from_sort bits view spans order small low heads inside sorted i j d below high =
    let m = get_or order i d in
    let n = get_or order j d in
    let in_m = inside i d (omega (arith, below, high)) in
    let in_n = inside j d high in
    starts-by-key bits (span_in view spans m) (span_in view spans n) small
    (span_in-each (λ s. pos 0 ≤ℤ s.word) view spans m in_m low) (span_in-each (λ s. pos 0 ≤ℤ s.word) view spans n in_n low)
    (span_in-each (λ s. s.head < bits) view spans m in_m heads) (span_in-each (λ s. s.head < bits) view spans n in_n heads)
    (sorted i j d (omega (arith, below)) high)

-- the number of a span's first bit, and the greatest of a word of 64 digits where it passes that
abbrev pub near_key : ℕ → Span → ℕ
near_key bits span = (cast_unsigned w64 span.word * bits % 2 ^ 64 + span.head) % 2 ^ 64

-- in few words it passes none
pub near_key-start : (bits : ℕ) (a : Span) → bits ≤ 128 → pos 0 ≤ℤ a.word → nat_abs a.word ≤ 36028797018963968 → a.head < bits
    → near_key bits a ≡ nat_abs a.word * bits + a.head
near_key-start bits a small low near in_a =
    let word = unsigned-pos a.word low in
    let product : nat_abs a.word * bits ≤ 36028797018963968 * 128 = mul-le (nat_abs a.word) bits 36028797018963968 128 near small in
    let same : cast_unsigned w64 a.word * bits ≡ nat_abs a.word * bits = ap (λ n. n * bits) word in
    let kept : cast_unsigned w64 a.word * bits % 2 ^ 64 ≡ nat_abs a.word * bits = omega (arith, same, product) in
    omega (arith, kept, product, in_a, small)

-- an order of the numbers of spans in few words along which it does not fall
pub rises_from_near_sort : {S : Type 0} (bits : ℕ) (view : S → Span) (spans : List S) (order : List ℕ) → bits ≤ 128
    → All (λ s. pos 0 ≤ℤ (view s).word) spans → All (λ s. nat_abs (view s).word ≤ 36028797018963968) spans
    → All (λ s. (view s).head < bits) spans → All (λ i. i < length spans) order
    → IsNonDecreasingBy (λ i. near_key bits (span_in view spans i)) order → AllPairs (λ i j. start_in bits view spans i ≤ start_in bits view spans j) order
rises_from_near_sort bits view spans order small low near heads inside sorted i j d below high =
    let m = get_or order i d in
    let n = get_or order j d in
    let start = λ (k : ℕ) (in_k : k < length spans). near_key-start bits (span_in view spans k) small
    (span_in-each (λ s. pos 0 ≤ℤ s.word) view spans k in_k low) (span_in-each (λ s. nat_abs s.word ≤ 36028797018963968) view spans k in_k near)
    (span_in-each (λ s. s.head < bits) view spans k in_k heads) in
    let in_m = inside i d (omega (arith, below, high)) in
    let in_n = inside j d high in
    omega (arith, start m in_m, start n in_n, sorted i j d (omega (arith, below)) high)

-- Two spans have a place in common where the second has bits, and starts at the first's start or above, but below its end.
pub meet_from_numbers : (bits : ℕ) (a b : Span) → pos 0 ≤ℤ a.word → pos 0 ≤ℤ b.word → 0 < b.len
    → nat_abs a.word * bits + a.head ≤ nat_abs b.word * bits + b.head → nat_abs b.word * bits + b.head < nat_abs a.word * bits + a.head + a.len
    → AreDisjoint bits a b → ⊥
meet_from_numbers bits a b low_a low_b some starts inside apart =
    let p = place_number bits a.head a.word low_a in
    let q = place_number bits b.head b.word low_b in
    apart (place_at bits b.word b.head) (omega (arith, ints, p, q, starts), omega (arith, ints, p, q, inside)) (omega (arith, ints), omega (arith, ints, some))

-- where a number is not 0, one of the first i spans of an order ends there
abbrev pub IsEndOf : ℕ → (ℕ → Span) → List ℕ → ℕ → ℕ → Type 0
IsEndOf bits view order i upto =
    0 < upto → (l : ℕ) × (l < i) × (nat_abs (view (get_or order l 0)).word * bits + (view (get_or order l 0)).head + (view (get_or order l 0)).len ≡ upto)
