-- The places of a range, from its two ends.
use Rattle.std.proofs.Common.{◌≡◌, ℕ, ℤ, zero, suc, pos, negsuc, nat_abs, ◌+◌, ◌-◌, ◌<◌, ◌≤◌, ◌+ℤ◌, ◌≤ℤ◌, List, [], ◌∷◌, ◌++◌, Option, Some, None, MatchOption, length, map, get_or, refl, sym, ◌∙◌, ap, arith, length-append}
use Rattle.std.specs.List.{range_with_len}
use Rattle.std.specs.Iterator.{MakesProgress, YieldsFirstBy, YieldsLastBy, item_count}
use Rattle.std.proofs.lemmas.Int.{ints}
use Rattle.std.proofs.lemmas.List.{map-append}
use Rattle.std.proofs.Math.Dec.{T_prop}
use lib.Signed.{le_z}
use Rattle.bitvec_order.proofs.Ranges.{range_last}
use mathlib.Core.HLevel.{is_prop→PathP}
use Rattle.bitvec_ptr.specs.declared.ptr.range.BitPtrRange.{BitPtrRange}
use Rattle.bitvec_ptr.specs.BitPtr.{ptr_of}
use Rattle.bitvec_ptr.specs.Memory.{tabulate}
use Rattle.bitvec_ptr.specs.Place.{Ptr, place_of, greatest_isize}
use Rattle.bitvec_ptr.specs.Steps.{distance}
use Rattle.bitvec_ptr.specs.PtrRange.{PtrRange, count_of, places_of}
use Rattle.bitvec_ptr.proofs.MemoryLemmas.{length-tabulate, get_or-tabulate, tabulate-from_elements, tabulate_same}

-- an order of whole numbers has one proof
pub le_z_same : (x y : ℤ) (a b : x ≤ℤ y) → a ≡ b
le_z_same x y a b = λ i. record { le = T_prop (le_z x y) a.le b.le i }

-- two ranges with the same ends are the same
pub range_same : {R O : Type 0} {a b c d e f g : _} (p q : BitPtrRange R O a b c d e f g) → p.start ≡ q.start → p.end ≡ q.end → p ≡ q
range_same {a = own} p q s e = λ i. record {
  start = s i;
  end = e i;
  ordered = is_prop→PathP (λ j. place_of own.BITS (ptr_of (s j)) ≤ℤ place_of own.BITS (ptr_of (e j))) (λ j. le_z_same _ _) p.ordered q.ordered i;
  near = is_prop→PathP (λ j. distance own.BITS (ptr_of (e j)) (ptr_of (s j)) ≤ℤ greatest_isize) (λ j. le_z_same _ _) p.near q.near i;
}

-- a table from its first entry, and from its last
first_entry : {A : Type 0} (n : ℕ) (f g : ℕ → A) → ((k : ℕ) → g k ≡ f (suc k)) → (j : ℕ) → j < suc n → get_or (f 0 ∷ tabulate n g) j (f 0) ≡ f j
first_entry n f g next zero h = refl
first_entry n f g next (suc j) h = get_or-tabulate n g j (f 0) (omega arith) ∙ next j

pub tabulate_first : {A : Type 0} (n : ℕ) (f g : ℕ → A) → ((k : ℕ) → g k ≡ f (suc k)) → tabulate (suc n) f ≡ f 0 ∷ tabulate n g
tabulate_first n f g next = sym (tabulate-from_elements (f 0 ∷ tabulate n g) (suc n) f (f 0) (ap suc (length-tabulate n g)) (first_entry n f g next))

pub tabulate_last : {A : Type 0} (n : ℕ) (f : ℕ → A) → tabulate (suc n) f ≡ tabulate n f ++ (f n ∷ [])
tabulate_last n f =
    let whole : suc n ≡ suc n - 0 = omega arith in
    let before : suc n - 1 - 0 ≡ n = omega arith in
    let last : suc n - 1 ≡ n = omega arith in
    let all : range_with_len 0 (suc n) ≡ range_with_len 0 n ++ (n ∷ []) =
    ap (range_with_len 0) whole ∙ range_last 0 (suc n) (omega arith) ∙ ap (λ m. range_with_len 0 m ++ ((suc n - 1) ∷ [])) before ∙ ap (λ m. range_with_len 0 n ++ (m ∷ [])) last in
    ap (map f) all ∙ map-append f (range_with_len 0 n) (n ∷ [])

-- how many places a range has
pub count_known : (bits : ℕ) (range : PtrRange) (n : ℕ) → distance bits range.end range.start ≡ pos n → count_of bits range ≡ n
count_known bits range n e = ap nat_abs e

gap : (z : ℤ) → pos 0 ≤ℤ z → z ≡ pos (nat_abs z)
gap (pos n) h = refl
gap (negsuc n) h = absurd (omega (arith, ints))

pub count_gap : (bits : ℕ) (range : PtrRange) → place_of bits range.start ≤ℤ place_of bits range.end → distance bits range.end range.start ≡ pos (count_of bits range)
count_gap bits range h = let low : pos 0 ≤ℤ distance bits range.end range.start = omega (arith, ints) in gap (distance bits range.end range.start) low

pub length-places_of : (bits : ℕ) (range : PtrRange) → length (places_of bits range) ≡ count_of bits range
length-places_of bits range = length-tabulate (count_of bits range) _

-- a range of no distance has no place
pub places_none : (bits : ℕ) (range : PtrRange) → place_of bits range.end ≡ place_of bits range.start → places_of bits range ≡ []
places_none bits range e =
    let none : distance bits range.end range.start ≡ pos 0 = omega (arith, ints) in
    ap (λ n. tabulate n (λ k. place_of bits range.start +ℤ pos k)) (count_known bits range 0 none)

-- the first place and the others
pub places_first : (bits : ℕ) (range rest : PtrRange) → place_of bits rest.end ≡ place_of bits range.end → place_of bits rest.start ≡ place_of bits range.start +ℤ pos 1 → place_of bits rest.start ≤ℤ place_of bits rest.end
    → places_of bits range ≡ place_of bits range.start ∷ places_of bits rest
places_first bits range rest e s h =
    let f : ℕ → ℤ = λ k. place_of bits range.start +ℤ pos k in
    let g : ℕ → ℤ = λ k. place_of bits rest.start +ℤ pos k in
    let n = count_of bits rest in
    let gap_rest = count_gap bits rest h in
    let more : distance bits range.end range.start ≡ pos (suc n) = omega (arith, ints, gap_rest, e, s) in
    let zero_on : f 0 ≡ place_of bits range.start = omega (arith, ints) in
    ap (λ m. tabulate m f) (count_known bits range (suc n) more)
    ∙ tabulate_first n f g (λ k. omega (arith, ints, s))
    ∙ ap (λ z. z ∷ tabulate n g) zero_on

-- those before the last place, and it
pub places_last : (bits : ℕ) (range rest : PtrRange) → place_of bits rest.start ≡ place_of bits range.start → place_of bits range.end ≡ place_of bits rest.end +ℤ pos 1 → place_of bits rest.start ≤ℤ place_of bits rest.end
    → places_of bits range ≡ places_of bits rest ++ (place_of bits rest.end ∷ [])
places_last bits range rest s e h =
    let f : ℕ → ℤ = λ k. place_of bits range.start +ℤ pos k in
    let g : ℕ → ℤ = λ k. place_of bits rest.start +ℤ pos k in
    let n = count_of bits rest in
    let gap_rest = count_gap bits rest h in
    let more : distance bits range.end range.start ≡ pos (suc n) = omega (arith, ints, gap_rest, e, s) in
    let last : f n ≡ place_of bits rest.end = omega (arith, ints, gap_rest, s) in
    let same : tabulate n f ≡ tabulate n g = tabulate_same n f g (pos 0) (λ k _. ap (λ z. z +ℤ pos k) (sym s)) in
    ap (λ m. tabulate m f) (count_known bits range (suc n) more)
    ∙ tabulate_last n f
    ∙ ap (λ z. tabulate n f ++ (z ∷ [])) last
    ∙ ap (λ xs. xs ++ (place_of bits rest.end ∷ [])) same

-- where a range has no place, its ends are at one
pub ends_meet : (bits : ℕ) (range : PtrRange) → place_of bits range.start ≤ℤ place_of bits range.end → places_of bits range ≡ [] → place_of bits range.start ≡ place_of bits range.end
ends_meet bits range h e =
    let none = ap length e in
    let counted = length-places_of bits range in
    let apart = count_gap bits range h in
    omega (arith, ints, none, counted, apart)

-- what `next` gives, from what a call for the first place gave
pub first_given : {B : Type 0} (bits : ℕ) (view : B → Ptr) (old new : PtrRange) (r : Option B) → new.end ≡ old.end → place_of bits old.start ≤ℤ place_of bits old.end → place_of bits new.start ≤ℤ place_of bits new.end
    → MatchOption r ((count_of bits old ≤ 0) × (new.start ≡ old.end)) (λ p. (0 < count_of bits old) × (place_of bits (view p) ≡ place_of bits old.start +ℤ pos 0) × (place_of bits new.start ≡ place_of bits (view p) +ℤ pos 1))
    → YieldsFirstBy (λ p. place_of bits (view p)) (places_of bits) old r new
first_given bits view old new None same le le2 h =
    let none = count_gap bits old le in
    let met : place_of bits old.end ≡ place_of bits old.start = omega (arith, ints, none, h.0) in
    (places_none bits old met, places_none bits new (ap (place_of bits) (same ∙ sym h.1)))
first_given bits view old new (Some x) same le le2 h =
    let at : place_of bits old.start ≡ place_of bits (view x) = omega (arith, ints, h.1) in
    let next : place_of bits new.start ≡ place_of bits old.start +ℤ pos 1 = h.2 ∙ ap (λ z. z +ℤ pos 1) (sym at) in
    places_first bits old new (ap (place_of bits) same) next le2 ∙ ap (λ z. z ∷ places_of bits new) at

-- the same from the back
pub last_given : {B : Type 0} (bits : ℕ) (view : B → Ptr) (old new : PtrRange) (r : Option B) → new.start ≡ old.start → place_of bits old.start ≤ℤ place_of bits old.end → place_of bits new.start ≤ℤ place_of bits new.end
    → MatchOption r ((count_of bits old ≤ 0) × (new.end ≡ old.start)) (λ p. (0 < count_of bits old) × (place_of bits old.end ≡ place_of bits (view p) +ℤ pos (0 + 1)) × (new.end ≡ view p))
    → YieldsLastBy (λ p. place_of bits (view p)) (places_of bits) old r new
last_given bits view old new None same le le2 h =
    let none = count_gap bits old le in
    let met : place_of bits old.end ≡ place_of bits old.start = omega (arith, ints, none, h.0) in
    (places_none bits old met, places_none bits new (ap (place_of bits) (h.1 ∙ sym same)))
last_given bits view old new (Some x) same le le2 h =
    let at : place_of bits new.end ≡ place_of bits (view x) = ap (place_of bits) h.2 in
    let last : place_of bits old.end ≡ place_of bits new.end +ℤ pos 1 = h.1 ∙ ap (λ z. z +ℤ pos 1) (sym at) in
    places_last bits old new (ap (place_of bits) same) last le2 ∙ ap (λ z. places_of bits new ++ (z ∷ [])) at

-- a call that took an item made progress
pub progress_first : {S A B : Type 0} (view : B → A) (rest : S → List A) (can : S → Type 0) (s : S) (r : Option B) (t : S) → can t → YieldsFirstBy view rest s r t → MakesProgress can (item_count rest) s r t
progress_first view rest can s None t h y = record { on = λ _. tt; keeps = tt; rests = λ _. tt }
progress_first view rest can s (Some x) t h y = let l = ap length y in record { on = λ _. (h, tt, omega arith); keeps = h; rests = λ _. tt }

pub progress_last : {S A B : Type 0} (view : B → A) (rest : S → List A) (can : S → Type 0) (s : S) (r : Option B) (t : S) → can t → YieldsLastBy view rest s r t → MakesProgress can (item_count rest) s r t
progress_last view rest can s None t h y = record { on = λ _. tt; keeps = tt; rests = λ _. tt }
progress_last view rest can s (Some x) t h y =
    let l = ap length y ∙ length-append (rest t) (view x ∷ []) in
    record { on = λ _. (h, tt, omega arith); keeps = h; rests = λ _. tt }
