-- A row that goes round at its ends, and a count by three digits.
use Rattle.std.proofs.Common.{◌≡◌, ◌≢◌, ℕ, ◌+◌, ◌-◌, ◌*◌, ◌%◌, ◌<◌, ◌≤◌, ◌==◌, Bool, true, false, not, ◌&&◌, ◌||◌, cond, List, [], ◌∷◌, ◌++◌, length, map, take, drop, replicate, get_or, set, refl, sym, ap, subst, ◌∙◌, inl, inr, arith, length-drop}
use Rattle.std.proofs.lemmas.Bool.{cases_eq, cases_lt}
use Rattle.std.proofs.lemmas.Grind.{common_steps}
use Rattle.std.proofs.lemmas.List.{get_or-drop, get_or_append_left, get_or-take, get_or-map, get_or-replicate, get_or-set_same, get_or-set_other, length-set, length-map}
use Rattle.std.proofs.Math.Seq.{get_or-append_right}
use Rattle.std.proofs.Math.Nat.{mod-eq_of_lt, mod_self, add-mod_left}
use Rattle.bitvec.specs.Digit.{exclusive_or}
use Rattle.bitvec.specs.Span.{element}
use Rattle.bitvec_array.proofs.ArrayRules.{lists}
use Rattle.example_life.specs.Rule.{one_if, place_before, place_behind, beside, around, lives, next_cell, row_of, cell_after, IsNext}
use Rattle.example_life.specs.Tally.{IsTally}

-- one more is counted by three digits
pub tally_more : (o t f x : Bool) (n : ℕ) → IsTally o t f n → IsTally (exclusive_or o x) (exclusive_or t (o && x)) (f || (t && (o && x))) (n + one_if x)
tally_more o t f x n h = grind (arith, common_steps)

-- the rule by these digits
pub tally_lives : (o t f alive : Bool) (n : ℕ) → IsTally o t f n → ((t && not f) && (o || alive)) ≡ lives alive n
tally_lives o t f alive n h = grind (arith, common_steps)

-- no digit is one where none was counted
pub tally_none : {o t f : Bool} → o ≡ false → t ≡ false → f ≡ false → IsTally o t f 0
tally_none {o} {t} {f} a b c = subst (λ x. IsTally x t f 0) (sym a) (subst (λ x. IsTally false x f 0) (sym b) (subst (λ x. IsTally false false x 0) (sym c) (grind arith)))

-- the same digits of the same number
tally_as : (o p t u f g : Bool) (n : ℕ) → p ≡ o → u ≡ t → g ≡ f → IsTally o t f n → IsTally p u g n
tally_as o p t u f g n a b c h = subst (λ x. IsTally x u g n) (sym a) (subst (λ x. IsTally o x g n) (sym b) (subst (λ x. IsTally o t x n) (sym c) h))

-- one more by its digits, where a cell lives
pub plus_at : (o t x : Bool) {f carry first second both third : Bool} (n : ℕ) → carry ≡ (o && x) → first ≡ exclusive_or o x → second ≡ exclusive_or t carry → both ≡ (t && carry) → third ≡ (f || both)
    → IsTally o t f n → IsTally first second third (n + one_if x)
plus_at o t x {f} n a b c d e tally =
    tally_as _ _ _ _ _ _ _ b (c ∙ ap (exclusive_or t) a) (e ∙ ap (λ y. f || y) (d ∙ ap (λ y. t && y) a)) (tally_more o t f x n tally)

-- the rule, where the cell is the row's
pub lives_at : (o t alive : Bool) {f none some either all : Bool} (n : ℕ) → none ≡ not f → some ≡ (t && none) → either ≡ (o || alive) → all ≡ (some && either) → IsTally o t f n → all ≡ lives alive n
lives_at o t alive {f} {none} {some} {either} n a b c d tally =
    d ∙ ap (λ x. x && either) (b ∙ ap (λ x. t && x) a) ∙ ap (λ x. (t && not f) && x) c ∙ tally_lives o t f alive n tally

-- the cells beside one, one after the other, and then the cell itself
pub beside_of : (xs forth back : List Bool) (j n : ℕ) → element forth j ≡ element xs (place_before (length xs) j) → element back j ≡ element xs (place_behind (length xs) j) → n + one_if (element forth j) + one_if (element back j) ≡ n + beside xs j
beside_of xs forth back j n before behind = omega (arith, ap one_if before, ap one_if behind)

pub around_of : (xs : List Bool) (j n : ℕ) → n + beside xs j + one_if (element xs j) ≡ n + around xs j
around_of xs j n = omega arith

-- the rule, where those of three rows are counted from nothing
pub next_of : (above row below : List Bool) (j : ℕ) → lives (element row j) (0 + around above j + beside row j + around below j) ≡ next_cell above row below j
next_of above row below j =
    let sum : 0 + around above j + beside row j + around below j ≡ around above j + beside row j + around below j = omega arith in
    ap (lives (element row j)) sum

-- the place before one, and the place behind it
pub before_first : (many : ℕ) → 0 < many → many - 1 ≡ place_before many 0
before_first many some =
    let sum : 0 + (many - 1) ≡ many - 1 = omega arith in
    sym (ap (λ n. n % many) sum ∙ mod-eq_of_lt {n = many - 1} {m = many} (omega (arith, some)))

pub before_other : (many j : ℕ) → 0 < j → j < many → j - 1 ≡ place_before many j
before_other many j some inside =
    let sum : j + (many - 1) ≡ many + (j - 1) = omega (arith, some, inside) in
    sym (ap (λ n. n % many) sum ∙ add-mod_left many (j - 1) ∙ mod-eq_of_lt {n = j - 1} {m = many} (omega (arith, inside)))

pub behind_last : (many j : ℕ) → j + 1 ≡ many → 0 ≡ place_behind many j
behind_last many j end = sym (ap (λ n. n % many) end ∙ mod_self many)

pub behind_other : (many j : ℕ) → j + 1 < many → j + 1 ≡ place_behind many j
behind_other many j less = sym (mod-eq_of_lt {n = j + 1} {m = many} less)

-- what a search takes of the places
pub ruleset places = (before_first, before_other, behind_last, behind_other)

module _ (xs : List Bool) (j : ℕ) (inside : j < length xs) where
  -- a row that is turned so that each cell is where the one behind it was
  pub turned_left : element (drop 1 xs ++ take 1 xs) j ≡ element xs (place_behind (length xs) j)
  turned_left =
      let short = length-drop 1 xs in
      elim (cases_lt (j + 1) (length xs)) [
        | inl less ↦ (
            let here : j < length (drop 1 xs) = omega (arith, less, short) in
            let place : 1 + j ≡ (j + 1) % length xs = omega arith ∙ sym (mod-eq_of_lt {n = j + 1} {m = length xs} less) in
            get_or_append_left (drop 1 xs) (take 1 xs) false j here ∙ get_or-drop 1 xs j false ∙ ap (element xs) place
            )
        | inr last ↦ (
            let past : length (drop 1 xs) ≤ j = omega (arith, last, short) in
            let first : j - length (drop 1 xs) ≡ 0 = omega (arith, inside, short) in
            let end : j + 1 ≡ length xs = omega (arith, last, inside) in
            let place : 0 ≡ (j + 1) % length xs = sym (ap (λ n. n % length xs) end ∙ mod_self (length xs)) in
            get_or-append_right (drop 1 xs) (take 1 xs) j false past ∙ ap (element (take 1 xs)) first ∙ get_or-take 1 xs 0 false (omega arith) ∙ ap (element xs) place
            )
      ]

  -- and the other way
  pub turned_right : element (drop (length xs - 1) xs ++ take (length xs - 1) xs) j ≡ element xs (place_before (length xs) j)
  turned_right =
      let short = length-drop (length xs - 1) xs in
      elim (cases_lt j 1) [
        | inl none ↦ (
            let here : j < length (drop (length xs - 1) xs) = omega (arith, none, inside, short) in
            let sum : (length xs - 1) + j ≡ j + (length xs - 1) = omega arith in
            let place : j + (length xs - 1) ≡ (j + (length xs - 1)) % length xs = sym (mod-eq_of_lt {n = j + (length xs - 1)} {m = length xs} (omega (arith, none, inside))) in
            get_or_append_left (drop (length xs - 1) xs) (take (length xs - 1) xs) false j here ∙ get_or-drop (length xs - 1) xs j false ∙ ap (element xs) (sum ∙ place)
            )
        | inr some ↦ (
            let past : length (drop (length xs - 1) xs) ≤ j = omega (arith, some, inside, short) in
            let before : j - length (drop (length xs - 1) xs) ≡ j - 1 = omega (arith, some, inside, short) in
            let sum : j + (length xs - 1) ≡ length xs + (j - 1) = omega (arith, some, inside) in
            let place : j - 1 ≡ (j + (length xs - 1)) % length xs = sym (ap (λ n. n % length xs) sum ∙ add-mod_left (length xs) (j - 1) ∙ mod-eq_of_lt {n = j - 1} {m = length xs} (omega (arith, inside))) in
            get_or-append_right (drop (length xs - 1) xs) (take (length xs - 1) xs) j false past ∙ ap (element (take (length xs - 1) xs)) before
            ∙ get_or-take (length xs - 1) xs (j - 1) false (omega (arith, some, inside)) ∙ ap (element xs) place
            )
      ]

-- the same of a row that is a copy before it is turned
pub left_at : (xs was new : List Bool) (j : ℕ) → j < length xs → was ≡ xs → new ≡ drop 1 was ++ take 1 was → element new j ≡ element xs (place_behind (length xs) j)
left_at xs was new j inside same turned = ap (λ ys. element ys j) (turned ∙ ap (λ ys. drop 1 ys ++ take 1 ys) same) ∙ turned_left xs j inside

pub right_at : (xs was new : List Bool) (j : ℕ) → j < length xs → was ≡ xs → new ≡ drop (length was - 1) was ++ take (length was - 1) was → element new j ≡ element xs (place_before (length xs) j)
right_at xs was new j inside same turned =
    ap (λ ys. element ys j) (turned ∙ ap (λ ys. drop (length ys - 1) ys ++ take (length ys - 1) ys) same) ∙ turned_right xs j inside

-- a grid's row, and what a grid is with one row written
pub row_is : {X : Type 0} (f : X → List Bool) (xs : List X) (i : ℕ) (x : X) → i < length xs → x ≡ get_or xs i x → f x ≡ row_of (map f xs) i
row_is f xs i x inside is = ap f is ∙ sym (get_or-map f xs i x [] inside)

pub row_put : {X : Type 0} (f : X → List Bool) (xs : List X) (i : ℕ) (x : X) → i < length xs → row_of (map f (set xs i x)) i ≡ f x
row_put f xs i x inside = get_or-map f (set xs i x) i x [] (omega (arith, inside, length-set xs i x)) ∙ ap f (get_or-set_same xs i x x inside)

pub row_kept : {X : Type 0} (f : X → List Bool) (xs : List X) (i k : ℕ) (x : X) → k ≢ i → k < length xs → row_of (map f (set xs i x)) k ≡ row_of (map f xs) k
row_kept f xs i k x other inside =
    get_or-map f (set xs i x) k x [] (omega (arith, inside, length-set xs i x)) ∙ ap f (get_or-set_other xs i k x x other) ∙ sym (get_or-map f xs k x [] inside)

-- the cells of a grid's row in the next generation are those of three rows
pub next_in : {X : Type 0} (f : X → List Bool) (rows : List X) (i j : ℕ) {a b : ℕ} {above here below : X} (cell : Bool) → i < length rows → a ≡ place_before (length rows) i → a < length rows → b ≡ place_behind (length rows) i → b < length rows
    → above ≡ get_or rows a above → here ≡ get_or rows i here → below ≡ get_or rows b below → cell ≡ next_cell (f above) (f here) (f below) j → cell ≡ cell_after (map f rows) i j
next_in f rows i j {a} {b} {above} {here} {below} cell inside before before_inside behind behind_inside first second third is =
    let many = length-map rows f in
    let grid = map f rows in
    let up : f above ≡ row_of grid (place_before (length grid) i) = row_is f rows a above before_inside first ∙ ap (row_of grid) (before ∙ ap (λ n. place_before n i) (sym many)) in
    let down : f below ≡ row_of grid (place_behind (length grid) i) = row_is f rows b below behind_inside third ∙ ap (row_of grid) (behind ∙ ap (λ n. place_behind n i) (sym many)) in
    is
    ∙ ap (λ ys. next_cell ys (f here) (f below) j) up
    ∙ ap (λ ys. next_cell (row_of grid (place_before (length grid) i)) ys (f below) j) (row_is f rows i here inside second)
    ∙ ap (λ ys. next_cell (row_of grid (place_before (length grid) i)) (row_of grid i) ys j) down

-- the rows of a grid up to one are made
pub record MadeTo {X : Type 0} (f : X → List Bool) (old new : List X) (i : ℕ) : Type 0 where
  pub size : length new ≡ length old
  pub rule : (k j : ℕ) → k < i → j < length (row_of (map f old) k) → element (row_of (map f new) k) j ≡ cell_after (map f old) k j

-- one more
pub next_more : {X : Type 0} {f : X → List Bool} {old new : List X} {i cells : ℕ} → MadeTo f old new i → i < length old → ((y : X) → length (f y) ≡ cells)
    → (x : X) → ((j : ℕ) → j < cells → element (f x) j ≡ cell_after (map f old) i j) → MadeTo f old (set new i x) (i + 1)
next_more {f = f} {old} {new} {i} {cells} made inside long x rule =
    let room : i < length new = omega (arith, inside, made.size) in record {
      size = length-set new i x ∙ made.size;
      rule = λ k j less within. elim (cases_eq k i) [
        | inl same ↦ (
            let row : length (row_of (map f old) k) ≡ cells = ap (λ n. length (row_of (map f old) n)) same ∙ ap length (get_or-map f old i x [] inside) ∙ long (get_or old i x) in
            ap (λ n. element (row_of (map f (set new i x)) n) j) same
            ∙ ap (λ ys. element ys j) (row_put f new i x room)
            ∙ rule j (omega (arith, within, row))
            ∙ ap (λ n. cell_after (map f old) n j) (sym same)
            )
        | inr other ↦ ap (λ ys. element ys j) (row_kept f new i k x other (omega (arith, less, other, room))) ∙ made.rule k j (omega (arith, less, other)) within
      ];
    }

-- all
pub next_all : {X : Type 0} {f : X → List Bool} {old new : List X} {i : ℕ} → MadeTo f old new i → length old ≤ i → IsNext (map f old) (map f new)
next_all {f = f} {old} {new} made past = (
  length-map new f ∙ made.size ∙ sym (length-map old f),
  λ k j less within. made.rule k j (omega (arith, less, past, length-map old f)) within,
)

-- what a search takes of the cells of combined rows
pub cell_none : (n j : ℕ) → j < n → element (replicate n false) j ≡ false
cell_none n j inside = get_or-replicate n j false false inside

pub ruleset cells = (lists, cell_none)
