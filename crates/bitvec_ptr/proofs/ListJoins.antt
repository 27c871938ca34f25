-- Combinations of lists that are made one behind another, rising or falling.
use Rattle.std.proofs.Common.{◌≡◌, ⊎_elim, ℕ, ◌+◌, ◌*◌, ◌-◌, ◌<◌, ◌≤◌, List, length, get_or, refl, ◌∙◌, ap, arith}
use Rattle.std.proofs.Math.Nat.{mul-le-mul_right}
use Rattle.std.proofs.lemmas.Bool.{cases_lt}
use Rattle.bitvec_ptr.specs.Memory.{list_with}
use Rattle.bitvec_ptr.proofs.CombineLemmas.{length-combined, get_or-combined_below, get_or-combined_inside, get_or-combined_above}
use Rattle.bitvec_ptr.proofs.CombineLemmas.{combined_from_points}

-- the target has n elements from t on, and the source n from s on
pub record HasRoom {A : Type 0} (source target : List A) (s t n : ℕ) : Type 0 where
  pub fits : t + n ≤ length target
  pub has : s + n ≤ length source

-- a list is as long as another, and has its elements at the places of P
pub record AgreesAt {A : Type 0} (source read : List A) (P : ℕ → Type 0) : Type 0 where
  pub long : length read ≡ length source
  pub same : (q : ℕ) (d : A) → P q → get_or read q d ≡ get_or source q d

-- A combination that goes on where one ended. It may read a list that differs from the source where the first one read.
pub combined_rising : {A : Type 0} (f : A → A → A) (source read target now : List A) (s t n m : ℕ) → HasRoom source target s t (n + m)
    → now ≡ list_with f source s target t n → AgreesAt source read (λ q. s + n ≤ q)
    → list_with f read (s + n) now (t + n) m ≡ list_with f source s target t (n + m)
combined_rising f source read target now s t n m room same agrees =
    let h = room.fits in
    let k = room.has in
    let long = agrees.long in
    let agree = agrees.same in
    let fits : t + n ≤ length target = omega arith in
    let has : s + n ≤ length source = omega arith in
    let len : length now ≡ length target = ap length same ∙ length-combined f source s target t n fits has in
    let fits' : t + n + m ≤ length now = omega arith in
    let has' : s + n + m ≤ length read = omega arith in
    combined_from_points f source s target t (n + m) h k (list_with f read (s + n) now (t + n) m)
    (length-combined f read (s + n) now (t + n) m fits' has' ∙ len)
    (λ j d r.
    ⊎_elim
    (λ u.
    get_or-combined_below f read (s + n) now (t + n) m fits' has' (t + j) d (omega arith)
    ∙ ap (λ v. get_or v (t + j) d) same
    ∙ get_or-combined_inside f source s target t n fits has (t + j) j d refl u)
    (λ u.
    let back : s + n + (j - n) ≡ s + j = omega arith in
    let past : s + n ≤ s + j = omega arith in
    get_or-combined_inside f read (s + n) now (t + n) m fits' has' (t + j) (j - n) d (omega arith) (omega arith)
    ∙ ap (λ v. f v (get_or read (s + n + (j - n)) d))
    (ap (λ w. get_or w (t + j) d) same ∙ get_or-combined_above f source s target t n fits has (t + j) d (omega arith))
    ∙ ap (λ v. f (get_or target (t + j) d) v) (ap (λ v. get_or read v d) back ∙ agree (s + j) d past))
    (cases_lt j n))
    (λ q d r u.
    ⊎_elim
    (λ v.
    get_or-combined_below f read (s + n) now (t + n) m fits' has' q d (omega arith)
    ∙ ap (λ w. get_or w q d) same
    ∙ get_or-combined_below f source s target t n fits has q d v)
    (λ v.
    get_or-combined_above f read (s + n) now (t + n) m fits' has' q d (omega arith)
    ∙ ap (λ w. get_or w q d) same
    ∙ get_or-combined_above f source s target t n fits has q d (omega arith))
    u)

-- A combination of what stands before one. It may read a list that differs from the source where the other one read.
pub combined_falling : {A : Type 0} (f : A → A → A) (source read target now : List A) (s t m n : ℕ) → HasRoom source target s t (m + n)
    → now ≡ list_with f source (s + m) target (t + m) n → AgreesAt source read (λ q. q < s + m)
    → list_with f read s now t m ≡ list_with f source s target t (m + n)
combined_falling f source read target now s t m n room same agrees =
    let h = room.fits in
    let k = room.has in
    let long = agrees.long in
    let agree = agrees.same in
    let fits : t + m + n ≤ length target = omega arith in
    let has : s + m + n ≤ length source = omega arith in
    let len : length now ≡ length target = ap length same ∙ length-combined f source (s + m) target (t + m) n fits has in
    let fits' : t + m ≤ length now = omega arith in
    let has' : s + m ≤ length read = omega arith in
    combined_from_points f source s target t (m + n) h k (list_with f read s now t m)
    (length-combined f read s now t m fits' has' ∙ len)
    (λ j d r.
    ⊎_elim
    (λ u.
    let before : s + j < s + m = omega arith in
    get_or-combined_inside f read s now t m fits' has' (t + j) j d refl u
    ∙ ap (λ v. f v (get_or read (s + j) d))
    (ap (λ w. get_or w (t + j) d) same ∙ get_or-combined_below f source (s + m) target (t + m) n fits has (t + j) d (omega arith))
    ∙ ap (λ v. f (get_or target (t + j) d) v) (agree (s + j) d before))
    (λ u.
    let back : s + m + (j - m) ≡ s + j = omega arith in
    get_or-combined_above f read s now t m fits' has' (t + j) d (omega arith) ∙ ap (λ v. get_or v (t + j) d) same
    ∙ get_or-combined_inside f source (s + m) target (t + m) n fits has (t + j) (j - m) d (omega arith) (omega arith)
    ∙ ap (λ v. f (get_or target (t + j) d) (get_or source v d)) back)
    (cases_lt j m))
    (λ q d r u.
    ⊎_elim
    (λ v.
    get_or-combined_below f read s now t m fits' has' q d v
    ∙ ap (λ w. get_or w q d) same
    ∙ get_or-combined_below f source (s + m) target (t + m) n fits has q d (omega arith))
    (λ v.
    get_or-combined_above f read s now t m fits' has' q d (omega arith)
    ∙ ap (λ w. get_or w q d) same
    ∙ get_or-combined_above f source (s + m) target (t + m) n fits has q d (omega arith))
    u)

-- the same, where the source is another list than the target
pub combined_rising_apart : {A : Type 0} (f : A → A → A) (source target now : List A) (s t n m : ℕ) → t + (n + m) ≤ length target
    → s + (n + m) ≤ length source
    → now ≡ list_with f source s target t n → list_with f source (s + n) now (t + n) m ≡ list_with f source s target t (n + m)
combined_rising_apart f source target now s t n m h k same =
    combined_rising f source source target now s t n m (record { fits = h; has = k }) same (record { long = refl; same = λ q d u. refl })

pub combined_falling_apart : {A : Type 0} (f : A → A → A) (source target now : List A) (s t m n : ℕ) → t + (m + n) ≤ length target
    → s + (m + n) ≤ length source
    → now ≡ list_with f source (s + m) target (t + m) n → list_with f source s now t m ≡ list_with f source s target t (m + n)
combined_falling_apart f source target now s t m n h k same =
    combined_falling f source source target now s t m n (record { fits = h; has = k }) same (record { long = refl; same = λ q d u. refl })

-- The same inside one list: what is read next was not written yet, since a rising one writes at or before what it reads, and a
-- falling one at or behind it.
pub combined_rising_within : {A : Type 0} (f : A → A → A) (old now : List A) (s t n m : ℕ) → t ≤ s → s + (n + m) ≤ length old
    → now ≡ list_with f old s old t n → list_with f now (s + n) now (t + n) m ≡ list_with f old s old t (n + m)
combined_rising_within f old now s t n m before k same =
    let fits : t + n ≤ length old = omega arith in
    let has : s + n ≤ length old = omega arith in
    let room : t + (n + m) ≤ length old = omega arith in
    combined_rising f old now old now s t n m (record { fits = room; has = k }) same
    (record {
      long = ap length same ∙ length-combined f old s old t n fits has;
      same = λ q d u.
          let past : t + n ≤ q = omega arith in
          ap (λ v. get_or v q d) same ∙ get_or-combined_above f old s old t n fits has q d past;
    })

pub combined_falling_within : {A : Type 0} (f : A → A → A) (old now : List A) (s t m n : ℕ) → s ≤ t → t + (m + n) ≤ length old
    → now ≡ list_with f old (s + m) old (t + m) n → list_with f now s now t m ≡ list_with f old s old t (m + n)
combined_falling_within f old now s t m n behind h same =
    let fits : t + m + n ≤ length old = omega arith in
    let has : s + m + n ≤ length old = omega arith in
    let room : s + (m + n) ≤ length old = omega arith in
    combined_falling f old now old now s t m n (record { fits = h; has = room }) same
    (record {
      long = ap length same ∙ length-combined f old (s + m) old (t + m) n fits has;
      same = λ q d u.
          let below : q < t + m = omega arith in
          ap (λ v. get_or v q d) same ∙ get_or-combined_below f old (s + m) old (t + m) n fits has q d below;
    })

-- the words before the last of some, all of `bits` elements
pub row_less : (bits k count : ℕ) → k < count → k * bits + bits ≤ count * bits
row_less bits k count h = let up : (k + 1) * bits ≤ count * bits = mul-le-mul_right bits (omega arith) in omega (arith, up)
