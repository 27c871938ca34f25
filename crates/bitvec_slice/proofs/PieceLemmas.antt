-- The pieces of a list: the first and those behind it, the last and those before it.
use Rattle.std.proofs.Common.{◌≡◌, ℕ, zero, suc, ◌+◌, ◌-◌, ◌*◌, ◌/◌, ◌<◌, ◌≤◌, Bool, List, [], ◌∷◌, ◌++◌, length, take, drop, length-append, length-take-le, length-drop, Some, get_or, mul-le-mul_right, refl, sym, ap, ◌∙◌, inl, inr, arith}
use Rattle.std.specs.Prelude.{slice_range}
use Rattle.std.specs.Iterator.{MakesProgress, item_count}
use Rattle.std.specs.Slice.Iter.{chunk_count}
use Rattle.std.proofs.iter.Counts.{parts_are, parts_up}
use Rattle.std.proofs.lemmas.Bool.{cases_lt}
use Rattle.std.proofs.lemmas.List.{drop-drop, drop-take, take-take, take_all}
use Rattle.std.proofs.lemmas.List.FromFn.{map-range_with_len_more}
use Rattle.std.proofs.lemmas.Nat.{div-add-mod', div-mul-add, mod_below}
use Rattle.bitvec.specs.Memory.{tabulate}
use Rattle.bitvec.proofs.MemoryLemmas.{length-tabulate, get_or-tabulate, tabulate-from_elements, tabulate_same}
use Rattle.bitvec_slice.specs.Pieces.{windows_of, chunks_of, rchunks_of}

-- a call that took a piece off made progress
pub progress_first_by : {S A B : Type 0} (can : S → Type 0) (view : A → B) (rest : S → List B) (s : S) (x : A) (t : S) → can t → rest s ≡ view x ∷ rest t → MakesProgress can (item_count rest) s (Some x) t
progress_first_by can view rest s x t h e =
    let less : length (rest t) < length (rest s) = omega (arith, ap length e) in
    record { on = λ _. (h, tt, less); keeps = h; rests = λ _. tt }

pub progress_last_by : {S A B : Type 0} (can : S → Type 0) (view : A → B) (rest : S → List B) (s : S) (x : A) (t : S) → can t → rest s ≡ rest t ++ (view x ∷ []) → MakesProgress can (item_count rest) s (Some x) t
progress_last_by can view rest s x t h e =
    let less : length (rest t) < length (rest s) = omega (arith, ap length e, length-append (rest t) (view x ∷ [])) in
    record { on = λ _. (h, tt, less); keeps = h; rests = λ _. tt }

-- a table from its first entry, and from its last
first_entry : {A : Type 0} (n : ℕ) (f g : ℕ → A) → ((k : ℕ) → g k ≡ f (suc k)) → (j : ℕ) → j < suc n → get_or (f 0 ∷ tabulate n g) j (f 0) ≡ f j
first_entry n f g next zero h = refl
first_entry n f g next (suc j) h = get_or-tabulate n g j (f 0) (omega arith) ∙ next j

tabulate_first : {A : Type 0} (n : ℕ) (f g : ℕ → A) → ((k : ℕ) → g k ≡ f (suc k)) → tabulate (suc n) f ≡ f 0 ∷ tabulate n g
tabulate_first n f g next = sym (tabulate-from_elements (f 0 ∷ tabulate n g) (suc n) f (f 0) (ap suc (length-tabulate n g)) (first_entry n f g next))

tabulate_last : {A : Type 0} (n : ℕ) (f : ℕ → A) → tabulate (suc n) f ≡ tabulate n f ++ (f n ∷ [])
tabulate_last n f = ap (λ m. tabulate m f) (let e : suc n ≡ n + 1 = omega arith in e) ∙ map-range_with_len_more f 0 n n (omega arith)

-- the first elements of the rest of a list's front are those of the rest of the list
take_within : (xs : List Bool) (upto at n : ℕ) → at + n ≤ upto → take n (drop at (take upto xs)) ≡ take n (drop at xs)
take_within xs upto at n h =
    let parts : upto ≡ at + (upto - at) = omega arith in
    ap (λ m. take n (drop at (take m xs))) parts
    ∙ ap (take n) (drop-take at (upto - at) xs)
    ∙ take-take n (upto - at) (drop at xs) (omega arith)

-- the windows of a list
pub windows_first : (n : ℕ) (xs first rest : List Bool) → 0 < n → n ≤ length xs → first ≡ take n xs → rest ≡ drop 1 xs → windows_of n xs ≡ first ∷ windows_of n rest
windows_first n xs first rest some room is_first is_rest =
    let left : length rest + 1 - n ≡ length xs - n = omega (arith, ap length is_rest, length-drop 1 xs) in
    let count : length xs + 1 - n ≡ suc (length xs - n) = omega arith in
    let f : ℕ → List Bool = λ k. take n (drop k xs) in
    let g : ℕ → List Bool = λ k. take n (drop k rest) in
    let next : (k : ℕ) → g k ≡ f (suc k) = λ k. ap (λ ys. take n (drop k ys)) is_rest ∙ ap (take n) (drop-drop k 1 xs) ∙ ap f (let e : 1 + k ≡ suc k = omega arith in e) in
    ap (λ m. tabulate m f) count
    ∙ tabulate_first (length xs - n) f g next
    ∙ ap (λ ys. ys ∷ tabulate (length xs - n) g) (sym is_first)
    ∙ ap (λ m. first ∷ tabulate m g) (sym left)

pub windows_last : (n : ℕ) (xs last rest : List Bool) → 0 < n → n ≤ length xs → last ≡ drop (length xs - n) xs → rest ≡ take (length xs - 1) xs → windows_of n xs ≡ windows_of n rest ++ (last ∷ [])
windows_last n xs last rest some room is_last is_rest =
    let long : length rest ≡ length xs - 1 = ap length is_rest ∙ length-take-le (length xs - 1) xs (omega arith) in
    let left : length rest + 1 - n ≡ length xs - n = omega (arith, long) in
    let count : length xs + 1 - n ≡ suc (length xs - n) = omega arith in
    let f : ℕ → List Bool = λ k. take n (drop k xs) in
    let g : ℕ → List Bool = λ k. take n (drop k rest) in
    let same : (k : ℕ) → k < length xs - n → f k ≡ g k = λ k h. sym (ap (λ ys. take n (drop k ys)) is_rest ∙ take_within xs (length xs - 1) k n (omega arith)) in
    let end : f (length xs - n) ≡ last = take_all n (drop (length xs - n) xs) (omega (arith, length-drop (length xs - n) xs)) ∙ sym is_last in
    ap (λ m. tabulate m f) count
    ∙ tabulate_last (length xs - n) f
    ∙ ap (λ ys. tabulate (length xs - n) f ++ (ys ∷ [])) end
    ∙ ap (λ ls. ls ++ (last ∷ [])) (tabulate_same (length xs - n) f g [] same ∙ ap (λ m. tabulate m g) (sym left))

-- how many pieces there are
count_front : (n long : ℕ) → 0 < n → 0 < long → chunk_count long n ≡ suc (chunk_count (long - n) n)
count_front n long some more =
    elim (cases_lt long n) [
      | inl short ↦ (
          let all = parts_are long n some more in
          let place : long - 1 ≡ 0 * n + (long - 1) = omega arith in
          let none : (long - 1) / n ≡ 0 = ap (λ m. m / n) place ∙ div-mul-add 0 n (long - 1) (omega arith) in
          omega (arith, all, none))
      | inr room ↦ (
          let all = parts_are long n some more in
          let others = parts_up (long - n) n some in
          let place : long - n + n - 1 ≡ long - 1 = omega arith in
          let same : (long - n + n - 1) / n ≡ (long - 1) / n = ap (λ m. m / n) place in
          omega (arith, all, others, same))
    ]

count_back : (n long : ℕ) → 0 < n → 0 < long → chunk_count long n ≡ suc ((long - 1) / n)
count_back n long some more = omega (arith, parts_are long n some more)

count_whole : (n q : ℕ) → 0 < n → chunk_count (q * n) n ≡ q
count_whole n q some =
    let place : q * n + n - 1 ≡ q * n + (n - 1) = omega arith in
    parts_up (q * n) n some ∙ ap (λ m. m / n) place ∙ div-mul-add q n (n - 1) (omega arith)

-- the pieces of a list from the front on
pub chunks_first : (n : ℕ) (xs first rest : List Bool) → 0 < n → 0 < length xs → first ≡ take n xs → rest ≡ drop n xs → chunks_of n xs ≡ first ∷ chunks_of n rest
chunks_first n xs first rest some more is_first is_rest =
    let left : length rest ≡ length xs - n = ap length is_rest ∙ length-drop n xs in
    let f : ℕ → List Bool = λ k. take n (drop (k * n) xs) in
    let g : ℕ → List Bool = λ k. take n (drop (k * n) rest) in
    let place : (k : ℕ) → n + k * n ≡ suc k * n = λ k. omega arith in
    let next : (k : ℕ) → g k ≡ f (suc k) = λ k. ap (λ ys. take n (drop (k * n) ys)) is_rest ∙ ap (take n) (drop-drop (k * n) n xs) ∙ ap (λ m. take n (drop m xs)) (place k) in
    let start : 0 * n ≡ 0 = omega arith in
    ap (λ m. tabulate m f) (count_front n (length xs) some more)
    ∙ tabulate_first (chunk_count (length xs - n) n) f g next
    ∙ ap (λ ys. ys ∷ tabulate (chunk_count (length xs - n) n) g) (ap (λ m. take n (drop m xs)) start ∙ sym is_first)
    ∙ ap (λ m. first ∷ tabulate (chunk_count m n) g) (sym left)

pub chunks_last : (n : ℕ) (xs last rest : List Bool) → 0 < n → 0 < length xs → last ≡ drop ((length xs - 1) / n * n) xs → rest ≡ take ((length xs - 1) / n * n) xs
    → chunks_of n xs ≡ chunks_of n rest ++ (last ∷ [])
chunks_last n xs last rest some more is_last is_rest =
    let q : ℕ = (length xs - 1) / n in
    let parts = div-add-mod' (length xs - 1) n in
    let short = mod_below (length xs - 1) n some in
    let long : length rest ≡ q * n = ap length is_rest ∙ length-take-le (q * n) xs (omega (arith, parts, more)) in
    let f : ℕ → List Bool = λ k. take n (drop (k * n) xs) in
    let g : ℕ → List Bool = λ k. take n (drop (k * n) rest) in
    let same : (k : ℕ) → k < q → f k ≡ g k = λ k h.
    let below : (k + 1) * n ≤ q * n = mul-le-mul_right n (omega arith) in
    sym (ap (λ ys. take n (drop (k * n) ys)) is_rest ∙ take_within xs (q * n) (k * n) n (omega (arith, below))) in
    let end : f q ≡ last = take_all n (drop (q * n) xs) (omega (arith, length-drop (q * n) xs, parts, short)) ∙ sym is_last in
    ap (λ m. tabulate m f) (count_back n (length xs) some more)
    ∙ tabulate_last q f
    ∙ ap (λ ys. tabulate q f ++ (ys ∷ [])) end
    ∙ ap (λ ls. ls ++ (last ∷ [])) (tabulate_same q f g [] same ∙ ap (λ m. tabulate m g) (sym (ap (λ m. chunk_count m n) long ∙ count_whole n q some)))

-- a part of a list's front, and of its rest
part_within : (xs : List Bool) (upto from to : ℕ) → to ≤ upto → slice_range (take upto xs) from to ≡ slice_range xs from to
part_within xs upto from to h =
    elim (cases_lt to from) [
      | inl passed ↦ (
          let none : to - from ≡ 0 = omega arith in
          ap (λ m. take m (drop from (take upto xs))) none ∙ sym (ap (λ m. take m (drop from xs)) none))
      | inr ordered ↦ take_within xs upto from (to - from) (omega arith)
    ]

part_behind : (xs : List Bool) (cut from to : ℕ) → slice_range (drop cut xs) from to ≡ slice_range xs (cut + from) (cut + to)
part_behind xs cut from to =
    let count : to - from ≡ cut + to - (cut + from) = omega arith in
    ap (take (to - from)) (drop-drop from cut xs) ∙ ap (λ m. take m (drop (cut + from) xs)) count

-- the pieces of a list from the back on
pub rchunks_first : (n : ℕ) (xs first rest : List Bool) → 0 < n → 0 < length xs → first ≡ drop (length xs - n) xs → rest ≡ take (length xs - n) xs → rchunks_of n xs ≡ first ∷ rchunks_of n rest
rchunks_first n xs first rest some more is_first is_rest =
    let long : ℕ = length xs in
    let left : length rest ≡ long - n = ap length is_rest ∙ length-take-le (long - n) xs (omega arith) in
    let f : ℕ → List Bool = λ k. slice_range xs (long - (k + 1) * n) (long - k * n) in
    let g : ℕ → List Bool = λ k. slice_range rest (length rest - (k + 1) * n) (length rest - k * n) in
    let from : (k : ℕ) → length rest - (k + 1) * n ≡ long - (suc k + 1) * n = λ k. omega (arith, left) in
    let to : (k : ℕ) → length rest - k * n ≡ long - suc k * n = λ k. omega (arith, left) in
    let next : (k : ℕ) → g k ≡ f (suc k) = λ k.
    ap (λ ys. slice_range ys (length rest - (k + 1) * n) (length rest - k * n)) is_rest
    ∙ part_within xs (long - n) (length rest - (k + 1) * n) (length rest - k * n) (omega (arith, left))
    ∙ ap (λ m. slice_range xs m (length rest - k * n)) (from k) ∙ ap (slice_range xs (long - (suc k + 1) * n)) (to k) in
    let start : long - (0 + 1) * n ≡ long - n = omega arith in
    let whole : long - 0 * n ≡ long = omega arith in
    let all : f 0 ≡ first =
    ap (λ m. slice_range xs m (long - 0 * n)) start ∙ ap (slice_range xs (long - n)) whole
    ∙ take_all (long - (long - n)) (drop (long - n) xs) (omega (arith, length-drop (long - n) xs)) ∙ sym is_first in
    ap (λ m. tabulate m f) (count_front n long some more)
    ∙ tabulate_first (chunk_count (long - n) n) f g next
    ∙ ap (λ ys. ys ∷ tabulate (chunk_count (long - n) n) g) all
    ∙ ap (λ m. first ∷ tabulate (chunk_count m n) g) (sym left)

pub rchunks_last : (n cut : ℕ) (xs last rest : List Bool) → 0 < n → 0 < length xs → cut ≡ length xs - (length xs - 1) / n * n → last ≡ take cut xs → rest ≡ drop cut xs
    → rchunks_of n xs ≡ rchunks_of n rest ++ (last ∷ [])
rchunks_last n cut xs last rest some more is_cut is_last is_rest =
    let long : ℕ = length xs in
    let q : ℕ = (long - 1) / n in
    let parts = div-add-mod' (long - 1) n in
    let short = mod_below (long - 1) n some in
    let left : length rest ≡ q * n = omega (arith, ap length is_rest, length-drop cut xs, is_cut, parts, more) in
    let f : ℕ → List Bool = λ k. slice_range xs (long - (k + 1) * n) (long - k * n) in
    let g : ℕ → List Bool = λ k. slice_range rest (length rest - (k + 1) * n) (length rest - k * n) in
    let same : (k : ℕ) → k < q → f k ≡ g k = λ k h.
    let below : (k + 1) * n ≤ q * n = mul-le-mul_right n (omega arith) in
    let from : cut + (length rest - (k + 1) * n) ≡ long - (k + 1) * n = omega (arith, left, is_cut, below, parts, more) in
    let to : cut + (length rest - k * n) ≡ long - k * n = omega (arith, left, is_cut, below, parts, more) in
    sym (ap (λ ys. slice_range ys (length rest - (k + 1) * n) (length rest - k * n)) is_rest
    ∙ part_behind xs cut (length rest - (k + 1) * n) (length rest - k * n)
    ∙ ap (λ m. slice_range xs m (cut + (length rest - k * n))) from ∙ ap (slice_range xs (long - (k + 1) * n)) to) in
    let start : long - (q + 1) * n ≡ 0 = omega (arith, parts, short) in
    let stop : long - q * n ≡ cut = sym is_cut in
    let end : f q ≡ last = ap (λ m. slice_range xs m (long - q * n)) start ∙ ap (slice_range xs 0) stop ∙ ap (λ m. take m xs) (let e : cut - 0 ≡ cut = omega arith in e) ∙ sym is_last in
    ap (λ m. tabulate m f) (count_back n long some more)
    ∙ tabulate_last q f
    ∙ ap (λ ys. tabulate q f ++ (ys ∷ [])) end
    ∙ ap (λ ls. ls ++ (last ∷ [])) (tabulate_same q f g [] same ∙ ap (λ m. tabulate m g) (sym (ap (λ m. chunk_count m n) left ∙ count_whole n q some)))

-- how many pieces each list has
pub length-windows_of : (n : ℕ) (xs : List Bool) → length (windows_of n xs) ≡ length xs + 1 - n
length-windows_of n xs = length-tabulate (length xs + 1 - n) (λ k. take n (drop k xs))

pub length-chunks_of : (n : ℕ) (xs : List Bool) → length (chunks_of n xs) ≡ chunk_count (length xs) n
length-chunks_of n xs = length-tabulate (chunk_count (length xs) n) (λ k. take n (drop (k * n) xs))

pub length-rchunks_of : (n : ℕ) (xs : List Bool) → length (rchunks_of n xs) ≡ chunk_count (length xs) n
length-rchunks_of n xs = length-tabulate (chunk_count (length xs) n) (λ k. slice_range xs (length xs - (k + 1) * n) (length xs - k * n))
