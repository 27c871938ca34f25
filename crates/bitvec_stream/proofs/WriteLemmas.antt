-- Lists of which a stretch behind a front is written.
use Rattle.std.proofs.Common.{◌≡◌, ℕ, ◌+◌, ◌<◌, ◌≤◌, suc, Bool, false, List, [], ◌∷◌, ◌++◌, length, take, drop, sym, ap, ◌∙◌, arith, append_assoc, length-append}
use Rattle.std.specs.Prelude.{slice_set}
use Rattle.std.proofs.lemmas.List.{length-take-le, take_at, drop_at, drop-drop, take-append-drop, take-set, drop-set-lt, get_or-set_same}
use Rattle.std.proofs.Math.ListN.{length-set}
use Rattle.std.proofs.Math.Seq.{take-add, drop-cons}
use Rattle.bitvec_slice.specs.Ranges.{with_range}

-- `zs` is `xs` with the `n` elements of `ys` behind its first `p`, in place of the next `n`
pub record IsWritten (xs zs ys : List Bool) (p n : ℕ) : Type 0 where
  pub front : take (p + n) zs ≡ take p xs ++ ys
  pub behind : drop (p + n) zs ≡ drop (length ys) (drop p xs)
  pub whole : zs ≡ take p xs ++ ys ++ drop (length ys) (drop p xs)

module _ (xs zs ys : List Bool) (p n : ℕ) (long : length ys ≡ n) (inside : p + n ≤ length xs) where
  pub range_written : zs ≡ with_range xs p (p + n) ys → IsWritten xs zs ys p n
  range_written is =
      let many : length (take p xs ++ ys) ≡ p + n = length-append (take p xs) ys ∙ omega (arith, long, length-take-le p xs (omega (arith, inside))) in
      let end : p + n ≡ p + length ys = omega (arith, long) in
      let rest : drop (p + n) xs ≡ drop (length ys) (drop p xs) = ap (λ m. drop m xs) end ∙ sym (drop-drop (length ys) p xs) in
      let shown : zs ≡ take p xs ++ ys ++ drop (length ys) (drop p xs) = is ∙ ap (λ us. take p xs ++ ys ++ us) rest in
      record {
        front = ap (take (p + n)) shown ∙ take_at (take p xs ++ ys) (drop (length ys) (drop p xs)) (p + n) many;
        behind = ap (drop (p + n)) shown ∙ drop_at (take p xs ++ ys) (drop (length ys) (drop p xs)) (p + n) many;
        whole = shown;
      }

-- one write behind another
pub written_both : (front xs ys room mid : List Bool) → mid ≡ drop (length xs) room → (front ++ xs) ++ ys ++ drop (length ys) mid ≡ front ++ (xs ++ ys) ++ drop (length (xs ++ ys)) room
written_both front xs ys room mid is =
    let rest : drop (length ys) mid ≡ drop (length (xs ++ ys)) room = ap (drop (length ys)) is ∙ drop-drop (length ys) (length xs) room ∙ ap (λ n. drop n room) (sym (length-append xs ys)) in
    ap (λ us. us ++ drop (length ys) mid) (append_assoc front xs ys) ∙ ap (λ us. front ++ (xs ++ ys) ++ us) rest

pub room_both : (xs ys room mid new : List Bool) → mid ≡ drop (length xs) room → new ≡ drop (length ys) mid → new ≡ drop (length (xs ++ ys)) room
room_both xs ys room mid new is then = then ∙ ap (drop (length ys)) is ∙ drop-drop (length ys) (length xs) room ∙ ap (λ n. drop n room) (sym (length-append xs ys))

-- passing over elements as they are
pub front_longer : (xs : List Bool) (p n : ℕ) → take (p + n) xs ≡ take p xs ++ take n (drop p xs)
front_longer xs p n = take-add p n xs

-- one element set is a list of one written
pub set_written : (xs : List Bool) (p : ℕ) (bit : Bool) → p < length xs → slice_set xs p bit ≡ with_range xs p (p + 1) (bit ∷ [])
set_written xs p bit h =
    let long : p < length (slice_set xs p bit) = omega (arith, h, length-set xs p bit) in
    let next : suc p ≡ p + 1 = omega arith in
    let less : p < suc p = omega arith in
    sym (take-append-drop p (slice_set xs p bit))
    ∙ ap (λ us. us ++ drop p (slice_set xs p bit)) (take-set xs p bit)
    ∙ ap (λ us. take p xs ++ us) (drop-cons (slice_set xs p bit) p false long
    ∙ ap (λ b. b ∷ drop (suc p) (slice_set xs p bit)) (get_or-set_same xs p bit false h)
    ∙ ap (λ us. bit ∷ us) (drop-set-lt (suc p) xs p bit less ∙ ap (λ n. drop n xs) next))
    ∙ sym (append_assoc (take p xs) (bit ∷ []) (drop (p + 1) xs))
