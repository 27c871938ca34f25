-- Edits of the bits of a map, as edits of its blocks.
use Rattle.std.proofs.Common.{◌≡◌, ℕ, ◌+◌, Bool, List, [], ◌++◌, ◌-◌, length, map, drop, replicate, sym, ap, ◌∙◌, subst, arith}
use Rattle.std.proofs.Math.Seq.{drop-length}
use Rattle.std.proofs.lemmas.List.{map-id, append-nil}
use Rattle.bitvec.specs.Span.{Span, BecomesList, list_of, with_filled, front_span}
use Rattle.freemap.specs.Blocks.{stored_blocks}
use Rattle.freemap.proofs.WordLemmas.{stored_long}

module _ (at : ℕ → ℕ) (blocks : ℕ) (span : Span) (is : span ≡ front_span blocks) where
  -- the bits of a map's span are its blocks
  pub shown : (words : List ℕ) → list_of 64 at span (map (λ w. w) words) ≡ stored_blocks at blocks words
  shown words = ap (λ (s : Span). list_of 64 at s (map (λ w. w) words)) is ∙ ap (list_of 64 at (front_span blocks)) (map-id words)

  -- an edit of the bits is one of the blocks
  pub edited_words : (old new : List ℕ) (f : List Bool → List Bool) → BecomesList 64 at span (map (λ w. w) old) (map (λ w. w) new) (f (list_of 64 at span (map (λ w. w) old)))
      → BecomesList 64 at (front_span blocks) old new (f (stored_blocks at blocks old))
  edited_words old new f edit =
      let here = subst (λ (s : Span). BecomesList 64 at s (map (λ w. w) old) (map (λ w. w) new) (f (list_of 64 at s (map (λ w. w) old)))) is edit in
      let was = subst (λ (us : List ℕ). BecomesList 64 at (front_span blocks) us (map (λ w. w) new) (f (list_of 64 at (front_span blocks) us))) (map-id old) here in
      subst (λ (us : List ℕ). BecomesList 64 at (front_span blocks) old us (f (stored_blocks at blocks old))) (map-id new) was

  -- the same, of the number of blocks that there were
  pub edited : (old new : List ℕ) (f : List Bool → List Bool) → BecomesList 64 at span (map (λ w. w) old) (map (λ w. w) new) (f (list_of 64 at span (map (λ w. w) old)))
      → BecomesList 64 at (front_span (length (stored_blocks at blocks old))) old new (f (stored_blocks at blocks old))
  edited old new f edit = subst (λ n. BecomesList 64 at (front_span n) old new (f (stored_blocks at blocks old))) (sym (stored_long at blocks old)) (edited_words old new f edit)

-- what an edit shows: the blocks, and that their number stays
pub edit_shows : (at : ℕ → ℕ) (blocks : ℕ) (old new : List ℕ) (ys : List Bool) → BecomesList 64 at (front_span (length (stored_blocks at blocks old))) old new ys → stored_blocks at blocks new ≡ ys
edit_shows at blocks old new ys edit = ap (λ n. list_of 64 at (front_span n) new) (sym (stored_long at blocks old)) ∙ edit.list

pub as_many : (at : ℕ → ℕ) (blocks : ℕ) (old new : List ℕ) → length (stored_blocks at blocks new) ≡ length (stored_blocks at blocks old)
as_many at blocks old new = stored_long at blocks new ∙ sym (stored_long at blocks old)

-- every block filled
pub all_filled : (xs : List Bool) (n : ℕ) (bit : Bool) → length xs ≡ n → with_filled xs 0 (0 + n) bit ≡ replicate n bit
all_filled xs n bit long =
    let all : 0 + n ≡ length xs = omega (arith, long) in
    let whole : 0 + n - 0 ≡ n = omega arith in
    ap (λ k. [] ++ replicate k bit ++ drop (0 + n) xs) whole
    ∙ ap (λ k. replicate n bit ++ drop k xs) all
    ∙ ap (λ us. replicate n bit ++ us) (drop-length xs)
    ∙ append-nil (replicate n bit)
