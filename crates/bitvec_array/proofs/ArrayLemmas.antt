-- The bits of an array's words: where they lie, what a slice of them has, and what an edit of their span makes of them.
use Rattle.std.proofs.Common.{◌≡◌, ℕ, Bool, List, [], ◌∷◌, length, map, refl, sym, ap, ◌∙◌, subst, arith}
use Rattle.bitvec.specs.Span.{Span, Fits, BecomesList, list_of, front_span}
use Rattle.bitvec.proofs.PartLemmas.{length-list_of}
use Rattle.bitvec_slice.proofs.SlicePartLemmas.{whole_fits}
use Rattle.bitvec_array.specs.Array.{array_len, bits_in_words}

-- the numbers of numbers are these
pub numbers : (words : List ℕ) → map (λ (w : ℕ). w) words ≡ words
numbers [] = refl
numbers (w ∷ words) = ap (λ (ws : List ℕ). w ∷ ws) (numbers words)

-- the span of all bits lies in the words
pub array-fits : (n : ℕ) → Fits 64 (front_span (array_len n)) n
array-fits n = whole_fits 64 n (array_len n) (omega arith)

pub span-fits : (n : ℕ) (span : Span) (words : ℕ) → span ≡ front_span (array_len n) → words ≡ n → Fits 64 span words
span-fits n span words is many = subst (λ (m : ℕ). Fits 64 span m) (sym many) (subst (λ (s : Span). Fits 64 s n) (sym is) (array-fits n))

pub length-bits : (at : ℕ → ℕ) (n : ℕ) (words : List ℕ) → length (bits_in_words at n words) ≡ array_len n
length-bits at n words = length-list_of 64 at (front_span (array_len n)) words

module _ (at : ℕ → ℕ) (n : ℕ) (span : Span) (is : span ≡ front_span (array_len n)) where
  -- the list of the span in words that are lent
  pub bits-shown : (words lent : List ℕ) → lent ≡ words → list_of 64 at span (map (λ (w : ℕ). w) lent) ≡ bits_in_words at n words
  bits-shown words lent out =
      ap (λ (s : Span). list_of 64 at s (map (λ (w : ℕ). w) lent)) is
      ∙ ap (list_of 64 at (front_span (array_len n))) (numbers lent ∙ out)

  -- an edit of the span
  pub bits-edited : (old new : List ℕ) (f : List Bool → List Bool)
      → BecomesList 64 at span (map (λ (w : ℕ). w) old) (map (λ (w : ℕ). w) new) (f (list_of 64 at span (map (λ (w : ℕ). w) old)))
      → bits_in_words at n new ≡ f (bits_in_words at n old)
  bits-edited old new f edit = sym (bits-shown new new refl) ∙ edit.list ∙ ap f (bits-shown old old refl)

  -- an edit of words that are lent, and come back
  pub bits-lent : (old lent left new : List ℕ) (f : List Bool → List Bool) → lent ≡ old → new ≡ left
      → BecomesList 64 at span (map (λ (w : ℕ). w) lent) (map (λ (w : ℕ). w) left) (f (list_of 64 at span (map (λ (w : ℕ). w) lent)))
      → bits_in_words at n new ≡ f (bits_in_words at n old)
  bits-lent old lent left new f out back edit =
      ap (bits_in_words at n) back
      ∙ bits-edited lent left f edit
      ∙ ap (λ (ws : List ℕ). f (bits_in_words at n ws)) out

  -- what the span has in words that come back
  pub bits-left : (left new : List ℕ) → new ≡ left → bits_in_words at n new ≡ list_of 64 at span (map (λ (w : ℕ). w) left)
  bits-left left new back = sym (bits-shown new left (sym back))
