-- Edits of a span's list, by another name of the span, and of a range of it that is filled.
use Rattle.std.proofs.Common.{◌≡◌, ℕ, ◌-◌, Bool, List, ◌++◌, length, map, take, drop, replicate, sym, ap, subst, ◌∙◌}
use Rattle.std.proofs.lemmas.List.{length-map}
use Rattle.bitvec.specs.Span.{Span, BecomesList, list_of, span_range}
use Rattle.bitvec.proofs.PartLemmas.{length-list_of}
use Rattle.bitvec.proofs.BecomesLemmas.{becomes-same}

-- two lists of words have the same length where the lists of their numbers do
pub words-many : {W : Type 0} (number : W → ℕ) (old new : List W) → length (map number new) ≡ length (map number old)
    → length new ≡ length old
words-many number old new many = sym (length-map new number) ∙ many ∙ length-map old number

-- the length of the list of a span that is another
pub len-is : (bits : ℕ) (at : ℕ → ℕ) (given span : Span) (words : List ℕ) → given ≡ span
    → length (list_of bits at span words) ≡ given.len
len-is bits at given span words e = length-list_of bits at span words ∙ sym (ap (λ (s : Span). s.len) e)

-- an edit, by another name of its span
pub edit-named : (bits : ℕ) (at : ℕ → ℕ) (given span : Span) (old new : List ℕ) (xs : Span → List Bool) → given ≡ span
    → BecomesList bits at given old new (xs given) → BecomesList bits at span old new (xs span)
edit-named bits at given span old new xs e edit = subst (λ (s : Span). BecomesList bits at s old new (xs s)) e edit

-- a range of a span is filled
pub range-filled : (bits : ℕ) (at : ℕ → ℕ) (span part : Span) (old new : List ℕ) (from to : ℕ) (bit : Bool)
    → part ≡ span_range bits span from to
    → BecomesList bits at span old new (take from (list_of bits at span old) ++ replicate part.len bit ++ drop to (list_of bits at span old))
    → BecomesList bits at span old new (take from (list_of bits at span old) ++ replicate (to - from) bit ++ drop to (list_of bits at span old))
range-filled bits at span part old new from to bit e edit =
    let xs : List Bool = list_of bits at span old in
    becomes-same bits at span old new _ _ (ap (λ n. take from xs ++ replicate n bit ++ drop to xs) (ap (λ (s : Span). s.len) e)) edit
