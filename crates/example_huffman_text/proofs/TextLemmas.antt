-- Texts by their bits.
use Rattle.std.proofs.Common.{◌≡◌, ◌⊎◌, ℕ, suc, ◌+◌, ◌<◌, ◌≤◌, Bool, List, [], ◌∷◌, ◌++◌, length, take, drop, get_or, refl, sym, ap, subst, ◌∙◌, inl, inr, arith, append_assoc, add-one, drop-cons, length-append, length-drop}
use Rattle.std.specs.List.{All}
use Rattle.std.specs.Prelude.{slice_set}
use Rattle.std.proofs.lemmas.List.{length-set, length-take-le, take_at, drop_at, append-nil, take_more, take_more_set, take_all, drop-drop, drop-set-lt, take-append-drop}
use Rattle.std.proofs.lemmas.List.Concat.{flat_map-append}
use Rattle.std.proofs.lemmas.List.Elements.{All-head, All-tail, All-push}
use Rattle.example_huffman.specs.Codes.{IsComplete, HasCode}
use Rattle.example_huffman_text.specs.Text.{code_bits, BeginsWithSymbol, encoded_bits, OneText}
use Rattle.example_huffman_text.proofs.SymbolLemmas.{code_long, one_begins}

-- a list with a code before it begins with the code
pub code_first : (lengths : List ℕ) (s : ℕ) (xs ys : List Bool) → HasCode lengths s → xs ≡ code_bits lengths s ++ ys → BeginsWithSymbol lengths xs s
code_first lengths s xs ys some is = record { code = some; bits = ap (take (length (code_bits lengths s))) is ∙ take_at (code_bits lengths s) ys (length (code_bits lengths s)) refl }

-- two codes before two lists that are one are one code, and the lists are one
code_once : (lengths : List ℕ) (s t : ℕ) (xs ys : List Bool) → IsComplete lengths → HasCode lengths s → HasCode lengths t → code_bits lengths s ++ xs ≡ code_bits lengths t ++ ys → (s ≡ t) × (xs ≡ ys)
code_once lengths s t xs ys whole a b same =
    let all = code_bits lengths s ++ xs in
    let once : s ≡ t = one_begins lengths whole all s t (code_first lengths s all xs a refl) (code_first lengths t all ys b same) in
    let after : code_bits lengths t ++ xs ≡ code_bits lengths t ++ ys = ap (λ u. code_bits lengths u ++ xs) (sym once) ∙ same in (
      once,
      sym (drop_at (code_bits lengths t) xs (length (code_bits lengths t)) refl) ∙ ap (drop (length (code_bits lengths t))) after ∙ drop_at (code_bits lengths t) ys (length (code_bits lengths t)) refl,
    )

-- the same of the first symbols of two texts
text_once : (lengths : List ℕ) (s t : ℕ) (ss ts : List ℕ) (after left : List Bool) → IsComplete lengths → HasCode lengths s → HasCode lengths t
    → encoded_bits lengths (s ∷ ss) ++ after ≡ encoded_bits lengths (t ∷ ts) ++ left → (s ≡ t) × (encoded_bits lengths ss ++ after ≡ encoded_bits lengths ts ++ left)
text_once lengths s t ss ts after left whole a b same =
    code_once lengths s t (encoded_bits lengths ss ++ after) (encoded_bits lengths ts ++ left) whole a b
    (sym (append_assoc (code_bits lengths s) (encoded_bits lengths ss) after) ∙ same ∙ append_assoc (code_bits lengths t) (encoded_bits lengths ts) left)

-- one more symbol has its code's bits behind the others
pub text_push : (lengths symbols : List ℕ) (s : ℕ) → encoded_bits lengths (symbols ++ s ∷ []) ≡ encoded_bits lengths symbols ++ code_bits lengths s
text_push lengths symbols s = flat_map-append (code_bits lengths) symbols (s ∷ []) ∙ ap (λ us. encoded_bits lengths symbols ++ us) (append-nil (code_bits lengths s))

pub text_more : (lengths symbols : List ℕ) (i : ℕ) → i < length symbols → encoded_bits lengths (take (i + 1) symbols) ≡ encoded_bits lengths (take i symbols) ++ code_bits lengths (get_or symbols i 0)
text_more lengths symbols i h = ap (encoded_bits lengths) (take_more symbols i 0 h) ∙ text_push lengths (take i symbols) (get_or symbols i 0)

pub long_more : (lengths symbols : List ℕ) (i : ℕ) → i < length symbols → length (encoded_bits lengths (take (i + 1) symbols)) ≡ length (encoded_bits lengths (take i symbols)) + get_or lengths (get_or symbols i 0) 0
long_more lengths symbols i h =
    ap length (text_more lengths symbols i h)
    ∙ length-append (encoded_bits lengths (take i symbols)) (code_bits lengths (get_or symbols i 0))
    ∙ ap (λ n. length (encoded_bits lengths (take i symbols)) + n) (code_long lengths (get_or symbols i 0))

-- the first of some symbols have no more bits than all
pub text_part : (lengths symbols : List ℕ) (n : ℕ) → length (encoded_bits lengths (take n symbols)) ≤ length (encoded_bits lengths symbols)
text_part lengths symbols n =
    let both : encoded_bits lengths symbols ≡ encoded_bits lengths (take n symbols) ++ encoded_bits lengths (drop n symbols) =
    ap (encoded_bits lengths) (sym (take-append-drop n symbols)) ∙ flat_map-append (code_bits lengths) (take n symbols) (drop n symbols) in
    omega (arith, ap length both, length-append (encoded_bits lengths (take n symbols)) (encoded_bits lengths (drop n symbols)))

pub text_all : (lengths symbols : List ℕ) → encoded_bits lengths (take (length symbols) symbols) ≡ encoded_bits lengths symbols
text_all lengths symbols = ap (encoded_bits lengths) (take_all (length symbols) symbols (omega arith))

-- the symbols from a place on have the bits of the one there, and then those of the others
pub text_left : (lengths symbols : List ℕ) (k : ℕ) → k < length symbols → length (encoded_bits lengths (drop k symbols)) ≡ get_or lengths (get_or symbols k 0) 0 + length (encoded_bits lengths (drop (k + 1) symbols))
text_left lengths symbols k h =
    let s = get_or symbols k 0 in
    ap (λ us. length (encoded_bits lengths us)) (drop-cons symbols k 0 h ∙ ap (λ n. s ∷ drop n symbols) (sym (add-one k)))
    ∙ length-append (code_bits lengths s) (encoded_bits lengths (drop (k + 1) symbols))
    ∙ ap (λ n. n + length (encoded_bits lengths (drop (k + 1) symbols))) (code_long lengths s)

-- Symbols stand in the first `k` places of a list, and all other places are as they were. The symbols' bits are those that
-- stood before what is left: as many as there are between two places.
pub record AreRead (lengths was out : List ℕ) (k : ℕ) (old left : List Bool) (before now : ℕ) : Type 0 where
  pub size : length out ≡ length was
  pub codes : All (HasCode lengths) (take k out)
  pub bits : old ≡ encoded_bits lengths (take k out) ++ left
  pub moved : left ≡ drop (length (encoded_bits lengths (take k out))) old
  pub place : now ≡ before + length (encoded_bits lengths (take k out))
  pub others : drop k out ≡ drop k was

-- one symbol more is read into place k
pub read_next : {lengths was out : List ℕ} {k : ℕ} {old mid : List Bool} {before now : ℕ} → AreRead lengths was out k old mid before now
    → (s : ℕ) (left : List Bool) (next : ℕ) → k < length out → HasCode lengths s → mid ≡ code_bits lengths s ++ left → next ≡ now + get_or lengths s 0 → AreRead lengths was (slice_set out k s) (k + 1) old left before next
read_next {lengths} {was} {out} {k} {old} {mid} are s left next inside some then place =
    let on : k + 1 ≡ suc k = omega arith in
    let one : encoded_bits lengths (take (k + 1) (slice_set out k s)) ≡ encoded_bits lengths (take k out) ++ code_bits lengths s =
    ap (encoded_bits lengths) (take_more_set out k s inside) ∙ text_push lengths (take k out) s in
    let long : length (encoded_bits lengths (take (k + 1) (slice_set out k s))) ≡ length (encoded_bits lengths (take k out)) + get_or lengths s 0 =
    ap length one ∙ length-append (encoded_bits lengths (take k out)) (code_bits lengths s) ∙ ap (λ n. length (encoded_bits lengths (take k out)) + n) (code_long lengths s) in
    let text = encoded_bits lengths (take (k + 1) (slice_set out k s)) in
    let shown : old ≡ text ++ left =
    are.bits ∙ ap (λ us. encoded_bits lengths (take k out) ++ us) then
    ∙ sym (append_assoc (encoded_bits lengths (take k out)) (code_bits lengths s) left)
    ∙ ap (λ us. us ++ left) (sym one) in
    record {
      size = length-set out k s ∙ are.size;
      codes = subst (All (HasCode lengths)) (sym (take_more_set out k s inside)) (All-push (HasCode lengths) (take k out) s are.codes some);
      bits = shown;
      moved = sym (ap (drop (length text)) shown ∙ drop_at text left (length text) refl);
      place = omega (arith, place, are.place, long);
      others =
          ap (λ n. drop n (slice_set out k s)) on ∙ drop-set-lt (suc k) out k s (omega arith) ∙ ap (λ n. drop n out) (sym on)
          ∙ sym (drop-drop 1 k out) ∙ ap (drop 1) are.others ∙ drop-drop 1 k was;
    }

-- what the search takes for how many bits a text has
pub ruleset sizes = (long_more, text_part, text_all)

pub one_text : OneText
one_text lengths [] [] after left whole a b many same = (refl, same)
one_text lengths [] (t ∷ ts) after left whole a b many same = absurd (omega (arith, many))
one_text lengths (s ∷ ss) [] after left whole a b many same = absurd (omega (arith, many))
one_text lengths (s ∷ ss) (t ∷ ts) after left whole a b many same =
    let first = text_once lengths s t ss ts after left whole (All-head (HasCode lengths) s ss a) (All-head (HasCode lengths) t ts b) same in
    let rest = one_text lengths ss ts after left whole (All-tail (HasCode lengths) s ss a) (All-tail (HasCode lengths) t ts b) (omega (arith, many)) first.1 in
    ((λ i. first.0 i ∷ rest.0 i), rest.1)

-- A text is read whole: symbols that were read of it are all of it, where as many were asked for, or where what is left
-- begins with no code.
pub whole_text : (lengths one other : List ℕ) (left : List Bool) → IsComplete lengths → All (HasCode lengths) one → All (HasCode lengths) other
    → (length one ≤ length other) ⊎ ((s : ℕ) → ¬ BeginsWithSymbol lengths left s) → encoded_bits lengths one ++ [] ≡ encoded_bits lengths other ++ left → one ≡ other
whole_text lengths [] [] left whole a b ended same = refl
whole_text lengths [] (t ∷ ts) left whole a b ended same =
    let some = All-head (HasCode lengths) t ts b in
    absurd (omega (arith, some, code_long lengths t, length-append (code_bits lengths t) (encoded_bits lengths ts), length-append (encoded_bits lengths (t ∷ ts)) left, ap length same))
whole_text lengths (s ∷ ss) [] left whole a b ended same = elim ended [
  | inl enough ↦ absurd (omega (arith, enough))
  | inr none ↦ absurd (none s (code_first lengths s left (encoded_bits lengths ss ++ []) (All-head (HasCode lengths) s ss a) (sym same ∙ append_assoc (code_bits lengths s) (encoded_bits lengths ss) [])))
]
whole_text lengths (s ∷ ss) (t ∷ ts) left whole a b ended same =
    let first = text_once lengths s t ss ts [] left whole (All-head (HasCode lengths) s ss a) (All-head (HasCode lengths) t ts b) same in
    let later : (length ss ≤ length ts) ⊎ ((u : ℕ) → ¬ BeginsWithSymbol lengths left u) = elim ended [ inl enough ↦ inl (omega (arith, enough)) | inr none ↦ inr none ] in
    let rest = whole_text lengths ss ts left whole (All-tail (HasCode lengths) s ss a) (All-tail (HasCode lengths) t ts b) later first.1 in
    λ i. first.0 i ∷ rest i

-- the same of symbols at the front of a list with `many` places
pub read_back : (lengths symbols out : List ℕ) (many count : ℕ) (text left : List Bool) → IsComplete lengths → All (HasCode lengths) symbols → All (HasCode lengths) (take count out)
    → length out ≡ many → count ≤ many → length symbols ≤ many → (count ≡ many) ⊎ ((s : ℕ) → ¬ BeginsWithSymbol lengths left s) → text ≡ encoded_bits lengths symbols → text ≡ encoded_bits lengths (take count out) ++ left
    → (count ≡ length symbols) × (take count out ≡ symbols)
read_back lengths symbols out many count text left whole a b size few enough ended is read =
    let long : length (take count out) ≡ count = length-take-le count out (omega (arith, size, few)) in
    let all : (length symbols ≤ length (take count out)) ⊎ ((s : ℕ) → ¬ BeginsWithSymbol lengths left s) = elim ended [ inl full ↦ inl (omega (arith, long, full, enough)) | inr none ↦ inr none ] in
    let same = whole_text lengths symbols (take count out) left whole a b all (append-nil (encoded_bits lengths symbols) ∙ sym is ∙ read) in
    (omega (arith, long, ap length same), sym same)
