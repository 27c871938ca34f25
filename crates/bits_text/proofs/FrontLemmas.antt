-- Fronts of texts, behind an old text.
use Rattle.std.proofs.Common.{◌≡◌, ℕ, ◌+◌, inl, inr, List, ◌∷◌, ◌++◌, length, get_or, map, take, drop, take_all, sym, subst, ap, ◌∙◌, append_assoc, append-nil, if◌then◌else◌, arith}
use Rattle.std.proofs.Math.Seq.{take-append_seam, take-append-add}
use Rattle.std.specs.Prelude.{Result, Ok, Err, is_ok, OnErr, Some, slice_get}
use Rattle.std.specs.List.{flat_map}
use Rattle.std.proofs.lemmas.Bool.{cases_lt}
use Rattle.std.proofs.lemmas.Grind.{flat_map-append}
use Rattle.std.proofs.lemmas.List.{take-append-le, take-append-drop, drop_more}
use Rattle.std.proofs.lemmas.List.Folds.{flat_map-map}
use Rattle.std.proofs.lemmas.Option.{slice_get_within, get_or_from_slice_get}
use Rattle.std.proofs.lemmas.Result.{on_err_weaker}
use Rattle.bits_text.specs.Words.{AppendsFront, hexadecimal, memory_text}

-- a front of a text is one of what the text begins
pub AppendsFront-part : (old new text more : List ℕ) → AppendsFront old new text → AppendsFront old new (text ++ more)
AppendsFront-part old new text more (n, is) =
    elim (cases_lt n (length text)) [
      | inl small ↦ (n, is ∙ ap (λ t. old ++ t) (sym (take-append-le n text more (omega arith))))
      | inr large ↦ (length text, is ∙ ap (λ t. old ++ t) (take_all n text large ∙ sym (take-append_seam text more)))
    ]

-- a front behind what stands already of the whole
pub AppendsFront-behind : (old mid new text more : List ℕ) → mid ≡ old ++ text → AppendsFront mid new more → AppendsFront old new (text ++ more)
AppendsFront-behind old mid new text more stands (n, is) =
    (length text + n, is ∙ ap (λ t. t ++ take n more) stands ∙ append_assoc old text (take n more) ∙ ap (λ t. old ++ t) (sym (take-append-add text more n)))

-- the same where a call refused
pub refused_behind : {T E : Type 0} (r : Result T E) (old mid new text more : List ℕ) → mid ≡ old ++ text → OnErr r (AppendsFront mid new more) → OnErr r (AppendsFront old new (text ++ more))
refused_behind r old mid new text more stands = on_err_weaker r (AppendsFront-behind old mid new text more stands)

-- what holds anyway holds where a call refused
pub on_err : {T E P : Type 0} (r : Result T E) → P → OnErr r P
on_err (Ok v) p = tt
on_err (Err e) p = p

-- nothing is pushed where a call refused
pub none_refused : {T E : Type 0} (r : Result T E) (old new text : List ℕ) → new ≡ (if is_ok r then old ++ text else old) → OnErr r (AppendsFront old new text)
none_refused (Ok v) old new text ends = tt
none_refused (Err e) old new text ends = (0, ends ∙ sym (append-nil old))

-- the first word is refused
pub first_refused : {R : Type 0} (number : R → ℕ) (first : R) (rest memory : List R) (old new : List ℕ) → memory ≡ first ∷ rest → AppendsFront old new (hexadecimal (number first)) → AppendsFront old new (memory_text (map number memory))
first_refused number first rest memory old new whole front =
    subst (λ m. AppendsFront old new (memory_text (map number m))) (sym whole) (AppendsFront-part old new (hexadecimal (number first)) _ front)

-- behind an old text stand the first word and some others, each of these after a comma
pub record AreWritten {R : Type 0} (number : R → ℕ) (first : R) (others : List R)
    (old now : List ℕ) : Type 0 where
  pub mid : List ℕ
  pub begun : mid ≡ old ++ hexadecimal (number first)
  pub followed : now ≡ mid ++ flat_map (λ w. 44 ∷ hexadecimal (number w)) others

-- a word after others is refused
pub next_refused : {R : Type 0} (number : R → ℕ) (first : R) (rest : List R) (k : ℕ) (word : R)
    (old now new : List ℕ) → slice_get rest k ≡ Some word
    → AreWritten number first (take k rest) old now
    → AppendsFront now new (44 ∷ hexadecimal (number word))
    → AppendsFront old new (memory_text (map number (first ∷ rest)))
next_refused number first rest k word old now new is written front =
    let place = slice_get_within rest k word is in
    let read : word ≡ get_or rest k word = sym (get_or_from_slice_get rest k word word is) in
    let text = λ (w : _). 44 ∷ hexadecimal (number w) in
    let split : take k rest ++ (word ∷ drop (k + 1) rest) ≡ rest =
    ap (λ r. take k rest ++ r) (ap (λ w. w ∷ drop (k + 1) rest) read ∙ sym (drop_more rest k word place)) ∙ take-append-drop k rest in
    let joined : flat_map text (take k rest) ++ (text word ++ flat_map text (drop (k + 1) rest)) ≡ flat_map text rest =
    sym (flat_map-append text (take k rest) (word ∷ drop (k + 1) rest)) ∙ ap (flat_map text) split in
    let others : flat_map text rest ≡ flat_map (λ m. 44 ∷ hexadecimal m) (map number rest) = sym (flat_map-map (λ m. 44 ∷ hexadecimal m) number rest) in
    let one = AppendsFront-part now new (text word) (flat_map text (drop (k + 1) rest)) front in
    let mid = written.mid in
    let before = flat_map text (take k rest) in
    let two = AppendsFront-behind mid now new before _ written.followed one in
    let three = AppendsFront-behind old mid new (hexadecimal (number first)) _ written.begun two in
    subst (λ t. AppendsFront old new (hexadecimal (number first) ++ t)) (joined ∙ others) three
