-- A relation of an element to each later one, by the rest of the list, and to each before it, by the list's first part.
use Rattle.std.proofs.Common.{◌≡◌, ℕ, ◌+◌, ◌-◌, ◌<◌, List, length, get_or, take, drop, sym, ◌∙◌, subst, ap, arith}
use Rattle.std.specs.Prelude.{All, AllPairs}
use Rattle.std.proofs.lemmas.List.{get_or-drop, get_or-take, get_or_default, take_rest, length-drop, length-take-le}

pub later_from_rest : {X : Type 0} (R : X → X → Type 0) (xs : List X) (i : ℕ) (x : X) → i < length xs → x ≡ get_or xs i x → All (R x) (take (length xs - (i + 1)) (drop (i + 1) xs))
    → (b : ℕ) (d : X) → i < b → b < length xs → R (get_or xs i d) (get_or xs b d)
later_from_rest R xs i x within is all b d above below =
    let rest : All (R x) (drop (i + 1) xs) = subst (λ ys. All (R x) ys) (take_rest xs (i + 1)) all in
    let k : ℕ = b - (i + 1) in
    let at_b : (i + 1) + k ≡ b = omega arith in
    let long = length-drop (i + 1) xs in
    subst (λ y. R (get_or xs i d) y) (get_or-drop (i + 1) xs k d ∙ ap (λ n. get_or xs n d) at_b) (subst (λ y. R y (get_or (drop (i + 1) xs) k d)) (is ∙ get_or_default xs i x d within) (rest k d (omega arith)))

pub rest_from_later : {X : Type 0} (R : X → X → Type 0) (xs : List X) (i : ℕ) (x : X) → i < length xs → x ≡ get_or xs i x → ((b : ℕ) (d : X) → i < b → b < length xs → R (get_or xs i d) (get_or xs b d))
    → All (R x) (take (length xs - (i + 1)) (drop (i + 1) xs))
rest_from_later {X} R xs i x within is later =
    let long = length-drop (i + 1) xs in
    let rest : All (R x) (drop (i + 1) xs) = λ k d h.
    subst (λ y. R x y) (sym (get_or-drop (i + 1) xs k d)) (subst (λ y. R y (get_or xs ((i + 1) + k) d)) (get_or_default xs i d x within ∙ sym is) (later ((i + 1) + k) d (omega arith) (omega arith))) in
    subst (λ (ys : List X). All (R x) ys) (sym (take_rest xs (i + 1))) rest

pub all_before : {X : Type 0} (R : X → X → Type 0) → ((x y : X) → R x y → R y x) → (xs : List X) (i : ℕ) (x : X) → i < length xs → x ≡ get_or xs i x → AllPairs R xs → All (R x) (take i xs)
all_before R turns xs i x within is all = λ k d h.
    let long = length-take-le i xs (omega (arith, within)) in
    let below : k < i = omega (arith, h, long) in
    subst (λ y. R x y) (sym (get_or-take i xs k d below))
    (turns (get_or xs k d) x (subst (λ y. R (get_or xs k d) y) (sym (is ∙ get_or_default xs i x d within)) (all k i d below within)))
