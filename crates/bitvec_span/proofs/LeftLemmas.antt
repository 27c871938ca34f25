-- What is left of a domain's parts once an item is taken.
use Rattle.std.proofs.Common.{◌≡◌, ℕ, ◌<◌, List, [], ◌∷◌, ◌++◌, length, map, take, Option, Some, None, refl, sym, ap, subst, ◌∙◌, append-nil, append_assoc, arith}
use Rattle.std.proofs.Math.Seq.{take-append_seam}
use Rattle.std.proofs.lemmas.List.{map-append, length-append}
use Rattle.bitvec_span.specs.Parts.{Part, Parts, region, whole_part, value_of, part_items, items, parts_before_last, LeavesAfterFirst, LeavesBeforeLast}

last-whole : (head : Option Part) (ws : List ℕ) (w : ℕ) → region head ws None ≡ parts_before_last (region head (ws ++ (w ∷ [])) None)
last-whole head [] w = refl
last-whole head (v ∷ ws) w =
    ap (λ l. region head l None)
    (sym (ap (λ n. take n (v ∷ (ws ++ (w ∷ [])))) (let same : length (ws ++ (w ∷ [])) ≡ length (v ∷ ws) = omega (arith, length-append ws (w ∷ [])) in same) ∙ take-append_seam (v ∷ ws) (w ∷ [])))

pub left-last : {X : Type 0} (bits : ℕ) (number : X → ℕ) (head : Option Part) (body all : List X) (word : X) (parts : Parts) → parts ≡ region head (map number all) None → all ≡ body ++ (word ∷ []) → LeavesBeforeLast bits parts (region head (map number body) None)
left-last bits number head body all word parts is whole =
    let same : map number all ≡ map number body ++ (number word ∷ []) = ap (map number) whole ∙ map-append number body (word ∷ []) in
    let shown : parts ≡ region head (map number body ++ (number word ∷ [])) None = is ∙ ap (λ l. region head l None) same in
    subst (λ p. LeavesBeforeLast bits p (region head (map number body) None)) (sym shown) (last-whole head (map number body) (number word), λ short. omega (arith, length-append (map number body) (number word ∷ []), short))

-- the items fall short of those before by the one that was taken
pub fewer_first : {old new : List ℕ} {v : ℕ} → old ≡ v ∷ new → length new < length old
fewer_first e = omega (arith, ap length e)

pub fewer_last : (old new : List ℕ) (v : ℕ) → old ≡ new ++ (v ∷ []) → length new < length old
fewer_last old new v e = omega (arith, ap length e, length-append new (v ∷ []))

-- what holds of the parts and the item that are known holds of those that a call has
pub takes_first : (bits : ℕ) (at : ℕ → ℕ) {old shown new left : Parts} {v item : ℕ} → old ≡ shown → new ≡ left → v ≡ item → (items bits at shown ≡ item ∷ items bits at left) × LeavesAfterFirst bits shown left → (items bits at old ≡ v ∷ items bits at new) × LeavesAfterFirst bits old new
takes_first bits at e f h p = rw (e, f, h) p

pub takes_last : (bits : ℕ) (at : ℕ → ℕ) {old shown new left : Parts} {v item : ℕ} → old ≡ shown → new ≡ left → v ≡ item → (items bits at shown ≡ items bits at left ++ (item ∷ [])) × LeavesBeforeLast bits shown left → (items bits at old ≡ items bits at new ++ (v ∷ [])) × LeavesBeforeLast bits old new
takes_last bits at e f h p = rw (e, f, h) p

-- the tail is the last item
pub items_tail : (bits : ℕ) (at : ℕ → ℕ) (head : Option Part) (ws : List ℕ) (part : Part) → items bits at (region head ws (Some part)) ≡ items bits at (region head ws None) ++ (value_of bits at part ∷ [])
items_tail bits at head ws part =
    let f : ℕ → ℕ = λ w. value_of bits at (whole_part bits w) in
    ap (λ xs. part_items bits at head ++ (xs ++ (value_of bits at part ∷ []))) (sym (append-nil (map f ws)))
    ∙ sym (append_assoc (part_items bits at head) (map f ws ++ []) (value_of bits at part ∷ []))

pub region_same : {head first : Option Part} {ws whole : List ℕ} {tail last : Option Part} → head ≡ first → ws ≡ whole → tail ≡ last → region head ws tail ≡ region first whole last
region_same e f h = rw (e, f, h) refl

pub no_whole : {X : Type 0} (number : X → ℕ) (body : List X) → length body ≡ 0 → map number body ≡ []
no_whole number [] e = refl
no_whole number (x ∷ xs) e = absurd (omega arith)
