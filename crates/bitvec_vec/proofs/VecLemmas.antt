-- The first bits of words that are lent for an edit, or change at their end.
use Rattle.std.proofs.Common.{◌≡◌, ℕ, ◌+◌, ◌-◌, ◌*◌, ◌<◌, ◌≤◌, Bool, false, List, [], ◌∷◌, ◌++◌, length, map, take, replicate, sym, ap, subst, ◌∙◌, inl, inr, arith, if◌then◌else◌, true, Result, Ok, Err}
use Rattle.std.specs.Prelude.{min, is_ok, IsErr, OnOk, OnErr, IfOk}
use Rattle.std.specs.Vec.{with_items}
use Rattle.std.specs.declared.vec.Vec.{Vec}
use Rattle.std.proofs.lemmas.Bool.{cases_lt}
use Rattle.std.proofs.lemmas.Int.{ints}
use Rattle.std.proofs.lemmas.List.{length-map, map-append, take-map, take_more, take_all, with_items_is}
use Rattle.bitvec.specs.Span.{Span, Fits, BecomesList, list_of, element, front_span}
use Rattle.bitvec_vec.specs.Front.{front_bits, words_for}
use Rattle.bitvec_vec.proofs.FrontLemmas.{take-front, front-append, front-take, rows, words_enough, words_least}

-- the span lies in the words that its bits take
pub front-fits : (bits len words : ℕ) (span : Span) → span ≡ front_span len → words_for bits len ≤ words → Fits bits span words
front-fits bits len words span is room = subst (λ (s : Span). Fits bits s words) (sym is) (omega (arith, ints), omega (arith, room))

-- the last of some elements
pub popped : (xs : List Bool) (n : ℕ) → length xs ≡ n → 0 < n → xs ≡ take (n - 1) xs ++ element xs (n - 1) ∷ []
popped xs n long some =
    let next : n - 1 + 1 ≡ n = omega (arith, some) in
    sym (take_all n xs (omega (arith, long)))
    ∙ ap (λ m. take m xs) (sym next)
    ∙ take_more xs (n - 1) false (omega (arith, long, some))

module _ {R : Type 0} (bits : ℕ) (at : ℕ → ℕ) (number : R → ℕ) (len : ℕ) where
  -- the list of the span in words that are lent
  pub front-shown : (items lent : List R) (span : Span) → span ≡ front_span len → lent ≡ items
      → list_of bits at span (map number lent) ≡ front_bits bits at len (map number items)
  front-shown items lent span is out =
      ap (λ (s : Span). list_of bits at s (map number lent)) is ∙ ap (λ us. front_bits bits at len (map number us)) out

  -- an edit of words that are lent, and come back
  pub front-lent : (old lent left new : List R) (span : Span) (f : List Bool → List Bool) → span ≡ front_span len → lent ≡ old → new ≡ left
      → BecomesList bits at span (map number lent) (map number left) (f (list_of bits at span (map number lent)))
      → front_bits bits at len (map number new) ≡ f (front_bits bits at len (map number old))
  front-lent old lent left new span f is out back edit =
      ap (λ us. front_bits bits at len (map number us)) back
      ∙ ap (λ (s : Span). list_of bits at s (map number left)) (sym is)
      ∙ edit.list
      ∙ ap f (front-shown old lent span is out)

  -- what a span of the first bits has once its words come back
  pub front-left : (new left : List R) (span : Span) → span ≡ front_span len → new ≡ left → front_bits bits at len (map number new) ≡ list_of bits at span (map number left)
  front-left new left span is back =
      ap (λ us. front_bits bits at len (map number us)) back ∙ ap (λ (s : Span). list_of bits at s (map number left)) (sym is)

  -- what a vector of words has after that
  module _ {A : Type 0} (words : Vec R A) (lent ws : List R) (out : lent ≡ words.items) (long : length lent ≡ words.len) where
    pub vec-put : (f : List Bool → List Bool) → length ws ≡ length lent
        → front_bits bits at len (map number ws) ≡ f (front_bits bits at len (map number lent))
        → front_bits bits at len (map number (with_items words ws).items) ≡ f (front_bits bits at len (map number words.items))
    vec-put f many edit =
        ap (λ us. front_bits bits at len (map number us)) (with_items_is words ws (many ∙ long))
        ∙ edit
        ∙ ap (λ us. f (front_bits bits at len (map number us))) out

    pub vec-left : length ws ≡ length lent → front_bits bits at len (map number (with_items words ws).items) ≡ front_bits bits at len (map number ws)
    vec-left many = ap (λ us. front_bits bits at len (map number us)) (with_items_is words ws (many ∙ long))

    pub vec-edited : (span : Span) (f : List Bool → List Bool) → span ≡ front_span len
        → BecomesList bits at span (map number lent) (map number ws) (f (list_of bits at span (map number lent)))
        → front_bits bits at len (map number (with_items words ws).items) ≡ f (front_bits bits at len (map number words.items))
    vec-edited span f is edit =
        ap (λ us. front_bits bits at len (map number us)) (with_items_is words ws (sym (length-map ws number) ∙ edit.words ∙ length-map lent number ∙ long))
        ∙ ap (λ (s : Span). list_of bits at s (map number ws)) (sym is)
        ∙ edit.list
        ∙ ap f (front-shown words.items lent span is out)

-- words are put behind those of the bits
pub front-pushed : {R : Type 0} (bits : ℕ) (at : ℕ → ℕ) (number : R → ℕ) (len : ℕ) (items more new : List R) → 0 < bits → words_for bits len ≤ length items → new ≡ items ++ more
    → front_bits bits at len (map number new) ≡ front_bits bits at len (map number items)
front-pushed bits at number len items more new some room is =
    ap (λ us. front_bits bits at len (map number us)) is
    ∙ ap (front_bits bits at len) (map-append number items more)
    ∙ front-append bits at len (map number items) (map number more) some (let h : words_for bits len * bits ≤ length (map number items) * bits = rows bits (words_for bits len) (length (map number items)) (omega (arith, room, length-map items number)) in omega (arith, h, words_enough bits len some))

-- words are taken away behind those of fewer bits
pub front-cut : {R : Type 0} (bits : ℕ) (at : ℕ → ℕ) (number : R → ℕ) (n len : ℕ) (items new : List R) → 0 < bits → n ≤ len → new ≡ take (words_for bits n) items
    → front_bits bits at n (map number new) ≡ take n (front_bits bits at len (map number items))
front-cut bits at number n len items new some fewer is =
    ap (λ us. front_bits bits at n (map number us)) is
    ∙ ap (front_bits bits at n) (sym (take-map number (words_for bits n) items))
    ∙ front-take bits at n (words_for bits n) (map number items) some (words_enough bits n some)
    ∙ sym (take-front bits at n len (map number items) fewer)

-- a refusal says what is so
pub on_err : {A E P : Type 0} → (r : Result A E) → P → OnErr r P
on_err (Ok x) p = tt
on_err (Err e) p = p

pub on_err_then : {A E P Q : Type 0} → (r : Result A E) → (P → Q) → OnErr r P → OnErr r Q
on_err_then (Ok x) f p = tt
on_err_then (Err e) f p = f p

-- words that were to become more, or stayed
pub front-resized : {R : Type 0} (bits : ℕ) (at : ℕ → ℕ) (number : R → ℕ) (len n m : ℕ) (items new : List R) (zero : R) (done : Bool) → 0 < bits
    → words_for bits len ≤ length items → length items ≤ n → new ≡ (if done then take n items ++ replicate m zero else items)
    → front_bits bits at len (map number new) ≡ front_bits bits at len (map number items)
front-resized bits at number len n m items new zero true some room more is =
    front-pushed bits at number len items (replicate m zero) new some room (is ∙ ap (λ us. us ++ replicate m zero) (take_all n items more))
front-resized bits at number len n m items new zero false some room more is = ap (λ us. front_bits bits at len (map number us)) is

-- where the words of `to` bits do not fit, the bits do not
pub words-past : (bits to capacity : ℕ) → capacity < words_for bits to → capacity * bits < to
words-past bits to capacity past =
    elim (cases_lt (capacity * bits) to) [
      | inl less ↦ less
      | inr fits ↦ absurd (omega (arith, past, words_least bits to capacity fits))
    ]

pub on_ok_then : {A E P Q : Type 0} → (r : Result A E) → (P → Q) → OnOk r P → OnOk r Q
on_ok_then (Ok x) f p = f p
on_ok_then (Err e) f p = tt

-- more words are room for no fewer bits
pub capacity-grows : (bits most a b : ℕ) → a ≤ b → min (a * bits) most ≤ min (b * bits) most
capacity-grows bits most a b h = let row = rows bits a b h in omega (arith, row)

-- the words that `to` bits take are room for them
pub capacity-room : (bits most to words : ℕ) → 0 < bits → to ≤ most → words_for bits to ≤ words → to ≤ min (words * bits) most
capacity-room bits most to words some short h =
    let row = rows bits (words_for bits to) words h in
    omega (arith, row, short, words_enough bits to some)

-- what a refusal leaves, by the clause of both answers
pub refused : {A E X : Type 0} (r : Result A E) → IsErr r → (z x y : X) → z ≡ y → z ≡ (if is_ok r then x else y)
refused (Ok v) denied z x y e = absurd (cc)
refused (Err v) denied z x y e = e

-- what two facts of an answer give
pub if_ok_both : {A E P Q S : Type 0} → (r : Result A E) → (P → Q → S) → IfOk r (λ _. P) → IfOk r (λ _. Q) → IfOk r (λ _. S)
if_ok_both (Ok x) f p q = f p q
if_ok_both (Err e) f p q = tt
