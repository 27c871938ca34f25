-- What runs of calls give of an iterator whose state shows the list of what is left, and the first and the last bit of a
-- range of a span.
use Rattle.std.proofs.Common.{◌≡◌, ℕ, suc, ◌+◌, ◌-◌, ◌*◌, ◌/◌, ◌%◌, ◌<◌, ◌≤◌, Bool, false, List, [], ◌∷◌, ◌++◌, length, take, drop, refl, sym, ap, ◌∙◌, arith, length-drop, get_or-drop}
use Rattle.std.specs.Prelude.{pos, ◌+ℤ◌}
use Rattle.std.specs.Iterator.{YieldsFirst, YieldsLast}
use Rattle.std.specs.Iterator.Runs.{YieldsInOrder, YieldsInReverse}
use Rattle.std.proofs.Math.Seq.{drop-cons, take-suc}
use Rattle.std.proofs.iter.runs.Sources.{from_front, from_back, as_is, as_is_back}
use Rattle.std.proofs.lemmas.Int.{ints}
use Rattle.std.proofs.lemmas.Nat.{div-add-mod', div-mul-add, mod-mul-add}
use Rattle.bitvec.specs.Span.{Span, Fits, element, list_of, span_from, span_range, span_upto}
use Rattle.bitvec.proofs.BecomesLemmas.{range-list}
use Rattle.bitvec.proofs.MemoryLemmas.{place_parts}
use Rattle.bitvec.proofs.PartLemmas.{length-list_of}

module _ {S A : Type 0} (rest : S → List A) where
  pub gives_in_order : YieldsInOrder (YieldsFirst rest) rest
  gives_in_order p s = as_is p (rest p.from) (from_front (YieldsFirst rest) (λ x. x) rest (λ s t h. ap length h.0) (λ s x t h. h) p s)

  pub gives_in_reverse : YieldsInReverse (YieldsLast rest) rest
  gives_in_reverse p s = as_is_back p (rest p.from) (from_back (YieldsLast rest) (λ x. x) rest (λ s t h. ap length h.0) (λ s x t h. h) p s)

-- the range that begins one bit later is what lies behind the first bit of the range
pub range_later : (bits : ℕ) (span : Span) (from to : ℕ) → 0 < bits → span_range bits span (from + 1) to ≡ span_from bits (span_range bits span from to) 1
range_later bits span from to some =
    let parts = div-add-mod' (span.head + from) bits in
    let place : span.head + (from + 1) ≡ (span.head + from) / bits * bits + ((span.head + from) % bits + 1) = omega (arith, parts) in
    let moved = place_parts ((span.head + from) / bits) bits ((span.head + from) % bits + 1) some in
    let quotient : (span.head + (from + 1)) / bits ≡ (span.head + from) / bits + ((span.head + from) % bits + 1) / bits = ap (λ n. n / bits) place ∙ moved.0 in
    let heads : (span.head + (from + 1)) % bits ≡ ((span.head + from) % bits + 1) % bits = ap (λ n. n % bits) place ∙ moved.1 in
    let words : span.word +ℤ pos ((span.head + (from + 1)) / bits) ≡ (span.word +ℤ pos ((span.head + from) / bits)) +ℤ pos (((span.head + from) % bits + 1) / bits) = omega (arith, ints, quotient) in
    let lens : to - (from + 1) ≡ to - from - 1 = omega arith in
    λ i. record { word = words i; head = heads i; len = lens i }

-- the range that ends one bit sooner has one bit less
pub range_sooner : (bits : ℕ) (span : Span) (from to : ℕ) → span_range bits span from (to - 1) ≡ record (span_range bits span from to) { len = to - from - 1 }
range_sooner bits span from to =
    let lens : to - 1 - from ≡ to - from - 1 = omega arith in
    ap (λ n. record (span_range bits span from to) { len = n }) lens

-- the range of all bits is the span
pub range_whole : (bits : ℕ) (span : Span) (to : ℕ) → span.head < bits → to ≡ span.len → span_range bits span 0 to ≡ span
range_whole bits span to in_head all =
    let place : span.head + 0 ≡ 0 * bits + span.head = omega arith in
    let none : (span.head + 0) / bits ≡ 0 = ap (λ n. n / bits) place ∙ div-mul-add 0 bits span.head in_head in
    let heads : (span.head + 0) % bits ≡ span.head = ap (λ n. n % bits) place ∙ mod-mul-add 0 bits span.head in_head in
    let words : span.word +ℤ pos ((span.head + 0) / bits) ≡ span.word = omega (arith, ints, none) in
    let lens : to - 0 ≡ span.len = omega (arith, all) in
    λ i. record { word = words i; head = heads i; len = lens i }

-- the range of the bits before a bit
pub range_upto : (bits : ℕ) (span : Span) (to : ℕ) → span.head < bits → span_range bits span 0 to ≡ span_upto span to
range_upto bits span to in_head = range_whole bits (span_upto span to) to in_head refl

-- the first of the elements from number `from` to before number `to`, and those behind it
first_between : (xs : List Bool) (from to : ℕ) → from < to → to ≤ length xs → take (to - from) (drop from xs) ≡ element xs from ∷ take (to - (from + 1)) (drop (from + 1) xs)
first_between xs from to some within =
    let count : to - from ≡ suc (to - (from + 1)) = omega arith in
    let next : suc from ≡ from + 1 = omega arith in
    ap (λ n. take n (drop from xs)) count
    ∙ ap (take (suc (to - (from + 1)))) (drop-cons xs from false (omega (arith, some, within)))
    ∙ ap (λ n. element xs from ∷ take (to - (from + 1)) (drop n xs)) next

-- the last of them, and those before it
last_between : (xs : List Bool) (from to : ℕ) → from < to → to ≤ length xs → take (to - from) (drop from xs) ≡ take (to - 1 - from) (drop from xs) ++ (element xs (to - 1) ∷ [])
last_between xs from to some within =
    let count : to - from ≡ suc (to - 1 - from) = omega arith in
    let place : from + (to - 1 - from) ≡ to - 1 = omega arith in
    ap (λ n. take n (drop from xs)) count
    ∙ take-suc (drop from xs) (to - 1 - from) false (omega (arith, length-drop from xs, some, within))
    ∙ ap (λ (x : Bool). take (to - 1 - from) (drop from xs) ++ (x ∷ [])) (get_or-drop from xs (to - 1 - from) false ∙ ap (element xs) place)

-- the bits of a range of a span in a memory: the first and those behind it, the last and those before it
module _ (bits : ℕ) (at : ℕ → ℕ) (span : Span) (from to : ℕ) (words : List ℕ) (in_head : span.head < bits) (fits : Fits bits span (length words)) (within : to ≤ span.len) where
  abbrev all : List Bool
  all = list_of bits at span words

  pub range_first : (bit : Bool) → bit ≡ element (list_of bits at span words) from → from < to → list_of bits at (span_range bits span from to) words ≡ bit ∷ list_of bits at (span_range bits span (from + 1) to) words
  range_first bit is some =
      let long = length-list_of bits at span words in
      range-list bits at span from to words in_head fits (omega arith) within
      ∙ first_between all from to some (omega (arith, long, within))
      ∙ ap (λ (ys : List Bool). element all from ∷ ys) (sym (range-list bits at span (from + 1) to words in_head fits (omega arith) within))
      ∙ ap (λ (b : Bool). b ∷ list_of bits at (span_range bits span (from + 1) to) words) (sym is)

  pub range_last : (bit : Bool) → bit ≡ element (list_of bits at span words) (to - 1) → from < to → list_of bits at (span_range bits span from to) words ≡ list_of bits at (span_range bits span from (to - 1)) words ++ (bit ∷ [])
  range_last bit is some =
      let long = length-list_of bits at span words in
      range-list bits at span from to words in_head fits (omega arith) within
      ∙ last_between all from to some (omega (arith, long, within))
      ∙ ap (λ (ys : List Bool). ys ++ (element all (to - 1) ∷ [])) (sym (range-list bits at span from (to - 1) words in_head fits (omega arith) (omega arith)))
      ∙ ap (λ (b : Bool). list_of bits at (span_range bits span from (to - 1)) words ++ (b ∷ [])) (sym is)
