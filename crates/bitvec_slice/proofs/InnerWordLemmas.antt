-- The words of a span behind its first and before its last. `bits` is the width of a word.
use Rattle.std.proofs.Common.{◌≡◌, ℕ, ◌+◌, ◌<◌, ◌&&◌, Bool, nat_le, nat_lt, List, get_or, map, take, drop, refl, sym, ap, ◌∙◌, arith, get_or-drop}
use Rattle.std.specs.Prelude.{nat_abs, slice_index}
use Rattle.std.proofs.lemmas.Bool.{ne_eqb, le-leb, lt-ltb}
use Rattle.std.proofs.lemmas.List.{get_or-take, take-map, drop-map}
use Rattle.bitvec.specs.Digit.{digit}
use Rattle.bitvec.specs.Order.{IsOneToOne}
use Rattle.bitvec.specs.Parts.{part_head, part_tail}
use Rattle.bitvec.specs.Place.{words_met}
use Rattle.bitvec.specs.Span.{Span, list_of, word_of}
use Rattle.bitvec.proofs.IndexLemmas.{index_at, digit-number_of_at}
use Rattle.bitvec.proofs.PartLemmas.{value_of-part_of}

-- a word of some words of a memory
pub inner_index : {W : Type 0} (number : W → ℕ) (words : List W) (from count q : ℕ) → q < count → slice_index (map number (take count (drop from words))) q ≡ slice_index (map number words) (from + q)
inner_index number words from count q less =
    ap (λ (ns : List ℕ). get_or ns q 0) (sym (take-map number count (drop from words)))
    ∙ get_or-take count (map number (drop from words)) q 0 less
    ∙ ap (λ (ns : List ℕ). get_or ns q 0) (sym (drop-map number from words))
    ∙ get_or-drop from (map number words) q 0

-- a word between a span's first and its last has the digits of the list's
pub inner_digits : (bits : ℕ) (at : ℕ → ℕ) (span : Span) (words : List ℕ) (k p : ℕ) → IsOneToOne bits at → span.head < bits → 0 < k → k + 1 < words_met bits span.head span.len → p < bits
    → digit (slice_index words (nat_abs span.word + k)) p ≡ digit (word_of bits at span.head (list_of bits at span words) k) p
inner_digits bits at span words k p law in_head later before small =
    let r = index_at bits at law p small in
    let w : ℕ = slice_index words (nat_abs span.word + k) in
    let test : ℕ → Bool = λ i. nat_le (part_head span.head k) i && nat_lt i (part_tail bits span.head span.len k) && digit (slice_index words (nat_abs span.word + k)) (at i) in
    let whole : (nat_le (part_head span.head k) r.0 && nat_lt r.0 (part_tail bits span.head span.len k) && digit (slice_index words (nat_abs span.word + k)) (at r.0)) ≡ digit (slice_index words (nat_abs span.word + k)) (at r.0) =
    rw (ne_eqb k 0 (omega arith), ne_eqb (k + 1) (words_met bits span.head span.len) (omega arith), le-leb 0 r.0 (omega arith), lt-ltb r.0 bits r.1) refl in
    ap (digit w) (sym r.2) ∙ sym whole ∙ sym (digit-number_of_at bits at test r.0 law r.1)
    ∙ ap (λ n. digit n (at r.0)) (value_of-part_of bits at span words k in_head (omega arith))
    ∙ ap (digit (word_of bits at span.head (list_of bits at span words) k)) r.2
