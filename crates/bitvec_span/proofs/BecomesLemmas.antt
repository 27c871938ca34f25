-- What an edit of some bits of a memory makes of the list of a span, and of all else.
use Rattle.std.proofs.Common.{◌≡◌, ℕ, suc, ◌+◌, ◌-◌, ◌*◌, ◌/◌, ◌%◌, ◌<◌, ◌≤◌, Bool, false, List, [], ◌∷◌, ◌++◌, length, map, get_or, take, drop, Some, refl, sym, ap, subst, ◌∙◌, inl, inr, arith, append_assoc, length-append, length-drop, length-take-le}
use Rattle.std.specs.Prelude.{ℤ, pos, nat_abs, ◌≤ℤ◌, swap, slice_get, slice_set}
use Rattle.std.proofs.Math.ListN.{length-set}
use Rattle.std.proofs.lemmas.Bool.{cases_eq, cases_lt}
use Rattle.std.proofs.lemmas.List.{length-map, get_or_past, get_or-set_same, get_or-set_other, take_at, drop_at, take_all, drop_all, take_more, drop-drop, set_split, append-nil}
use Rattle.std.proofs.lemmas.Nat.{le-div}
use Rattle.std.proofs.lemmas.List.Edits.{swap_is}
use Rattle.bitvec_mem.specs.Digit.{digit}
use Rattle.bitvec_ptr.specs.Memory.{bit_of, memory_bits, list_with_copy}
use Rattle.bitvec_ptr.proofs.BitLemmas.{length-memory_bits, get_or-memory_bits}
use Rattle.bitvec_ptr.proofs.CopyLemmas.{met_covers, element_is, copied_none, get_or-copied_below, get_or-copied_inside, get_or-copied_above}
use Rattle.bitvec_ptr.proofs.MemoryLemmas.{tabulate_same, tabulate-from_elements}
use Rattle.bitvec_span.specs.Span.{Span, Covers, Fits, AreDisjoint, KeepsOthers, KeepsLists, BecomesList, list_of, element, span_upto, span_from, span_range}
use Rattle.bitvec_span.proofs.CoverLemmas.{covers-own, covers_from}
use Rattle.bitvec_span.proofs.PartLemmas.{element-list_of, length-list_of}
use Rattle.bitvec_span.proofs.SplitLemmas.{parts-disjoint, covers-before, covers-behind, parts-fit, parts-lists}

-- a span that fits a memory fits the list of its words' numbers
pub fits-numbers : {W : Type 0} (bits : ℕ) (span : Span) (number : W → ℕ) (memory : List W) → Fits bits span (length memory) → Fits bits span (length (map number memory))
fits-numbers bits span number memory fits = subst (λ n. Fits bits span n) (sym (length-map memory number)) fits

-- the numbers of two lists of words of one length are two lists of one length
pub numbers-many : {W : Type 0} (number : W → ℕ) (old new : List W) → length new ≡ length old → length (map number new) ≡ length (map number old)
numbers-many number old new many = length-map new number ∙ many ∙ sym (length-map old number)

-- a span's list is as before where each bit in it is
pub list-kept : (bits : ℕ) (at : ℕ → ℕ) (word : ℤ) (head len : ℕ) (old new : List ℕ) → pos 0 ≤ℤ word
    → ((place : ℕ) → Covers bits (record { word = word; head = head; len = len }) (pos place) → bit_of bits at new place ≡ bit_of bits at old place)
    → list_of bits at (record { word = word; head = head; len = len }) new ≡ list_of bits at (record { word = word; head = head; len = len }) old
list-kept bits at word head len old new from same = tabulate_same len _ _ false (λ j h. same (nat_abs word * bits + head + j) (covers_from word bits head len j from h))

-- the lists of the spans that are disjoint from a span are as before where the bits outside it are
pub lists-kept : (bits : ℕ) (at : ℕ → ℕ) (span : Span) (old new : List ℕ) → KeepsOthers bits at span old new → KeepsLists bits at span old new
lists-kept bits at span old new others word head len from apart = list-kept bits at word head len old new from
    (λ place here. others place (λ there. apart (pos place) there here))

-- an edit, by its list and by the bits outside: those keep the lists of the spans beside it
pub becomes : (bits : ℕ) (at : ℕ → ℕ) (span : Span) (old new : List ℕ) (xs : List Bool) → list_of bits at span new ≡ xs → KeepsOthers bits at span old new → length new ≡ length old
    → BecomesList bits at span old new xs
becomes bits at span old new xs is others words = record {
  list = is;
  others = others;
  apart = lists-kept bits at span old new others;
  words = words;
}

-- the same edit by another name of its list
pub becomes-same : (bits : ℕ) (at : ℕ → ℕ) (span : Span) (old new : List ℕ) (xs ys : List Bool) → xs ≡ ys → BecomesList bits at span old new xs → BecomesList bits at span old new ys
becomes-same bits at span old new xs ys e edit = becomes bits at span old new ys (edit.list ∙ e) edit.others edit.words

-- two edits of one span, one after the other
pub becomes-then : (bits : ℕ) (at : ℕ → ℕ) (span : Span) (old mid new : List ℕ) (xs ys : List Bool) → BecomesList bits at span old mid xs → BecomesList bits at span mid new ys → BecomesList bits at span old new ys
becomes-then bits at span old mid new xs ys first second = becomes bits at span old new ys second.list (λ place out. second.others place out ∙ first.others place out) (second.words ∙ first.words)

-- a place past the memory has no bit
bit-past : (bits : ℕ) (at : ℕ → ℕ) (old new : List ℕ) (place : ℕ) → 0 < bits → length new ≡ length old → length old * bits ≤ place → bit_of bits at new place ≡ bit_of bits at old place
bit-past bits at old new place some many past =
    let beyond : length old ≤ place / bits = le-div (length old) place bits some past in
    ap (λ w. digit w (at (place % bits))) (get_or_past new (place / bits) 0 (omega (arith, beyond, many)) ∙ sym (get_or_past old (place / bits) 0 beyond))

module _ (bits : ℕ) (at : ℕ → ℕ) (span : Span) (old new : List ℕ) (in_head : span.head < bits) (fits : Fits bits span (length old)) where
  abbrev start : ℕ
  start = nat_abs span.word * bits + span.head

  some_bits : 0 < bits
  some_bits = omega (arith, in_head)

  -- the span's places are the memory's
  room : 0 < span.len → start + span.len ≤ length old * bits
  room some = met_covers bits (nat_abs span.word) span.head span.len (length old) some_bits some fits.1

  -- a place that is one of the span's
  place-own : (place : ℕ) → start ≤ place → place < start + span.len → Covers bits span (pos place)
  place-own place from upto =
      let same : nat_abs span.word * bits + span.head + (place - start) ≡ place = omega (arith, from) in
      subst (λ n. Covers bits span (pos n)) same (covers-own bits span (length old) (place - start) fits (omega (arith, from, upto)))

  -- the bit at a place of the span is an element of its list
  pub element-read : (i place : ℕ) (got : Bool) → i < span.len → place ≡ start + i → slice_get (memory_bits bits at old) place ≡ Some got → got ≡ element (list_of bits at span old) i
  element-read i place got h e found =
      let r = room (omega (arith, h)) in
      element_is (memory_bits bits at old) place got false (omega (arith, e, h, r, length-memory_bits bits at old)) found
      ∙ ap (λ n. get_or (memory_bits bits at old) n false) e ∙ get_or-memory_bits bits at old (start + i) false (omega (arith, h, r)) ∙ sym (element-list_of bits at span old i h)

  -- an edit by the bits at all places
  written-becomes : (xs : List Bool) → length xs ≡ span.len → length new ≡ length old
      → ((j : ℕ) → j < span.len → bit_of bits at new (start + j) ≡ element xs j)
      → ((place : ℕ) → place < length old * bits → (start ≤ place → place < start + span.len → ⊥)
      → bit_of bits at new place ≡ bit_of bits at old place) → BecomesList bits at span old new xs
  written-becomes xs long many inside outside =
      becomes bits at span old new xs
      (sym (tabulate-from_elements xs span.len _ false long (λ j h. sym (inside j h))))
      (λ place out. elim (cases_lt place (length old * bits)) [
        | inl within ↦ outside place within (λ from upto. out (place-own place from upto))
        | inr past ↦ bit-past bits at old new place some_bits many past
      ])
      many

  -- the bit at a place, by the list of all bits
  bit_new : (ys : List Bool) → length new ≡ length old → memory_bits bits at new ≡ ys → (place : ℕ) → place < length old * bits → bit_of bits at new place ≡ get_or ys place false
  bit_new ys many is place h =
      let same : length new * bits ≡ length old * bits = ap (λ n. n * bits) many in
      sym (get_or-memory_bits bits at new place false (omega (arith, same, h))) ∙ ap (λ (zs : List Bool). get_or zs place false) is

  -- one bit of the span is written
  pub bit-becomes : (i place : ℕ) (b : Bool) → i < span.len → place ≡ start + i → length new ≡ length old → memory_bits bits at new ≡ slice_set (memory_bits bits at old) place b
      → BecomesList bits at span old new (slice_set (list_of bits at span old) i b)
  bit-becomes i place b h e many is =
      let xs : List Bool = list_of bits at span old in
      let all : List Bool = memory_bits bits at old in
      let long : length xs ≡ span.len = length-list_of bits at span old in
      let within = room (omega (arith, h)) in
      written-becomes (slice_set xs i b) (length-set xs i b ∙ long) many
      (λ j l.
      let below : start + j < length old * bits = omega (arith, l, within) in
      bit_new (slice_set all place b) many is (start + j) below
      ∙ elim (cases_eq j i) [
        | inl same ↦ (
            ap (λ n. get_or (slice_set all place b) n false) (let here : start + j ≡ place = omega (arith, same, e) in here)
            ∙ get_or-set_same all place b false (omega (arith, e, h, within, length-memory_bits bits at old))
            ∙ sym (ap (element (slice_set xs i b)) same ∙ get_or-set_same xs i b false (omega (arith, long, h))))
        | inr differ ↦ (
            get_or-set_other all place (start + j) b false (λ f. differ (omega (arith, f, e)))
            ∙ get_or-memory_bits bits at old (start + j) false below
            ∙ sym (get_or-set_other xs i j b false differ ∙ element-list_of bits at span old j l))
      ])
      (λ p below out.
      bit_new (slice_set all place b) many is p below
      ∙ get_or-set_other all place p b false (λ f. out (omega (arith, f, e)) (omega (arith, f, e, h)))
      ∙ get_or-memory_bits bits at old p false below)

  -- the span's bits are copied from a list of bits
  pub copy-becomes : (xs ys : List Bool) (s to : ℕ) → length xs ≡ span.len → (0 < span.len → s + span.len ≤ length ys) → ((j : ℕ) → j < span.len → element xs j ≡ get_or ys (s + j) false)
      → to ≡ start → length new ≡ length old → memory_bits bits at new ≡ list_with_copy ys s (memory_bits bits at old) to span.len → BecomesList bits at span old new xs
  copy-becomes xs ys s to long from_in same e many is =
      let all : List Bool = memory_bits bits at old in
      let copied : List Bool = list_with_copy ys s all to span.len in
      let all_long = length-memory_bits bits at old in
      written-becomes xs long many
      (λ j h.
      let r = room (omega (arith, h)) in
      bit_new copied many is (start + j) (omega (arith, r, h))
      ∙ get_or-copied_inside ys s all to span.len (omega (arith, e, r, all_long)) (from_in (omega (arith, h))) (start + j) j false
      (omega (arith, e)) h
      ∙ sym (same j h))
      (λ p below out. bit_new copied many is p below ∙ elim (cases_eq span.len 0) [
        | inl none ↦ rw none (ap (λ (zs : List Bool). get_or zs p false) (sym (copied_none ys s all to)))
        | inr more ↦ (
            let r = room (omega arith) in
            elim (cases_lt p to) [
              | inl before ↦ get_or-copied_below ys s all to span.len (omega (arith, e, r, all_long)) (from_in (omega arith)) p false before
              | inr from ↦ elim (cases_lt p (to + span.len)) [
                | inl upto ↦ absurd (out (omega (arith, from, e)) (omega (arith, upto, e)))
                | inr past ↦ get_or-copied_above ys s all to span.len (omega (arith, e, r, all_long)) (from_in (omega arith)) p false past
              ]
            ])
      ] ∙ get_or-memory_bits bits at old p false below)

-- two bits of the span are each written in the other's place
pub swap-becomes : (bits : ℕ) (at : ℕ → ℕ) (span : Span) (old mid new : List ℕ) (i j : ℕ)
    → i < span.len → j < span.len
    → BecomesList bits at span old mid
    (slice_set (list_of bits at span old) i (element (list_of bits at span old) j))
    → BecomesList bits at span mid new
    (slice_set (list_of bits at span mid) j (element (list_of bits at span old) i))
    → BecomesList bits at span old new (swap (list_of bits at span old) i j)
swap-becomes bits at span old mid new i j h k first second =
    let xs : List Bool = list_of bits at span old in
    let long = length-list_of bits at span old in
    becomes-same bits at span old new (slice_set (list_of bits at span mid) j (element xs i))
    (swap xs i j)
    (ap (λ (ys : List Bool). slice_set ys j (element xs i)) first.list
    ∙ swap_is xs i j false (omega (arith, long, h)) (omega (arith, long, k)))
    (becomes-then bits at span old mid new _ _ first second)

-- a list whose first elements are another's, and one more
one_more : (xs ys : List Bool) (i : ℕ) → length ys ≡ length xs → i < length xs
    → slice_set (take i ys ++ drop i xs) i (element ys i) ≡ take (i + 1) ys ++ drop (i + 1) xs
one_more xs ys i same h =
    let zs : List Bool = take i ys ++ drop i xs in
    let long = length-take-le i ys (omega (arith, same, h)) in
    let rest = length-drop i xs in
    let all = length-append (take i ys) (drop i xs) in
    let next : suc i ≡ i + 1 = omega arith in
    let behind : drop (suc i) zs ≡ drop (i + 1) xs =
    ap (λ n. drop n zs) next ∙ sym (drop-drop 1 i zs) ∙ ap (drop 1) (drop_at (take i ys) (drop i xs) i long) ∙ drop-drop 1 i xs in
    set_split zs i (element ys i) (omega (arith, all, long, rest, h))
    ∙ (λ m. take_at (take i ys) (drop i xs) i long m ++ (element ys i ∷ behind m))
    ∙ sym (append_assoc (take i ys) (element ys i ∷ []) (drop (i + 1) xs))
    ∙ ap (λ ws. ws ++ drop (i + 1) xs) (sym (take_more ys i false (omega (arith, same, h))))

-- one more of the span's bits is a list's
pub more-becomes : (bits : ℕ) (at : ℕ → ℕ) (span : Span) (old mid new : List ℕ) (ys : List Bool)
    (i : ℕ) → length ys ≡ span.len → i < span.len
    → BecomesList bits at span old mid (take i ys ++ drop i (list_of bits at span old))
    → BecomesList bits at span mid new (slice_set (list_of bits at span mid) i (element ys i))
    → BecomesList bits at span old new (take (i + 1) ys ++ drop (i + 1) (list_of bits at span old))
more-becomes bits at span old mid new ys i same h first second =
    let long = length-list_of bits at span old in
    becomes-same bits at span old new _ _
    (ap (λ (xs : List Bool). slice_set xs i (element ys i)) first.list
    ∙ one_more (list_of bits at span old) ys i (omega (arith, same, long)) (omega (arith, long, h)))
    (becomes-then bits at span old mid new _ _ first second)

-- all of them are
pub all-becomes : (bits : ℕ) (at : ℕ → ℕ) (span : Span) (old new : List ℕ) (ys : List Bool) (n : ℕ) → length ys ≡ span.len → span.len ≤ n
    → BecomesList bits at span old new (take n ys ++ drop n (list_of bits at span old)) → BecomesList bits at span old new ys
all-becomes bits at span old new ys n same h edit =
    let xs : List Bool = list_of bits at span old in
    let long = length-list_of bits at span old in
    becomes-same bits at span old new _ _ ((λ m. take_all n ys (omega (arith, same, h)) m ++ drop_all n xs (omega (arith, long, h)) m)
    ∙ append-nil ys) edit

-- a span lies in a memory of words of that width
pub record LiesIn (bits : ℕ) (span : Span) (words : ℕ) : Type 0 where
  pub in_head : span.head < bits
  pub fits : Fits bits span words

-- the bits of a span in one memory were copied to the places of another span of the same length, which made `new` of
-- `old`
pub record IsCopied (wide : ℕ) (place_in : ℕ → ℕ) (source : Span) (from : List ℕ)
    (bits : ℕ) (at : ℕ → ℕ) (span : Span) (old new : List ℕ) : Type 0 where
  pub len : source.len ≡ span.len
  pub words : length new ≡ length old
  pub copied : memory_bits bits at new
      ≡ list_with_copy (memory_bits wide place_in from) (nat_abs source.word * wide + source.head)
      (memory_bits bits at old) (nat_abs span.word * bits + span.head) span.len

-- the span's bits are copied from those of another, of any width and order
pub span-becomes : (wide : ℕ) (place_in : ℕ → ℕ) (source : Span) (from : List ℕ)
    (bits : ℕ) (at : ℕ → ℕ) (span : Span) (old new : List ℕ)
    → LiesIn wide source (length from) → LiesIn bits span (length old)
    → IsCopied wide place_in source from bits at span old new
    → BecomesList bits at span old new (list_of wide place_in source from)
span-becomes wide place_in source from bits at span old new there here is =
    let start : ℕ = nat_abs source.word * wide + source.head in
    let theirs = length-memory_bits wide place_in from in
    let some : 0 < wide = omega (arith, there.in_head) in
    let source_room : 0 < source.len → start + source.len ≤ length from * wide = λ more.
    met_covers wide (nat_abs source.word) source.head source.len (length from) some more
    there.fits.1 in
    copy-becomes bits at span old new here.in_head here.fits (list_of wide place_in source from)
    (memory_bits wide place_in from) start (nat_abs span.word * bits + span.head)
    (length-list_of wide place_in source from ∙ is.len)
    (λ more. let r = source_room (omega (arith, more, is.len)) in omega (arith, r, is.len, theirs))
    (λ j h. let r = source_room (omega (arith, h, is.len)) in
    element-list_of wide place_in source from j (omega (arith, h, is.len))
    ∙ sym (get_or-memory_bits wide place_in from (start + j) false (omega (arith, r, h, is.len))))
    refl is.words is.copied

-- a range of a span's bits
module _ (bits : ℕ) (at : ℕ → ℕ) (span : Span) (from to : ℕ) (words : List ℕ) (in_head : span.head < bits) (fits : Fits bits span (length words)) (rises : from ≤ to) (within : to ≤ span.len) where
  some : 0 < bits
  some = omega (arith, in_head)

  abbrev upto : Span
  upto = span_upto span to

  abbrev before : Span
  before = span_upto upto from

  abbrev range : Span
  range = span_range bits span from to

  abbrev behind : Span
  behind = span_from bits span to

  -- the span's list is those of the bits before the range, of the range and of the bits behind it
  three_lists : (now : List ℕ) → list_of bits at before now ++ list_of bits at range now ++ list_of bits at behind now ≡ list_of bits at span now
  three_lists now =
      ap (λ ws. ws ++ list_of bits at behind now) (parts-lists bits upto from some rises at now fits.0) ∙ parts-lists bits span to some within at now fits.0

  -- the bits before the range are the first of the list, and those behind it the last
  first_bits : take from (list_of bits at span words) ≡ list_of bits at before words
  first_bits =
      let xs = list_of bits at before words in
      let ys = list_of bits at range words in
      let zs = list_of bits at behind words in
      ap (take from) (sym (three_lists words) ∙ append_assoc xs ys zs) ∙ take_at xs (ys ++ zs) from (length-list_of bits at before words)

  last_bits : drop to (list_of bits at span words) ≡ list_of bits at behind words
  last_bits =
      ap (drop to) (sym (parts-lists bits span to some within at words fits.0)) ∙ drop_at (list_of bits at upto words) (list_of bits at behind words) to (length-list_of bits at upto words)

  -- the bits of the range are those from number `from` to before number `to`
  pub range-list : list_of bits at range words ≡ take (to - from) (drop from (list_of bits at span words))
  range-list =
      let xs = list_of bits at before words in
      let ys = list_of bits at range words in
      let zs = list_of bits at behind words in
      sym (ap (λ ws. take (to - from) (drop from ws)) (sym (three_lists words) ∙ append_assoc xs ys zs)
      ∙ ap (take (to - from)) (drop_at xs (ys ++ zs) from (length-list_of bits at before words))
      ∙ take_at ys zs (to - from) (length-list_of bits at range words))

  range-covers : (place : ℤ) → Covers bits range place → Covers bits span place
  range-covers place there = covers-before bits span to some within place (covers-behind bits upto from some rises place there)

  -- an edit of the range is one of the span
  pub range-becomes : (new : List ℕ) (ys : List Bool) → BecomesList bits at range words new ys
      → BecomesList bits at span words new (take from (list_of bits at span words) ++ ys ++ drop to (list_of bits at span words))
  range-becomes new ys edit =
      let halves = parts-fit bits span to some within (length words) in_head fits in
      let fit = (parts-fit bits upto from some rises (length words) in_head halves.0).0 in
      let before_kept : list_of bits at before new ≡ list_of bits at before words = list-kept bits at before.word before.head before.len words new fit.0 (λ place here. edit.others place (λ there. parts-disjoint bits upto from some rises (pos place) here there)) in
      let behind_kept : list_of bits at behind new ≡ list_of bits at behind words = list-kept bits at behind.word behind.head behind.len words new halves.1.0
      (λ place here. edit.others place (λ there. parts-disjoint bits span to some within (pos place) (covers-behind bits upto from some rises (pos place) there) here)) in
      becomes bits at span words new _
      (sym (three_lists new)
      ∙ ap (λ ws. ws ++ list_of bits at range new ++ list_of bits at behind new) (before_kept ∙ sym first_bits)
      ∙ ap (λ ws. take from (list_of bits at span words) ++ ws ++ list_of bits at behind new) edit.list
      ∙ ap (λ ws. take from (list_of bits at span words) ++ ys ++ ws) (behind_kept ∙ sym last_bits))
      (λ place outside. edit.others place (λ there. outside (range-covers (pos place) there)))
      edit.words

-- a range of a span lies in each memory that the span fits
pub range-fits : (bits : ℕ) (span : Span) (from to words : ℕ) → span.head < bits → Fits bits span words → from ≤ to → to ≤ span.len → Fits bits (span_range bits span from to) words
range-fits bits span from to words in_head fits rises within =
    let some : 0 < bits = omega (arith, in_head) in
    (parts-fit bits (span_upto span to) from some rises words in_head (parts-fit bits span to some within words in_head fits).0).1

-- a range of a span has places of the span alone
pub range-apart : (bits : ℕ) (span : Span) (from to : ℕ) → 0 < bits → from ≤ to → to ≤ span.len → (other : Span) → AreDisjoint bits span other → AreDisjoint bits (span_range bits span from to) other
range-apart bits span from to some rises within other apart place here there =
    apart place (covers-before bits span to some within place (covers-behind bits (span_upto span to) from some rises place here)) there

-- two ranges of `count` bits each are of one length
pub range-len : (bits : ℕ) (span : Span) (from to count : ℕ) (source target : Span) → source ≡ span_range bits span from (from + count) → target ≡ span_range bits span to (to + count) → source.len ≡ target.len
range-len bits span from to count source target e f =
    let a : source.len ≡ from + count - from = ap (λ (s : Span). s.len) e in
    let b : target.len ≡ to + count - to = ap (λ (s : Span). s.len) f in
    omega (arith, a, b)

-- a range of a span's bits has those of another range
pub moved-becomes : (bits : ℕ) (at : ℕ → ℕ) (span : Span) (old new : List ℕ) (from to count : ℕ) (xs : List Bool) → xs ≡ take (from + count - from) (drop from (list_of bits at span old))
    → BecomesList bits at span old new (take to (list_of bits at span old) ++ xs ++ drop (to + count) (list_of bits at span old))
    → BecomesList bits at span old new (list_with_copy (list_of bits at span old) from (list_of bits at span old) to count)
moved-becomes bits at span old new from to count xs is edit =
    let all : from + count - from ≡ count = omega arith in
    let ys : List Bool = list_of bits at span old in
    becomes-same bits at span old new _ _ (ap (λ zs. take to ys ++ zs ++ drop (to + count) ys) (is ∙ ap (λ n. take n (drop from ys)) all)) edit
