-- What calls write from a place on.
use Rattle.std.proofs.Common.{◌≡◌, ◌≢◌, ℕ, ◌+◌, ◌-◌, ◌*◌, ◌/◌, ◌%◌, ◌<◌, ◌≤◌, Bool, true, false, not, List, [], ◌∷◌, ◌++◌, length, map, take, drop, replicate, refl, sym, ap, subst, ◌∙◌, inl, inr, arith, length-append}
use Rattle.std.proofs.lemmas.Bool.{cases_lt}
use Rattle.std.proofs.lemmas.Int.{ints}
use Rattle.std.proofs.lemmas.List.{length-replicate, get_or_append_left, get_or-append_right, get_or-drop}
use Rattle.std.proofs.lemmas.Nat.{div-add-mod'}
use Rattle.bitvec.specs.Memory.{bit_of}
use Rattle.bitvec.specs.Span.{Span, KeepsOthers, BecomesList, element, list_of, span_at}
use Rattle.bitvec.proofs.BecomesLemmas.{becomes, becomes-same}
use Rattle.bitvec.proofs.MemoryLemmas.{tabulate-from_elements}
use Rattle.bitvec.proofs.PartLemmas.{element-list_of, length-list_of}
use Rattle.bitvec_slice.proofs.DigitListLemmas.{length-digits_le, length-digits_be}
use Rattle.bitvec_stream.specs.Writer.{target_memory, target_span, target_words, target_bits, bits_written, written, room, Writes}
use Rattle.bitvec_stream.specs.declared.error.WriteError.{WriteError}
use Rattle.bitvec_stream.specs.declared.error.WriteError.TheVariants.{NoRoom, TooManyDigits}
use Rattle.bitvec_stream.specs.declared.writer.BitWriter.{BitWriter}
use Rattle.bitvec_call.specs.Range.{RangeBecomes}
use Rattle.bitvec_call.specs.RunStatus.{IsFirstFailed}
use Rattle.bitvec_call.specs.Status.{ok}
use Rattle.bitvec_call.specs.Stream.{bits_between, digits_by, write_status, written_conditions}
use Rattle.bitvec_call.proofs.PlainLemmas.{range_covers}

-- how many bits are left
pub length-left : (bits : ℕ) (at : ℕ → ℕ) (place end : ℕ) (words : List ℕ) → length (bits_between bits at place end words) ≡ end - place
length-left bits at place end words = length-list_of bits at (span_at bits place (end - place)) words

-- how many digits a number is written in
pub length-digits_by : (big : Bool) (count number : ℕ) → length (digits_by big count number) ≡ count
length-digits_by true count number = length-digits_be count number
length-digits_by false count number = length-digits_le count number

-- An edit of the bits between two places that makes the first those of a list, and keeps the others, is one of these alone.
module _ (bits : ℕ) (at : ℕ → ℕ) (place n : ℕ) (xs : List Bool) (old new : List ℕ) (some : 0 < bits) (within : length xs ≤ n)
    (edit : BecomesList bits at (span_at bits place n) old new (xs ++ drop (length xs) (list_of bits at (span_at bits place n) old))) where
  first : (words : List ℕ) (j : ℕ) → j < n → element (list_of bits at (span_at bits place n) words) j ≡ bit_of bits at words (place / bits * bits + place % bits + j)
  first words j h = element-list_of bits at (span_at bits place n) words j h

  list : list_of bits at (span_at bits place (length xs)) new ≡ xs
  list = sym (tabulate-from_elements xs (length xs) (λ j. bit_of bits at new (place / bits * bits + place % bits + j)) false refl (λ j h.
      sym (get_or_append_left xs (drop (length xs) (list_of bits at (span_at bits place n) old)) false j h) ∙ ap (λ us. element us j) (sym edit.list) ∙ first new j (omega (arith, h, within))))

  behind : (j : ℕ) → length xs ≤ j → j < n → bit_of bits at new (place / bits * bits + place % bits + j) ≡ bit_of bits at old (place / bits * bits + place % bits + j)
  behind j past h =
      let whole = list_of bits at (span_at bits place n) old in
      let back : length xs + (j - length xs) ≡ j = omega (arith, past) in
      sym (first new j h)
      ∙ ap (λ us. element us j) edit.list
      ∙ get_or-append_right xs (drop (length xs) whole) (length xs) j false refl past
      ∙ get_or-drop (length xs) whole (j - length xs) false
      ∙ ap (element whole) back
      ∙ first old j h

  others : KeepsOthers bits at (span_at bits place (length xs)) old new
  others p out =
      let parts = div-add-mod' place bits in
      elim (cases_lt p place) [
        | inl before ↦ edit.others p (λ there. absurd (omega (arith, ints, there, before, parts)))
        | inr from ↦ elim (cases_lt p (place + n)) [
          | inr past ↦ edit.others p (λ there. absurd (omega (arith, ints, there, past, parts)))
          | inl inner ↦ elim (cases_lt p (place + length xs)) [
            | inl here ↦ absurd (out (range_covers bits place (length xs) p from here))
            | inr rest ↦ (
                let is : place / bits * bits + place % bits + (p - place) ≡ p = omega (arith, from, parts) in
                ap (bit_of bits at new) (sym is) ∙ behind (p - place) (omega (arith, rest)) (omega (arith, from, inner)) ∙ ap (bit_of bits at old) is)
          ]
        ]
      ]

  pub front_becomes : RangeBecomes bits at place (length xs) xs old new
  front_becomes = becomes bits at (span_at bits place (length xs)) old new xs list others edit.words

-- A writer of the bits between two places of a memory has written a list, and the memory came back.
pub wrote : {R O : Type 0} {a b c d e f g h i : _} → (old new : BitWriter R O a b c d e f g h i) (memory left : List R) (place end : ℕ) (xs : List Bool)
    → (target_memory old).now ≡ memory → left ≡ (target_memory new).now → target_span old ≡ span_at a.BITS place (end - place) → bits_written old ≡ 0 → Writes old new xs
    → (0 < a.BITS) → length xs ≤ end - place → RangeBecomes a.BITS i.at_of place (length xs) xs (map a.number memory) (map a.number left)
wrote {a = own} {i = order} old new memory left place end xs lent back there none writes some within =
    let edit = writes.3.3 in
    let shown : written old ++ xs ++ drop (length xs) (room old) ≡ xs ++ drop (length xs) (target_bits old) = ap (λ p. take p (target_bits old) ++ xs ++ drop (length xs) (drop p (target_bits old))) none in
    let same = becomes-same own.BITS order.at_of (target_span old) (target_words old) (target_words new) _ _ shown edit in
    let here = subst (λ (s : Span). BecomesList own.BITS order.at_of s (target_words old) (target_words new) (xs ++ drop (length xs) (list_of own.BITS order.at_of s (target_words old)))) there same in
    let was = subst (λ (us : List _). BecomesList own.BITS order.at_of (span_at own.BITS place (end - place)) (map own.number us) (target_words new) (xs ++ drop (length xs) (list_of own.BITS order.at_of (span_at own.BITS place (end - place)) (map own.number us)))) lent here in
    let is = subst (λ (us : List _). BecomesList own.BITS order.at_of (span_at own.BITS place (end - place)) (map own.number memory) (map own.number us) (xs ++ drop (length xs) (list_of own.BITS order.at_of (span_at own.BITS place (end - place)) (map own.number memory)))) (sym back) was in
    front_becomes own.BITS order.at_of place (end - place) xs (map own.number memory) (map own.number left) some within is

-- A writer of a memory has refused and is as it was, and the memory came back.
pub left_kept : {R O : Type 0} {a b c d e f g h i : _} → (old new : BitWriter R O a b c d e f g h i) (number : R → ℕ) (memory left : List R) → (target_memory old).now ≡ memory → left ≡ (target_memory new).now → new ≡ old
    → map number left ≡ map number memory
left_kept old new number memory left lent back same = ap (map number) (back ∙ ap (λ writer. (target_memory writer).now) same ∙ lent)

-- a writer's refusal of a number of `count` digits tells the first of the call's conditions that fails
pub digits_refused : (count there left : ℕ) (IsShort : Type 0) (error : WriteError) → count ≤ 64 → there ≡ left → ¬ ((count ≤ there) × IsShort) → (error ≡ NoRoom → there < count) → (there < count → error ≡ NoRoom)
    → (write_status error ≢ ok) × IsFirstFailed (written_conditions count IsShort left) (write_status error)
digits_refused count there left IsShort NoRoom few same fails lacks is =
    let less = lacks refl in
    ((λ e. absurd (omega (arith, e))), inr (few, inl ((λ enough. absurd (omega (arith, enough, less, same))), refl)))
digits_refused count there left IsShort TooManyDigits few same fails lacks is = elim (cases_lt there count) [
  | inl less ↦ (let no = is less in absurd (cc))
  | inr enough ↦ ((λ e. absurd (omega (arith, e))), inr (few, inr (omega (arith, enough, same), inl ((λ short. absurd (fails (enough, short))), refl))))
]

-- equal bits and one that is the other
pub length-unary : (bit : Bool) (count : ℕ) → length (replicate count bit ++ not bit ∷ []) ≡ count + 1
length-unary bit count = length-append (replicate count bit) (not bit ∷ []) ∙ ap (λ n. n + 1) (length-replicate count bit)
