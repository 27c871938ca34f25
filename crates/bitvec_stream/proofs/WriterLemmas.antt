-- Writes of a writer, and one behind another.
use Rattle.std.proofs.Common.{◌≡◌, ℕ, ◌+◌, ◌≤◌, Bool, List, ◌++◌, length, take, drop, refl, sym, ap, subst, ◌∙◌, map, arith, append_assoc, length-append}
use Rattle.std.specs.Borrow.{MutBor}
use Rattle.bitvec.specs.Span.{Span, BecomesList, list_of}
use Rattle.bitvec.proofs.BecomesLemmas.{becomes-same, becomes-then}
use Rattle.bitvec_slice.specs.Ranges.{with_range}
use Rattle.bitvec_stream.specs.Writer.{target_memory, target_span, target_words, target_bits, bits_written, written, room, BecomesTarget, Writes}
use Rattle.bitvec_stream.specs.declared.writer.BitWriter.{BitWriter}
use Rattle.bitvec_stream.proofs.WriteLemmas.{IsWritten, range_written, written_both, room_both}

-- the same edit by another name of its list
pub becomes-as : {R O : Type 0} {a b c d e f g h i : _} → (old new : BitWriter R O a b c d e f g h i) (xs ys : List Bool) → xs ≡ ys → BecomesTarget old new xs → BecomesTarget old new ys
becomes-as {a = own} {i = order} old new xs ys same edit =
    (edit.0 ∙ same, edit.1, edit.2, becomes-same own.BITS order.at_of (target_span old) (target_words old) (target_words new) xs ys same edit.3)

-- two edits of the bits of one writer
pub becomes-both : {R O : Type 0} {a b c d e f g h i : _} → (old mid new : BitWriter R O a b c d e f g h i) (xs ys : List Bool) → BecomesTarget old mid xs → BecomesTarget mid new ys → BecomesTarget old new ys
becomes-both {a = own} {i = order} old mid new xs ys first second =
    let there = subst (λ (s : Span). BecomesList own.BITS order.at_of s (target_words mid) (target_words new) ys) first.1 second.3 in
    (second.0, second.1 ∙ first.1, second.2 ∙ first.2, becomes-then own.BITS order.at_of (target_span old) (target_words old) (target_words mid) (target_words new) xs ys first.3 there)

-- a write behind another is one of both lists
pub writes-both : {R O : Type 0} {a b c d e f g h i : _} → (old mid new : BitWriter R O a b c d e f g h i) (xs ys : List Bool) → Writes old mid xs → Writes mid new ys → Writes old new (xs ++ ys)
writes-both old mid new xs ys first second =
    let front : written new ≡ written old ++ (xs ++ ys) = second.0 ∙ ap (λ us. us ++ ys) first.0 ∙ append_assoc (written old) xs ys in
    let place : bits_written new ≡ bits_written old + length (xs ++ ys) = second.2 ∙ omega (arith, first.2, length-append xs ys) in
    let shown : written mid ++ ys ++ drop (length ys) (room mid) ≡ written old ++ (xs ++ ys) ++ drop (length (xs ++ ys)) (room old) =
    ap (λ us. us ++ ys ++ drop (length ys) (room mid)) first.0 ∙ written_both (written old) xs ys (room old) (room mid) first.1 in (
      front,
      room_both xs ys (room old) (room mid) (room new) first.1 second.1,
      place,
      becomes-as old new _ _ shown (becomes-both old mid new _ _ first.3 second.3),
    )

-- the same write by another name of its list
pub writes-as : {R O : Type 0} {a b c d e f g h i : _} → (old new : BitWriter R O a b c d e f g h i) (xs ys : List Bool) → xs ≡ ys → Writes old new xs → Writes old new ys
writes-as old new xs ys same write = subst (Writes old new) same write

-- a write from where another writer stands, or to there: of the same bits, behind the same number of bits
pub writes-from : {R O : Type 0} {a b c d e f g h i : _} → (old mid new : BitWriter R O a b c d e f g h i) (xs : List Bool) → target_memory mid ≡ target_memory old → target_span mid ≡ target_span old → bits_written mid ≡ bits_written old
    → Writes mid new xs → Writes old new xs
writes-from {a = own} {i = order} old mid new xs same there place write =
    let from = λ (memory : MutBor (List _)) (s : Span) (p : ℕ).
    (let bits = list_of own.BITS order.at_of s (map own.number memory.now) in
    (written new ≡ take p bits ++ xs) × (room new ≡ drop (length xs) (drop p bits)) × (bits_written new ≡ p + length xs)
    × ((target_bits new ≡ take p bits ++ xs ++ drop (length xs) (drop p bits)) × (target_span new ≡ s) × ((target_memory new).ghost_name ≡ memory.ghost_name)
    × BecomesList own.BITS order.at_of s (map own.number memory.now) (target_words new) (take p bits ++ xs ++ drop (length xs) (drop p bits)))) in
    subst (from (target_memory old) (target_span old)) place
    (subst (λ s. from (target_memory old) s (bits_written mid)) there (subst (λ memory. from memory (target_span mid) (bits_written mid)) same write))

pub writes-to : {R O : Type 0} {a b c d e f g h i : _} → (old mid new : BitWriter R O a b c d e f g h i) (xs : List Bool) → target_memory new ≡ target_memory mid → target_span new ≡ target_span mid → bits_written new ≡ bits_written mid
    → Writes old mid xs → Writes old new xs
writes-to {a = own} {i = order} old mid new xs same there place write =
    let to = λ (memory : MutBor (List _)) (s : Span) (p : ℕ).
    (let bits = list_of own.BITS order.at_of s (map own.number memory.now) in
    (take p bits ≡ written old ++ xs) × (drop p bits ≡ drop (length xs) (room old)) × (p ≡ bits_written old + length xs)
    × ((bits ≡ written old ++ xs ++ drop (length xs) (room old)) × (s ≡ target_span old) × (memory.ghost_name ≡ (target_memory old).ghost_name)
    × BecomesList own.BITS order.at_of (target_span old) (target_words old) (map own.number memory.now) (written old ++ xs ++ drop (length xs) (room old)))) in
    subst (to (target_memory new) (target_span new)) (sym place)
    (subst (λ s. to (target_memory new) s (bits_written mid)) (sym there) (subst (λ memory. to memory (target_span mid) (bits_written mid)) (sym same) write))

-- A stretch of a writer's bits is written behind those that were, and the writer stands behind it, at place q: what becomes
-- of them in the memory's new words.
pub stretch_at : {R O : Type 0} {a b c d e f g h i : _} → (old : BitWriter R O a b c d e f g h i) (words : List R) (ys : List Bool) (q at n : ℕ) → at ≡ bits_written old → q ≡ at + n → length ys ≡ n → at + n ≤ length (target_bits old)
    → BecomesList a.BITS i.at_of (target_span old) (target_words old) (map a.number words) (with_range (target_bits old) at (at + n) ys)
    → let bits = list_of a.BITS i.at_of (target_span old) (map a.number words) in
    (take q bits ≡ written old ++ ys) × (drop q bits ≡ drop (length ys) (room old)) × (q ≡ bits_written old + length ys)
    × ((bits ≡ written old ++ ys ++ drop (length ys) (room old)) × (target_span old ≡ target_span old) × ((target_memory old).ghost_name ≡ (target_memory old).ghost_name)
    × BecomesList a.BITS i.at_of (target_span old) (target_words old) (map a.number words) (written old ++ ys ++ drop (length ys) (room old)))
stretch_at {a = own} {i = order} old words ys q at n from to long inside edit =
    let bits = list_of own.BITS order.at_of (target_span old) (map own.number words) in
    let is : IsWritten (target_bits old) bits ys at n = range_written (target_bits old) bits ys at n long inside edit.list in
    let shown : bits ≡ written old ++ ys ++ drop (length ys) (room old) = is.whole ∙ ap (λ m. take m (target_bits old) ++ ys ++ drop (length ys) (drop m (target_bits old))) from in (
      ap (λ m. take m bits) to ∙ is.front ∙ ap (λ m. take m (target_bits old) ++ ys) from,
      ap (λ m. drop m bits) to ∙ is.behind ∙ ap (λ m. drop (length ys) (drop m (target_bits old))) from,
      omega (arith, from, to, long),
      (shown, refl, refl, becomes-same own.BITS order.at_of (target_span old) (target_words old) (map own.number words) _ _ (sym edit.list ∙ shown) edit),
    )
