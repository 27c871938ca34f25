-- What a writer has written of a text: nothing at first, and then a symbol more.
use Rattle.std.proofs.Common.{◌≡◌, ℕ, ◌+◌, ◌<◌, ◌≤◌, Bool, List, [], ◌++◌, length, take, drop, get_or, refl, sym, ap, ◌∙◌, arith, length-drop}
use Rattle.std.proofs.lemmas.List.{append-nil, take-append-drop}
use Rattle.bitvec.proofs.BecomesLemmas.{becomes}
use Rattle.bitvec_stream.specs.Writer.{target_span, target_words, target_bits, bits_written, written, room, Writes}
use Rattle.bitvec_stream.specs.declared.writer.BitWriter.{BitWriter}
use Rattle.bitvec_stream.proofs.WriterLemmas.{writes-both, writes-as}
use Rattle.example_huffman_text.specs.Text.{code_bits, encoded_bits}
use Rattle.example_huffman_text.proofs.TextLemmas.{text_more, text_left, text_all}
use Rattle.example_huffman_text.proofs.SymbolLemmas.{code_long}

pub writes-none : {R O : Type 0} {a b c d e f g h i : _} → (writer : BitWriter R O a b c d e f g h i) → Writes writer writer []
writes-none {a = own} {i = order} writer =
    let same : target_bits writer ≡ written writer ++ [] ++ drop 0 (room writer) =
    sym (ap (λ us. us ++ room writer) (append-nil (written writer)) ∙ take-append-drop (bits_written writer) (target_bits writer)) in (
      sym (append-nil (written writer)),
      refl,
      omega arith,
      (same, refl, refl, becomes own.BITS order.at_of (target_span writer) (target_words writer) (target_words writer) _ same (λ place out. refl) refl),
    )

-- the room for the symbols behind one, once its code was written
room_next : (lengths symbols : List ℕ) (k : ℕ) (old new : List Bool) → k < length symbols → length (encoded_bits lengths (drop k symbols)) ≤ length old → new ≡ drop (length (code_bits lengths (get_or symbols k 0))) old → length (encoded_bits lengths (drop (k + 1) symbols)) ≤ length new
room_next lengths symbols k old new inside enough is =
    let s = get_or symbols k 0 in
    omega (arith, enough, text_left lengths symbols k inside, code_long lengths s, ap length is, length-drop (length (code_bits lengths s)) old)

pub writes-next : {R O : Type 0} {a b c d e f g h i : _} → (old mid new : BitWriter R O a b c d e f g h i) (lengths symbols : List ℕ) (k : ℕ) → k < length symbols
    → Writes old mid (encoded_bits lengths (take k symbols)) × (length (encoded_bits lengths (drop k symbols)) ≤ length (room mid)) → Writes mid new (code_bits lengths (get_or symbols k 0))
    → Writes old new (encoded_bits lengths (take (k + 1) symbols)) × (length (encoded_bits lengths (drop (k + 1) symbols)) ≤ length (room new))
writes-next old mid new lengths symbols k inside before wrote = (
  writes-as old new _ _ (sym (text_more lengths symbols k inside)) (writes-both old mid new _ _ before.0 wrote),
  room_next lengths symbols k (room mid) (room new) inside before.1 wrote.1,
)

-- what the search takes where a text is written
pub ruleset writes = (writes-none, text_left, text_all)
