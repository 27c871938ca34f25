-- A header by its bits.
use Rattle.std.proofs.Common.{arith, ◌≡◌, ℕ, ◌<◌, ◌≤◌, ◌^◌, Bool, List, [], ◌++◌, length, take, get_or, refl, sym, ap, subst, ◌∙◌, length-append}
use Rattle.std.proofs.lemmas.List.{length-take-le, append-nil}
use Rattle.bitvec_stream.specs.Numbers.{number_be}
use Rattle.bitvec_stream.specs.Writer.{Writes}
use Rattle.bitvec_stream.specs.declared.writer.BitWriter.{BitWriter}
use Rattle.bitvec_stream.proofs.WriterLemmas.{writes-both}
use Rattle.std.proofs.lemmas.List.Elements.{All-from_recursion}
use Rattle.example_tcp.specs.Header.{header_row, header_bits, HeaderFits, OneHeader}
use Rattle.example_tcp.specs.declared.header.Header.{Header}
use Rattle.bitvec_stream.proofs.RowLemmas.{row_once}
use Rattle.bitvec_slice.proofs.DigitListLemmas.{number_be-below}

-- a header is known by its numbers
same_header : (one other : Header) → header_row one ≡ header_row other → one ≡ other
same_header one other same =
    let number = λ (row : List (ℕ × ℕ)) (n : ℕ). (get_or row n (0, 0)).1 in
    ap (λ row. record { source = number row 0; destination = number row 1; sequence = number row 2; acknowledgment = number row 3; offset = number row 4; reserved = number row 5; flags = number row 6; window = number row 7; checksum = number row 8; urgent = number row 9 }) same

pub one_header : OneHeader
unfolding HeaderFits
one_header one other behind left fits too same =
    let it = row_once (header_row one) (header_row other) behind left refl fits too same in
    (same_header one other it.0, it.1)

-- a header is read of a header's bits: what is read is that header
pub header_back : (h back : Header) (xs left : List Bool) → HeaderFits h → HeaderFits back → xs ≡ header_bits h → xs ≡ header_bits back ++ left → back ≡ h
header_back h back xs left fits too is read = sym (one_header h back [] left fits too (append-nil (header_bits h) ∙ sym is ∙ read)).0

-- a number that was read has no more digits than bits
pub number_below : (xs : List Bool) (count n : ℕ) → count ≤ length xs → n ≡ number_be (take count xs) → n < 2 ^ count
number_below xs count n inside is =
    subst (λ m. n < 2 ^ m) (length-take-le count xs inside) (subst (λ m. m < 2 ^ length (take count xs)) (sym is) (number_be-below (take count xs)))

-- a header's numbers fit where each is below two to its number of bits
pub header_fits : (h : Header) → h.source < 2 ^ 16 → h.destination < 2 ^ 16 → h.sequence < 2 ^ 32 → h.acknowledgment < 2 ^ 32 → h.offset < 2 ^ 4 → h.reserved < 2 ^ 4
    → h.flags < 2 ^ 8 → h.window < 2 ^ 16 → h.checksum < 2 ^ 16 → h.urgent < 2 ^ 16 → HeaderFits h
unfolding HeaderFits
header_fits h a b c d e f g i j k = All-from_recursion (λ (it : ℕ × ℕ). it.1 < 2 ^ it.0) (header_row h) (a, (b, (c, (d, (e, (f, (g, (i, (j, (k, tt))))))))))

pub header_few : (h : Header) → HeaderFits h → (h.offset < 16) × (h.reserved < 16)
unfolding HeaderFits
header_few h fits = (fits 4 (0, 0) (omega arith), fits 5 (0, 0) (omega arith))

-- what the search takes where it is asked whether a header fits
pub ruleset fits = (header_fits, header_few)

-- four writes, one behind the other, are one of four lists
pub writes-four : {R O : Type 0} {a b c d e f g h i : _} → (old one two three new : BitWriter R O a b c d e f g h i) (ws xs ys zs : List Bool) → Writes old one ws → Writes one two xs → Writes two three ys → Writes three new zs
    → Writes old new (ws ++ xs ++ ys ++ zs)
writes-four old one two three new ws xs ys zs first second third fourth =
    let both = writes-both old one two ws xs first second in
    writes-both old three new (ws ++ xs ++ ys) zs (writes-both old two three (ws ++ xs) ys both third) fourth
