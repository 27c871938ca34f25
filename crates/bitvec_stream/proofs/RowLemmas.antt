-- Numbers that are written and read one behind the other, the highest digit first or the lowest.
use Rattle.std.proofs.Common.{◌≡◌, ℕ, suc, ◌+◌, ◌-◌, ◌^◌, ◌<◌, ◌≤◌, Bool, List, [], ◌∷◌, ◌++◌, length, map, take, drop, refl, sym, ap, subst, ◌∙◌, arith, length-append, length-drop, append_assoc}
use Rattle.std.specs.Prelude.{sum}
use Rattle.std.specs.List.{All}
use Rattle.std.proofs.lemmas.List.{take_at, drop_at, take-append-drop, length-take-le, drop-drop}
use Rattle.std.proofs.lemmas.List.Elements.{All-cons}
use Rattle.std.proofs.lemmas.List.Sums.{sum_by-cons}
use Rattle.bitvec_slice.proofs.DigitListLemmas.{length-digits_le, length-digits_be, number_be-back, number_le-back, digits_be-number, digits_le-number, number_be-below}
use Rattle.bitvec_stream.specs.Numbers.{number_le, number_be, digits_le, digits_be}
use Rattle.bitvec_stream.specs.Rows.{row_be, RowFits, row_counts, row_in, RowIsRead, RowIsWritten}

-- A number that was read: its digits are the bits that were read, and what is left stands behind them.
module _ (xs ys : List Bool) (count n : ℕ) (inside : count ≤ length xs) (left : ys ≡ drop count xs) where
  pub be_split : n ≡ number_be (take count xs) → xs ≡ digits_be count n ++ ys
  be_split is =
      sym (ap (λ us. us ++ ys) (ap (digits_be count) is ∙ digits_be-number (take count xs) count (length-take-le count xs inside))
      ∙ ap (λ us. take count xs ++ us) left ∙ take-append-drop count xs)

  pub le_split : n ≡ number_le (take count xs) → xs ≡ digits_le count n ++ ys
  le_split is =
      sym (ap (λ us. us ++ ys) (ap (digits_le count) is ∙ digits_le-number (take count xs) count (length-take-le count xs inside))
      ∙ ap (λ us. take count xs ++ us) left ∙ take-append-drop count xs)

  pub left_split : length ys + count ≡ length xs
  left_split = omega (arith, inside, ap length left, length-drop count xs)

-- A number that was written and is read: the same number, and the same bits behind it.
module _ (count n m : ℕ) (xs ys : List Bool) (below : n < 2 ^ count) (too : m < 2 ^ count) where
  pub be_once : digits_be count n ++ xs ≡ digits_be count m ++ ys → (n ≡ m) × (xs ≡ ys)
  be_once same =
      let first = ap (take count) same in
      let rest = ap (drop count) same in (
        sym (number_be-back count n below)
            ∙ ap number_be (sym (take_at (digits_be count n) xs count (length-digits_be count n)) ∙ first ∙ take_at (digits_be count m) ys count (length-digits_be count m))
            ∙ number_be-back count m too,
        sym (drop_at (digits_be count n) xs count (length-digits_be count n)) ∙ rest ∙ drop_at (digits_be count m) ys count (length-digits_be count m),
      )

  pub le_once : digits_le count n ++ xs ≡ digits_le count m ++ ys → (n ≡ m) × (xs ≡ ys)
  le_once same =
      let first = ap (take count) same in
      let rest = ap (drop count) same in (
        sym (number_le-back count n below)
            ∙ ap number_le (sym (take_at (digits_le count n) xs count (length-digits_le count n)) ∙ first ∙ take_at (digits_le count m) ys count (length-digits_le count m))
            ∙ number_le-back count m too,
        sym (drop_at (digits_le count n) xs count (length-digits_le count n)) ∙ rest ∙ drop_at (digits_le count m) ys count (length-digits_le count m),
      )

-- the room that a write leaves
pub room_after : (old new bits : List Bool) (count : ℕ) → count ≤ length old → length bits ≡ count → new ≡ drop (length bits) old → length new + count ≡ length old
room_after old new bits count inside long is = omega (arith, inside, long, ap length is, length-drop (length bits) old)

-- a row that was written is read
pub row_read : RowIsRead
row_read [] after fits = (refl, refl)
row_read (it ∷ row) after fits =
    let bits = digits_be it.0 it.1 in
    let long = length-digits_be it.0 it.1 in
    let shown : (bits ++ row_be row) ++ after ≡ bits ++ (row_be row ++ after) = append_assoc bits (row_be row) after in
    let below : it.1 < 2 ^ it.0 = fits 0 it (omega arith) in
    let more = row_read row after (λ k d h. fits (suc k) d (omega (arith, h))) in
    let first : number_be (take it.0 ((bits ++ row_be row) ++ after)) ≡ it.1 =
    ap (λ us. number_be (take it.0 us)) shown ∙ ap number_be (take_at bits (row_be row ++ after) it.0 long) ∙ number_be-back it.0 it.1 below in
    let rest : drop it.0 ((bits ++ row_be row) ++ after) ≡ row_be row ++ after = ap (drop it.0) shown ∙ drop_at bits (row_be row ++ after) it.0 long in
    let many : length (bits ++ row_be row) ≡ it.0 + length (row_be row) = length-append bits (row_be row) ∙ ap (λ n. n + length (row_be row)) long in (
      (λ i. (it.0, first i) ∷ (ap (row_in (row_counts row)) rest ∙ more.0) i),
      ap (λ n. drop n ((bits ++ row_be row) ++ after)) many
          ∙ sym (drop-drop (length (row_be row)) it.0 ((bits ++ row_be row) ++ after))
          ∙ ap (drop (length (row_be row))) rest
          ∙ more.1,
    )

-- a row that was read is written
pub row_written : RowIsWritten
row_written [] xs inside = (refl, λ k d h. absurd (omega (arith, h)))
row_written (count ∷ counts) xs inside =
    let total : sum (count ∷ counts) ≡ count + sum counts = sum_by-cons (λ n. n) count counts in
    let here : count ≤ length xs = omega (arith, inside, total) in
    let there : sum counts ≤ length (drop count xs) = omega (arith, inside, total, length-drop count xs) in
    let more = row_written counts (drop count xs) there in
    let bits = digits_be count (number_be (take count xs)) in
    let below : number_be (take count xs) < 2 ^ count = subst (λ n. number_be (take count xs) < 2 ^ n) (length-take-le count xs here) (number_be-below (take count xs)) in (
      append_assoc bits (row_be (row_in counts (drop count xs))) (drop (sum (count ∷ counts)) xs)
          ∙ ap (λ us. bits ++ (row_be (row_in counts (drop count xs)) ++ us)) (ap (λ n. drop n xs) total ∙ sym (drop-drop (sum counts) count xs))
          ∙ ap (λ us. bits ++ us) more.0
          ∙ sym (be_split xs (drop count xs) count (number_be (take count xs)) here refl refl),
      All-cons (λ it. it.1 < 2 ^ it.0) (count, number_be (take count xs)) (row_in counts (drop count xs)) below more.1,
    )

-- Two rows of the same numbers of bits at the start of one list are one row, and the same bits stand behind it.
pub row_once : (a b : List (ℕ × ℕ)) (xs ys : List Bool) → row_counts a ≡ row_counts b → RowFits a → RowFits b → row_be a ++ xs ≡ row_be b ++ ys → (a ≡ b) × (xs ≡ ys)
row_once a b xs ys counts fits too same =
    let one = row_read a xs fits in
    let two = row_read b ys too in
    let rows : a ≡ b = sym one.0 ∙ ap (λ us. row_in (row_counts a) us) same ∙ ap (λ cs. row_in cs (row_be b ++ ys)) counts ∙ two.0 in (
      rows,
      sym one.1 ∙ ap (λ r. drop (length (row_be r)) (row_be a ++ xs)) rows ∙ ap (drop (length (row_be b))) same ∙ two.1,
    )

-- what a search takes for rows: `#[tactic(auto, using(bitvec_stream::proofs::RowLemmas::rows))]` on a function
pub ruleset rows = (length-digits_be, length-digits_le, append_assoc)
