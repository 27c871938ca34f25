-- What is read of numbers that were written one behind the other.
use Rattle.std.proofs.Common.{◌≡◌, ℕ, suc, ◌^◌, ◌<◌, ◌≤◌, ℤ, pos, negsuc, Bool, List, [], ◌∷◌, ◌++◌, length, map, take, drop, refl, sym, ap, subst, ◌∙◌, arith, length-append, append_assoc}
use Rattle.std.specs.Prelude.{unsigned_abs}
use Rattle.std.specs.List.{All}
use Rattle.std.proofs.lemmas.List.{take_at, drop_at}
use Rattle.std.proofs.lemmas.Nat.{mod_below, pow_pos}
use Rattle.std.proofs.Math.Nat.{mod-eq_of_lt}
use Rattle.bitvec_slice.specs.Signed.{signed_of, complement_of}
use Rattle.bitvec_slice.proofs.SignedLemmas.{signed_back}
use Rattle.bitvec_stream.specs.Golomb.{golomb, signed_place, StartsWith}
use Rattle.bitvec_stream.specs.Items.{Way, highest_first, lowest_first, signed_highest_first, signed_lowest_first, exp_golomb, signed_exp_golomb, IsUnsigned, CanBeWritten, written_as, Takes, TakesCode, IsReadAs, AreRead, items_bits, WrittenIsRead}
use Rattle.bitvec_stream.specs.Numbers.{number_le, number_be, digits_le, digits_be}
use Rattle.bitvec_stream.proofs.GolombLemmas.{one_code}
use Rattle.bitvec_slice.proofs.DigitListLemmas.{length-digits_le, length-digits_be, number_le-back, number_be-back}
use Rattle.bitvec_stream.proofs.SignedGolombLemmas.{one_signed}

-- a two's complement is below its power
pub complement-below : (count : ℕ) (z : ℤ) → complement_of count z < 2 ^ count
complement-below count (pos n) = mod_below n (2 ^ count) (pow_pos count)
complement-below count (negsuc n) = let some = pow_pos count in omega (arith, some)

-- digits that were written are read, and so is what stands behind them
module _ (count n : ℕ) (behind : List Bool) (below : n < 2 ^ count) where
  pub be_read : (number_be (take count (digits_be count n ++ behind)) ≡ n) × (drop count (digits_be count n ++ behind) ≡ behind)
  be_read = (
    ap number_be (take_at (digits_be count n) behind count (length-digits_be count n)) ∙ number_be-back count n below,
    drop_at (digits_be count n) behind count (length-digits_be count n),
  )

  pub le_read : (number_le (take count (digits_le count n ++ behind)) ≡ n) × (drop count (digits_le count n ++ behind) ≡ behind)
  le_read = (
    ap number_le (take_at (digits_le count n) behind count (length-digits_le count n)) ∙ number_le-back count n below,
    drop_at (digits_le count n) behind count (length-digits_le count n),
  )

-- and there are `count` of these digits
module _ (count n : ℕ) (behind : List Bool) where
  be_takes : behind ≡ drop count (digits_be count n ++ behind) → Takes count (digits_be count n ++ behind) behind
  be_takes e = (omega (arith, length-append (digits_be count n) behind, length-digits_be count n), e)

  le_takes : behind ≡ drop count (digits_le count n ++ behind) → Takes count (digits_le count n ++ behind) behind
  le_takes e = (omega (arith, length-append (digits_le count n) behind, length-digits_le count n), e)

unsigned_whole : (count n : ℕ) → n < 2 ^ count → complement_of count (pos n) ≡ n
unsigned_whole count n h = mod-eq_of_lt {n = n} {m = 2 ^ count} h

-- and so are codes
pub code_read : (n m : ℕ) (behind left : List Bool) → TakesCode m (golomb n ++ behind) left → (m ≡ n) × (left ≡ behind)
code_read n m behind left takes =
    let starts : StartsWith (golomb n ++ behind) (golomb n) = take_at (golomb n) behind (length (golomb n)) refl in
    let same : m ≡ n = one_code (golomb n ++ behind) m n takes.0 starts in
    (same, takes.1 ∙ ap (λ k. drop (length (golomb k)) (golomb n ++ behind)) same ∙ drop_at (golomb n) behind (length (golomb n)) refl)

code_takes : (n : ℕ) (behind : List Bool) → TakesCode n (golomb n ++ behind) behind
code_takes n behind = (take_at (golomb n) behind (length (golomb n)) refl, sym (drop_at (golomb n) behind (length (golomb n)) refl))

same_unsigned : (y z : ℤ) → IsUnsigned y → IsUnsigned z → unsigned_abs y ≡ unsigned_abs z → y ≡ z
same_unsigned (pos a) (pos b) first second e = ap pos e
same_unsigned (pos a) (negsuc b) first second e = absurd second
same_unsigned (negsuc a) z first second e = absurd first

-- of one number nothing else is read
pub one_read : (way : Way) (z y : ℤ) (behind left : List Bool) → CanBeWritten way z → IsReadAs way (written_as way z ++ behind) y left → (y ≡ z) × (left ≡ behind)
one_read (highest_first count) (pos n) y behind left can read =
    let it = be_read count (complement_of count (pos n)) behind (complement-below count (pos n)) in
    (read.0 ∙ ap pos (it.0 ∙ unsigned_whole count n can), read.1.1 ∙ it.1)
one_read (highest_first count) (negsuc n) y behind left can read = absurd can
one_read (lowest_first count) (pos n) y behind left can read =
    let it = le_read count (complement_of count (pos n)) behind (complement-below count (pos n)) in
    (read.0 ∙ ap pos (it.0 ∙ unsigned_whole count n can), read.1.1 ∙ it.1)
one_read (lowest_first count) (negsuc n) y behind left can read = absurd can
one_read (signed_highest_first count) z y behind left can read =
    let it = be_read count (complement_of count z) behind (complement-below count z) in
    (read.0 ∙ ap (signed_of count) it.0 ∙ signed_back count z can, read.1.1 ∙ it.1)
one_read (signed_lowest_first count) z y behind left can read =
    let it = le_read count (complement_of count z) behind (complement-below count z) in
    (read.0 ∙ ap (signed_of count) it.0 ∙ signed_back count z can, read.1.1 ∙ it.1)
one_read exp_golomb z y behind left can read =
    let it = code_read (unsigned_abs z) (unsigned_abs y) behind left read.1 in
    (same_unsigned y z read.0 can it.0, it.1)
one_read signed_exp_golomb z y behind left can read =
    let it = code_read (signed_place z) (signed_place y) behind left read in
    (one_signed y z it.0, it.1)

-- nothing but them is read of all of them
only_written : (items : List (Way × ℤ)) (behind : List Bool) (zs : List ℤ) (left : List Bool) → All (λ it. CanBeWritten it.0 it.1) items
    → AreRead (map (λ it. it.0) items) (items_bits items ++ behind) zs left → (zs ≡ map (λ it. it.1) items) × (left ≡ behind)
only_written [] behind zs left can read = read
only_written (item ∷ items) behind [] left can read = absurd read
only_written (item ∷ items) behind (z ∷ zs) left can read =
    let shown : (written_as item.0 item.1 ++ items_bits items) ++ behind ≡ written_as item.0 item.1 ++ (items_bits items ++ behind) = append_assoc (written_as item.0 item.1) (items_bits items) behind in
    let first = subst (λ us. IsReadAs item.0 us z read.0) shown read.1 in
    let one = one_read item.0 item.1 z (items_bits items ++ behind) read.0 (can 0 item (omega arith)) first in
    let others = subst (λ us. AreRead (map (λ (it : Way × ℤ). it.0) items) us zs left) one.1 read.2 in
    let more = only_written items behind zs left (λ k d h. can (suc k) d (omega (arith, h))) others in
    ((λ i. one.0 i ∷ more.0 i), more.1)

-- a number that was written is read, and what stands behind it is left
one_reads : (way : Way) (z : ℤ) (behind : List Bool) → CanBeWritten way z → IsReadAs way (written_as way z ++ behind) z behind
one_reads (highest_first count) (pos n) behind can =
    let it = be_read count (complement_of count (pos n)) behind (complement-below count (pos n)) in
    (sym (ap pos (it.0 ∙ unsigned_whole count n can)), be_takes count (complement_of count (pos n)) behind (sym it.1))
one_reads (highest_first count) (negsuc n) behind can = absurd can
one_reads (lowest_first count) (pos n) behind can =
    let it = le_read count (complement_of count (pos n)) behind (complement-below count (pos n)) in
    (sym (ap pos (it.0 ∙ unsigned_whole count n can)), le_takes count (complement_of count (pos n)) behind (sym it.1))
one_reads (lowest_first count) (negsuc n) behind can = absurd can
one_reads (signed_highest_first count) z behind can =
    let it = be_read count (complement_of count z) behind (complement-below count z) in
    (sym (ap (signed_of count) it.0 ∙ signed_back count z can), be_takes count (complement_of count z) behind (sym it.1))
one_reads (signed_lowest_first count) z behind can =
    let it = le_read count (complement_of count z) behind (complement-below count z) in
    (sym (ap (signed_of count) it.0 ∙ signed_back count z can), le_takes count (complement_of count z) behind (sym it.1))
one_reads exp_golomb z behind can = (can, code_takes (unsigned_abs z) behind)
one_reads signed_exp_golomb z behind can = code_takes (signed_place z) behind

-- all of them are
pub are_written : (items : List (Way × ℤ)) (behind : List Bool) → All (λ it. CanBeWritten it.0 it.1) items
    → AreRead (map (λ it. it.0) items) (items_bits items ++ behind) (map (λ it. it.1) items) behind
are_written [] behind can = (refl, refl)
are_written (item ∷ items) behind can =
    let shown : (written_as item.0 item.1 ++ items_bits items) ++ behind ≡ written_as item.0 item.1 ++ (items_bits items ++ behind) = append_assoc (written_as item.0 item.1) (items_bits items) behind in
    let first = one_reads item.0 item.1 (items_bits items ++ behind) (can 0 item (omega arith)) in (
      items_bits items ++ behind,
      subst (λ us. IsReadAs item.0 us item.1 (items_bits items ++ behind)) (sym shown) first,
      are_written items behind (λ k d h. can (suc k) d (omega (arith, h))),
    )

pub written_is_read : WrittenIsRead
written_is_read items behind zs left can = (
  λ read. only_written items behind zs left can read,
  λ same. subst (λ us. AreRead (map (λ (it : Way × ℤ). it.0) items) (items_bits items ++ behind) us left) (sym same.0)
      (subst (λ us. AreRead (map (λ (it : Way × ℤ). it.0) items) (items_bits items ++ behind) (map (λ (it : Way × ℤ). it.1) items) us) (sym same.1) (are_written items behind can)),
)
