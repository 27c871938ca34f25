-- The mask of a word's part, by the elements of a list that lie in it. `bits` is the width of a word.
use Rattle.std.proofs.Common.{◌≡◌, ℕ, ◌+◌, ◌-◌, ◌*◌, ◌^◌, ◌<◌, ◌≤◌, ◌&&◌, Bool, true, false, nat_le, nat_lt, refl, sym, subst, ◌∙◌, inl, inr, arith}
use Rattle.std.proofs.lemmas.Bool.{cases_eq, cases_lt, eq-eqb, ne_eqb, le-leb, lt-leb, lt-ltb, le-ltb}
use Rattle.std.proofs.lemmas.Nat.{mod_below}
use Rattle.bitvec.specs.Digit.{digit}
use Rattle.bitvec.specs.Order.{IsOneToOne, IsMaskOf}
use Rattle.bitvec.specs.Parts.{part_head, part_tail}
use Rattle.bitvec.specs.Place.{words_met}
use Rattle.bitvec.proofs.IndexLemmas.{digit-mask_at}
use Rattle.bitvec.proofs.PartLemmas.{some_len, inside-from_part, part-from_inside}
use Rattle.bitvec.proofs.PlaceLemmas.{tail_of-some}

-- n has `bit` at each index of word k that is one of a list's under a head, and zero at every other
pub record IsLacking (bits : ℕ) (at : ℕ → ℕ) (head len k : ℕ) (bit : Bool) (n : ℕ) : Type 0 where
  pub below : n < 2 ^ bits
  pub inside : (i : ℕ) → i < bits → head ≤ k * bits + i → k * bits + i < head + len → digit n (at i) ≡ bit
  pub before : (i : ℕ) → i < bits → k * bits + i < head → digit n (at i) ≡ false
  pub past : (i : ℕ) → i < bits → head + len ≤ k * bits + i → digit n (at i) ≡ false

tail_within : (bits head len k : ℕ) → 0 < bits → 0 < len → part_tail bits head len k ≤ bits
tail_within bits head len k some many =
    elim (cases_eq (k + 1) (words_met bits head len)) [
      | inl e ↦ rw (eq-eqb (k + 1) (words_met bits head len) e) (omega (arith, tail_of-some bits head len many, mod_below (head + len - 1) bits some))
      | inr differ ↦ rw (ne_eqb (k + 1) (words_met bits head len) differ) (omega arith)
    ]

between : (from upto i : ℕ) → from ≤ i → i < upto → (nat_le from i && nat_lt i upto) ≡ true
between from upto i h k = rw (le-leb from i h, lt-ltb i upto k) refl

not_between : (from upto i : ℕ) → (from ≤ i → i < upto → ⊥) → (nat_le from i && nat_lt i upto) ≡ false
not_between from upto i h =
    elim (cases_lt i from) [
      | inl below ↦ (rw (lt-leb from i below) refl)
      | inr from_on ↦ elim (cases_lt i upto) [
        | inl inside ↦ absurd (h from_on inside)
        | inr past ↦ (rw (le-leb from i from_on, le-ltb i upto past) refl)
      ]
    ]

pub lacking_zeros : (bits : ℕ) (at : ℕ → ℕ) (head len k mask : ℕ)
    → IsOneToOne bits at → head < bits → k < words_met bits head len
    → IsMaskOf bits at (part_head head k) (part_tail bits head len k) mask
    → IsLacking bits at head len k true mask
lacking_zeros bits at head len k mask law in_head met masked =
    let within = tail_within bits head len k (omega arith) (some_len bits head len k met) in
    let digits : (i : ℕ) → i < bits → digit mask (at i) ≡ (nat_le (part_head head k) i && nat_lt i (part_tail bits head len k)) = λ i h. digit-mask_at bits at (part_head head k) (part_tail bits head len k) mask i law within masked h in
    record {
      below = masked.below;
      inside = λ i h from upto. let part = part-from_inside bits head len k i in_head h met from upto in digits i h ∙ between (part_head head k) (part_tail bits head len k) i part.0 part.1;
      before = λ i h out. digits i h ∙ not_between (part_head head k) (part_tail bits head len k) i (λ from upto. let r = inside-from_part bits head len k i in_head h met from upto in let f = r.0 in omega arith);
      past = λ i h out. digits i h ∙ not_between (part_head head k) (part_tail bits head len k) i (λ from upto. let r = inside-from_part bits head len k i in_head h met from upto in let f = r.1 in omega arith);
    }

-- the same of an equal truth value and an equal number
pub lacking_same : (bits : ℕ) (at : ℕ → ℕ) (head len k : ℕ) (a b : Bool) (m n : ℕ) → a ≡ b → m ≡ n → IsLacking bits at head len k b n → IsLacking bits at head len k a m
lacking_same bits at head len k a b m n d e h = subst (λ x. IsLacking bits at head len k a x) (sym e) (subst (λ x. IsLacking bits at head len k x n) (sym d) h)
