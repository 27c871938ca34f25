-- Words with another bit, and the last of some bits in the last of their words. `bits` is the width of a word, and `at`
-- takes an index to its position.
use Rattle.std.proofs.Common.{◌≡◌, ℕ, ◌+◌, ◌-◌, ◌/◌, ◌%◌, ◌^◌, ◌<◌, ◌≤◌, ◌==◌, ◌&&◌, ◌||◌, not, Bool, true, false, if◌then◌else◌, refl, sym, ap, ◌∙◌, inl, inr, arith}
use Rattle.std.proofs.lemmas.Bool.{cases_eq, cases_lt}
use Rattle.bitvec.specs.Digit.{digit}
use Rattle.bitvec.specs.Order.{IsOneToOne}
use Rattle.bitvec.specs.Place.{region_max_bits}
use Rattle.bitvec.proofs.BitLemmas.{selected, unselected}
use Rattle.bitvec.proofs.DigitLemmas.{digit-zero}
use Rattle.bitvec.proofs.PlaceLemmas.{words_met-some}
use Rattle.bitvec_vec.specs.Front.{words_for}

no_bit : (same : Bool) → (if same then false else false) ≡ false
no_bit true = refl
no_bit false = refl

put-in : (same bit w : Bool) → ((if same then false else w) || (if same then bit else false)) ≡ (if same then bit else w)
put-in true bit w = refl
put-in false bit true = refl
put-in false bit false = refl

-- the digits of a bit that was moved to the position of an index
moved-digit : (bits : ℕ) (at : ℕ → ℕ) (index j moved : ℕ) (bit : Bool) → IsOneToOne bits at → index < bits → j < bits → moved ≡ (if bit then 2 ^ at index else 0) → digit moved (at j) ≡ (if j == index then bit else false)
moved-digit bits at index j moved true law h k is =
    sym (ap (λ b. b || digit moved (at j)) (digit-zero (at j)))
    ∙ selected bits at 0 index j moved law h k is
    ∙ ap (λ b. if j == index then true else b) (digit-zero (at j))
moved-digit bits at index j moved false law h k is = ap (λ n. digit n (at j)) is ∙ digit-zero (at j) ∙ sym (no_bit (j == index))

-- a word whose digit at an index was cleared, with a bit put in there
pub replaced : (bits : ℕ) (at : ℕ → ℕ) (word selector kept moved new index j : ℕ) (bit : Bool) → IsOneToOne bits at → index < bits → j < bits → selector ≡ 2 ^ at index → moved ≡ (if bit then 2 ^ at index else 0)
    → digit kept (at j) ≡ (digit word (at j) && not (digit selector (at j))) → digit new (at j) ≡ (digit kept (at j) || digit moved (at j))
    → digit new (at j) ≡ (if j == index then bit else digit word (at j))
replaced bits at word selector kept moved new index j bit law h k is_selector is_moved is_kept is_new =
    is_new
    ∙ ap (λ b. b || digit moved (at j)) (is_kept ∙ unselected bits at word index j selector law h k is_selector)
    ∙ ap (λ b. (if j == index then false else digit word (at j)) || b) (moved-digit bits at index j moved bit law h k is_moved)
    ∙ put-in (j == index) bit (digit word (at j))

-- the last of `n` words has the last of `len + 1` bits
pub last-word : (bits len n : ℕ) → n ≡ words_for bits (len + 1) → (0 < n) × (n - 1 ≡ len / bits)
last-word bits len n is =
    let same : 0 + (len + 1) - 1 ≡ len = omega arith in
    let met = words_met-some bits 0 (len + 1) (omega arith) in
    let q : (0 + (len + 1) - 1) / bits ≡ len / bits = ap (λ m. m / bits) same in
    (omega (arith, is, met), omega (arith, is, met, q))

most-apart : (bits n len : ℕ) → bits ≡ n → ¬ (region_max_bits % n ≡ 0) → len % bits ≡ 0 → len ≤ region_max_bits → len < region_max_bits
most-apart bits n len is apart whole short =
    elim (cases_lt len region_max_bits) [
      | inl less ↦ less
      | inr past ↦ (
          let same : region_max_bits ≡ len = omega (arith, past, short) in
          absurd (apart (ap (λ m. m % n) same ∙ ap (λ m. len % m) (sym is) ∙ whole)))
    ]

-- bits that fill their words are fewer than the most
pub below-most : (bits k len : ℕ) → bits ≡ 2 ^ k → 3 ≤ k → k ≤ 7 → len % bits ≡ 0 → len ≤ region_max_bits → len < region_max_bits
below-most bits k len is least most whole short =
    elim (cases_eq k 3) [
      | inl e ↦ most-apart bits 8 len (is ∙ ap (λ n. 2 ^ n) e) (λ h. absurd (omega (arith, h))) whole short
      | inr a ↦ (elim (cases_eq k 4) [
        | inl e ↦ most-apart bits 16 len (is ∙ ap (λ n. 2 ^ n) e) (λ h. absurd (omega (arith, h))) whole short
        | inr b ↦ (elim (cases_eq k 5) [
          | inl e ↦ most-apart bits 32 len (is ∙ ap (λ n. 2 ^ n) e) (λ h. absurd (omega (arith, h))) whole short
          | inr c ↦ (elim (cases_eq k 6) [
            | inl e ↦ most-apart bits 64 len (is ∙ ap (λ n. 2 ^ n) e) (λ h. absurd (omega (arith, h))) whole short
            | inr d ↦ (
                let seven : k ≡ 7 = omega (arith, least, most, a, b, c, d) in
                most-apart bits 128 len (is ∙ ap (λ n. 2 ^ n) seven) (λ h. absurd (omega (arith, h))) whole short)
          ])
        ])
      ])
    ]
