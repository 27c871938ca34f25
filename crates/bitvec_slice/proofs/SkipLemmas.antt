-- Whole words that have no bit of a kind.
use Rattle.std.proofs.Common.{◌≡◌, ℕ, ◌+◌, ◌-◌, ◌*◌, ◌/◌, ◌%◌, ◌^◌, ◌<◌, ◌≤◌, ◌||◌, Bool, true, false, List, length, get_or, map, sym, ap, ◌∙◌, inl, inr, arith}
use Rattle.std.specs.Prelude.{nat_abs, slice_index}
use Rattle.std.proofs.lemmas.Bool.{cases_eq, cases_lt, cases_Bool}
use Rattle.std.proofs.lemmas.List.{get_or-map}
use Rattle.std.proofs.lemmas.Nat.{div-add-mod', mod_below, le-div}
use Rattle.std.proofs.Math.Nat.{mul-le-mul_right}
use Rattle.bitvec.specs.Digit.{digit}
use Rattle.bitvec.specs.Memory.{bit_of}
use Rattle.bitvec.specs.Order.{IsOneToOne}
use Rattle.bitvec.specs.Place.{words_met}
use Rattle.bitvec.specs.Span.{Span, list_of}
use Rattle.bitvec.proofs.DigitLemmas.{digit-zero, digit_all}
use Rattle.bitvec.proofs.MemoryLemmas.{bit_of-place}
use Rattle.bitvec.proofs.PartLemmas.{element-list_of}
use Rattle.bitvec.proofs.PlaceLemmas.{words_met-some}
use Rattle.bitvec_slice.specs.Bits.{AllBetween}
use Rattle.bitvec_slice.specs.Words.{HaveDigits}

-- a digit of a number joined with zero
pub or_zero : (w z r p : ℕ) → z ≡ 0 → digit r p ≡ (digit w p || digit z p) → digit w p ≡ digit r p
or_zero w z r p none joined =
    let off : digit z p ≡ false = ap (λ n. digit n p) none ∙ digit-zero p in
    elim (cases_Bool (digit w p)) [ inl on ↦ cc | inr out ↦ cc ]

-- every digit of the least number, and of the greatest
pub all_zero : (n p : ℕ) → n ≡ 0 → digit n p ≡ false
all_zero n p e = ap (λ m. digit m p) e ∙ digit-zero p

pub all_one : (bits n p : ℕ) → n ≡ 2 ^ bits - 1 → p < bits → digit n p ≡ true
all_one bits n p e small = ap (λ m. digit m p) e ∙ digit_all bits p small

-- a word of a memory, by its number
pub number_at : {W : Type 0} (number : W → ℕ) (words : List W) (k : ℕ) (none : W) → k < length words → number (get_or words k none) ≡ slice_index (map number words) k
number_at number words k none inside = sym (get_or-map number words k none 0 inside)

-- one word has the digits
pub word_alone : (bits number : ℕ) (words : List ℕ) (at upto : ℕ) → upto ≡ at + 1 → ((p : ℕ) → p < bits → digit (slice_index words at) p ≡ digit number p)
    → HaveDigits bits number words at upto
word_alone bits number words at upto e here w p low high small =
    let same : w ≡ at = omega (arith, e) in rw same (here p small)

-- an index from the start of a word on, and before that of another, is of a word between them
between_words : (bits n k r : ℕ) → 0 < bits → k * bits ≤ n → n < r * bits → (k ≤ n / bits) × (n / bits < r)
between_words bits n k r some low high =
    let parts = div-add-mod' n bits in
    let rest = mod_below n bits some in (
      elim (cases_lt (n / bits) k) [
        | inl less ↦ absurd (let row : (n / bits + 1) * bits ≤ k * bits = mul-le-mul_right bits (omega arith) in omega (arith, row, parts, rest, low))
        | inr most ↦ most
      ],
      elim (cases_lt (n / bits) r) [
        | inl less ↦ less
        | inr most ↦ absurd (let row : r * bits ≤ n / bits * bits = mul-le-mul_right bits (omega arith) in omega (arith, row, parts, high))
      ],
    )

-- the elements of a span from index `from` to before index `upto` lie in the words from word k to
-- before word r of those that it meets
pub record AreInWords (bits : ℕ) (span : Span) (from upto k r : ℕ) : Type 0 where
  pub begin : k * bits ≤ span.head + from
  pub end : span.head + upto ≤ r * bits
  pub inside : upto ≤ span.len

-- words that some element lies before the end of have bits
some_bits : (bits n r : ℕ) → n < r * bits → 0 < bits
some_bits bits n r less =
    elim (cases_lt 0 bits) [
      | inl some ↦ some
      | inr none ↦ (
          let e : bits ≡ 0 = omega arith in
          let zero : r * bits ≡ r * 0 = ap (λ b. r * b) e in
          absurd (omega (arith, zero, less)))
    ]

-- where every digit of whole words is `bit`, so are the elements that lie in them
pub skipped_elements : (bits : ℕ) (at : ℕ → ℕ) (span : Span) (words : List ℕ) (bit : Bool)
    (k r from upto : ℕ) → IsOneToOne bits at
    → ((w p : ℕ) → nat_abs span.word + k ≤ w → w < nat_abs span.word + r → p < bits
    → digit (slice_index words w) p ≡ bit)
    → AreInWords bits span from upto k r → AllBetween bit (list_of bits at span words) from upto
skipped_elements bits at span words bit k r from upto law all lie = λ j after before.
    let begin = lie.begin in
    let end = lie.end in
    let inside = lie.inside in
    let some = some_bits bits (span.head + j) r (omega arith) in
    let place : nat_abs span.word * bits + span.head + j ≡ nat_abs span.word * bits + (span.head + j) = omega arith in
    let within = between_words bits (span.head + j) k r some (omega arith) (omega arith) in
    let small = law.below ((span.head + j) % bits) (mod_below (span.head + j) bits some) in
    element-list_of bits at span words j (omega arith)
    ∙ ap (bit_of bits at words) place
    ∙ bit_of-place bits at words (nat_abs span.word) (span.head + j) some
    ∙ all (nat_abs span.word + (span.head + j) / bits) (at ((span.head + j) % bits))
    (omega (arith, within.0)) (omega (arith, within.1)) small

-- two stretches, one behind the other
pub all_joined : (bit : Bool) (xs : List Bool) (from mid upto : ℕ) → AllBetween bit xs from mid → AllBetween bit xs mid upto → AllBetween bit xs from upto
all_joined bit xs from mid upto first second j after before =
    elim (cases_lt j mid) [
      | inl less ↦ first j after less
      | inr most ↦ second j most before
    ]

-- words that end before some place are words that a list of that length meets
pub words_before : (bits width head index len upto : ℕ) → width ≡ bits → index ≡ head → head < bits → upto ≤ len → (index + upto) / width ≤ words_met bits head len
words_before bits width head index len upto ew ei small inside =
    let q : ℕ = (head + upto) / bits in
    let e : (index + upto) / width ≡ (head + upto) / bits = cc in
    let parts = div-add-mod' (head + upto) bits in
    let most : (head + upto) / bits ≤ words_met bits head len =
    elim (cases_eq len 0) [
      | inl none ↦ (elim (cases_lt 0 ((head + upto) / bits)) [
        | inl some ↦ absurd (let row : 1 * bits ≤ (head + upto) / bits * bits = mul-le-mul_right bits (omega arith) in omega (arith, row, parts, small, inside, none))
        | inr zero ↦ omega (arith, zero)
      ])
      | inr other ↦ (
          let met = words_met-some bits head len (omega arith) in
          let last = div-add-mod' (head + len - 1) bits in
          let rest = mod_below (head + len - 1) bits (omega arith) in
          elim (cases_lt ((head + len - 1) / bits + 1) ((head + upto) / bits)) [
            | inl more ↦ absurd (let row : ((head + len - 1) / bits + 2) * bits ≤ (head + upto) / bits * bits = mul-le-mul_right bits (omega arith) in omega (arith, row, parts, last, rest, inside, other, small))
            | inr enough ↦ omega (arith, enough, met)
          ])
    ] in
    omega (arith, e, most)

-- the elements in the words that are passed over, of which the first begins with element `from`
pub passed_bounds : (bits : ℕ) (span : Span) (index from upto k r : ℕ) → index ≡ span.head
    → k * bits ≡ index + from → k ≤ r → r ≤ (index + upto) / bits → upto ≤ span.len
    → AreInWords bits span from (r * bits - index) k r
passed_bounds bits span index from upto k r is start low high inside =
    let below : k * bits ≤ r * bits = mul-le-mul_right bits low in
    let above : r * bits ≤ (index + upto) / bits * bits = mul-le-mul_right bits high in
    let parts = div-add-mod' (index + upto) bits in
    record {
      begin = omega (arith, start, is);
      end = omega (arith, below, start, is);
      inside = omega (arith, above, parts, inside, is);
    }

-- a whole word that begins no later than a number of places is one of the words up to another that ends there
pub ends_behind : (bits n r : ℕ) → 0 < bits → n ≤ r * bits → (n + (bits - 1)) / bits ≤ r
ends_behind bits n r some within =
    elim (cases_lt r ((n + (bits - 1)) / bits)) [
      | inl more ↦ absurd (let row : (r + 1) * bits ≤ (n + (bits - 1)) / bits * bits = mul-le-mul_right bits (omega arith) in omega (arith, row, div-add-mod' (n + (bits - 1)) bits, within))
      | inr enough ↦ enough
    ]

-- the first word that begins no earlier than a number of places does so
pub begins_behind : (bits n k : ℕ) → 0 < bits → (n + (bits - 1)) / bits ≤ k → n ≤ k * bits
begins_behind bits n k some low =
    let row : (n + (bits - 1)) / bits * bits ≤ k * bits = mul-le-mul_right bits low in
    omega (arith, row, div-add-mod' (n + (bits - 1)) bits, mod_below (n + (bits - 1)) bits some)

-- the elements in the words that are passed over from behind, of which the last ends before element `upto`
pub passed_back_bounds : (bits : ℕ) (span : Span) (index upto k r : ℕ) → index ≡ span.head → r * bits ≡ index + upto → upto ≤ span.len → AreInWords bits span (k * bits - index) upto k r
passed_back_bounds bits span index upto k r is whole inside = record {
  begin = omega (arith, is);
  end = omega (arith, whole, is);
  inside = inside;
}

-- a word that begins before the end of the elements is met
pub met_before : (bits head len k : ℕ) → 0 < bits → 0 < len → k * bits < head + len → k < words_met bits head len
met_before bits head len k some long less =
    let count = words_met-some bits head len long in
    let last = le-div k (head + len - 1) bits some (omega arith) in
    omega (arith, count, last)

-- word k lies whole before element `upto`, behind word `word`
pub record LiesBetween (bits head len word upto k : ℕ) : Type 0 where
  pub row : word * bits + bits ≤ k * bits
  pub whole : k * bits + bits ≤ head + upto
  pub met : k < words_met bits head len

-- a word behind another and before the one in which the elements end
pub between_word : (bits width head index len word upto k : ℕ) → width ≡ bits → index ≡ head → head < bits → upto ≤ len → word + 1 ≤ k → k < (index + upto) / width
    → LiesBetween bits head len word upto k
between_word bits width head index len word upto k ew ei small inside later less =
    let row = mul-le-mul_right bits later in
    let next : (k + 1) * width ≤ (index + upto) / width * width = mul-le-mul_right width (omega (arith, less)) in
    let parts = div-add-mod' (index + upto) width in
    let same : (k + 1) * width ≡ (k + 1) * bits = ap (λ b. (k + 1) * b) ew in
    let whole : k * bits + bits ≤ head + upto = omega (arith, next, parts, same, ei) in
    record {
      row = omega (arith, row);
      whole = whole;
      met = met_before bits head len k (omega arith) (omega (arith, whole)) (omega (arith, whole));
    }
