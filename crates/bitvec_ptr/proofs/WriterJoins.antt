-- What combinations through a writer have done, one after another.
use Rattle.std.proofs.Common.{◌≡◌, ℕ, ◌+◌, ◌*◌, ◌≤◌, Bool, true, false, List, length, map, refl, sym, ap, ◌∙◌, arith}
use Rattle.std.proofs.lemmas.Bool.{false≢true}
use Rattle.bitvec_ptr.specs.declared.ptr.writer.WordWriter.{WordWriter}
use Rattle.bitvec_ptr.specs.Combinations.{HasCombined}
use Rattle.bitvec_ptr.specs.Memory.{memory_bits, list_with}
use Rattle.bitvec_ptr.proofs.CombineLemmas.{combined_none}
use Rattle.bitvec_ptr.proofs.CopyLemmas.{length-bits}
use Rattle.bitvec_ptr.proofs.ListJoins.{combined_rising_apart, combined_falling_apart, combined_rising_within, combined_falling_within}

-- a combination by other numbers that are equal
combined_as : {A : Type 0} (f : A → A → A) (source target : List A) (s s' t t' n n' : ℕ) → s ≡ s' → t ≡ t' → n ≡ n'
    → list_with f source s target t n ≡ list_with f source s' target t' n'
combined_as f source target s s' t t' n n' e e' e'' =
    ap (λ v. list_with f source v target t n) e ∙ ap (λ v. list_with f source s' target v n) e' ∙ ap (λ v. list_with f source s' target t' v) e''

-- no bit, and so no word
pub nothing_combined : {X Y : Type 0} {f : Bool → Bool → Bool} {width : ℕ} {at : ℕ → ℕ} {number : X → ℕ} {source : List X} {s width2 : ℕ}
    {at2 : ℕ → ℕ} {number2 : Y → ℕ} {writer : WordWriter Y} {t n first : ℕ}
    → 0 ≡ n → writer.mark ≡ first → HasCombined f width at number source s width2 at2 number2 writer writer t n first 0
nothing_combined
    {f = f} {width = width} {at = at} {number = number} {source = source} {s = s} {width2 = width2} {at2 = at2} {number2 = number2} {writer = writer}
    {t = t} none stands = record {
      reference = refl;
      direction = refl;
      len = refl;
      writes = omega arith;
      rising_mark = λ _. omega arith;
      falling_mark = λ _. stands;
      bits = combined_none f (memory_bits width at (map number source)) s (memory_bits width2 at2 (map number2 writer.words.now)) t
          ∙ ap (λ v. list_with f (memory_bits width at (map number source)) s (memory_bits width2 at2 (map number2 writer.words.now)) t v) none;
    }

-- the same by other numbers that are equal
pub has_combined_as : {X Y : Type 0} {f : Bool → Bool → Bool} {width : ℕ} {at : ℕ → ℕ} {number : X → ℕ} {source : List X} {width2 : ℕ} {at2 : ℕ → ℕ}
    {number2 : Y → ℕ} {older newer : WordWriter Y} {s t n first a s' t' n' first' a' : ℕ}
    → s ≡ s' → t ≡ t' → n ≡ n' → first ≡ first' → a ≡ a' → HasCombined f width at number source s width2 at2 number2 older newer t n first a
    → HasCombined f width at number source s' width2 at2 number2 older newer t' n' first' a'
has_combined_as e f g h i one = rw (e, f, g, h, i) at one

-- Two combinations, one after the other, are the one that their bits show: of a rising writer, and of a falling one.
pair_rising : {X Y : Type 0} {f : Bool → Bool → Bool} {width : ℕ} {at : ℕ → ℕ} {number : X → ℕ} {source read : List X} {width2 : ℕ} {at2 : ℕ → ℕ}
    {number2 : Y → ℕ} {older now newer : WordWriter Y} {s t n first a p q m next b count met : ℕ}
    → older.rising ≡ true → next ≡ first + a → a + b ≡ met
    → HasCombined f width at number source s width2 at2 number2 older now t n first a
    → HasCombined f width at number read p width2 at2 number2 now newer q m next b
    → memory_bits width2 at2 (map number2 newer.words.now)
    ≡ list_with f (memory_bits width at (map number source)) s (memory_bits width2 at2 (map number2 older.words.now)) t count
    → HasCombined f width at number source s width2 at2 number2 older newer t count first met
pair_rising up word words one two bits = record {
  reference = two.reference ∙ one.reference;
  direction = two.direction ∙ one.direction;
  len = two.len ∙ one.len;
  writes = omega (arith, one.writes, two.writes);
  rising_mark = λ _. let mark = two.rising_mark (one.direction ∙ up) in omega (arith, mark);
  falling_mark = λ f. absurd (false≢true (sym f ∙ up));
  bits = bits;
}

pair_falling : {X Y : Type 0} {f : Bool → Bool → Bool} {width : ℕ} {at : ℕ → ℕ} {number : X → ℕ} {source read : List X} {width2 : ℕ} {at2 : ℕ → ℕ}
    {number2 : Y → ℕ} {older now newer : WordWriter Y} {s t n first a p q m p' q' next last b count met : ℕ}
    → older.rising ≡ false → last ≡ first → a + b ≡ met
    → HasCombined f width at number source p width2 at2 number2 older now q n next a
    → HasCombined f width at number read p' width2 at2 number2 now newer q' m last b
    → memory_bits width2 at2 (map number2 newer.words.now)
    ≡ list_with f (memory_bits width at (map number source)) s (memory_bits width2 at2 (map number2 older.words.now)) t count
    → HasCombined f width at number source s width2 at2 number2 older newer t count first met
pair_falling down word words one two bits = record {
  reference = two.reference ∙ one.reference;
  direction = two.direction ∙ one.direction;
  len = two.len ∙ one.len;
  writes = omega (arith, one.writes, two.writes);
  rising_mark = λ r. absurd (false≢true (sym down ∙ r));
  falling_mark = λ _. two.falling_mark (one.direction ∙ down) ∙ word;
  bits = bits;
}

-- A combination that goes on where one ended: `p` and `q` are the places from which it reads and to which it writes, `next` is
-- its first word.
pub joined_rising : {X Y : Type 0} {f : Bool → Bool → Bool} {width : ℕ} {at : ℕ → ℕ} {number : X → ℕ} {source : List X} {width2 : ℕ} {at2 : ℕ → ℕ}
    {number2 : Y → ℕ} {older now newer : WordWriter Y} {s t n first a p q m next b count met : ℕ}
    → older.rising ≡ true → t + count ≤ length older.words.now * width2 → s + count ≤ length source * width
    → p ≡ s + n → q ≡ t + n → next ≡ first + a → n + m ≡ count → a + b ≡ met
    → HasCombined f width at number source s width2 at2 number2 older now t n first a
    → HasCombined f width at number source p width2 at2 number2 now newer q m next b
    → HasCombined f width at number source s width2 at2 number2 older newer t count first met
joined_rising {f = f} {width = width} {at = at} {number = number} {source = source} {width2 = width2} {at2 = at2} {number2 = number2} {older = older}
    {now = now} {s = s} {t = t} {n = n} {p = p} {q = q} {m = m} {count = count} up fits holds read write word all words one two =
    let from = memory_bits width at (map number source) in
    let into = memory_bits width2 at2 (map number2 older.words.now) in
    let here = memory_bits width2 at2 (map number2 now.words.now) in
    pair_rising up word words one two
    (two.bits ∙ combined_as f from here p (s + n) q (t + n) m m read write refl
    ∙ combined_rising_apart f from into here s t n m (omega (arith, length-bits width2 at2 number2 older.words.now))
    (omega (arith, length-bits width at number source)) one.bits
    ∙ combined_as f from into s s t t (n + m) count refl refl all)

-- A combination of what stands before one: `p` and `q` are the places of the one, `p'` and `q'` those of the other, `last` is
-- its first word.
pub joined_falling : {X Y : Type 0} {f : Bool → Bool → Bool} {width : ℕ} {at : ℕ → ℕ} {number : X → ℕ} {source : List X} {width2 : ℕ} {at2 : ℕ → ℕ}
    {number2 : Y → ℕ} {older now newer : WordWriter Y} {s t n first a p q m p' q' next last b count met : ℕ}
    → older.rising ≡ false → t + count ≤ length older.words.now * width2 → s + count ≤ length source * width
    → p ≡ s + m → q ≡ t + m → p' ≡ s → q' ≡ t → last ≡ first → m + n ≡ count → a + b ≡ met
    → HasCombined f width at number source p width2 at2 number2 older now q n next a
    → HasCombined f width at number source p' width2 at2 number2 now newer q' m last b
    → HasCombined f width at number source s width2 at2 number2 older newer t count first met
joined_falling {f = f} {width = width} {at = at} {number = number} {source = source} {width2 = width2} {at2 = at2} {number2 = number2} {older = older}
    {now = now} {s = s} {t = t} {n = n} {p = p} {q = q} {m = m} {p' = p'} {q' = q'} {count = count} down fits holds read write from_here to_here word
    all words one two =
    let from = memory_bits width at (map number source) in
    let into = memory_bits width2 at2 (map number2 older.words.now) in
    let here = memory_bits width2 at2 (map number2 now.words.now) in
    pair_falling down word words one two
    (two.bits ∙ combined_as f from here p' s q' t m m from_here to_here refl
    ∙ combined_falling_apart f from into here s t m n (omega (arith, length-bits width2 at2 number2 older.words.now))
    (omega (arith, length-bits width at number source)) (one.bits ∙ combined_as f from into p (s + m) q (t + m) n n read write refl)
    ∙ combined_as f from into s s t t (m + n) count refl refl all)

-- The same inside one memory.
pub joined_rising_within : {Y : Type 0} {f : Bool → Bool → Bool} {width : ℕ} {at : ℕ → ℕ} {number : Y → ℕ} {older now newer : WordWriter Y}
    {s t n first a p q m next b count met : ℕ}
    → older.rising ≡ true → t ≤ s → s + count ≤ length older.words.now * width
    → p ≡ s + n → q ≡ t + n → next ≡ first + a → n + m ≡ count → a + b ≡ met
    → HasCombined f width at number older.words.now s width at number older now t n first a
    → HasCombined f width at number now.words.now p width at number now newer q m next b
    → HasCombined f width at number older.words.now s width at number older newer t count first met
joined_rising_within {f = f} {width = width} {at = at} {number = number} {older = older} {now = now} {s = s} {t = t} {n = n} {p = p} {q = q} {m = m}
    {count = count} up down holds read write word all words one two =
    let old = memory_bits width at (map number older.words.now) in
    let here = memory_bits width at (map number now.words.now) in
    pair_rising up word words one two
    (two.bits ∙ combined_as f here here p (s + n) q (t + n) m m read write refl
    ∙ combined_rising_within f old here s t n m down (omega (arith, length-bits width at number older.words.now)) one.bits
    ∙ combined_as f old old s s t t (n + m) count refl refl all)

pub joined_falling_within : {Y : Type 0} {f : Bool → Bool → Bool} {width : ℕ} {at : ℕ → ℕ} {number : Y → ℕ} {older now newer : WordWriter Y}
    {s t n first a p q m p' q' next last b count met : ℕ}
    → older.rising ≡ false → s ≤ t → t + count ≤ length older.words.now * width
    → p ≡ s + m → q ≡ t + m → p' ≡ s → q' ≡ t → last ≡ first → m + n ≡ count → a + b ≡ met
    → HasCombined f width at number older.words.now p width at number older now q n next a
    → HasCombined f width at number now.words.now p' width at number now newer q' m last b
    → HasCombined f width at number older.words.now s width at number older newer t count first met
joined_falling_within {f = f} {width = width} {at = at} {number = number} {older = older} {now = now} {s = s} {t = t} {n = n} {p = p} {q = q} {m = m}
    {p' = p'} {q' = q'} {count = count} down up holds read write from_here to_here word all words one two =
    let old = memory_bits width at (map number older.words.now) in
    let here = memory_bits width at (map number now.words.now) in
    pair_falling down word words one two
    (two.bits ∙ combined_as f here here p' s q' t m m from_here to_here refl
    ∙ combined_falling_within f old here s t m n up (omega (arith, length-bits width at number older.words.now))
    (one.bits ∙ combined_as f old old p (s + m) q (t + m) n n read write refl)
    ∙ combined_as f old old s s t t (m + n) count refl refl all)
