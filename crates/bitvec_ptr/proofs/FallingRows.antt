-- Rows of words that are combined from the last word to the first: `done` of `count` are done, and the next is the word `k` of the row.
use Rattle.std.proofs.Common.{◌≡◌, ℕ, ◌+◌, ◌-◌, ◌*◌, ◌≤◌, Bool, false, List, length, refl, ap, arith}
use Rattle.std.proofs.Math.Nat.{mul-le-mul_right}
use Rattle.bitvec_ptr.specs.declared.ptr.writer.WordWriter.{WordWriter}
use Rattle.bitvec_ptr.specs.Combinations.{HasCombined}
use Rattle.bitvec_ptr.proofs.WriterJoins.{joined_falling, joined_falling_within}

pub row_falls : {X Y : Type 0} {f : Bool → Bool → Bool} {width : ℕ} {at : ℕ → ℕ} {number : X → ℕ} {source : List X} {width2 : ℕ} {at2 : ℕ → ℕ}
    {number2 : Y → ℕ} {older now newer : WordWriter Y} {done count w p : ℕ} (s first k : ℕ)
    → older.rising ≡ false → k + (done + 1) ≡ count → w ≡ width2 → p ≡ s + k * width2
    → first + count ≤ length older.words.now → s + count * width2 ≤ length source * width
    → HasCombined f width at number source (s + (count - done) * width2) width2 at2 number2 older now (first * width2 + (count - done) * width2)
    (done * width2) (first + (count - done)) done
    → HasCombined f width at number source p width2 at2 number2 now newer ((first + k) * width2 + 0) w (first + k) 1
    → HasCombined f width at number source (s + (count - (done + 1)) * width2) width2 at2 number2 older newer
    (first * width2 + (count - (done + 1)) * width2) ((done + 1) * width2) (first + (count - (done + 1))) (done + 1)
row_falls {width2 = width2} {done = done} {count = count} s first k down here same place room holds one two =
    let rest : count - (done + 1) ≡ k = omega arith in
    let before : count - done ≡ k + 1 = omega arith in
    let all = ap (λ n. n * width2) here in
    let long = mul-le-mul_right width2 room in
    rw rest
    (joined_falling down (omega (arith, all, long)) (omega (arith, all, holds)) (omega (arith, same)) (omega (arith, same)) place (omega arith) refl
    (omega (arith, same)) refl (rw before at one) two)

-- the same inside one memory
pub row_falls_within : {Y : Type 0} {f : Bool → Bool → Bool} {width : ℕ} {at : ℕ → ℕ} {number : Y → ℕ} {older now newer : WordWriter Y}
    {done count w p : ℕ} (s first k : ℕ)
    → older.rising ≡ false → k + (done + 1) ≡ count → w ≡ width → p ≡ s + k * width → first + count ≤ length older.words.now → s ≤ first * width
    → HasCombined f width at number older.words.now (s + (count - done) * width) width at number older now (first * width + (count - done) * width)
    (done * width) (first + (count - done)) done
    → HasCombined f width at number now.words.now p width at number now newer ((first + k) * width + 0) w (first + k) 1
    → HasCombined f width at number older.words.now (s + (count - (done + 1)) * width) width at number older newer
    (first * width + (count - (done + 1)) * width) ((done + 1) * width) (first + (count - (done + 1))) (done + 1)
row_falls_within {width = width} {done = done} {count = count} s first k down here same place room behind one two =
    let rest : count - (done + 1) ≡ k = omega arith in
    let before : count - done ≡ k + 1 = omega arith in
    let all = ap (λ n. n * width) here in
    let long = mul-le-mul_right width room in
    rw rest
    (joined_falling_within down (omega (arith, behind)) (omega (arith, all, long)) (omega (arith, same)) (omega (arith, same)) place (omega arith) refl
    (omega (arith, same)) refl (rw before at one) two)
