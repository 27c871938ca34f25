-- Calls that take bits of a stream: what is taken, and what is refused.
use Rattle.std.proofs.Common.{◌≡◌, ◌≢◌, ℕ, ◌+◌, ◌^◌, ◌<◌, ◌≤◌, Bool, true, false, List, length, refl, inl, inr, sym, ◌∙◌, subst, arith}
use Rattle.std.specs.Prelude.{not}
use Rattle.bitvec.specs.Truths.{AllAre}
use Rattle.bitvec_slice.specs.Bits.{BeginsWith}
use Rattle.bitvec_slice.specs.Signed.{FitsSignedDigits}
use Rattle.bitvec_stream.specs.Golomb.{golomb, StartsWith, IsSignedLacking}
use Rattle.bitvec_stream.specs.Refusals.{IsCodeRefusal}
use Rattle.bitvec_stream.specs.declared.error.ReadError.{ReadError}
use Rattle.bitvec_stream.specs.declared.error.ReadError.TheVariants.{TooFew, Unended, TooLarge}
use Rattle.bitvec_stream.proofs.GolombLemmas.{one_code}
use Rattle.bitvec_stream.proofs.SignedGolombLemmas.{one_signed}
use Rattle.bitvec_call.specs.Order.{order_at}
use Rattle.bitvec_call.specs.RunStatus.{IsFirstFailed}
use Rattle.bitvec_call.specs.Status.{ok}
use Rattle.bitvec_call.specs.Stream.{TakesBits, code_conditions, IsSignedPlace, read_status}

-- all conditions hold
pub taken : (conditions : List (Type 0 × ℕ)) (old new count : ℕ) (Done Kept : Type 0) → IsFirstFailed conditions ok → Done → new ≡ old + count
    → TakesBits ok conditions old new count Done Kept ok
taken conditions old new count Done Kept all done moved = record {
  status = inr (refl, all);
  done = λ _. done;
  moved = λ _. moved;
  kept = λ fails. absurd (fails refl);
  stays = λ fails. absurd (fails refl);
}

-- one of them does not
pub refused : (conditions : List (Type 0 × ℕ)) (old new count result : ℕ) (Done Kept : Type 0) → result ≢ ok → IsFirstFailed conditions result → Kept → new ≡ old
    → TakesBits ok conditions old new count Done Kept result
refused conditions old new count result Done Kept fails first kept stays = record {
  status = inr (refl, first);
  done = λ yes. absurd (fails yes);
  moved = λ yes. absurd (fails yes);
  kept = λ _. kept;
  stays = λ _. stays;
}

-- what holds under an order, of bits whose status is `ok`, holds under the code of that order
pub under_code : (Call : ℕ → (ℕ → ℕ) → Type 0) (status bits order : ℕ) (at : ℕ → ℕ) → status ≡ ok → order_at bits order ≡ at → Call ok at → Call status (order_at bits order)
under_code Call status bits order at fine is holds =
    subst (λ (it : ℕ → ℕ). Call status it) (sym is) (subst (λ (n : ℕ). Call n at) (sym fine) holds)

-- a list that begins with a code of a number that the answer can be
pub code_taken : (CanBe : ℕ → Type 0) (xs : List Bool) (n : ℕ) → CanBe n → StartsWith xs (golomb n) → IsFirstFailed (code_conditions CanBe xs) ok
code_taken CanBe xs n can starts = inr ((n, starts), inr ((n, can, starts), refl))

-- and one that a reader refuses
pub code_refused : (CanBe IsLacking : ℕ → Type 0) (xs : List Bool) (error : ReadError) → ((n : ℕ) → IsLacking n → ¬ CanBe n) → IsCodeRefusal IsLacking xs error
    → (read_status error ≢ ok) × IsFirstFailed (code_conditions CanBe xs) (read_status error)
code_refused CanBe IsLacking xs Unended apart none = (λ e. absurd (omega (arith, e)), inl ((λ it. none it.0 it.1), refl))
code_refused CanBe IsLacking xs TooLarge apart it = (
  (λ e. absurd (omega (arith, e))),
  inr ((it.0, it.2), inl ((λ can. apart it.0 it.1 (subst CanBe (one_code xs can.0 it.0 can.2 it.2) can.1)), refl)),
)
code_refused CanBe IsLacking xs TooFew apart none = absurd none

-- a number that passes 64 digits is not below their bound; so it is of signed ones
pub not_below : (n : ℕ) → 2 ^ 64 ≤ n → ¬ n < 2 ^ 64
not_below n most less = absurd (omega (arith, most, less))

pub not_signed : (n : ℕ) → IsSignedLacking 64 n → ¬ IsSignedPlace n
not_signed n lacking place = lacking.2 (subst (FitsSignedDigits 64) (one_signed place.0 lacking.0 (sym place.1 ∙ lacking.1)) place.2)

-- a run that ends is not all that is left
pub run_ends : (bit : Bool) (xs : List Bool) (count : ℕ) → count < length xs → BeginsWith bit xs count → ¬ AllAre bit xs
run_ends bit xs count within begins all = other bit (sym (all count within) ∙ begins.2 within)
  where
    other : (b : Bool) → b ≡ not b → ⊥
    other true e = cc
    other false e = cc
