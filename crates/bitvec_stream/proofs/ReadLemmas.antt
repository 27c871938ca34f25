-- What is found in a list, said of what is left of it.
use Rattle.std.proofs.Common.{◌≡◌, ℕ, ◌+◌, ◌-◌, ◌≤◌, Bool, false, not, List, length, drop, sym, ap, ◌∙◌, arith, length-drop}
use Rattle.std.specs.Prelude.{Result, Ok, Err, MatchResult, IfOk}
use Rattle.std.proofs.lemmas.List.{get_or-drop, drop-drop}
use Rattle.bitvec.specs.Span.{element}
use Rattle.bitvec.specs.Truths.{AllAre}
use Rattle.bitvec_slice.specs.Bits.{AllBetween, IsFirstBetween, BeginsWith}

pub element-rest : (xs : List Bool) (p j : ℕ) → p ≤ j → element (drop p xs) (j - p) ≡ element xs j
element-rest xs p j h = let e : p + (j - p) ≡ j = omega (arith, h) in get_or-drop p xs (j - p) false ∙ ap (element xs) e

pub between-rest : (xs : List Bool) (p : ℕ) (bit : Bool) → AllBetween bit xs p (length xs) → AllAre bit (drop p xs)
between-rest xs p bit all j h = get_or-drop p xs j false ∙ all (p + j) (omega arith) (omega (arith, h, length-drop p xs))

pub first-rest : (xs : List Bool) (p i : ℕ) (bit : Bool) → IsFirstBetween (not bit) xs p (length xs) i → AllBetween bit xs p i → BeginsWith bit (drop p xs) (i - p)
first-rest xs p i bit first all = (
  omega (arith, first.0, first.1, length-drop p xs),
  λ j h. get_or-drop p xs j false ∙ all (p + j) (omega arith) (omega (arith, h, first.0)),
  λ h. element-rest xs p i first.0 ∙ first.2,
)

pub rest_moved : (xs : List Bool) (p n : ℕ) → drop (p + n) xs ≡ drop n (drop p xs)
rest_moved xs p n = sym (drop-drop n p xs)

-- what follows where a call is `Ok`
pub ok_from : {T E : Type 0} (P Q : Type 0) (N : E → Type 0) (r : Result T E) → MatchResult r (λ _. P) N → (P → Q) → IfOk r (λ _. Q)
ok_from P Q N (Ok v) h f = f h
ok_from P Q N (Err e) h f = tt
