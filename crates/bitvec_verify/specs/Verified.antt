-- What the verifier returns, in the terms of the scan.
use Rattle.std.specs.Prelude.{◌≡◌, ◌↔◌, ℕ, ◌+◌, Option, Some, None, Result, Ok, Err, IsOk, IfErr, List, [], ◌∷◌, take, All}
use Rattle.std.specs.Option.{option_map, option_or}
use Rattle.std.specs.Result.{result_err}
use Rattle.bitvec_verify.specs.Scan.{Candidate, Members, candidates, Fault, wrong_selector, repeated, wrong_mask, IsLawful, first_fault, tests}
use Rattle.bitvec_verify.specs.declared.verify.OrderFault.{OrderFault}
use Rattle.bitvec_verify.specs.declared.verify.OrderFault.TheVariants.{Select, Repeated, Mask}
use Rattle.bitvec_verify.specs.declared.verify.VerifyFault.{VerifyFault}
use Rattle.bitvec_verify.specs.declared.verify.VerifyFault.TheVariants.{U8, U16, U32, Usize, U64, U128}

-- the fault as numbers
abbrev pub numbers_of : {R : Type 0} → OrderFault R → Fault
numbers_of (Select index got want) = wrong_selector index got want
numbers_of (Repeated index position) = repeated index position
numbers_of (Mask from upto got want) = wrong_mask from upto got want

-- the fault that an answer holds, if any
abbrev pub fault_in : {R T : Type 0} → Result T (OrderFault R) → Option Fault
fault_in (Ok _) = None
fault_in (Err fault) = Some (numbers_of fault)

-- the number of an error's register in the order of the scan, from 0, and its fault
abbrev pub fault_at : VerifyFault → ℕ × Fault
fault_at (U8 fault) = (0, numbers_of fault)
fault_at (U16 fault) = (1, numbers_of fault)
fault_at (U32 fault) = (2, numbers_of fault)
fault_at (Usize fault) = (3, numbers_of fault)
fault_at (U64 fault) = (4, numbers_of fault)
fault_at (U128 fault) = (5, numbers_of fault)

-- the index and the fault of the first candidate of a list that has one
unfoldable pub first_faulty : List Candidate → Option (ℕ × Fault)
first_faulty [] = None
first_faulty (c ∷ cs) =
    option_or (option_map (λ fault. (0, fault)) (first_fault c (tests c.width))) (option_map (λ later. (later.0 + 1, later.1)) (first_faulty cs))

-- the answer is `Ok` exactly where each candidate is lawful, an error is the first fault, and the candidates before it are lawful
pub record Verifies {T : Type 0} (cs : List Candidate) (answer : Result T VerifyFault) : Type 0 where
  pub lawful : IsOk answer ↔ All IsLawful cs
  pub first : option_map fault_at (result_err answer) ≡ first_faulty cs
  pub before : IfErr answer (λ fault. All IsLawful (take (fault_at fault).0 cs))

-- the same of a type's candidates at `u8`, `u16`, `u32`, `usize`, `u64` and `u128`, in that order, by what its impls say
abbrev pub VerifiesEach : {T : Type 0} → (u8 u16 u32 usize u64 u128 : Members) → Result T VerifyFault → Type 0
VerifiesEach u8 u16 u32 usize u64 u128 answer =
    Verifies (candidates u8 u16 u32 usize u64 u128) answer
