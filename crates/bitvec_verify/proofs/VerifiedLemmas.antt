-- What the verifier's answer says of a list of candidates, from what is known of each in turn.
use Rattle.std.proofs.Common.{◌≡◌, ◌↔◌, ℕ, zero, suc, ◌<◌, Some, None, Result, Ok, Err, IsOk, List, [], ◌∷◌}
use Rattle.std.proofs.Common.{take, refl, sym, ap, arith}
use Rattle.std.specs.Prelude.{IfErr}
use Rattle.std.specs.List.{AllByRecursion}
use Rattle.std.proofs.lemmas.List.Elements.{All-from_recursion, recursion_from_All}
use Rattle.bitvec_verify.specs.Scan.{Candidate, Fault, IsLawful, first_fault, tests}
use Rattle.bitvec_verify.specs.Verified.{fault_at, first_faulty, Verifies}
use Rattle.bitvec_verify.specs.declared.verify.VerifyFault.{VerifyFault}
use Rattle.bitvec_verify.proofs.ScanLaws.{no_fault-from_lawful}

-- a register has a bit
abbrev pub HasBits : Candidate → Type 0
HasBits c = 0 < c.width

-- the candidate of that number has that fault first, and those before it are lawful
abbrev pub IsFirstAt : List Candidate → ℕ → Fault → Type 0
IsFirstAt [] n fault = ⊥
IsFirstAt (c ∷ cs) zero fault = first_fault c (tests c.width) ≡ Some fault
IsFirstAt (c ∷ cs) (suc n) fault = IsLawful c × IsFirstAt cs n fault

-- lawful candidates have no fault
first_faulty-none : (cs : List Candidate) → AllByRecursion HasBits cs → AllByRecursion IsLawful cs → first_faulty cs ≡ None
unfolding first_faulty
first_faulty-none [] bits law = refl
first_faulty-none (c ∷ cs) bits law = rw (no_fault-from_lawful c bits.0 law.0, first_faulty-none cs bits.1 law.1) refl

-- the fault that is the first
first_faulty-at : (cs : List Candidate) (n : ℕ) (fault : Fault) → AllByRecursion HasBits cs
    → IsFirstAt cs n fault → first_faulty cs ≡ Some (n, fault)
unfolding first_faulty
first_faulty-at [] n fault bits h = absurd h
first_faulty-at (c ∷ cs) zero fault bits h = rw h refl
first_faulty-at (c ∷ cs) (suc n) fault bits h =
    rw (no_fault-from_lawful c bits.0 h.0, first_faulty-at cs n fault bits.1 h.1) (ap (λ k. Some (k, fault)) (omega arith))

-- the candidates before it
lawful_before : (cs : List Candidate) (n : ℕ) (fault : Fault) → IsFirstAt cs n fault → AllByRecursion IsLawful (take n cs)
lawful_before [] n fault h = absurd h
lawful_before (c ∷ cs) zero fault h = tt
lawful_before (c ∷ cs) (suc n) fault h = (h.0, lawful_before cs n fault h.1)

-- the answer, from what it says of each candidate in turn
pub verifies-from_each : {T : Type 0} (cs : List Candidate) (answer : Result T VerifyFault) → AllByRecursion HasBits cs
    → IsOk answer ↔ AllByRecursion IsLawful cs → IfErr answer (λ fault. IsFirstAt cs (fault_at fault).0 (fault_at fault).1)
    → Verifies cs answer
verifies-from_each cs (Ok x) bits lawful first =
    record {
      lawful = (λ ok. All-from_recursion IsLawful cs (lawful.0 ok), λ all. lawful.1 (recursion_from_All IsLawful cs all));
      first = sym (first_faulty-none cs bits (lawful.0 refl));
      before = tt;
    }
verifies-from_each cs (Err fault) bits lawful first =
    let at : ℕ × Fault = fault_at fault in
    record {
      lawful = (λ ok. All-from_recursion IsLawful cs (lawful.0 ok), λ all. lawful.1 (recursion_from_All IsLawful cs all));
      first = sym (first_faulty-at cs at.0 at.1 bits first);
      before = All-from_recursion IsLawful (take at.0 cs) (lawful_before cs at.0 at.1 first);
    }
