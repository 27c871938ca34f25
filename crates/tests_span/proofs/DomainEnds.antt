-- The loans of a domain that was let go end as their words. Assumes `Logic`.
use Rattle.std.proofs.Common.{◌≡◌, List, [], ◌∷◌, ◌⊎◌, inl, inr, refl}
use Rattle.std.specs.Prelude.{Option, Some, None, option_map}
use mir.Syntax.{named}
use seplogic.Ra.Ura.{Ura}
use base.Logic.{ent, id⊢}
use base.Fml.{Lft, Fml}
use types.Logic.{Logic, sem}
use types.Kit.{‵, ◌$◌, ◌∵◌, !, qed, move, keep, drop, use1, fsplit, fjoin, feq_i, rewrite, done}
use denote.Exit.{Kept, Last, left, see, at}
use denote.Ref.{NamedLft}
use denote.RattleType.{RattleType}
use denote.Slice.{finally}
use Rattle.std.specs.declared.default.Default as Default
use Rattle.std.specs.declared.cmp.PartialEq as PartialEq
use Rattle.std.specs.declared.cmp.Ord as Ord
use Rattle.std.specs.declared.cmp.PartialOrd as PartialOrd
use Rattle.std.specs.declared.hash.Hash as Hash
use Rattle.std.specs.declared.fmt.Debug as Debug
use Rattle.bitvec_mem.specs.declared.mem.BitRegister as BitRegister
use Rattle.bitvec_span.specs.contracts.domain.partial_element_mut.PartialElementMut as E
use Rattle.bitvec_span.specs.contracts.domain.domain_mut.DomainMut as D
use Rattle.bitvec_span.specs.PartialElementMut.{memory_of}
use Rattle.bitvec_span.specs.Loans.{loan_words, words_of_loans}
use Rattle.bitvec_span.specs.declared.domain.domain_mut.DomainMut.TheVariants.{Enclave, Region}
use Rattle.bitvec_span.specs.DomainMut.{part_name, part_loan, loan_names, loans_of, DomainRestsIfNone}
use Rattle.bitvec_span.specs.Lending.{EndsAs, RestsAt}
use Rattle.bitvec_span.proofs.LoanEnds.{AllEnd}
use Rattle.tests_span.proofs.FilledMemoryLemmas.{end_or}

-- there is a value, or there is none
pub some_or_none : {X : Type 0} (o : Option X) → ((x : X) × (o ≡ Some x)) ⊎ (o ≡ None)
some_or_none (Some x) = inl (x, refl)
some_or_none None = inr refl

module _ {M : Type 1} {𝓤 : Ura M} (𝓛 : Logic 𝓤) (κ : Lft) (R Or : RattleType) (rb : BitRegister.Ghosts R.Denot) (rd : Default.Ghosts R.Denot)
    (rp : PartialEq.Ghosts R.Denot) (ro : Ord.Ghosts R.Denot) (rq : PartialOrd.Ghosts R.Denot) (rh : Hash.Ghosts R.Denot) (rg : Debug.Ghosts R.Denot) where
  abbrev lft : NamedLft
  lft = record { mir = named 0; lft = κ }

  abbrev Part : RattleType
  Part = E.the_row lft R Or rb rd rp ro rq rh rg

  abbrev Domain : RattleType
  Domain = D.the_row lft R Or rb rd rp ro rq rh rg

  abbrev kept : Kept
  kept = at (0 ∷ [])

  abbrev Three : Type 0
  Three = List R.Denot × List R.Denot × List R.Denot

  -- the words behind the loans of a domain, or others where nothing is lent
  abbrev pub words_or : Domain.Denot → Three → Three
  words_or domain v = let words = words_of_loans (loans_of domain) in (end_or words.0 v.0, end_or words.1 v.1, end_or words.2 v.2)

  -- each loan of a domain ends as its words
  abbrev pub AllRest : Domain.Denot → Three → Fml
  AllRest domain v = AllEnd 𝓛 R (loan_names domain) v (words_or domain v)

  abbrev words_if : Option Part.Denot → Option (List R.Denot)
  words_if part = option_map loan_words (option_map part_loan part)

  part_rests : (part : Option Part.Denot) (v : List R.Denot) → ent 𝓤 (sem 𝓛 (RestsAt R (part_name part) (words_if part))) (sem 𝓛 (EndsAs R (part_name part) v (end_or (words_if part) v)))
  part_rests (Some part) v = id⊢ 𝓤 _
  part_rests None v = qed 𝓛 (‵ (RestsAt R None None) ∷ []) ∵ drop ! $ feq_i ! (List R.Denot) v v refl $ done !

  -- a part alone has a loan before the body alone
  one_rests : (part : Part.Denot) (v : Three) → ent 𝓤 (sem 𝓛 (finally R (memory_of part).ghost_name (memory_of part).now)) (sem 𝓛 (AllRest (Enclave part) v))
  one_rests part v = qed 𝓛 (‵ (finally R (memory_of part).ghost_name (memory_of part).now) ∷ []) ∵
      feq_i ! (List R.Denot) v.2 v.2 refl $ feq_i ! (List R.Denot) v.1 v.1 refl $ fjoin ! $ move ! (1 ∷ 0 ∷ []) $ fjoin ! $ done !

  -- the loans of a domain that an answer `None` ends
  pub none_rests : (A : Type 0) (domain : Domain.Denot) (v : Three) → ent 𝓤 (sem 𝓛 (DomainRestsIfNone R {A = A} domain None)) (sem 𝓛 (AllRest domain v))
  none_rests A (Enclave part) v = qed 𝓛 (‵ (DomainRestsIfNone R {A = A} (Enclave part) None) ∷ []) ∵ fsplit ! $ keep ! (0 ∷ []) $ use1 𝓛 (‵ (AllRest (Enclave part) v)) (one_rests part v) $ done !
  none_rests A (Region head body tail) v = qed 𝓛 (‵ (DomainRestsIfNone R {A = A} (Region head body tail) None) ∷ []) ∵ fsplit ! $ move ! (1 ∷ []) $ fsplit ! $
      -- [the body; the tail; the head]
      move ! (1 ∷ []) $ use1 𝓛 (‵ (EndsAs R (part_name tail) v.2 (end_or (words_if tail) v.2))) (part_rests tail v.2) $ move ! (1 ∷ 0 ∷ []) $ fjoin ! $
      move ! (1 ∷ []) $ use1 𝓛 (‵ (EndsAs R (part_name head) v.0 (end_or (words_if head) v.0))) (part_rests head v.0) $ fjoin ! $ done !

  -- the loan of a part that was dropped
  pub dropped_rests : (part : Part.Denot) (w : Last (Part.exit kept) part) (v : Three) → (see (Part.exit kept) part w).0.now ≡ (memory_of part).now
      → ent 𝓤 (sem 𝓛 (left (Part.exit kept) part w)) (sem 𝓛 (AllRest (Enclave part) v))
  dropped_rests part w v stays = qed 𝓛 (‵ (left (Part.exit kept) part w) ∷ []) ∵ fsplit ! $ fsplit ! $ fsplit ! $ keep ! (0 ∷ []) $
      rewrite ! 0 (λ (l : List R.Denot). ‵ (finally R (memory_of part).ghost_name l)) stays refl $ use1 𝓛 (‵ (AllRest (Enclave part) v)) (one_rests part v) $ done !
