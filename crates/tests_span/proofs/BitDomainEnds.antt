-- The loans of a domain of bits that was let go end as their words. Assumes `Logic`.
use Rattle.std.proofs.Common.{◌≡◌, Bool, true, false, List, [], ◌∷◌, refl}
use Rattle.std.specs.Prelude.{None}
use mir.Syntax.{named}
use seplogic.Ra.Ura.{Ura}
use base.Logic.{ent}
use base.Fml.{Lft, Fml}
use types.Logic.{Logic, sem}
use types.Kit.{‵, ◌$◌, ◌∵◌, !, qed, move, keep, drop, use1, fsplit, fjoin, feq_i, rewrite, done}
use denote.Exit.{Kept, Last, left, see, at}
use denote.Ref.{NamedLft}
use denote.RattleType.{RattleType}
use denote.Slice.{finally}
use Rattle.std.specs.declared.default.Default as Default
use Rattle.std.specs.declared.cmp.PartialEq as PartialEq
use Rattle.std.specs.declared.cmp.Ord as Ord
use Rattle.std.specs.declared.cmp.PartialOrd as PartialOrd
use Rattle.std.specs.declared.hash.Hash as Hash
use Rattle.std.specs.declared.fmt.Debug as Debug
use Rattle.bitvec_mem.specs.declared.mem.BitRegister as BitRegister
use Rattle.bitvec_span.specs.contracts.domain.bit_words_mut.BitWordsMut as W
use Rattle.bitvec_span.specs.contracts.domain.bit_domain_mut.BitDomainMut as B
use Rattle.bitvec_span.specs.BitWordsMut.{words_memory}
use Rattle.bitvec_span.specs.BitDomainMut.{bit_loan_names, bit_loans_of, BitDomainRestsIfNone}
use Rattle.bitvec_span.specs.declared.domain.bit_domain_mut.BitDomainMut.TheVariants.{Enclave, Region}
use Rattle.bitvec_span.specs.BitLoans.{names_if}
use Rattle.bitvec_span.proofs.LoanEnds.{AllEnd}
use Rattle.tests_span.proofs.LentBitLemmas.{ends_or}

module _ {M : Type 1} {𝓤 : Ura M} (𝓛 : Logic 𝓤) (κ : Lft) (R Or : RattleType) (rb : BitRegister.Ghosts R.Denot) (rd : Default.Ghosts R.Denot)
    (rp : PartialEq.Ghosts R.Denot) (ro : Ord.Ghosts R.Denot) (rq : PartialOrd.Ghosts R.Denot) (rh : Hash.Ghosts R.Denot) (rg : Debug.Ghosts R.Denot) where
  abbrev lft : NamedLft
  lft = record { mir = named 0; lft = κ }

  abbrev Stretches : RattleType
  Stretches = W.the_row lft R Or rb rd rp ro rq rh rg

  abbrev Domain : RattleType
  Domain = B.the_row lft R Or rb rd rp ro rq rh rg

  abbrev kept : Kept
  kept = at (0 ∷ [])

  abbrev Three : Type 0
  Three = List R.Denot × List R.Denot × List R.Denot

  -- each loan of a domain ends as its words, where the loans of an absent head and of an absent tail are nothing's
  abbrev pub AllRest : Bool → Bool → Domain.Denot → Three → Fml
  AllRest head tail domain v = AllEnd 𝓛 R (names_if head tail (bit_loan_names domain)) v (ends_or head tail (bit_loans_of domain) v)

  -- one stretch alone has a loan before the body alone
  one_rests : (head tail : Bool) (stretch : Stretches.Denot) (v : Three) → ent 𝓤 (sem 𝓛 (finally R (words_memory stretch).ghost_name (words_memory stretch).now)) (sem 𝓛 (AllRest head tail (Enclave stretch) v))
  one_rests head tail stretch v = qed 𝓛 (‵ (finally R (words_memory stretch).ghost_name (words_memory stretch).now) ∷ []) ∵
      feq_i ! (List R.Denot) v.2 v.2 refl $ feq_i ! (List R.Denot) v.1 v.1 refl $ fjoin ! $ move ! (1 ∷ 0 ∷ []) $ fjoin ! $ done !

  -- the loans of a domain that an answer `None` ends
  pub none_rests : (head tail : Bool) (A : Type 0) (domain : Domain.Denot) (v : Three) → ent 𝓤 (sem 𝓛 (BitDomainRestsIfNone R {A = A} domain None)) (sem 𝓛 (AllRest head tail domain v))
  none_rests head tail A (Enclave stretch) v = qed 𝓛 (‵ (BitDomainRestsIfNone R {A = A} (Enclave stretch) None) ∷ []) ∵ fsplit ! $ keep ! (0 ∷ []) $ use1 𝓛 (‵ (AllRest head tail (Enclave stretch) v)) (one_rests head tail stretch v) $ done !
  none_rests true true A (Region first body last) v = qed 𝓛 (‵ (BitDomainRestsIfNone R {A = A} (Region first body last) None) ∷ []) ∵ done !
  none_rests true false A (Region first body last) v = qed 𝓛 (‵ (BitDomainRestsIfNone R {A = A} (Region first body last) None) ∷ []) ∵ fsplit ! $ move ! (1 ∷ []) $ fsplit ! $
      -- [the body; the tail; the head]
      move ! (1 ∷ []) $ drop ! $ feq_i ! (List R.Denot) v.2 v.2 refl $ move ! (1 ∷ 0 ∷ []) $ fjoin ! $ move ! (1 ∷ 0 ∷ []) $ fjoin ! $ done !
  none_rests false true A (Region first body last) v = qed 𝓛 (‵ (BitDomainRestsIfNone R {A = A} (Region first body last) None) ∷ []) ∵ fsplit ! $ drop ! $
      feq_i ! (List R.Denot) v.0 v.0 refl $ fjoin ! $ done !
  none_rests false false A (Region first body last) v = qed 𝓛 (‵ (BitDomainRestsIfNone R {A = A} (Region first body last) None) ∷ []) ∵ fsplit ! $ drop ! $ fsplit ! $
      -- [the body; the tail]
      move ! (1 ∷ []) $ drop ! $ feq_i ! (List R.Denot) v.2 v.2 refl $ move ! (1 ∷ 0 ∷ []) $ fjoin ! $ feq_i ! (List R.Denot) v.0 v.0 refl $ fjoin ! $ done !

  -- the loan of a stretch that was dropped
  pub dropped_rests : (head tail : Bool) (stretch : Stretches.Denot) (w : Last (Stretches.exit kept) stretch) (v : Three) → (see (Stretches.exit kept) stretch w).0.now ≡ (words_memory stretch).now
      → ent 𝓤 (sem 𝓛 (left (Stretches.exit kept) stretch w)) (sem 𝓛 (AllRest head tail (Enclave stretch) v))
  dropped_rests head tail stretch w v stays = qed 𝓛 (‵ (left (Stretches.exit kept) stretch w) ∷ []) ∵ fsplit ! $ fsplit ! $ fsplit ! $ keep ! (0 ∷ []) $
      rewrite ! 0 (λ (l : List R.Denot). ‵ (finally R (words_memory stretch).ghost_name l)) stays refl $ use1 𝓛 (‵ (AllRest head tail (Enclave stretch) v)) (one_rests head tail stretch v) $ done !
