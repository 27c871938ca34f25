-- Loans that are let go end as they are. Assumes `Logic`.
use Rattle.std.proofs.Common.{◌≡◌, List, [], ◌∷◌, Bool, true, false, refl, MutBor}
use Rattle.std.specs.Prelude.{T, ◌&&◌, Option, Some, None, IsNone, option_map}
use mir.Val.{Val}
use seplogic.Ra.Ura.{Ura}
use base.Logic.{ent, id⊢}
use base.Fml.{GName, Fml, feq}
use types.Logic.{Logic, sem}
use types.Kit.{‵, later, ◌$◌, ◌∵◌, !, qed, move, drop, use1, fsplit, fjoin, rewrite, await, updating, now, done}
use denote.RattleType.{RattleType}
use denote.Ref.{NamedLft}
use denote.Steps.{nothing}
use Rattle.bitvec_span.specs.contracts.lend.Pieces as P
use Rattle.bitvec_span.specs.declared.lend.Pieces.{Pieces}
use Rattle.bitvec_span.specs.Lending.{name_of, EndsAs, RestsAt, LoansRest, LoansRestIfNone}
use Rattle.bitvec_span.specs.Pieces.{names_of, piece_words}
use Rattle.bitvec_span.proofs.LoanEnds.{last_of, AllEnd, pieces_gone}

-- two tests that hold
pub both : (b c : Bool) → T b → T c → T (b && c)
both true true t u = tt
both true false t u = absurd u
both false c t u = absurd t

module _ {M : Type 1} {𝓤 : Ura M} (𝓛 : Logic 𝓤) (R : RattleType) (lft : NamedLft) where
  open 𝓛 use {H}

  abbrev Names : Type 0
  Names = Option GName × Option GName × Option GName

  abbrev Lists : Type 0
  Lists = Option (List R.Denot) × Option (List R.Denot) × Option (List R.Denot)

  -- a loan that ended as it was rests
  one_rests : (o : Option (MutBor (List R.Denot))) → ent 𝓤 (sem 𝓛 (EndsAs R (name_of o) [] (last_of o []))) (sem 𝓛 (RestsAt R (name_of o) (option_map (λ r. r.now) o)))
  one_rests (Some r) = id⊢ 𝓤 _
  one_rests None = qed 𝓛 (‵ (feq (List R.Denot) [] []) ∷ []) ∵ drop ! $ nothing ! $ done !

  -- all pieces are let go
  pieces_rest : (d : Pieces R.Denot) (vs : List Val) → ent 𝓤 (sem 𝓛 ((P.the_row lft R).own_val d vs)) (H.⇛ (sem 𝓛 (LoansRest R (names_of d) (piece_words d))))
  pieces_rest d vs =
      let Ends : Option (MutBor (List R.Denot)) → Fml = λ o. EndsAs R (name_of o) [] (last_of o []) in let Rests : Option (MutBor (List R.Denot)) → Fml = λ o. RestsAt R (name_of o) (option_map (λ r. r.now) o) in
      qed 𝓛 (‵ ((P.the_row lft R).own_val d vs) ∷ []) ∵ updating ! $ use1 𝓛 (later (‵ (AllEnd 𝓛 R (names_of d) ([], [], []) (last_of d.front [], last_of d.body [], last_of d.back [])))) (pieces_gone 𝓛 R lft d vs ([], [], [])) $ await ! tt $
      fsplit ! $ move ! (1 ∷ []) $ fsplit ! $
      -- [the body's end; the back's; the front's]
      use1 𝓛 (‵ (Rests d.body)) (one_rests d.body) $ move ! (1 ∷ []) $ use1 𝓛 (‵ (Rests d.back)) (one_rests d.back) $ move ! (1 ∷ 0 ∷ []) $ fjoin ! $ move ! (1 ∷ []) $ use1 𝓛 (‵ (Rests d.front)) (one_rests d.front) $ fjoin ! $ now ! $ done !

  -- pieces that lend what an answer did not hand out
  pub answer_rests : {A : Type 0} (answer : Option A) (names : Names) (words : Lists) (d : Pieces R.Denot) (vs : List Val)
      → (IsNone answer → names_of d ≡ names) → (IsNone answer → piece_words d ≡ words) → ent 𝓤 (sem 𝓛 ((P.the_row lft R).own_val d vs)) (H.⇛ (sem 𝓛 (LoansRestIfNone R names words answer)))
  answer_rests (Some x) names words d vs is_named lie = qed 𝓛 (‵ ((P.the_row lft R).own_val d vs) ∷ []) ∵ updating ! $ drop ! $ now ! $ nothing ! $ done !
  answer_rests None names words d vs is_named lie = qed 𝓛 (‵ ((P.the_row lft R).own_val d vs) ∷ []) ∵ updating ! $ use1 𝓛 (later (‵ (LoansRest R (names_of d) (piece_words d)))) (pieces_rest d vs) $ await ! tt $
      rewrite ! 0 (λ (n : Names). ‵ (LoansRest R n (piece_words d))) (is_named refl) refl $ rewrite ! 0 (λ (w : Lists). ‵ (LoansRest R names w)) (lie refl) refl $ now ! $ done !
