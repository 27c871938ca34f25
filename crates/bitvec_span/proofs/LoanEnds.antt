-- Three loans that lie side by side, some of which were let go. Assumes `Logic`.
use Rattle.std.proofs.Common.{◌≡◌, ℕ, List, [], ◌∷◌, ◌++◌, sym, refl, ◌∙◌, take, drop as drop_l, MutBor}
use Rattle.std.specs.Prelude.{Option, Some, None}
use mir.Syntax.{named}
use seplogic.Ra.Ura.{Ura}
use base.Logic.{ent, sep, wand, id⊢}
use mir.Val.{Val}
use base.Fml.{GName, Fml, fsep, feq, fex}
use types.Logic.{Logic, sem}
use types.Kit.{‵, later, ◌$◌, ◌∵◌, !, qed, move, drop, each, assume, use1, use2, use3, fsplit, fjoin, fpick, feq_l, feq_i, rewrite, keep, await, updating, now, done}
use denote.RattleType.{RattleType, Valss}
use denote.Ref.{NamedLft}
use denote.Struct.Declared.{shape}
use denote.Struct.Struct.{within}
use Rattle.std.specs.contracts.option.Option as OP
use Rattle.bitvec_span.specs.contracts.lend.Pieces as P
use Rattle.bitvec_span.specs.declared.lend.Pieces.{Pieces}
use Rattle.bitvec_span.proofs.LentSlices.{let_go}
use denote.Slice.{finally, MutSlice}
use denote.Array.{Array}
use denote.Follow.{both_by}
use borrow.Rule.Slice.Followed.{joined}
use Rattle.bitvec_span.specs.Lending.{LendsThree}
use Rattle.bitvec_span.specs.Lending.{KeptIf, EndsAs, LendsNamed, name_of}
use Rattle.bitvec_span.specs.Pieces.{names_of}

module _ {M : Type 1} {𝓤 : Ura M} (𝓛 : Logic 𝓤) (R : RattleType) where
  abbrev Ref : Type 0
  Ref = MutBor (List R.Denot)

  pub kept_end : (s : Ref) (r : Option Ref) (v w : List R.Denot) → s.now ≡ v → ent 𝓤 (sep 𝓤 (sem 𝓛 (KeptIf R s r)) (sem 𝓛 (EndsAs R (name_of r) v w))) (sem 𝓛 (finally R s.ghost_name w))
  kept_end s (Some x) v w e = qed 𝓛 (‵ (feq GName x.ghost_name s.ghost_name) ∷ ‵ (finally R x.ghost_name w) ∷ []) ∵ feq_l ! (λ is. rewrite ! 0 (λ (γ : GName). ‵ (finally R γ w)) is refl $ done !)
  kept_end s None v w e = qed 𝓛 (‵ (finally R s.ghost_name s.now) ∷ ‵ (feq (List R.Denot) w v) ∷ []) ∵ move ! (1 ∷ []) $ feq_l ! (λ is. rewrite ! 0 (λ (l : List R.Denot). ‵ (finally R s.ghost_name l)) (e ∙ sym is) refl $ done !)

  module _ (s f b k : Ref) (F B K : Option Ref) (i n : ℕ) (ef : f.now ≡ take i s.now) (eb : b.now ≡ take n (drop_l i s.now)) (ek : k.now ≡ drop_l n (drop_l i s.now)) where
    pub pieces_end : ent 𝓤 (sep 𝓤 (sem 𝓛 (LendsThree R s f b k)) (sep 𝓤 (sem 𝓛 (KeptIf R f F)) (sep 𝓤 (sem 𝓛 (KeptIf R b B)) (sem 𝓛 (KeptIf R k K))))) (sem 𝓛 (LendsNamed R s i n (name_of F, name_of B, name_of K)))
    unfolding both_by
    pieces_end =
        let A = Array R 0 in let Ends : List R.Denot × List R.Denot × List R.Denot → Fml = λ w. fsep (EndsAs R (name_of F) (take i s.now) w.0) (fsep (EndsAs R (name_of B) (take n (drop_l i s.now)) w.1) (EndsAs R (name_of K) (drop_l n (drop_l i s.now)) w.2)) in
        qed 𝓛 (‵ (LendsThree R s f b k) ∷ ‵ (KeptIf R f F) ∷ ‵ (KeptIf R b B) ∷ ‵ (KeptIf R k K) ∷ []) ∵
        each ! (λ (w : List R.Denot × List R.Denot × List R.Denot). wand 𝓤 (sem 𝓛 (Ends w)) (sem 𝓛 (finally R s.ghost_name (w.0 ++ (w.1 ++ w.2))))) (λ w. assume ! (‵ (Ends w)) $ fsplit ! $ move ! (1 ∷ []) $ fsplit ! $
        -- [the body's end; the back's end; the front's end; follows; kept, thrice]
        move ! (4 ∷ 2 ∷ []) $ use2 𝓛 (‵ (finally R f.ghost_name w.0)) (kept_end f F (take i s.now) w.0 ef) $
        move ! (4 ∷ 1 ∷ []) $ use2 𝓛 (‵ (finally R b.ghost_name w.1)) (kept_end b B (take n (drop_l i s.now)) w.1 eb) $
        move ! (4 ∷ 2 ∷ []) $ use2 𝓛 (‵ (finally R k.ghost_name w.2)) (kept_end k K (drop_l n (drop_l i s.now)) w.2 ek) $
        -- [the back's last list; the body's; the front's; follows]
        move ! (3 ∷ []) $ fpick ! (λ δ. fsplit ! $
        move ! (3 ∷ 2 ∷ 1 ∷ []) $ use3 𝓛 (‵ (finally R δ (w.1 ++ w.2))) (joined 𝓛 R (named 0) δ b.ghost_name k.ghost_name w.1 w.2) $
        move ! (2 ∷ 0 ∷ 1 ∷ []) $ use3 𝓛 (‵ (finally R s.ghost_name (w.0 ++ (w.1 ++ w.2)))) (joined 𝓛 R (named 0) s.ghost_name f.ghost_name δ w.0 (w.1 ++ w.2)) $ done !))

-- ---- a caller that lets go of what is left of the three loans
abbrev pub last_of : {X : Type 0} → Option (MutBor X) → X → X
last_of (Some r) v = r.now
last_of None v = v

module _ {M : Type 1} {𝓤 : Ura M} (𝓛 : Logic 𝓤) (R : RattleType) where
  open 𝓛 use {H}

  abbrev Three : Type 0
  Three = List R.Denot × List R.Denot × List R.Denot

  abbrev pub AllEnd : Option GName × Option GName × Option GName → Three → Three → Fml
  AllEnd m v w = fsep (EndsAs R m.0 v.0 w.0) (fsep (EndsAs R m.1 v.1 w.1) (EndsAs R m.2 v.2 w.2))

  module _ (lft : NamedLft) where
    abbrev Slice : RattleType
    Slice = MutSlice lft.mir lft.lft R

    gone : (o : Option (MutBor (List R.Denot))) (vs : List Val) (v : List R.Denot) → ent 𝓤 (sem 𝓛 ((OP.the_row Slice).own_val o vs)) (H.⇛ (sem 𝓛 (EndsAs R (name_of o) v (last_of o v))))
    gone (Some r) vs v = qed 𝓛 (‵ ((OP.the_row Slice).own_val (Some r) vs) ∷ []) ∵ updating ! $ fpick ! (λ us. fsplit ! $ drop ! $ fpick ! (λ vss. fsplit ! $ drop ! $ fsplit ! $
        use1 𝓛 (later (‵ (finally R r.ghost_name r.now))) (let_go 𝓛 R lft.mir lft.lft r vss.0) $ await ! tt $ now ! $ keep ! (0 ∷ []) $ done !))
    gone None vs v = qed 𝓛 (‵ ((OP.the_row Slice).own_val None vs) ∷ []) ∵ updating ! $ drop ! $ now ! $ feq_i ! (List R.Denot) v v refl $ done !

    -- the pieces are let go: each has its present list for its last
    pub pieces_gone : (d : Pieces R.Denot) (vs : List Val) (v : Three)
        → ent 𝓤 (sem 𝓛 ((P.the_row lft R).own_val d vs)) (H.⇛ (sem 𝓛 (AllEnd (names_of d) v (last_of d.front v.0, last_of d.body v.1, last_of d.back v.2))))
    pieces_gone d vs v =
        let Opt : RattleType = OP.the_row Slice in let Fld : RattleType = (OP.the_field Slice).row in let Opts : List RattleType = Fld ∷ Fld ∷ Fld ∷ [] in
        qed 𝓛 (‵ ((P.the_row lft R).own_val d vs) ∷ []) ∵ updating ! $ use1 𝓛 (‵ (fex (Valss Opts) (within (shape (P.the_type lft R)) ((P.the_type lft R).to d) vs))) (id⊢ 𝓤 _) $ fpick ! (λ us. fsplit ! $ drop ! $ fsplit ! $ move ! (1 ∷ []) $ fsplit ! $ move ! (1 ∷ []) $ fsplit ! $
        -- [the back; nothing; the body; the front]
        use1 𝓛 (‵ (Opt.own_val d.back us.1.1.0)) (id⊢ 𝓤 _) $ use1 𝓛 (later (‵ (EndsAs R (name_of d.back) v.2 (last_of d.back v.2)))) (gone d.back us.1.1.0 v.2) $ await ! tt $
        move ! (2 ∷ []) $ use1 𝓛 (‵ (Opt.own_val d.body us.1.0)) (id⊢ 𝓤 _) $ use1 𝓛 (later (‵ (EndsAs R (name_of d.body) v.1 (last_of d.body v.1)))) (gone d.body us.1.0 v.1) $ await ! tt $
        move ! (3 ∷ []) $ use1 𝓛 (‵ (Opt.own_val d.front us.0)) (id⊢ 𝓤 _) $ use1 𝓛 (later (‵ (EndsAs R (name_of d.front) v.0 (last_of d.front v.0)))) (gone d.front us.0 v.0) $ await ! tt $
        -- [the front's end; the body's; the back's; nothing]
        now ! $ move ! (1 ∷ 2 ∷ []) $ fjoin ! $ move ! (1 ∷ 0 ∷ []) $ fjoin ! $ keep ! (0 ∷ []) $ done !)
