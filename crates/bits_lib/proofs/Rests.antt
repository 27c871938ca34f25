-- A constructor that may refuse its loan: what `RestsIfNone` of a slice asks. Assumes `Logic`.
use Rattle.std.proofs.Common.{◌≡◌, List, [], ◌∷◌, refl, sym, MutBor}
use Rattle.std.specs.Prelude.{Option, Some, None, OnSome, IfNone}
use mathlib.Core.Option.{none as none', some as some'}
use Rattle.std.specs.Borrow.{RestsIfNone}
use mir.Syntax.{Lifetime}
use mir.Val.{Val}
use seplogic.Ra.Ura.{Ura}
use base.Logic.{ent, emp, wand}
use base.Fml.{Fml, Lft, GName, fres, fauth, feq, fex, fsep}
use types.Logic.{Logic, sem}
use types.Kit.{‵, ◌$◌, ◌∵◌, !, qed, by, drop, use1, fsplit, fjoin, fpack, feq_i, rewrite, use0, assume, each, done}
use denote.RattleType.{RattleType}
use denote.Slice.{finally, MutSlice}
use denote.Array.{Array}
use denote.FollowSlice.{finally-res}
use denote.Follow.{follows, such_by, follows_by}
use borrow.Table.Owned.{mut_slice_Lawful}

module _ {M : Type 1} {𝓤 : Ura M} (𝓛 : Logic 𝓤) (R : RattleType) (s : MutBor (List R.Denot)) where
  open 𝓛 use {H, A as A'}

  -- a slice that is let go has its present list for its last
  pub let_go : (ℓ : Lifetime) (κ : Lft) (vs : List Val) → ent 𝓤 (sem 𝓛 ((MutSlice ℓ κ R).own_val s vs)) (H.⇛ (sem 𝓛 (finally R s.ghost_name s.now)))
  let_go ℓ κ vs = qed 𝓛 (‵ ((MutSlice ℓ κ R).own_val s vs) ∷ []) ∵ fsplit ! $ fsplit ! $ drop ! $ fjoin ! $ by ! ((mut_slice_Lawful 𝓛 ℓ κ R).drops s)

  abbrev List' : Type 0
  List' = List R.Denot

  -- nothing is lent, and the slice ends as it is
  pub rests_none : {A : Type 0} (name : A → GName) → ent 𝓤 (sem 𝓛 (finally R s.ghost_name s.now)) (sem 𝓛 (RestsIfNone (Array R 0) s name None (λ n. n ≡ s.now)))
  unfolding such_by follows_by
  rests_none {A} name =
      let none : Option A = None in let P : List' → List' → Type 0 = λ x n. OnSome none (n ≡ x) in let P₀ : List' → Type 0 = λ n. IfNone none (n ≡ s.now) in
      let code = (Array R 0).coded.code in
      qed 𝓛 (‵ (finally R s.ghost_name s.now) ∷ []) ∵ use1 𝓛 (‵ (fres s.ghost_name (code s.now))) (finally-res 𝓛 R s.ghost_name s.now) $
      fpack ! ((t : (List' → List') × List') × ((w : List') → P w (t.0 w)) × P₀ t.1) (λ t. follows_by List' List' code code s.ghost_name none' t.0.0 t.0.1) ((λ w. w, s.now), (λ w. tt), refl) $ done !

  -- the slice ends as what lies behind a reference of its own name
  same : (γ : GName) → γ ≡ s.ghost_name → ent 𝓤 (emp 𝓤) (sem 𝓛 (follows (Array R 0) (Array R 0) s.ghost_name γ (λ w. w)))
  same γ e =
      let code = (Array R 0).coded.code in let From : List' → List' → Fml = λ z w. fsep (feq List' z w) (fauth γ (code w)) in
      let said = qed 𝓛 [] ∵ each ! (λ (w : List'). wand 𝓤 (A'.res γ (code w)) (A'.res s.ghost_name (code w))) (λ w. assume ! (‵ (fres γ (code w))) $ rewrite ! 0 (λ (g : GName). ‵ (fres g (code w))) e refl $ done !) in
      let back = qed 𝓛 [] ∵ each ! (λ (z : List'). wand 𝓤 (A'.auth s.ghost_name (code z)) (sem 𝓛 (fex List' (From z)))) (λ z. assume ! (‵ (fauth s.ghost_name (code z))) $
      rewrite ! 0 (λ (g : GName). ‵ (fauth g (code z))) (sym e) refl $ feq_i ! List' z z refl $ fjoin ! $ fpack ! List' (From z) z $ done !) in
      record { apply = λ a p. (said.apply a p, back.apply a p) }

  -- the slice itself is in the value
  pub rests_some : {A : Type 0} (name : A → GName) (x : A) → name x ≡ s.ghost_name → ent 𝓤 (emp 𝓤) (sem 𝓛 (RestsIfNone (Array R 0) s name (Some x) (λ n. n ≡ s.now)))
  unfolding such_by follows_by
  rests_some {A} name x e =
      let one : Option A = Some x in let P : List' → List' → Type 0 = λ y n. OnSome one (n ≡ y) in let P₀ : List' → Type 0 = λ n. IfNone one (n ≡ s.now) in
      let code = (Array R 0).coded.code in
      qed 𝓛 [] ∵ use0 𝓛 (‵ (follows (Array R 0) (Array R 0) s.ghost_name (name x) (λ w. w))) (same (name x) e) $
      fpack ! ((t : (List' → List') × List') × ((w : List') → P w (t.0 w)) × P₀ t.1) (λ t. follows_by List' List' code code s.ghost_name (some' (name x)) t.0.0 t.0.1) ((λ w. w, s.now), (λ w. refl), tt) $ done !
