-- A `&mut [T]` that the function holds is lent in parts for a lifetime made for the call, and comes back at what they left. Assumes `Logic`.
use Rattle.std.proofs.Common.{◌≡◌, ℕ, List, [], ◌∷◌, ◌++◌, sym, refl, ap, subst, length, take, drop as drop_l, MutBor}
use Rattle.std.specs.Prelude.{Option}
use mir.Syntax.{Lifetime, erased}
use mir.Val.{Val}
use seplogic.Ra.Ura.{Ura}
use base.Logic.{SProp, ent, sep, ex, guard, wand, all_e, apply∗}
use base.Fml.{Lft, Share, GName, flft, fdead}
use types.Logic.{Logic, sem}
use types.Kit.{Item, mean, ‵, raw, ◌⊛◌, some, given, later, ◌$◌, ◌∵◌, !, qed, by, move, drop, use1, use2, use3, split, fsplit, fjoin, pick, learn, check, await, updating, now, done, show}
use denote.RattleType.{RattleType}
use denote.Slice.{finally, MutSlice, slice_val, mut_slice_at, mut_slice_vals, Room}
use denote.Shadow.{pure_i}
use denote.Ref.{at_last}
use borrow.Rule.Slice.Lend.{kept_f, sl_relend, sl_relent_backˡ}
use borrow.Table.Owned.{MutSlice as OSlice}
use Rattle.bitvec_span.specs.Lending.{LendsNamed}
use Rattle.bitvec_span.proofs.LoanEnds.{AllEnd}

-- the same reference under another name
abbrev pub named_as : {X : Type 0} → GName → MutBor X → MutBor X
named_as δ x = record { ref_ptr = x.ref_ptr; ghost_name = δ; now = x.now }

module _ {M : Type 1} {𝓤 : Ura M} (𝓛 : Logic 𝓤) (R : RattleType) where
  open 𝓛 use {H, A}

  module _ (ℓ : Lifetime) (κ : Lft) (x : MutBor (List R.Denot)) where
    -- what lies in a slice's value, and what lies beside it
    opened_slice : (vs : List Val) → ent 𝓤 (sem 𝓛 ((MutSlice ℓ κ R).own_val x vs)) (sem 𝓛 ((OSlice erased κ R).own_val x))
    opened_slice vs = qed 𝓛 (‵ ((MutSlice ℓ κ R).own_val x vs) ∷ []) ∵ fsplit ! $ fsplit ! $ drop ! $ fjoin ! $ done !

    closed_slice : (vs : List Val) → vs ≡ mut_slice_vals x → Room R (length x.now) → ent 𝓤 (sem 𝓛 ((OSlice erased κ R).own_val x)) (sem 𝓛 ((MutSlice ℓ κ R).own_val x vs))
    closed_slice vs e rm = qed 𝓛 (‵ ((OSlice erased κ R).own_val x) ∷ []) ∵ fsplit ! $ drop ! $ pure_i ! (mut_slice_at R x vs) (tt, (tt, tt)) (e, rm) $ fjoin ! $ done !

  module _ (ℓ : Lifetime) (κ : Lft) (q : Share) (α : Lft) (x : MutBor (List R.Denot)) (rm : Room R (length x.now)) where
    abbrev pub Kept : GName → Item 𝓤
    Kept δ = kept_f 𝓛 R κ q α x.ghost_name δ x.now x.ref_ptr.0 x.ref_ptr.1

    abbrev Lent : GName → SProp 𝓤
    Lent δ = sep 𝓤 (sem 𝓛 ((MutSlice ℓ α R).own_val (named_as δ x) (mut_slice_vals x))) (mean 𝓛 (Kept δ))

    -- the slice is lent for α
    pub lends_whole : ent 𝓤 (sep 𝓤 (sem 𝓛 ((MutSlice ℓ κ R).own_val x (mut_slice_vals x))) (A.lft κ q)) (H.⇛ (ex 𝓤 Lent))
    lends_whole = qed 𝓛 (‵ ((MutSlice ℓ κ R).own_val x (mut_slice_vals x)) ∷ ‵ (flft κ q) ∷ []) ∵ updating ! $
        use1 𝓛 (‵ ((OSlice erased κ R).own_val x)) (opened_slice ℓ κ x (mut_slice_vals x)) $
        use2 𝓛 (later (some (λ (δ : GName). ‵ ((OSlice erased α R).own_val (named_as δ x)) ⊛ Kept δ))) (sl_relend 𝓛 R κ q α x.ref_ptr.0 x.ref_ptr.1 x.ghost_name x.now) $ await ! tt $ pick ! (λ δ. split ! $
        use1 𝓛 (‵ ((MutSlice ℓ α R).own_val (named_as δ x) (mut_slice_vals x))) (closed_slice ℓ α (named_as δ x) (mut_slice_vals x) refl rm) $ now ! $ show ! Lent δ $ done !)

    -- α is over, and the slice is back at the last list of the one that was lent
    pub whole_back : (δ : GName) (ys : List R.Denot)
        → ent 𝓤 (sep 𝓤 (A.dead α) (sep 𝓤 (mean 𝓛 (Kept δ)) (sem 𝓛 (finally R δ ys)))) (H.⇛ (guard 𝓤 (length ys ≡ length x.now) (sep 𝓤 (sem 𝓛 ((MutSlice ℓ κ R).own_val (at_last x ys) (mut_slice_vals x))) (A.lft κ q))))
    whole_back δ ys = qed 𝓛 (‵ (fdead α) ∷ Kept δ ∷ ‵ (finally R δ ys) ∷ []) ∵ updating ! $
        use3 𝓛 (later (given (length ys ≡ length x.now) (‵ ((OSlice erased κ R).own_val (at_last x ys)) ⊛ ‵ (flft κ q)))) (sl_relent_backˡ 𝓛 R κ q α x.ref_ptr.0 x.ref_ptr.1 x.ghost_name δ x.now ys) $ await ! tt $ learn ! (λ e. split ! $
        use1 𝓛 (‵ ((MutSlice ℓ κ R).own_val (at_last x ys) (mut_slice_vals x))) (closed_slice ℓ κ (at_last x ys) (mut_slice_vals x) (ap (λ (k : ℕ). slice_val x.ref_ptr k ∷ []) (sym e)) (subst (λ (k : ℕ). Room R k) (sym e) rm)) $ now ! $ check ! e $ done !)

  abbrev Three : Type 0
  Three = List R.Denot × List R.Denot × List R.Denot

  -- the three ends give the whole
  pub whole_end : (s : MutBor (List R.Denot)) (i n : ℕ) (m : Option GName × Option GName × Option GName) (w : Three)
      → ent 𝓤 (sep 𝓤 (sem 𝓛 (LendsNamed R s i n m)) (sem 𝓛 (AllEnd 𝓛 R m (take i s.now, take n (drop_l i s.now), drop_l n (drop_l i s.now)) w)))
      (sem 𝓛 (finally R s.ghost_name (w.0 ++ (w.1 ++ w.2))))
  whole_end s i n m w =
      let v : Three = (take i s.now, take n (drop_l i s.now), drop_l n (drop_l i s.now)) in
      let Out : Three → SProp 𝓤 = λ u. sem 𝓛 (finally R s.ghost_name (u.0 ++ (u.1 ++ u.2))) in
      let Way : Three → SProp 𝓤 = λ u. wand 𝓤 (sem 𝓛 (AllEnd 𝓛 R m v u)) (Out u) in
      qed 𝓛 (‵ (LendsNamed R s i n m) ∷ ‵ (AllEnd 𝓛 R m v w) ∷ []) ∵ use1 𝓛 (raw (Way w)) (all_e 𝓤 Way w) $ move ! (1 ∷ 0 ∷ []) $ by ! (apply∗ 𝓤 (sem 𝓛 (AllEnd 𝓛 R m v w)) (Out w))
