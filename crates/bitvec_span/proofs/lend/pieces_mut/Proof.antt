-- `pieces_mut` lends three parts, those that are wanted. Assumes `Logic`.
use Rattle.std.proofs.Common.{◌≡◌, ℕ, ◌+◌, ◌^◌, ◌<◌, ◌≤◌, List, [], ◌∷◌, ◌++◌, Bool, refl, ap, ◌∙◌, subst, length, take, drop as drop_l, MutBor}
use Rattle.std.specs.Prelude.{Option, is_some, IfSome}
use Rattle.std.proofs.raw_atomic.Walks.{proved, leaves}
use mir.Syntax.{a_type, named, w64}
use mir.Val.{Val, vint, vstruct, vcons, vnil, of_list}
use mir.MapTy.{inst_fn}
use mir.Facts.{yes_and}
use base.Logic.{SProp, emp, id⊢}
use base.Fml.{Lft, Fml, ftrue, fsep, fex, flft}
use types.Kit.{‵, raw, ◌⊛◌, some, later, ◌$◌, ◌∵◌, !, qed, by, move, keep, drop, split, join, group, fsplit, fjoin, fpick, fpack, pick, use0, use1, await, feq_i, feq_l}
use types.Run.{stop, fld, hop, addr, from, of_opd, no_more, and_then, returns, enter}
use types.ByLocal.{alloc_all, pass_all, free_all, look_at, get, get_in, sets, lands_as, look_in_at}
use types.Part.{agg, sub, whole}
use contract.Running.{tables}
use contract.Monad.{fact, fact_i}
use contract.BorrowLft.{◌⊑◌}
use denote.Exit.{yes, no}
use denote.Laws.{Is, shows}
use denote.RattleType.{RattleType, Valss, owns}
use denote.Signature.{types_at, plain, mut_slice_of, named_lft}
use denote.Steps.{nothing, only, heard, owned, peeks}
use denote.Param.{param, layouts}
use denote.Param.Laws.{param_laws, of_field, is_one, row_shared}
use denote.Param.Shared.{mut_slice_shared}
use denote.Struct.Field.{row_field}
use denote.Struct.Laws.{mut_slice_laws}
use denote.Builtin.{usize, bool}
use denote.Plain.{uint_vals, uint_Tells, uint_Makes, bool_vals, bool_Tells, bool_Makes}
use denote.Slice.{MutSlice, slice_val, mut_slice_at, mut_slice_vals, mut_slice_Tells}
use denote.Triple.Spec.{triple_of}
use denote.Triple.Clauses.{Lasts, lasts}
use denote.Struct.Tuple.{Tuple, tuple_type}
use denote.Struct.Declared.{shape}
use denote.Struct.Struct.{within}
use denote.Shadow.{pure_l, pure_i}
use denote.Triple.Call.{calls_at}
use denote.Triple.Table.{framed}
use denote.Triple.Walked.{Stays, stay_dropped, walk_of, Goes-dropped, Goes-spent_slice}
use Rattle.std.specs.contracts.option.Option as OP
use Rattle.std.proofs.option.Option.TheLaws.{the_row_laws as option_laws}
use Rattle.bitvec_span.specs.Lending.{LendsThree}
use Rattle.bitvec_span.specs.Lending.{KeptIf, LendsNamed, name_of}
use Rattle.bitvec_span.proofs.LoanEnds.{pieces_end}
use Rattle.bitvec_span.specs.contracts.lend.pieces_mut as f
use Rattle.bitvec_span.specs.contracts.lend.pieces_mut.Key.{name as #self}
use Rattle.bitvec_span.specs.contracts.lend.Pieces as P
use Rattle.bitvec_span.proofs.lend.pieces_mut.Statement.{statement}
use Rattle.bitvec_span.proofs.lend.pieces_mut.Code as code
use Rattle.bitvec_span.specs.contracts.lend.split_three_mut as g
use Rattle.bitvec_span.proofs.lend.split_three_mut.Met.{met}
use Rattle.bitvec_span.specs.contracts.lend.slice_if as h
use Rattle.bitvec_span.proofs.lend.slice_if.Met.{met as met_h}

some_as : {X : Type 0} (F : Option (MutBor X)) (u v : X) → u ≡ v → IfSome F (λ (r : MutBor X). r.now ≡ u) → IfSome F (λ (r : MutBor X). r.now ≡ v)
some_as {X} F u v e = subst (λ (w : X). IfSome F (λ (r : MutBor X). r.now ≡ w)) e

pub pieces_mut_spec : {M : Type 1} → statement M
pieces_mut_spec 𝓤 𝓛 𝓜 𝓡 wired X L =
    let H = 𝓛.H in let 𝓣 = tables 𝓤 H 𝓜 𝓡 𝓡.env in let R : RattleType = param 0 X in let En = f.ended X in
    let inst = layouts (a_type ∷ []) (X, tt) in let fn = inst_fn inst code.function in
    let c = f.clauses X 𝓛 𝓜.mem 𝓡.returns in
    let flag = stay_dropped (plain (λ _. bool)) yes in
    let hs : Stays En.signature.params En.kept = (stay_dropped (mut_slice_of (0 ∷ []) tt (plain (λ _. R))) no, (stay_dropped (plain (λ _. usize)) yes, (stay_dropped (plain (λ _. usize)) yes, (flag, (flag, (flag, tt)))))) in
    let goes = Goes-dropped 𝓛 2 (plain (λ _. usize)) yes (λ κs x w. refl) in let goes_b = Goes-dropped 𝓛 2 (plain (λ _. bool)) yes (λ κs x w. refl) in
    proved 𝓛 En hs c 𝓜 𝓡 (Goes-spent_slice 𝓛 2 (0 ∷ []) tt (plain (λ _. R)), (goes, (goes, (goes_b, (goes_b, (goes_b, tt))))))
    (#self inst) fn (code.unfolded 𝓤 H 𝓜 𝓡 wired (X, tt))
    (λ κs. (mut_slice_vals, (uint_vals w64, (uint_vals w64, (bool_vals, (bool_vals, (bool_vals, tt)))))))
    (λ κs. (mut_slice_Tells (named 0) κs.0 R, (uint_Tells w64, (uint_Tells w64, (bool_Tells, (bool_Tells, (bool_Tells, tt))))))) (λ κs qs bounds a gh are.
    let κ : Lft = κs.0 in let xs : List X.Denot = a.0.now in let i : ℕ = a.1.0 in let n : ℕ = a.1.1.0 in let on0 : Bool = a.1.1.1.0 in let on1 : Bool = a.1.1.1.1.0 in let on2 : Bool = a.1.1.1.1.1.0 in
    let len : ℕ = length xs in let others : Fml = fsep (flft κs.1.0 qs.1.0) ftrue in let Slice : RattleType = MutSlice (named 0) κ R in
    let LR = param_laws 0 X L in let one = is_one R LR in let lft = named_lft 2 0 tt κs in
    let LO = option_laws Slice (of_field (row_field Slice) (mut_slice_laws lft R one) refl (mut_slice_shared lft R one (row_shared R LR))) in
    let Opt : RattleType = OP.the_row Slice in
    let y : (walk_of 𝓛 En hs c).Ghost = ((κs, qs, bounds, a, (mut_slice_vals a.0, (vint w64 i ∷ [], (vint w64 n ∷ [], (bool_vals on0, (bool_vals on1, (bool_vals on2, tt))))))), gh) in let Post : Val → SProp 𝓤 = (walk_of 𝓛 En hs c).post y in
    qed 𝓛 (((‵ (flft κ qs.0) ⊛ ‵ others) ⊛ ‵ (owns (types_at En.signature.params κs) a y.0.4)) ∷ raw (fact 𝓤 (κs.1.0 ⊑ X.lives)) ∷ raw (fact 𝓤 (i + n ≤ len)) ∷ []) ∵
    move ! (2 ∷ []) $ heard ! (i + n ≤ len) (λ le. move ! (1 ∷ []) $ heard ! (κs.1.0 ⊑ X.lives) (λ alive_in. split ! $ move ! (1 ∷ []) $ fsplit ! $ move ! (1 ∷ []) $ drop ! $
    -- [the slice; the tokens]
    let fl : len < 2 ^ 64 = are.0.0.1.0 in let fi : i < 2 ^ 64 = are.1.0.1 in let fn' : n < 2 ^ 64 = are.1.1.0.1 in
    enter ! 𝓣.C 𝓣.Λ fn (slice_val a.0.ref_ptr len ∷ vint w64 i ∷ vint w64 n ∷ bool_vals on0 ++ (bool_vals on1 ++ (bool_vals on2 ++ []))) Post $
    alloc_all ! (λ l. pass_all ! refl ((tt, (tt, (record { fits = fl }, tt))), ((tt, record { fits = fi }), ((tt, record { fits = fn' }), ((tt, tt), ((tt, tt), ((tt, tt), tt)))))) $
    sets ! (addr ! (from ! (fld ! refl (hop ! (look_in_at ! 1 (sub ! 0 refl (whole !))) (stop !))))) refl (tt, tt) $
    sets ! (agg ! (and_then ! (get ! refl) (and_then ! (get_in ! (fld ! refl (stop !)) (sub ! 1 refl (whole !))) (no_more !)))) refl (tt, (tt, (record { fits = fl }, tt))) $
    let G = triple_of 𝓛 (g.signature X) (g.spec X 𝓛 𝓜.mem 𝓡.returns) in
    let z : G.Ghost = ((κs, qs, bounds, (a.0, (i, (n, tt))), (mut_slice_vals a.0, (vint w64 i ∷ [], (vint w64 n ∷ [], tt)))), tt) in
    nothing ! $ owned ! usize _ (uint_Makes 𝓛 w64) n _ (refl, fn') $ fjoin ! $ owned ! usize _ (uint_Makes 𝓛 w64) i _ (refl, fi) $ fjoin ! $ move ! (1 ∷ 0 ∷ []) $ fjoin ! $ move ! (1 ∷ 0 ∷ []) $ join ! $
    use0 𝓛 (raw (fact 𝓤 (i + n ≤ len))) (fact_i 𝓤 _ (emp 𝓤) le) $ use0 𝓛 (raw (fact 𝓤 (κs.1.0 ⊑ X.lives))) (fact_i 𝓤 _ (emp 𝓤) alive_in) $ join ! $ move ! (1 ∷ 0 ∷ []) $ join ! $
    use1 𝓛 (raw (G.pre z)) (id⊢ 𝓤 _) $
    calls_at ! (framed 𝓤 H 𝓜 𝓣) G (met 𝓤 𝓛 𝓜 𝓡 (code.calls-bitvec_span::lend::split_three_mut 𝓡.env wired) X L) z
    (and_then ! (get ! refl) (and_then ! (get ! refl) (and_then ! (get ! refl) (no_more !)))) (λ v.
    let Three : List RattleType = Slice ∷ Slice ∷ Slice ∷ [] in
    use1 𝓛 (later (some (λ (r : MutBor (List X.Denot) × MutBor (List X.Denot) × MutBor (List X.Denot)). ((‵ (flft κ qs.0) ⊛ ‵ others) ⊛ ‵ ((Tuple Three).own_val r (v ∷ []))) ⊛ some (λ (ws : Lasts (g.ended X) κs (a.0, (i, (n, tt)))). ‵ (lasts (g.ended X) κs (a.0, (i, (n, tt))) ws)
    ⊛ ‵ (LendsThree R a.0 r.0 r.1 r.2) ⊛ raw (fact 𝓤 (r.0.now ≡ take i xs)) ⊛ raw (fact 𝓤 (r.1.now ≡ take n (drop_l i xs))) ⊛ raw (fact 𝓤 (r.2.now ≡ drop_l n (drop_l i xs))))))) (id⊢ 𝓤 _) $ await ! tt $ pick ! (λ r. split ! $ split ! $ move ! (2 ∷ []) $ pick ! (λ ws. split ! $ drop ! $
    split ! $ move ! (1 ∷ []) $ split ! $ heard ! _ (λ fa. split ! $ heard ! _ (λ fb. heard ! _ (λ fc.
    -- [follows; the tokens; the triple]
    move ! (2 ∷ []) $ use1 𝓛 (‵ (fex (Valss Three) (within (shape (tuple_type Three)) (r.0, (r.1, (r.2, tt))) (v ∷ [])))) (id⊢ 𝓤 _) $ fpick ! (λ us. fsplit ! $ feq_l ! (λ ev. fsplit ! $ move ! (1 ∷ []) $ fsplit ! $ move ! (1 ∷ []) $ fsplit ! $ move ! (1 ∷ []) $ drop ! $
    -- [the third; the second; the first; follows; the tokens]
    fsplit ! $ pure_l ! (mut_slice_at R r.2 us.1.1.0) (λ p2. move ! (1 ∷ []) $ fsplit ! $ pure_l ! (mut_slice_at R r.1 us.1.0) (λ p1. move ! (2 ∷ []) $ fsplit ! $ pure_l ! (mut_slice_at R r.0 us.0) (λ p0.
    let of : MutBor (List X.Denot) → Val = λ m. slice_val m.ref_ptr (length m.now) in
    let word : v ∷ [] ≡ vstruct (vcons (of r.0) (vcons (of r.1) (vcons (of r.2) vnil))) ∷ [] = ev ∙ (λ k. vstruct (of_list (p0.0 k ++ (p1.0 k ++ (p2.0 k ++ [])))) ∷ []) in
    let l0 : length r.0.now < 2 ^ 64 = p0.1.0 in let l1 : length r.1.now < 2 ^ 64 = p1.1.0 in let l2 : length r.2.now < 2 ^ 64 = p2.1.0 in
    pure_i ! (mut_slice_at R r.0 (mut_slice_vals r.0)) (tt, (tt, tt)) (refl, p0.1) $ fjoin ! $ move ! (1 ∷ []) $ pure_i ! (mut_slice_at R r.1 (mut_slice_vals r.1)) (tt, (tt, tt)) (refl, p1.1) $ fjoin ! $ move ! (2 ∷ []) $ pure_i ! (mut_slice_at R r.2 (mut_slice_vals r.2)) (tt, (tt, tt)) (refl, p2.1) $ fjoin ! $
    -- [the third; the second; the first; follows; the tokens]
    lands_as ! (ap only word) refl (tt, ((tt, (record { fits = l0 }, tt)), ((tt, (record { fits = l1 }, tt)), ((tt, (record { fits = l2 }, tt)), tt)))) $
    sets ! (of_opd ! (get_in ! (fld ! refl (stop !)) (sub ! 0 refl (whole !)))) refl (tt, (tt, (record { fits = l0 }, tt))) $
    sets ! (of_opd ! (get_in ! (fld ! refl (stop !)) (sub ! 1 refl (whole !)))) refl (tt, (tt, (record { fits = l1 }, tt))) $
    sets ! (of_opd ! (get_in ! (fld ! refl (stop !)) (sub ! 2 refl (whole !)))) refl (tt, (tt, (record { fits = l2 }, tt))) $
    let J = triple_of 𝓛 (h.signature X) (h.spec X 𝓛 𝓜.mem 𝓡.returns) in
    -- the front, where it is wanted
    move ! (2 ∷ 4 ∷ []) $
    sets ! (addr ! (from ! (fld ! refl (hop ! (look_in_at ! 7 (sub ! 0 refl (whole !))) (stop !))))) refl (tt, tt) $
    sets ! (agg ! (and_then ! (get ! refl) (and_then ! (get_in ! (fld ! refl (stop !)) (sub ! 1 refl (whole !))) (no_more !)))) refl (tt, (tt, (record { fits = l0 }, tt))) $
    let z0 : J.Ghost = ((κs, qs, bounds, (r.0, (on0, tt)), (mut_slice_vals r.0, (bool_vals on0, tt))), tt) in
    nothing ! $ owned ! bool _ (bool_Makes 𝓛) on0 _ refl $ fjoin ! $ move ! (1 ∷ 0 ∷ []) $ fjoin ! $ move ! (1 ∷ 0 ∷ []) $ join ! $
    nothing ! $ use0 𝓛 (raw (fact 𝓤 (κs.1.0 ⊑ X.lives))) (fact_i 𝓤 _ (emp 𝓤) alive_in) $ join ! $ move ! (1 ∷ 0 ∷ []) $ join ! $ use1 𝓛 (raw (J.pre z0)) (id⊢ 𝓤 _) $
    calls_at ! (framed 𝓤 H 𝓜 𝓣) J (met_h 𝓤 𝓛 𝓜 𝓡 (code.calls-bitvec_span::lend::slice_if 𝓡.env wired) X L) z0 (and_then ! (get ! refl) (and_then ! (get ! refl) (no_more !))) (λ v0.
    use1 𝓛 (later (some (λ (o : Opt.Denot). ((‵ (flft κ qs.0) ⊛ ‵ others) ⊛ ‵ (Opt.own_val o (v0 ∷ []))) ⊛ some (λ (ws : Lasts (h.ended X) κs (r.0, (on0, tt))). ‵ (lasts (h.ended X) κs (r.0, (on0, tt)) ws)
    ⊛ ‵ (KeptIf R r.0 o) ⊛ raw (fact 𝓤 (is_some o ≡ on0)) ⊛ raw (fact 𝓤 (IfSome o (λ (m : MutBor (List X.Denot)). m.now ≡ r.0.now))))))) (id⊢ 𝓤 _) $ await ! tt $ pick ! (λ o0. split ! $ split ! $ move ! (2 ∷ []) $ pick ! (λ ws. split ! $ drop ! $
    split ! $ move ! (1 ∷ []) $ split ! $ heard ! _ (λ is0. heard ! _ (λ has0. move ! (2 ∷ []) $ peeks ! Opt (Is Opt) (shows 𝓛 Opt) o0 (v0 ∷ []) (λ as0. let good0 = ((LO.lawful 𝓛).typed o0 (v0 ∷ []) as0).0 in lands_as ! refl refl good0 $
    -- the body, where it is wanted
    move ! (4 ∷ 2 ∷ []) $
    sets ! (addr ! (from ! (fld ! refl (hop ! (look_in_at ! 8 (sub ! 0 refl (whole !))) (stop !))))) refl (tt, tt) $
    sets ! (agg ! (and_then ! (get ! refl) (and_then ! (get_in ! (fld ! refl (stop !)) (sub ! 1 refl (whole !))) (no_more !)))) refl (tt, (tt, (record { fits = l1 }, tt))) $
    let z1 : J.Ghost = ((κs, qs, bounds, (r.1, (on1, tt)), (mut_slice_vals r.1, (bool_vals on1, tt))), tt) in
    nothing ! $ owned ! bool _ (bool_Makes 𝓛) on1 _ refl $ fjoin ! $ move ! (1 ∷ 0 ∷ []) $ fjoin ! $ move ! (1 ∷ 0 ∷ []) $ join ! $
    nothing ! $ use0 𝓛 (raw (fact 𝓤 (κs.1.0 ⊑ X.lives))) (fact_i 𝓤 _ (emp 𝓤) alive_in) $ join ! $ move ! (1 ∷ 0 ∷ []) $ join ! $ use1 𝓛 (raw (J.pre z1)) (id⊢ 𝓤 _) $
    calls_at ! (framed 𝓤 H 𝓜 𝓣) J (met_h 𝓤 𝓛 𝓜 𝓡 (code.calls-bitvec_span::lend::slice_if 𝓡.env wired) X L) z1 (and_then ! (get ! refl) (and_then ! (get ! refl) (no_more !))) (λ v1.
    use1 𝓛 (later (some (λ (o : Opt.Denot). ((‵ (flft κ qs.0) ⊛ ‵ others) ⊛ ‵ (Opt.own_val o (v1 ∷ []))) ⊛ some (λ (ws : Lasts (h.ended X) κs (r.1, (on1, tt))). ‵ (lasts (h.ended X) κs (r.1, (on1, tt)) ws)
    ⊛ ‵ (KeptIf R r.1 o) ⊛ raw (fact 𝓤 (is_some o ≡ on1)) ⊛ raw (fact 𝓤 (IfSome o (λ (m : MutBor (List X.Denot)). m.now ≡ r.1.now))))))) (id⊢ 𝓤 _) $ await ! tt $ pick ! (λ o1. split ! $ split ! $ move ! (2 ∷ []) $ pick ! (λ ws. split ! $ drop ! $
    split ! $ move ! (1 ∷ []) $ split ! $ heard ! _ (λ is1. heard ! _ (λ has1. move ! (2 ∷ []) $ peeks ! Opt (Is Opt) (shows 𝓛 Opt) o1 (v1 ∷ []) (λ as1. let good1 = ((LO.lawful 𝓛).typed o1 (v1 ∷ []) as1).0 in lands_as ! refl refl good1 $
    -- the back, where it is wanted
    move ! (5 ∷ 2 ∷ []) $
    sets ! (addr ! (from ! (fld ! refl (hop ! (look_in_at ! 9 (sub ! 0 refl (whole !))) (stop !))))) refl (tt, tt) $
    sets ! (agg ! (and_then ! (get ! refl) (and_then ! (get_in ! (fld ! refl (stop !)) (sub ! 1 refl (whole !))) (no_more !)))) refl (tt, (tt, (record { fits = l2 }, tt))) $
    let z2 : J.Ghost = ((κs, qs, bounds, (r.2, (on2, tt)), (mut_slice_vals r.2, (bool_vals on2, tt))), tt) in
    nothing ! $ owned ! bool _ (bool_Makes 𝓛) on2 _ refl $ fjoin ! $ move ! (1 ∷ 0 ∷ []) $ fjoin ! $ move ! (1 ∷ 0 ∷ []) $ join ! $
    nothing ! $ use0 𝓛 (raw (fact 𝓤 (κs.1.0 ⊑ X.lives))) (fact_i 𝓤 _ (emp 𝓤) alive_in) $ join ! $ move ! (1 ∷ 0 ∷ []) $ join ! $ use1 𝓛 (raw (J.pre z2)) (id⊢ 𝓤 _) $
    calls_at ! (framed 𝓤 H 𝓜 𝓣) J (met_h 𝓤 𝓛 𝓜 𝓡 (code.calls-bitvec_span::lend::slice_if 𝓡.env wired) X L) z2 (and_then ! (get ! refl) (and_then ! (get ! refl) (no_more !))) (λ v2.
    use1 𝓛 (later (some (λ (o : Opt.Denot). ((‵ (flft κ qs.0) ⊛ ‵ others) ⊛ ‵ (Opt.own_val o (v2 ∷ []))) ⊛ some (λ (ws : Lasts (h.ended X) κs (r.2, (on2, tt))). ‵ (lasts (h.ended X) κs (r.2, (on2, tt)) ws)
    ⊛ ‵ (KeptIf R r.2 o) ⊛ raw (fact 𝓤 (is_some o ≡ on2)) ⊛ raw (fact 𝓤 (IfSome o (λ (m : MutBor (List X.Denot)). m.now ≡ r.2.now))))))) (id⊢ 𝓤 _) $ await ! tt $ pick ! (λ o2. split ! $ split ! $ move ! (2 ∷ []) $ pick ! (λ ws. split ! $ drop ! $
    split ! $ move ! (1 ∷ []) $ split ! $ heard ! _ (λ is2. heard ! _ (λ has2. move ! (2 ∷ []) $ peeks ! Opt (Is Opt) (shows 𝓛 Opt) o2 (v2 ∷ []) (λ as2. let good2 = ((LO.lawful 𝓛).typed o2 (v2 ∷ []) as2).0 in lands_as ! refl refl good2 $
    -- [the back; its end; the tokens; the body; its end; the front; its end; follows]
    sets ! (of_opd ! (get ! refl)) refl good0 $ sets ! (of_opd ! (get ! refl)) refl good1 $ sets ! (of_opd ! (get ! refl)) refl good2 $
    sets ! (agg ! (and_then ! (get ! refl) (and_then ! (get ! refl) (and_then ! (get ! refl) (no_more !))))) refl (yes_and _ _ good0.0 (yes_and _ _ good1.0 (yes_and _ _ good2.0 tt)), (good0.1, (good1.1, (good2.1, tt)))) $
    returns ! (look_at ! 0 refl) $ free_all ! refl $
    move ! (7 ∷ 6 ∷ 4 ∷ 1 ∷ []) $ group ! 4 $ use1 𝓛 (‵ (LendsNamed R a.0 i n (name_of o0, name_of o1, name_of o2))) (pieces_end 𝓛 R a.0 r.0 r.1 r.2 o0 o1 o2 i n fa fb fc) $
    -- [what the slice ends as; the back; the tokens; the body; the front]
    let Row : RattleType = P.the_row lft R in let Fld : RattleType = (OP.the_field Slice).row in let Opts : List RattleType = Fld ∷ Fld ∷ Fld ∷ [] in let made : Row.Denot = record { front = o0; body = o1; back = o2 } in
    let out : Val = vstruct (vcons v0 (vcons v1 (vcons v2 vnil))) in
    nothing ! $ move ! (2 ∷ 0 ∷ []) $ fjoin ! $ move ! (3 ∷ 0 ∷ []) $ fjoin ! $ move ! (3 ∷ 0 ∷ []) $ fjoin ! $
    feq_i ! (List Val) (out ∷ []) (out ∷ []) refl $ fjoin ! $ fpack ! (Valss Opts) (within (shape (P.the_type lft R)) ((P.the_type lft R).to made) (out ∷ [])) (v0 ∷ [], (v1 ∷ [], (v2 ∷ [], tt))) $ use1 𝓛 (‵ (Row.own_val made (out ∷ []))) (id⊢ 𝓤 _) $
    -- [the result; what the slice ends as; the tokens]
    use0 𝓛 (raw (fact 𝓤 ((is_some o2 ≡ on2) × IfSome o2 (λ (m : MutBor (List X.Denot)). m.now ≡ drop_l n (drop_l i xs))))) (fact_i 𝓤 _ (emp 𝓤) (is2, some_as o2 r.2.now (drop_l n (drop_l i xs)) fc has2)) $
    use0 𝓛 (raw (fact 𝓤 ((is_some o1 ≡ on1) × IfSome o1 (λ (m : MutBor (List X.Denot)). m.now ≡ take n (drop_l i xs))))) (fact_i 𝓤 _ (emp 𝓤) (is1, some_as o1 r.1.now (take n (drop_l i xs)) fb has1)) $ join ! $
    use0 𝓛 (raw (fact 𝓤 ((is_some o0 ≡ on0) × IfSome o0 (λ (m : MutBor (List X.Denot)). m.now ≡ take i xs)))) (fact_i 𝓤 _ (emp 𝓤) (is0, some_as o0 r.0.now (take i xs) fa has0)) $ join ! $ move ! (2 ∷ 0 ∷ []) $ join ! $
    -- [the `ensures`; the result; the tokens]
    nothing ! $ nothing ! $ fjoin ! $ nothing ! $ fjoin ! $ nothing ! $ fjoin ! $ nothing ! $ fjoin ! $ nothing ! $ fjoin ! $ nothing ! $ fjoin ! $ keep ! (3 ∷ 0 ∷ 2 ∷ 1 ∷ []) $
    by ! (leaves 𝓛 En hs c y out made (tt, (tt, (tt, (tt, (tt, (tt, tt)))))) (tt, (tt, (tt, (tt, (tt, (tt, tt))))))))))))))))))))))))))))))))))))))))
