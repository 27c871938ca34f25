-- `new` asks whether the spans may be parts of the memory; then the slice goes into the value, or is let go. Assumes `Logic`.
use Rattle.std.proofs.Common.{◌≡◌, ap, ℕ, ◌^◌, ◌<◌, List, [], ◌∷◌, Bool, true, false, refl, subst, lit<, length, map, MutBor}
use Rattle.std.proofs.raw_atomic.Walks.{proved, leaves}
use Rattle.std.proofs.VecSteps.Shapes.{after}
use Rattle.std.specs.Prelude.{T, not, ◌&&◌, Some, None, Option, IsSome, IfSome, IsTrue, ◌↔◌}
use Rattle.std.specs.Borrow.{RestsIfNone, Array}
use mir.Syntax.{dcons, dnil, a_type, a_number, named, w64}
use mir.Val.{Val, of_list}
use mir.MapTy.{inst_fn}
use base.Logic.{SProp, emp, id⊢}
use base.Fml.{Lft, Fml, GName, ftrue, fsep, flft}
use types.Kit.{‵, raw, ◌⊛◌, some, later, at_ret, ◌$◌, ◌∵◌, !, qed, by, move, keep, drop, split, join, fsplit, fjoin, pick, use0, use1, await}
use types.Run.{lit, stop, fld, hop, addr, from, of_opd, no_more, and_then, first, branches, exec, returns, enter}
use types.ByLocal.{alloc_all, pass_all, free_all, look_at, get, get_in, sets, sets_last, lands_as, look_in_at, env}
use types.Part.{agg, sub, whole}
use types.Match.{live}
use contract.Running.{tables}
use contract.Monad.{fact, fact_i}
use contract.BorrowLft.{◌⊑◌}
use contract.Lifetimes.{Lfts, Shares}
use prog.Memory.{size}
use denote.Exit.{no}
use denote.Laws.{Is, shows}
use denote.RattleType.{RattleType, owns}
use denote.Shadow.{makes_shadow}
use denote.Signature.{types_at, plain, mut_slice_of, named_lft}
use denote.Steps.{nothing, only, heard, owned, peeks}
use denote.Param.{param, copied, number, bounded, layout, ArrayAt}
use denote.Param.Laws.{Told, param_laws, copied_laws, array_at_laws, number_array_told}
use denote.Param.Plain.{IsPlain, number_array_plain}
use denote.Builtin.{bool, usize}
use denote.Plain.{uint_vals, uint_Makes}
use denote.Slice.{finally, slice_val, mut_slice_vals, mut_slice_Tells}
use denote.Triple.Spec.{triple_of}
use denote.Triple.Clauses.{Lasts, lasts}
use denote.Triple.Call.{calls_at}
use denote.Triple.Table.{framed}
use denote.Triple.Walked.{Stays, stay_dropped, walk_of, Goes-dropped, Goes-spent_slice}
use Rattle.std.specs.contracts.option.Option as OP
use Rattle.std.below.core.proofs.option.Made.{Some-of, none_of}
use Rattle.bitvec.specs.BitSpan.{span_of}
use Rattle.bitvec.specs.Run.{CanRun}
use Rattle.bits_lib.specs.View.{view_memory, part_spans}
use Rattle.bits_lib.proofs.Rests.{let_go, rests_none, rests_some}
use Rattle.bitvec.specs.contracts.ptr.span.BitSpan as S
use Rattle.bitvec.below.bitvec_span.proofs.ptr.span.BitSpan.TheLaws.{the_told as span_told, the_row_laws as span_laws, the_row_plain as span_plain}
use Rattle.bits_lib.specs.contracts.view.Parts as P
use Rattle.bits_lib.proofs.view.Parts.TheLaws.{the_row_laws as parts_laws}
use Rattle.bits_lib.specs.contracts.view.Parts.new as f
use Rattle.bits_lib.specs.contracts.view.Parts.new.Key.{name as #self}
use Rattle.bits_lib.proofs.view.Parts.new.Statement.{statement}
use Rattle.bits_lib.proofs.view.Parts.new.Code as code
use Rattle.bits_lib.specs.contracts.view.accepts as g
use Rattle.bits_lib.proofs.view.accepts.Met.{met}
use Rattle.bits_lib.specs.contracts.view.Parts.new_unchecked as h
use Rattle.bits_lib.proofs.view.Parts.new_unchecked.Met.{met as met_h}

beside : (b : Bool) → T b → T (b && true)
beside true t = tt
beside false t = absurd t

is_true : (b : Bool) → T b → IsTrue b
is_true true t = refl
is_true false t = absurd t

pub new_spec : {M : Type 1} → statement M
new_spec 𝓤 𝓛 𝓜 𝓡 wired X O n L LO fits_n copy rb rbd rc rcd rd rdd re red rp rpd ro rod rq rqd rh rhd rg rgd obo obod ooc oocd oba obad m1 m2 m3 m4 m5 m6 m7 m8 m9 m10 m11 m12 =
    let H = 𝓛.H in let 𝓣 = tables 𝓤 H 𝓜 𝓡 𝓡.env in let R : RattleType = copied 0 X in let Or : RattleType = param 1 O in let N : RattleType = param 2 (number n) in
    let En = f.ended X O (number n) rb rbd rc rcd rd rdd re red rp rpd ro rod rq rqd rh rhd rg rgd obo obod ooc oocd oba obad in
    let inst = bounded (a_type ∷ a_type ∷ a_number ∷ []) (X, (O, (number n, tt))) (dcons rbd (dcons rcd (dcons rdd (dcons red (dcons rpd (dcons rod (dcons rqd (dcons rhd (dcons rgd (dcons obod (dcons oocd (dcons obad dnil)))))))))))) in let fn = inst_fn inst code.function in
    let c = f.clauses X O (number n) rb rbd rc rcd rd rdd re red rp rpd ro rod rq rqd rh rhd rg rgd obo obod ooc oocd oba obad 𝓛 𝓜.mem 𝓡.returns in
    let LR = copied_laws 0 X L in let LOr = param_laws 1 O LO in
    let One : RattleType = S.the_row R Or rb rd rp ro rq rh rg in let Spans : RattleType = ArrayAt One N in
    let told : Told Spans = number_array_told One (span_told R Or rb rd rp ro rq rh rg LR LOr) N in
    let own_facts : IsPlain Spans = number_array_plain One (span_plain R Or rb rd rp ro rq rh rg) N in
    let hs : Stays En.signature.params En.kept = (stay_dropped (mut_slice_of (0 ∷ []) tt (plain (λ _. R))) no, (stay_dropped (plain (λ _. Spans)) no, tt)) in
    proved 𝓛 En hs c 𝓜 𝓡 (Goes-spent_slice 𝓛 4 (0 ∷ []) tt (plain (λ _. R)), (Goes-dropped 𝓛 4 (plain (λ _. Spans)) no (λ κs x w. refl), tt))
    (#self inst) fn (code.unfolded 𝓤 H 𝓜 𝓡 wired (X, (O, (number n, tt))) rbd rcd rdd red rpd rod rqd rhd rgd obod oocd obad)
    (λ κs. (mut_slice_vals, ((λ x. told.val x ∷ []), tt)))
    (λ κs. (mut_slice_Tells (named 0) κs.0 R, (told.tells, tt))) (λ κs qs bounds a gh are.
    let κ : Lft = κs.0 in let m : MutBor (List X.Denot) = a.0 in let xs : List X.Denot = m.now in let spans = a.1.0 in let sv : Val = told.val spans in
    let len : ℕ = length xs in let others : Fml = fsep (flft κs.1.0 qs.1.0) (fsep (flft κs.1.1.0 qs.1.1.0) (fsep (flft κs.1.1.1.0 qs.1.1.1.0) ftrue)) in
    let lft = named_lft 4 0 tt κs in
    let Row : RattleType = P.the_row lft R Or N rb rd rp ro rq rh rg ooc oba in let LP = parts_laws lft R Or N rb rd rp ro rq rh rg ooc oba LR LOr refl in
    let y : (walk_of 𝓛 En hs c).Ghost = ((κs, qs, bounds, a, (mut_slice_vals m, (sv ∷ [], tt))), gh) in let Post : Val → SProp 𝓤 = (walk_of 𝓛 En hs c).post y in
    let name : Row.Denot → GName = λ x. (view_memory x).ghost_name in
    let Rests : Option Row.Denot → Fml = λ r. RestsIfNone (Array R 0) m name r (λ words. words ≡ xs) in
    let Can : Type 0 = CanRun rb.BITS span_of spans len in let Small : RattleType → Type 0 = λ Z. size (layout Z) < 2 ^ 63 in
    qed 𝓛 (((‵ (flft κ qs.0) ⊛ ‵ others) ⊛ ‵ (owns (types_at En.signature.params κs) a y.0.4)) ∷ raw (fact 𝓤 (κs.1.0 ⊑ X.lives)) ∷ raw (fact 𝓤 (κs.1.1.0 ⊑ O.lives)) ∷ raw (fact 𝓤 (κs.1.1.1.0 ⊑ [])) ∷ raw (fact 𝓤 (Small Spans)) ∷ raw (fact 𝓤 (Small Row)) ∷ ‵ ftrue ∷ []) ∵
    move ! (1 ∷ []) $ heard ! (κs.1.0 ⊑ X.lives) (λ alive_r. move ! (1 ∷ []) $ heard ! (κs.1.1.0 ⊑ O.lives) (λ alive_o. move ! (1 ∷ []) $ heard ! (κs.1.1.1.0 ⊑ []) (λ alive_n.
    move ! (1 ∷ []) $ heard ! (Small Spans) (λ small_spans. move ! (1 ∷ []) $ heard ! (Small Row) (λ small_row.
    move ! (1 ∷ []) $ drop ! $ split ! $ move ! (1 ∷ []) $ fsplit ! $ move ! (1 ∷ []) $ drop ! $
    -- [the slice; the tokens]
    let fl : len < 2 ^ 64 = are.0.0.1.0 in let is_spans : Is Spans spans (sv ∷ []) = are.1.0 in let good_s = (((array_at_laws 2 One (span_laws R Or rb rd rp ro rq rh rg LR LOr) n).lawful 𝓛).typed spans (sv ∷ []) is_spans).0 in
    let mk = λ (zs : Spans.Denot) (vs : List Val) (is : Is Spans zs vs). makes_shadow 𝓛 (Spans.own_val zs vs) (own_facts zs vs) is in
    enter ! 𝓣.C 𝓣.Λ fn (slice_val m.ref_ptr len ∷ sv ∷ []) Post $
    alloc_all ! (λ l. pass_all ! refl ((tt, (tt, (record { fits = fl }, tt))), (good_s, tt)) $
    sets ! (of_opd ! (get_in ! (fld ! refl (stop !)) (sub ! 1 refl (whole !)))) refl (tt, record { fits = fl }) $
    -- accepts
    let κs3 : Lfts 3 = κs.1 in let qs3 : Shares 3 = qs.1 in
    let G = triple_of 𝓛 (g.signature X O (number n) rb rbd rc rcd rd rdd re red rp rpd ro rod rq rqd rh rhd rg rgd) (g.spec X O (number n) rb rbd rc rcd rd rdd re red rp rpd ro rod rq rqd rh rhd rg rgd 𝓛 𝓜.mem 𝓡.returns) in
    let z : G.Ghost = ((κs3, qs3, tt, (spans, (len, tt)), (sv ∷ [], (uint_vals w64 len, tt))), tt) in
    move ! (1 ∷ []) $ split ! $ move ! (1 ∷ []) $
    -- [the other tokens; the token of κ; the slice]
    nothing ! $ owned ! usize _ (uint_Makes 𝓛 w64) len _ (refl, fl) $ fjoin ! $ owned ! Spans _ mk spans _ is_spans $ fjoin ! $ move ! (1 ∷ 0 ∷ []) $ join ! $
    nothing ! $ use0 𝓛 (raw (fact 𝓤 (Small Spans))) (fact_i 𝓤 _ (emp 𝓤) small_spans) $ join ! $ use0 𝓛 (raw (fact 𝓤 (κs.1.1.1.0 ⊑ []))) (fact_i 𝓤 _ (emp 𝓤) alive_n) $ join ! $
    use0 𝓛 (raw (fact 𝓤 (κs.1.1.0 ⊑ O.lives))) (fact_i 𝓤 _ (emp 𝓤) alive_o) $ join ! $ use0 𝓛 (raw (fact 𝓤 (κs.1.0 ⊑ X.lives))) (fact_i 𝓤 _ (emp 𝓤) alive_r) $ join ! $ move ! (1 ∷ 0 ∷ []) $ join ! $
    use1 𝓛 (raw (G.pre z)) (id⊢ 𝓤 _) $
    calls_at ! (framed 𝓤 H 𝓜 𝓣) G (met 𝓤 𝓛 𝓜 𝓡 (code.calls-bits_lib::view::accepts 𝓡.env wired) X O n L LO fits_n copy rb rbd rc rcd rd rdd re red rp rpd ro rod rq rqd rh rhd rg rgd m1 m2 m3 m4 m5 m6 m7 m8 m9) z (and_then ! (get ! refl) (and_then ! (get ! refl) (no_more !))) (λ v.
    use1 𝓛 (later (some (λ (r : bool.Denot). (‵ others ⊛ ‵ (bool.own_val r (v ∷ []))) ⊛ some (λ (ws : Lasts (g.ended X O (number n) rb rbd rc rcd rd rdd re red rp rpd ro rod rq rqd rh rhd rg rgd) κs3 (spans, (len, tt))). ‵ (lasts (g.ended X O (number n) rb rbd rc rcd rd rdd re red rp rpd ro rod rq rqd rh rhd rg rgd) κs3 (spans, (len, tt)) ws)
    ⊛ raw (fact 𝓤 (IsTrue r ↔ Can)))))) (id⊢ 𝓤 _) $
    await ! tt $ pick ! (λ on. split ! $ split ! $ move ! (2 ∷ []) $ pick ! (λ ws. split ! $ drop ! $ heard ! _ (λ test. move ! (1 ∷ []) $
    peeks ! bool (Is bool) (shows 𝓛 bool) on (v ∷ []) (λ as_bool. drop ! $ lands_as ! (ap only as_bool) refl (tt, tt) $ move ! (1 ∷ 0 ∷ []) $ join ! $ move ! (1 ∷ []) $
    -- [the slice; the tokens]
    first ! $ branches ! (get ! refl)
    (λ yes_on. let can : Can = test.0 (is_true on yes_on) in
    sets ! (addr ! (from ! (fld ! refl (hop ! (look_in_at ! 1 (sub ! 0 refl (whole !))) (stop !))))) refl (tt, tt) $
    sets ! (agg ! (and_then ! (get ! refl) (and_then ! (get_in ! (fld ! refl (stop !)) (sub ! 1 refl (whole !))) (no_more !)))) refl (tt, (tt, (record { fits = fl }, tt))) $
    -- new_unchecked
    let K = triple_of 𝓛 (h.signature X O (number n) rb rbd rc rcd rd rdd re red rp rpd ro rod rq rqd rh rhd rg rgd obo obod ooc oocd oba obad) (h.spec X O (number n) rb rbd rc rcd rd rdd re red rp rpd ro rod rq rqd rh rhd rg rgd obo obod ooc oocd oba obad 𝓛 𝓜.mem 𝓡.returns) in
    let z2 : K.Ghost = ((κs, qs, bounds, (m, (spans, tt)), (mut_slice_vals m, (sv ∷ [], tt))), tt) in
    nothing ! $ owned ! Spans _ mk spans _ is_spans $ fjoin ! $ move ! (1 ∷ 0 ∷ []) $ fjoin ! $ move ! (1 ∷ 0 ∷ []) $ join ! $
    use0 𝓛 (raw (fact 𝓤 Can)) (fact_i 𝓤 _ (emp 𝓤) can) $ use0 𝓛 (raw (fact 𝓤 (Small Row))) (fact_i 𝓤 _ (emp 𝓤) small_row) $ join ! $ use0 𝓛 (raw (fact 𝓤 (Small Spans))) (fact_i 𝓤 _ (emp 𝓤) small_spans) $ join ! $
    use0 𝓛 (raw (fact 𝓤 (κs.1.1.1.0 ⊑ []))) (fact_i 𝓤 _ (emp 𝓤) alive_n) $ join ! $ use0 𝓛 (raw (fact 𝓤 (κs.1.1.0 ⊑ O.lives))) (fact_i 𝓤 _ (emp 𝓤) alive_o) $ join ! $ use0 𝓛 (raw (fact 𝓤 (κs.1.0 ⊑ X.lives))) (fact_i 𝓤 _ (emp 𝓤) alive_r) $ join ! $ move ! (1 ∷ 0 ∷ []) $ join ! $
    use1 𝓛 (raw (K.pre z2)) (id⊢ 𝓤 _) $
    calls_at ! (framed 𝓤 H 𝓜 𝓣) K (met_h 𝓤 𝓛 𝓜 𝓡 (code.calls-bits_lib::view::Parts::new_unchecked 𝓡.env wired) X O n L LO fits_n copy rb rbd rc rcd rd rdd re red rp rpd ro rod rq rqd rh rhd rg rgd obo obod ooc oocd oba obad m1 m2 m3 m4 m5 m6 m7 m8 m9 m10 m11 m12) z2 (and_then ! (get ! refl) (and_then ! (get ! refl) (no_more !))) (λ w.
    use1 𝓛 (later (some (λ (d : Row.Denot). ((‵ (flft κ qs.0) ⊛ ‵ others) ⊛ ‵ (Row.own_val d (w ∷ []))) ⊛ some (λ (zs : Lasts (h.ended X O (number n) rb rbd rc rcd rd rdd re red rp rpd ro rod rq rqd rh rhd rg rgd obo obod ooc oocd oba obad) κs (m, (spans, tt))). ‵ (lasts (h.ended X O (number n) rb rbd rc rcd rd rdd re red rp rpd ro rod rq rqd rh rhd rg rgd obo obod ooc oocd oba obad) κs (m, (spans, tt)) zs)
    ⊛ raw (fact 𝓤 ((view_memory d).ghost_name ≡ m.ghost_name)) ⊛ raw (fact 𝓤 ((view_memory d).now ≡ xs)) ⊛ raw (fact 𝓤 (part_spans d ≡ map span_of spans)))))) (id⊢ 𝓤 _) $
    await ! tt $ pick ! (λ d. split ! $ split ! $ move ! (2 ∷ []) $ pick ! (λ zs. split ! $ drop ! $ split ! $ heard ! _ (λ named_so. split ! $ heard ! _ (λ same. heard ! _ (λ placed. move ! (1 ∷ []) $
    peeks ! Row (Is Row) (shows 𝓛 Row) d (w ∷ []) (λ as_d. let good = ((LP.lawful 𝓛).typed d (w ∷ []) as_d).0 in
    -- [the value; the tokens]
    lands_as ! refl refl good $
    sets_last ! (agg ! (and_then ! (lit ! tt) (and_then ! (get ! refl) (no_more !)))) refl (beside _ good.0, (record { fits = lit< tt }, (good.1, tt))) $
    exec ! 𝓣.C 𝓣.Λ (env fn.locals l) (after 3 fn.body) (at_ret (env fn.locals l) Post) $
    sets ! (of_opd ! (get ! refl)) refl (beside _ good.0, (record { fits = lit< tt }, (good.1, tt))) $
    returns ! (look_at ! 0 refl) $ free_all ! refl $
    let out : Val = live 1 (of_list (w ∷ [])) in let one : Option Row.Denot = Some d in
    use1 𝓛 (‵ ((OP.the_row Row).own_val one (out ∷ []))) (Some-of 𝓛 Row d w) $
    -- [the result; the tokens]
    use0 𝓛 (raw (fact 𝓤 (IfSome one (λ x. part_spans x ≡ map span_of spans)))) (fact_i 𝓤 _ (emp 𝓤) placed) $
    use0 𝓛 (raw (fact 𝓤 (IfSome one (λ x. (view_memory x).now ≡ xs)))) (fact_i 𝓤 _ (emp 𝓤) same) $ join ! $
    use0 𝓛 (raw (fact 𝓤 (IfSome one (λ x. (view_memory x).ghost_name ≡ m.ghost_name)))) (fact_i 𝓤 _ (emp 𝓤) named_so) $ join ! $
    use0 𝓛 (raw (fact 𝓤 (IsSome one ↔ Can))) (fact_i 𝓤 _ (emp 𝓤) (λ _. can, λ _. refl)) $ join ! $
    use0 𝓛 (‵ (Rests one)) (rests_some 𝓛 R m name d named_so) $ join ! $
    nothing ! $ nothing ! $ fjoin ! $ nothing ! $ fjoin ! $
    -- [what is had of the parameters; the `ensures`; the result; the tokens]
    keep ! (3 ∷ 0 ∷ 2 ∷ 1 ∷ []) $ by ! (leaves 𝓛 En hs c y out one (tt, (tt, tt)) (tt, (tt, tt)))))))))))
    (λ off.
    use1 𝓛 (later (‵ (finally R m.ghost_name xs))) (let_go 𝓛 R m (named 0) κ (mut_slice_vals m)) $ await ! tt $
    sets_last ! (agg ! (and_then ! (lit ! tt) (no_more !))) refl (tt, (record { fits = lit< tt }, tt)) $
    exec ! 𝓣.C 𝓣.Λ (env fn.locals l) (after 3 fn.body) (at_ret (env fn.locals l) Post) $
    sets ! (of_opd ! (get ! refl)) refl (tt, (record { fits = lit< tt }, tt)) $
    returns ! (look_at ! 0 refl) $ free_all ! refl $
    let out : Val = live 0 (of_list []) in let none : Option Row.Denot = None in let not_so : IsSome none ↔ Can = (λ p. absurd (subst (λ (b : Bool). T (not b)) p tt), λ p. absurd (subst (λ (b : Bool). T (not b)) (test.1 p) off)) in
    use1 𝓛 (‵ (Rests none)) (rests_none 𝓛 R m name) $
    use0 𝓛 (raw (fact 𝓤 (IfSome none (λ x. part_spans x ≡ map span_of spans)))) (fact_i 𝓤 _ (emp 𝓤) tt) $
    use0 𝓛 (raw (fact 𝓤 (IfSome none (λ x. (view_memory x).now ≡ xs)))) (fact_i 𝓤 _ (emp 𝓤) tt) $ join ! $
    use0 𝓛 (raw (fact 𝓤 (IfSome none (λ x. (view_memory x).ghost_name ≡ m.ghost_name)))) (fact_i 𝓤 _ (emp 𝓤) tt) $ join ! $
    use0 𝓛 (raw (fact 𝓤 (IsSome none ↔ Can))) (fact_i 𝓤 _ (emp 𝓤) not_so) $ join ! $
    move ! (1 ∷ 0 ∷ []) $ join ! $ use0 𝓛 (‵ ((OP.the_row Row).own_val none (out ∷ []))) (none_of 𝓛 Row) $
    nothing ! $ nothing ! $ fjoin ! $ nothing ! $ fjoin ! $
    -- [what is had of the parameters; the result; the `ensures`; the tokens]
    keep ! (3 ∷ 0 ∷ 1 ∷ 2 ∷ []) $ by ! (leaves 𝓛 En hs c y out none (tt, (tt, tt)) (tt, (tt, tt))))))))))))))))
