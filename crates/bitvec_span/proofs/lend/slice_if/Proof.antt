-- `slice_if` hands its slice on, or lets it go. Assumes `Logic`.
use Rattle.std.proofs.Common.{◌≡◌, ℕ, ◌^◌, ◌<◌, List, [], ◌∷◌, Bool, true, false, refl, lit<, length, MutBor}
use Rattle.std.proofs.raw_atomic.Walks.{proved, leaves}
use Rattle.std.proofs.VecSteps.Shapes.{after}
use Rattle.std.specs.Prelude.{T, not, is_some, IfSome, Some, None}
use mir.Syntax.{a_type, named}
use mir.Val.{Val, of_list}
use mir.MapTy.{inst_fn}
use base.Logic.{SProp, emp}
use base.Fml.{Lft, Fml, GName, ftrue, fsep, flft}
use types.Kit.{‵, raw, ◌⊛◌, later, at_ret, ◌$◌, ◌∵◌, !, qed, by, move, keep, drop, split, join, fsplit, fjoin, use0, use1, await, feq_i}
use types.Run.{lit, stop, fld, hop, addr, from, of_opd, no_more, and_then, first, branches, exec, returns, enter}
use types.ByLocal.{alloc_all, pass_all, free_all, look_at, get, get_in, sets, sets_last, look_in_at, env}
use types.Part.{agg, sub, whole}
use types.Match.{live}
use contract.Running.{tables}
use contract.Monad.{fact, fact_i}
use contract.BorrowLft.{◌⊑◌}
use denote.Exit.{yes, no}
use denote.RattleType.{RattleType, owns}
use denote.Signature.{types_at, plain, mut_slice_of}
use denote.Steps.{nothing}
use denote.Param.{param, layouts}
use denote.Builtin.{bool}
use denote.Plain.{bool_vals, bool_Tells}
use denote.Slice.{finally, MutSlice, slice_val, mut_slice_vals, mut_slice_Tells}
use denote.Triple.Walked.{Stays, stay_dropped, walk_of, Goes-dropped, Goes-spent_slice}
use Rattle.std.specs.contracts.option.Option as OP
use Rattle.std.below.core.proofs.option.Made.{Some-of, none_of}
use Rattle.bitvec_span.proofs.LentSlices.{let_go}
use Rattle.bitvec_span.specs.contracts.lend.slice_if as f
use Rattle.bitvec_span.specs.contracts.lend.slice_if.Key.{name as #self}
use Rattle.bitvec_span.proofs.lend.slice_if.Statement.{statement}
use Rattle.bitvec_span.proofs.lend.slice_if.Code as code

is_true : (b : Bool) → T b → true ≡ b
is_true true t = refl
is_true false t = absurd t

is_false : (b : Bool) → T (not b) → false ≡ b
is_false true t = absurd t
is_false false t = refl

pub slice_if_spec : {M : Type 1} → statement M
slice_if_spec 𝓤 𝓛 𝓜 𝓡 wired X L =
    let H = 𝓛.H in let 𝓣 = tables 𝓤 H 𝓜 𝓡 𝓡.env in let R : RattleType = param 0 X in let En = f.ended X in
    let inst = layouts (a_type ∷ []) (X, tt) in let fn = inst_fn inst code.function in
    let c = f.clauses X 𝓛 𝓜.mem 𝓡.returns in
    let hs : Stays En.signature.params En.kept = (stay_dropped (mut_slice_of (0 ∷ []) tt (plain (λ _. R))) no, (stay_dropped (plain (λ _. bool)) yes, tt)) in
    proved 𝓛 En hs c 𝓜 𝓡 (Goes-spent_slice 𝓛 2 (0 ∷ []) tt (plain (λ _. R)), (Goes-dropped 𝓛 2 (plain (λ _. bool)) yes (λ κs x w. refl), tt))
    (#self inst) fn (code.unfolded 𝓤 H 𝓜 𝓡 wired (X, tt))
    (λ κs. (mut_slice_vals, (bool_vals, tt))) (λ κs. (mut_slice_Tells (named 0) κs.0 R, (bool_Tells, tt))) (λ κs qs bounds a gh are.
    let κ : Lft = κs.0 in let xs : List X.Denot = a.0.now in let on : Bool = a.1.0 in
    let len : ℕ = length xs in let others : Fml = fsep (flft κs.1.0 qs.1.0) ftrue in let Slice : RattleType = MutSlice (named 0) κ R in
    let y : (walk_of 𝓛 En hs c).Ghost = ((κs, qs, bounds, a, (mut_slice_vals a.0, (bool_vals on, tt))), gh) in let Post : Val → SProp 𝓤 = (walk_of 𝓛 En hs c).post y in
    qed 𝓛 (((‵ (flft κ qs.0) ⊛ ‵ others) ⊛ ‵ (owns (types_at En.signature.params κs) a y.0.4)) ∷ raw (fact 𝓤 (κs.1.0 ⊑ X.lives)) ∷ ‵ ftrue ∷ []) ∵
    move ! (1 ∷ []) $ drop ! $ move ! (1 ∷ []) $ drop ! $ split ! $ move ! (1 ∷ []) $ fsplit ! $ move ! (1 ∷ []) $ drop ! $
    -- [the slice; the tokens]
    let fl : len < 2 ^ 64 = are.0.0.1.0 in
    enter ! 𝓣.C 𝓣.Λ fn (slice_val a.0.ref_ptr len ∷ bool_vals on) Post $
    alloc_all ! (λ l. pass_all ! refl ((tt, (tt, (record { fits = fl }, tt))), ((tt, tt), tt)) $
    sets ! (of_opd ! (get ! refl)) refl (tt, tt) $
    first ! $ branches ! (get ! refl)
    (λ yes_on.
    sets ! (addr ! (from ! (fld ! refl (hop ! (look_in_at ! 1 (sub ! 0 refl (whole !))) (stop !))))) refl (tt, tt) $
    sets ! (agg ! (and_then ! (get ! refl) (and_then ! (get_in ! (fld ! refl (stop !)) (sub ! 1 refl (whole !))) (no_more !)))) refl (tt, (tt, (record { fits = fl }, tt))) $
    sets_last ! (agg ! (and_then ! (lit ! tt) (and_then ! (get ! refl) (no_more !)))) refl (tt, (record { fits = lit< tt }, ((tt, (record { fits = fl }, tt)), tt))) $
    exec ! 𝓣.C 𝓣.Λ (env fn.locals l) (after 2 fn.body) (at_ret (env fn.locals l) Post) $
    sets ! (of_opd ! (get ! refl)) refl (tt, (record { fits = lit< tt }, ((tt, (record { fits = fl }, tt)), tt))) $
    returns ! (look_at ! 0 refl) $ free_all ! refl $
    let out : Val = live 1 (of_list (slice_val a.0.ref_ptr len ∷ [])) in
    use1 𝓛 (‵ ((OP.the_row Slice).own_val (Some a.0) (out ∷ []))) (Some-of 𝓛 Slice a.0 (slice_val a.0.ref_ptr len)) $
    -- [the result; the tokens]
    use0 𝓛 (raw (fact 𝓤 (IfSome (Some a.0) (λ (r : MutBor (List X.Denot)). r.now ≡ xs)))) (fact_i 𝓤 _ (emp 𝓤) refl) $ use0 𝓛 (raw (fact 𝓤 (is_some (Some a.0) ≡ on))) (fact_i 𝓤 _ (emp 𝓤) (is_true on yes_on)) $ join ! $
    feq_i ! GName a.0.ghost_name a.0.ghost_name refl $ join ! $ nothing ! $ nothing ! $ fjoin ! $ nothing ! $ fjoin ! $
    -- [what is had of the parameters; the `ensures`; the result; the tokens]
    keep ! (3 ∷ 0 ∷ 2 ∷ 1 ∷ []) $ by ! (leaves 𝓛 En hs c y out (Some a.0) (tt, (tt, tt)) (tt, (tt, tt))))
    (λ off.
    use1 𝓛 (later (‵ (finally R a.0.ghost_name xs))) (let_go 𝓛 R (named 0) κ a.0 (mut_slice_vals a.0)) $ await ! tt $
    sets_last ! (agg ! (and_then ! (lit ! tt) (no_more !))) refl (tt, (record { fits = lit< tt }, tt)) $
    exec ! 𝓣.C 𝓣.Λ (env fn.locals l) (after 2 fn.body) (at_ret (env fn.locals l) Post) $
    sets ! (of_opd ! (get ! refl)) refl (tt, (record { fits = lit< tt }, tt)) $
    returns ! (look_at ! 0 refl) $ free_all ! refl $
    let out : Val = live 0 (of_list []) in let none : (OP.the_row Slice).Denot = None in
    use0 𝓛 (raw (fact 𝓤 (IfSome none (λ (r : MutBor (List X.Denot)). r.now ≡ xs)))) (fact_i 𝓤 _ (emp 𝓤) tt) $ use0 𝓛 (raw (fact 𝓤 (is_some none ≡ on))) (fact_i 𝓤 _ (emp 𝓤) (is_false on off)) $ join ! $
    move ! (1 ∷ 0 ∷ []) $ join ! $ use0 𝓛 (‵ ((OP.the_row Slice).own_val none (out ∷ []))) (none_of 𝓛 Slice) $ nothing ! $ nothing ! $ fjoin ! $ nothing ! $ fjoin ! $
    -- [what is had of the parameters; the result; the `ensures`; the tokens]
    keep ! (3 ∷ 0 ∷ 1 ∷ 2 ∷ []) $ by ! (leaves 𝓛 En hs c y out none (tt, (tt, tt)) (tt, (tt, tt))))))
