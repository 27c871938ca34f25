-- `split_three_mut` cuts its borrow in two, and the second part in two again. Assumes `Logic`.
use Rattle.std.proofs.Common.{◌≡◌, ℕ, ◌+◌, ◌^◌, ◌<◌, ◌≤◌, List, [], ◌∷◌, ◌++◌, refl, ap, ◌∙◌, arith, length, take, drop as drop_l, MutBor}
use Rattle.std.proofs.raw_atomic.Walks.{proved, leaves}
use mir.Syntax.{a_type, named, w64}
use mir.Val.{Val, vint, vstruct, vcons, vnil, of_list}
use mir.MapTy.{inst_fn}
use base.Logic.{SProp, emp, id⊢}
use base.Fml.{Lft, Fml, GName, ftrue, fsep, fex, flft}
use types.Kit.{‵, raw, ◌⊛◌, some, later, ◌$◌, ◌∵◌, !, qed, by, move, keep, drop, split, join, fsplit, fjoin, fpick, fpack, pick, use0, use1, await, feq_i, feq_l}
use types.Run.{stop, fld, hop, addr, from, of_opd, no_more, and_then, returns, enter}
use types.ByLocal.{alloc_all, pass_all, free_all, look_at, get, get_in, sets, lands_as, look_in_at}
use types.Part.{agg, sub, whole}
use contract.Running.{tables}
use contract.Monad.{fact, fact_i}
use contract.BorrowLft.{◌⊑◌}
use denote.Exit.{yes, no}
use denote.RattleType.{RattleType, Valss, owns}
use denote.Signature.{types_at, plain, mut_slice_of}
use denote.Steps.{nothing, only, heard, owned}
use denote.Param.{param, layouts}
use denote.Builtin.{usize}
use denote.Plain.{uint_vals, uint_Tells, uint_Makes}
use denote.Slice.{MutSlice, slice_val, mut_slice_at, mut_slice_vals, mut_slice_Tells}
use denote.Triple.Spec.{triple_of}
use denote.Triple.Clauses.{Lasts, lasts}
use denote.Array.{Array}
use denote.Struct.Tuple.{Tuple, tuple_type}
use denote.Struct.Declared.{shape}
use denote.Struct.Struct.{within}
use denote.Follow.{follows_both}
use denote.Shadow.{pure_l, pure_i}
use Rattle.std.specs.List.{SameBelow, TailFrom}
use denote.Triple.Call.{calls_at}
use denote.Triple.Table.{framed}
use denote.Triple.Walked.{Stays, stay_dropped, walk_of, Goes-dropped, Goes-spent_slice}
use Rattle.bitvec_span.specs.contracts.lend.split_three_mut as f
use Rattle.bitvec_span.specs.contracts.lend.split_three_mut.Key.{name as #self}
use Rattle.bitvec_span.proofs.lend.split_three_mut.Statement.{statement}
use Rattle.bitvec_span.proofs.lend.split_three_mut.Code as code
use Rattle.std.below.core.specs.contracts.slice.slice+T.split_at_mut as g
use Rattle.std.below.core.proofs.slice.slice+T.split_at_mut.Met.{met}

pub split_three_mut_spec : {M : Type 1} → statement M
split_three_mut_spec 𝓤 𝓛 𝓜 𝓡 wired X L =
    let H = 𝓛.H in let 𝓣 = tables 𝓤 H 𝓜 𝓡 𝓡.env in let R : RattleType = param 0 X in let En = f.ended X in
    let inst = layouts (a_type ∷ []) (X, tt) in let fn = inst_fn inst code.function in
    let c = f.clauses X 𝓛 𝓜.mem 𝓡.returns in
    let hs : Stays En.signature.params En.kept = (stay_dropped (mut_slice_of (0 ∷ []) tt (plain (λ _. R))) no, (stay_dropped (plain (λ _. usize)) yes, (stay_dropped (plain (λ _. usize)) yes, tt))) in
    let goes = Goes-dropped 𝓛 2 (plain (λ _. usize)) yes (λ κs x w. refl) in
    proved 𝓛 En hs c 𝓜 𝓡 (Goes-spent_slice 𝓛 2 (0 ∷ []) tt (plain (λ _. R)), (goes, (goes, tt)))
    (#self inst) fn (code.unfolded 𝓤 H 𝓜 𝓡 wired (X, tt))
    (λ κs. (mut_slice_vals, (uint_vals w64, (uint_vals w64, tt)))) (λ κs. (mut_slice_Tells (named 0) κs.0 R, (uint_Tells w64, (uint_Tells w64, tt)))) (λ κs qs bounds a gh are.
    let b : ℕ = a.0.ref_ptr.0 in let o : ℕ = a.0.ref_ptr.1 in let κ : Lft = κs.0 in let xs : List X.Denot = a.0.now in let i : ℕ = a.1.0 in let n : ℕ = a.1.1.0 in
    let len : ℕ = length xs in let others : Fml = fsep (flft κs.1.0 qs.1.0) ftrue in let Slice : RattleType = MutSlice (named 0) κ R in
    let y : (walk_of 𝓛 En hs c).Ghost = ((κs, qs, bounds, a, (mut_slice_vals a.0, (vint w64 i ∷ [], (vint w64 n ∷ [], tt)))), gh) in let Post : Val → SProp 𝓤 = (walk_of 𝓛 En hs c).post y in
    qed 𝓛 (((‵ (flft κ qs.0) ⊛ ‵ others) ⊛ ‵ (owns (types_at En.signature.params κs) a y.0.4)) ∷ raw (fact 𝓤 (κs.1.0 ⊑ X.lives)) ∷ raw (fact 𝓤 (i + n ≤ len)) ∷ []) ∵
    move ! (2 ∷ []) $ heard ! (i + n ≤ len) (λ le. move ! (1 ∷ []) $ heard ! (κs.1.0 ⊑ X.lives) (λ alive_in. split ! $ move ! (1 ∷ []) $ fsplit ! $ move ! (1 ∷ []) $ drop ! $
    -- [the slice; the tokens]
    let fl : len < 2 ^ 64 = are.0.0.1.0 in let fi : i < 2 ^ 64 = are.1.0.1 in let fn' : n < 2 ^ 64 = are.1.1.0.1 in
    enter ! 𝓣.C 𝓣.Λ fn (slice_val a.0.ref_ptr len ∷ vint w64 i ∷ vint w64 n ∷ []) Post $
    alloc_all ! (λ l. pass_all ! refl ((tt, (tt, (record { fits = fl }, tt))), ((tt, record { fits = fi }), ((tt, record { fits = fn' }), tt))) $
    sets ! (addr ! (from ! (fld ! refl (hop ! (look_in_at ! 1 (sub ! 0 refl (whole !))) (stop !))))) refl (tt, tt) $
    sets ! (agg ! (and_then ! (get ! refl) (and_then ! (get_in ! (fld ! refl (stop !)) (sub ! 1 refl (whole !))) (no_more !)))) refl (tt, (tt, (record { fits = fl }, tt))) $
    let G = triple_of 𝓛 (g.signature X) (g.spec X 𝓛 𝓜.mem 𝓡.returns) in
    let z : G.Ghost = ((κs, qs, bounds, (a.0, (i, tt)), (mut_slice_vals a.0, (vint w64 i ∷ [], tt))), tt) in
    -- the callee's tokens, arguments and `requires`
    nothing ! $ owned ! usize _ (uint_Makes 𝓛 w64) i _ (refl, fi) $ fjoin ! $ move ! (1 ∷ 0 ∷ []) $ fjoin ! $ move ! (1 ∷ 0 ∷ []) $ join ! $
    use0 𝓛 (raw (fact 𝓤 (i ≤ len))) (fact_i 𝓤 _ (emp 𝓤) (omega arith)) $ use0 𝓛 (raw (fact 𝓤 (κs.1.0 ⊑ X.lives))) (fact_i 𝓤 _ (emp 𝓤) alive_in) $ join ! $ move ! (1 ∷ 0 ∷ []) $ join ! $
    use1 𝓛 (raw (G.pre z)) (id⊢ 𝓤 _) $
    calls_at ! (framed 𝓤 H 𝓜 𝓣) G (met 𝓤 𝓛 𝓜 𝓡 (code.calls-core::slice::slice+T::split_at_mut 𝓡.env wired) X L) z
    (and_then ! (get ! refl) (and_then ! (get ! refl) (no_more !))) (λ v.
    let A : RattleType = Array R 0 in
    use1 𝓛 (later (some (λ (r : MutBor (List X.Denot) × MutBor (List X.Denot)). ((‵ (flft κ qs.0) ⊛ ‵ others) ⊛ ‵ ((Tuple (Slice ∷ Slice ∷ [])).own_val r (v ∷ []))) ⊛ some (λ (ws : Lasts (g.ended X) κs (a.0, (i, tt))). ‵ (lasts (g.ended X) κs (a.0, (i, tt)) ws)
    ⊛ raw (fact 𝓤 (xs ≡ r.0.now ++ r.1.now)) ⊛ raw (fact 𝓤 (length r.0.now ≡ i)) ⊛ raw (fact 𝓤 (length r.1.now + i ≡ len)) ⊛ raw (fact 𝓤 (r.0.now ≡ take i xs)) ⊛ raw (fact 𝓤 (r.1.now ≡ drop_l i xs)) ⊛ raw (fact 𝓤 (SameBelow xs r.0.now i × TailFrom xs r.1.now i))
    ⊛ ‵ (follows_both A A A a.0.ghost_name r.0.ghost_name r.1.ghost_name ◌++◌))))) (id⊢ 𝓤 _) $ await ! tt $ pick ! (λ r. split ! $ split ! $ move ! (2 ∷ []) $ pick ! (λ ws. split ! $ drop ! $
    split ! $ drop ! $ split ! $ drop ! $ split ! $ heard ! _ (λ bl. split ! $ heard ! _ (λ ef. split ! $ heard ! _ (λ eb. split ! $ drop ! $
    -- [follows; the tokens; the pair]
    move ! (2 ∷ []) $ use1 𝓛 (‵ (fex (Valss (Slice ∷ Slice ∷ [])) (within (shape (tuple_type (Slice ∷ Slice ∷ []))) (r.0, (r.1, tt)) (v ∷ [])))) (id⊢ 𝓤 _) $ fpick ! (λ us. fsplit ! $ feq_l ! (λ ev. fsplit ! $ move ! (1 ∷ []) $ fsplit ! $ move ! (1 ∷ []) $ drop ! $
    -- [the second; the first; follows; the tokens]
    fsplit ! $ pure_l ! (mut_slice_at R r.1 us.1.0) (λ p1. move ! (1 ∷ []) $ fsplit ! $ pure_l ! (mut_slice_at R r.0 us.0) (λ p0.
    let word : v ∷ [] ≡ vstruct (vcons (slice_val r.0.ref_ptr (length r.0.now)) (vcons (slice_val r.1.ref_ptr (length r.1.now)) vnil)) ∷ [] = ev ∙ (λ k. vstruct (of_list (p0.0 k ++ (p1.0 k ++ []))) ∷ []) in
    let l0 : length r.0.now < 2 ^ 64 = p0.1.0 in let l1 : length r.1.now < 2 ^ 64 = p1.1.0 in
    pure_i ! (mut_slice_at R r.0 (mut_slice_vals r.0)) (tt, (tt, tt)) (refl, p0.1) $ fjoin ! $ move ! (1 ∷ []) $ pure_i ! (mut_slice_at R r.1 (mut_slice_vals r.1)) (tt, (tt, tt)) (refl, p1.1) $ fjoin ! $
    -- [the second; the first; follows; the tokens]
    lands_as ! (ap only word) refl (tt, ((tt, (record { fits = l0 }, tt)), ((tt, (record { fits = l1 }, tt)), tt))) $
    sets ! (of_opd ! (get_in ! (fld ! refl (stop !)) (sub ! 0 refl (whole !)))) refl (tt, (tt, (record { fits = l0 }, tt))) $
    sets ! (of_opd ! (get_in ! (fld ! refl (stop !)) (sub ! 1 refl (whole !)))) refl (tt, (tt, (record { fits = l1 }, tt))) $
    sets ! (addr ! (from ! (fld ! refl (hop ! (look_in_at ! 5 (sub ! 0 refl (whole !))) (stop !))))) refl (tt, tt) $
    sets ! (agg ! (and_then ! (get ! refl) (and_then ! (get_in ! (fld ! refl (stop !)) (sub ! 1 refl (whole !))) (no_more !)))) refl (tt, (tt, (record { fits = l1 }, tt))) $
    let z2 : G.Ghost = ((κs, qs, bounds, (r.1, (n, tt)), (mut_slice_vals r.1, (vint w64 n ∷ [], tt))), tt) in
    nothing ! $ owned ! usize _ (uint_Makes 𝓛 w64) n _ (refl, fn') $ fjoin ! $ move ! (1 ∷ 0 ∷ []) $ fjoin ! $ move ! (3 ∷ 0 ∷ []) $ join ! $
    use0 𝓛 (raw (fact 𝓤 (n ≤ length r.1.now))) (fact_i 𝓤 _ (emp 𝓤) (omega (arith, bl, le))) $ use0 𝓛 (raw (fact 𝓤 (κs.1.0 ⊑ X.lives))) (fact_i 𝓤 _ (emp 𝓤) alive_in) $ join ! $ move ! (1 ∷ 0 ∷ []) $ join ! $
    use1 𝓛 (raw (G.pre z2)) (id⊢ 𝓤 _) $
    calls_at ! (framed 𝓤 H 𝓜 𝓣) G (met 𝓤 𝓛 𝓜 𝓡 (code.calls-core::slice::slice+T::split_at_mut 𝓡.env wired) X L) z2
    (and_then ! (get ! refl) (and_then ! (get ! refl) (no_more !))) (λ w.
    use1 𝓛 (later (some (λ (t : MutBor (List X.Denot) × MutBor (List X.Denot)). ((‵ (flft κ qs.0) ⊛ ‵ others) ⊛ ‵ ((Tuple (Slice ∷ Slice ∷ [])).own_val t (w ∷ []))) ⊛ some (λ (ws' : Lasts (g.ended X) κs (r.1, (n, tt))). ‵ (lasts (g.ended X) κs (r.1, (n, tt)) ws')
    ⊛ raw (fact 𝓤 (r.1.now ≡ t.0.now ++ t.1.now)) ⊛ raw (fact 𝓤 (length t.0.now ≡ n)) ⊛ raw (fact 𝓤 (length t.1.now + n ≡ length r.1.now)) ⊛ raw (fact 𝓤 (t.0.now ≡ take n r.1.now)) ⊛ raw (fact 𝓤 (t.1.now ≡ drop_l n r.1.now)) ⊛ raw (fact 𝓤 (SameBelow r.1.now t.0.now n × TailFrom r.1.now t.1.now n))
    ⊛ ‵ (follows_both A A A r.1.ghost_name t.0.ghost_name t.1.ghost_name ◌++◌))))) (id⊢ 𝓤 _) $ await ! tt $ pick ! (λ t. split ! $ split ! $ move ! (2 ∷ []) $ pick ! (λ ws'. split ! $ drop ! $
    split ! $ drop ! $ split ! $ drop ! $ split ! $ drop ! $ split ! $ heard ! _ (λ fb. split ! $ heard ! _ (λ fc. split ! $ drop ! $
    -- [follows; the tokens; the pair; the first; the other follows]
    move ! (2 ∷ []) $ use1 𝓛 (‵ (fex (Valss (Slice ∷ Slice ∷ [])) (within (shape (tuple_type (Slice ∷ Slice ∷ []))) (t.0, (t.1, tt)) (w ∷ [])))) (id⊢ 𝓤 _) $ fpick ! (λ us'. fsplit ! $ feq_l ! (λ ew. fsplit ! $ move ! (1 ∷ []) $ fsplit ! $ move ! (1 ∷ []) $ drop ! $
    fsplit ! $ pure_l ! (mut_slice_at R t.1 us'.1.0) (λ p2. move ! (1 ∷ []) $ fsplit ! $ pure_l ! (mut_slice_at R t.0 us'.0) (λ p3.
    let word' : w ∷ [] ≡ vstruct (vcons (slice_val t.0.ref_ptr (length t.0.now)) (vcons (slice_val t.1.ref_ptr (length t.1.now)) vnil)) ∷ [] = ew ∙ (λ k. vstruct (of_list (p3.0 k ++ (p2.0 k ++ []))) ∷ []) in
    let l2 : length t.0.now < 2 ^ 64 = p3.1.0 in let l3 : length t.1.now < 2 ^ 64 = p2.1.0 in
    pure_i ! (mut_slice_at R t.0 (mut_slice_vals t.0)) (tt, (tt, tt)) (refl, p3.1) $ fjoin ! $ move ! (1 ∷ []) $ pure_i ! (mut_slice_at R t.1 (mut_slice_vals t.1)) (tt, (tt, tt)) (refl, p2.1) $ fjoin ! $
    -- [the third; the second; follows; the tokens; the first; the other follows]
    lands_as ! (ap only word') refl (tt, ((tt, (record { fits = l2 }, tt)), ((tt, (record { fits = l3 }, tt)), tt))) $
    sets ! (of_opd ! (get_in ! (fld ! refl (stop !)) (sub ! 0 refl (whole !)))) refl (tt, (tt, (record { fits = l2 }, tt))) $
    sets ! (of_opd ! (get_in ! (fld ! refl (stop !)) (sub ! 1 refl (whole !)))) refl (tt, (tt, (record { fits = l3 }, tt))) $
    sets ! (addr ! (from ! (fld ! refl (hop ! (look_in_at ! 4 (sub ! 0 refl (whole !))) (stop !))))) refl (tt, tt) $
    sets ! (agg ! (and_then ! (get ! refl) (and_then ! (get_in ! (fld ! refl (stop !)) (sub ! 1 refl (whole !))) (no_more !)))) refl (tt, (tt, (record { fits = l0 }, tt))) $
    sets ! (addr ! (from ! (fld ! refl (hop ! (look_in_at ! 6 (sub ! 0 refl (whole !))) (stop !))))) refl (tt, tt) $
    sets ! (agg ! (and_then ! (get ! refl) (and_then ! (get_in ! (fld ! refl (stop !)) (sub ! 1 refl (whole !))) (no_more !)))) refl (tt, (tt, (record { fits = l2 }, tt))) $
    sets ! (addr ! (from ! (fld ! refl (hop ! (look_in_at ! 7 (sub ! 0 refl (whole !))) (stop !))))) refl (tt, tt) $
    sets ! (agg ! (and_then ! (get ! refl) (and_then ! (get_in ! (fld ! refl (stop !)) (sub ! 1 refl (whole !))) (no_more !)))) refl (tt, (tt, (record { fits = l3 }, tt))) $
    sets ! (agg ! (and_then ! (get ! refl) (and_then ! (get ! refl) (and_then ! (get ! refl) (no_more !))))) refl (tt, ((tt, (record { fits = l0 }, tt)), ((tt, (record { fits = l2 }, tt)), ((tt, (record { fits = l3 }, tt)), tt)))) $
    returns ! (look_at ! 0 refl) $ free_all ! refl $
    -- [the third; the second; follows; the tokens; the first; the other follows]
    let Three : List RattleType = Slice ∷ Slice ∷ Slice ∷ [] in
    let of : MutBor (List X.Denot) → Val = λ m. slice_val m.ref_ptr (length m.now) in
    let out : Val = vstruct (vcons (of r.0) (vcons (of t.0) (vcons (of t.1) vnil))) in
    nothing ! $ move ! (1 ∷ 0 ∷ []) $ fjoin ! $ move ! (1 ∷ 0 ∷ []) $ fjoin ! $ move ! (3 ∷ 0 ∷ []) $ fjoin ! $
    feq_i ! (List Val) (out ∷ []) (out ∷ []) refl $ fjoin ! $ fpack ! (Valss Three) (within (shape (tuple_type Three)) (r.0, (t.0, (t.1, tt))) (out ∷ [])) (of r.0 ∷ [], (of t.0 ∷ [], (of t.1 ∷ [], tt))) $
    -- [the result; follows; the tokens; the other follows]
    move ! (3 ∷ 1 ∷ []) $ fjoin ! $ fpack ! GName (λ d. fsep (follows_both A A A a.0.ghost_name r.0.ghost_name d ◌++◌) (follows_both A A A d t.0.ghost_name t.1.ghost_name ◌++◌)) r.1.ghost_name $
    use0 𝓛 (raw (fact 𝓤 (t.1.now ≡ drop_l n (drop_l i xs)))) (fact_i 𝓤 _ (emp 𝓤) (fc ∙ ap (λ (q : List X.Denot). drop_l n q) eb)) $
    use0 𝓛 (raw (fact 𝓤 (t.0.now ≡ take n (drop_l i xs)))) (fact_i 𝓤 _ (emp 𝓤) (fb ∙ ap (λ (q : List X.Denot). take n q) eb)) $ join ! $
    use0 𝓛 (raw (fact 𝓤 (r.0.now ≡ take i xs))) (fact_i 𝓤 _ (emp 𝓤) ef) $ join ! $ move ! (1 ∷ 0 ∷ []) $ join ! $
    -- [the `ensures`; the result; the tokens]
    nothing ! $ nothing ! $ fjoin ! $ nothing ! $ fjoin ! $ nothing ! $ fjoin ! $ keep ! (3 ∷ 0 ∷ 2 ∷ 1 ∷ []) $
    by ! (leaves 𝓛 En hs c y out (r.0, t.0, t.1) (tt, (tt, (tt, tt))) (tt, (tt, (tt, tt)))))))))))))))))))))))))))
