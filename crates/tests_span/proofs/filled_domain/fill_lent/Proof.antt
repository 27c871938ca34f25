-- `fill_lent` lends its memory to `domain_mut` for a lifetime of its own, and has it back at what the loans ended as. Assumes `Logic`.
use Rattle.std.proofs.Common.{◌≡◌, ℕ, ◌^◌, ◌<◌, List, [], ◌∷◌, ◌++◌, Bool, false, refl, sym, ap, subst, ◌∙◌, inl, inr, length, map, take, drop as drop_l, MutBor}
use Rattle.std.specs.Prelude.{T, Option, MatchOption}
use Rattle.std.proofs.raw_atomic.Walks.{proved, leaves}
use mir.Syntax.{Body, Dict, ty_unit, dcons, dnil, tcons, tnil, impl, a_type, named}
use mir.Val.{Val, WT, vunit, vcons, vnil, has_ty}
use mir.MapTy.{inst_fn}
use base.Logic.{SProp, wand, emp, id⊢}
use base.Fml.{Lft, Fml, Share, GName, ftrue, fsep, flft, fdead}
use base.Fraction.{full_share}
use base.Share.{left, right}
use types.Kit.{‵, raw, ◌⊛◌, some, later, given, ◌$◌, ◌∵◌, !, qed, by, move, keep, drop, split, join, fsplit, fjoin, pick, learn, apply, use0, use1, use2, use3, await, rewrite, feq_i, feq_l, any_q, at_ret, fpick, Post as After}
use types.Logic.{lfts}
use types.Run.{unit_lit, stop, fld, hop, addr, from, of_opd, no_more, and_then, returns, enter, first, skips, exec, switches_on}
use types.Match.{live, vrt, in_variant}
use types.ByLocal.{alloc_all, pass_all, free_all, look_at, get, get_in, get_tag, sets, lands_as, lands_last, look_in_at, env}
use types.Part.{agg, sub, whole}
use types.Tokens.{lft_new, lft_end, one_token}
use ghost.Rules.{Toks, span as span_lft}
use contract.Running.{tables}
use contract.Monad.{fact, fact_i}
use contract.BorrowLft.{◌⊑◌, ⊑_refl, ⊑_trans, meet_⊑_left, meet_⊑_right}
use contract.Lifetimes.{Lfts, Shares}
use denote.Exit.{yes, no, at, see}
use denote.Laws.{Is, shows}
use denote.RattleType.{RattleType, owns}
use denote.Ref.{at_last}
use denote.Signature.{types_at, plain, named_lft}
use denote.Steps.{nothing, heard, owned, only, peeks}
use denote.Param.{param, copied, bounded, layout}
use denote.Param.NoDrop.{glues}
use denote.Param.Laws.{param_laws, copied_laws}
use denote.Builtin.{bool, unit}
use denote.Plain.{bool_vals, bool_Tells, bool_Makes}
use denote.Slice.{finally, MutSlice, slice_val, mut_slice_vals, mut_slice_Tells}
use denote.Struct.Laws.{makes}
use prog.Wp.{Env, Wp, after_seq, at_return}
use denote.Triple.Spec.{triple_of}
use denote.Triple.Clauses.{Lasts, lasts}
use denote.Triple.Call.{calls_at, calls_at_last}
use denote.Triple.Table.{framed}
use denote.Triple.Walked.{Stays, stay_dropped, stay_slice, walk_of, Goes-dropped, Goes-slice}
use Rattle.bitvec_span.specs.Span.{Span, Fits}
use Rattle.bitvec_span.specs.BitSpan.{span_of}
use Rattle.bitvec_span.specs.Parts.{parts_of, is_enclave, HasShortBody}
use Rattle.bitvec_span.specs.Lending.{LendsNamed}
use Rattle.bitvec_span.specs.Loans.{words_before, body_words, span_loans, words_of_loans}
use Rattle.bitvec_span.specs.PartialElementMut.{memory_of}
use Rattle.bitvec_span.specs.declared.domain.domain_mut.DomainMut.TheVariants.{Enclave}
use Rattle.bitvec_span.specs.DomainMut.{loan_names, loans_of, lent_parts, DomainRestsIfNone}
use Rattle.tests_span.proofs.LentMemory.{named_as, Kept, lends_whole, whole_back, whole_end}
use Rattle.tests_span.specs.FilledDomain.{filled_loans, filled_memory, numbers_of_words}
use Rattle.tests_span.proofs.FilledMemoryLemmas.{filled-whole}
use Rattle.tests_span.proofs.DomainEnds.{some_or_none, words_or, AllRest, none_rests, dropped_rests}
use Rattle.bitvec_span.specs.contracts.ptr.span.BitSpan as S
use Rattle.bitvec_span.proofs.ptr.span.BitSpan.TheLaws.{the_told as span_told, the_row_laws as span_laws, the_plain as span_plain}
use Rattle.bitvec_span.specs.contracts.domain.domain_mut.DomainMut as D
use Rattle.bitvec_span.proofs.domain.domain_mut.DomainMut.TheLaws.{the_row_laws as domain_laws}
use Rattle.bitvec_span.specs.contracts.domain.partial_element_mut.PartialElementMut as E
use Rattle.bitvec_span.proofs.domain.partial_element_mut.PartialElementMut.TheLaws.{the_told as part_told, the_row_laws as part_laws}
use Rattle.std.specs.contracts.option.Option as OP
use Rattle.std.proofs.option.Option.TheLaws.{the_told as option_told, the_row_laws as option_laws}
use Rattle.std.proofs.VecSteps.Shapes.{after, head, arm_body}
use Rattle.tests_span.specs.contracts.filled_domain.fill_lent as f
use Rattle.tests_span.specs.contracts.filled_domain.fill_lent.Key.{name as #fill}
use Rattle.tests_span.proofs.filled_domain.fill_lent.Statement.{statement}
use Rattle.tests_span.proofs.filled_domain.fill_lent.Code as code
use Rattle.bitvec_span.specs.contracts.ptr.span.BitSpan.domain_mut as g
use Rattle.bitvec_span.proofs.ptr.span.BitSpan.domain_mut.Met.{met}
use Rattle.tests_span.specs.contracts.filled_domain.filled_domain as h
use Rattle.tests_span.proofs.filled_domain.filled_domain.Met.{met as met_h}
use Rattle.bitvec_span.specs.contracts.domain.domain_mut.DomainMut.enclave as k
use Rattle.bitvec_span.proofs.domain.domain_mut.DomainMut.enclave.Met.{met as met_k}
use Rattle.bitvec_span.specs.contracts.domain.partial_element_mut.PartialElementMut.drop as r
use Rattle.bitvec_span.proofs.domain.partial_element_mut.PartialElementMut.drop.Met.{met as met_r}
use Rattle.tests_span.proofs.Destruct++none.drop.Code.{code as nothing_to_drop}

pub fill_lent_spec : {M : Type 1} → statement M
unfolding nothing_to_drop
fill_lent_spec {M = M} 𝓤 𝓛 𝓜 𝓡 wired X O L LO copy rb rbd rc rcd rd rdd re red rp rpd ro rod rq rqd rh rhd rg rgd obo obod ooc oocd oba obad m1 m2 m3 m4 m5 m6 m7 m8 m9 m10 m11 m12 =
    let H = 𝓛.H in let 𝓣 = tables 𝓤 H 𝓜 𝓡 𝓡.env in let R : RattleType = copied 0 X in let Or : RattleType = param 1 O in let En = f.ended X O rb rbd rc rcd rd rdd re red rp rpd ro rod rq rqd rh rhd rg rgd obo obod ooc oocd oba obad in
    let inst = bounded (a_type ∷ a_type ∷ []) (X, (O, tt)) (dcons rbd (dcons rcd (dcons rdd (dcons red (dcons rpd (dcons rod (dcons rqd (dcons rhd (dcons rgd (dcons obod (dcons oocd (dcons obad dnil)))))))))))) in let fn = inst_fn inst code.function in
    let c = f.clauses X O rb rbd rc rcd rd rdd re red rp rpd ro rod rq rqd rh rhd rg rgd obo obod ooc oocd oba obad 𝓛 𝓜.mem 𝓡.returns in
    let LR = copied_laws 0 X L in let LOr = param_laws 1 O LO in
    let Spans : RattleType = S.the_row R Or rb rd rp ro rq rh rg in let told = span_told R Or rb rd rp ro rq rh rg LR LOr in
    let mk = makes (S.the_type R Or rb rd rp ro rq rh rg) (span_plain R Or rb rd rp ro rq rh rg) 𝓛 in
    let hs : Stays En.signature.params En.kept = (stay_dropped (plain (λ _. Spans)) no, (stay_slice (0 ∷ []) tt (plain (λ _. R)), (stay_dropped (plain (λ _. bool)) yes, tt))) in
    proved 𝓛 En hs c 𝓜 𝓡 (Goes-dropped 𝓛 3 (plain (λ _. Spans)) no (λ κs x w. refl), (Goes-slice 𝓛 3 0 tt (plain (λ _. R)), (Goes-dropped 𝓛 3 (plain (λ _. bool)) yes (λ κs x w. refl), tt)))
    (#fill inst) fn (code.unfolded 𝓤 H 𝓜 𝓡 wired (X, (O, tt)) rbd rcd rdd red rpd rod rqd rhd rgd obod oocd obad)
    (λ κs. ((λ x. told.val x ∷ []), (mut_slice_vals, (bool_vals, tt))))
    (λ κs. (told.tells, (mut_slice_Tells (named 0) κs.0 R, (bool_Tells, tt)))) (λ κs qs bounds a gh are.
    let κ : Lft = κs.0 in let λs : Lft = κs.1.0 in let s₀ = a.0 in let span : Span = span_of s₀ in let m : MutBor (List X.Denot) = a.1.0 in let xs : List X.Denot = m.now in let bit : Bool = a.1.1.0 in let sv : Val = told.val s₀ in
    let i : ℕ = words_before span in let n : ℕ = body_words rb.BITS span in
    let len : ℕ = length xs in let order : Fml = fsep (flft κs.1.1.0 qs.1.1.0) ftrue in let others : Fml = fsep (flft λs qs.1.0) order in let Slice : RattleType = MutSlice (named 0) κ R in
    let y : (walk_of 𝓛 En hs c).Ghost = ((κs, qs, bounds, a, (sv ∷ [], (mut_slice_vals m, (bool_vals bit, tt)))), gh) in let Post : Val → SProp 𝓤 = (walk_of 𝓛 En hs c).post y in
    qed 𝓛 (((‵ (flft κ qs.0) ⊛ ‵ others) ⊛ ‵ (owns (types_at En.signature.params κs) a y.0.4)) ∷ raw (fact 𝓤 (λs ⊑ X.lives)) ∷ raw (fact 𝓤 (κs.1.1.0 ⊑ O.lives)) ∷ raw (fact 𝓤 (Fits rb.BITS span len)) ∷ []) ∵
    move ! (1 ∷ []) $ heard ! (λs ⊑ X.lives) (λ alive_in. move ! (1 ∷ []) $ heard ! (κs.1.1.0 ⊑ O.lives) (λ alive_o. move ! (1 ∷ []) $ heard ! (Fits rb.BITS span len) (λ fits.
    split ! $ move ! (1 ∷ []) $ fsplit ! $ drop ! $ fsplit ! $ move ! (1 ∷ []) $ drop ! $
    -- [the slice; the tokens]
    let fl : len < 2 ^ 64 = are.1.0.0.1.0 in let rm = are.1.0.0.1 in let is_span : Is Spans s₀ (sv ∷ []) = are.0 in let good_s = (((span_laws R Or rb rd rp ro rq rh rg LR LOr).lawful 𝓛).typed s₀ (sv ∷ []) is_span).0 in
    enter ! 𝓣.C 𝓣.Λ fn (sv ∷ slice_val m.ref_ptr len ∷ bool_vals bit) Post $
    alloc_all ! (λ l. pass_all ! refl (good_s, ((tt, (tt, (record { fits = fl }, tt))), ((tt, tt), tt))) $
    sets ! (addr ! (from ! (fld ! refl (hop ! (look_in_at ! 2 (sub ! 0 refl (whole !))) (stop !))))) refl (tt, tt) $
    sets ! (agg ! (and_then ! (get ! refl) (and_then ! (get_in ! (fld ! refl (stop !)) (sub ! 1 refl (whole !))) (no_more !)))) refl (tt, (tt, (record { fits = fl }, tt))) $
    -- αs is a lifetime for the two calls, within R's
    move ! (1 ∷ []) $ split ! $ move ! (1 ∷ []) $ fsplit ! $
    -- [the token of R's lifetime; that of O's; the token of κ; the slice]
    lft_new ! tt (λ α. let ts : Toks = (α ∷ [], full_share) ∷ (λs, qs.1.0) ∷ [] in let αs : Lft = span_lft ts in move ! (0 ∷ 1 ∷ []) $
    use2 𝓛 (some (λ (t : Share). ‵ (flft αs t) ⊛ raw (wand 𝓤 (𝓛.A.lft αs t) (lfts 𝓛 ts)))) (one_token 𝓛 ts) $ pick ! (λ t. split ! $ move ! (4 ∷ 3 ∷ []) $
    -- [the slice; the token of κ; the token of αs; the way back; the token of O's]
    let κs' : Lfts 3 = (αs, (αs, (κs.1.1.0, tt))) in let qs' : Shares 3 = (left t, (right t, (qs.1.1.0, tt))) in let others' : Fml = fsep (flft αs (right t)) order in let Lent : RattleType = MutSlice (named 0) αs R in let bounds' = ⊑_refl αs in
    let alive' : αs ⊑ X.lives = ⊑_trans αs λs X.lives (meet_⊑_right (α ∷ []) λs) alive_in in
    use2 𝓛 (later (some (λ (δ : GName). ‵ (Lent.own_val (named_as δ m) (mut_slice_vals m)) ⊛ Kept 𝓛 R (named 0) κ qs.0 αs m rm δ))) (lends_whole 𝓛 R (named 0) κ qs.0 αs m rm) $ await ! tt $ pick ! (λ δ₀. split ! $ let s : MutBor (List X.Denot) = named_as δ₀ m in
    -- [the loan; what the lender keeps; the token of αs; the way back; the token of O's]
    move ! (2 ∷ []) $ use1 𝓛 (‵ (flft αs (left t)) ⊛ ‵ (flft αs (right t))) (𝓛.lfts.lft_split αs t) $ split ! $ move ! (1 ∷ 5 ∷ []) $ fjoin ! $ move ! (1 ∷ 0 ∷ []) $ join ! $ move ! (1 ∷ 0 ∷ []) $
    -- [the loan; the tokens; what the lender keeps; the way back]
    let lft = named_lft 3 0 tt κs' in
    let Dom : RattleType = D.the_row lft R Or rb rd rp ro rq rh rg in let LD = domain_laws lft R Or rb rd rp ro rq rh rg LR LOr in
    let G = triple_of 𝓛 (g.signature X O rb rbd rc rcd rd rdd re red rp rpd ro rod rq rqd rh rhd rg rgd) (g.spec X O rb rbd rc rcd rd rdd re red rp rpd ro rod rq rqd rh rhd rg rgd 𝓛 𝓜.mem 𝓡.returns) in
    let z : G.Ghost = ((κs', qs', (bounds', tt), (s₀, (s, tt)), (sv ∷ [], (mut_slice_vals m, tt))), tt) in
    nothing ! $ move ! (1 ∷ 0 ∷ []) $ fjoin ! $ owned ! Spans _ mk s₀ _ is_span $ fjoin ! $ move ! (1 ∷ 0 ∷ []) $ join ! $
    use0 𝓛 (raw (fact 𝓤 (Fits rb.BITS span len))) (fact_i 𝓤 _ (emp 𝓤) fits) $ use0 𝓛 (raw (fact 𝓤 (κs.1.1.0 ⊑ O.lives))) (fact_i 𝓤 _ (emp 𝓤) alive_o) $ join ! $ use0 𝓛 (raw (fact 𝓤 (αs ⊑ X.lives))) (fact_i 𝓤 _ (emp 𝓤) alive') $ join ! $ move ! (1 ∷ 0 ∷ []) $ join ! $
    use1 𝓛 (raw (G.pre z)) (id⊢ 𝓤 _) $
    calls_at ! (framed 𝓤 H 𝓜 𝓣) G (met 𝓤 𝓛 𝓜 𝓡 (code.calls-bitvec_span::ptr::span::BitSpan::domain_mut 𝓡.env wired) X O L LO copy rb rbd rc rcd rd rdd re red rp rpd ro rod rq rqd rh rhd rg rgd m1 m2 m3 m4 m5 m6 m7 m8 m9) z (and_then ! (get ! refl) (and_then ! (get ! refl) (no_more !))) (λ v.
    use1 𝓛 (later (some (λ (e : Dom.Denot). ((‵ (flft αs (left t)) ⊛ ‵ others') ⊛ ‵ (Dom.own_val e (v ∷ []))) ⊛ some (λ (ws : Lasts (g.ended X O rb rbd rc rcd rd rdd re red rp rpd ro rod rq rqd rh rhd rg rgd) κs' (s₀, (s, tt))). ‵ (lasts (g.ended X O rb rbd rc rcd rd rdd re red rp rpd ro rod rq rqd rh rhd rg rgd) κs' (s₀, (s, tt)) ws)
    ⊛ ‵ (LendsNamed R s i n (loan_names e)) ⊛ raw (fact 𝓤 (lent_parts rb.number e ≡ parts_of rb.BITS span (map rb.number xs))) ⊛ raw (fact 𝓤 (loans_of e ≡ span_loans rb.BITS span xs)) ⊛ raw (fact 𝓤 (HasShortBody rb.BITS (lent_parts rb.number e))))))) (id⊢ 𝓤 _) $ await ! tt $ pick ! (λ e. split ! $ split ! $ move ! (2 ∷ []) $ pick ! (λ ws. split ! $ drop ! $
    split ! $ move ! (1 ∷ []) $ split ! $ drop ! $ split ! $ heard ! _ (λ lent. heard ! _ (λ short. move ! (2 ∷ []) $ peeks ! Dom (Is Dom) (shows 𝓛 Dom) e (v ∷ []) (λ as_domain. let good = ((LD.lawful 𝓛).typed e (v ∷ []) as_domain).0 in
    -- [the domain; what the loan ends as; the tokens; what the lender keeps; the way back]
    lands_as ! refl refl good $
    let J = triple_of 𝓛 (h.signature X O rb rbd rc rcd rd rdd re red rp rpd ro rod rq rqd rh rhd rg rgd obo obod ooc oocd oba obad) (h.spec X O rb rbd rc rcd rd rdd re red rp rpd ro rod rq rqd rh rhd rg rgd obo obod ooc oocd oba obad 𝓛 𝓜.mem 𝓡.returns) in
    let z2 : J.Ghost = ((κs', qs', (bounds', tt), (e, (bit, tt)), (v ∷ [], (bool_vals bit, tt))), tt) in
    nothing ! $ owned ! bool _ (bool_Makes 𝓛) bit _ refl $ fjoin ! $ move ! (1 ∷ 0 ∷ []) $ fjoin ! $ move ! (2 ∷ 0 ∷ []) $ join ! $ nothing ! $ use0 𝓛 (raw (fact 𝓤 (κs.1.1.0 ⊑ O.lives))) (fact_i 𝓤 _ (emp 𝓤) alive_o) $ join ! $ use0 𝓛 (raw (fact 𝓤 (αs ⊑ X.lives))) (fact_i 𝓤 _ (emp 𝓤) alive') $ join ! $ move ! (1 ∷ 0 ∷ []) $ join ! $
    use1 𝓛 (raw (J.pre z2)) (id⊢ 𝓤 _) $
    calls_at ! (framed 𝓤 H 𝓜 𝓣) J (met_h 𝓤 𝓛 𝓜 𝓡 (code.calls-tests_span::filled_domain::filled_domain 𝓡.env wired) X O L LO copy rb rbd rc rcd rd rdd re red rp rpd ro rod rq rqd rh rhd rg rgd obo obod ooc oocd oba obad m1 m2 m3 m4 m5 m6 m7 m8 m9 m10 m11 m12) z2 (and_then ! (get ! refl) (and_then ! (get ! refl) (no_more !))) (λ w.
    use1 𝓛 (later (some (λ (d : Dom.Denot). ((‵ (flft αs (left t)) ⊛ ‵ others') ⊛ ‵ (Dom.own_val d (w ∷ []))) ⊛ some (λ (zs : Lasts (h.ended X O rb rbd rc rcd rd rdd re red rp rpd ro rod rq rqd rh rhd rg rgd obo obod ooc oocd oba obad) κs' (e, (bit, tt))). ‵ (lasts (h.ended X O rb rbd rc rcd rd rdd re red rp rpd ro rod rq rqd rh rhd rg rgd obo obod ooc oocd oba obad) κs' (e, (bit, tt)) zs)
    ⊛ raw (fact 𝓤 (loan_names d ≡ loan_names e)) ⊛ raw (fact 𝓤 (numbers_of_words rb.number (words_of_loans (loans_of d)) ≡ filled_loans rb.number rb.BITS oba.at_of bit (loans_of e))))))) (id⊢ 𝓤 _) $ await ! tt $ pick ! (λ d. split ! $ split ! $ move ! (2 ∷ []) $ pick ! (λ zs. split ! $ drop ! $ split ! $ heard ! _ (λ nm. heard ! _ (λ filled.
    move ! (1 ∷ []) $ peeks ! Dom (Is Dom) (shows 𝓛 Dom) d (w ∷ []) (λ as_filled. let good_d = ((LD.lawful 𝓛).typed d (w ∷ []) as_filled).0 in
    -- [the domain; the tokens; what the loan ends as; what the lender keeps; the way back]
    lands_as ! refl refl good_d $ sets ! (of_opd ! (get ! refl)) refl good_d $
    let Q = triple_of 𝓛 (k.signature X O rb rbd rc rcd rd rdd re red rp rpd ro rod rq rqd rh rhd rg rgd) (k.spec X O rb rbd rc rcd rd rdd re red rp rpd ro rod rq rqd rh rhd rg rgd 𝓛 𝓜.mem 𝓡.returns) in
    let z3 : Q.Ghost = ((κs', qs', (bounds', tt), (d, tt), (w ∷ [], tt)), tt) in
    nothing ! $ move ! (1 ∷ 0 ∷ []) $ fjoin ! $ move ! (1 ∷ 0 ∷ []) $ join ! $ nothing ! $ use0 𝓛 (raw (fact 𝓤 (κs.1.1.0 ⊑ O.lives))) (fact_i 𝓤 _ (emp 𝓤) alive_o) $ join ! $ use0 𝓛 (raw (fact 𝓤 (αs ⊑ X.lives))) (fact_i 𝓤 _ (emp 𝓤) alive') $ join ! $ move ! (1 ∷ 0 ∷ []) $ join ! $
    use1 𝓛 (raw (Q.pre z3)) (id⊢ 𝓤 _) $
    calls_at ! (framed 𝓤 H 𝓜 𝓣) Q (met_k 𝓤 𝓛 𝓜 𝓡 (code.calls-bitvec_span::domain::domain_mut::DomainMut::enclave 𝓡.env wired) X O L LO copy rb rbd rc rcd rd rdd re red rp rpd ro rod rq rqd rh rhd rg rgd m1 m2 m3 m4 m5 m6 m7 m8 m9) z3 (and_then ! (get ! refl) (no_more !)) (λ u.
    let Part : RattleType = E.the_row lft R Or rb rd rp ro rq rh rg in let LE = part_laws lft R Or rb rd rp ro rq rh rg LR LOr in let told_e = part_told lft R Or rb rd rp ro rq rh rg LR LOr in
    let Answer : RattleType = OP.the_row Part in let LA = option_laws Part LE in let told_a = option_told Part LE told_e in
    use1 𝓛 (later (some (λ (o : Answer.Denot). ((‵ (flft αs (left t)) ⊛ ‵ others') ⊛ ‵ (Answer.own_val o (u ∷ []))) ⊛ some (λ (ys : Lasts (k.ended X O rb rbd rc rcd rd rdd re red rp rpd ro rod rq rqd rh rhd rg rgd) κs' (d, tt)). ‵ (lasts (k.ended X O rb rbd rc rcd rd rdd re red rp rpd ro rod rq rqd rh rhd rg rgd) κs' (d, tt) ys)
    ⊛ ‵ (DomainRestsIfNone R d o) ⊛ raw (fact 𝓤 (MatchOption o (is_enclave (lent_parts rb.number d) ≡ false) (λ part. d ≡ Enclave part))))))) (id⊢ 𝓤 _) $ await ! tt $ pick ! (λ o. split ! $ split ! $ move ! (2 ∷ []) $ pick ! (λ ys. split ! $ drop ! $ split ! $ move ! (1 ∷ []) $ heard ! _ (λ chosen.
    -- [what each loan ends as, where there is no answer; the tokens; the answer; what the loan ends as; what the lender keeps; the way back]
    move ! (2 ∷ []) $ peeks ! Answer (Is Answer) (shows 𝓛 Answer) o (u ∷ []) (λ as_answer.
    let Ev : Env 𝓤 H = env fn.locals l in let chooses : Body = head (after 6 fn.body) in
    let Then : After 𝓤 H = any_q (after_seq 𝓤 H (Wp 𝓤 H 𝓣.C 𝓣.Λ Ev (after 7 fn.body) (at_return 𝓤 H Ev Post)) (at_return 𝓤 H Ev Post)) in
    let v : List X.Denot × List X.Denot × List X.Denot = (take i xs, take n (drop_l i xs), drop_l n (drop_l i xs)) in let last_words = words_or 𝓛 αs R Or rb rd rp ro rq rh rg d v in let all : List X.Denot = last_words.0 ++ (last_words.1 ++ last_words.2) in
    elim (some_or_none o) [
      | inl some_part ↦ (
          let part = some_part.0 in let pv : Val = told_e.val part in let is_some = some_part.1 in
          let spelled : u ∷ [] ≡ live 1 (vcons pv vnil) ∷ [] = told_a.tells o (u ∷ []) as_answer ∙ ap (λ (x : Answer.Denot). told_a.val x ∷ []) is_some in
          let good_o = ((LA.lawful 𝓛).typed o (live 1 (vcons pv vnil) ∷ []) (subst (λ (us : List Val). Is Answer o us) spelled as_answer)).0 in
          let is : d ≡ Enclave part = subst (λ (x : Answer.Denot). MatchOption x (is_enclave (lent_parts rb.number d) ≡ false) (λ part. d ≡ Enclave part)) is_some chosen in
          rewrite ! 0 (λ (x : Answer.Denot). ‵ (Answer.own_val x (u ∷ []))) is_some refl $ fpick ! (λ us. fsplit ! $ drop ! $ fpick ! (λ vss. fsplit ! $ drop ! $ fsplit ! $ move ! (1 ∷ []) $ drop ! $
          use1 𝓛 (‵ (Part.own_val part vss.0)) (id⊢ 𝓤 _) $ peeks ! Part (Is Part) (shows 𝓛 Part) part vss.0 (λ as_part. let p0 : vss.0 ≡ pv ∷ [] = told_e.tells part vss.0 as_part in
          let good_e = ((LE.lawful 𝓛).typed part (pv ∷ []) (subst (λ (us : List Val). Is Part part us) p0 as_part)).0 in
          rewrite ! 0 (λ (us : List Val). ‵ (Part.own_val part us)) p0 refl $ move ! (1 ∷ []) $ drop ! $
          -- [the part; the tokens; what the loan ends as; what the lender keeps; the way back]
          lands_as ! (ap only spelled) refl good_o $ first ! $ switches_on ! (get_tag ! (vrt ! refl (fld ! refl (stop !))) (whole !)) $ exec ! 𝓣.C 𝓣.Λ Ev (arm_body 0 chooses) Then $
          sets ! (of_opd ! (get_in ! (vrt ! refl (fld ! refl (stop !))) (in_variant ! 1 0 refl refl (whole !)))) refl good_e $
          let nothing_dropped : Dict = impl ("tests_span::Destruct++none::drop" ∷ []) (tcons (layout O) tnil) dnil in
          let W = triple_of 𝓛 (r.signature X O rb rbd rc rcd rd rdd re red rp rpd ro rod rq rqd rh rhd rg rgd nothing_dropped) (r.spec X O rb rbd rc rcd rd rdd re red rp rpd ro rod rq rqd rh rhd rg rgd nothing_dropped 𝓛 𝓜.mem 𝓡.returns) in
          let z4 : W.Ghost = ((κs', qs', (bounds', tt), (part, tt), (pv ∷ [], tt)), tt) in
          nothing ! $ move ! (1 ∷ 0 ∷ []) $ fjoin ! $ move ! (1 ∷ 0 ∷ []) $ join ! $ nothing ! $ use0 𝓛 (raw (fact 𝓤 (κs.1.1.0 ⊑ O.lives))) (fact_i 𝓤 _ (emp 𝓤) alive_o) $ join ! $ use0 𝓛 (raw (fact 𝓤 (αs ⊑ X.lives))) (fact_i 𝓤 _ (emp 𝓤) alive') $ join ! $ move ! (1 ∷ 0 ∷ []) $ join ! $
          use1 𝓛 (raw (W.pre z4)) (id⊢ 𝓤 _) $
          calls_at_last ! (framed 𝓤 H 𝓜 𝓣) W (met_r 𝓤 𝓛 𝓜 𝓡 (code.calls-bitvec_span::domain::partial_element_mut::PartialElementMut::drop 𝓡.env wired) X O L LO copy rb rbd rc rcd rd rdd re red rp rpd ro rod rq rqd rh rhd rg rgd nothing_dropped m1 m2 m3 m4 m5 m6 m7 m8 m9
          (glues "tests_span::Destruct++none::drop" 𝓡.env (code.calls-tests_span::Destruct++none::drop 𝓡.env wired) O LO M 𝓤 𝓛 𝓜 𝓡)) z4 (and_then ! (get ! refl) (no_more !)) (λ g.
          let Ends : Type 0 = Lasts (r.ended X O rb rbd rc rcd rd rdd re red rp rpd ro rod rq rqd rh rhd rg rgd nothing_dropped) κs' (part, tt) in
          use1 𝓛 (later (some (λ (b : Unit {0}). ((‵ (flft αs (left t)) ⊛ ‵ others') ⊛ ‵ (unit.own_val b (g ∷ []))) ⊛ some (λ (es : Ends). ‵ (lasts (r.ended X O rb rbd rc rcd rd rdd re red rp rpd ro rod rq rqd rh rhd rg rgd nothing_dropped) κs' (part, tt) es)
          ⊛ raw (fact 𝓤 ((see (Part.exit (at (0 ∷ []))) part es.0).0.now ≡ (memory_of part).now)))))) (id⊢ 𝓤 _) $ await ! tt $ pick ! (λ b. split ! $ split ! $ move ! (1 ∷ []) $ feq_l ! (λ is_unit.
          lands_last ! refl (subst (λ (x : Val). T (has_ty ty_unit x) × WT x) (sym (ap only is_unit)) (tt, tt)) $ exec ! 𝓣.C 𝓣.Λ Ev (after 7 fn.body) (at_ret Ev Post) $
          move ! (1 ∷ []) $ pick ! (λ es. split ! $ move ! (1 ∷ []) $ heard ! _ (λ stays. fsplit ! $ move ! (1 ∷ []) $ drop ! $
          use1 𝓛 (‵ (AllRest 𝓛 αs R Or rb rd rp ro rq rh rg (Enclave part) v)) (dropped_rests 𝓛 αs R Or rb rd rp ro rq rh rg part es.0 v stays) $ rewrite ! 0 (λ (x : Dom.Denot). ‵ (AllRest 𝓛 αs R Or rb rd rp ro rq rh rg x v)) (sym is) refl $
          sets ! (of_opd ! (unit_lit !)) refl (tt, tt) $
          -- [what each loan ends as; the tokens; what the loan ends as; what the lender keeps; the way back]
          move ! (2 ∷ []) $ rewrite ! 0 (λ (names : Option GName × Option GName × Option GName). ‵ (LendsNamed R s i n names)) (sym nm) refl $ move ! (0 ∷ 1 ∷ []) $ use2 𝓛 (‵ (finally R δ₀ all)) (whole_end 𝓛 R s i n (loan_names d) last_words) $
          -- [the last list of the loan; the tokens; what the lender keeps; the way back]
          move ! (1 ∷ []) $ split ! $ move ! (1 ∷ []) $ fsplit ! $ move ! (2 ∷ 0 ∷ []) $ use2 𝓛 (‵ (flft αs t)) (𝓛.lfts.lft_join αs t) $
          -- [the token of αs; that of O's; the last list; what the lender keeps; the way back]
          move ! (0 ∷ 4 ∷ []) $ apply ! $ use1 𝓛 (‵ (flft (α ∷ []) full_share) ⊛ ‵ (flft λs qs.1.0)) (id⊢ 𝓤 _) $ split ! $ lft_end ! tt $ use1 𝓛 (‵ (fdead αs)) (𝓛.lfts.dead-incl αs (α ∷ []) (meet_⊑_left (α ∷ []) λs)) $
          -- [αs is over; the token of R's lifetime; that of O's; the last list; what the lender keeps]
          move ! (0 ∷ 4 ∷ 3 ∷ []) $
          use3 𝓛 (later (given (length all ≡ len) (‵ (Slice.own_val (at_last m all) (mut_slice_vals m)) ⊛ ‵ (flft κ qs.0)))) (whole_back 𝓛 R (named 0) κ qs.0 αs m rm δ₀ all) $ await ! tt $ learn ! (λ as_long. split ! $
          -- [the slice; the token of κ; that of R's; that of O's]
          returns ! (look_at ! 0 refl) $ free_all ! refl $
          move ! (2 ∷ 3 ∷ []) $ fjoin ! $ move ! (2 ∷ 0 ∷ []) $ join ! $ nothing ! $ nothing ! $ fjoin ! $ move ! (2 ∷ 0 ∷ []) $ fjoin ! $ nothing ! $ fjoin ! $
          use0 𝓛 (raw (fact 𝓤 (map rb.number all ≡ filled_memory rb.BITS oba.at_of bit span (map rb.number xs)))) (fact_i 𝓤 _ (emp 𝓤) (filled-whole rb.number rb.BITS oba.at_of bit span xs fits.1 (loans_of e) (words_of_loans (loans_of d)) lent filled)) $
          feq_i ! (List Val) (vunit ∷ []) (vunit ∷ []) refl $
          -- [the result; the `ensures`; the slice; the tokens]
          keep ! (3 ∷ 2 ∷ 0 ∷ 1 ∷ []) $ by ! (leaves 𝓛 En hs c y vunit tt (tt, (all, (tt, tt))) (tt, (as_long, (tt, tt))))))))))))))
      | inr none ↦ (
          let spelled : u ∷ [] ≡ live 0 vnil ∷ [] = told_a.tells o (u ∷ []) as_answer ∙ ap (λ (x : Answer.Denot). told_a.val x ∷ []) none in
          let good_o = ((LA.lawful 𝓛).typed o (live 0 vnil ∷ []) (subst (λ (us : List Val). Is Answer o us) spelled as_answer)).0 in
          drop ! $ rewrite ! 0 (λ (x : Answer.Denot). ‵ (DomainRestsIfNone R d x)) none refl $ use1 𝓛 (‵ (AllRest 𝓛 αs R Or rb rd rp ro rq rh rg d v)) (none_rests 𝓛 αs R Or rb rd rp ro rq rh rg Part.Denot d v) $
          lands_as ! (ap only spelled) refl good_o $ first ! $ switches_on ! (get_tag ! (vrt ! refl (fld ! refl (stop !))) (whole !)) $ exec ! 𝓣.C 𝓣.Λ Ev (arm_body 1 chooses) Then $ skips ! $
          exec ! 𝓣.C 𝓣.Λ Ev (after 7 fn.body) (at_ret Ev Post) $
          sets ! (of_opd ! (unit_lit !)) refl (tt, tt) $
          -- [what each loan ends as; the tokens; what the loan ends as; what the lender keeps; the way back]
          move ! (2 ∷ []) $ rewrite ! 0 (λ (names : Option GName × Option GName × Option GName). ‵ (LendsNamed R s i n names)) (sym nm) refl $ move ! (0 ∷ 1 ∷ []) $ use2 𝓛 (‵ (finally R δ₀ all)) (whole_end 𝓛 R s i n (loan_names d) last_words) $
          -- [the last list of the loan; the tokens; what the lender keeps; the way back]
          move ! (1 ∷ []) $ split ! $ move ! (1 ∷ []) $ fsplit ! $ move ! (2 ∷ 0 ∷ []) $ use2 𝓛 (‵ (flft αs t)) (𝓛.lfts.lft_join αs t) $
          -- [the token of αs; that of O's; the last list; what the lender keeps; the way back]
          move ! (0 ∷ 4 ∷ []) $ apply ! $ use1 𝓛 (‵ (flft (α ∷ []) full_share) ⊛ ‵ (flft λs qs.1.0)) (id⊢ 𝓤 _) $ split ! $ lft_end ! tt $ use1 𝓛 (‵ (fdead αs)) (𝓛.lfts.dead-incl αs (α ∷ []) (meet_⊑_left (α ∷ []) λs)) $
          -- [αs is over; the token of R's lifetime; that of O's; the last list; what the lender keeps]
          move ! (0 ∷ 4 ∷ 3 ∷ []) $
          use3 𝓛 (later (given (length all ≡ len) (‵ (Slice.own_val (at_last m all) (mut_slice_vals m)) ⊛ ‵ (flft κ qs.0)))) (whole_back 𝓛 R (named 0) κ qs.0 αs m rm δ₀ all) $ await ! tt $ learn ! (λ as_long. split ! $
          -- [the slice; the token of κ; that of R's; that of O's]
          returns ! (look_at ! 0 refl) $ free_all ! refl $
          move ! (2 ∷ 3 ∷ []) $ fjoin ! $ move ! (2 ∷ 0 ∷ []) $ join ! $ nothing ! $ nothing ! $ fjoin ! $ move ! (2 ∷ 0 ∷ []) $ fjoin ! $ nothing ! $ fjoin ! $
          use0 𝓛 (raw (fact 𝓤 (map rb.number all ≡ filled_memory rb.BITS oba.at_of bit span (map rb.number xs)))) (fact_i 𝓤 _ (emp 𝓤) (filled-whole rb.number rb.BITS oba.at_of bit span xs fits.1 (loans_of e) (words_of_loans (loans_of d)) lent filled)) $
          feq_i ! (List Val) (vunit ∷ []) (vunit ∷ []) refl $
          -- [the result; the `ensures`; the slice; the tokens]
          keep ! (3 ∷ 2 ∷ 0 ∷ 1 ∷ []) $ by ! (leaves 𝓛 En hs c y vunit tt (tt, (all, (tt, tt))) (tt, (as_long, (tt, tt))))))
    ])))))))))))))))))))))))))
