-- `domain_mut` computes where the span's parts lie, and makes a domain of the pieces that `pieces_mut` lends. Assumes `Logic`.
use Rattle.std.proofs.Common.{◌≡◌, ℕ, ◌+◌, ◌-◌, ◌^◌, ◌<◌, ◌≤◌, pos, ◌≤ℤ◌, List, [], ◌∷◌, Bool, true, false, not, refl, sym, ap, subst, ◌∙◌, arith, length, map, take, drop as drop_l, MutBor}
use Rattle.std.specs.Prelude.{nat_abs, Option, is_some, IfSome}
use Rattle.std.proofs.raw_atomic.Walks.{proved, leaves}
use mir.Syntax.{dcons, dnil, a_type, named, w64}
use mir.Val.{Val, vint}
use mir.MapTy.{inst_fn}
use base.Logic.{SProp, emp, id⊢}
use base.Fml.{Lft, Fml, GName, ftrue, fsep, flft}
use types.Kit.{‵, raw, ◌⊛◌, some, later, ◌$◌, ◌∵◌, !, qed, by, move, keep, drop, split, join, fsplit, fjoin, pick, use0, use1, await, rewrite}
use types.Run.{stop, fld, hop, addr, from, of_opd, no_more, and_then, returns, enter}
use types.ByLocal.{alloc_all, pass_all, free_all, look_at, get, get_in, sets, lands_as, look_in_at}
use types.Part.{agg, sub, whole}
use contract.Running.{tables}
use contract.Monad.{fact, fact_i}
use contract.BorrowLft.{◌⊑◌}
use contract.Lifetimes.{Lfts, Shares}
use denote.Exit.{no}
use denote.Laws.{Is, shows}
use denote.RattleType.{RattleType, owns}
use denote.Signature.{types_at, plain, mut_slice_of, named_lft}
use denote.Steps.{nothing, heard, owned, peeks, facts, only}
use denote.Param.{param, copied, bounded}
use denote.Param.Laws.{param_laws, copied_laws}
use denote.Builtin.{usize, bool}
use denote.Plain.{uint_Makes, bool_Makes, bool_vals}
use denote.Slice.{slice_val, mut_slice_vals, mut_slice_Tells}
use denote.Struct.Laws.{makes}
use denote.Triple.Spec.{triple_of}
use denote.Triple.Clauses.{Lasts, lasts}
use denote.Triple.Call.{calls_at}
use denote.Triple.Table.{framed}
use denote.Triple.Walked.{Stays, stay_dropped, walk_of, Goes-dropped, Goes-spent_slice}
use Rattle.bitvec_ptr.specs.Place.{words_met}
use Rattle.bitvec_span.specs.Span.{Span, Fits}
use Rattle.bitvec_span.specs.BitSpan.{span_of}
use Rattle.bitvec_span.specs.Parts.{parts_of, HasShortBody}
use Rattle.bitvec_span.specs.Slot.{slot_at}
use Rattle.bitvec_span.specs.Lending.{LendsNamed}
use Rattle.bitvec_span.specs.Pieces.{names_of, piece_loans}
use Rattle.bitvec_span.specs.Shape.{shape_of}
use Rattle.bitvec_span.specs.Loans.{is_inside, has_head, has_tail, words_before, body_words, loan_parts, span_loans}
use Rattle.bitvec_span.specs.DomainMut.{loan_names, loans_of, lent_parts}
use Rattle.bitvec_span.proofs.LoanLemmas.{loans-within, head-within, tail-within, inside-alone, parts-from-loans, loan_has, lent_at, lent_unless}
use Rattle.bitvec_span.proofs.ItemLemmas.{short-words_of}
use Rattle.bitvec_ptr.proofs.PlaceOrder.{bit_below}
use Rattle.bitvec_span.specs.contracts.ptr.span.BitSpan as S
use Rattle.bitvec_span.proofs.ptr.span.BitSpan.TheLaws.{the_told as span_told, the_row_laws as span_laws, the_plain as span_plain}
use Rattle.bitvec_span.specs.contracts.domain.shape.Shape.{the_row as Outline, the_type as outline_type}
use Rattle.bitvec_span.proofs.domain.shape.Shape.TheLaws.{the_told as outline_told, the_row_laws as outline_laws, the_plain as outline_plain}
use Rattle.bitvec_span.specs.contracts.lend.Pieces as P
use Rattle.bitvec_span.proofs.lend.Pieces.TheLaws.{the_row_laws as pieces_laws}
use Rattle.bitvec_span.specs.contracts.domain.domain_mut.DomainMut as D
use Rattle.bitvec_span.proofs.domain.domain_mut.DomainMut.TheLaws.{the_row_laws as domain_laws}
use Rattle.bitvec_span.specs.contracts.ptr.span.BitSpan.domain_mut as f
use Rattle.bitvec_span.specs.contracts.ptr.span.BitSpan.domain_mut.Key.{name as #self}
use Rattle.bitvec_span.proofs.ptr.span.BitSpan.domain_mut.Statement.{statement}
use Rattle.bitvec_span.proofs.ptr.span.BitSpan.domain_mut.Code as code
use Rattle.bitvec_span.specs.contracts.ptr.span.BitSpan.shape as n1
use Rattle.bitvec_span.proofs.ptr.span.BitSpan.shape.Met.{met as met_n1}
use Rattle.bitvec_span.specs.contracts.lend.pieces_mut as g
use Rattle.bitvec_span.proofs.lend.pieces_mut.Met.{met}
use Rattle.bitvec_span.specs.contracts.ptr.span.BitSpan.assemble as h
use Rattle.bitvec_span.proofs.ptr.span.BitSpan.assemble.Met.{met as met_h}

pub domain_mut_spec : {M : Type 1} → statement M
domain_mut_spec 𝓤 𝓛 𝓜 𝓡 wired X O L LO copy rb rbd rc rcd rd rdd re red rp rpd ro rod rq rqd rh rhd rg rgd m1 m2 m3 m4 m5 m6 m7 m8 m9 =
    let H = 𝓛.H in let 𝓣 = tables 𝓤 H 𝓜 𝓡 𝓡.env in let R : RattleType = copied 0 X in let Or : RattleType = param 1 O in let En = f.ended X O rb rbd rc rcd rd rdd re red rp rpd ro rod rq rqd rh rhd rg rgd in
    let inst = bounded (a_type ∷ a_type ∷ []) (X, (O, tt)) (dcons rbd (dcons rcd (dcons rdd (dcons red (dcons rpd (dcons rod (dcons rqd (dcons rhd (dcons rgd dnil))))))))) in let fn = inst_fn inst code.function in
    let c = f.clauses X O rb rbd rc rcd rd rdd re red rp rpd ro rod rq rqd rh rhd rg rgd 𝓛 𝓜.mem 𝓡.returns in
    let LR = copied_laws 0 X L in let LOr = param_laws 1 O LO in
    let Spans : RattleType = S.the_row R Or rb rd rp ro rq rh rg in let told = span_told R Or rb rd rp ro rq rh rg LR LOr in
    let mk = makes (S.the_type R Or rb rd rp ro rq rh rg) (span_plain R Or rb rd rp ro rq rh rg) 𝓛 in
    let outline_makes = makes outline_type outline_plain 𝓛 in
    let hs : Stays En.signature.params En.kept = (stay_dropped (plain (λ _. Spans)) no, (stay_dropped (mut_slice_of (0 ∷ []) tt (plain (λ _. R))) no, tt)) in
    proved 𝓛 En hs c 𝓜 𝓡 (Goes-dropped 𝓛 3 (plain (λ _. Spans)) no (λ κs x w. refl), (Goes-spent_slice 𝓛 3 (0 ∷ []) tt (plain (λ _. R)), tt))
    (#self inst) fn (code.unfolded 𝓤 H 𝓜 𝓡 wired (X, (O, tt)) rbd rcd rdd red rpd rod rqd rhd rgd)
    (λ κs. ((λ x. told.val x ∷ []), (mut_slice_vals, tt)))
    (λ κs. (told.tells, (mut_slice_Tells (named 0) κs.0 R, tt))) (λ κs qs bounds a gh are.
    let κ : Lft = κs.0 in let s = a.0 in let span : Span = span_of s in let m : MutBor (List X.Denot) = a.1.0 in let xs : List X.Denot = m.now in let sv : Val = told.val s in
    let i : ℕ = words_before span in let n : ℕ = body_words rb.BITS span in let on0 : Bool = has_head span in let on1 : Bool = not (is_inside rb.BITS span) in let on2 : Bool = has_tail rb.BITS span in
    let sh : Outline.Denot = shape_of rb.BITS span in let hv : Val = outline_told.val sh in
    let len : ℕ = length xs in let some_others : Fml = fsep (flft κs.1.0 qs.1.0) ftrue in let others : Fml = fsep (flft κs.1.0 qs.1.0) (fsep (flft κs.1.1.0 qs.1.1.0) ftrue) in
    let lft = named_lft 3 0 tt κs in
    let Row : RattleType = P.the_row lft (param 0 X) in let LP = pieces_laws lft (param 0 X) (param_laws 0 X L) in
    let Dom : RattleType = D.the_row lft R Or rb rd rp ro rq rh rg in let LD = domain_laws lft R Or rb rd rp ro rq rh rg LR LOr in
    let y : (walk_of 𝓛 En hs c).Ghost = ((κs, qs, bounds, a, (sv ∷ [], (mut_slice_vals m, tt))), gh) in let Post : Val → SProp 𝓤 = (walk_of 𝓛 En hs c).post y in
    qed 𝓛 (((‵ (flft κ qs.0) ⊛ ‵ others) ⊛ ‵ (owns (types_at En.signature.params κs) a y.0.4)) ∷ raw (fact 𝓤 (κs.1.0 ⊑ X.lives)) ∷ raw (fact 𝓤 (κs.1.1.0 ⊑ O.lives)) ∷ raw (fact 𝓤 (Fits rb.BITS span len)) ∷ []) ∵
    move ! (1 ∷ []) $ heard ! (κs.1.0 ⊑ X.lives) (λ alive_in. move ! (1 ∷ []) $ heard ! (κs.1.1.0 ⊑ O.lives) (λ alive_o. move ! (1 ∷ []) $ heard ! (Fits rb.BITS span len) (λ fits.
    split ! $ move ! (1 ∷ []) $ fsplit ! $ drop ! $ fsplit ! $ move ! (1 ∷ []) $ drop ! $
    -- [the slice; the tokens]
    let fl : len < 2 ^ 64 = are.1.0.0.1.0 in let is_span : Is Spans s (sv ∷ []) = are.0 in let good_s = (((span_laws R Or rb rd rp ro rq rh rg LR LOr).lawful 𝓛).typed s (sv ∷ []) is_span).0 in
    enter ! 𝓣.C 𝓣.Λ fn (sv ∷ slice_val m.ref_ptr len ∷ []) Post $
    alloc_all ! (λ l. pass_all ! refl (good_s, ((tt, (tt, (record { fits = fl }, tt))), tt)) $
    move ! (1 ∷ []) $ split ! $ move ! (1 ∷ 2 ∷ []) $
    -- [the other tokens; the slice; the token of κ]
    let κs2 : Lfts 2 = (κs.1.0, (κs.1.1.0, tt)) in let qs2 : Shares 2 = (qs.1.0, (qs.1.1.0, tt)) in
    -- shape
    let F = triple_of 𝓛 (n1.signature X O rb rbd rc rcd rd rdd re red rp rpd ro rod rq rqd rh rhd rg rgd) (n1.spec X O rb rbd rc rcd rd rdd re red rp rpd ro rod rq rqd rh rhd rg rgd 𝓛 𝓜.mem 𝓡.returns) in
    let z1 : F.Ghost = ((κs2, qs2, tt, (s, tt), (sv ∷ [], tt)), tt) in
    nothing ! $ owned ! Spans _ mk s _ is_span $ fjoin ! $ move ! (1 ∷ 0 ∷ []) $ join ! $ use0 𝓛 (raw (fact 𝓤 (pos 0 ≤ℤ span.word))) (fact_i 𝓤 _ (emp 𝓤) fits.0) $ use0 𝓛 (raw (fact 𝓤 (κs.1.1.0 ⊑ O.lives))) (fact_i 𝓤 _ (emp 𝓤) alive_o) $ join ! $
    use0 𝓛 (raw (fact 𝓤 (κs.1.0 ⊑ X.lives))) (fact_i 𝓤 _ (emp 𝓤) alive_in) $ join ! $ move ! (1 ∷ 0 ∷ []) $ join ! $ use1 𝓛 (raw (F.pre z1)) (id⊢ 𝓤 _) $
    calls_at ! (framed 𝓤 H 𝓜 𝓣) F (met_n1 𝓤 𝓛 𝓜 𝓡 (code.calls-bitvec_span::ptr::span::BitSpan::shape 𝓡.env wired) X O L LO copy rb rbd rc rcd rd rdd re red rp rpd ro rod rq rqd rh rhd rg rgd m1 m2 m3 m4 m5 m6 m7 m8 m9) z1 (and_then ! (get ! refl) (no_more !)) (λ v1.
    use1 𝓛 (later (some (λ (r : Outline.Denot). (‵ others ⊛ ‵ (Outline.own_val r (v1 ∷ []))) ⊛ some (λ (ws : Lasts (n1.ended X O rb rbd rc rcd rd rdd re red rp rpd ro rod rq rqd rh rhd rg rgd) κs2 (s, tt)). ‵ (lasts (n1.ended X O rb rbd rc rcd rd rdd re red rp rpd ro rod rq rqd rh rhd rg rgd) κs2 (s, tt) ws)
    ⊛ raw (fact 𝓤 (r ≡ shape_of rb.BITS span)) ⊛ raw (fact 𝓤 (r.tail ≤ rb.BITS)))))) (id⊢ 𝓤 _) $ await ! tt $ pick ! (λ r. split ! $ split ! $ move ! (2 ∷ []) $ pick ! (λ ws. split ! $ drop ! $ split ! $ heard ! _ (λ found. heard ! _ (λ most. move ! (1 ∷ []) $ facts ! Outline (Is Outline) (shows 𝓛 Outline) r (v1 ∷ []) (λ as_found.
    let is_outline : Is Outline sh (v1 ∷ []) = subst (λ (k : Outline.Denot). Is Outline k (v1 ∷ [])) found as_found in let word : v1 ∷ [] ≡ hv ∷ [] = outline_told.tells sh (v1 ∷ []) is_outline in
    let is_shape : Is Outline sh (hv ∷ []) = subst (λ (vs : List Val). Is Outline sh vs) word is_outline in let end : sh.tail ≤ rb.BITS = subst (λ (k : Outline.Denot). k.tail ≤ rb.BITS) found most in
    lands_as ! (ap only word) refl (((outline_laws.lawful 𝓛).typed sh (hv ∷ []) is_shape).0) $
    -- [the other tokens; the slice; the token of κ]
    let within = loans-within rb.BITS span in let le : i + n ≤ len = omega (arith, within, fits.1) in let fi : i < 2 ^ 64 = omega (arith, le, fl) in let fn' : n < 2 ^ 64 = omega (arith, le, fl) in
    sets ! (addr ! (from ! (fld ! refl (hop ! (look_in_at ! 2 (sub ! 0 refl (whole !))) (stop !))))) refl (tt, tt) $
    sets ! (agg ! (and_then ! (get ! refl) (and_then ! (get_in ! (fld ! refl (stop !)) (sub ! 1 refl (whole !))) (no_more !)))) refl (tt, (tt, (record { fits = fl }, tt))) $
    let G = triple_of 𝓛 (g.signature X) (g.spec X 𝓛 𝓜.mem 𝓡.returns) in
    let z : G.Ghost = (((κs.0, (κs.1.0, tt)), (qs.0, (qs.1.0, tt)), bounds, (m, (i, (n, (on0, (on1, (on2, tt)))))), (mut_slice_vals m, (vint w64 i ∷ [], (vint w64 n ∷ [], (bool_vals on0, (bool_vals on1, (bool_vals on2, tt))))))), tt) in
    fsplit ! $ nothing ! $ move ! (1 ∷ 0 ∷ []) $ fjoin ! $ move ! (3 ∷ 0 ∷ []) $ join ! $
    -- [the callee's tokens; the other tokens; the slice]
    nothing ! $ owned ! bool _ (bool_Makes 𝓛) on2 _ refl $ fjoin ! $ owned ! bool _ (bool_Makes 𝓛) on1 _ refl $ fjoin ! $ owned ! bool _ (bool_Makes 𝓛) on0 _ refl $ fjoin ! $ owned ! usize _ (uint_Makes 𝓛 w64) n _ (refl, fn') $ fjoin ! $ owned ! usize _ (uint_Makes 𝓛 w64) i _ (refl, fi) $ fjoin ! $
    move ! (3 ∷ 0 ∷ []) $ fjoin ! $ move ! (1 ∷ 0 ∷ []) $ join ! $
    use0 𝓛 (raw (fact 𝓤 (i + n ≤ len))) (fact_i 𝓤 _ (emp 𝓤) le) $ use0 𝓛 (raw (fact 𝓤 (κs.1.0 ⊑ X.lives))) (fact_i 𝓤 _ (emp 𝓤) alive_in) $ join ! $ move ! (1 ∷ 0 ∷ []) $ join ! $
    use1 𝓛 (raw (G.pre z)) (id⊢ 𝓤 _) $
    calls_at ! (framed 𝓤 H 𝓜 𝓣) G (met 𝓤 𝓛 𝓜 𝓡 (code.calls-bitvec_span::lend::pieces_mut 𝓡.env wired) X L) z
    (and_then ! (get ! refl) (and_then ! (get_in ! (fld ! refl (stop !)) (sub ! 5 refl (whole !))) (and_then ! (get_in ! (fld ! refl (stop !)) (sub ! 6 refl (whole !))) (and_then ! (get_in ! (fld ! refl (stop !)) (sub ! 2 refl (whole !))) (and_then ! (get_in ! (fld ! refl (stop !)) (sub ! 3 refl (whole !)))
    (and_then ! (get_in ! (fld ! refl (stop !)) (sub ! 4 refl (whole !))) (no_more !))))))) (λ v.
    use1 𝓛 (later (some (λ (d : Row.Denot). ((‵ (flft κ qs.0) ⊛ ‵ some_others) ⊛ ‵ (Row.own_val d (v ∷ []))) ⊛ some (λ (ws : Lasts (g.ended X) (κs.0, (κs.1.0, tt)) z.0.3). ‵ (lasts (g.ended X) (κs.0, (κs.1.0, tt)) z.0.3 ws)
    ⊛ ‵ (LendsNamed R m i n (names_of d)) ⊛ raw (fact 𝓤 ((is_some d.front ≡ on0) × IfSome d.front (λ (r : MutBor (List X.Denot)). r.now ≡ take i xs)))
    ⊛ raw (fact 𝓤 ((is_some d.body ≡ on1) × IfSome d.body (λ (r : MutBor (List X.Denot)). r.now ≡ take n (drop_l i xs)))) ⊛ raw (fact 𝓤 ((is_some d.back ≡ on2) × IfSome d.back (λ (r : MutBor (List X.Denot)). r.now ≡ drop_l n (drop_l i xs)))))))) (id⊢ 𝓤 _) $ await ! tt $ pick ! (λ d. split ! $ split ! $ move ! (2 ∷ []) $ pick ! (λ ws. split ! $ drop ! $
    split ! $ move ! (1 ∷ []) $ split ! $ heard ! _ (λ fr. split ! $ heard ! _ (λ bo. heard ! _ (λ ba. move ! (2 ∷ []) $ peeks ! Row (Is Row) (shows 𝓛 Row) d (v ∷ []) (λ as_pieces. let good = ((LP.lawful 𝓛).typed d (v ∷ []) as_pieces).0 in
    -- [the pieces; what the slice ends as; the callee's tokens; the other tokens]
    lands_as ! refl refl good $ sets ! (of_opd ! (get ! refl)) refl good $
    let Front : List X.Denot → Type 0 = λ l. (nat_abs span.word < length l) × (0 < words_met rb.BITS span.head span.len) in let Back : List X.Denot → Type 0 = λ l. (0 < length l) × (0 < words_met rb.BITS span.head span.len) in
    let Kind : Type 0 = is_some d.body ≡ false → (is_some d.front ≡ true) × (is_some d.back ≡ false) in
    let r1 : IfSome d.front (λ (r : MutBor (List X.Denot)). Front r.now) = loan_has d.front on0 (take i xs) Front fr.0 fr.1 (head-within rb.BITS span xs fits.1) in
    let r2 : IfSome d.back (λ (r : MutBor (List X.Denot)). Back r.now) = loan_has d.back on2 (drop_l n (drop_l i xs)) Back ba.0 ba.1 (tail-within rb.BITS span xs fits.1) in
    let r3 : Kind = λ t. let p = inside-alone rb.BITS span (sym bo.0 ∙ t) in (fr.0 ∙ p.0, ba.0 ∙ p.1) in
    let K = triple_of 𝓛 (h.signature X O rb rbd rc rcd rd rdd re red rp rpd ro rod rq rqd rh rhd rg rgd) (h.spec X O rb rbd rc rcd rd rdd re red rp rpd ro rod rq rqd rh rhd rg rgd 𝓛 𝓜.mem 𝓡.returns) in
    let z2 : K.Ghost = ((κs, qs, bounds, (s, (sh, (d, tt))), (sv ∷ [], (hv ∷ [], (v ∷ [], tt)))), tt) in
    move ! (2 ∷ []) $ split ! $ move ! (1 ∷ []) $ fsplit ! $ move ! (1 ∷ []) $ drop ! $ move ! (0 ∷ 4 ∷ []) $ fjoin ! $ move ! (1 ∷ 0 ∷ []) $ join ! $
    -- [the tokens; the pieces; what the slice ends as]
    move ! (1 ∷ []) $ nothing ! $ move ! (1 ∷ 0 ∷ []) $ fjoin ! $ owned ! Outline _ outline_makes sh _ is_shape $ fjoin ! $ owned ! Spans _ mk s _ is_span $ fjoin ! $ move ! (1 ∷ 0 ∷ []) $ join ! $
    use0 𝓛 (raw (fact 𝓤 Kind)) (fact_i 𝓤 _ (emp 𝓤) r3) $ use0 𝓛 (raw (fact 𝓤 (IfSome d.back (λ (r : MutBor (List X.Denot)). Back r.now)))) (fact_i 𝓤 _ (emp 𝓤) r2) $ join ! $
    use0 𝓛 (raw (fact 𝓤 (IfSome d.front (λ (r : MutBor (List X.Denot)). Front r.now)))) (fact_i 𝓤 _ (emp 𝓤) r1) $ join ! $ use0 𝓛 (raw (fact 𝓤 (sh.tail ≤ rb.BITS))) (fact_i 𝓤 _ (emp 𝓤) end) $ join ! $
    use0 𝓛 (raw (fact 𝓤 (sh ≡ shape_of rb.BITS span))) (fact_i 𝓤 _ (emp 𝓤) refl) $ join ! $ use0 𝓛 (raw (fact 𝓤 (pos 0 ≤ℤ span.word))) (fact_i 𝓤 _ (emp 𝓤) fits.0) $ join ! $
    use0 𝓛 (raw (fact 𝓤 (κs.1.1.0 ⊑ O.lives))) (fact_i 𝓤 _ (emp 𝓤) alive_o) $ join ! $
    use0 𝓛 (raw (fact 𝓤 (κs.1.0 ⊑ X.lives))) (fact_i 𝓤 _ (emp 𝓤) alive_in) $ join ! $ move ! (1 ∷ 0 ∷ []) $ join ! $ use1 𝓛 (raw (K.pre z2)) (id⊢ 𝓤 _) $
    calls_at ! (framed 𝓤 H 𝓜 𝓣) K (met_h 𝓤 𝓛 𝓜 𝓡 (code.calls-bitvec_span::ptr::span::BitSpan::assemble 𝓡.env wired) X O L LO copy rb rbd rc rcd rd rdd re red rp rpd ro rod rq rqd rh rhd rg rgd m1 m2 m3 m4 m5 m6 m7 m8 m9) z2 (and_then ! (get ! refl) (and_then ! (get ! refl) (and_then ! (get ! refl) (no_more !)))) (λ w.
    use1 𝓛 (later (some (λ (e : Dom.Denot). ((‵ (flft κ qs.0) ⊛ ‵ others) ⊛ ‵ (Dom.own_val e (w ∷ []))) ⊛ some (λ (zs : Lasts (h.ended X O rb rbd rc rcd rd rdd re red rp rpd ro rod rq rqd rh rhd rg rgd) κs (s, (sh, (d, tt)))). ‵ (lasts (h.ended X O rb rbd rc rcd rd rdd re red rp rpd ro rod rq rqd rh rhd rg rgd) κs (s, (sh, (d, tt))) zs)
    ⊛ raw (fact 𝓤 (loan_names e ≡ names_of d)) ⊛ raw (fact 𝓤 (loans_of e ≡ piece_loans rb.BITS span d)))))) (id⊢ 𝓤 _) $ await ! tt $ pick ! (λ e. split ! $ split ! $ move ! (2 ∷ []) $ pick ! (λ zs. split ! $ drop ! $ split ! $ heard ! _ (λ same. heard ! _ (λ lent.
    -- [the tokens; the domain; what the slice ends as]
    rewrite ! 2 (λ (names : Option GName × Option GName × Option GName). ‵ (LendsNamed R m i n names)) (sym same) refl $
    move ! (1 ∷ []) $ peeks ! Dom (Is Dom) (shows 𝓛 Dom) e (w ∷ []) (λ as_domain. lands_as ! refl refl (((LD.lawful 𝓛).typed e (w ∷ []) as_domain).0) $
    returns ! (look_at ! 0 refl) $ free_all ! refl $
    -- [the domain; the tokens; what the slice ends as]
    let l0 = lent_at d.front on0 (take i xs) (slot_at rb.BITS span 0 (nat_abs span.word)) fr.0 fr.1 in let l1 = lent_unless d.body (is_inside rb.BITS span) (take n (drop_l i xs)) bo.0 bo.1 in
    let l2 = lent_at d.back on2 (drop_l n (drop_l i xs)) (slot_at rb.BITS span (words_met rb.BITS span.head span.len - 1) 0) ba.0 ba.1 in
    let loans : loans_of e ≡ span_loans rb.BITS span xs = lent ∙ (λ k. (l0 k, l1 k, l2 k)) in
    let parts : lent_parts rb.number e ≡ parts_of rb.BITS span (map rb.number xs) = ap (loan_parts rb.number) loans ∙ parts-from-loans rb.BITS span rb.number xs in
    let short : HasShortBody rb.BITS (lent_parts rb.number e) = short-words_of rb.BITS (λ k. k) span rb.number xs (lent_parts rb.number e) (bit_below rb.BITS s.head m1.width_at_least_8 s.in_word) s.short fits parts in
    use0 𝓛 (raw (fact 𝓤 (HasShortBody rb.BITS (lent_parts rb.number e)))) (fact_i 𝓤 _ (emp 𝓤) short) $ use0 𝓛 (raw (fact 𝓤 (loans_of e ≡ span_loans rb.BITS span xs))) (fact_i 𝓤 _ (emp 𝓤) loans) $ join ! $
    use0 𝓛 (raw (fact 𝓤 (lent_parts rb.number e ≡ parts_of rb.BITS span (map rb.number xs)))) (fact_i 𝓤 _ (emp 𝓤) parts) $ join ! $ move ! (3 ∷ 0 ∷ []) $ join ! $
    -- [the `ensures`; the domain; the tokens]
    nothing ! $ nothing ! $ fjoin ! $ nothing ! $ fjoin ! $ keep ! (3 ∷ 0 ∷ 2 ∷ 1 ∷ []) $
    by ! (leaves 𝓛 En hs c y w e (tt, (tt, tt)) (tt, (tt, tt)))))))))))))))))))))))))))
