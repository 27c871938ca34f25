-- `bit_domain_mut` lends the parts by `domain_mut`, and makes stretches of bits of them. Assumes `Logic`.
use Rattle.std.proofs.Common.{◌≡◌, ℕ, ◌^◌, ◌<◌, List, [], ◌∷◌, Bool, refl, ap, ◌∙◌, length, map, MutBor}
use Rattle.std.specs.Prelude.{Option, is_some}
use Rattle.std.proofs.raw_atomic.Walks.{proved, leaves}
use mir.Syntax.{dcons, dnil, a_type, named}
use mir.Val.{Val}
use mir.MapTy.{inst_fn}
use base.Logic.{SProp, emp, id⊢}
use base.Fml.{Lft, Fml, GName, ftrue, fsep, flft}
use types.Kit.{‵, raw, ◌⊛◌, some, later, ◌$◌, ◌∵◌, !, qed, by, move, keep, drop, split, join, fsplit, fjoin, pick, use0, use1, await, rewrite}
use types.Run.{stop, fld, hop, addr, from, no_more, and_then, returns, enter}
use types.ByLocal.{alloc_all, pass_all, free_all, look_at, get, get_in, sets, lands_as, look_in_at}
use types.Part.{agg, sub, whole}
use contract.Running.{tables}
use contract.Monad.{fact, fact_i}
use contract.BorrowLft.{◌⊑◌}
use denote.Exit.{no}
use denote.Laws.{Is, shows}
use denote.RattleType.{RattleType, owns}
use denote.Signature.{types_at, plain, mut_slice_of, named_lft}
use denote.Steps.{nothing, heard, owned, peeks}
use denote.Param.{param, copied, bounded}
use denote.Param.Laws.{param_laws, copied_laws}
use denote.Slice.{slice_val, mut_slice_vals, mut_slice_Tells}
use denote.Struct.Laws.{makes}
use denote.Triple.Spec.{triple_of}
use denote.Triple.Clauses.{Lasts, lasts}
use denote.Triple.Call.{calls_at}
use denote.Triple.Table.{framed}
use denote.Triple.Walked.{Stays, stay_dropped, walk_of, Goes-dropped, Goes-spent_slice}
use Rattle.bitvec_span.specs.Span.{Span, Fits}
use Rattle.bitvec_span.specs.BitSpan.{span_of}
use Rattle.bitvec_span.specs.Parts.{parts_of, HasShortBody}
use Rattle.bitvec_span.specs.Lending.{LendsNamed}
use Rattle.bitvec_span.specs.BitParts.{bit_parts_of}
use Rattle.bitvec_span.specs.Loans.{has_head, has_tail, words_before, body_words, span_loans}
use Rattle.bitvec_span.specs.DomainMut.{loan_names, loans_of, lent_parts}
use Rattle.bitvec_span.specs.BitLoans.{names_if, stretch_loans}
use Rattle.bitvec_span.specs.BitDomainMut.{lent_bit_parts, bit_loan_names, bit_loans_of}
use Rattle.bitvec_span.proofs.StretchLemmas.{names-present}
use Rattle.bitvec_span.specs.contracts.ptr.span.BitSpan as S
use Rattle.bitvec_span.proofs.ptr.span.BitSpan.TheLaws.{the_told as span_told, the_row_laws as span_laws, the_plain as span_plain}
use Rattle.bitvec_span.specs.contracts.domain.domain_mut.DomainMut as D
use Rattle.bitvec_span.proofs.domain.domain_mut.DomainMut.TheLaws.{the_row_laws as domain_laws}
use Rattle.bitvec_span.specs.contracts.domain.bit_domain_mut.BitDomainMut as B
use Rattle.bitvec_span.proofs.domain.bit_domain_mut.BitDomainMut.TheLaws.{the_row_laws as bits_laws}
use Rattle.bitvec_span.specs.contracts.ptr.span.BitSpan.bit_domain_mut as f
use Rattle.bitvec_span.specs.contracts.ptr.span.BitSpan.bit_domain_mut.Key.{name as #self}
use Rattle.bitvec_span.proofs.ptr.span.BitSpan.bit_domain_mut.Statement.{statement}
use Rattle.bitvec_span.proofs.ptr.span.BitSpan.bit_domain_mut.Code as code
use Rattle.bitvec_span.specs.contracts.ptr.span.BitSpan.domain_mut as g
use Rattle.bitvec_span.proofs.ptr.span.BitSpan.domain_mut.Met.{met as met_g}
use Rattle.bitvec_span.specs.contracts.domain.domain_mut.DomainMut.into_bit_domain as h
use Rattle.bitvec_span.proofs.domain.domain_mut.DomainMut.into_bit_domain.Met.{met as met_h}

pub bit_domain_mut_spec : {M : Type 1} → statement M
bit_domain_mut_spec 𝓤 𝓛 𝓜 𝓡 wired X O L LO copy rb rbd rc rcd rd rdd re red rp rpd ro rod rq rqd rh rhd rg rgd m1 m2 m3 m4 m5 m6 m7 m8 m9 =
    let H = 𝓛.H in let 𝓣 = tables 𝓤 H 𝓜 𝓡 𝓡.env in let R : RattleType = copied 0 X in let Or : RattleType = param 1 O in let En = f.ended X O rb rbd rc rcd rd rdd re red rp rpd ro rod rq rqd rh rhd rg rgd in
    let inst = bounded (a_type ∷ a_type ∷ []) (X, (O, tt)) (dcons rbd (dcons rcd (dcons rdd (dcons red (dcons rpd (dcons rod (dcons rqd (dcons rhd (dcons rgd dnil))))))))) in let fn = inst_fn inst code.function in
    let c = f.clauses X O rb rbd rc rcd rd rdd re red rp rpd ro rod rq rqd rh rhd rg rgd 𝓛 𝓜.mem 𝓡.returns in
    let LR = copied_laws 0 X L in let LOr = param_laws 1 O LO in
    let Spans : RattleType = S.the_row R Or rb rd rp ro rq rh rg in let told = span_told R Or rb rd rp ro rq rh rg LR LOr in
    let mk = makes (S.the_type R Or rb rd rp ro rq rh rg) (span_plain R Or rb rd rp ro rq rh rg) 𝓛 in
    let hs : Stays En.signature.params En.kept = (stay_dropped (plain (λ _. Spans)) no, (stay_dropped (mut_slice_of (0 ∷ []) tt (plain (λ _. R))) no, tt)) in
    proved 𝓛 En hs c 𝓜 𝓡 (Goes-dropped 𝓛 3 (plain (λ _. Spans)) no (λ κs x w. refl), (Goes-spent_slice 𝓛 3 (0 ∷ []) tt (plain (λ _. R)), tt))
    (#self inst) fn (code.unfolded 𝓤 H 𝓜 𝓡 wired (X, (O, tt)) rbd rcd rdd red rpd rod rqd rhd rgd)
    (λ κs. ((λ x. told.val x ∷ []), (mut_slice_vals, tt)))
    (λ κs. (told.tells, (mut_slice_Tells (named 0) κs.0 R, tt))) (λ κs qs bounds a gh are.
    let κ : Lft = κs.0 in let s = a.0 in let span : Span = span_of s in let m : MutBor (List X.Denot) = a.1.0 in let xs : List X.Denot = m.now in let sv : Val = told.val s in
    let i : ℕ = words_before span in let n : ℕ = body_words rb.BITS span in let on0 : Bool = has_head span in let on2 : Bool = has_tail rb.BITS span in
    let len : ℕ = length xs in let others : Fml = fsep (flft κs.1.0 qs.1.0) (fsep (flft κs.1.1.0 qs.1.1.0) ftrue) in
    let lft = named_lft 3 0 tt κs in
    let Dom : RattleType = D.the_row lft R Or rb rd rp ro rq rh rg in let LD = domain_laws lft R Or rb rd rp ro rq rh rg LR LOr in
    let Bits : RattleType = B.the_row lft R Or rb rd rp ro rq rh rg in let LB = bits_laws lft R Or rb rd rp ro rq rh rg LR LOr in
    let y : (walk_of 𝓛 En hs c).Ghost = ((κs, qs, bounds, a, (sv ∷ [], (mut_slice_vals m, tt))), gh) in let Post : Val → SProp 𝓤 = (walk_of 𝓛 En hs c).post y in
    qed 𝓛 (((‵ (flft κ qs.0) ⊛ ‵ others) ⊛ ‵ (owns (types_at En.signature.params κs) a y.0.4)) ∷ raw (fact 𝓤 (κs.1.0 ⊑ X.lives)) ∷ raw (fact 𝓤 (κs.1.1.0 ⊑ O.lives)) ∷ raw (fact 𝓤 (Fits rb.BITS span len)) ∷ []) ∵
    move ! (1 ∷ []) $ heard ! (κs.1.0 ⊑ X.lives) (λ alive_in. move ! (1 ∷ []) $ heard ! (κs.1.1.0 ⊑ O.lives) (λ alive_o. move ! (1 ∷ []) $ heard ! (Fits rb.BITS span len) (λ fits.
    split ! $ move ! (1 ∷ []) $ fsplit ! $ drop ! $ fsplit ! $ move ! (1 ∷ []) $ drop ! $
    -- [the slice; the tokens]
    let fl : len < 2 ^ 64 = are.1.0.0.1.0 in let is_span : Is Spans s (sv ∷ []) = are.0 in let good_s = (((span_laws R Or rb rd rp ro rq rh rg LR LOr).lawful 𝓛).typed s (sv ∷ []) is_span).0 in
    enter ! 𝓣.C 𝓣.Λ fn (sv ∷ slice_val m.ref_ptr len ∷ []) Post $
    alloc_all ! (λ l. pass_all ! refl (good_s, ((tt, (tt, (record { fits = fl }, tt))), tt)) $
    sets ! (addr ! (from ! (fld ! refl (hop ! (look_in_at ! 2 (sub ! 0 refl (whole !))) (stop !))))) refl (tt, tt) $
    sets ! (agg ! (and_then ! (get ! refl) (and_then ! (get_in ! (fld ! refl (stop !)) (sub ! 1 refl (whole !))) (no_more !)))) refl (tt, (tt, (record { fits = fl }, tt))) $
    -- domain_mut
    let G = triple_of 𝓛 (g.signature X O rb rbd rc rcd rd rdd re red rp rpd ro rod rq rqd rh rhd rg rgd) (g.spec X O rb rbd rc rcd rd rdd re red rp rpd ro rod rq rqd rh rhd rg rgd 𝓛 𝓜.mem 𝓡.returns) in
    let z : G.Ghost = ((κs, qs, bounds, (s, (m, tt)), (sv ∷ [], (mut_slice_vals m, tt))), tt) in
    nothing ! $ move ! (1 ∷ 0 ∷ []) $ fjoin ! $ owned ! Spans _ mk s _ is_span $ fjoin ! $ move ! (1 ∷ 0 ∷ []) $ join ! $
    use0 𝓛 (raw (fact 𝓤 (Fits rb.BITS span len))) (fact_i 𝓤 _ (emp 𝓤) fits) $ use0 𝓛 (raw (fact 𝓤 (κs.1.1.0 ⊑ O.lives))) (fact_i 𝓤 _ (emp 𝓤) alive_o) $ join ! $
    use0 𝓛 (raw (fact 𝓤 (κs.1.0 ⊑ X.lives))) (fact_i 𝓤 _ (emp 𝓤) alive_in) $ join ! $ move ! (1 ∷ 0 ∷ []) $ join ! $ use1 𝓛 (raw (G.pre z)) (id⊢ 𝓤 _) $
    calls_at ! (framed 𝓤 H 𝓜 𝓣) G (met_g 𝓤 𝓛 𝓜 𝓡 (code.calls-bitvec_span::ptr::span::BitSpan::domain_mut 𝓡.env wired) X O L LO copy rb rbd rc rcd rd rdd re red rp rpd ro rod rq rqd rh rhd rg rgd m1 m2 m3 m4 m5 m6 m7 m8 m9) z (and_then ! (get ! refl) (and_then ! (get ! refl) (no_more !))) (λ v.
    use1 𝓛 (later (some (λ (d : Dom.Denot). ((‵ (flft κ qs.0) ⊛ ‵ others) ⊛ ‵ (Dom.own_val d (v ∷ []))) ⊛ some (λ (ws : Lasts (g.ended X O rb rbd rc rcd rd rdd re red rp rpd ro rod rq rqd rh rhd rg rgd) κs (s, (m, tt))). ‵ (lasts (g.ended X O rb rbd rc rcd rd rdd re red rp rpd ro rod rq rqd rh rhd rg rgd) κs (s, (m, tt)) ws)
    ⊛ ‵ (LendsNamed R m i n (loan_names d)) ⊛ raw (fact 𝓤 (lent_parts rb.number d ≡ parts_of rb.BITS span (map rb.number xs))) ⊛ raw (fact 𝓤 (loans_of d ≡ span_loans rb.BITS span xs)) ⊛ raw (fact 𝓤 (HasShortBody rb.BITS (lent_parts rb.number d))))))) (id⊢ 𝓤 _) $ await ! tt $ pick ! (λ d. split ! $ split ! $ move ! (2 ∷ []) $ pick ! (λ ws. split ! $ drop ! $
    split ! $ move ! (1 ∷ []) $ split ! $ heard ! _ (λ parted. split ! $ heard ! _ (λ lent. heard ! _ (λ short.
    -- [what the slice ends as; the tokens; the domain]
    move ! (2 ∷ []) $ peeks ! Dom (Is Dom) (shows 𝓛 Dom) d (v ∷ []) (λ as_domain. let good = ((LD.lawful 𝓛).typed d (v ∷ []) as_domain).0 in
    -- [the domain; what the slice ends as; the tokens]
    lands_as ! refl refl good $
    -- into_bit_domain
    let K = triple_of 𝓛 (h.signature X O rb rbd rc rcd rd rdd re red rp rpd ro rod rq rqd rh rhd rg rgd) (h.spec X O rb rbd rc rcd rd rdd re red rp rpd ro rod rq rqd rh rhd rg rgd 𝓛 𝓜.mem 𝓡.returns) in
    let z2 : K.Ghost = ((κs, qs, bounds, (d, tt), (v ∷ [], tt)), tt) in
    nothing ! $ move ! (1 ∷ 0 ∷ []) $ fjoin ! $ move ! (2 ∷ 0 ∷ []) $ join ! $
    use0 𝓛 (raw (fact 𝓤 (HasShortBody rb.BITS (lent_parts rb.number d)))) (fact_i 𝓤 _ (emp 𝓤) short) $ use0 𝓛 (raw (fact 𝓤 (κs.1.1.0 ⊑ O.lives))) (fact_i 𝓤 _ (emp 𝓤) alive_o) $ join ! $
    use0 𝓛 (raw (fact 𝓤 (κs.1.0 ⊑ X.lives))) (fact_i 𝓤 _ (emp 𝓤) alive_in) $ join ! $ move ! (1 ∷ 0 ∷ []) $ join ! $ use1 𝓛 (raw (K.pre z2)) (id⊢ 𝓤 _) $
    calls_at ! (framed 𝓤 H 𝓜 𝓣) K (met_h 𝓤 𝓛 𝓜 𝓡 (code.calls-bitvec_span::domain::domain_mut::DomainMut::into_bit_domain 𝓡.env wired) X O L LO copy rb rbd rc rcd rd rdd re red rp rpd ro rod rq rqd rh rhd rg rgd m1 m2 m3 m4 m5 m6 m7 m8 m9) z2 (and_then ! (get ! refl) (no_more !)) (λ w.
    use1 𝓛 (later (some (λ (e : Bits.Denot). ((‵ (flft κ qs.0) ⊛ ‵ others) ⊛ ‵ (Bits.own_val e (w ∷ []))) ⊛ some (λ (zs : Lasts (h.ended X O rb rbd rc rcd rd rdd re red rp rpd ro rod rq rqd rh rhd rg rgd) κs (d, tt)). ‵ (lasts (h.ended X O rb rbd rc rcd rd rdd re red rp rpd ro rod rq rqd rh rhd rg rgd) κs (d, tt) zs)
    ⊛ raw (fact 𝓤 (lent_bit_parts rb.number e ≡ bit_parts_of rb.BITS (lent_parts rb.number d))) ⊛ raw (fact 𝓤 (names_if (is_some (loan_names d).0) (is_some (loan_names d).2) (bit_loan_names e) ≡ loan_names d))
    ⊛ raw (fact 𝓤 (bit_loans_of e ≡ stretch_loans rb.BITS (loans_of d))))))) (id⊢ 𝓤 _) $ await ! tt $ pick ! (λ e. split ! $ split ! $ move ! (2 ∷ []) $ pick ! (λ zs. split ! $ drop ! $
    split ! $ heard ! _ (λ bitted. split ! $ heard ! _ (λ same. heard ! _ (λ placed.
    -- [the tokens; the bits; what the slice ends as]
    rewrite ! 2 (λ (names : Option GName × Option GName × Option GName). ‵ (LendsNamed R m i n names)) (names-present rb.BITS span xs d (bit_loan_names e) lent same) refl $
    move ! (1 ∷ []) $ peeks ! Bits (Is Bits) (shows 𝓛 Bits) e (w ∷ []) (λ as_bits. lands_as ! refl refl (((LB.lawful 𝓛).typed e (w ∷ []) as_bits).0) $
    returns ! (look_at ! 0 refl) $ free_all ! refl $
    -- [the bits; the tokens; what the slice ends as]
    let bits : lent_bit_parts rb.number e ≡ bit_parts_of rb.BITS (parts_of rb.BITS span (map rb.number xs)) = bitted ∙ ap (bit_parts_of rb.BITS) parted in
    let loans : bit_loans_of e ≡ stretch_loans rb.BITS (span_loans rb.BITS span xs) = placed ∙ ap (stretch_loans rb.BITS) lent in
    use0 𝓛 (raw (fact 𝓤 (bit_loans_of e ≡ stretch_loans rb.BITS (span_loans rb.BITS span xs)))) (fact_i 𝓤 _ (emp 𝓤) loans) $ use0 𝓛 (raw (fact 𝓤 (lent_bit_parts rb.number e ≡ bit_parts_of rb.BITS (parts_of rb.BITS span (map rb.number xs))))) (fact_i 𝓤 _ (emp 𝓤) bits) $ join ! $ move ! (3 ∷ 0 ∷ []) $ join ! $
    -- [the `ensures`; the bits; the tokens]
    nothing ! $ nothing ! $ fjoin ! $ nothing ! $ fjoin ! $ keep ! (3 ∷ 0 ∷ 2 ∷ 1 ∷ []) $
    by ! (leaves 𝓛 En hs c y w e (tt, (tt, tt)) (tt, (tt, tt))))))))))))))))))))))
