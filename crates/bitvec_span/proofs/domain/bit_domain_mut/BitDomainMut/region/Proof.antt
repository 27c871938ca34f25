-- `region` hands on the stretches of the pair that `region_or_loans` makes, and lets the loans go. Assumes `Logic`.
use Rattle.std.proofs.Common.{◌≡◌, List, [], ◌∷◌, ◌++◌, true, refl, ap, subst, ◌∙◌}
use Rattle.std.specs.Prelude.{IsNone, MatchOption}
use Rattle.std.proofs.raw_atomic.Walks.{proved, leaves}
use mir.Syntax.{dcons, dnil, a_type}
use mir.Val.{Val, vstruct, vcons, vnil, of_list}
use mir.MapTy.{inst_fn}
use base.Logic.{SProp, emp, id⊢}
use base.Fml.{Lft, Fml, ftrue, fsep, flft, fex}
use types.Logic.{sem}
use types.Kit.{‵, raw, ◌⊛◌, some, later, ◌$◌, ◌∵◌, !, qed, by, move, keep, drop, split, join, fsplit, fpick, feq_l, pick, rewrite, use0, use1, await}
use types.Run.{stop, fld, of_opd, no_more, and_then, returns, enter}
use types.ByLocal.{alloc_all, pass_all, free_all, look_at, get, get_in, sets, lands_as}
use types.Part.{sub, whole}
use contract.Running.{tables}
use contract.Monad.{fact, fact_i}
use contract.BorrowLft.{◌⊑◌}
use denote.Exit.{no, left}
use denote.Laws.{Is, shows}
use denote.RattleType.{RattleType, Valss, owns}
use denote.Signature.{types_at, plain, named_lft}
use denote.Steps.{nothing, only, heard, peeks}
use denote.Param.{param, copied, bounded}
use denote.Param.Laws.{param_laws, copied_laws}
use denote.Struct.Declared.{shape}
use denote.Struct.Struct.{within}
use denote.Struct.Tuple.{AllLaws, AllTold, Tuple, tuple_name, tuple_type, laws_at, told_at}
use denote.Triple.Spec.{triple_of}
use denote.Triple.Clauses.{Lasts, lasts}
use denote.Triple.Call.{calls_at}
use denote.Triple.Table.{framed}
use denote.Triple.Walked.{Stay, Stays, walk_of}
use Rattle.std.specs.contracts.option.Option as OP
use Rattle.std.proofs.option.Option.TheLaws.{the_told as option_told, the_row_laws as option_laws}
use Rattle.bitvec_span.specs.BitParts.{is_bit_enclave}
use Rattle.bitvec_span.specs.BitLoans.{names_if, words_of_bit_loans}
use Rattle.bitvec_span.specs.Lending.{LoansRestIfNone}
use Rattle.bitvec_span.specs.Pieces.{names_of, piece_words}
use Rattle.bitvec_span.specs.BitDomainMut.{Region, bit_loan_names, bit_loans_of, lent_bit_parts}
use Rattle.bitvec_span.proofs.RestLemmas.{both, answer_rests}
use Rattle.bitvec_span.specs.contracts.lend.Pieces as P
use Rattle.bitvec_span.proofs.lend.Pieces.TheLaws.{the_told as pieces_told, the_row_laws as pieces_laws}
use Rattle.bitvec_span.specs.contracts.domain.bit_words_mut.BitWordsMut as E
use Rattle.bitvec_span.proofs.domain.bit_words_mut.BitWordsMut.TheLaws.{the_told as words_told, the_row_laws as words_laws}
use Rattle.bitvec_span.specs.contracts.domain.bit_domain_mut.BitDomainMut as D
use Rattle.bitvec_span.proofs.domain.bit_domain_mut.BitDomainMut.TheLaws.{the_told as domain_told, the_row_laws as domain_laws}
use Rattle.bitvec_span.specs.contracts.domain.bit_domain_mut.BitDomainMut.region as f
use Rattle.bitvec_span.specs.contracts.domain.bit_domain_mut.BitDomainMut.region.Key.{name as #self}
use Rattle.bitvec_span.proofs.domain.bit_domain_mut.BitDomainMut.region.Statement.{statement}
use Rattle.bitvec_span.proofs.domain.bit_domain_mut.BitDomainMut.region.Code as code
use Rattle.bitvec_span.specs.contracts.domain.bit_domain_mut.BitDomainMut.region_or_loans as g
use Rattle.bitvec_span.proofs.domain.bit_domain_mut.BitDomainMut.region_or_loans.Met.{met}

pub region_spec : {M : Type 1} → statement M
region_spec 𝓤 𝓛 𝓜 𝓡 wired X O L LO copy rb rbd rc rcd rd rdd re red rp rpd ro rod rq rqd rh rhd rg rgd m1 m2 m3 m4 m5 m6 m7 m8 m9 =
    let H = 𝓛.H in let 𝓣 = tables 𝓤 H 𝓜 𝓡 𝓡.env in let R : RattleType = copied 0 X in let Or : RattleType = param 1 O in let En = f.ended X O rb rbd rc rcd rd rdd re red rp rpd ro rod rq rqd rh rhd rg rgd in
    let inst = bounded (a_type ∷ a_type ∷ []) (X, (O, tt)) (dcons rbd (dcons rcd (dcons rdd (dcons red (dcons rpd (dcons rod (dcons rqd (dcons rhd (dcons rgd dnil))))))))) in let fn = inst_fn inst code.function in
    let c = f.clauses X O rb rbd rc rcd rd rdd re red rp rpd ro rod rq rqd rh rhd rg rgd 𝓛 𝓜.mem 𝓡.returns in
    let LR = copied_laws 0 X L in let LOr = param_laws 1 O LO in
    let Self = plain {n = 3} (λ κs. D.the_row (named_lft 3 0 tt κs) R Or rb rd rp ro rq rh rg) in
    -- what the callee says of the domain at its exit is what is had of it here
    let stayed : Stay Self no = record { fit = λ κs x w. Unit {0}; has = λ κs x w vs. left ((Self.row κs).exit no) x w } in
    let hs : Stays En.signature.params En.kept = (stayed, tt) in
    proved 𝓛 En hs c 𝓜 𝓡 ((λ κs x w vs ok. 𝓛.laws.⇛_intro (sem 𝓛 (left ((Self.row κs).exit no) x w))), tt)
    (#self inst) fn (code.unfolded 𝓤 H 𝓜 𝓡 wired (X, (O, tt)) rbd rcd rdd red rpd rod rqd rhd rgd)
    (λ κs. ((λ x. (domain_told (named_lft 3 0 tt κs) R Or rb rd rp ro rq rh rg LR LOr).val x ∷ []), tt))
    (λ κs. ((domain_told (named_lft 3 0 tt κs) R Or rb rd rp ro rq rh rg LR LOr).tells, tt)) (λ κs qs bounds a gh are.
    let κ : Lft = κs.0 in let lft = named_lft 3 0 tt κs in let domain = a.0 in
    let Dom : RattleType = D.the_row lft R Or rb rd rp ro rq rh rg in let LD = domain_laws lft R Or rb rd rp ro rq rh rg LR LOr in let sv : Val = (domain_told lft R Or rb rd rp ro rq rh rg LR LOr).val domain in
    let Element : RattleType = E.the_row lft R Or rb rd rp ro rq rh rg in let LE = words_laws lft R Or rb rd rp ro rq rh rg LR LOr in
    let told_e = words_told lft R Or rb rd rp ro rq rh rg LR LOr in
    let Three : List RattleType = Element ∷ Element ∷ Element ∷ [] in let three = tuple_name 3 in let LThree : AllLaws Three = (LE, (LE, (LE, tt))) in let told_3 : AllTold Three = (told_e, (told_e, (told_e, tt))) in
    let All : RattleType = Tuple Three in let LAll = laws_at three Three LThree in
    let Answer : RattleType = OP.the_row All in let LA = option_laws All LAll in let told = option_told All LAll (told_at three Three LThree told_3) in
    let Row : RattleType = P.the_row lft (param 0 X) in let LP = pieces_laws lft (param 0 X) (param_laws 0 X L) in let told_p = pieces_told lft (param 0 X) (param_laws 0 X L) in
    let others : Fml = fsep (flft κs.1.0 qs.1.0) (fsep (flft κs.1.1.0 qs.1.1.0) ftrue) in
    let y : (walk_of 𝓛 En hs c).Ghost = ((κs, qs, bounds, a, (sv ∷ [], tt)), gh) in let Post : Val → SProp 𝓤 = (walk_of 𝓛 En hs c).post y in
    qed 𝓛 (((‵ (flft κ qs.0) ⊛ ‵ others) ⊛ ‵ (owns (types_at En.signature.params κs) a y.0.4)) ∷ raw (fact 𝓤 (κs.1.0 ⊑ X.lives)) ∷ raw (fact 𝓤 (κs.1.1.0 ⊑ O.lives)) ∷ ‵ ftrue ∷ []) ∵
    move ! (1 ∷ []) $ heard ! (κs.1.0 ⊑ X.lives) (λ alive_in. move ! (1 ∷ []) $ heard ! (κs.1.1.0 ⊑ O.lives) (λ alive_o. move ! (1 ∷ []) $ drop ! $
    let is_domain : Is Dom domain (sv ∷ []) = are.0 in let good = ((LD.lawful 𝓛).typed domain (sv ∷ []) is_domain).0 in
    -- [the tokens and the domain]
    enter ! 𝓣.C 𝓣.Λ fn (sv ∷ []) Post $
    alloc_all ! (λ l. pass_all ! refl (good, tt) $
    sets ! (of_opd ! (get ! refl)) refl good $
    let G = triple_of 𝓛 (g.signature X O rb rbd rc rcd rd rdd re red rp rpd ro rod rq rqd rh rhd rg rgd) (g.spec X O rb rbd rc rcd rd rdd re red rp rpd ro rod rq rqd rh rhd rg rgd 𝓛 𝓜.mem 𝓡.returns) in
    let z : G.Ghost = ((κs, qs, bounds, (domain, tt), (sv ∷ [], tt)), tt) in
    nothing ! $ use0 𝓛 (raw (fact 𝓤 (κs.1.1.0 ⊑ O.lives))) (fact_i 𝓤 _ (emp 𝓤) alive_o) $ join ! $ use0 𝓛 (raw (fact 𝓤 (κs.1.0 ⊑ X.lives))) (fact_i 𝓤 _ (emp 𝓤) alive_in) $ join ! $ move ! (1 ∷ 0 ∷ []) $ join ! $
    use1 𝓛 (raw (G.pre z)) (id⊢ 𝓤 _) $
    calls_at ! (framed 𝓤 H 𝓜 𝓣) G (met 𝓤 𝓛 𝓜 𝓡 (code.calls-bitvec_span::domain::bit_domain_mut::BitDomainMut::region_or_loans 𝓡.env wired) X O L LO copy rb rbd rc rcd rd rdd re red rp rpd ro rod rq rqd rh rhd rg rgd m1 m2 m3 m4 m5 m6 m7 m8 m9) z (and_then ! (get ! refl) (no_more !)) (λ v.
    let Pair : RattleType = Tuple (Answer ∷ Row ∷ []) in
    use1 𝓛 (later (some (λ (d : Pair.Denot). ((‵ (flft κ qs.0) ⊛ ‵ others) ⊛ ‵ (Pair.own_val d (v ∷ []))) ⊛ some (λ (ws : Lasts (g.ended X O rb rbd rc rcd rd rdd re red rp rpd ro rod rq rqd rh rhd rg rgd) κs (domain, tt)). ‵ (lasts (g.ended X O rb rbd rc rcd rd rdd re red rp rpd ro rod rq rqd rh rhd rg rgd) κs (domain, tt) ws)
    ⊛ raw (fact 𝓤 (MatchOption d.0 (is_bit_enclave (lent_bit_parts rb.number domain) ≡ true) (λ all. domain ≡ Region all.0 all.1 all.2)))
    ⊛ raw (fact 𝓤 (IsNone d.0 → names_of d.1 ≡ names_if true true (bit_loan_names domain))) ⊛ raw (fact 𝓤 (IsNone d.0 → piece_words d.1 ≡ words_of_bit_loans (bit_loans_of domain))))))) (id⊢ 𝓤 _) $
    await ! tt $ pick ! (λ d. split ! $ split ! $ move ! (2 ∷ []) $ pick ! (λ ws. split ! $ move ! (1 ∷ []) $ split ! $ heard ! _ (λ chosen. split ! $ heard ! _ (λ is_named. heard ! _ (λ lie. move ! (2 ∷ []) $
    -- [the pair; what is had of the domain; the tokens]
    use1 𝓛 (‵ (fex (Valss (Answer ∷ Row ∷ [])) (within (shape (tuple_type (Answer ∷ Row ∷ []))) (d.0, (d.1, tt)) (v ∷ [])))) (id⊢ 𝓤 _) $ fpick ! (λ us. fsplit ! $ feq_l ! (λ ev. fsplit ! $ move ! (1 ∷ []) $ fsplit ! $ move ! (1 ∷ []) $ drop ! $
    -- [the loans; the answer; what is had of the domain; the tokens]
    peeks ! Row (Is Row) (shows 𝓛 Row) d.1 us.1.0 (λ as_pieces. move ! (1 ∷ []) $ peeks ! Answer (Is Answer) (shows 𝓛 Answer) d.0 us.0 (λ as_answer.
    let p0 : us.0 ≡ told.val d.0 ∷ [] = told.tells d.0 us.0 as_answer in let p1 : us.1.0 ≡ told_p.val d.1 ∷ [] = told_p.tells d.1 us.1.0 as_pieces in
    let word : v ∷ [] ≡ vstruct (vcons (told.val d.0) (vcons (told_p.val d.1) vnil)) ∷ [] = ev ∙ (λ k. vstruct (of_list (p0 k ++ (p1 k ++ []))) ∷ []) in
    let good0 = ((LA.lawful 𝓛).typed d.0 (told.val d.0 ∷ []) (subst (λ (l : List Val). Is Answer d.0 l) p0 as_answer)).0 in let good1 = ((LP.lawful 𝓛).typed d.1 (told_p.val d.1 ∷ []) (subst (λ (l : List Val). Is Row d.1 l) p1 as_pieces)).0 in
    -- [the answer; the loans; what is had of the domain; the tokens]
    rewrite ! 0 (λ (l : List Val). ‵ (Answer.own_val d.0 l)) p0 refl $ move ! (1 ∷ []) $
    use1 𝓛 (later (‵ (LoansRestIfNone R (names_if true true (bit_loan_names domain)) (words_of_bit_loans (bit_loans_of domain)) d.0))) (answer_rests 𝓛 (param 0 X) lft d.0 (names_if true true (bit_loan_names domain)) (words_of_bit_loans (bit_loans_of domain)) d.1 us.1.0 is_named lie) $ await ! tt $
    -- [how the loans end; the answer; what is had of the domain; the tokens]
    lands_as ! (ap only word) refl (both _ _ good0.0 (both _ _ good1.0 tt), (good0.1, (good1.1, tt))) $
    sets ! (of_opd ! (get_in ! (fld ! refl (stop !)) (sub ! 0 refl (whole !)))) refl good0 $
    sets ! (of_opd ! (get ! refl)) refl good0 $
    returns ! (look_at ! 0 refl) $ free_all ! refl $
    use0 𝓛 (raw (fact 𝓤 (MatchOption d.0 (is_bit_enclave (lent_bit_parts rb.number domain) ≡ true) (λ all. domain ≡ Region all.0 all.1 all.2)))) (fact_i 𝓤 _ (emp 𝓤) chosen) $ move ! (1 ∷ 0 ∷ []) $ join ! $
    -- [the `ensures`; the answer; what is had of the domain; the tokens]
    keep ! (3 ∷ 2 ∷ 1 ∷ 0 ∷ []) $ by ! (leaves 𝓛 En hs c y (told.val d.0) d.0 ws (tt, tt))))))))))))))))
