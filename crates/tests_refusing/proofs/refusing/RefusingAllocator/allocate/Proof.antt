-- A request that the plan refuses is answered `Err`, and any other as the allocator beneath answers it.
-- Assumes `Logic`.
use Rattle.std.proofs.Common.{ℕ, ◌≡◌, ◌+◌, ◌^◌, ◌<◌, Bool, true, false, List, [], ◌∷◌, Ok, Err, refl, ap, w64, Bor}
use Rattle.std.proofs.alloc.Calls.{Al, α, seen, token, Answer, answer_val, Answer-typed, Answer-Ok, Answer-err, takes_key, Takes, at_takes, Answered, Takes-goes, Takes-gives, answers}
use Rattle.std.specs.Allocator.{block_if_ok}
use seplogic.Ra.Ura.{Ura}
use mir.Syntax.{Ty, Args, Fn, Body, a_type, dnil, dcons, seq}
use mir.Val.{Val, vint, vptr, vbool}
use mir.MapTy.{inst_fn}
use base.Logic.{SProp, ent, sep, ex, guard, id⊢}
use base.Fml.{Lft, Share, ftrue, fsep, flft}
use prog.Memory.{Memory, size, align, capped, up}
use prog.Routine.{Routine}
use prog.Wp.{WpFn, Tables}
use types.Logic.{Logic, sem}
use types.Kit.{‵, raw, ⋆, ◌⊛◌, some, later, given, at_ret, ◌$◌, ◌∵◌, !, qed, by, move, keep, drop, use0, use1, use2, split, join, pick, learn, fsplit, fjoin, feq_i, feq_l, show, check, suffices, await, updating, now as at_once, done}
use types.Part.{agg}
use types.Run.{stop, fld, addr, lit, no_more, and_then, first, branches, skips, exec, returns, returns_within, enter}
use types.ByLocal.{alloc_all, pass_all, free_all, look_at, get, through, sets, lands_as, env}
use contract.BorrowLft.{◌⊑◌, ⊑_trans}
use contract.Monad.{Fun, fact}
use contract.Running.{tables, tables_of}
use sound.WpLaws.{fm_of, WpFn-mono}
use denote.Exit.{yes}
use denote.RattleType.{owns}
use denote.Memory.{hidden_shr}
use denote.Ref.{shr_vals}
use denote.Opens.{unhide}
use denote.Param.{bounded, param}
use denote.Plain.{uint_vals, uint_Tells}
use denote.RawPtr.{block_ptr}
use denote.Builtin.{usize, bool, RefOf}
use denote.Signature.{Slot, plain, types_at}
use denote.Steps.{heard, nothing, only}
use denote.Triple.Call.{calls_at}
use denote.Triple.Clauses.{Ended, Clauses}
use denote.Triple.Spec.{triple_of}
use denote.Triple.Statement.{Contract, Triple}
use denote.Triple.Table.{entered, cited}
use denote.Triple.Walked.{Stays, stay_dropped, walk_of, ends_at, walked, Goes-dropped, walk_Meets}
use Rattle.tests_refusing.specs.contracts.refusing.Plan as plan
use Rattle.tests_refusing.specs.contracts.refusing.Plan.refuses as refuses
use Rattle.tests_refusing.proofs.refusing.Plan.refuses.Symbol as refuses_symbol
use Rattle.tests_refusing.proofs.refusing.Plan.refuses.Met as refuses_met
use Rattle.tests_refusing.specs.contracts.refusing.Refusing as refusing
use Rattle.tests_refusing.specs.contracts.refusing.RefusingAllocator.allocate as f
use Rattle.tests_refusing.specs.contracts.refusing.RefusingAllocator.allocate.Key as key
use Rattle.tests_refusing.proofs.refusing.RefusingAllocator.allocate.Statement as stated
use Rattle.tests_refusing.proofs.refusing.RefusingAllocator.allocate.Code as code

-- what follows a body's first statement
abbrev rest : Body → Body
rest (seq a b) = b
rest b = b

module _ (Z : Al) where
  abbrev args : Args
  args = bounded (a_type ∷ []) (Z.row, tt) (dcons Z.d (dcons Z.drops dnil))

  abbrev function : Fn
  function = inst_fn args code.function

  abbrev handle : Slot 2
  handle = RefOf (0 ∷ []) tt (plain (λ _. refusing.the_row (param 0 Z.row))) (λ _. tt)

  abbrev ended : Ended
  ended = f.ended Z.row Z.g Z.d Z.drops

  abbrev stayed : Stays ended.signature.params ended.kept
  stayed = (stay_dropped handle yes, (stay_dropped (plain (λ _. usize)) yes, (stay_dropped (plain (λ _. usize)) yes, tt)))

module _ {M : Type 1} {𝓤 : Ura M} (𝓛 : Logic 𝓤) (at_mem : Memory → SProp 𝓤) (run : Routine → Fun 𝓤) where
  open 𝓛 use {H, A}

  abbrev Asks : Contract 𝓤
  Asks = triple_of 𝓛 refuses.signature (refuses.spec 𝓛 at_mem run)

  -- the plan is asked by a `&` to it, which comes back, and the answer is a truth value
  module _ (κ : Lft) (q : Share) (at : ℕ × ℕ) (it : plan.the_row.Denot) where
    abbrev asked : Asks.Ghost
    asked = (((κ, tt), (q, tt), tt, (record { ref_ptr = at; now = it }, tt), (vptr at.0 at.1 ∷ [], tt)), tt)

    asks : ent 𝓤 (sep 𝓤 (sem 𝓛 (hidden_shr plan.the_row κ it at.0 at.1)) (A.lft κ q)) (Asks.pre asked)
    asks =
        qed 𝓛 (‵ (hidden_shr plan.the_row κ it at.0 at.1) ∷ ‵ (flft κ q) ∷ []) ∵
        feq_i ! (List Val) (vptr at.0 at.1 ∷ []) (vptr at.0 at.1 ∷ []) refl $ fjoin ! $
        nothing ! $ move ! (1 ∷ []) $ fjoin ! $ nothing ! $ move ! (2 ∷ []) $ join ! $ join ! $ nothing ! $ move ! (1 ∷ []) $ done !

    told : (v : Val) → ent 𝓤 (Asks.post asked v) (H.⇛ (ex 𝓤 (λ (b : Bool). guard 𝓤 (v ≡ vbool b) (A.lft κ q))))
    told v =
        qed 𝓛 (raw (Asks.post asked v) ∷ []) ∵ updating ! $
        use1 𝓛 (later (some (λ (b : Bool). ((‵ (flft κ q) ⊛ ‵ ftrue) ⊛ ‵ (bool.own_val b (v ∷ []))) ⊛ some (λ (ws : Unit {0} × Unit {0}). ‵ (fsep ftrue ftrue) ⊛ ‵ ftrue)))) (id⊢ 𝓤 _) $
        await ! tt $ pick ! (λ b. split ! $ split ! $ move ! (1 ∷ []) $ feq_l ! (λ e. split ! $ at_once ! $
        show ! (λ (y : Bool). guard 𝓤 (v ≡ vbool y) (A.lft κ q)) b $ check ! (ap only e) $ keep ! (0 ∷ []) $ done !))

module _ (Z : Al) {M : Type 1} {𝓤 : Ura M} (𝓛 : Logic 𝓤) (at_mem : Memory → SProp 𝓤) (run : Routine → Fun 𝓤) (𝓣 : Tables 𝓤 𝓛.H)
    (gives : Triple 𝓤 (𝓣.C (takes_key Z)) (Takes Z 𝓛 at_mem run)) (tells : Triple 𝓤 (𝓣.C refuses_symbol.name) (Asks 𝓛 at_mem run)) where
  open 𝓛 use {H}

  abbrev clauses : Clauses 𝓤 (ended Z)
  clauses = f.clauses Z.row Z.g Z.d Z.drops 𝓛 at_mem run

  module _ (κ ρ : Lft) (q s : Share) (within : κ ⊑ ρ) (r : Bor (refusing.the_row Z.row).Denot) (n a : ℕ) (τ : Ty) where
    abbrev at : (walk_of 𝓛 (ended Z) (stayed Z) clauses).Ghost
    at = (((κ, (ρ, tt)), (q, (s, tt)), (within, tt), (r, (n, (a, tt))), (shr_vals r, (vint w64 n ∷ [], (vint w64 a ∷ [], tt)))), τ)

    abbrev passed : List Val
    passed = vptr r.ref_ptr.0 r.ref_ptr.1 ∷ vint w64 n ∷ vint w64 a ∷ []

    abbrev Post : Val → SProp 𝓤
    Post = (walk_of 𝓛 (ended Z) (stayed Z) clauses).post at

    abbrev Layout : Type 0
    Layout = (capped (size τ) ≡ n) × (capped (align τ) ≡ a)

    -- what is left at each return: the answer, its block, and the tokens
    exits : (v : Val) (answer : Answer.Denot)
        → ent 𝓤 (⋆ 𝓛 (‵ (Answer.own_val answer (v ∷ [])) ∷ ‵ (block_if_ok (token Z r.now.inner) τ answer) ∷ ‵ (flft κ q) ∷ (‵ (flft ρ s) ⊛ ‵ ftrue) ∷ [])) (Post v)
    exits v answer =
        qed 𝓛 (‵ (Answer.own_val answer (v ∷ [])) ∷ ‵ (block_if_ok (token Z r.now.inner) τ answer) ∷ ‵ (flft κ q) ∷ (‵ (flft ρ s) ⊛ ‵ ftrue) ∷ []) ∵
        suffices ! _ (ends_at 𝓛 (ended Z) (stayed Z) clauses at v answer (tt, (tt, (tt, tt))) (tt, (tt, (tt, tt)))) $
        nothing ! $ nothing ! $ fjoin ! $ nothing ! $ fjoin ! $ nothing ! $ fjoin ! $ join ! $ move ! (2 ∷ 3 ∷ []) $ join ! $ join ! $ done !

    walk : n < 2 ^ 64 → a < 2 ^ 64 → ent 𝓤 ((walk_of 𝓛 (ended Z) (stayed Z) clauses).pre at) (WpFn 𝓤 H 𝓣.C 𝓣.Λ (function Z) passed Post)
    walk n_fits a_fits =
        let inner : Z.row.Denot = r.now.inner in
        let inner_at : ℕ × ℕ = (r.ref_ptr.0, r.ref_ptr.1 + up (align (α Z)) 0) in
        let plan_at : ℕ × ℕ = (r.ref_ptr.0, r.ref_ptr.1 + up 8 (up (align (α Z)) 0 + size (α Z))) in
        let call : (Takes Z 𝓛 at_mem run).Ghost = at_takes Z 𝓛 at_mem run κ q inner_at inner n a τ in
        qed 𝓛 (((‵ (flft κ q) ⊛ ‵ (flft ρ s) ⊛ ‵ ftrue) ⊛ ‵ (owns (types_at (ended Z).signature.params at.0.0) at.0.3 at.0.4)) ∷ (raw (fact 𝓤 (ρ ⊑ Z.row.lives)) ⊛ raw (fact 𝓤 Layout)) ∷ []) ∵
        move ! (1 ∷ []) $ split ! $ heard ! (ρ ⊑ Z.row.lives) (λ lives. heard ! Layout (λ layout.
        -- [the plan; the tokens; the inner allocator]
        split ! $ split ! $ move ! (2 ∷ []) $ fsplit ! $ fsplit ! $ move ! (1 ∷ []) $ unhide ! $ fsplit ! $ fsplit ! $ use1 𝓛 (‵ (seen Z κ inner_at inner)) (id⊢ 𝓤 _) $ move ! (1 ∷ []) $ fsplit ! $ keep ! (0 ∷ 6 ∷ 2 ∷ 7 ∷ []) $
        enter ! 𝓣.C 𝓣.Λ (function Z) passed _ $ alloc_all ! (λ l. pass_all ! refl ((tt, tt), ((tt, record { fits = n_fits }), ((tt, record { fits = a_fits }), tt))) $
        sets ! (addr ! (through ! refl (fld ! refl (stop !)))) refl (tt, tt) $
        use2 𝓛 (raw ((Asks 𝓛 at_mem run).pre (asked 𝓛 at_mem run κ q plan_at r.now.plan))) (asks 𝓛 at_mem run κ q plan_at r.now.plan) $
        calls_at ! (fm_of 𝓤 H 𝓛.laws 𝓣) (Asks 𝓛 at_mem run) tells (asked 𝓛 at_mem run κ q plan_at r.now.plan) (and_then ! (get ! refl) (no_more !)) (λ u.
        use1 𝓛 (later (some (λ (b : Bool). given (u ≡ vbool b) (‵ (flft κ q))))) (told 𝓛 at_mem run κ q plan_at r.now.plan u) $ await ! tt $ pick ! (λ b. learn ! (λ is. lands_as ! is refl (tt, tt) $
        first ! $ branches ! (get ! refl)
        (λ refused. move ! (1 ∷ []) $ drop ! $ sets ! (agg ! (no_more !)) refl (tt, tt) $
        sets ! (agg ! (and_then ! (lit ! tt) (and_then ! (get ! refl) (no_more !)))) refl (Answer-typed false 0 0) $
        returns_within ! Post refl (look_at ! 0 refl) $ free_all ! refl $
        nothing ! $ use0 𝓛 (‵ (Answer.own_val (Err (record {})) (answer_val false 0 0 ∷ []))) (Answer-err 𝓛) $ by ! (exits (answer_val false 0 0) (Err (record {}))))
        (λ passes. skips ! $ exec ! 𝓣.C 𝓣.Λ (env (function Z).locals l) (rest (rest (rest (function Z).body))) (at_ret _ Post) $
        move ! (1 ∷ []) $ sets ! (addr ! (through ! refl (fld ! refl (stop !)))) refl (tt, tt) $
        use2 𝓛 (raw ((Takes Z 𝓛 at_mem run).pre call)) (Takes-goes Z 𝓛 at_mem run κ q inner_at inner (⊑_trans κ ρ Z.row.lives within lives) n a τ layout.0 layout.1 n_fits a_fits) $
        calls_at ! (fm_of 𝓤 H 𝓛.laws 𝓣) (Takes Z 𝓛 at_mem run) gives call (and_then ! (get ! refl) (and_then ! (get ! refl) (and_then ! (get ! refl) (no_more !)))) (λ v.
        use1 𝓛 (later (raw (Answered Z 𝓛 at_mem run inner τ v) ⊛ ‵ (flft κ q))) (Takes-gives Z 𝓛 at_mem run κ q inner_at inner n a τ v) $ await ! tt $ split ! $
        answers Z ! at_mem run inner τ v
        (λ x o e. fjoin ! $ lands_as ! e refl (Answer-typed true x o) $ returns ! (look_at ! 0 refl) $ free_all ! refl $
        use0 𝓛 (‵ (Answer.own_val (Ok (block_ptr x o)) (answer_val true x o ∷ []))) (Answer-Ok 𝓛 x o) $ by ! (exits (answer_val true x o) (Ok (block_ptr x o))))
        (λ e. nothing ! $ lands_as ! e refl (Answer-typed false 0 0) $ returns ! (look_at ! 0 refl) $ free_all ! refl $
        use0 𝓛 (‵ (Answer.own_val (Err (record {})) (answer_val false 0 0 ∷ []))) (Answer-err 𝓛) $ by ! (exits (answer_val false 0 0) (Err (record {}))))))))))))

pub allocate_spec : {M : Type 1} → stated.statement M
unfolding tables_of
allocate_spec 𝓤 𝓛 𝓜 𝓡 wired Y L g d d' met _ =
    let Z : Al = record { row = Y; laws = L; g = g; d = d; drops = d' } in
    let 𝓣 : Tables 𝓤 𝓛.H = tables_of 𝓤 𝓛.H 𝓜 (tables 𝓤 𝓛.H 𝓜 𝓡 𝓡.env) in
    let c = f.clauses Y g d d' 𝓛 𝓜.mem 𝓡.returns in
    let number = Goes-dropped 𝓛 2 (plain (λ _. usize)) yes (λ κs x w. refl) in
    entered 𝓤 𝓛.H (triple_of 𝓛 (f.signature Y) (f.spec Y g d d' 𝓛 𝓜.mem 𝓡.returns)) 𝓣.C 𝓣.Λ (key.name (args Z)) (function Z) (code.unfolded 𝓤 𝓛.H 𝓜 𝓡 wired (Y, tt) d d')
    (walk_Meets 𝓛 (ended Z) (stayed Z) (Goes-dropped 𝓛 2 (handle Z) yes (λ κs x w. refl), (number, (number, tt))) c (WpFn 𝓤 𝓛.H 𝓣.C 𝓣.Λ (function Z)) (WpFn-mono 𝓤 𝓛.H 𝓛.laws 𝓣 (function Z))
    (walked 𝓛 (ended Z) (stayed Z) c (WpFn 𝓤 𝓛.H 𝓣.C 𝓣.Λ (function Z)) (λ κs. (shr_vals, (uint_vals w64, (uint_vals w64, tt)))) (λ κs. ((λ r vs told. told.0), (uint_Tells w64, (uint_Tells w64, tt))))
    (λ κs qs bounds a τ are. walk Z 𝓛 𝓜.mem 𝓡.returns 𝓣 (met.allocate d')
    (cited 𝓤 𝓛.H _ 𝓜 𝓡 𝓡.env refuses_symbol.name (𝓡.env refuses_symbol.name) refl (refuses_met.met 𝓤 𝓛 𝓜 𝓡 (code.calls-tests_refusing::refusing::Plan::refuses 𝓡.env wired)))
    κs.0 κs.1.0 qs.0 qs.1.0 bounds.0 a.0 a.1.0 a.1.1.0 τ are.1.0.1 are.1.1.0.1)))
