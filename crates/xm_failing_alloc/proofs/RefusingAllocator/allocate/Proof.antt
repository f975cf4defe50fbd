-- It counts the request, and answers `Err` if it is the one to refuse, and else what the inner allocator answers. Assumes `Logic`.
use Rattle.std.proofs.Common.{◌≡◌, ℕ, ◌^◌, ◌<◌, true, false, List, [], ◌∷◌, Ok, Err, refl, w64, Bor}
use Rattle.std.specs.Prelude.{Bool}
use seplogic.Ra.Ura.{Ura}
use mir.Syntax.{Ty, Fn}
use mir.Val.{Val, vbool, vint, vptr}
use mir.MapTy.{inst_fn}
use base.Logic.{SProp, ent}
use base.Fml.{Lft, Share, ftrue, froom, flft}
use prog.Memory.{Memory, size, align, capped}
use prog.Routine.{Routine}
use prog.Wp.{WpFn, Tables}
use types.Logic.{Logic}
use types.Kit.{Item, ‵, raw, ◌⊛◌, some, later, given, learn, at_ret, prop, Sq, ◌$◌, ◌∵◌, !, qed, done, move, keep, drop, use0, use1, use2, split, join, fsplit, fjoin, pick, suffices, await}
use types.Part.{agg}
use types.Run.{stop, fld, addr, lit, no_more, and_then, first, branches, skips, exec, returns, returns_within, enter}
use types.ByLocal.{alloc_all, pass_all, free_all, look_at, get, through, sets, lands_as, env}
use contract.BorrowLft.{◌⊑◌, ⊑_trans}
use contract.Monad.{Fun, fact}
use contract.Running.{tables, tables_of}
use sound.WpLaws.{fm_of, WpFn-mono}
use denote.Exit.{yes}
use denote.Memory.{hidden_shr}
use denote.Plain.{uint_vals, uint_Tells}
use denote.RattleType.{owns}
use denote.RawPtr.{block_ptr}
use denote.Ref.{shr_vals}
use denote.Signature.{types_at}
use denote.Steps.{heard, nothing}
use denote.Triple.Call.{calls_at}
use denote.Triple.Clauses.{Ended, Clauses}
use denote.Triple.Spec.{triple_of}
use denote.Triple.Statement.{Triple}
use denote.Triple.Table.{entered, cited}
use denote.Triple.Walked.{Stays, stay_dropped, walk_of, ends_at, walked, Goes-dropped, walk_Meets}
use Rattle.std.proofs.VecSteps.Shapes.{after}
use Rattle.std.proofs.alloc.Calls.{Al, seen, token, Answer, answer_val, Answer-typed, Answer-Ok, Answer-err, takes_key, Takes, at_takes, Answered, Takes-goes, Takes-gives, answers}
use Rattle.xm_failing_alloc.proofs.Handle.{type_args, handle, number, inner_place, left_place, fields}
use Rattle.xm_failing_alloc.proofs.Counting.{Word, Counts, lent, lends, counted}
use Rattle.xm_failing_alloc.proofs.count_request.Symbol as count
use Rattle.xm_failing_alloc.proofs.count_request.Met as count_met
use Rattle.xm_failing_alloc.specs.contracts.Refusing as refusing
use Rattle.xm_failing_alloc.specs.contracts.RefusingAllocator.allocate as terms
use Rattle.xm_failing_alloc.specs.contracts.RefusingAllocator.allocate.Key as key
use Rattle.xm_failing_alloc.proofs.RefusingAllocator.allocate.Statement as stated
use Rattle.xm_failing_alloc.proofs.RefusingAllocator.allocate.Code as code

module _ (Inner : Al) where
  abbrev body : Fn
  body = inst_fn (type_args Inner) code.function

  abbrev ended : Ended
  ended = terms.ended Inner.row Inner.g Inner.d Inner.drops

  abbrev stayed : Stays ended.signature.params ended.kept
  stayed = (stay_dropped (handle Inner) yes, (stay_dropped (number Inner) yes, (stay_dropped (number Inner) yes, tt)))

module _ (Inner : Al) {M : Type 1} {𝓤 : Ura M} (𝓛 : Logic 𝓤) (at_mem : Memory → SProp 𝓤) (run : Routine → Fun 𝓤) (𝓣 : Tables 𝓤 𝓛.H) (takes : Triple 𝓤 (𝓣.C (takes_key Inner)) (Takes Inner 𝓛 at_mem run)) (counts : Triple 𝓤 (𝓣.C count.name) (Counts 𝓛 at_mem run)) where
  open 𝓛 use {H}

  abbrev said : Clauses 𝓤 (ended Inner)
  said = terms.clauses Inner.row Inner.g Inner.d Inner.drops 𝓛 at_mem run

  module _ (κ ρ : Lft) (q s : Share) (within : κ ⊑ ρ) (self : Bor (refusing.the_row Inner.row).Denot) (bytes alignment : ℕ) (τ : Ty) where
    abbrev entry : (walk_of 𝓛 (ended Inner) (stayed Inner) said).Ghost
    entry = (((κ, (ρ, tt)), (q, (s, tt)), (within, tt), (self, (bytes, (alignment, tt))), (shr_vals self, (vint w64 bytes ∷ [], (vint w64 alignment ∷ [], tt)))), τ)

    abbrev passed : List Val
    passed = vptr self.ref_ptr.0 self.ref_ptr.1 ∷ vint w64 bytes ∷ vint w64 alignment ∷ []

    abbrev Post : Val → SProp 𝓤
    Post = (walk_of 𝓛 (ended Inner) (stayed Inner) said).post entry

    -- what is left of the lifetimes where the function returns
    abbrev tokens : List (Item 𝓤)
    tokens = ‵ (flft κ q) ∷ (‵ (flft ρ s) ⊛ ‵ ftrue) ∷ []

    answers_err : Sq 𝓛 tokens (prop (Post (answer_val false 0 0)))
    answers_err =
        nothing ! $ suffices ! _ (ends_at 𝓛 (ended Inner) (stayed Inner) said entry (answer_val false 0 0) (Err (record {})) (tt, (tt, (tt, tt))) (tt, (tt, (tt, tt)))) $
        use0 𝓛 (‵ (Answer.own_val (Err (record {})) (answer_val false 0 0 ∷ []))) (Answer-err 𝓛) $ nothing ! $ nothing ! $ fjoin ! $ nothing ! $ fjoin ! $ nothing ! $ fjoin ! $ join ! $
        move ! (2 ∷ 3 ∷ []) $ join ! $ join ! $ done !

    answers_ok : (b o : ℕ) → Sq 𝓛 (‵ (froom τ b o) ∷ ‵ (token Inner self.now.inner τ (block_ptr b o)) ∷ tokens) (prop (Post (answer_val true b o)))
    answers_ok b o =
        fjoin ! $ suffices ! _ (ends_at 𝓛 (ended Inner) (stayed Inner) said entry (answer_val true b o) (Ok (block_ptr b o)) (tt, (tt, (tt, tt))) (tt, (tt, (tt, tt)))) $
        use0 𝓛 (‵ (Answer.own_val (Ok (block_ptr b o)) (answer_val true b o ∷ []))) (Answer-Ok 𝓛 b o) $ nothing ! $ nothing ! $ fjoin ! $ nothing ! $ fjoin ! $ nothing ! $ fjoin ! $ join ! $
        move ! (2 ∷ 3 ∷ []) $ join ! $ join ! $ done !

    walk : bytes < 2 ^ 64 → alignment < 2 ^ 64 → ent 𝓤 ((walk_of 𝓛 (ended Inner) (stayed Inner) said).pre entry) (WpFn 𝓤 H 𝓣.C 𝓣.Λ (body Inner) passed Post)
    walk fits_bytes fits_alignment =
        let inner : Inner.row.Denot = self.now.inner in
        let at_inner : ℕ × ℕ = inner_place Inner self.ref_ptr in
        let at_left : ℕ × ℕ = left_place Inner self.ref_ptr in
        let call : (Takes Inner 𝓛 at_mem run).Ghost = at_takes Inner 𝓛 at_mem run κ q at_inner inner bytes alignment τ in
        let Asked : Type 0 = (capped (size τ) ≡ bytes) × (capped (align τ) ≡ alignment) in
        qed 𝓛 (((‵ (flft κ q) ⊛ ‵ (flft ρ s) ⊛ ‵ ftrue) ⊛ ‵ (owns (types_at (ended Inner).signature.params entry.0.0) entry.0.3 entry.0.4)) ∷ (raw (fact 𝓤 (ρ ⊑ Inner.row.lives)) ⊛ raw (fact 𝓤 Asked)) ∷ []) ∵
        move ! (1 ∷ []) $ split ! $ heard ! (ρ ⊑ Inner.row.lives) (λ lives. heard ! Asked (λ asked.
        split ! $ split ! $ move ! (2 ∷ []) $ fsplit ! $ fsplit ! $ move ! (1 ∷ []) $
        use1 𝓛 (‵ (seen Inner κ at_inner inner) ⊛ ‵ (hidden_shr Word κ tt at_left.0 at_left.1)) (fields Inner 𝓛 κ self) $ split ! $ keep ! (1 ∷ 4 ∷ 5 ∷ 0 ∷ []) $
        -- [the `&` to the count; the tokens; the `&` to the inner allocator]
        enter ! 𝓣.C 𝓣.Λ (body Inner) passed _ $ alloc_all ! (λ l. pass_all ! refl ((tt, tt), ((tt, record { fits = fits_bytes }), ((tt, record { fits = fits_alignment }), tt))) $
        sets ! (addr ! (through ! refl (fld ! refl (stop !)))) refl (tt, tt) $
        use2 𝓛 (raw ((Counts 𝓛 at_mem run).pre (lent 𝓛 at_mem run κ q at_left))) (lends 𝓛 at_mem run κ q at_left) $
        calls_at ! (fm_of 𝓤 H 𝓛.laws 𝓣) (Counts 𝓛 at_mem run) counts (lent 𝓛 at_mem run κ q at_left) (and_then ! (get ! refl) (no_more !)) (λ u.
        use1 𝓛 (later (some (λ (refused : Bool). given (u ≡ vbool refused) (‵ (flft κ q))))) (counted 𝓛 at_mem run κ q at_left u) $ await ! tt $ pick ! (λ refused. learn ! (λ is.
        lands_as ! is refl (tt, tt) $
        first ! $ branches ! (get ! refl)
        (λ yes_refused. move ! (2 ∷ []) $ drop ! $
        sets ! (agg ! (no_more !)) refl (tt, tt) $ sets ! (agg ! (and_then ! (lit ! tt) (and_then ! (get ! refl) (no_more !)))) refl (Answer-typed false 0 0) $
        returns_within ! Post refl (look_at ! 0 refl) $ free_all ! refl $ answers_err)
        (λ not_refused. skips ! $ exec ! 𝓣.C 𝓣.Λ (env (body Inner).locals l) (after 3 (body Inner).body) (at_ret (env (body Inner).locals l) Post) $
        sets ! (addr ! (through ! refl (fld ! refl (stop !)))) refl (tt, tt) $
        move ! (2 ∷ 0 ∷ []) $ use2 𝓛 (raw ((Takes Inner 𝓛 at_mem run).pre call)) (Takes-goes Inner 𝓛 at_mem run κ q at_inner inner (⊑_trans κ ρ Inner.row.lives within lives) bytes alignment τ asked.0 asked.1 fits_bytes fits_alignment) $
        calls_at ! (fm_of 𝓤 H 𝓛.laws 𝓣) (Takes Inner 𝓛 at_mem run) takes call (and_then ! (get ! refl) (and_then ! (get ! refl) (and_then ! (get ! refl) (no_more !)))) (λ v.
        use1 𝓛 (later (raw (Answered Inner 𝓛 at_mem run inner τ v) ⊛ ‵ (flft κ q))) (Takes-gives Inner 𝓛 at_mem run κ q at_inner inner bytes alignment τ v) $ await ! tt $ split ! $
        answers Inner ! at_mem run inner τ v
        (λ b o e. lands_as ! e refl (Answer-typed true b o) $ returns ! (look_at ! 0 refl) $ free_all ! refl $ answers_ok b o)
        (λ e. lands_as ! e refl (Answer-typed false 0 0) $ returns ! (look_at ! 0 refl) $ free_all ! refl $ answers_err)))))))))

pub allocate_spec : {M : Type 1} → stated.statement M
unfolding tables_of
allocate_spec 𝓤 𝓛 𝓜 𝓡 wired B laws g d drops met _ =
    let Inner : Al = record { row = B; laws = laws; g = g; d = d; drops = drops } in
    let 𝓣 : Tables 𝓤 𝓛.H = tables_of 𝓤 𝓛.H 𝓜 (tables 𝓤 𝓛.H 𝓜 𝓡 𝓡.env) in
    let clauses = terms.clauses B g d drops 𝓛 𝓜.mem 𝓡.returns in
    let counts = cited 𝓤 𝓛.H _ 𝓜 𝓡 𝓡.env count.name (𝓡.env count.name) refl (count_met.met 𝓤 𝓛 𝓜 𝓡 (code.calls-xm_failing_alloc::count_request 𝓡.env wired)) in
    let number_goes = Goes-dropped 𝓛 2 (number Inner) yes (λ κs x f. refl) in
    entered 𝓤 𝓛.H (triple_of 𝓛 (terms.signature B) (terms.spec B g d drops 𝓛 𝓜.mem 𝓡.returns)) 𝓣.C 𝓣.Λ (key.name (type_args Inner)) (body Inner) (code.unfolded 𝓤 𝓛.H 𝓜 𝓡 wired (B, tt) d drops)
    (walk_Meets 𝓛 (ended Inner) (stayed Inner) (Goes-dropped 𝓛 2 (handle Inner) yes (λ κs x f. refl), (number_goes, (number_goes, tt))) clauses (WpFn 𝓤 𝓛.H 𝓣.C 𝓣.Λ (body Inner)) (WpFn-mono 𝓤 𝓛.H 𝓛.laws 𝓣 (body Inner))
    (walked 𝓛 (ended Inner) (stayed Inner) clauses (WpFn 𝓤 𝓛.H 𝓣.C 𝓣.Λ (body Inner)) (λ κs. (shr_vals, (uint_vals w64, (uint_vals w64, tt)))) (λ κs. ((λ r vs is. is.0), (uint_Tells w64, (uint_Tells w64, tt))))
    (λ κs qs bounds args τ are. walk Inner 𝓛 𝓜.mem 𝓡.returns 𝓣 (met.allocate drops) counts κs.0 κs.1.0 qs.0 qs.1.0 bounds.0 args.0 args.1.0 args.1.1.0 τ are.1.0.1 are.1.1.0.1)))
