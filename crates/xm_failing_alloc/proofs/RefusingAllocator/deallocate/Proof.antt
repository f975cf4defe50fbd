-- It gives the block back to the inner allocator. Assumes `Logic`.
use Rattle.std.proofs.Common.{◌≡◌, ℕ, ◌^◌, ◌<◌, List, [], ◌∷◌, refl, w64, Bor}
use seplogic.Ra.Ura.{Ura}
use mir.Syntax.{Ty, Fn}
use mir.Val.{Val, vunit, vint, vptr}
use mir.MapTy.{inst_fn}
use base.Logic.{SProp, ent, never_e}
use base.Fml.{Lft, Share, ftrue, ffalse, fsep, froom, flft}
use prog.Memory.{Memory, size, align, capped}
use prog.Routine.{Routine}
use prog.Wp.{WpFn, Tables}
use types.Logic.{Logic}
use types.Kit.{Item, ‵, raw, ◌⊛◌, later, given, learn, prop, Sq, ◌$◌, ◌∵◌, !, qed, done, by, move, keep, use1, split, join, fsplit, fjoin, feq_i, group, suffices, await}
use types.Run.{stop, fld, addr, unit_lit, of_opd, no_more, and_then, returns, enter}
use types.ByLocal.{alloc_all, pass_all, free_all, look_at, get, through, sets, lands_as}
use contract.BorrowLft.{◌⊑◌, ⊑_trans}
use contract.Monad.{Fun, fact}
use contract.Running.{tables, tables_of}
use sound.WpLaws.{fm_of, WpFn-mono}
use denote.Builtin.{RawPtr}
use denote.Exit.{yes}
use denote.Memory.{hidden_shr}
use denote.Plain.{uint_vals, uint_Tells}
use denote.RattleType.{owns}
use denote.RawPtr.{Ptr, block_ptr, null_ptr, ptr_val, rawptr_vals, rawptr_Tells}
use denote.Ref.{shr_vals}
use denote.Signature.{Slot, plain, types_at}
use denote.Steps.{heard, nothing}
use denote.Triple.Call.{calls_at}
use denote.Triple.Clauses.{Ended, Clauses}
use denote.Triple.Spec.{triple_of}
use denote.Triple.Statement.{Triple}
use denote.Triple.Table.{entered}
use denote.Triple.Walked.{Stays, stay_dropped, walk_of, ends_at, walked, Goes-dropped, walk_Meets}
use Rattle.std.proofs.alloc.Calls.{Al, seen, token, gives_key, Gives, at_gives, Gives-goes, Gives-Gives}
use Rattle.xm_failing_alloc.proofs.Handle.{type_args, handle, number, inner_place, left_place, fields}
use Rattle.xm_failing_alloc.proofs.Counting.{Word}
use Rattle.xm_failing_alloc.specs.contracts.Refusing as refusing
use Rattle.xm_failing_alloc.specs.contracts.RefusingAllocator.deallocate as terms
use Rattle.xm_failing_alloc.specs.contracts.RefusingAllocator.deallocate.Key as key
use Rattle.xm_failing_alloc.proofs.RefusingAllocator.deallocate.Statement as stated
use Rattle.xm_failing_alloc.proofs.RefusingAllocator.deallocate.Code as code

module _ (Inner : Al) where
  abbrev body : Fn
  body = inst_fn (type_args Inner) code.function

  abbrev pointer : Slot 2
  pointer = plain (λ _. RawPtr)

  abbrev ended : Ended
  ended = terms.ended Inner.row Inner.g Inner.d Inner.drops

  abbrev stayed : Stays ended.signature.params ended.kept
  stayed = (stay_dropped (handle Inner) yes, (stay_dropped pointer yes, (stay_dropped (number Inner) yes, (stay_dropped (number Inner) yes, tt))))

module _ (Inner : Al) {M : Type 1} {𝓤 : Ura M} (𝓛 : Logic 𝓤) (at_mem : Memory → SProp 𝓤) (run : Routine → Fun 𝓤) (𝓣 : Tables 𝓤 𝓛.H) (gives : Triple 𝓤 (𝓣.C (gives_key Inner)) (Gives Inner 𝓛 at_mem run)) where
  open 𝓛 use {H}

  abbrev said : Clauses 𝓤 (ended Inner)
  said = terms.clauses Inner.row Inner.g Inner.d Inner.drops 𝓛 at_mem run

  module _ (κ ρ : Lft) (q s : Share) (within : κ ⊑ ρ) (self : Bor (refusing.the_row Inner.row).Denot) (bytes alignment : ℕ) (τ : Ty) where
    abbrev entry : Ptr → (walk_of 𝓛 (ended Inner) (stayed Inner) said).Ghost
    entry p = (((κ, (ρ, tt)), (q, (s, tt)), (within, tt), (self, (p, (bytes, (alignment, tt)))), (shr_vals self, (rawptr_vals p, (vint w64 bytes ∷ [], (vint w64 alignment ∷ [], tt))))), τ)

    abbrev passed : Ptr → List Val
    passed p = vptr self.ref_ptr.0 self.ref_ptr.1 ∷ ptr_val p ∷ vint w64 bytes ∷ vint w64 alignment ∷ []

    abbrev Post : Ptr → Val → SProp 𝓤
    Post p = (walk_of 𝓛 (ended Inner) (stayed Inner) said).post (entry p)

    abbrev Asked : Type 0
    Asked = (capped (size τ) ≡ bytes) × (capped (align τ) ≡ alignment)

    abbrev owned : Ptr → Item 𝓤
    owned p = (‵ (flft κ q) ⊛ ‵ (flft ρ s) ⊛ ‵ ftrue) ⊛ ‵ (owns (types_at (ended Inner).signature.params (entry p).0.0) (entry p).0.3 (entry p).0.4)

    ends : (p : Ptr) → Sq 𝓛 (‵ (flft κ q) ∷ (‵ (flft ρ s) ⊛ ‵ ftrue) ∷ []) (prop (Post p vunit))
    ends p =
        suffices ! _ (ends_at 𝓛 (ended Inner) (stayed Inner) said (entry p) vunit tt (tt, (tt, (tt, (tt, tt)))) (tt, (tt, (tt, (tt, tt))))) $
        nothing ! $ feq_i ! (List Val) (vunit ∷ []) (vunit ∷ []) refl $
        nothing ! $ nothing ! $ fjoin ! $ nothing ! $ fjoin ! $ nothing ! $ fjoin ! $ nothing ! $ fjoin ! $ join ! $ move ! (2 ∷ 3 ∷ []) $ join ! $ join ! $ done !

    walk : bytes < 2 ^ 64 → alignment < 2 ^ 64 → (p : Ptr) → ent 𝓤 ((walk_of 𝓛 (ended Inner) (stayed Inner) said).pre (entry p)) (WpFn 𝓤 H 𝓣.C 𝓣.Λ (body Inner) (passed p) (Post p))
    walk fits_bytes fits_alignment null_ptr =
        qed 𝓛 (owned null_ptr ∷ (raw (fact 𝓤 (ρ ⊑ Inner.row.lives)) ⊛ raw (fact 𝓤 Asked) ⊛ ‵ (fsep ffalse (token Inner self.now.inner τ null_ptr))) ∷ []) ∵
        move ! (1 ∷ []) $ split ! $ move ! (1 ∷ []) $ split ! $ move ! (1 ∷ []) $ fsplit ! $ keep ! (0 ∷ []) $ by ! (never_e 𝓤 _)
    walk fits_bytes fits_alignment (block_ptr b o) =
        let inner : Inner.row.Denot = self.now.inner in
        let at_inner : ℕ × ℕ = inner_place Inner self.ref_ptr in
        let at_left : ℕ × ℕ = left_place Inner self.ref_ptr in
        let p : Ptr = block_ptr b o in
        let call : (Gives Inner 𝓛 at_mem run).Ghost = at_gives Inner 𝓛 at_mem run κ q at_inner inner b o bytes alignment τ in
        qed 𝓛 (owned p ∷ (raw (fact 𝓤 (ρ ⊑ Inner.row.lives)) ⊛ raw (fact 𝓤 Asked) ⊛ ‵ (fsep (froom τ b o) (token Inner inner τ p))) ∷ []) ∵
        move ! (1 ∷ []) $ split ! $ heard ! (ρ ⊑ Inner.row.lives) (λ lives. split ! $ heard ! Asked (λ asked. fsplit ! $
        move ! (2 ∷ []) $ split ! $ split ! $ move ! (2 ∷ []) $ fsplit ! $ fsplit ! $ move ! (1 ∷ []) $
        use1 𝓛 (‵ (seen Inner κ at_inner inner) ⊛ ‵ (hidden_shr Word κ tt at_left.0 at_left.1)) (fields Inner 𝓛 κ self) $ split ! $ keep ! (6 ∷ 7 ∷ 0 ∷ 4 ∷ 5 ∷ []) $
        -- [room for the value; the right to free the block; the `&` to the inner allocator; the tokens]
        enter ! 𝓣.C 𝓣.Λ (body Inner) (passed p) _ $ alloc_all ! (λ l. pass_all ! refl ((tt, tt), ((tt, tt), ((tt, record { fits = fits_bytes }), ((tt, record { fits = fits_alignment }), tt)))) $
        sets ! (addr ! (through ! refl (fld ! refl (stop !)))) refl (tt, tt) $
        group ! 4 $ use1 𝓛 (raw ((Gives Inner 𝓛 at_mem run).pre call)) (Gives-goes Inner 𝓛 at_mem run κ q at_inner inner (⊑_trans κ ρ Inner.row.lives within lives) b o bytes alignment τ asked.0 asked.1 fits_bytes fits_alignment) $
        calls_at ! (fm_of 𝓤 H 𝓛.laws 𝓣) (Gives Inner 𝓛 at_mem run) gives call (and_then ! (get ! refl) (and_then ! (get ! refl) (and_then ! (get ! refl) (and_then ! (get ! refl) (no_more !))))) (λ v.
        use1 𝓛 (later (given (v ≡ vunit) (‵ (flft κ q)))) (Gives-Gives Inner 𝓛 at_mem run κ q at_inner inner b o bytes alignment τ v) $ await ! tt $ learn ! (λ e.
        lands_as ! e refl (tt, tt) $ sets ! (of_opd ! (unit_lit !)) refl (tt, tt) $ returns ! (look_at ! 0 refl) $ free_all ! refl $ ends p)))))

pub deallocate_spec : {M : Type 1} → stated.statement M
unfolding tables_of
deallocate_spec 𝓤 𝓛 𝓜 𝓡 wired B laws g d drops met _ =
    let Inner : Al = record { row = B; laws = laws; g = g; d = d; drops = drops } in
    let 𝓣 : Tables 𝓤 𝓛.H = tables_of 𝓤 𝓛.H 𝓜 (tables 𝓤 𝓛.H 𝓜 𝓡 𝓡.env) in
    let clauses = terms.clauses B g d drops 𝓛 𝓜.mem 𝓡.returns in
    let number_goes = Goes-dropped 𝓛 2 (number Inner) yes (λ κs x f. refl) in
    entered 𝓤 𝓛.H (triple_of 𝓛 (terms.signature B) (terms.spec B g d drops 𝓛 𝓜.mem 𝓡.returns)) 𝓣.C 𝓣.Λ (key.name (type_args Inner)) (body Inner) (code.unfolded 𝓤 𝓛.H 𝓜 𝓡 wired (B, tt) d drops)
    (walk_Meets 𝓛 (ended Inner) (stayed Inner) (Goes-dropped 𝓛 2 (handle Inner) yes (λ κs x f. refl), (Goes-dropped 𝓛 2 (pointer Inner) yes (λ κs x f. refl), (number_goes, (number_goes, tt)))) clauses (WpFn 𝓤 𝓛.H 𝓣.C 𝓣.Λ (body Inner)) (WpFn-mono 𝓤 𝓛.H 𝓛.laws 𝓣 (body Inner))
    (walked 𝓛 (ended Inner) (stayed Inner) clauses (WpFn 𝓤 𝓛.H 𝓣.C 𝓣.Λ (body Inner)) (λ κs. (shr_vals, (rawptr_vals, (uint_vals w64, (uint_vals w64, tt))))) (λ κs. ((λ r vs is. is.0), (rawptr_Tells, (uint_Tells w64, (uint_Tells w64, tt)))))
    (λ κs qs bounds args τ are. walk Inner 𝓛 𝓜.mem 𝓡.returns 𝓣 (met.deallocate drops) κs.0 κs.1.0 qs.0 qs.1.0 bounds.0 args.0 args.1.1.0 args.1.1.1.0 τ are.1.1.0.1 are.1.1.1.0.1 args.1.0)))
