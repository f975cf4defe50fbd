-- `count_request` at a call, for the walk of `allocate`. Assumes `Logic`.
--     Word        the row of the count
--     Counts      the contract of `count_request`
--     lent        what the call is given: a `&` to the count, and a share of its lifetime
--     lends       the `&` and the lifetime's token make what the call asks for
--     counted     the call answers a `bool`, and hands the token back
use Rattle.std.proofs.Common.{◌≡◌, ℕ, List, [], ◌∷◌, refl, ap}
use Rattle.std.specs.Prelude.{Bool}
use seplogic.Ra.Ura.{Ura}
use mir.Val.{Val, vbool, vptr}
use base.Logic.{SProp, ent, ex, guard, sep, id⊢}
use base.Fml.{Lft, Share, flft, fsep, ftrue}
use prog.Memory.{Memory}
use prog.Routine.{Routine}
use types.Logic.{Logic, sem}
use types.Kit.{‵, raw, ◌⊛◌, some, later, ◌$◌, ◌∵◌, !, qed, done, move, keep, use1, split, join, fjoin, feq_i, feq_l, pick, show, check, await, updating, now as at_once}
use contract.Monad.{Fun}
use denote.Builtin.{bool}
use denote.Memory.{hidden_shr}
use denote.RattleType.{RattleType}
use denote.Steps.{nothing, only}
use denote.Triple.Spec.{triple_of}
use denote.Triple.Statement.{Contract}
use Rattle.std.specs.contracts.sync.atomic.AtomicU64 as atomic
use Rattle.xm_failing_alloc.specs.contracts.count_request as count

abbrev pub Word : RattleType
Word = atomic.the_row

module _ {M : Type 1} {𝓤 : Ura M} (𝓛 : Logic 𝓤) (at_mem : Memory → SProp 𝓤) (run : Routine → Fun 𝓤) where
  open 𝓛 use {H, A}

  abbrev pub Counts : Contract 𝓤
  Counts = triple_of 𝓛 count.signature (count.spec 𝓛 at_mem run)

  module _ (κ : Lft) (q : Share) (at : ℕ × ℕ) where
    abbrev pub lent : Counts.Ghost
    lent = (((κ, tt), (q, tt), tt, (record { ref_ptr = at; now = tt }, tt), (vptr at.0 at.1 ∷ [], tt)), tt)

    pub lends : ent 𝓤 (sep 𝓤 (sem 𝓛 (hidden_shr Word κ tt at.0 at.1)) (A.lft κ q)) (Counts.pre lent)
    lends =
        qed 𝓛 (‵ (hidden_shr Word κ tt at.0 at.1) ∷ ‵ (flft κ q) ∷ []) ∵
        feq_i ! (List Val) (vptr at.0 at.1 ∷ []) (vptr at.0 at.1 ∷ []) refl $ fjoin ! $ nothing ! $ move ! (1 ∷ []) $ fjoin ! $
        nothing ! $ move ! (2 ∷ []) $ join ! $ join ! $ nothing ! $ move ! (1 ∷ []) $ done !

    pub counted : (v : Val) → ent 𝓤 (Counts.post lent v) (H.⇛ (ex 𝓤 (λ (refused : Bool). guard 𝓤 (v ≡ vbool refused) (A.lft κ q))))
    counted v =
        qed 𝓛 (raw (Counts.post lent v) ∷ []) ∵ updating ! $
        use1 𝓛 (later (some (λ (refused : Bool). ((‵ (flft κ q) ⊛ ‵ ftrue) ⊛ ‵ (bool.own_val refused (v ∷ []))) ⊛ some (λ (last : Unit {0} × Unit {0}). ‵ (fsep ftrue ftrue) ⊛ ‵ ftrue)))) (id⊢ 𝓤 _) $
        await ! tt $ pick ! (λ refused. split ! $ split ! $ move ! (1 ∷ []) $ feq_l ! (λ is. split ! $ at_once ! $
        show ! (λ (b : Bool). guard 𝓤 (v ≡ vbool b) (A.lft κ q)) refused $ check ! (ap only is) $ keep ! (0 ∷ []) $ done !))
