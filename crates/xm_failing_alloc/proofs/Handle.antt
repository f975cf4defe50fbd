-- A `&` to a `Refusing`, in the walks of `allocate` and `deallocate`. Assumes `Logic`.
--     type_args, handle, number       what the functions are generic over, and the slots of `&self` and of a `usize`
--     inner_place, left_place     where the inner allocator and the count lie
--     fields      the `&` has one to the inner allocator and one to the count
use Rattle.std.proofs.Common.{ℕ, ◌+◌, [], ◌∷◌, Bor}
use seplogic.Ra.Ura.{Ura}
use mir.Syntax.{Args, a_type, dnil, dcons}
use base.Logic.{ent, sep, id⊢}
use base.Fml.{Lft}
use prog.Memory.{size, align, up}
use types.Logic.{Logic, sem}
use types.Kit.{‵, ◌$◌, ◌∵◌, !, qed, done, move, keep, use1, fsplit}
use denote.Builtin.{usize, RefOf}
use denote.Memory.{hidden_shr}
use denote.Opens.{unhide}
use denote.Param.{bounded, param}
use denote.Signature.{Slot, plain}
use Rattle.std.proofs.alloc.Calls.{Al, α, seen}
use Rattle.xm_failing_alloc.proofs.Counting.{Word}
use Rattle.xm_failing_alloc.specs.contracts.Refusing as refusing

module _ (Inner : Al) where
  abbrev pub type_args : Args
  type_args = bounded (a_type ∷ []) (Inner.row, tt) (dcons Inner.d (dcons Inner.drops dnil))

  abbrev pub handle : Slot 2
  handle = RefOf (0 ∷ []) tt (plain (λ _. refusing.the_row (param 0 Inner.row))) (λ _. tt)

  abbrev pub number : Slot 2
  number = plain (λ _. usize)

  abbrev pub inner_place : ℕ × ℕ → ℕ × ℕ
  inner_place at = (at.0, at.1 + up (align (α Inner)) 0)

  abbrev pub left_place : ℕ × ℕ → ℕ × ℕ
  left_place at = (at.0, at.1 + up 8 (up (align (α Inner)) 0 + size (α Inner)))

  module _ {M : Type 1} {𝓤 : Ura M} (𝓛 : Logic 𝓤) (κ : Lft) (self : Bor (refusing.the_row Inner.row).Denot) where
    pub fields : ent 𝓤 (sem 𝓛 (hidden_shr (refusing.the_row (param 0 Inner.row)) κ self.now self.ref_ptr.0 self.ref_ptr.1))
        (sep 𝓤 (sem 𝓛 (seen Inner κ (inner_place self.ref_ptr) self.now.inner)) (sem 𝓛 (hidden_shr Word κ tt (left_place self.ref_ptr).0 (left_place self.ref_ptr).1)))
    fields =
        qed 𝓛 (‵ (hidden_shr (refusing.the_row (param 0 Inner.row)) κ self.now self.ref_ptr.0 self.ref_ptr.1) ∷ []) ∵
        unhide ! $ fsplit ! $ fsplit ! $ use1 𝓛 (‵ (seen Inner κ (inner_place self.ref_ptr) self.now.inner)) (id⊢ 𝓤 _) $
        move ! (1 ∷ []) $ fsplit ! $ keep ! (2 ∷ 0 ∷ []) $ done !
