-- Any thread may give a block back, if any may give it back to the inner allocator.
use mir.Syntax.{Dict}
use denote.RattleType.{RattleType}
use denote.Param.Send.{Frees}
use Rattle.std.specs.declared.alloc.Allocator.{Ghosts}
use Rattle.xm_failing_alloc.specs.contracts.RefusingAllocator.TheImpl.{ghosts}

pub frees : (B : RattleType) (g : Ghosts B.Denot) (allocator drops : Dict) → Frees g g.dealloc_token → Frees (ghosts B g allocator drops) (ghosts B g allocator drops).dealloc_token
frees B g allocator drops inner = record { frees = λ refusing. inner.frees refusing.inner }
