-- What a `Refusing` shows of itself.
use Rattle.std.specs.Prelude.{ℕ}
use Rattle.xm_failing_alloc.specs.declared.Refusing.{Refusing}

module _ {B : Type 0} where
  -- the allocator that answers the requests that are not refused
  abbrev pub inner_allocator : Refusing B → B
  inner_allocator r = r.inner

  -- the number of the request to be refused, counted from 1; 0 where none is
  abbrev pub refused_request : Refusing B → ℕ
  refused_request r = r.nth
