-- The name of a held stop, which is its member and the member's own reference.
use Rattle.std.specs.Prelude.{ℕ}
use Rattle.xm_rules.specs.declared.orders.Stop.{Stop}

abbrev pub stop_owner : Stop → ℕ
stop_owner s = s.member

abbrev pub stop_reference : Stop → ℕ
stop_reference s = s.reference
