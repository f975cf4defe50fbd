use Rattle.std.proofs.Common.{sym, ℕ}
use Rattle.std.proofs.lemmas.List.FromFn.{length-map-range_with_len}
use Rattle.xm_files.proofs.orders.count_of.Goals as goal
use Rattle.xm_config.specs.declared.rows.Row.{Row}

pub returns-in-Each : goal.returns-in-Each
returns-in-Each c = λ line.
    rw c.in-Each.is (sym (length-map-range_with_len (let each : ℕ → Row = λ security. record { line = line; security = security; command = c.in-Each.field-0 } in each) 0 c.args.securities))
