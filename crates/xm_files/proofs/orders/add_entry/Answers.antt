use Rattle.std.proofs.Common.{ℕ, arith}
use Rattle.std.proofs.lemmas.List.FromFn.{length-map-range_with_len}
use Rattle.xm_config.specs.declared.rows.Row.{Row}
use Rattle.xm_files.proofs.orders.add_entry.Goals as goal

pub add_each-requires : goal.add_each-requires
add_each-requires c =
    let row : ℕ → Row = λ security. record { line = c.args.line; security = security; command = c.in-Each.command } in
    let count = length-map-range_with_len row 0 c.args.securities in
    let few = rw c.in-Each.is at c.requires in
    omega (arith, count, few)
