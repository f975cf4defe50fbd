use Rattle.std.proofs.Common.{◌≡◌, List, None, Option, Some, option_map, refl}
use Rattle.clap.specs.Words.{Row, Text, found_of, rows_of, subcommand_rows_of}
use Rattle.xm_program.proofs.requests.request_in.Goals as goal

module _ {S : Type 0} (name_of : S → Text) (rows_in : S → List Row) where
  abbrev named : S → Text × List Row
  named s = (name_of s, rows_in s)

  -- a subcommand, by its name and its rows
  met : (o : Option S) (name : Text) (rows : List Row) → Some name ≡ option_map name_of o → Some rows ≡ option_map (λ (p : Text × List Row). p.1) (option_map named o) → option_map named o ≡ Some (name, rows)
  met None name rows e f = cc
  met (Some s) name rows e f =
      let same : name ≡ name_of s = cc in
      let all : rows ≡ rows_in s = cc in
      rw (same, all) refl

pub returns-in-run : goal.returns-in-run
returns-in-run c =
    let is : subcommand_rows_of c.args.matches.now ≡ Some (c.in_ok-name.name.now, rows_of (found_of c.in_ok-name.values.now)) =
    met _ _ _ _ _ c.in_ok-name.ensures.name c.in_ok-name.ensures.rows in
    rw (is, c.in-run.is) c.run_day_in.ensures
