use Rattle.std.proofs.Common.{ap, ◌≡◌, ◌∙◌, [], List, None, Option, Some, codes, map, option_map, refl, unwrap_or}
use Rattle.std.specs.Borrow.{Bor}
use Rattle.std.specs.Option.{UnwrapsOrElse}
use Rattle.clap.specs.Words.{Text, found_of}
use Rattle.clap.proofs.WalkLemmas.{raw_values-rows}
use Rattle.xm_program.proofs.requests.paths_in.Goals as goal

read : (found : Option (Bor (List (Bor Text)))) (given : Bor (List (Bor Text))) → UnwrapsOrElse found (λ paths. paths.now ≡ []) given
    → map (λ s. s.now) given.now ≡ unwrap_or (option_map (λ paths. map (λ s. s.now) paths.now) found) []
read None given is = rw is refl
read (Some paths) given is = rw is refl

pub returns : goal.returns
returns c =
    read c.get_strs.result c.unwrap_or_default.result c.unwrap_or_default.ensures
    ∙ ap (λ (paths : Option (List Text)). unwrap_or paths []) (c.get_strs.ensures ∙ raw_values-rows (found_of c.args.values.now) (codes "ORDERS"))
