use Rattle.std.proofs.Common.{◌≡◌, ◌++◌, ◌∷◌, [], ◌∙◌, false, if◌then◌else◌, rules, sym}
use Rattle.std.specs.List.{flat_map, list_any}
use Rattle.xm_texts.specs.RowAnswers.{byte_in_quotes}
use Rattle.xm_files.specs.Plain.{is_mark}
use Rattle.xm_texts.proofs.quoted.push_field.Goals as goal

pub returns-then-not-has_mark : goal.returns-then-not-has_mark
returns-then-not-has_mark g c =
    let field = c.args.field.now in
    let plain : list_any is_mark field ≡ false = search rules in
    c.in_ok-extend_from_slice.ensures.items ∙ sym (λ k. c.args.text.now.items ++ (if plain k then 34 ∷ flat_map byte_in_quotes field ++ 34 ∷ [] else field))
