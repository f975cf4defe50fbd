use Rattle.std.proofs.Common.{rules, ◌≡◌, ◌∙◌, List, ap, arith, length, map, sym, None}
use Rattle.std.specs.Prelude.{slice_get}
use Rattle.xm_rules.specs.Step.{Journal}
use Rattle.std.proofs.lemmas.List.{length-map}
use Rattle.xm_board.specs.Opened.{Unnamed}
use Rattle.xm_rules.specs.declared.settings.DeskSettings.{DeskSettings}
use Rattle.xm_segment.proofs.Boards.{all-fresh, beside}
use Rattle.xm_config.proofs.Sound.{sound-few}
use Rattle.xm_config.specs.Opening.{opening_fault, settings_of}
use Rattle.xm_segment.proofs.opened.Opened.new.Goals as goal

pub boards_of-requires : goal.boards_of-requires
boards_of-requires c = λ i desk at.
    let config = c.args.config.now in
    let items = c.as_slice.ensures.value ∙ c.in_ok-desks.ensures.opened in
    all-fresh config config.securities i desk (ap (λ (js : List Journal). slice_get js i) (sym items) ∙ at)

pub invariant_of-result : goal.invariant_of-result
invariant_of-result c =
    let config = c.args.config.now in
    let settings = c.in_ok-boards.ensures ∙ ap (λ (js : List Journal). map (λ (j : Journal). j.settings) js) c.as_slice.ensures.value in
    let both = beside config config.securities c.in_ok-desks.desks.items c.in_ok-boards.boards.items c.in_ok-desks.ensures.opened settings in
    let sound : opening_fault config c.args.workers c.args.watchers ≡ None = search rules in
    let boards = c.in_ok-boards.boards.items in
    let long = ap (λ (ss : List DeskSettings). length ss) both.0 in
    record {
      desks = c.in_ok-desks-2.ensures ∙ both.1;
      parts = c.new.ensures;
      few = omega (arith, sound-few config c.args.workers c.args.watchers sound, long, length-map boards (λ (b : Unnamed). b.settings), length-map config.securities (settings_of config));
      few_workers = search (rules, arith);
      few_watchers = search (rules, arith);
    }

pub returns-clause-settings : goal.returns-clause-settings
returns-clause-settings c =
    let config = c.args.config.now in
    let settings = c.in_ok-boards.ensures ∙ ap (λ (js : List Journal). map (λ (j : Journal). j.settings) js) c.as_slice.ensures.value in
    (beside config config.securities c.in_ok-desks.desks.items c.in_ok-boards.boards.items c.in_ok-desks.ensures.opened settings).0
