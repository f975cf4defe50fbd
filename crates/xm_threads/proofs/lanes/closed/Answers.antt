use Rattle.std.proofs.Common.{◌≡◌, ℕ, List, ◌-◌, length, map, ap, arith, ◌∙◌}
use Rattle.std.proofs.lemmas.List.{length-map}
use Rattle.xm_threads.proofs.Apart.{day-apart, few-accepted}
use Rattle.xm_threads.proofs.Merging.{feed-behind}
use Rattle.xm_config.specs.Day.{Day, day_of}
use Rattle.xm_threads.specs.Lanes.{LaneView, TextsView}
use Rattle.xm_replay.specs.Taken.{commands_in}
use Rattle.xm_rules.specs.Step.{Journal, replay}
use Rattle.xm_threads.proofs.lanes.closed.Goals as goal

pub commands_in-accepted-requires : goal.commands_in-accepted-requires
commands_in-accepted-requires c =
    let some = c.requires.taken in
    let few = few-accepted c.args.config.now some.0 c.args.lanes.items (some.2 c.in_ok-told.ensures.had_memory) c.in_ok-desks.ensures.had_memory in
    let same = ap commands_in (c.as_slice-2.ensures.value ∙ c.in_ok-desks.ensures.desks) in
    omega (arith, few, same, some.1)

pub overflow_sub-refused : goal.overflow_sub-refused
overflow_sub-refused c =
    let some = c.requires.taken in
    let few = few-accepted c.args.config.now some.0 c.args.lanes.items (some.2 c.in_ok-told.ensures.had_memory) c.in_ok-desks.ensures.had_memory in
    let same = ap commands_in (c.as_slice-2.ensures.value ∙ c.in_ok-desks.ensures.desks) in
    omega (arith, few, same, some.1, c.commands_in-accepted.ensures)

pub returns : goal.returns
returns c = λ asked names texts rows counted so_far tells.
    let lanes = c.args.lanes.items in
    let taken = so_far c.in_ok-told.ensures.had_memory in
    let had = c.in_ok-desks.ensures.had_memory in
    let told = tells c.in_ok-told.ensures.had_memory had in
    let journals = map (λ (l : LaneView). l.journal) lanes in
    let is = c.in_ok-desks.ensures.desks in
    let accepted : c.commands_in-accepted.result ≡ commands_in journals = c.commands_in-accepted.ensures ∙ ap commands_in (c.as_slice-2.ensures.value ∙ is) in
    let few = few-accepted c.args.config.now rows lanes taken had in
    let left : c.args.rows - c.commands_in-accepted.result ≡ length rows - commands_in journals = omega (arith, accepted, counted) in
    let apart = day-apart c.args.config.now rows lanes taken had in
    record {
      sound = c.requires.sound;
      each = ap length is ∙ length-map lanes (λ (l : LaneView). l.journal) ∙ taken.each;
      day_is =
          ap (λ (js : List Journal). day_of js c.commands_in-accepted.result (c.args.rows - c.commands_in-accepted.result)) is
          ∙ ap (λ (a : ℕ). day_of journals a (c.args.rows - c.commands_in-accepted.result)) accepted
          ∙ ap (day_of journals (commands_in journals)) left
          ∙ apart;
      all = omega (arith, accepted, left, few, counted);
      answers_are = c.in_ok-told.ensures.answers ∙ ap (λ (t : TextsView). t.answers) told.texts_are;
      trades_are = c.in_ok-told.ensures.trades ∙ ap (λ (t : TextsView). t.trades) told.texts_are;
      events_are = c.in_ok-told.ensures.events ∙ ap (λ (t : TextsView). t.events) told.texts_are;
      depth_is = c.in_ok-told.ensures.depth
          ∙ feed-behind asked.depth names c.args.config.now rows (map replay c.as_slice.result.now) c.args.merged.texts.levels (ap (λ (t : TextsView). t.levels) told.texts_are)
          (ap (map replay) (c.as_slice.ensures.value ∙ is) ∙ ap (λ (d : Day). d.states) apart);
    }
