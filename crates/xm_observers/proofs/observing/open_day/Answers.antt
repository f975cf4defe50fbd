use Rattle.std.proofs.Common.{refl, length, ap, ◌∙◌}
use Rattle.std.proofs.lemmas.List.{length-map}
use Rattle.xm_config.proofs.Days.{day-opened}
use Rattle.xm_config.specs.Opening.{journal_of}
use Rattle.xm_observers.proofs.observing.open_day.Goals as goal

pub returns-clause-opened : goal.returns-clause-opened
returns-clause-opened g c =
    let config = c.args.config.now in
    let opened = c.in_ok-desks.ensures.opened in
    record {
      sound = c.in_ok-desks.ensures.sound;
      each = ap length opened ∙ length-map config.securities (journal_of config);
      day_is = day-opened config c.in_ok-desks.desks.items opened;
      all = refl;
      seen_is = refl;
    }
