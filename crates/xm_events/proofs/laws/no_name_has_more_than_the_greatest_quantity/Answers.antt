use Rattle.xm_events.proofs.FewUnits.{given_few, seen_few}
use Rattle.xm_events.proofs.laws.no_name_has_more_than_the_greatest_quantity.Goals as goal

pub returns : goal.returns
returns c =
    record {
      given = λ j command member reference lawful accepted. given_few member reference j command lawful accepted;
      seen = λ j command member reference lawful accepted. seen_few member reference j command lawful accepted;
    }
