use Rattle.std.proofs.Common.{arith}
use Rattle.xm_events.proofs.FewUnits.{seen_few}
use Rattle.xm_stories.proofs.GivenPrices.{prices-given}
use Rattle.xm_stories.proofs.laws.lawful_stories_can_be_told.Goals as goal

pub returns : goal.returns
returns c =
    record {
      prices = prices-given;
      units = λ j command lawful accepted member reference. (let few = seen_few member reference j command lawful accepted in omega (arith, few));
    }
