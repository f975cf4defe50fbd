use Rattle.xm_events.proofs.Retold.{bare_retold, rests_retold, story_retold}
use Rattle.xm_events.proofs.laws.stories_are_told_from_what_is_seen.Goals as goal

pub returns-clause-bare_events : goal.returns-clause-bare_events
returns-clause-bare_events c = bare_retold

pub returns-clause-rests : goal.returns-clause-rests
returns-clause-rests c = rests_retold

pub returns-clause-whole : goal.returns-clause-whole
returns-clause-whole c = story_retold
