use Rattle.std.proofs.Common.{rules, refl, ap}
use Rattle.xm_name_index.specs.Names.{key_among, lookup}
use Rattle.xm_name_index.proofs.Listed.{no-names}
use Rattle.xm_name_index.proofs.members.Members.of_member.Goals as goal

pub returns-in-None : goal.returns-in-None
returns-in-None g c = rw c.new.ensures.items (no-names c.args.self.now c.args.member (search rules))
