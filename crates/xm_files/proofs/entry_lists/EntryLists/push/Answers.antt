use Rattle.xm_files.proofs.UsedNames.{taken-more}
use Rattle.xm_files.proofs.entry_lists.EntryLists.push.Goals as goal

pub invariant_of-self-2 : goal.invariant_of-self-2
invariant_of-self-2 c = λ m r.
    taken-more _ _ _ c.name-member.result m r _ _ c.args.entry.now (c.insert.ensures.names m r) (c.reserve.ensures.names m r) c.name-member.ensures (c.self.invariant m r) c.in_ok-push_entry.ensures.ok
