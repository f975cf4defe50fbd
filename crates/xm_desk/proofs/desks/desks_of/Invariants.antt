use Rattle.std.proofs.Common.{◌≡◌, map, take}
use Rattle.xm_config.specs.Opening.{journal_of}
use Rattle.xm_desk.proofs.desks.desks_of.Given as goal

abbrev pub invariant-loop-security : goal.invariant-loop-security
invariant-loop-security g l = record {
  securities : l.security-items ≡ l.config.securities;
  desks : l.desks.items ≡ map (journal_of l.config) (take l.security-index l.security-items);
}
