use Rattle.std.proofs.Common.{◌≡◌, length}
use Rattle.xm_files.proofs.Listing.{lists_from}
use Rattle.xm_files.specs.Unread.{with_ahead}
use Rattle.xm_files.proofs.carry.list_records.Given as goal

abbrev pub invariant-records : goal.invariant-records
invariant-records l = lists_from l.names l.securities l.initial.csv l.initial.lists ≡ lists_from l.names l.securities l.csv l.lists

abbrev pub decreases-records : goal.decreases-records
decreases-records l = length (with_ahead l.csv.ahead l.csv.behind)
