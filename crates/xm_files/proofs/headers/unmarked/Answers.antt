use Rattle.std.proofs.Common.{◌≢◌, get_or, rules}
use Rattle.xm_files.proofs.LineRecords.{strip-unmarked}
use Rattle.xm_files.proofs.headers.unmarked.Goals as goal

pub returns-else-first-clause-unmarked : goal.returns-else-first-clause-unmarked
returns-else-first-clause-unmarked c =
    let other : get_or c.args.text.now 0 0 ≢ 239 = search rules in
    strip-unmarked c.args.text.now other
