use Rattle.std.proofs.Common.{◌≡◌, ◌%◌, true, rules}
use Rattle.std.specs.List.{list_all}
use Rattle.xm_files.proofs.Shares.{filter-all}
use Rattle.xm_files.specs.Timetable.{is_worked_by}
use Rattle.xm_files.proofs.timetable.sole_worker.Goals as goal

pub returns-then-are_worked_by-clause-sole : goal.returns-then-are_worked_by-clause-sole
returns-then-are_worked_by-clause-sole c =
    let worker = c.in_ok-worker.field-0 % c.args.workers in
    let all : list_all (is_worked_by worker c.args.workers) c.args.rows.now ≡ true = search rules in
    filter-all (is_worked_by worker c.args.workers) c.args.rows.now all
