use Rattle.std.proofs.Common.{◌≡◌, ◌+◌, ◌<◌, drop, length, not, ap, arith, ◌∙◌}
use Rattle.std.specs.List.{position_or_len}
use Rattle.xm_files.proofs.Timetables.{lent-from, rounds-more}
use Rattle.xm_files.specs.Timetable.{is_of_member}
use Rattle.xm_files.proofs.timetable.rounds.Goals as goal

pub rounds-preserved : goal.rounds-preserved
rounds-preserved g c =
    let rows = c.args.rows.now in
    let first = c.rounds.first in
    let phase = first + c.first_phase.result in
    let end = phase + c.first_member.result in
    let within : first < length rows = omega arith in
    let members : phase ≡ first + position_or_len (λ row. not (is_of_member row)) (drop first rows) =
    ap (λ k. first + k) (c.first_phase.ensures.place ∙ ap (position_or_len (λ row. not (is_of_member row))) (lent-from rows first)) in
    let phases : end ≡ phase + position_or_len is_of_member (drop phase rows) = ap (λ k. phase + k) (c.first_member.ensures.place ∙ ap (position_or_len is_of_member) (lent-from rows phase)) in
    rw c.in_ok-push.ensures.items (rounds-more rows c.rounds.rounds.items first phase end within c.rounds.invariant members phases)
