use Rattle.std.proofs.Common.{rules, ◌≡◌, ◌∙◌, ap}
use Rattle.xm_board.specs.Published.{IsPublished, words_of}
use Rattle.xm_board.specs.declared.seats.Role.TheVariants.{Watch}
use Rattle.xm_board.proofs.Steps.{watch_shares, asks, compares_seen}
use Rattle.xm_board.proofs.board.Board.compare.Goals as goal

pub split_seat-asked-requires : goal.split_seat-asked-requires
split_seat-asked-requires g c = (search rules, search rules, watch_shares IsPublished words_of 7 _ _ c.requires.watch.1)

pub join_seat-requires : goal.join_seat-requires
join_seat-requires g c =
    let s = c.split_seat-asked.ensures in
    let role : c.split_seat-asked.result.me.0.role ≡ Watch = ap (λ m. m.0.role) s.4 in
    (search rules, search rules, ap (λ m. m.1) s.4, search rules, asks IsPublished words_of 7 _ _ _ _ c.requires.pen.1 role)

pub load-requires : goal.load-requires
load-requires g c =
    let j = c.join_seat.ensures in
    (search rules, search rules, compares_seen IsPublished words_of 7 _ _ _ (ap (λ m. m.0.role) j.2 ∙ c.requires.pen.1))
