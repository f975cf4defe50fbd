use Rattle.std.proofs.Common.{arith}
use Rattle.xm_book.proofs.Naming.{found_by_name}
use Rattle.xm_book.proofs.book.Book.fill.Goals as goal

pub reduce-requires : goal.reduce-requires
reduce-requires g c =
    let some = c.if-units-order.false in
    let within = c.requires.within in
    let least = c.requires.some in
    rw (found_by_name c.args.self.now.orders c.args.order.now c.len.ensures.book.names c.requires.there) (omega arith, omega arith)
