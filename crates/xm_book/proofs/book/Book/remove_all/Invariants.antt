use Rattle.std.proofs.Common.{◌≡◌, length}
use Rattle.xm_rules.specs.Orders.{without_member}
use Rattle.xm_book.proofs.book.Book.remove_all.Given as goal

abbrev pub invariant-loop : goal.invariant-loop
invariant-loop g l = record {
  left : without_member l.member l.self.orders ≡ without_member l.member l.initial.self.orders;
  rest : l.self ≡ record l.initial.self { orders = l.self.orders };
}

abbrev pub decreases-loop : goal.decreases-loop
decreases-loop g l = length l.self.orders
