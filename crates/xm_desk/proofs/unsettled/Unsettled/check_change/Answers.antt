use Rattle.std.proofs.Common.{◌≡◌, ◌∙◌, true, false, find, refl, None, Some, rules, ap, sym}
use Rattle.xm_desk.proofs.Changing.{change-checks, checks_of}
use Rattle.xm_rules.specs.Commands.{is_in_range}
use Rattle.xm_rules.specs.Orders.{is_named}
use Rattle.xm_rules.specs.Refusals.{has_stop, is_given_in_range, is_limit_for_market}
use Rattle.xm_rules.specs.declared.replies.Refusal.TheVariants.{BadPrice, BadQuantity, NotChangeable}
use Rattle.xm_desk.proofs.unsettled.Unsettled.check_change.Goals as goal

pub returns-in-None-clause-refused : goal.returns-in-None-clause-refused
returns-in-None-clause-refused g c =
    let s = c.args.self.now.state in
    let none : has_stop s c.args.member c.args.reference ≡ false = search rules in
    let found : find (is_named c.args.member c.args.reference) s.orders ≡ None = search rules in
    sym (change-checks s c.args.member c.args.reference c.args.quantity c.args.limit none) ∙ ap (checks_of c.args.quantity c.args.limit) found

pub returns-then-is_limit_for_market-clause-refused : goal.returns-then-is_limit_for_market-clause-refused
returns-then-is_limit_for_market-clause-refused g c =
    let s = c.args.self.now.state in
    let none : has_stop s c.args.member c.args.reference ≡ false = search rules in
    let found : find (is_named c.args.member c.args.reference) s.orders ≡ Some c.in-Some.order.now = search rules in
    let market : is_limit_for_market c.args.limit (Some c.in-Some.order.now) ≡ true = search rules in
    let refused : checks_of c.args.quantity c.args.limit (Some c.in-Some.order.now) ≡ Some NotChangeable = rw market refl in
    sym (change-checks s c.args.member c.args.reference c.args.quantity c.args.limit none) ∙ ap (checks_of c.args.quantity c.args.limit) found ∙ refused

pub returns-then-not-is_in_range-clause-refused : goal.returns-then-not-is_in_range-clause-refused
returns-then-not-is_in_range-clause-refused g c =
    let s = c.args.self.now.state in
    let none : has_stop s c.args.member c.args.reference ≡ false = search rules in
    let found : find (is_named c.args.member c.args.reference) s.orders ≡ Some c.in-Some.order.now = search rules in
    let market : is_limit_for_market c.args.limit (Some c.in-Some.order.now) ≡ false = search rules in
    let out : is_in_range c.args.quantity ≡ false = search rules in
    let refused : checks_of c.args.quantity c.args.limit (Some c.in-Some.order.now) ≡ Some BadQuantity = rw (market, out) refl in
    sym (change-checks s c.args.member c.args.reference c.args.quantity c.args.limit none) ∙ ap (checks_of c.args.quantity c.args.limit) found ∙ refused

pub returns-then-not-is_given_in_range-clause-refused : goal.returns-then-not-is_given_in_range-clause-refused
returns-then-not-is_given_in_range-clause-refused g c =
    let s = c.args.self.now.state in
    let none : has_stop s c.args.member c.args.reference ≡ false = search rules in
    let found : find (is_named c.args.member c.args.reference) s.orders ≡ Some c.in-Some.order.now = search rules in
    let market : is_limit_for_market c.args.limit (Some c.in-Some.order.now) ≡ false = search rules in
    let inside : is_in_range c.args.quantity ≡ true = search rules in
    let out : is_given_in_range c.args.limit ≡ false = search rules in
    let refused : checks_of c.args.quantity c.args.limit (Some c.in-Some.order.now) ≡ Some BadPrice = rw (market, inside, out) refl in
    sym (change-checks s c.args.member c.args.reference c.args.quantity c.args.limit none) ∙ ap (checks_of c.args.quantity c.args.limit) found ∙ refused

pub returns-else-not-is_given_in_range-clause-passed : goal.returns-else-not-is_given_in_range-clause-passed
returns-else-not-is_given_in_range-clause-passed g c =
    let s = c.args.self.now.state in
    let none : has_stop s c.args.member c.args.reference ≡ false = search rules in
    let found : find (is_named c.args.member c.args.reference) s.orders ≡ Some c.in-Some.order.now = search rules in
    let market : is_limit_for_market c.args.limit (Some c.in-Some.order.now) ≡ false = search rules in
    let inside : is_in_range c.args.quantity ≡ true = search rules in
    let given : is_given_in_range c.args.limit ≡ true = search rules in
    let passed : checks_of c.args.quantity c.args.limit (Some c.in-Some.order.now) ≡ None = rw (market, inside, given) refl in
    sym (change-checks s c.args.member c.args.reference c.args.quantity c.args.limit none) ∙ ap (checks_of c.args.quantity c.args.limit) found ∙ passed
