-- What the fields of a command say.
use Rattle.std.specs.Prelude.{ℕ, Bool, true, false, ◌&&◌, ◌||◌, not, nat_le, nat_lt, Option, Some, None}
use Rattle.xm_rules.specs.Settling.{is_free}
use Rattle.xm_rules.specs.declared.commands.Command.{Command}
use Rattle.xm_rules.specs.declared.commands.Command.TheVariants.{Enter, Change, Cancel, CancelAll}
use Rattle.xm_rules.specs.declared.commands.Condition.{Condition}
use Rattle.xm_rules.specs.declared.commands.Condition.TheVariants.{Plain, Ioc, Fok, Boc}
use Rattle.xm_rules.specs.declared.commands.Kind.{Kind}
use Rattle.xm_rules.specs.declared.commands.Kind.TheVariants as kind
use Rattle.xm_rules.specs.declared.commands.TheConstants.{MAX_NUMBER}
use Rattle.xm_rules.specs.declared.orders.OrderKind.{OrderKind}
use Rattle.xm_rules.specs.declared.orders.OrderKind.TheVariants.{Market, Limit}
use Rattle.xm_rules.specs.declared.orders.Restriction.{Restriction}
use Rattle.xm_rules.specs.declared.orders.Validity.{Validity}
use Rattle.xm_rules.specs.declared.orders.Validity.TheVariants.{Day, TillDate, TillCancelled}

-- the member that gives a command; those of the phases have none
abbrev pub member_of : Command → Option ℕ
member_of (Enter member reference side kind quantity validity restriction condition) = Some member
member_of (Change member reference quantity limit) = Some member
member_of (Cancel member reference) = Some member
member_of (CancelAll member) = Some member
member_of _ = None

-- 1 to 1,000,000, of units or of ticks
abbrev pub is_in_range : ℕ → Bool
is_in_range n = nat_le 1 n && nat_le n MAX_NUMBER

-- the trigger of a stop
abbrev pub trigger_of : Kind → Option ℕ
trigger_of kind.Market = None
trigger_of (kind.Limit p) = None
trigger_of (kind.StopMarket t) = Some t
trigger_of (kind.StopLimit t p) = Some t

-- the kind of the order that is entered, or that a stop becomes
abbrev pub order_kind : Kind → OrderKind
order_kind kind.Market = Market
order_kind (kind.Limit p) = Limit p
order_kind (kind.StopMarket t) = Market
order_kind (kind.StopLimit t p) = Limit p

abbrev pub has_prices_in_range : Kind → Bool
has_prices_in_range kind.Market = true
has_prices_in_range (kind.Limit p) = is_in_range p
has_prices_in_range (kind.StopMarket t) = is_in_range t
has_prices_in_range (kind.StopLimit t p) = is_in_range t && is_in_range p

-- a date before today
abbrev pub is_over : ℕ → Validity → Bool
is_over today (TillDate date) = nat_lt date today
is_over today _ = false

-- what stays after the end of today
abbrev pub outlasts : ℕ → Validity → Bool
outlasts today Day = false
outlasts today (TillDate date) = nat_lt today date
outlasts today TillCancelled = true

-- what comes in only in continuous trading
abbrev pub is_for_trading : Condition → Bool
is_for_trading Plain = false
is_for_trading Ioc = true
is_for_trading Fok = true
is_for_trading Boc = true

-- an order that isn't executed as it comes in
abbrev pub is_book_or_cancel : Condition → Bool
is_book_or_cancel Plain = false
is_book_or_cancel Ioc = false
is_book_or_cancel Fok = false
is_book_or_cancel Boc = true

-- a limit order, and no stop
abbrev pub is_limit : Kind → Bool
is_limit kind.Market = false
is_limit (kind.Limit p) = true
is_limit (kind.StopMarket t) = false
is_limit (kind.StopLimit t p) = false

abbrev pub is_stop : Option ℕ → Bool
is_stop None = false
is_stop (Some trigger) = true

-- of a condition, a trigger and a restriction an order has one at most, and a book-or-cancel order has a limit
abbrev pub is_bad_combination : Condition → Kind → Restriction → Bool
is_bad_combination Plain k restriction = is_stop (trigger_of k) && not (is_free restriction)
is_bad_combination Ioc k restriction = is_stop (trigger_of k) || not (is_free restriction)
is_bad_combination Fok k restriction = is_stop (trigger_of k) || not (is_free restriction)
is_bad_combination Boc k restriction = not (is_limit k) || not (is_free restriction)
