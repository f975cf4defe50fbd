-- Where a level is put among the ladders.
use Rattle.std.proofs.Common.{◌≡◌, ℕ, ◌+◌, false, ◌&&◌, refl}
use Rattle.xm_ladders.specs.Ladder.{HasLevels, LadderView}
use Rattle.xm_ladders.specs.Ladders.{ladder_on, side_of, with_ladder, with_side}
use Rattle.xm_ladders.specs.declared.ladders.Ladders.{Ladders}
use Rattle.xm_ladders.specs.declared.ladders.SideLadders.{SideLadders}
use Rattle.xm_price_maps.proofs.Callers.{room-less}
use Rattle.xm_rules.specs.Orders.{same_restriction}
use Rattle.xm_rules.specs.Sides.{same_side}
use Rattle.xm_rules.specs.declared.orders.OrderKind.{OrderKind}
use Rattle.xm_rules.specs.declared.orders.OrderKind.TheVariants.{Market, Limit}
use Rattle.xm_rules.specs.declared.orders.Restriction.{Restriction}
use Rattle.xm_rules.specs.declared.orders.Restriction.TheVariants.{Free, OpeningOnly, AuctionsOnly, ClosingOnly}
use Rattle.xm_rules.specs.declared.orders.Side.{Side}
use Rattle.xm_rules.specs.declared.orders.Side.TheVariants.{Buy, Sell}

pub levels-less : (l : LadderView) (k : OrderKind) (n : ℕ) → HasLevels l k (n + 1) → HasLevels l k n
levels-less l Market n r = tt
levels-less l (Limit p) n r = room-less l.limits n r

module _ {A : Type 0} (P : LadderView → LadderView → Type 0) (same : (l : LadderView) → P l l) where
  -- what holds of the ladder that changed, and of each that is unchanged, holds of all
  on_side : (l : SideLadders A) (q : Restriction) (new : LadderView) → P (ladder_on q l) new → (r : Restriction) → P (ladder_on r l) (ladder_on r (with_ladder q l new))
  on_side l Free new h Free = h
  on_side l Free new h OpeningOnly = same l.opening_only
  on_side l Free new h AuctionsOnly = same l.auctions_only
  on_side l Free new h ClosingOnly = same l.closing_only
  on_side l OpeningOnly new h Free = same l.free
  on_side l OpeningOnly new h OpeningOnly = h
  on_side l OpeningOnly new h AuctionsOnly = same l.auctions_only
  on_side l OpeningOnly new h ClosingOnly = same l.closing_only
  on_side l AuctionsOnly new h Free = same l.free
  on_side l AuctionsOnly new h OpeningOnly = same l.opening_only
  on_side l AuctionsOnly new h AuctionsOnly = h
  on_side l AuctionsOnly new h ClosingOnly = same l.closing_only
  on_side l ClosingOnly new h Free = same l.free
  on_side l ClosingOnly new h OpeningOnly = same l.opening_only
  on_side l ClosingOnly new h AuctionsOnly = same l.auctions_only
  on_side l ClosingOnly new h ClosingOnly = h

  pub on_all : (l : Ladders A) (t : Side) (q : Restriction) (new : LadderView) → P (ladder_on q (side_of t l)) new
      → (s : Side) (r : Restriction) → P (ladder_on r (side_of s l)) (ladder_on r (side_of s (with_side t l (with_ladder q (side_of t l) new))))
  on_all l Buy q new h Buy r = on_side l.buys q new h r
  on_all l Buy q new h Sell r = same (ladder_on r l.sells)
  on_all l Sell q new h Buy r = same (ladder_on r l.buys)
  on_all l Sell q new h Sell r = on_side l.sells q new h r

-- a ladder of another side or restriction stays as it was
other_ladder : {A : Type 0} (l : SideLadders A) (r q : Restriction) (new : LadderView) → same_restriction r q ≡ false → ladder_on r (with_ladder q l new) ≡ ladder_on r l
other_ladder l Free Free new apart = absurd (cc)
other_ladder l Free OpeningOnly new apart = refl
other_ladder l Free AuctionsOnly new apart = refl
other_ladder l Free ClosingOnly new apart = refl
other_ladder l OpeningOnly Free new apart = refl
other_ladder l OpeningOnly OpeningOnly new apart = absurd (cc)
other_ladder l OpeningOnly AuctionsOnly new apart = refl
other_ladder l OpeningOnly ClosingOnly new apart = refl
other_ladder l AuctionsOnly Free new apart = refl
other_ladder l AuctionsOnly OpeningOnly new apart = refl
other_ladder l AuctionsOnly AuctionsOnly new apart = absurd (cc)
other_ladder l AuctionsOnly ClosingOnly new apart = refl
other_ladder l ClosingOnly Free new apart = refl
other_ladder l ClosingOnly OpeningOnly new apart = refl
other_ladder l ClosingOnly AuctionsOnly new apart = refl
other_ladder l ClosingOnly ClosingOnly new apart = absurd (cc)

pub others_kept : {A : Type 0} (l : Ladders A) (s t : Side) (r q : Restriction) (new : LadderView) → (same_side s t && same_restriction r q) ≡ false
    → ladder_on r (side_of s (with_side t l (with_ladder q (side_of t l) new))) ≡ ladder_on r (side_of s l)
others_kept l Buy Buy r q new apart = other_ladder l.buys r q new apart
others_kept l Buy Sell r q new apart = refl
others_kept l Sell Buy r q new apart = refl
others_kept l Sell Sell r q new apart = other_ladder l.sells r q new apart
