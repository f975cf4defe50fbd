-- Settings that open a desk.
use Rattle.std.proofs.Common.{◌≡◌, ◌+◌, ◌≤◌, Bool, true, false, not, if◌then◌else◌, List, [], length, None, Some, refl, subst, sym, ap, arith}
use Rattle.std.specs.Prelude.{nat_lt}
use Rattle.std.proofs.lemmas.List.Elements.{All-filter, All-nil, All-weaker}
use Rattle.xm_desk.specs.Made.{AreSized, HaveUnits, IsCounted}
use Rattle.xm_config.specs.Opening.{open_fault}
use Rattle.xm_desk.specs.Settled.{came}
use Rattle.xm_config.specs.declared.opening.OpenFault.TheVariants.{BadCarried, BadWidths, TooMany}
use Rattle.xm_config.specs.declared.opening.TheConstants.{MAX_MEMBERS}
use Rattle.xm_rules.proofs.CarriedEntries.{CanBeHeld, carriable-parts}
use Rattle.xm_rules.proofs.Opening.{opening-few, opening-is, opening-settings, opening-uses}
use Rattle.xm_rules.specs.Commands.{is_in_range}
use Rattle.xm_rules.specs.Opening.{are_carriable, carried_over, is_still_valid, opening}
use Rattle.xm_rules.specs.Settings.{are_widths}
use Rattle.xm_rules.specs.Settling.{is_reached}
use Rattle.xm_rules.specs.State.{State, ref1}
use Rattle.xm_rules.specs.declared.carried.TheConstants.{MAX_CARRIED}
use Rattle.xm_rules.specs.declared.orders.Stop.{Stop}
use Rattle.xm_rules.specs.declared.orders.Trade.{Trade}
use Rattle.xm_rules.specs.declared.settings.DeskSettings.{DeskSettings}
use Rattle.xm_ticks.specs.declared.numbers.TheConstants.{MAX_QUANTITY}

opens-if : (many lawful carriable : Bool)
    → (if many then Some TooMany else (if not lawful then Some BadWidths else (if carriable then None else Some BadCarried))) ≡ None → (lawful ≡ true) × (carriable ≡ true)
opens-if true lawful carriable e = cc
opens-if false false carriable e = cc
opens-if false true true e = (refl, refl)
opens-if false true false e = cc

-- their widths are lawful, and a security takes what they carry
pub opens : (settings : DeskSettings) → open_fault settings ≡ None → (are_widths settings.widths ≡ true) × (are_carriable settings ≡ true)
opens settings e = opens-if (nat_lt MAX_MEMBERS settings.members) (are_widths settings.widths) (are_carriable settings) e

pub opens-few : (settings : DeskSettings) → open_fault settings ≡ None → length (opening settings).orders + length (opening settings).stops ≤ MAX_CARRIED
opens-few settings e = opening-few settings (opens settings e).1

-- what they open is counted
pub opening-counted : (settings : DeskSettings) → open_fault settings ≡ None → IsCounted (opening settings)
opening-counted settings e =
    let carriable = (opens settings e).1 in
    let is = opening-is settings in
    let accepted : (opening settings).accepted ≡ 0 = ap (λ (s : State). s.accepted) is in
    let sweeps : (opening settings).sweeps ≡ 0 = ap (λ (s : State). s.sweeps) is in
    let untraded : (opening settings).trades ≡ [] = ap (λ (s : State). s.trades) is in
    let same = ap (λ (s : DeskSettings). came s 0) (opening-settings settings) in
    let before = carried_over settings in
    let units : Stop → Type 0 = λ stop. is_in_range stop.quantity ≡ true in
    let carried = All-weaker (CanBeHeld settings.members) units (λ stop can. can.order.units) settings.carried.stops (carriable-parts settings carriable).stops in
    record {
      accepted = omega (arith, accepted);
      sweeps = omega (arith, accepted, sweeps, same);
      number = omega (arith, ap (λ (ts : List Trade). length ts) untraded);
      sized = subst AreSized (sym untraded) (All-nil (λ (t : Trade). t.quantity ≤ MAX_QUANTITY));
      names = λ member reference. opening-uses settings member reference carriable;
      units = subst HaveUnits (sym (ap (λ (s : State). s.stops) is))
          (All-filter (λ (stop : Stop). not (is_reached (ref1 before) stop)) units before.stops
          (All-filter (λ (stop : Stop). is_still_valid settings.today stop.validity) units settings.carried.stops carried));
    }
