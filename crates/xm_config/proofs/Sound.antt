-- A segment without a fault.
use Rattle.std.proofs.Common.{◌≡◌, ◌≢◌, refl, ℕ, ◌<◌, ◌≤◌, nat_lt, Bool, true, false, not, ◌||◌, if◌then◌else◌, List, length, get_or, Option, None, Some}
use Rattle.std.specs.List.{list_all}
use Rattle.std.proofs.lemmas.Bool.{ltb-false}
use Rattle.std.proofs.lemmas.List.Folds.{list_all_at}
use Rattle.xm_config.specs.Opening.{open_fault, crowd_fault, opening_fault, segment_fault, settings_of}
use Rattle.xm_rules.specs.Opening.{can_be_left}
use Rattle.xm_rules.specs.Settings.{are_widths}
use Rattle.xm_config.specs.declared.opening.OpenFault.{OpenFault}
use Rattle.xm_config.specs.declared.opening.OpenFault.TheVariants.{NoSecurity, TooMany, BadWidths, BadCarried, OutOfMemory}
use Rattle.xm_config.specs.declared.config.SecurityConfig.{SecurityConfig}
use Rattle.xm_config.specs.declared.config.SegmentConfig.{SegmentConfig}

holds-if : {X : Type 0} (p : X → Bool) (xs : List X) (i : ℕ) (d : X) (b : Bool) → i < length xs → list_all p xs ≡ true → p (get_or xs i d) ≡ b → b ≡ true
holds-if p xs i d true within all is = refl
holds-if p xs i d false within all is = let some = list_all_at p xs i d within is in cc

-- what holds of each holds at an index
holds-at : {X : Type 0} (p : X → Bool) (xs : List X) (i : ℕ) (d : X) → i < length xs → list_all p xs ≡ true → p (get_or xs i d) ≡ true
holds-at p xs i d within all = holds-if p xs i d (p (get_or xs i d)) within all refl

sound-if : (some many members widths carried : Bool)
    → (if not some then Some NoSecurity else (if many || members then Some TooMany else (if not widths then Some BadWidths else (if carried then None else Some BadCarried)))) ≡ None
    → (members ≡ false) × (widths ≡ true) × (carried ≡ true)
sound-if true false false true true is = (refl, refl, refl)
sound-if true false false true false is = cc
sound-if true false false false carried is = cc
sound-if true false true widths carried is = cc
sound-if true true members widths carried is = cc
sound-if false many members widths carried is = cc

opens-if : (members widths carried : Bool) → members ≡ false → widths ≡ true → carried ≡ true
    → (if members then Some TooMany else (if not widths then Some BadWidths else (if carried then None else Some BadCarried))) ≡ None
opens-if false true true few lawful carriable = refl
opens-if false true false few lawful carriable = cc
opens-if false false carried few lawful carriable = cc
opens-if true widths carried few lawful carriable = cc

-- the settings of each of its securities open a desk
pub sound-opens : (config : SegmentConfig) (i : ℕ) (security : SecurityConfig) → segment_fault config ≡ None → i < length config.securities → open_fault (settings_of config (get_or config.securities i security)) ≡ None
sound-opens config i security sound within =
    let lawful : SecurityConfig → Bool = λ s. are_widths s.widths in
    let carriable : SecurityConfig → Bool = λ s. can_be_left config.members s.carried in
    let parts = sound-if (nat_lt 0 (length config.securities)) (nat_lt 8 (length config.securities)) (nat_lt 1000 config.members) (list_all lawful config.securities) (list_all carriable config.securities) sound in
    let one = get_or config.securities i security in
    opens-if (nat_lt 1000 config.members) (lawful one) (carriable one) parts.0 (holds-at lawful config.securities i security within parts.1)
    (holds-at carriable config.securities i security within parts.2)

-- what no settings of a desk refuse is want of memory
pub is-memory : (fault : OpenFault) (refused : Option OpenFault) → refused ≡ None → (fault ≢ OutOfMemory tt → refused ≡ Some fault) → fault ≡ OutOfMemory tt
is-memory (OutOfMemory _) refused none unless = refl
is-memory NoSecurity refused none unless = let some = unless (λ is. absurd (cc)) in absurd (cc)
is-memory TooMany refused none unless = let some = unless (λ is. absurd (cc)) in absurd (cc)
is-memory BadWidths refused none unless = let some = unless (λ is. absurd (cc)) in absurd (cc)
is-memory BadCarried refused none unless = let some = unless (λ is. absurd (cc)) in absurd (cc)

few-if : (busy some many members widths carried : Bool) (crowd : Option OpenFault) → crowd ≢ None
    → (if busy then crowd else (if not some then Some NoSecurity else (if many || members then Some TooMany else (if not widths then Some BadWidths else (if carried then None else Some BadCarried))))) ≡ None → many ≡ false
few-if true some many members widths carried crowd busy is = absurd (busy is)
few-if false true false members widths carried crowd busy is = refl
few-if false true true members widths carried crowd busy is = cc
few-if false false many members widths carried crowd busy is = cc

crowded : (some : Bool) → (if not some then Some NoSecurity else Some TooMany) ≢ None
crowded true is = cc
crowded false is = cc

-- it has no more securities than there are lanes
pub sound-few : (config : SegmentConfig) (workers watchers : ℕ) → opening_fault config workers watchers ≡ None → length config.securities ≤ 8
sound-few config workers watchers sound =
    let many = few-if (nat_lt 64 workers || nat_lt 64 watchers) (nat_lt 0 (length config.securities)) (nat_lt 8 (length config.securities)) (nat_lt 1000 config.members) (list_all (λ (s : SecurityConfig). are_widths s.widths) config.securities)
    (list_all (λ (s : SecurityConfig). can_be_left config.members s.carried) config.securities) (crowd_fault config) (crowded (nat_lt 0 (length config.securities))) sound in
    ltb-false 8 (length config.securities) many
