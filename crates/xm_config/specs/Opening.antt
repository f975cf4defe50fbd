-- What opens a desk, and what the desks of a segment.
use Rattle.std.specs.Prelude.{ℕ, [], ◌||◌, not, if◌then◌else◌, nat_lt, length, Option, Some, None}
use Rattle.std.specs.List.{list_all}
use Rattle.xm_config.specs.declared.opening.OpenFault.{OpenFault}
use Rattle.xm_config.specs.declared.opening.OpenFault.TheVariants.{NoSecurity, TooMany, BadWidths, BadCarried}
use Rattle.xm_rules.specs.Opening.{are_carriable, can_be_left}
use Rattle.xm_rules.specs.Settings.{are_widths}
use Rattle.xm_rules.specs.Step.{Journal}
use Rattle.xm_rules.specs.declared.settings.DeskSettings.{DeskSettings}
use Rattle.xm_config.specs.declared.config.SecurityConfig.{SecurityConfig}
use Rattle.xm_config.specs.declared.config.SegmentConfig.{SegmentConfig}

-- the most securities and the most members of a segment
abbrev pub max_securities : ℕ
max_securities = 8

abbrev pub max_members : ℕ
max_members = 1000

-- what is wrong with the settings of a desk: more than 1,000 members, then the widths, then what earlier days left
abbrev pub open_fault : DeskSettings → Option OpenFault
open_fault settings =
    if nat_lt max_members settings.members then Some TooMany else (if not (are_widths settings.widths) then Some BadWidths
    else (if are_carriable settings then None else Some BadCarried))

-- the settings that the desk of a security is opened with
abbrev pub settings_of : SegmentConfig → SecurityConfig → DeskSettings
settings_of config security =
    record { today = config.today; members = config.members; tick = security.tick; reference = security.reference; widths = security.widths; limit = security.limit; carried = security.carried }

-- the journal that a desk with these settings begins
abbrev pub fresh_journal : DeskSettings → Journal
fresh_journal settings = record { settings = settings; commands = [] }

-- the journal that the desk of a security begins
abbrev pub journal_of : SegmentConfig → SecurityConfig → Journal
journal_of config security = fresh_journal (settings_of config security)

-- what is wrong with a segment, if anything is: it has no security; too many, or too many members; the widths of one; what earlier days
-- left to one
abbrev pub segment_fault : SegmentConfig → Option OpenFault
segment_fault config =
    if not (nat_lt 0 (length config.securities)) then Some NoSecurity
    else (if nat_lt max_securities (length config.securities) || nat_lt max_members config.members then Some TooMany
    else (if not (list_all (λ (security : SecurityConfig). are_widths security.widths) config.securities) then Some BadWidths
    else (if list_all (λ (security : SecurityConfig). can_be_left config.members security.carried) config.securities then None else Some BadCarried)))

-- the most workers of a segment, and the most watchers
abbrev pub max_workers : ℕ
max_workers = 64

-- too many workers or watchers, which is told after the want of a security
abbrev pub crowd_fault : SegmentConfig → Option OpenFault
crowd_fault config = if not (nat_lt 0 (length config.securities)) then Some NoSecurity else Some TooMany

-- what is wrong with a segment for so many workers and watchers, if anything is
abbrev pub opening_fault : SegmentConfig → ℕ → ℕ → Option OpenFault
opening_fault config workers watchers =
    if nat_lt max_workers workers || nat_lt max_workers watchers then crowd_fault config else segment_fault config
