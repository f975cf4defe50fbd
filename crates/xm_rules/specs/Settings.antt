-- Which widths of its ranges a security may have.
use Rattle.std.specs.Prelude.{ℕ, Bool, ◌&&◌, nat_le, nat_lt}
use Rattle.xm_ticks.specs.declared.ranges.TheConstants.{MAX_WIDTH}
use Rattle.xm_rules.specs.declared.settings.Widths.{Widths}

-- 1 to 999 thousandths
abbrev pub is_width : ℕ → Bool
is_width width = nat_le 1 width && nat_le width MAX_WIDTH

-- each is one, and the dynamic range is narrower than the wide one
abbrev pub are_widths : Widths → Bool
are_widths w = ((is_width w.dynamic && is_width w.statics) && is_width w.wide) && nat_lt w.dynamic w.wide
