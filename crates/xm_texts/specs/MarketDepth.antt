-- What a feed of levels shows of a day: behind each row that changed them, the best levels of both sides.
use Rattle.std.specs.Prelude.{codes, ℕ, suc, zero, ◌==◌, Bool, ◌&&◌, if◌then◌else◌, List, [], ◌∷◌, ◌++◌, slice_get, Option, Some, None}
use Rattle.std.specs.Cmp.Lexicographic.{pointwise}
use Rattle.std.specs.Fmt.{decimal}
use Rattle.std.specs.Option.{option_eq}
use Rattle.xm_config.specs.Day.{Day, after_row, opening_day, told_of_rows}
use Rattle.xm_texts.specs.Statement.{name_at, side_word}
use Rattle.xm_texts.specs.declared.depth.MarketDepth.{MarketDepth}
use Rattle.xm_texts.specs.declared.depth.SideDepth.{SideDepth}
use Rattle.xm_desk.specs.Shown.{level_in, market_units}
use Rattle.xm_files.specs.Names.{NameLists}
use Rattle.xm_rules.specs.State.{State}
use Rattle.xm_rules.specs.declared.orders.Side.{Side}
use Rattle.xm_rules.specs.declared.orders.Side.TheVariants.{Buy, Sell}
use Rattle.xm_config.specs.declared.config.SegmentConfig.{SegmentConfig}
use Rattle.xm_config.specs.declared.rows.Row.{Row}
use Rattle.xm_ticks.specs.Writing.{price_text}

-- the best level of a side that is worse than this one
abbrev pub worse_level : State → Side → Option (ℕ × ℕ) → Option (ℕ × ℕ)
worse_level s side None = None
worse_level s side (Some level) = level_in s side (Some level.0)

-- so many levels of a side from this one on, each the next worse one
abbrev pub levels_from : State → Side → ℕ → Option (ℕ × ℕ) → List (Option (ℕ × ℕ))
levels_from s side zero level = []
levels_from s side (suc n) level = level ∷ levels_from s side n (worse_level s side level)

-- what is shown of a side: the units of its active market orders, and its five best levels
abbrev pub side_depth : State → Side → SideDepth
side_depth s side = record { market = market_units s side; levels = levels_from s side 5 (level_in s side None) }

abbrev pub market_depth : State → MarketDepth
market_depth s = record { buy = side_depth s Buy; sell = side_depth s Sell }

abbrev pub same_level : (ℕ × ℕ) → (ℕ × ℕ) → Bool
same_level p q = (p.0 == q.0) && (p.1 == q.1)

abbrev pub same_side_depth : SideDepth → SideDepth → Bool
same_side_depth d e = (d.market == e.market) && pointwise (option_eq same_level) d.levels e.levels

abbrev pub same_depth : MarketDepth → MarketDepth → Bool
same_depth d e = same_side_depth d.buy e.buy && same_side_depth d.sell e.sell

abbrev pub limit_field : ℕ → Option ℕ → List ℕ
limit_field tick None = []
limit_field tick (Some limit) = price_text limit tick

-- the line of a level, by its rank on its side; rank 0 is that of the market orders, which have no limit
abbrev pub level_line : List ℕ → ℕ → Side → ℕ → Option ℕ → ℕ → List ℕ
level_line row tick side rank limit units =
    row ++ side_word side ++ codes "," ++ decimal rank ++ codes "," ++ limit_field tick limit ++ codes "," ++ decimal units ++ codes "\n"

-- the line of a level with a limit, where there is one
abbrev pub limit_line : List ℕ → ℕ → Side → ℕ → Option (ℕ × ℕ) → List ℕ
limit_line row tick side rank None = []
limit_line row tick side rank (Some level) = level_line row tick side rank (Some level.0) level.1

-- those of several, from a rank on
abbrev pub limit_lines : List ℕ → ℕ → Side → ℕ → List (Option (ℕ × ℕ)) → List ℕ
limit_lines row tick side rank [] = []
limit_lines row tick side rank (level ∷ levels) = limit_line row tick side rank level ++ limit_lines row tick side (suc rank) levels

abbrev pub side_lines : List ℕ → ℕ → Side → SideDepth → List ℕ
side_lines row tick side d = level_line row tick side 0 None d.market ++ limit_lines row tick side 1 d.levels

abbrev pub depth_lines : List ℕ → ℕ → MarketDepth → List ℕ
depth_lines row tick d = side_lines row tick Buy d.buy ++ side_lines row tick Sell d.sell

-- with what each line of a row begins: its record, and the security
abbrev pub row_fields : NameLists → Row → List ℕ
row_fields names row = decimal row.line ++ codes "," ++ name_at names.securities row.security ++ codes ","

-- what is told behind a row: the levels, if they aren't those before it
abbrev pub change_lines : NameLists → Row → ℕ → MarketDepth → MarketDepth → List ℕ
change_lines names row tick before after = if same_depth before after then [] else depth_lines (row_fields names row) tick after

-- the same by the states of the security before the row and after it, where it is known
abbrev pub told_change : NameLists → Row → Option State → Option State → List ℕ
told_change names row (Some before) (Some after) = change_lines names row after.settings.tick (market_depth before) (market_depth after)
told_change names row (Some before) None = []
told_change names row None after = []

-- the lines of a row that a day takes
abbrev pub told_depth : NameLists → Day → Row → List ℕ
told_depth names d row = told_change names row (slice_get d.states row.security) (slice_get (after_row d row).states row.security)

-- those of rows that it takes one after another
abbrev pub depths_of : NameLists → Day → List Row → List ℕ
depths_of names d rows = told_of_rows (told_depth names) d rows

abbrev pub depth_header : List ℕ
depth_header = codes "record,security,side,rank,limit,quantity\n"

-- the levels behind the rows of a day
abbrev pub depth_text : NameLists → SegmentConfig → List Row → List ℕ
depth_text names config rows = depth_header ++ depths_of names (opening_day config) rows
