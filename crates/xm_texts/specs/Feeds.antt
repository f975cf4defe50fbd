-- How a feed of levels goes on, row by row.
use Rattle.std.specs.Prelude.{ℕ, List, [], ◌∷◌, ◌++◌, map, slice_get, slice_set, Option, Some, None}
use Rattle.xm_config.specs.Day.{Day, after_row, day}
use Rattle.xm_texts.specs.MarketDepth.{change_lines, depth_text, market_depth}
use Rattle.xm_texts.specs.declared.depth.MarketDepth.{MarketDepth}
use Rattle.xm_files.specs.Names.{NameLists}
use Rattle.xm_rules.specs.State.{State}
use Rattle.xm_config.specs.declared.config.SegmentConfig.{SegmentConfig}
use Rattle.xm_config.specs.declared.rows.Row.{Row}

-- a text of levels so far, with what it showed last of each security
pub record Feed : Type 0 where
  pub text : List ℕ
  pub shown : List MarketDepth

-- the feed of some rows of a day
abbrev pub feed_of : NameLists → SegmentConfig → List Row → Feed
feed_of names config rows = record { text = depth_text names config rows; shown = map market_depth (day config rows).states }

-- the feed goes on with a row behind which the security stands so, where it had shown this of it
abbrev pub feed_shows : NameLists → Row → State → Option MarketDepth → Feed → Feed
feed_shows names row s None f = f
feed_shows names row s (Some before) f = record {
  text = f.text ++ change_lines names row s.settings.tick before (market_depth s);
  shown = slice_set f.shown row.security (market_depth s);
}

-- the same where the security may be unknown
abbrev pub next_feed : NameLists → Row → Option State → Feed → Feed
next_feed names row None f = f
next_feed names row (Some s) f = feed_shows names row s (slice_get f.shown row.security) f

-- the feed goes on with rows that a day takes one after another
abbrev pub feed_after : NameLists → Day → List Row → Feed → Feed
feed_after names d [] f = f
feed_after names d (row ∷ rows) f = feed_after names (after_row d row) rows (next_feed names row (slice_get (after_row d row).states row.security) f)
