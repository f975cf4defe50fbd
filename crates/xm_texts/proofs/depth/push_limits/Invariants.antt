use Rattle.std.proofs.Common.{◌≡◌, ◌+◌, ◌++◌, take}
use Rattle.xm_texts.specs.MarketDepth.{limit_lines, row_fields}
use Rattle.xm_texts.proofs.depth.push_limits.Given as goal

abbrev pub invariant-loop-level : goal.invariant-loop-level
invariant-loop-level g l = record {
  text : l.text.items ≡ l.initial.text.items ++ limit_lines (row_fields l.names l.row) l.fn.tick l.fn.side 1 (take l.level-index l.levels);
  rank : l.rank ≡ l.level-index + 1;
}
