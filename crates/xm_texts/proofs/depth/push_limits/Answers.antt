use Rattle.std.proofs.Common.{◌∙◌, ◌++◌, ℕ, List, Option, ap, sym, arith}
use Rattle.std.proofs.lemmas.List.{append-nil, take_all}
use Rattle.xm_texts.proofs.Feeding.{levels-more}
use Rattle.xm_texts.specs.MarketDepth.{limit_lines, row_fields}
use Rattle.xm_texts.proofs.depth.push_limits.Goals as goal

pub loop-level-init : goal.loop-level-init
loop-level-init g c = record { text = sym (append-nil c.args.text.now.items); rank = omega arith }

pub loop-level-preserved : goal.loop-level-preserved
loop-level-preserved g c =
    let row = row_fields c.args.names.now c.args.row.now in
    record {
      text = levels-more row c.args.tick c.args.side c.args.levels.now c.loop-level.level-index c.level-item.result c.args.text.now.items c.loop-level.text.items c.push_limit.new.text.items c.loop-level.rank (omega arith) c.loop-level.invariant.rank
          c.level-item.is c.loop-level.invariant.text c.in_ok-push_limit.ensures;
      rank = omega (arith, c.loop-level.invariant.rank);
    }

pub returns : goal.returns
returns g c =
    let row = row_fields c.args.names.now c.args.row.now in
    c.loop-level.invariant.text
    ∙ ap (λ (ls : List (Option (ℕ × ℕ))). c.args.text.now.items ++ limit_lines row c.args.tick c.args.side 1 ls) (take_all c.loop-level.level-index c.args.levels.now (omega arith))
