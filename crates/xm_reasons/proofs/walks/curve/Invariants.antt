use Rattle.std.proofs.Common.{◌≡◌, ◌++◌, length, None}
use Rattle.xm_book.specs.Curves.{units_to}
use Rattle.xm_reasons.specs.Walks.{curve_of}
use Rattle.xm_rules.specs.Step.{replay}
use Rattle.xm_reasons.proofs.walks.curve.Given as goal

abbrev pub invariant-loop-level : goal.invariant-loop-level
invariant-loop-level g l =
    let s = replay l.desk in
    record {
      units : l.units ≡ units_to s.phase l.side l.limit s.orders;
      points : curve_of s l.side None ≡ l.points.items ++ curve_of s l.side l.limit;
    }

abbrev pub decreases-loop-level : goal.decreases-loop-level
decreases-loop-level g l = length (curve_of (replay l.desk) l.side l.limit)
