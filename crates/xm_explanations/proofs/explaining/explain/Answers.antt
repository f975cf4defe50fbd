use Rattle.std.proofs.Common.{◌≡◌, ◌∙◌, Option, Some, IfSome, subst, sym}
use Rattle.xm_config.specs.declared.config.SegmentConfig.{SegmentConfig}
use Rattle.xm_explanations.proofs.Runs.{run-segment, segment-faulty}
use Rattle.xm_explanations.specs.Explained.{IsOpening, first_told, read_as}
use Rattle.xm_files.specs.Names.{NameLists}
use Rattle.xm_files.specs.Segment.{segment_of}
use Rattle.xm_replay.specs.declared.faults.DayFault.{DayFault}
use Rattle.xm_replay.specs.declared.faults.DayFault.TheVariants.{Segment}
use Rattle.xm_explanations.proofs.explaining.explain.Goals as goal

pub returns-in_ok-push_all_unread-in-None : goal.returns-in_ok-push_all_unread-in-None
returns-in_ok-push_all_unread-in-None c =
    let d = c.args.day.now in
    let before = first_told c.open_segment.new.told.items in
    let read = read_as segment_of d.segment.text in
    let faulty = segment-faulty read before (subst (λ (opened : Option (SegmentConfig × NameLists)). IsOpening read before opened) c.in-None.is c.in_ok-config.ensures.opened) in
    let told = subst (λ (f : Option DayFault). IfSome f (λ first. first_told c.push_all_unread.new.told.items ≡ Some first)) faulty.2 c.in_ok-push_all_unread-in-None.ensures in
    let run = run-segment d faulty.0 faulty.1 in
    (told ∙ sym run, (Segment faulty.0, run))
