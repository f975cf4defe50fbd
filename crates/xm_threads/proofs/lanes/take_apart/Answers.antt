use Rattle.std.proofs.Common.{List, subst}
use Rattle.xm_threads.proofs.Merging.{took-more}
use Rattle.xm_threads.specs.Lanes.{TookMore}
use Rattle.xm_config.specs.declared.rows.Row.{Row}
use Rattle.xm_files.specs.RecordTexts.{texts_in}
use Rattle.xm_threads.proofs.lanes.take_apart.Goals as goal

pub returns-clause-more : goal.returns-clause-more
returns-clause-more g c =
    subst (λ (rows : List Row). TookMore c.args.names.now (texts_in c.args.texts.now) rows c.args.lanes.now c.args.merged.now c.add.new.lanes c.add.new.self) c.rows-rows.ensures
    (took-more c.args.names.now (texts_in c.args.texts.now) c.rows-rows.result.now c.args.lanes.now c.take_parts.new.lanes c.add.new.lanes c.args.merged.now c.add.new.self c.take_parts.auto.lanes c.take_parts.ensures c.add.ensures.added)
