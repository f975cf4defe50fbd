use Rattle.std.proofs.Common.{length, ap, ◌∙◌}
use Rattle.xm_config.proofs.Days.{lent_back}
use Rattle.xm_files.specs.OrderFiles.{text_in_files}
use Rattle.xm_threads.proofs.Merging.{file-taken}
use Rattle.xm_threads.proofs.batches.run_apart.Goals as goal

pub closed-requires-clause-taken : goal.closed-requires-clause-taken
closed-requires-clause-taken g c =
    let old = c.open_apart-lanes.result.lanes in
    let lanes = c.take_files.new.lanes in
    let run = c.in-Ok.ensures in
    let back = lent_back lanes old.items old.len (c.take_files.auto.lanes ∙ ap length c.as_mut_slice.ensures.value) old.ok.0 in
    let all = file-taken c.args.asked c.args.names.now (text_in_files run.0) c.args.config.now run.2 c.in-Ok.rows c.open_apart-lanes.result.unopened old.items c.as_mut_slice.result.now lanes _ c.open_apart-lanes.result.merged c.take_files.new.merged
    c.in-None.is c.open_apart-lanes.ensures c.as_mut_slice.ensures.value back run.4 in
    (run.2, all.0, all.1)

pub returns-in-None : goal.returns-in-None
returns-in-None g c =
    let asked = c.args.asked in
    let names = c.args.names.now in
    let old = c.open_apart-lanes.result.lanes in
    let lanes = c.take_files.new.lanes in
    let run = c.in-Ok.ensures in
    let texts = text_in_files run.0 in
    let back = lent_back lanes old.items old.len (c.take_files.auto.lanes ∙ ap length c.as_mut_slice.ensures.value) old.ok.0 in
    let all = file-taken asked names texts c.args.config.now run.2 c.in-Ok.rows c.open_apart-lanes.result.unopened old.items c.as_mut_slice.result.now lanes _ c.open_apart-lanes.result.merged c.take_files.new.merged
    c.in-None.is c.open_apart-lanes.ensures c.as_mut_slice.ensures.value back run.4 in
    (run.0, run.1, run.2, run.3, c.closed.ensures asked names texts run.2 all.0 all.1 all.2)
