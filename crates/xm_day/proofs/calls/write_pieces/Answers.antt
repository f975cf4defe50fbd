use Rattle.std.proofs.Common.{rules, ◌++◌, ℕ, Global, Vec, OnErr, subst}
use Rattle.std.specs.Io.KnownBytes.{Appends}
use Rattle.std.specs.List.{flat_map}
use Rattle.xm_ticks.proofs.Prefixes.{Appends-more}
use Rattle.xm_day.proofs.Written.{err-then, part-behind, part-first}
use Rattle.xm_files.proofs.PassedErrors.{on_err}
use Rattle.xm_ticks.specs.Writing.{AppendsPrefix}
use Rattle.xm_day.proofs.calls.write_pieces.Goals as goal

pub returns-in_err-write_each-clause-failed : goal.returns-in_err-write_each-clause-failed
returns-in_err-write_each-clause-failed g c =
    let old = g.W.Write.contents c.args.out.now in
    let mid = g.W.Write.contents c.write_text.new.out in
    let new = g.W.Write.contents c.write_each.new.out in
    let first = c.text.inside.beginning.items in
    let lines = flat_map (λ (t : Vec ℕ Global). t.items) c.text.inside.securities.items in
    let written : Appends old mid first = search (rules, c.in_ok-write_text.ensures.ok, c.as_slice.ensures.value) in
    let failed : AppendsPrefix mid new lines = search (rules, c.in_err-write_each.ensures.failed, c.as_slice-2.ensures.value) in
    on_err c.from_residual-in_err-write_each.result (subst (AppendsPrefix old new) c.text.view_is (part-first old new (first ++ lines) c.text.inside.end.items (part-behind old mid new first lines written failed)))

pub returns-clause-failed : goal.returns-clause-failed
returns-clause-failed g c =
    let old = g.W.Write.contents c.args.out.now in
    let mid = g.W.Write.contents c.write_text.new.out in
    let next = g.W.Write.contents c.write_each.new.out in
    let new = g.W.Write.contents c.write_text-2.new.out in
    let first = c.text.inside.beginning.items in
    let lines = flat_map (λ (t : Vec ℕ Global). t.items) c.text.inside.securities.items in
    let end = c.text.inside.end.items in
    let written : Appends old mid first = search (rules, c.in_ok-write_text.ensures.ok, c.as_slice.ensures.value) in
    let each : Appends mid next lines = search (rules, c.in_ok-write_each.ensures.ok, c.as_slice-2.ensures.value) in
    let failed : OnErr c.write_text-2.result (AppendsPrefix next new end) = search (rules, c.write_text-2.ensures.failed, c.as_slice-3.ensures.value) in
    err-then c.write_text-2.result failed (λ part. subst (AppendsPrefix old new) c.text.view_is (part-behind old next new (first ++ lines) end (Appends-more old mid next first lines written each) part))
