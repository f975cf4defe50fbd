use Rattle.std.proofs.Common.{rules, ◌≡◌, ◌+◌, ◌++◌, ◌∷◌, [], List, length, ap, arith, subst, sym, ◌∙◌}
use Rattle.std.specs.Prelude.{slice_get, Some}
use Rattle.std.proofs.lemmas.List.{length-append}
use Rattle.std.proofs.lemmas.List.Sums.{sum_by_push}
use Rattle.xm_workers.proofs.Chains.{push-keeps, push-last, took-push}
use Rattle.xm_workers.specs.Standing.{TookAll, will_be_taken, will_take}
use Rattle.xm_workers.specs.Workers.{WorkerView, taken_by, taken_in}
use Rattle.xm_workers.proofs.shares.join_all.Goals as goal

pub loop-one-init : goal.loop-one-init
loop-one-init g c =
    let nobody = c.in_ok-workers.ensures.items in
    record {
      all = omega (arith, ap (λ (ws : List WorkerView). length ws) nobody);
      first = λ place one at. at;
      each = λ number place one after sum at there. absurd (let nothing : slice_get [] number ≡ Some after = ap (λ (ws : List WorkerView). slice_get ws number) (sym nobody) ∙ there in cc);
      taken = omega (arith, ap taken_by nobody);
    }

pub loop-one-preserved : goal.loop-one-preserved
loop-one-preserved g c =
    let popped = c.pop.new.self.items in
    let one = c.in-Some.one in
    let after = c.in_ok-join.field-0 in
    let items : c.loop-one.left.items ≡ popped ++ one ∷ [] = search rules in
    let pushed : c.push.new.self.items ≡ c.loop-one.workers.items ++ after ∷ [] = search rules in
    let shorter = ap (λ xs. length xs) items ∙ length-append popped (one ∷ []) in
    let longer = ap (λ (ws : List WorkerView). length ws) pushed ∙ length-append c.loop-one.workers.items (after ∷ []) in
    let stands = c.loop-one.invariant.first (length popped) one (ap (λ xs. slice_get xs (length popped)) items ∙ push-last popped one) in
    let both : length popped + length c.loop-one.workers.items + 1 ≡ length c.args.standing.items = omega (arith, shorter, c.loop-one.invariant.all) in
    let left = ap will_be_taken items ∙ sum_by_push will_take popped one in
    let back = ap taken_by pushed ∙ sum_by_push (λ (w : WorkerView). taken_in w.report) c.loop-one.workers.items after in
    record {
      all = omega (arith, shorter, longer, c.loop-one.invariant.all);
      first = λ place x at. c.loop-one.invariant.first place x (ap (λ xs. slice_get xs place) items ∙ push-keeps popped one place x at);
      each = subst (TookAll g.S.Naming.settings c.args.standing.items) (sym pushed)
          (took-push g.S.Naming.settings c.args.standing.items c.loop-one.workers.items (length popped) one after c.loop-one.invariant.each both stands c.in_ok-join.ensures.took);
      taken = omega (arith, left, back, c.in_ok-join.ensures.taken, c.loop-one.invariant.taken);
    }
