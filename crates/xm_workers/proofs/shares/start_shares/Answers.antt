use Rattle.std.proofs.Common.{rules, not, refl, ◌≡◌, ℕ, ◌+◌, ◌<◌, ◌++◌, ◌∷◌, [], List, length, ap, arith, subst, sym, ◌∙◌}
use Rattle.std.proofs.lemmas.List.{length-append}
use Rattle.std.proofs.lemmas.List.Filters.{length-filter_both}
use Rattle.std.proofs.lemmas.List.Sums.{sum_by_push}
use Rattle.xm_workers.proofs.Chains.{push-keeps, push-last, will-push}
use Rattle.xm_workers.proofs.SharedOut.{shared_out-all, shared_out-step}
use Rattle.std.specs.Prelude.{slice_get, Some}
use Rattle.xm_workers.specs.Standing.{WillTakeAll, will_be_taken, will_take}
use Rattle.xm_workers.specs.Workers.{WorkerView, shared_out, taken_by, taken_in}
use Rattle.xm_files.specs.Timetable.{is_worked_by, share_of}
use Rattle.xm_config.specs.declared.rows.Row.{Row}
use Rattle.xm_workers.proofs.shares.start_shares.Goals as goal

pub loop-worker-init : goal.loop-worker-init
loop-worker-init g c =
    let count : length c.args.workers.items ≡ c.len-count.result = search (rules, arith) in
    let rows = c.args.rows.now in
    let some : 0 < c.len-count.result = omega (arith, count, c.requires.some) in
    let outs = ap (λ (n : ℕ). shared_out n c.len-count.result rows) count ∙ shared_out-all c.len-count.result rows some c.requires.members in
    let nobody = ap will_be_taken c.in_ok-standing.ensures.items in
    let none = ap (λ xs. length xs) c.in_ok-standing.ensures.items in
    record {
      all = omega (arith, count, none);
      first = λ number w at. at;
      each = λ number place w one sum at there. absurd (let nothing : slice_get [] place ≡ Some one = ap (λ ss. slice_get ss place) (sym c.in_ok-standing.ensures.items) ∙ there in cc);
      taken = omega (arith, outs, nobody);
    }

pub start-requires-after_bounds : goal.start-requires-after_bounds
start-requires-after_bounds g c κs within =
    let popped = c.pop.new.self.items in
    let worker = c.in-Some.worker in
    let items : c.loop-worker.waiting.items ≡ popped ++ worker ∷ [] = search rules in
    let index : c.len-in-Some.result ≡ length popped = search (rules, arith) in
    let one = ap (λ (ws : List WorkerView). length ws) items ∙ length-append popped (worker ∷ []) in
    let taken = ap taken_by items ∙ sum_by_push (λ (w : WorkerView). taken_in w.report) popped worker in
    let step = shared_out-step (length c.loop-worker.waiting.items) (length popped) c.len-count.result c.args.rows.now one in
    let share = ap (λ (rs : List Row). length rs) c.in_ok-share.ensures ∙ ap (λ (n : ℕ). length (share_of n c.len-count.result c.args.rows.now)) index in
    let worked = is_worked_by (length popped) c.len-count.result in
    let part = length-filter_both worked (λ row. not (worked row)) (λ row. refl) c.args.rows.now in
    (omega (arith, taken, step, share, c.loop-worker.invariant.taken, c.requires.room.0), omega (arith, share, part, c.requires.room.1))

pub loop-worker-preserved : goal.loop-worker-preserved
loop-worker-preserved g c =
    let popped = c.pop.new.self.items in
    let worker = c.in-Some.worker in
    let items : c.loop-worker.waiting.items ≡ popped ++ worker ∷ [] = search rules in
    let index : c.len-in-Some.result ≡ length popped = search (rules, arith) in
    let one = ap (λ (ws : List WorkerView). length ws) items ∙ length-append popped (worker ∷ []) in
    let taken = ap taken_by items ∙ sum_by_push (λ (w : WorkerView). taken_in w.report) popped worker in
    let step = shared_out-step (length c.loop-worker.waiting.items) (length popped) c.len-count.result c.args.rows.now one in
    let share = ap (λ (rs : List Row). length rs) c.in_ok-share.ensures ∙ ap (λ (n : ℕ). length (share_of n c.len-count.result c.args.rows.now)) index in
    let started = c.in_ok-start.field-0 in
    let pushed : c.push.new.self.items ≡ c.loop-worker.standing.items ++ started ∷ [] = search rules in
    let all = ap (λ xs. length xs) pushed ∙ length-append c.loop-worker.standing.items (started ∷ []) in
    let will = ap will_be_taken pushed ∙ sum_by_push will_take c.loop-worker.standing.items started in
    let takes = c.in_ok-start.ensures.taken in
    let rows = c.args.rows.now in
    let count : length c.args.workers.items ≡ c.len-count.result = search (rules, arith) in
    let stands = c.loop-worker.invariant.first (length popped) worker (ap (λ (ws : List WorkerView). slice_get ws (length popped)) items ∙ push-last popped worker) in
    let both : length popped + length c.loop-worker.standing.items + 1 ≡ length c.args.workers.items = omega (arith, one, count, c.loop-worker.invariant.all) in
    let its : c.in_ok-share.share.items ≡ share_of (length popped) c.len-count.result rows = c.in_ok-share.ensures ∙ ap (λ (n : ℕ). share_of n c.len-count.result rows) index in
    record {
      all = omega (arith, one, all, c.loop-worker.invariant.all);
      first = λ number w at. c.loop-worker.invariant.first number w (ap (λ (ws : List WorkerView). slice_get ws number) items ∙ push-keeps popped worker number w at);
      each = subst (WillTakeAll (λ number. share_of number c.len-count.result rows) c.args.workers.items) (sym pushed)
          (will-push (λ number. share_of number c.len-count.result rows) c.args.workers.items c.loop-worker.standing.items (length popped) worker started c.in_ok-share.share.items c.loop-worker.invariant.each both stands its c.in_ok-start.ensures.takes);
      taken = omega (arith, taken, step, share, will, takes, c.loop-worker.invariant.taken);
    }
