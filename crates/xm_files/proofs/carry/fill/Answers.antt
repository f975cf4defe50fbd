use Rattle.std.proofs.Common.{◌≡◌, ◌<◌, ◌∙◌, ℕ, get_or, length, refl, ap, sym, arith, rules, add-one}
use Rattle.std.specs.Prelude.{slice_set}
use Rattle.std.proofs.lemmas.List.{get_or-set_other, get_or_default}
use Rattle.xm_files.proofs.Filling.{filled-all, filled-more, filled_to}
use Rattle.xm_rules.specs.Entries.{none_left}
use Rattle.xm_files.proofs.carry.fill.Goals as goal

pub loop-index-init : goal.loop-index-init
loop-index-init c = record { filled = refl; left = λ k past. refl }

pub loop-index-preserved : goal.loop-index-preserved
loop-index-preserved c =
    let at = c.loop-index in
    let i = at.index in
    let settings = c.args.settings.now in
    let lists = c.args.lists.now in
    let d = c.index-settings-index.result in
    let within : i < length settings = search rules in
    let same = c.requires in
    let each = at.auto.lists in
    let given : c.in_ok-settings.field-0 ≡ get_or lists i none_left =
    c.in_ok-settings.ensures.given ∙ get_or_default at.lists i c.index-lists-index.result none_left (omega (arith, within, same, each)) ∙ at.invariant.left i (omega arith) in
    record {
      filled = (λ k. slice_set (at.invariant.filled k) i (record (get_or (at.invariant.filled k) i d) { carried = given k }))
          ∙ sym (filled-more i settings lists d within same)
          ∙ ap (λ (n : ℕ). filled_to n settings lists) (sym (add-one i));
      left = λ k past. get_or-set_other at.lists i k c.give.new.self none_left (λ e. absurd (omega (arith, past, e))) ∙ at.invariant.left k (omega (arith, past));
    }

pub returns : goal.returns
returns c =
    let at = c.loop-index in
    let settings = c.args.settings.now in
    let all : at.index ≡ length settings = omega (arith, at.auto.index-end, c.loop-index-test.false) in
    at.invariant.filled ∙ ap (λ (n : ℕ). filled_to n settings c.args.lists.now) all ∙ filled-all settings c.args.lists.now
