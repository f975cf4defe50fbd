use Rattle.std.proofs.Common.{List, ap, sym, subst, ◌∙◌}
use Rattle.xm_reasons.specs.RowRules.{rule_beside}
use Rattle.xm_reasons.specs.declared.candidates.Candidate.{Candidate}
use Rattle.xm_reasons.proofs.Deciding.{Leads, leader-leads, leader-none}
use Rattle.xm_reasons.proofs.Ruling.{no-candidates, rule-of-leader, rule-without-limits}
use Rattle.xm_reasons.proofs.calls.deciding.Goals as goal

pub decide-requires : goal.decide-requires
decide-requires c = let l = leader-leads c.args.candidates.now c.in-Some.leader (sym c.leader.ensures ∙ c.in-Some.is) in l.there

pub returns-in-Some : goal.returns-in-Some
returns-in-Some c = λ s last rows price.
    let l = leader-leads c.args.candidates.now c.in-Some.leader (sym c.leader.ensures ∙ c.in-Some.is) in
    c.decide.ensures ∙ ap (rule_beside c.in-Some.leader) rows
    ∙ rule-of-leader s.phase s.orders last c.in-Some.leader (subst (λ (rs : List Candidate). Leads rs c.in-Some.leader) rows l)

pub returns-in-Some-price : goal.returns-in-Some-price
returns-in-Some-price c = λ s last rows price.
    let none = no-candidates s.phase s.orders (sym rows ∙ leader-none c.args.candidates.now (sym c.leader.ensures ∙ c.in-None.is)) in
    rule-without-limits s.phase s.orders last c.in-Some-price.field-0 none (sym price ∙ c.in-Some-price.is)
