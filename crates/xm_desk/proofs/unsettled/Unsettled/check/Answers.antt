use Rattle.std.proofs.Common.{◌≡◌, ◌∙◌, true, false, List, [], ◌∷◌, None, Some, refl, rules, ap}
use Rattle.xm_desk.specs.Accepted.{action_of}
use Rattle.xm_rules.proofs.Checks.{first_failing-append, first_failing-passed}
use Rattle.xm_rules.specs.Commands.{member_of}
use Rattle.xm_rules.specs.Refusals.{Check, first_failing, own_checks, is_ended, is_full, is_unknown_member, refusal_of}
use Rattle.xm_rules.specs.declared.replies.Refusal.TheVariants.{JournalFull}
use Rattle.xm_desk.proofs.unsettled.Unsettled.check.Goals as goal

pub returns-then-is_unknown_member-clause-refused : goal.returns-then-is_unknown_member-clause-refused
unfolding refusal_of
returns-then-is_unknown_member-clause-refused g c =
    let unknown : is_unknown_member c.args.self.now.state (member_of c.args.command.now) ≡ true = search rules in
    rw unknown refl

pub returns-then-is_ended-clause-refused : goal.returns-then-is_ended-clause-refused
unfolding refusal_of
returns-then-is_ended-clause-refused g c =
    let known : is_unknown_member c.args.self.now.state (member_of c.args.command.now) ≡ false = search rules in
    let ended : is_ended c.args.self.now.state.phase ≡ true = search rules in
    rw (known, ended) refl

pub returns-in-Err-clause-refused : goal.returns-in-Err-clause-refused
unfolding refusal_of
returns-in-Err-clause-refused g c =
    let s = c.args.self.now.state in
    let command = c.args.command.now in
    let known : is_unknown_member s (member_of command) ≡ false = search rules in
    let goes_on : is_ended s.phase ≡ false = search rules in
    let own : first_failing (own_checks s command) ≡ Some c.in-Err.refusal = search rules in
    rw (known, goes_on) (first_failing-append (own_checks s command) (record { fails = is_full s (member_of command); refusal = JournalFull } ∷ []) c.in-Err.refusal own)

pub returns-then-is_full-clause-refused : goal.returns-then-is_full-clause-refused
unfolding refusal_of
returns-then-is_full-clause-refused g c =
    let s = c.args.self.now.state in
    let command = c.args.command.now in
    let known : is_unknown_member s (member_of command) ≡ false = search rules in
    let goes_on : is_ended s.phase ≡ false = search rules in
    let own : first_failing (own_checks s command) ≡ None = search rules in
    let full : is_full s (member_of command) ≡ true = search rules in
    let last : List Check = record { fails = is_full s (member_of command); refusal = JournalFull } ∷ [] in
    let refused : first_failing last ≡ Some JournalFull = rw full refl in
    rw (known, goes_on) (first_failing-passed (own_checks s command) last own ∙ refused)

pub returns-clause-accepted : goal.returns-clause-accepted
unfolding refusal_of
returns-clause-accepted g c =
    let s = c.args.self.now.state in
    let command = c.args.command.now in
    let known : is_unknown_member s (member_of command) ≡ false = search rules in
    let goes_on : is_ended s.phase ≡ false = search rules in
    let own : first_failing (own_checks s command) ≡ None = search rules in
    let fits : is_full s (member_of command) ≡ false = search rules in
    let last : List Check = record { fails = is_full s (member_of command); refusal = JournalFull } ∷ [] in
    let passed : first_failing last ≡ None = rw fits refl in
    let lawful : refusal_of s command ≡ None = rw (known, goes_on) (first_failing-passed (own_checks s command) last own ∙ passed) in
    let does : action_of s command ≡ Some c.in-Ok.action = search rules in
    record { lawful = ap (refusal_of s) c.of.ensures ∙ lawful; does = ap (action_of s) c.of.ensures ∙ does }
