-- What the ledgers of a security count: the commands that its desk accepted, and what these traded.
use Rattle.std.specs.Prelude.{◌≡◌, ℕ, zero, suc, ◌+◌, ◌≤◌, List, [], ◌∷◌, length, sum_by, Result, Ok, Err}
use Rattle.xm_rules.specs.Step.{Journal, replay}
use Rattle.xm_rules.specs.Sums.{total_money, total_quantity}
use Rattle.xm_rules.specs.declared.replies.Refusal.{Refusal}
use Rattle.xm_rules.specs.declared.replies.Reply.{Reply}
use Rattle.xm_rules.specs.declared.settings.DeskSettings.{DeskSettings}
use Rattle.xm_rules.specs.declared.totals.TheConstants.{MAX_TRADED_QUANTITY}

-- accepted commands, and what they traded, in units and in ticks times units
pub record Sums : Type 0 where
  pub accepted : ℕ
  pub quantity : ℕ
  pub money : ℕ

abbrev pub no_sums : Sums
no_sums = record { accepted = 0; quantity = 0; money = 0 }

-- the sums of a journal: its commands, and the totals of its trades
abbrev pub ledger_sums : Journal → Sums
ledger_sums j = record { accepted = length j.commands; quantity = total_quantity (replay j).trades; money = total_money (replay j).trades }

-- an accepted command counts one, and what its reply traded; a refused one counts nothing
abbrev pub with_answer : Sums → Result Reply Refusal → Sums
with_answer s (Ok reply) = record { accepted = s.accepted + 1; quantity = s.quantity + reply.quantity; money = s.money + reply.money }
with_answer s (Err refusal) = s

-- the sums of each security, with an answer on the one with this index
abbrev pub with_answer_on : ℕ → List Sums → Result Reply Refusal → List Sums
with_answer_on security [] answer = []
with_answer_on zero (s ∷ ss) answer = with_answer s answer ∷ ss
with_answer_on (suc security) (s ∷ ss) answer = s ∷ with_answer_on security ss answer

abbrev pub both_sums : Sums → Sums → Sums
both_sums s t = record { accepted = s.accepted + t.accepted; quantity = s.quantity + t.quantity; money = s.money + t.money }

-- the sums of each security, added up
abbrev pub added : List Sums → List Sums → List Sums
added [] ts = ts
added (s ∷ ss) [] = s ∷ ss
added (s ∷ ss) (t ∷ ts) = both_sums s t ∷ added ss ts

-- shares of the three ledgers of a security: how many parts they have, and what is counted in them
pub record Shared : Type 0 where
  pub parts : ℕ
  pub sums : Sums

-- shares of the ledgers of each of eight securities, which have the same number of parts
pub record SharedRow : Type 0 where
  pub parts : ℕ
  pub sums : List Sums

-- a ledger of eight securities in which nothing is counted
abbrev pub nothing_counted : List Sums
nothing_counted = no_sums ∷ no_sums ∷ no_sums ∷ no_sums ∷ no_sums ∷ no_sums ∷ no_sums ∷ no_sums ∷ []

-- the names of the three ledgers of a security
pub record LedgerNames : Type 0 where
  pub accepted : ℕ
  pub quantity : ℕ
  pub money : ℕ

-- the ledgers of a security before a segment has them: their names, and the number of their parts
pub record BlankLedgers : Type 0 where
  pub names : LedgerNames
  pub parts : ℕ

abbrev pub AreNothing : List Sums → Type 0
AreNothing [] = Unit {0}
AreNothing (s ∷ ss) = (s ≡ no_sums) × AreNothing ss

-- there are sums of each security of a segment, and nothing is counted in the lanes that it doesn't use
abbrev pub FitLanes : List DeskSettings → List Sums → Type 0
FitLanes [] sums = AreNothing sums
FitLanes (opened ∷ more) [] = ⊥
FitLanes (opened ∷ more) (s ∷ ss) = FitLanes more ss

-- no security traded more than a day trades
abbrev pub AreWithinDay : List Sums → Type 0
AreWithinDay [] = Unit {0}
AreWithinDay (s ∷ ss) = (s.quantity ≤ MAX_TRADED_QUANTITY) × AreWithinDay ss

-- the accepted commands of all securities
abbrev pub accepted_in : List Sums → ℕ
accepted_in sums = sum_by (λ (s : Sums). s.accepted) sums

-- what they traded, in units
abbrev pub quantity_in : List Sums → ℕ
quantity_in sums = sum_by (λ (s : Sums). s.quantity) sums
