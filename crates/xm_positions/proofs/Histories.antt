-- What a record of trades is after one more.
use Rattle.std.proofs.Common.{◌≡◌, List, [], ◌∷◌, ◌++◌, sym, ap, ◌∙◌}
use Rattle.std.specs.declared.snapshot.Snapshot.{Snapshot}
use Rattle.xm_positions.specs.History.{with_last, recorded}
use Rattle.xm_positions.specs.declared.history.Last.{Last, fold-Last, fold-roll-Last}
use Rattle.xm_positions.specs.declared.history.Last.TheOpen as open'
use Rattle.xm_positions.specs.declared.history.Last.TheVariants.{Nothing, Recorded, rolls-Nothing, rolls-Recorded}
use Rattle.xm_rules.specs.declared.orders.Trade.{Trade}

pub recorded-nothing : recorded Nothing ≡ []
unfolding recorded
recorded-nothing = ap (fold-Last (List Trade) with_last) (sym rolls-Nothing) ∙ fold-roll-Last (List Trade) with_last open'.Nothing

recorded-snapshots : (trade : Snapshot Trade) (before : Snapshot Last) → recorded (Recorded trade before) ≡ recorded before.value ++ trade.value ∷ []
unfolding recorded
recorded-snapshots trade before = ap (fold-Last (List Trade) with_last) (sym (rolls-Recorded trade before)) ∙ fold-roll-Last (List Trade) with_last (open'.Recorded trade before)

-- where the snapshots show a trade and what was before
pub recorded-more : (shown : Snapshot Trade) (before : Snapshot Last) (trade : Trade) (last : Last) → shown.value ≡ trade → before.value ≡ last → recorded (Recorded shown before) ≡ recorded last ++ trade ∷ []
recorded-more shown before trade last e f = recorded-snapshots shown before ∙ (λ i. recorded (f i) ++ e i ∷ [])
