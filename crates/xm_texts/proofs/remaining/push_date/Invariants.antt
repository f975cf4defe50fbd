use Rattle.std.proofs.Common.{◌≡◌, ◌≤◌, ◌-◌, ◌++◌, length, max, replicate}
use Rattle.xm_texts.proofs.remaining.push_date.Given as goal

abbrev pub invariant-loop : goal.invariant-loop
invariant-loop g l = record {
  text : l.text.items ≡ l.initial.text.items ++ replicate (l.counter - length l.digits) 48;
  from : length l.digits ≤ l.counter;
  upto : l.counter ≤ max 8 (length l.digits);
}
