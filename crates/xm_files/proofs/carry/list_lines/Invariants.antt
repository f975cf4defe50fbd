use Rattle.std.proofs.Common.{◌≡◌, ◌≤◌, length}
use Rattle.xm_files.proofs.Listing.{ListedLines}
use Rattle.xm_files.specs.Carry.{lists_after}
use Rattle.xm_files.specs.Orders.{records_in}
use Rattle.xm_files.specs.Plain.{IsBehind, rest_of}
use Rattle.xm_files.specs.declared.order_format.OrderFormat.TheVariants.{Carry}
use Rattle.xm_files.proofs.carry.list_lines.Given as goal

abbrev pub invariant-lines : goal.invariant-lines
invariant-lines l = record {
  read : ListedLines l.names l.securities (lists_after l.names l.securities 2 l.initial.lists (records_in l.text)) (rest_of l.marks) l.line l.lists;
  behind : IsBehind 10 l.marks;
  format : l.fields.format ≡ Carry;
  onward : 2 ≤ l.line;
}

abbrev pub decreases-lines : goal.decreases-lines
decreases-lines l = length (rest_of l.marks)
