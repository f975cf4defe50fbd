-- Names may go to another thread.
use denote.Param.Send.{IsSend, sendable}
use Rattle.std.proofs.Crossing.{crosses}
use Rattle.std.specs.contracts.alloc.Global.{the_row as heap}
use Rattle.std.specs.contracts.impls.GlobalAllocator.TheImpl.{ghosts}
use Rattle.xm_name_index.specs.contracts.table.NameTable as NameTable
use Rattle.xm_name_index.specs.contracts.member_names.MemberNames as MemberNames
use Rattle.xm_name_index.specs.contracts.members.Members as Members
use Rattle.xm_name_index.specs.contracts.names.Names as Names

table-send : IsSend (NameTable.the_field heap ghosts).row
table-send = search (sendable, crosses) depth 20

member_names-send : IsSend (MemberNames.the_field heap ghosts).row
member_names-send = let a = table-send in search (sendable, crosses) depth 60

members-send : IsSend (Members.the_field heap ghosts).row
members-send = let a = member_names-send in search (sendable, crosses) depth 20

pub names-send : IsSend (Names.the_field heap ghosts).row
names-send = let a = members-send in search (sendable, crosses) depth 20
