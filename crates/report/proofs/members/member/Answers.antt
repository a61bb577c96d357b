-- `report::members::member` meets its contract: a member's record, whose fields end with the comma behind the version, or nothing.
use Rattle.constraint.proofs.Texts.{part_from}
use Rattle.basis.proofs.Answers.{holds}
use Rattle.report.proofs.Telling.{record_room, member_put}
use Rattle.report.proofs.members.member.Goals as goal

pub member-requires-clause-room : goal.member-requires-clause-room
member-requires-clause-room c = record_room c.requires (rw part_from at c.plain_bytes.ensures)

pub returns : goal.returns
returns c = member_put c.requires c.args.index (rw part_from at c.plain_bytes.ensures) (holds c.has.ensures c.if-not-has.false) c.member.ensures
