use Rattle.std.proofs.Common.{string_bytes}
use Rattle.task_texts.specs.Members.{member_text}
use Rattle.salvage_texts.proofs.Parts.{push_more}
use Rattle.task_texts.proofs.members.push_members.Goals as goal

pub loop-member-preserved : goal.loop-member-preserved
loop-member-preserved c =
    push_more (λ m. member_text m) (string_bytes c.args.text.now) _ _ c.args.members.now c.loop-member.member-index
    c.member-item.result c.member-item.result c.loop-member-test.true c.member-item.is c.loop-member.invariant
    c.in_ok-push_member.ensures
