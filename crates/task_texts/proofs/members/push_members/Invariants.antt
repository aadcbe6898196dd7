use Rattle.std.proofs.Common.{◌≡◌, ◌++◌, map, take, string_bytes}
use Rattle.std.specs.List.{concat}
use Rattle.task_texts.specs.Members.{member_text}
use Rattle.task_texts.proofs.members.push_members.Given as goal

abbrev pub invariant-loop-member : goal.invariant-loop-member
invariant-loop-member l = string_bytes l.text ≡ string_bytes l.initial.text ++ concat
    (map (λ m. member_text m) (take l.member-index l.members))
