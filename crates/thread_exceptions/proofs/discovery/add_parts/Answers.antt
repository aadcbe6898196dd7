use Rattle.thread_exceptions.specs.Exceptions.{context_of, members_in}
use Rattle.thread_exceptions.specs.Groups.{members_of}
use Rattle.thread_exceptions.proofs.Gathering.{gather_parts}
use Rattle.thread_exceptions.proofs.discovery.add_parts.Goals as goal

pub returns-clause-added : goal.returns-clause-added
returns-clause-added c = gather_parts c.args.limit _ _ _ _ (context_of c.args.parts.now)
    (members_in (members_of c.args.members.now)) c.args.parts.now.cause
    c.in_ok-add.ensures.added c.in_ok-add_context.ensures.added c.in_ok-add_members.ensures.added
