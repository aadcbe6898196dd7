use Rattle.std.proofs.Common.{◌+◌, ◌∙◌, ap, drop, get_or, map, refl, sym}
use Rattle.std.proofs.lemmas.List.{at_drop_all}
use Rattle.serde_json.specs.Data.{object}
use Rattle.serde_json.specs.View.{members_view}
use Rattle.serde_json.proofs.Views.{view-Object}
use Rattle.thread_registers.specs.Threads.{named_of}
use Rattle.thread_registers.specs.Trees.{registers_put}
use Rattle.thread_registers.proofs.Rest.{next, no_register}
use Rattle.thread_registers.proofs.tree.object_of.Goals as goal

pub loop-register-preserved : goal.loop-register-preserved
unfolding registers_put
loop-register-preserved c =
    let registers = c.args.registers.now in
    let i = c.loop-register.register-index in
    ap (λ ms. registers_put (map named_of (drop (i + 1) registers)) ms) c.in_ok-put_register.ensures
    ∙ ap (λ rs. registers_put (map named_of rs) (members_view c.loop-register.members.entries))
    (sym (next registers i (get_or registers i no_register) no_register c.loop-register-test.true refl))
    ∙ c.loop-register.invariant

pub returns : goal.returns
unfolding registers_put
returns c =
    view-Object c.loop-register.members
    ∙ ap object (sym (at_drop_all (λ xs. registers_put (map named_of xs) (members_view c.loop-register.members.entries))
    c.args.registers.now c.loop-register.register-index c.loop-register-test.false) ∙ c.loop-register.invariant)
