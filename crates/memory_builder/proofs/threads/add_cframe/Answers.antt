use Rattle.std.proofs.Common.{◌≡◌, ◌++◌, append-nil, subst, sym}
use Rattle.std.specs.Prelude.{IfOk}
use Rattle.memory_builder.specs.Threads.{laid_cframe}
use Rattle.memory_builder.proofs.threads.add_cframe.Goals as goal

pub returns-in_default : goal.returns-in_default
unfolding laid_cframe
returns-in_default c = subst (λ o. c.args.out.now.items ≡ c.args.out.now.items
    ++ laid_cframe o c.args.first) (sym c.in_default.is) (sym (append-nil c.args.out.now.items))

pub returns : goal.returns
unfolding laid_cframe
returns c = subst (λ o. IfOk c.add_object.result (λ _. c.add_object.new.out.items ≡ c.args.out.now.items
    ++ laid_cframe o c.args.first)) (sym c.in-Some.is) c.add_object.ensures
