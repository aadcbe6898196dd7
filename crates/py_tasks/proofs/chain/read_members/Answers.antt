use Rattle.std.proofs.Common.{◌*◌, ap, arith}
use Rattle.std.proofs.lemmas.Result.{err_from_is_err_and}
use Rattle.py_names.specs.NamesError.{names_fault}
use Rattle.py_tasks.specs.Chains.{members_of}
use Rattle.task_sets.proofs.Gathering.{gathering_done, gathering_init, gathering_lost, gathering_more, gathering_stop}
use Rattle.std.proofs.Common.{length}
use Rattle.std.specs.Prelude.{Some}
use Rattle.py_tasks.proofs.Members.{some_member, some_member_stop}
use Rattle.py_tasks.proofs.chain.read_members.Goals as goal

pub loop-address-init : goal.loop-address-init
loop-address-init g c = rw c.new-members.ensures.items (gathering_init
    (λ m. members_of c.args.layout.now c.args.places.now m c.args.addresses.now) 10 _ (length c.args.addresses.now))

pub returns-in_err-member : goal.returns-in_err-member
returns-in_err-member g c =
    let p = err_from_is_err_and c.from_residual.result c.from_residual.ensures.1 in
    rw p.1 (gathering_stop (10 * length c.args.addresses.now) p.0 c.loop-address.invariant c.loop-address-test.true
    (some_member_stop c.args.layout.now c.args.places.now _ _ c.in_err-member.ensures) (ap names_fault p.2)
    (omega (arith, c.loop-address-test.true)))

pub returns-in_err-push : goal.returns-in_err-push
returns-in_err-push g c =
    let p = err_from_is_err_and c.from_residual-in_err-push.result c.from_residual-in_err-push.ensures.1 in
    rw p.1 (gathering_lost (10 * length c.args.addresses.now) p.0 c.loop-address.invariant
    (some_member c.args.layout.now c.args.places.now _ c.in_ok-member.ensures) (ap names_fault p.2)
    (omega (arith, c.loop-address-test.true)))

pub loop-address-preserved : goal.loop-address-preserved
loop-address-preserved g c =
    rw c.in_ok-push.ensures.items
    (gathering_more (Some c.in_ok-member.member) c.loop-address.invariant c.loop-address-test.true
    (some_member c.args.layout.now c.args.places.now _ c.in_ok-member.ensures) (omega arith))

pub returns : goal.returns
returns g c = gathering_done (10 * length c.args.addresses.now) c.loop-address.invariant (omega arith) (omega arith)
