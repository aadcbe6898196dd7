use Rattle.std.proofs.Common.{map, ap}
use Rattle.py_records.specs.Keys.{key_of, the_keys}
use Rattle.py_records.proofs.KeyLists.{pushed}
use Rattle.py_records.proofs.keys.keys.Goals as goal

pub returns : goal.returns
unfolding the_keys
returns c =
    let own = pushed c.in_ok-push_keys.ensures (ap (map key_of) c.new-keys.ensures.items) c.own_keys.ensures in
    let types = pushed c.in_ok-push_keys-2.ensures own c.types_keys.ensures in
    let containers = pushed c.in_ok-push_keys-3.ensures types c.containers_keys.ensures in
    let scalars = pushed c.in_ok-push_keys-4.ensures containers c.scalars_keys.ensures in
    let callables = pushed c.in_ok-push_keys-5.ensures scalars c.callables_keys.ensures in
    let frames = pushed c.in_ok-push_keys-6.ensures callables c.frames_keys.ensures in
    let stacks = pushed c.in_ok-push_keys-7.ensures frames c.stacks_keys.ensures in
    let coroutines = pushed c.in_ok-push_keys-8.ensures stacks c.coroutines_keys.ensures in
    let tasks = pushed c.in_ok-push_keys-9.ensures coroutines c.tasks_keys.ensures in
    let locks = pushed c.in_ok-push_keys-10.ensures tasks c.locks_keys.ensures in
    let exceptions = pushed c.in_ok-push_keys-11.ensures locks c.exceptions_keys.ensures in
    pushed c.in_ok-push_keys-12.ensures exceptions c.heap_keys.ensures
