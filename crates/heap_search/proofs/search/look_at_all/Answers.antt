use Rattle.std.proofs.Common.{arith, ap, drop, get_or, sym, take-append-drop, ◌+◌, ◌++◌, ◌∙◌}
use Rattle.std.proofs.lemmas.List.{take_all, take_more}
use Rattle.std.proofs.lemmas.Result.{err_from_is_err_and}
use Rattle.heap_search.proofs.SearchSteps.{looking_done, looking_init, looking_lost, looking_more}
use Rattle.heap_search.proofs.search.look_at_all.Goals as goal

pub loop-addr-init : goal.loop-addr-init
loop-addr-init g c = looking_init (g.M.ContainsAddr.contains c.args.maps.now) c.args.layout.now c.args.pointers.now
    c.args.class c.args.search.now _

pub returns-in_err-look_within : goal.returns-in_err-look_within
returns-in_err-look_within g c =
    let p = err_from_is_err_and c.from_residual.result c.from_residual.ensures.1 in
    let parts = sym (take-append-drop (c.loop-addr.addr-index + 1) c.args.addresses.now)
    ∙ ap (λ xs. xs ++ drop (c.loop-addr.addr-index + 1) c.args.addresses.now)
    (take_more c.args.addresses.now c.loop-addr.addr-index 0 c.loop-addr-test.true) in
    rw p.1 (looking_lost (g.M.ContainsAddr.contains c.args.maps.now) c.args.layout.now c.args.pointers.now c.args.class
    p.0 c.in_err-look_within.field-0.0 (get_or c.args.addresses.now c.loop-addr.addr-index 0) _ _
    c.loop-addr.invariant parts c.in_err-look_within.ensures p.2)

pub loop-addr-preserved : goal.loop-addr-preserved
loop-addr-preserved g c =
    rw (take_more c.args.addresses.now c.loop-addr.addr-index 0 c.loop-addr-test.true)
    (looking_more (g.M.ContainsAddr.contains c.args.maps.now) c.args.layout.now c.args.pointers.now c.args.class
    c.look_within.new.search (get_or c.args.addresses.now c.loop-addr.addr-index 0)
    c.loop-addr.invariant c.in_ok-look_within.ensures)

pub returns : goal.returns
returns g c = looking_done (g.M.ContainsAddr.contains c.args.maps.now) c.args.layout.now c.args.pointers.now
    c.args.class c.args.addresses.now c.loop-addr.invariant
    (take_all c.loop-addr.addr-index c.args.addresses.now (omega arith))
