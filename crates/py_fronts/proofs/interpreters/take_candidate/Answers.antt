use Rattle.std.proofs.Common.{ap, ◌∙◌, sym}
use Rattle.std.proofs.Math.Nat.{le_refl}
use Rattle.std.proofs.lemmas.Result.{err_from_is_err_and}
use Rattle.std.specs.Prelude.{false}
use Rattle.process_memory.proofs.Reading.{reading_gives, reading_none}
use Rattle.py_fronts.specs.Interpreters.{finds_of}
use Rattle.py_fronts.proofs.FindSteps.{named_is, taken_before, taken_none, taken_one}
use Rattle.py_fronts.proofs.interpreters.take_candidate.Goals as goal

pub returns-then-is_found : goal.returns-then-is_found
returns-then-is_found g c =
    let known = rw c.deref.ensures.value at c.is_found.ensures in
    reading_none _ _ _ (λ m. taken_before false (g.M.ContainsAddr.contains c.args.maps.now) c.args.layout.now m
    (finds_of c.args.finds.now) _ c.args.addr c.is_found.result known c.if-is_found.true
    (ap (λ xs. record { found = xs; more = c.args.finds.now.more }) c.mark_named.ensures))

pub returns-in-None : goal.returns-in-None
returns-in-None g c =
    let known = rw c.deref.ensures.value at c.is_found.ensures in
    reading_gives _ _ c.in_ok-head.ensures (le_refl _)
    (λ m a. taken_none false (g.M.ContainsAddr.contains c.args.maps.now) c.args.layout.now m (finds_of c.args.finds.now)
    c.args.addr c.is_found.result c.in_ok-head.field-0 known c.if-is_found.false c.in-None.is
    (a ∙ sym (named_is (g.M.ContainsAddr.contains c.args.maps.now) c.args.layout.now m c.args.addr)))

pub returns-in_err-take : goal.returns-in_err-take
returns-in_err-take g c =
    let p = err_from_is_err_and c.from_residual-in_err-take.result c.from_residual-in_err-take.ensures.1 in
    rw p.1 (reading_gives _ _ c.in_ok-head.ensures (le_refl _) (λ m a. p.2))

pub returns : goal.returns
returns g c =
    let known = rw c.deref.ensures.value at c.is_found.ensures in
    reading_gives _ _ c.in_ok-head.ensures (le_refl _)
    (λ m a. taken_one false (g.M.ContainsAddr.contains c.args.maps.now) c.args.layout.now m (finds_of c.args.finds.now)
    (finds_of c.take.new.finds) c.args.addr c.is_found.result c.in_ok-head.field-0 c.in-Some.head known
    c.if-is_found.false c.in-Some.is
    (a ∙ sym (named_is (g.M.ContainsAddr.contains c.args.maps.now) c.args.layout.now m c.args.addr))
    c.in_ok-take.ensures)
