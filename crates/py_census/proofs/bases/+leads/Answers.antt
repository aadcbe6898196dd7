use Rattle.std.proofs.Common.{◌≡◌, ◌-◌, ◌∙◌, ap, arith, sym}
use Rattle.std.specs.Prelude.{IfOk}
use Rattle.process_memory.proofs.Reading.{reading_gives, reading_none, reading_then}
use Rattle.py_census.specs.Bases.{base_says, leads_at}
use Rattle.py_census.proofs.Leading.{leads_none, leads_on, leads_one, leads_out}
use Rattle.py_census.proofs.Said.{said}
use Rattle.py_census.proofs.bases.+leads.Goals as goal

pub returns-then-is_one : goal.returns-then-is_one
returns-then-is_one g t c = reading_none _ _ _
    (λ m. sym (leads_one c.args.base c.args.sets m c.args.class c.args.left
    (sym c.is_one.ensures ∙ c.if-is_one.true)))

pub returns-then-class-eq0 : goal.returns-then-class-eq0
returns-then-class-eq0 g t c = reading_none _ _ _
    (λ m. sym (leads_none c.args.base c.args.sets m c.args.class c.args.left
    (sym c.is_one.ensures ∙ c.if-is_one.false) c.if-class-eq0.true))

pub returns-then-left-eq0 : goal.returns-then-left-eq0
returns-then-left-eq0 g t c = reading_none _ _ _
    (λ m. sym (leads_out c.args.base c.args.sets m c.args.class c.args.left c.if-left-eq0.true
    (sym c.is_one.ensures ∙ c.if-is_one.false) c.if-class-eq0.false))

pub returns-in-None : goal.returns-in-None
returns-in-None g t c =
    let base = c.args.base in
    let sets = c.args.sets in
    let left = c.args.left in
    reading_gives left _ c.in_ok-next.ensures (omega (arith, c.if-left-eq0.false))
    (λ m h. sym (leads_on base sets m c.args.class left c.if-left-eq0.false
    (sym c.is_one.ensures ∙ c.if-is_one.false) c.if-class-eq0.false
    ∙ ap (λ o. base_says o (λ next. leads_at base sets m next (left - 1))) (sym h ∙ c.in-None.is)))

pub returns-in-Some : goal.returns-in-Some
returns-in-Some g t c =
    let base = c.args.base in
    let sets = c.args.sets in
    let class = c.args.class in
    let left = c.args.left in
    let r = c.leads.result in
    reading_gives left _
    (reading_then (λ m. IfOk r (λ is. is ≡ leads_at base sets m class left)) c.in_ok-next.ensures c.leads.ensures
    (λ m a b. said r (leads_at base sets m c.in-Some.next (left - 1)) (leads_at base sets m class left)
    (ap (λ o. base_says o (λ next. leads_at base sets m next (left - 1))) (sym c.in-Some.is ∙ a)
    ∙ sym (leads_on base sets m class left c.if-left-eq0.false
    (sym c.is_one.ensures ∙ c.if-is_one.false) c.if-class-eq0.false)) b))
    (omega (arith, c.if-left-eq0.false)) (λ m h. h)
