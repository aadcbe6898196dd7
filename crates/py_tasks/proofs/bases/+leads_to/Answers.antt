use Rattle.std.proofs.Common.{◌+◌, ◌-◌, arith, refl}
use Rattle.std.specs.Prelude.{Ok, true, false}
use Rattle.std.proofs.lemmas.Result.{err_from_is_err_and}
use Rattle.process_memory.specs.Memory.{◌>>=◌, word_at}
use Rattle.process_memory.proofs.Reading.{reading_short, reads_end, reads_halt, reads_next, reads_same}
use Rattle.py_tasks.specs.Bases.{leads_at}
use Rattle.py_tasks.proofs.Leading.{leads_none, leads_on, leads_out, leads_same, leads_unsought}
use Rattle.py_tasks.proofs.bases.+leads_to.Goals as goal

pub returns-then-class-eq0 : goal.returns-then-class-eq0
returns-then-class-eq0 g t c =
    reads_same (λ m. leads_at c.args.base m c.args.class c.args.sought c.args.left) (λ m. Ok false)
    (λ m. leads_none c.args.base m c.args.class c.args.sought c.args.left c.if-class-eq0.true)
    (reads_end c.args.left refl)

pub returns-then-sought-eq0 : goal.returns-then-sought-eq0
returns-then-sought-eq0 g t c =
    reads_same (λ m. leads_at c.args.base m c.args.class c.args.sought c.args.left) (λ m. Ok false)
    (λ m. leads_unsought c.args.base m c.args.class c.args.sought c.args.left c.if-class-eq0.false
    c.if-sought-eq0.true)
    (reads_end c.args.left refl)

pub returns-then-class-sought : goal.returns-then-class-sought
returns-then-class-sought g t c =
    reads_same (λ m. leads_at c.args.base m c.args.class c.args.sought c.args.left) (λ m. Ok true)
    (λ m. leads_same c.args.base m c.args.class c.args.sought c.args.left c.if-class-eq0.false
    c.if-sought-eq0.false c.if-class-sought.true)
    (reads_end c.args.left refl)

pub returns-then-left-eq0 : goal.returns-then-left-eq0
returns-then-left-eq0 g t c =
    reads_same (λ m. leads_at c.args.base m c.args.class c.args.sought c.args.left) (λ m. Ok false)
    (λ m. leads_out c.args.base m c.args.class c.args.sought c.args.left c.if-left-eq0.true c.if-class-eq0.false
    c.if-sought-eq0.false c.if-class-sought.false)
    (reads_end c.args.left refl)

pub returns-in_err-next : goal.returns-in_err-next
returns-in_err-next g t c =
    let p = err_from_is_err_and c.from_residual.result c.from_residual.ensures.1 in
    rw p.1 (reads_same (λ m. leads_at c.args.base m c.args.class c.args.sought c.args.left)
    (λ m. word_at m (c.args.class + c.args.base)
    >>= (λ next. leads_at c.args.base m next c.args.sought (c.args.left - 1)))
    (λ m. leads_on c.args.base m c.args.class c.args.sought c.args.left c.if-left-eq0.false c.if-class-eq0.false
    c.if-sought-eq0.false c.if-class-sought.false)
    (reads_halt c.args.left p.0 _ (reading_short c.in_err-next.ensures.answer) p.2.0
    (omega (arith, c.if-left-eq0.false))))

pub returns : goal.returns
returns g t c =
    reads_same (λ m. leads_at c.args.base m c.args.class c.args.sought c.args.left)
    (λ m. word_at m (c.args.class + c.args.base)
    >>= (λ next. leads_at c.args.base m next c.args.sought (c.args.left - 1)))
    (λ m. leads_on c.args.base m c.args.class c.args.sought c.args.left c.if-left-eq0.false c.if-class-eq0.false
    c.if-sought-eq0.false c.if-class-sought.false)
    (reads_next c.args.left _ (reading_short c.in_ok-next.ensures.answer) c.leads_to.ensures
    (omega (arith, c.if-left-eq0.false)))
