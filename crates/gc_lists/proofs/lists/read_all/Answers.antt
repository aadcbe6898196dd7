use Rattle.std.proofs.Common.{◌≡◌, ◌++◌, ◌∙◌, ap, arith}
use Rattle.std.specs.Prelude.{IfOk}
use Rattle.std.proofs.lemmas.Result.{err_from_is_err_and}
use Rattle.process_memory.proofs.Reading.{reading_gives, reading_none, reading_then}
use Rattle.gc_lists.specs.Heads.{heads_in, heads_of}
use Rattle.gc_lists.specs.Links.{links_at}
use Rattle.gc_lists.specs.Lists.{collecting_at, four_at, four_of}
use Rattle.gc_lists.proofs.Said.{one_more_of_all, said}
use Rattle.gc_lists.proofs.lists.read_all.Goals as goal

pub returns-in_err-heads : goal.returns-in_err-heads
returns-in_err-heads g c =
    let p = err_from_is_err_and c.from_residual.result c.from_residual.ensures.1 in
    rw p.1 (reading_none _ _ _ (λ m. tt))

pub returns-in_err-collecting : goal.returns-in_err-collecting
returns-in_err-collecting g c =
    let p = err_from_is_err_and c.from_residual-in_err-collecting.result c.from_residual-in_err-collecting.ensures.1 in
    rw p.1 (reading_gives _ _ c.in_err-collecting.ensures (omega arith) (λ m a. tt))

pub returns : goal.returns
returns g c =
    let p = c.args.places.now in
    let own = c.args.own in
    let all = heads_in own ++ heads_of p c.args.bases.now in
    reading_gives _ _
    (reading_then (λ m. IfOk c.read_four.result (λ lists. four_of lists ≡ four_at (links_at p.mask m) all own (collecting_at p m c.args.base)))
    c.in_ok-collecting.ensures c.read_four.ensures
    (λ m a b. said four_of c.read_four.result (four_at (links_at p.mask m) c.deref.result.now own c.in_ok-collecting.collecting)
    (four_at (links_at p.mask m) all own (collecting_at p m c.args.base))
    (ap (λ hs. four_at (links_at p.mask m) hs own c.in_ok-collecting.collecting) (c.deref.ensures.value ∙ c.in_ok-heads.ensures)
    ∙ ap (λ r. four_at (links_at p.mask m) all own r) a) b))
    (one_more_of_all c.read_four.result) (λ m h. h)
