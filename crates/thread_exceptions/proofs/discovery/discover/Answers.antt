use Rattle.std.proofs.Common.{◌<◌, ◌≡◌, ◌+◌, ◌∷◌, [], ◌∙◌, ap, arith, length, length-append}
use Rattle.std.proofs.lemmas.Result.{err_from_is_err_and}
use Rattle.process_memory.proofs.Reading.{reading_none}
use Rattle.thread_exceptions.specs.Exceptions.{what_at}
use Rattle.thread_exceptions.proofs.Discoveries.{discovering_end, discovering_fails, discovering_init, discovering_push}
use Rattle.thread_exceptions.proofs.discovery.discover.Goals as goal

pub returns-in_err-add_all : goal.returns-in_err-add_all
returns-in_err-add_all g c =
    let p = err_from_is_err_and c.from_residual.result c.from_residual.ensures.1 in
    rw p.1 (reading_none _ _ _ (λ m. tt))

pub all-init : goal.all-init
all-init g c = (
  c.in_ok-add_all.ensures.same,
  rw c.new-all.ensures.items (discovering_init (λ m. what_at c.args.places.now m) c.args.limit c.args.roots.now _ _
      (rw c.new.ensures.items at c.in_ok-add_all.ensures.added)),
)

pub all-smaller : goal.all-smaller
all-smaller g c =
    let longer : length c.push.new.self.items ≡ length c.all.all.items + 1 = ap length c.in_ok-push.ensures.items
    ∙ length-append c.all.all.items _ in
    omega (arith, longer, c.all.all.ok.0, c.all.found.addrs.ok.0, c.all.invariant.1.within)

pub all-preserved : goal.all-preserved
all-preserved g c =
    let lt : length c.all.all.items < length c.all.found.addrs.items = omega
    (arith, c.all.all.ok.0, c.all.found.addrs.ok.0) in (
      c.in_ok-add_leads.ensures.same,
      discovering_push c.all.all.items _ _ _ c.index-addr.result.now _ c.len-number.result c.all.invariant.1 lt
          (omega (arith, c.all.all.ok.0)) c.index-addr.ensures
          c.in_ok-add_leads.ensures.added c.in_ok-what.ensures c.in_ok-push.ensures.items,
    )

pub returns-in_err-what : goal.returns-in_err-what
returns-in_err-what g c =
    let p = err_from_is_err_and c.from_residual-in_err-what.result c.from_residual-in_err-what.ensures.1 in
    let lt : length c.all.all.items < length c.all.found.addrs.items = omega
    (arith, c.all.all.ok.0, c.all.found.addrs.ok.0) in
    rw p.1 (discovering_fails c.all.all.items _ c.all.invariant.1 lt c.in_err-what.ensures (omega arith) (λ m. tt))

pub returns-in_err-add_leads : goal.returns-in_err-add_leads
returns-in_err-add_leads g c =
    let p = err_from_is_err_and c.from_residual-in_err-add_leads.result c.from_residual-in_err-add_leads.ensures.1 in
    let lt : length c.all.all.items < length c.all.found.addrs.items = omega
    (arith, c.all.all.ok.0, c.all.found.addrs.ok.0) in
    rw p.1 (discovering_fails c.all.all.items _ c.all.invariant.1 lt c.in_ok-what.ensures (omega arith) (λ m. tt))

pub returns-in_err-push : goal.returns-in_err-push
returns-in_err-push g c =
    let p = err_from_is_err_and c.from_residual-in_err-push.result c.from_residual-in_err-push.ensures.1 in
    let lt : length c.all.all.items < length c.all.found.addrs.items = omega
    (arith, c.all.all.ok.0, c.all.found.addrs.ok.0) in
    rw p.1 (discovering_fails c.all.all.items _ c.all.invariant.1 lt c.in_ok-what.ensures (omega arith) (λ m. tt))

pub returns : goal.returns
returns g c = discovering_end c.all.all.items c.all.invariant.1 (omega (arith, c.all.all.ok.0, c.all.found.addrs.ok.0))
