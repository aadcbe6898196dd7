use Rattle.std.proofs.Common.{subst}
use Rattle.std.specs.BTreeMap.{keys}
use Rattle.std.proofs.lemmas.Result.{err_from_is_err_and}
use Rattle.object_reach.specs.Objects.{IsNamed}
use Rattle.object_reach.specs.Front.{Overfills}
use Rattle.object_reach.proofs.Members.{map_added}
use Rattle.object_reach.proofs.Searches.{fewer_left, still_apart}
use Rattle.process_memory.proofs.Reading.{reading_here}
use Rattle.object_reach.proofs.Searching.{searching_init, searching_popped, searching_next, searching_done, roots_stop}
use Rattle.object_reach.proofs.Searching.{read_stop, lost_stop, children_stop, listed_stop}
use Rattle.object_reach.proofs.search.search.Goals as goal

pub returns-in_err-add_all : goal.returns-in_err-add_all
returns-in_err-add_all g c =
    let p = err_from_is_err_and c.from_residual.result c.from_residual.ensures.1 in
    rw p.1 (roots_stop c.args.layout.now c.args.roots.now _ c.new-done.result.entries c.new-pending.result.keys p.0 c.new-done.ensures.empty c.new-pending.ensures.empty
    (λ is. c.in_err-add_all.ensures.limit (let a = p.2 in cc)))

pub search-init : goal.search-init
search-init g c =
    searching_init c.args.layout.now c.args.roots.now _ c.new-done.result.entries c.new-pending.result.keys c.add_all.new.pending.keys c.new-done.ensures.empty c.new-pending.ensures.empty c.in_ok-add_all.ensures.added

pub returns-in_err-found : goal.returns-in_err-found
returns-in_err-found g c =
    let p = err_from_is_err_and c.from_residual-in_err-found.result c.from_residual-in_err-found.ensures.1 in
    rw p.1 (read_stop p.0 (searching_popped c.in-Some.ensures.removal c.search.invariant) (rw p.2 c.in_err-found.ensures))

pub returns-in_default-insert : goal.returns-in_default-insert
returns-in_default-insert g c = lost_stop c.in_ok-found.found (searching_popped c.in-Some.ensures.removal c.search.invariant) c.in_ok-found.ensures

pub add_all-requires-in-Some-clause-apart : goal.add_all-requires-in-Some-clause-apart
add_all-requires-in-Some-clause-apart g c =
    let front = reading_here (searching_popped c.in-Some.ensures.removal c.search.invariant).reading in
    still_apart (keys c.search.done) (keys c.insert.new.self) c.pop_first.new.self.keys c.in-Some.addr front.apart c.in-Some.ensures.all_above
    (map_added c.search.done c.insert.new.self c.in-Some.addr c.in_ok-found.found.broken c.in-Ok.ensures.updates)

pub returns-in_err-add_all-2 : goal.returns-in_err-add_all-2
returns-in_err-add_all-2 g c =
    let p = err_from_is_err_and c.from_residual-in_err-add_all-2.result c.from_residual-in_err-add_all-2.ensures.1 in
    let members = map_added c.search.done c.insert.new.self c.in-Some.addr c.in_ok-found.found.broken c.in-Ok.ensures.updates in
    rw p.1 (children_stop c.in_ok-found.found p.0 c.insert.new.self.entries (searching_popped c.in-Some.ensures.removal c.search.invariant) c.in_ok-found.ensures members
    (λ is. subst (λ ws. Overfills (keys c.insert.new.self) c.pop_first.new.self.keys (IsNamed ws)) c.deref.ensures.value
    (c.in_err-add_all-2.ensures.limit (let a = p.2 in cc))))

pub search-smaller : goal.search-smaller
search-smaller g c =
    let front = reading_here (searching_popped c.in-Some.ensures.removal c.search.invariant).reading in
    fewer_left c.search.done.entries c.insert.new.self.entries c.pop_first.new.self.keys c.in-Some.addr c.in_ok-found.found.broken front.apart front.fits c.in-Ok.ensures.entries

pub search-preserved : goal.search-preserved
search-preserved g c =
    let members = map_added c.search.done c.insert.new.self c.in-Some.addr c.in_ok-found.found.broken c.in-Ok.ensures.updates in
    searching_next c.in_ok-found.found c.insert.new.self.entries c.add_all-in-Some.new.pending.keys c.deref.result.now (searching_popped c.in-Some.ensures.removal c.search.invariant) c.in_ok-found.ensures
    c.in-Ok.ensures.entries members c.in-Ok.ensures.ordered c.deref.ensures.value c.in_ok-add_all-2.ensures.added

pub returns : goal.returns
returns g c =
    searching_done c.in_ok-listed.field-0.items c.search.invariant (λ h. let no = c.in_default.ensures.variant.1 h in cc) c.in_ok-listed.ensures

pub returns-in_err-listed : goal.returns-in_err-listed
returns-in_err-listed g c =
    let p = err_from_is_err_and c.from_residual-in_err-listed.result c.from_residual-in_err-listed.ensures.1 in
    rw p.1 (listed_stop p.0 p.2 c.search.invariant)
