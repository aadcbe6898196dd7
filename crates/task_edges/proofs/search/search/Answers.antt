use Rattle.std.proofs.Common.{◌≡◌, ◌<◌, ◌≤◌, ◌∙◌, [], ◌∷◌, ◌++◌, ap, arith, get_or, length, subst}
use Rattle.std.proofs.lemmas.List.{get_or_default}
use Rattle.task_edges.specs.Edges.{sources_in}
use Rattle.task_edges.specs.Leading.{AddsTo, before}
use Rattle.task_edges.proofs.Searching.{first_same, searching_done, searching_init, searching_more, searching_over}
use Rattle.task_edges.proofs.Sets.{set_added}
use Rattle.task_edges.proofs.search.search.Goals as goal

pub search-init : goal.search-init
search-init c =
    let is : c.push.new.self.items ≡ c.args.target ∷ [] =
    c.in_ok-push.ensures.items ∙ ap (λ xs. xs ++ c.args.target ∷ []) c.new-list.ensures.items in
    searching_init (before (sources_in c.args.index.now) c.args.tasks.now.keys) c.args.target c.args.limit
    c.push.new.self.items c.insert.new.self.keys is
    (first_same c.args.target c.new-met.result.keys c.insert.new.self.keys c.push.new.self.items c.new-met.ensures.empty is
    (set_added c.new-met.result c.insert.new.self c.args.target c.in_ok-insert.ensures.updates))

pub returns-then-number-limit : goal.returns-then-number-limit
returns-then-number-limit c =
    let lt : c.search.number < length c.search.list.items =
    omega (arith, c.search-test.true, c.len.ensures, c.search.list.ok.0) in
    searching_over c.search.invariant lt c.if-number-limit.true

pub search-preserved : goal.search-preserved
search-preserved c =
    let list = c.search.list.items in
    let lt : c.search.number < length list = omega (arith, c.search-test.true, c.len.ensures, c.search.list.ok.0) in
    let at : c.index-at.result.now ≡ get_or list c.search.number 0 =
    c.index-at.ensures ∙ get_or_default list c.search.number c.index-at.result.now 0 lt in
    searching_more c.expand.new.list.items c.expand.new.met.keys c.search.invariant lt c.if-number-limit.false
    (subst (λ a. AddsTo list (before (sources_in c.args.index.now) c.args.tasks.now.keys a) c.expand.new.list.items) at
    c.in_ok-expand.ensures.added)
    c.in_ok-expand.ensures.same

pub returns : goal.returns
returns c =
    let all : length c.search.list.items ≤ c.search.number =
    omega (arith, c.search-test.false, c.len.ensures, c.search.list.ok.0) in
    searching_done c.search.invariant all
