use Rattle.std.proofs.Common.{◌≡◌, true, false, length, rules, ap, ◌∙◌, subst}
use Rattle.std.specs.Prelude.{Some, cond, is_some, option_copied}
use Rattle.normalize_core.specs.Normal.{Asked, IsMetaOf}
use Rattle.normalize_core.specs.Numbered.{number_in}
use Rattle.normalize_core.specs.Shown.{target_shown}
use Rattle.normalize_core.specs.Targets.{target_at, target_in, same_target, covering}
use Rattle.normalize_core.proofs.Meeting.{met-again, met-more}
use Rattle.normalize_core.proofs.metas.Metas.meet.Goals as goal

pub returns-then-is_some : goal.returns-then-is_some
returns-then-is_some c = λ met h.
    let q = c.args.query.now in
    let entry : option_copied c.covering-entry.result ≡ covering q.entries c.args.addr =
    c.covering-entry.ensures.is ∙ ap (λ (a : Asked). covering a.entries c.args.addr) c.query.view_is in
    let target : target_shown c.target-target.result ≡ target_at q.entries q.map_files c.args.addr =
    c.target-target.ensures ∙ ap (λ e. target_in c.query.inside.map_files e) c.covering-entry.ensures.is
    ∙ ap (λ (a : Asked). target_at a.entries a.map_files c.args.addr) c.query.view_is in
    let some : is_some (number_in c.args.self.now.numbers (target_at q.entries q.map_files c.args.addr)) ≡ true = cc in
    met-again q met c.args.addr c.args.self.now h some

pub returns : goal.returns
returns c = λ met h.
    let q = c.args.query.now in
    let entry : option_copied c.covering-entry.result ≡ covering q.entries c.args.addr =
    c.covering-entry.ensures.is ∙ ap (λ (a : Asked). covering a.entries c.args.addr) c.query.view_is in
    let target : target_shown c.target-target.result ≡ target_at q.entries q.map_files c.args.addr =
    c.target-target.ensures ∙ ap (λ e. target_in c.query.inside.map_files e) c.covering-entry.ensures.is
    ∙ ap (λ (a : Asked). target_at a.entries a.map_files c.args.addr) c.query.view_is in
    let some : is_some (number_in c.args.self.now.numbers (target_at q.entries q.map_files c.args.addr)) ≡ false = cc in
    let is = subst (λ t. IsMetaOf q (covering q.entries c.args.addr) t c.in_ok-meta.meta) target
    (subst (λ e. IsMetaOf q e (target_shown c.target-target.result) c.in_ok-meta.meta) entry c.in_ok-meta.ensures) in
    met-more q met c.args.addr c.args.self.now (record { numbers = c.insert.new.self; list = c.push.new.self }) c.in_ok-meta.meta h some is
    c.in_ok-push.ensures.items
    (λ u.
    let len : c.len.result ≡ length c.args.self.now.list.items = search rules in
    let old = number_in c.args.self.now.numbers u in
    c.in_ok-insert.ensures u
    ∙ ap (λ t. cond (same_target t u) (Some c.len.result) old) target
    ∙ ap (λ n. cond (same_target (target_at q.entries q.map_files c.args.addr) u) (Some n) old) len)
