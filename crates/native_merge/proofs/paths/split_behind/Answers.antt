use Rattle.std.proofs.Common.{◌≡◌, ◌-◌, ℕ, List, length, take, drop, ap, subst, ◌∙◌}
use Rattle.std.specs.Prelude.{◌==◌, not}
use Rattle.std.specs.List.{suffix_len}
use Rattle.std.specs.Str.{IsCharBoundary}
use Rattle.native_merge.proofs.Parts.{start_is, start_border}
use Rattle.native_merge.proofs.paths.split_behind.Goals as goal
use Rattle.native_merge.proofs.paths.split_behind.Goals.{After-split_at}

pub split_at-requires : goal.split_at-requires
split_at-requires c =
    let e = c.last_start.ensures in
    subst (λ (bs : List ℕ). IsCharBoundary bs c.last_start.result) c.as_bytes.ensures.value
    (start_border c.as_bytes.result.now c.args.mark c.last_start.result c.as_bytes.ensures.utf8 c.requires e.within e.found)

place : (c : After-split_at) → c.last_start.result ≡ length c.args.text.now - suffix_len (λ b. not (b == c.args.mark)) c.args.text.now
place c =
    let e = c.last_start.ensures in
    subst (λ (bs : List ℕ). c.last_start.result ≡ length bs - suffix_len (λ b. not (b == c.args.mark)) bs) c.as_bytes.ensures.value
    (start_is c.as_bytes.result.now c.args.mark c.last_start.result e.within e.after e.found)

pub returns-clause-front : goal.returns-clause-front
returns-clause-front c = c.split_at.ensures.front ∙ ap (λ n. take n c.args.text.now) (place c)

pub returns-clause-rest : goal.returns-clause-rest
returns-clause-rest c = c.split_at.ensures.back ∙ ap (λ n. drop n c.args.text.now) (place c)
