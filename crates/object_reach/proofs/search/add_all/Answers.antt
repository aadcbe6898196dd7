use Rattle.std.proofs.Common.{◌≡◌, ◌+◌, ◌⊎◌, take, get_or, inl, inr, refl, sym, ◌∙◌}
use Rattle.std.proofs.lemmas.Result.{err_from_is_err_and}
use Rattle.std.specs.BTreeMap.{keys}
use Rattle.object_reach.specs.Objects.{IsNamed}
use Rattle.object_reach.proofs.Fronts.{named_more, named_kept, named_now, named_whole, adds_like, adds_more}
use Rattle.object_reach.proofs.Fronts.{overfills_more}
use Rattle.object_reach.proofs.search.add_all.Goals as goal
use Rattle.object_reach.proofs.search.add_all.Goals.{then-word-ne-NULL+in_ok-add, else-word-ne-NULL}

pub returns-in_err-add-clause-limit : goal.returns-in_err-add-clause-limit
returns-in_err-add-clause-limit c = λ h.
    let p = err_from_is_err_and c.from_residual.result c.from_residual.ensures.1 in
    let i = c.loop-word.word-index in
    let ws = c.args.words.now in
    overfills_more (keys c.args.done.now) c.args.pending.now.keys c.loop-word.pending.keys (IsNamed (take i ws)) (IsNamed ws) (get_or ws i 0)
    c.loop-word.invariant
    (λ q. named_whole ws i q)
    (named_whole ws (i + 1) (get_or ws i 0) (named_now ws i c.loop-word-test.true (get_or ws i 0) refl c.if-word-ne-NULL.true))
    (c.in_err-add.ensures.limit (let a = p.1 in let b = p.2 in cc))

pub loop-word-preserved : goal.loop-word-preserved
loop-word-preserved c =
    let i = c.loop-word.word-index in
    let ws = c.args.words.now in
    let done = keys c.args.done.now in
    let old = c.args.pending.now.keys in
    elim c.if-word-ne-NULL.branch [
      | then-word-ne-NULL+in_ok-add w ↦ rw w.pending-is
          (adds_like done old w.add.new.pending.keys (λ q. IsNamed (take i ws) q ⊎ (q ≡ get_or ws i 0)) (IsNamed (take (i + 1) ws))
          (λ q h. elim h [ inl e ↦ named_kept ws i c.loop-word-test.true q e | inr e ↦ named_now ws i c.loop-word-test.true q e (λ z. w.if-word-ne-NULL.true (sym e ∙ z)) ])
          (λ q h. elim (named_more ws i c.loop-word-test.true q h) [ inl e ↦ inl e | inr e ↦ inr e.0 ])
          (adds_more done old c.loop-word.pending.keys w.add.new.pending.keys (IsNamed (take i ws)) (get_or ws i 0) c.loop-word.invariant w.in_ok-add.ensures.added))
      | else-word-ne-NULL w ↦ rw w.pending-is
          (adds_like done old c.loop-word.pending.keys (IsNamed (take i ws)) (IsNamed (take (i + 1) ws))
          (λ q h. named_kept ws i c.loop-word-test.true q h)
          (λ q h. elim (named_more ws i c.loop-word-test.true q h) [ inl e ↦ e | inr e ↦ absurd (e.1 (e.0 ∙ w.if-word-ne-NULL.false)) ])
          c.loop-word.invariant)
    ]
