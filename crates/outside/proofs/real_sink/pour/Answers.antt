use Rattle.std.proofs.Common.{◌≡◌, ◌-◌, take, drop, length, subst, sym, ap, ◌∙◌, arith, take_all, length-drop}
use Rattle.outside.proofs.Poured.{IsPoured, poured-more, poured-kept, poured-front}
use Rattle.outside.proofs.real_sink.pour.Goals as goal
use Rattle.outside.proofs.real_sink.pour.Goals.{in-Ok, in-Err+else-ne}

pub returns-in-Ok-eq0 : goal.returns-in-Ok-eq0
returns-in-Ok-eq0 g c = poured-front _ _ _ _ (poured-more _ _ _ _ _ _ c.loop.invariant c.in-Ok-eq0.ensures.bytes)

pub returns-then-ne : goal.returns-then-ne
returns-then-ne g c = poured-front _ _ _ _ (poured-kept _ _ _ _ _ c.loop.invariant c.in-Err.ensures.bytes)

pub loop-preserved : goal.loop-preserved
loop-preserved g c =
    let old = g.W.Write.contents c.args.stream.now in
    let new = g.W.Write.contents c.write.new.self in
    let bytes = c.args.bytes.now in
    elim c.match-write.branch [
      | in-Ok w ↦
          let n = w.in-Ok.count in
          let rest = c.loop.rest.now in
          let whole : take (length rest - n) (drop n rest) ≡ drop n rest = take_all _ _ (omega (arith, length-drop n rest)) in
          let same : c.match-write.rest.now ≡ drop n rest = ap (λ r. r.now) w.rest-is ∙ whole in
          subst (λ t. IsPoured old new bytes t) (sym same) (poured-more _ _ _ _ _ _ c.loop.invariant w.in-Ok.ensures.bytes)
      | in-Err+else-ne w ↦
          let same : c.match-write.rest.now ≡ c.loop.rest.now = ap (λ r. r.now) w.rest-is in
          subst (λ t. IsPoured old new bytes t) (sym same) (poured-kept _ _ _ _ _ c.loop.invariant w.in-Err.ensures.bytes)
    ]

pub returns : goal.returns
returns g c = poured-front _ _ _ _ c.loop.invariant
