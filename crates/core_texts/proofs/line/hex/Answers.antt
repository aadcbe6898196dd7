use Rattle.std.proofs.Common.{sym, subst, ◌/◌, ◌-◌, arith}
use Rattle.std.specs.Prelude.{slice_set}
use Rattle.core_texts.proofs.Hex.{IsSpelt, start, step}
use Rattle.core_texts.proofs.line.hex.Goals as goal

pub loop-rest-init : goal.loop-rest-init
loop-rest-init c =
    subst (λ g. IsSpelt c.args.n c.args.n 15 (slice_set c.args.buf.now 15 g)) (sym c.glyph.ensures) (start c.args.n c.args.buf.now (omega (arith, c.ranges.n)) c.told-buf)

pub loop-rest-preserved : goal.loop-rest-preserved
loop-rest-preserved c =
    subst (λ g. IsSpelt c.args.n (c.loop-rest.rest / 16) (c.loop-rest.at - 1) (slice_set c.loop-rest.buf (c.loop-rest.at - 1) g)) (sym c.glyph-in-loop-rest.ensures)
    (step c.args.n c.loop-rest.rest c.loop-rest.at c.loop-rest.buf c.loop-rest.invariant c.loop-rest-test.true)
