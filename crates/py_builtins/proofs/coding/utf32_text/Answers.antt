use Rattle.std.proofs.Common.{◌≡◌, ◌∙◌, ap, take, length, map, arith, rules}
use Rattle.std.specs.Int.{w32, from_le_bytes}
use Rattle.std.proofs.Math.Seq.{take-length}
use Rattle.py_builtins.proofs.Codings.{answers_utf32, no_utf32, one_more, one_pushed, scalars_end}
use Rattle.py_builtins.proofs.coding.utf32_text.Goals as goal

pub returns-in-None : goal.returns-in-None
returns-in-None c = no_utf32 c.args.bytes.now c.as_chunks.result.0.now c.as_chunks.ensures.front c.loop-code.code-index c.from_le_bytes.result c.loop-code-test.true c.from_le_bytes.ensures c.in-None.ensures.value

pub loop-code-preserved : goal.loop-code-preserved
loop-code-preserved c =
    let more = one_more c.as_chunks.result.0.now c.loop-code.code-index c.from_le_bytes.result c.loop-code-test.true c.from_le_bytes.ensures in
    let pushed = rw c.in-Some.ensures.value.1 at c.in_ok-push-in-Some.ensures.bytes in
    record {
      spelled = rw more (one_pushed _ _ _ c.from_le_bytes.result c.loop-code.invariant.spelled pushed);
      scalars = rw more (scalars_end (map (from_le_bytes w32) (take c.loop-code.code-index c.as_chunks.result.0.now)) c.from_le_bytes.result c.loop-code.invariant.scalars c.in-Some.ensures.value.0);
    }

pub returns : goal.returns
returns c =
    let end : c.loop-code.code-index ≡ length c.as_chunks.result.0.now = omega arith in
    let whole : take c.loop-code.code-index c.as_chunks.result.0.now ≡ c.as_chunks.result.0.now = ap (λ n. take n c.as_chunks.result.0.now) end ∙ take-length c.as_chunks.result.0.now in
    answers_utf32 c.args.bytes.now c.as_chunks.result.0.now c.as_chunks.ensures.front _ _ c.in_ok-shared.ensures (rw whole at c.loop-code.invariant.spelled) (rw whole at c.loop-code.invariant.scalars) c.requires (search rules)
