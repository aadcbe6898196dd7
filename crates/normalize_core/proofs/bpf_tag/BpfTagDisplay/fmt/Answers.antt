use Rattle.std.proofs.Common.{◌≡◌, ◌<◌, length, rules, arith, ap}
use Rattle.std.proofs.Output.{has_written_append, has_written_of_eq}
use Rattle.std.proofs.lemmas.List.{take_all}
use Rattle.normalize_core.specs.Tags.{tag_text}
use Rattle.normalize_core.proofs.TagTexts.{tag_text-more}
use Rattle.normalize_core.proofs.bpf_tag.BpfTagDisplay.fmt.Goals as goal

pub loop-byte-preserved : goal.loop-byte-preserved
loop-byte-preserved g c = λ p.
    let bytes = c.args.self.now.0 in
    let eight : length bytes ≡ 8 = search rules in
    let lt : c.loop-byte.byte-index < length bytes = omega (arith, eight, c.loop-byte-test.true) in
    has_written_of_eq _ _ _ _ _ (tag_text-more bytes c.loop-byte.byte-index lt)
    (has_written_append _ _ _ _ _ _ (c.loop-byte.invariant p) (search rules))

pub returns-clause-writes : goal.returns-clause-writes
returns-clause-writes g c = λ p ok.
    let bytes = c.args.self.now.0 in
    let eight : length bytes ≡ 8 = search rules in
    has_written_of_eq _ _ _ _ _ (ap tag_text (take_all c.loop-byte.byte-index bytes (omega (arith, eight, c.loop-byte-test.false))))
    (c.loop-byte.invariant p)
