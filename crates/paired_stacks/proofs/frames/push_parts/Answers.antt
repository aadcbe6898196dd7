use Rattle.std.proofs.Common.{◌∙◌, ◌++◌, ◌∷◌, ◌+◌, [], ap, append-nil, drop, sym}
use Rattle.paired_stacks.specs.Frames.{part_of, parts_from}
use Rattle.paired_stacks.proofs.Following.{part_more, parts_end, parts_next}
use Rattle.paired_stacks.proofs.frames.push_parts.Goals as goal

pub loop-native-preserved : goal.loop-native-preserved
loop-native-preserved c =
    let fs = c.args.frames.now in
    let i = c.loop-native.native-index in
    let f = c.native-item.result in
    let own = c.args.own in
    let from = c.loop-native.from in
    let before = c.loop-native.parts.items in
    part_more before _ (part_of own from f ∷ []) (parts_from own f.frame.cfa (drop (i + 1) fs)) _ _
    (parts_next own from fs i f c.loop-native-test.true c.native-item.is) c.loop-native.invariant
    (c.in_ok-push.ensures.items ∙ ap (λ p. before ++ p ∷ []) c.part_of.ensures)

pub returns : goal.returns
returns c =
    let told = c.loop-native.parts.items in
    sym (append-nil told)
    ∙ ap (λ ts. told ++ ts) (sym (parts_end c.args.own c.loop-native.from c.args.frames.now c.loop-native.native-index
    c.loop-native-test.false))
    ∙ c.loop-native.invariant
