use Rattle.std.proofs.Common.{◌+◌, filter, length, drop, ap, sym, ◌∙◌, rules, eq-eqb}
use Rattle.std.proofs.lemmas.Iterator.Consumers.{YieldsList-from_first}
use Rattle.elf64_core.specs.Header.{segments_of}
use Rattle.elf64_core.specs.Rest.{segments_left}
use Rattle.image_memory.specs.Notes.{is_note}
use Rattle.image_memory.proofs.Turns.{filter_at, more_than_none, turn_splits}
use Rattle.image_memory.proofs.contents.has_notes.Goals as goal

pub returns-then-segment-eq-NOTE : goal.returns-then-segment-eq-NOTE
returns-then-segment-eq-NOTE c = λ none.
    let bytes = c.args.elf.now in
    let segment = c.in-Some.segment in
    let xs = c.loop-segment.yielded in
    let e = YieldsList-from_first (λ y. y) segments_left {s = c.into_iter-segment-iterator.result} (segments_of bytes) (search rules) in
    let all = turn_splits e xs c.loop-segment.segment-iterator c.loop-segment.yielded_by c.next.result c.next.new.self segment c.in-Some.is c.next.ensures.steps in
    let rest = drop (length xs + 1) (segments_of bytes) in
    let those = ap (filter is_note) all ∙ filter_at is_note xs rest segment (eq-eqb _ _ c.if-segment-eq-NOTE.true) in
    more_than_none (filter is_note xs) (filter is_note rest) segment (sym those ∙ none)
