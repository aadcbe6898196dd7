use Rattle.std.proofs.Common.{◌≡◌, ◌+◌, ◌++◌, ◌∷◌, [], Err, filter, map, length, drop, ap, subst, sym, ◌∙◌, rules, eq-eqb}
use Rattle.std.specs.Option.{option_or}
use Rattle.std.proofs.lemmas.Result.{err_from_is_err_and}
use Rattle.std.proofs.lemmas.Iterator.Consumers.{YieldsList-from_first}
use Rattle.elf64_core.specs.Header.{segments_of}
use Rattle.elf64_core.specs.Rest.{segments_left}
use Rattle.image_memory.specs.Contents.{SegmentsSay}
use Rattle.image_memory.specs.FileTables.{file_entry_of}
use Rattle.image_memory.specs.Maps.{entry_for}
use Rattle.image_memory.specs.Notes.{is_note}
use Rattle.image_memory.specs.declared.dump_error.DumpError.TheVariants.{BadNote}
use Rattle.image_memory.proofs.Refusals.{error_is}
use Rattle.image_memory.proofs.Told.{SegmentsSay-more, bad_core, entry_for-append}
use Rattle.image_memory.proofs.Turns.{filter_at, turn_splits}
use Rattle.image_memory.proofs.contents.read_notes.Goals as goal

pub returns-in_err-said-clause-bad : goal.returns-in_err-said-clause-bad
returns-in_err-said-clause-bad c = λ is.
    let bytes = c.args.elf.now in
    let segment = c.in-Some.segment in
    let xs = c.loop-segment.yielded in
    let p = err_from_is_err_and c.from_residual.result c.from_residual.ensures.1 in
    let bad = c.in_err-said.ensures.bad (ap (λ x. Err x) (sym p.2 ∙ error_is c.from_residual.result p.0 BadNote p.1 is)) in
    let e = YieldsList-from_first (λ y. y) segments_left {s = c.into_iter-segment-iterator.result} (segments_of bytes) (search rules) in
    let all = turn_splits e xs c.loop-segment.segment-iterator c.loop-segment.yielded_by c.next.result c.next.new.self segment c.in-Some.is c.next.ensures.steps in
    let rest = drop (length xs + 1) (segments_of bytes) in
    let those = ap (filter is_note) all ∙ filter_at is_note xs rest segment (eq-eqb _ _ c.if-segment-eq-NOTE.true) in
    bad_core bytes (filter is_note xs) (filter is_note rest) segment those bad

pub loop-segment-preserved-then-segment-eq-NOTE : goal.loop-segment-preserved-then-segment-eq-NOTE
loop-segment-preserved-then-segment-eq-NOTE c =
    let bytes = c.args.elf.now in
    let segment = c.in-Some.segment in
    let xs = c.loop-segment.yielded in
    let told = c.loop-segment.told in
    let said = c.in_ok-said.said in
    let all = c.in_ok-told.told in
    let before = c.loop-segment.invariant in
    let own = map file_entry_of said.entries.items in
    let entries = before.entries ++ own in
    let more : SegmentsSay bytes (filter is_note xs ++ segment ∷ []) (told.statuses.items ++ said.statuses.items) (option_or said.process told.process) entries =
    SegmentsSay-more bytes (filter is_note xs) segment told.statuses.items said.statuses.items told.process said.process before.entries own before.say c.in_ok-said.ensures.say in
    let those : filter is_note (xs ++ segment ∷ []) ≡ filter is_note xs ++ segment ∷ [] = filter_at is_note xs [] segment (eq-eqb _ _ c.if-segment-eq-NOTE.true) in
    record {
      entries = entries;
      say = subst (λ ss. SegmentsSay bytes ss all.statuses.items all.process entries) (sym those)
          (subst (λ st. SegmentsSay bytes (filter is_note xs ++ segment ∷ []) st all.process entries) (sym c.in_ok-told.ensures.statuses)
          (subst (λ pr. SegmentsSay bytes (filter is_note xs ++ segment ∷ []) (told.statuses.items ++ said.statuses.items) pr entries) (sym c.in_ok-told.ensures.process) more));
      last_are = λ addr. c.in_ok-told.ensures.last addr ∙ ap (option_or (entry_for own addr)) (before.last_are addr)
          ∙ sym (entry_for-append before.entries own addr);
    }
