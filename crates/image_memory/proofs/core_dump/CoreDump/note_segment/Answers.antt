use Rattle.std.proofs.Common.{◌≡◌, ℕ, ◌<◌, List, Some, ap, get_or, length, refl, subst, sym, ◌∙◌}
use Rattle.std.specs.Prelude.{option_map}
use Rattle.std.proofs.lemmas.Option.{slice_get-map, slice_get_read}
use Rattle.elf64_core.specs.Header.{IsInside}
use Rattle.elf64_core.specs.declared.segment.Segment.{Segment}
use Rattle.image_memory.specs.Contents.{AreContents}
use Rattle.image_memory.specs.Notes.{note_segments, segment_bytes}
use Rattle.image_memory.proofs.Held.{held_note}
use Rattle.image_memory.proofs.core_dump.CoreDump.note_segment.Goals as goal

-- an element that was read of a list of the same elements
read_of : (xs ys : List Segment) (i : ℕ) (x : Segment) → xs ≡ ys → i < length xs → x ≡ get_or xs i x
    → (i < length ys) × (x ≡ get_or ys i x)
read_of xs ys i x is lt at = subst (λ zs. (i < length zs) × (x ≡ get_or zs i x)) is (lt, at)

pub bytes_of_segment-requires : goal.bytes_of_segment-requires
bytes_of_segment-requires c =
    let core = subst (λ bs. AreContents bs c.self.inside.contents) c.self.view_is c.self.invariant in
    let at = read_of _ _ c.args.index c.in_ok-segment.segment.now (c.deref.ensures.value ∙ core.notes_are)
    c.in_ok-segment.ensures.lookup.3.0 c.in_ok-segment.ensures.lookup.1 in
    let same = c.deref-2.ensures.value ∙ c.self.view_is in
    subst (λ bs. IsInside bs c.in_ok-segment.segment.now.offset c.in_ok-segment.segment.now.file_size) (sym same)
    (held_note c.args.self.now core.core.accepted.readable c.args.index c.in_ok-segment.segment.now at.0 at.1)

pub returns : goal.returns
returns c =
    let core = subst (λ bs. AreContents bs c.self.inside.contents) c.self.view_is c.self.invariant in
    let at = read_of _ _ c.args.index c.in_ok-segment.segment.now (c.deref.ensures.value ∙ core.notes_are)
    c.in_ok-segment.ensures.lookup.3.0 c.in_ok-segment.ensures.lookup.1 in
    let same = c.deref-2.ensures.value ∙ c.self.view_is in
    ap (λ bytes. Some bytes) (c.bytes_of_segment.ensures ∙ ap (λ bs. segment_bytes bs c.in_ok-segment.segment.now) same)
    ∙ ap (option_map (segment_bytes c.args.self.now)) (sym (slice_get_read (note_segments c.args.self.now)
    (length (note_segments c.args.self.now)) c.args.index c.in_ok-segment.segment.now refl at.0 at.1))
    ∙ sym (slice_get-map (segment_bytes c.args.self.now) (note_segments c.args.self.now) c.args.index)
