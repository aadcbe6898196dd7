use Rattle.std.proofs.Common.{◌≡◌, map, ap, subst, sym, arith, ◌∙◌}
use Rattle.elf64_core.specs.Header.{machine_of}
use Rattle.elf64_core.specs.declared.segment.Segment.{Segment}
use Rattle.image_memory.specs.Contents.{AreTold}
use Rattle.image_memory.specs.Notes.{AreCoreNotes, note_segments}
use Rattle.image_memory.specs.Maps.{map_by, named_by, file_place_by, placed_by}
use Rattle.piece_table.specs.Places.{IsBounded}
use Rattle.image_memory.specs.Pieces.{core_range, loads_of}
use Rattle.std.specs.Prelude.{All}
use Rattle.image_memory.proofs.Lists.{map-same}
use Rattle.image_memory.proofs.Held.{core_fits}
use Rattle.image_memory.proofs.contents.read_core.Goals as goal

pub returns-clause-are : goal.returns-clause-are
returns-clause-are c =
    let bytes = c.args.bytes.now in
    let told = c.in_ok-told.told in
    let same : c.in_ok-elf.elf ≡ bytes = c.in_ok-elf.ensures.same in
    let noted = c.in_ok-elf.ensures.noted in
    let are : AreTold bytes (note_segments bytes) told = subst (λ bs. AreTold bs (note_segments bs) told) same c.in_ok-told.ensures.told in
    let notes = are.say.notes in
    let entries = are.entries in
    let found : AreCoreNotes bytes notes entries = record { together = are.say.together; whole = are.say.whole; tables = are.say.tables } in
    let loads : c.in_ok-loads.loads.items ≡ loads_of bytes = c.in_ok-loads.ensures ∙ ap loads_of same in
    let named = λ (s : Segment). ap (λ e. named_by e s) (are.last_are s.addr) in
    let placed = λ (s : Segment). ap placed_by (are.last_are s.addr) in
    record {
      fits = omega arith;
      core = record { accepted = noted.accepted; noted = noted.noted; notes = notes; entries = entries; found = found };
      machine_is = c.machine.ensures ∙ ap machine_of same;
      loads_are = loads;
      notes_are = c.in_ok-notes.ensures ∙ ap note_segments same;
      table_is = c.in_ok-table.ensures ∙ ap (map core_range) (c.deref.ensures.value ∙ loads);
      maps_are = record {
        notes = notes;
        entries = entries;
        found = found;
        says = c.in_ok-maps.ensures ∙ map-same _ (map_by entries) _ named ∙ ap (map (map_by entries)) (c.deref-2.ensures.value ∙ loads);
      };
      places_are = record {
        notes = notes;
        entries = entries;
        found = found;
        says = c.in_ok-places.ensures ∙ map-same _ (file_place_by entries) _ placed ∙ ap (map (file_place_by entries)) (c.deref-3.ensures.value ∙ loads);
      };
      statuses_are = record { notes = notes; entries = entries; found = found; says = are.say.statuses_are };
      process_is = record { notes = notes; entries = entries; found = found; says = are.say.process_is };
    }

pub table_of-requires : goal.table_of-requires
table_of-requires c =
    let bytes = c.args.bytes.now in
    let same : c.in_ok-elf.elf ≡ bytes = c.in_ok-elf.ensures.same in
    let loads = c.deref.ensures.value ∙ c.in_ok-loads.ensures ∙ ap loads_of same in
    subst (λ ls. All IsBounded (map core_range ls)) (sym loads) (core_fits bytes (omega arith) c.in_ok-elf.ensures.noted.accepted.readable)
