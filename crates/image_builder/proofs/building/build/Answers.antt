use Rattle.std.proofs.Common.{refl, ◌≡◌, ◌∙◌, ◌<◌, ◌^◌, ℕ, List, [], ◌∷◌, ap, length, arith, subst, sym}
use Rattle.std.specs.Prelude.{Some, None, Ok, ◌↔◌}
use Rattle.elf64_core.specs.Header.{machine_of}
use Rattle.image_memory.specs.Cores.{IsCore}
use Rattle.image_memory.specs.Maps.{AreMaps}
use Rattle.image_memory.specs.Notes.{AreCoreNotes, AreStatuses, IsProcess}
use Rattle.image_memory.specs.Pieces.{memory_of}
use Rattle.memory_builder.specs.Laid.{owner_place}
use Rattle.memory_builder.specs.Mirror.{program_in}
use Rattle.memory_builder.specs.Sizes.{program_size}
use Rattle.image_builder.specs.Built.{built_core, built_image, built_lock, built_objects, built_words}
use Rattle.image_builder.specs.CoreFacts.{built_maps, built_memory, built_process, built_programs, built_status}
use Rattle.image_builder.specs.CoreFiles.{core_file, image_path as path_of_image}
use Rattle.image_builder.specs.Covered.{number_of, told_version}
use Rattle.image_builder.specs.ImageFiles.{image_file}
use Rattle.image_builder.specs.RuntimeWords.{interpreter_at, runtime_words}
use Rattle.image_builder.proofs.CoreBack.{core_is, core_machine, core_memory_is, core_notes_are, maps_are, process_is}
use Rattle.image_builder.proofs.CoreBack.{statuses_are}
use Rattle.py_process.specs.Binary.{HasInfo, SaysFacts}
use Rattle.image_builder.specs.ImageFacts.{image_facts, image_known}
use Rattle.image_builder.proofs.ImageBack.{image_info, image_says}
use Rattle.process_memory.specs.Memory.{Region, byte_at}
use Rattle.image_memory.specs.Backed.{IsBackedMemory, backed_memory_of}
use Rattle.image_memory.specs.Images.{Pushed}
use Rattle.py_process.specs.Lock.{lock_address_of}
use Rattle.py_stacks.specs.StacksOver.{AreStacksOver}
use Rattle.object_builder.specs.Placing.{Stands}
use Rattle.memory_builder.specs.Laid.{owner_id}
use Rattle.memory_builder.specs.ReadBack.{IsPlace, TellsInterpreter, TellsOwner, TellsStacks}
use Rattle.memory_builder.specs.Told.{program_told}
use Rattle.memory_builder.proofs.Alone.{owner_alone}
use Rattle.image_builder.proofs.OwnerBack.{lock_names}
use Rattle.py_process.specs.Sources.{FirstTells, sources_of}
use Rattle.image_builder.proofs.FoundBack.{is_first}
use Rattle.image_builder.proofs.KnownBack.{known_is, programs_are}
use Rattle.image_memory.specs.Mmap.{whole_view}
use Rattle.py_process.specs.Programs.{IsKnown}
use Rattle.image_builder.proofs.MemoryBack.{image_there, in_each, no_holder, none_alone, none_at_zero, number_there}
use Rattle.image_builder.proofs.MemoryBack.{objects_there, words_there}
use Rattle.image_builder.proofs.Numbers.{number_fits, number_is, version_told}
use Rattle.image_builder.proofs.ToldVersions.{told_covers, told_lock, told_room, told_words}
use Rattle.image_builder.proofs.WordsBack.{head_back, lock_back, version_back}
use Rattle.image_builder.proofs.Lengths.{length-core, length-image, length-words}
use Rattle.image_builder.specs.RuntimeWords.{HasWordRoom}
use Rattle.image_builder.proofs.InverseBack.{IsWritten, finds_by, has_frames, is_readable, is_report}
use Rattle.image_builder.proofs.NotesBack.{core_entry, three_notes}
use Rattle.object_builder.specs.Room.{HasRoom}
use Rattle.py_stacks.specs.Lines.{family_of}
use Rattle.image_builder.proofs.building.build.Goals as goal

-- the core is of such parts
core_built : (c : goal.After-drop-objects-2) → c.in_ok-core.core.items
    ≡ built_core c.args.layout.now c.args.version.now c.args.machine (program_in c.args.program.now)
core_built c =
    let image = c.deref.ensures.value ∙ c.in_ok-image.ensures ∙ ap (image_file c.args.machine) c.number_of.ensures in
    let words = c.deref-2.ensures.value ∙ c.in_ok-words.ensures
    ∙ ap (runtime_words c.args.layout.now c.args.machine c.args.version.now) c.in_ok-holder.ensures in
    let objects = c.deref-3.ensures.value ∙ c.in_ok-objects.ensures.laid in
    c.in_ok-core.ensures ∙ (λ i. core_file c.args.machine (image i) (words i) (objects i))

core_short : (c : goal.After-drop-objects-2) → length (built_core c.args.layout.now c.args.version.now c.args.machine
    (program_in c.args.program.now)) < 2 ^ 63
core_short c = omega (arith, ap length (core_built c), c.in_ok-core.core.ok.0, c.in_ok-core.core.small)

module _ (c : goal.After-drop-objects-2) where
  abbrev image : List ℕ
  image = built_image c.args.version.now c.args.machine

  abbrev words : List ℕ
  words = built_words c.args.layout.now c.args.version.now c.args.machine (program_in c.args.program.now)

  abbrev objects : List ℕ
  objects = built_objects c.args.layout.now (program_in c.args.program.now)

  image_len : length image ≡ 0x2000
  image_len = length-image c.args.machine (number_of c.args.version.now)

  words_len : length words ≡ 0x2_0000
  words_len = length-words c.args.layout.now c.args.machine c.args.version.now
      (owner_place c.args.layout.now interpreter_at (program_in c.args.program.now)) c.requires

pub returns-clause-accepted : goal.returns-clause-accepted
returns-clause-accepted c = subst IsCore (sym (core_built c))
    (core_is c.args.machine (image c) (words c) (objects c) (image_len c) (words_len c) (core_short c))

pub returns-clause-machine : goal.returns-clause-machine
returns-clause-machine c = ap machine_of (core_built c) ∙ core_machine c.args.machine (image c) (words c) (objects c)
    (image_len c) (words_len c) (core_short c)

pub returns-clause-memory : goal.returns-clause-memory
returns-clause-memory c =
    let image_is : c.in_ok-image.image.items ≡ image c = c.in_ok-image.ensures
    ∙ ap (image_file c.args.machine) c.number_of.ensures in
    ap memory_of (core_built c) ∙ core_memory_is c.args.machine (image c) (words c) (objects c) (image_len c)
    (words_len c) (core_short c)
    ∙ ap (λ xs. built_memory xs (words c) (objects c)) (sym image_is)

pub returns-clause-maps : goal.returns-clause-maps
returns-clause-maps c = subst (λ xs. AreMaps xs (built_maps (length (objects c)))) (sym (core_built c))
    (maps_are c.args.machine (image c) (words c) (objects c) (image_len c) (words_len c) (core_short c))

pub returns-clause-statuses : goal.returns-clause-statuses
returns-clause-statuses c = subst (λ xs. AreStatuses xs (built_status ∷ [])) (sym (core_built c))
    (statuses_are c.args.machine (image c) (words c) (objects c) (image_len c) (words_len c) (core_short c))

pub returns-clause-process : goal.returns-clause-process
returns-clause-process c = subst (λ xs. IsProcess xs (Some built_process)) (sym (core_built c))
    (process_is c.args.machine (image c) (words c) (objects c) (image_len c) (words_len c) (core_short c))

image_built : (c : goal.After-drop-objects-2) → c.in_ok-image.image.items
    ≡ built_image c.args.version.now c.args.machine
image_built c = c.in_ok-image.ensures ∙ ap (image_file c.args.machine) c.number_of.ensures

pub returns-clause-parsed : goal.returns-clause-parsed
returns-clause-parsed c = subst (λ xs. HasInfo xs 0x40_0000) (sym (image_built c))
    (image_info c.args.machine (number_of c.args.version.now))

pub returns-clause-facts : goal.returns-clause-facts
returns-clause-facts c = subst (λ xs. SaysFacts xs 0x40_0000 0x2000 image_facts) (sym (image_built c))
    (image_says c.args.machine (number_of c.args.version.now))

pub returns-clause-programs : goal.returns-clause-programs
returns-clause-programs c = programs_are (length (objects c))

pub returns-clause-known : goal.returns-clause-known
returns-clause-known c =
    let path = c.in_ok-of.ensures ∙ c.image_path.ensures in
    subst (λ p. IsKnown ((p, whole_view c.in_ok-image.image.items) ∷ []) built_programs image_known) (sym path)
    (subst (λ xs. IsKnown ((path_of_image, whole_view xs) ∷ []) built_programs image_known) (sym (image_built c))
    (known_is c.args.machine (number_of c.args.version.now)))

pub returns-clause-version : goal.returns-clause-version
returns-clause-version c = λ number is. version_told c.args.version.now number c.in_ok-admit.ensures.covered.numbered is

module _ (c : goal.After-drop-objects-2) (images : Pushed) (regions : List Region)
    (is : IsBackedMemory c.in_ok-core.core.items images regions) where
  backed : IsBackedMemory (built_core c.args.layout.now c.args.version.now c.args.machine
      (program_in c.args.program.now)) images regions
  backed = subst (λ xs. IsBackedMemory xs images regions) (core_built c) is

  in_regions : (a : ℕ) (bytes : List ℕ) → Stands (byte_at (built_memory (image c) (words c) (objects c))) a bytes
      → Stands (byte_at regions) a bytes
  in_regions = in_each c.args.machine (image c) (words c) (objects c) (image_len c) (words_len c)
      (core_short c) images regions backed

  image_stand : Stands (byte_at regions) 0x40_0000 (image c)
  image_stand = in_regions 0x40_0000 (image c) (image_there (image c) (words c) (objects c) (image_len c) (words_len c))

  words_stand : Stands (byte_at regions) 0x50_0000 (words c)
  words_stand = in_regions 0x50_0000 (words c) (words_there (image c) (words c) (objects c) (image_len c) (words_len c))

  -- they are those of the version that is told
  told_stand : Stands (byte_at regions) 0x50_0000 (runtime_words c.args.layout.now c.args.machine
      (told_version c.args.version.now) (owner_place c.args.layout.now interpreter_at (program_in c.args.program.now)))
  told_stand = subst (Stands (byte_at regions) 0x50_0000) (told_words c.args.layout.now c.args.machine c.args.version.now
      (owner_place c.args.layout.now interpreter_at (program_in c.args.program.now))) words_stand

  none_zero : byte_at regions 0 ≡ None
  none_zero = none_at_zero c.args.machine (image c) (words c) (objects c) (image_len c) (words_len c)
      (core_short c) images regions backed

  objects_stand : Stands (byte_at regions) interpreter_at (objects c)
  objects_stand =
      let built = c.in_ok-admit.ensures in
      let size : length (objects c) ≡ program_size c.args.layout.now (program_in c.args.program.now) =
      ap length (sym c.in_ok-objects.ensures.laid) ∙ c.in_ok-objects.ensures.size in
      in_regions interpreter_at (objects c) (objects_there (image c) (words c) (objects c) (image_len c) (words_len c)
      (omega (arith, built.room, size)))

pub returns-clause-told : goal.returns-clause-told
returns-clause-told c = λ images regions is.
    let v = c.args.version.now in
    let numbered = c.in_ok-admit.ensures.covered.numbered in
    let number = number_is v numbered in
    let told = version_back (byte_at regions) (number_of v) (number_fits v (number_of v) numbered number)
    (number_there c.args.machine (number_of v) (image_stand c images regions is)) in
    subst (λ w. FirstTells (byte_at regions) (sources_of image_known) (Ok (Some w)))
    (version_told v (number_of v) numbered number) told

pub returns-clause-head : goal.returns-clause-head
returns-clause-head c = λ room images regions is.
    head_back c.args.layout.now c.requires (byte_at regions) (told_version c.args.version.now) c.args.machine
    (owner_place c.args.layout.now interpreter_at (program_in c.args.program.now))
    (told_room c.args.layout.now c.args.machine c.args.version.now room) (told_stand c images regions is)

pub returns-clause-objects : goal.returns-clause-objects
returns-clause-objects c = λ images regions is. objects_stand c images regions is

place_is : IsPlace interpreter_at
place_is = record { some = omega arith; even = refl }

pub returns-clause-found : goal.returns-clause-found
returns-clause-found c = λ room word_room images regions is.
    let l = c.args.layout.now in
    let v = told_version c.args.version.now in
    let p = program_in c.args.program.now in
    let there = objects_stand c images regions is in
    let size : length (objects c) ≡ program_size l p
    = ap length (sym c.in_ok-objects.ensures.laid) ∙ c.in_ok-objects.ensures.size in
    let tells = subst (TellsInterpreter l interpreter_at) c.in_ok-objects.ensures.laid
    (c.in_ok-objects.ensures.interpreter room place_is) in
    let head = head_back l c.requires (byte_at regions) v c.args.machine (owner_place l interpreter_at p)
    (told_room l c.args.machine c.args.version.now word_room) (told_stand c images regions is) in
    is_first l c.requires room (byte_at regions) p c.in_ok-admit.ensures.valid (length (objects c)) size there
    (tells.passes (byte_at regions) there) v head

pub returns-clause-named : goal.returns-clause-named
returns-clause-named c = λ room word_room images regions is.
    let l = c.args.layout.now in
    let v = told_version c.args.version.now in
    let tells = subst (TellsInterpreter l interpreter_at) c.in_ok-objects.ensures.laid
    (c.in_ok-objects.ensures.interpreter room place_is) in
    let named = lock_back l c.requires (byte_at regions) v c.args.machine
    (owner_place l interpreter_at (program_in c.args.program.now)) (told_room l c.args.machine c.args.version.now word_room)
    (told_stand c images regions is) (λ at e. tells.lock (byte_at regions) (objects_stand c images regions is) at e) in
    subst (λ lock. lock_address_of c.args.machine image_known v l (byte_at regions) interpreter_at ≡ Ok lock)
    (told_lock l c.args.version.now c.args.machine ∙ sym c.lock_address.ensures) named

pub returns-clause-stacks : goal.returns-clause-stacks
returns-clause-stacks c = λ room word_room images regions is config traces.
    let l = c.args.layout.now in
    let v = c.args.version.now in
    let p = program_in c.args.program.now in
    let there = objects_stand c images regions is in
    let owner = subst (TellsOwner l interpreter_at p) c.in_ok-objects.ensures.laid
    (c.in_ok-objects.ensures.owner room place_is) in
    let told = subst (TellsStacks l interpreter_at p) c.in_ok-objects.ensures.laid
    (c.in_ok-objects.ensures.stacks room place_is) in
    let names = lock_names l c.requires (byte_at regions) v c.args.machine p c.in_ok-admit.ensures.covered word_room
    (words_stand c images regions is) (omega (arith, c.in_ok-holder.ensures)) there owner in
    let right = told (byte_at regions) (record { stands = there; none = none_zero c images regions is }) config
    (built_lock l v c.args.machine) (owner_id p) names traces in
    subst (λ lock. AreStacksOver config l (byte_at regions) lock interpreter_at traces ↔
    (traces ≡ program_told config l interpreter_at (owner_id p) p)) (sym c.lock_address.ensures) right

pub returns-clause-small : goal.returns-clause-small
returns-clause-small c =
    let l = c.args.layout.now in
    let p = program_in c.args.program.now in
    let built = c.in_ok-admit.ensures in
    let core = ap length c.in_ok-core.ensures ∙ length-core c.args.machine c.deref.result.now c.deref-2.result.now
    c.deref-3.result.now in
    let image = ap length (c.deref.ensures.value ∙ c.in_ok-image.ensures)
    ∙ length-image c.args.machine c.number_of.result in
    let words = ap length (c.deref-2.ensures.value ∙ c.in_ok-words.ensures)
    ∙ length-words l c.args.machine c.args.version.now c.in_ok-holder.holder c.requires in
    let objects = ap length (c.deref-3.ensures.value) ∙ c.in_ok-objects.ensures.size in
    omega (arith, built.room, core, image, words, objects)

-- ---- all of it

-- the pieces of memory that the core and some images have
abbrev pieces_with : goal.After-drop-objects-2 → Pushed → List Region
pieces_with c images = backed_memory_of c.in_ok-core.core.items (core_entry ∷ []) images

backed_with : (c : goal.After-drop-objects-2) (images : Pushed)
    → IsBackedMemory c.in_ok-core.core.items images (pieces_with c images)
backed_with c images = record {
  notes = three_notes;
  entries = core_entry ∷ [];
  found = subst (λ xs. AreCoreNotes xs three_notes (core_entry ∷ [])) (sym (core_built c))
      (core_notes_are c.args.machine (image c) (words c) (objects c) (image_len c) (words_len c) (core_short c));
  says = refl;
}

module _ (c : goal.After-drop-objects-2) (images : Pushed) (known : IsKnown images built_programs image_known)
    (room : HasRoom c.args.layout.now) (word_room : HasWordRoom c.args.layout.now c.args.machine c.args.version.now)
  where
    abbrev pieces : List Region
    pieces = pieces_with c images

    abbrev the_lock : ℕ
    the_lock = built_lock c.args.layout.now c.args.version.now c.args.machine

    is_backed : IsBackedMemory c.in_ok-core.core.items images pieces
    is_backed = backed_with c images

    written : IsWritten c.in_ok-core.core.items images c.args.layout.now (told_version c.args.version.now)
        (program_in c.args.program.now) the_lock
    written =
        let l = c.args.layout.now in
        let v = told_version c.args.version.now in
        let p = program_in c.args.program.now in
        let m = byte_at pieces in
        record {
          core_is = returns-clause-accepted c;
          dumped = record { maps = built_maps (length (objects c)); pieces = pieces };
          is_dumped = record { are_maps = returns-clause-maps c; memory = is_backed };
          programs = programs_are (length (objects c));
          known = known;
          covers = told_covers l c.args.version.now c.in_ok-admit.ensures.covered.covers;
          told = returns-clause-told c images pieces is_backed;
          first = returns-clause-found c room word_room images pieces is_backed;
          named = subst (λ machine. lock_address_of machine image_known v l m interpreter_at ≡ Ok the_lock)
              (sym (returns-clause-machine c))
              (subst (λ lock. lock_address_of c.args.machine image_known v l m interpreter_at ≡ Ok lock)
              c.lock_address.ensures (returns-clause-named c room word_room images pieces is_backed));
          stacks = λ config traces. subst (λ lock. AreStacksOver config l m lock interpreter_at traces ↔
              (traces ≡ program_told config l interpreter_at (owner_id p) p)) c.lock_address.ensures
              (returns-clause-stacks c room word_room images pieces is_backed config traces);
          statuses = returns-clause-statuses c;
          process = returns-clause-process c;
          alone = owner_alone (family_of l.lines) p c.in_ok-admit.ensures.valid;
        }

pub returns-clause-finds : goal.returns-clause-finds
returns-clause-finds c = λ room word_room.
    let l = c.args.layout.now in
    let v = told_version c.args.version.now in
    finds_by c.in_ok-core.core.items _ l v (program_in c.args.program.now) _ (built_lock l c.args.version.now c.args.machine)
    c.lock_address.ensures (written c _ (returns-clause-known c) room word_room)

pub returns-clause-readable : goal.returns-clause-readable
returns-clause-readable c = λ room word_room.
    let l = c.args.layout.now in
    let v = told_version c.args.version.now in
    is_readable c.in_ok-core.core.items _ l v (program_in c.args.program.now) (built_lock l c.args.version.now c.args.machine)
    (written c _ (returns-clause-known c) room word_room)

pub returns-clause-frames : goal.returns-clause-frames
returns-clause-frames c = λ room word_room.
    let l = c.args.layout.now in
    let v = told_version c.args.version.now in
    has_frames c.in_ok-core.core.items _ l v (program_in c.args.program.now) (built_lock l c.args.version.now c.args.machine)
    (written c _ (returns-clause-known c) room word_room)

pub returns-clause-report : goal.returns-clause-report
returns-clause-report c = λ room word_room.
    let l = c.args.layout.now in
    let v = told_version c.args.version.now in
    is_report c.in_ok-core.core.items _ l v (program_in c.args.program.now) (built_lock l c.args.version.now c.args.machine)
    (written c _ (returns-clause-known c) room word_room)

pub returns-clause-alone : goal.returns-clause-alone
returns-clause-alone c = λ room.
    let l = c.args.layout.now in
    let p = program_in c.args.program.now in
    let memory : memory_of c.in_ok-core.core.items ≡ built_memory (image c) (words c) (objects c) =
    ap memory_of (core_built c)
    ∙ core_memory_is c.args.machine (image c) (words c) (objects c) (image_len c) (words_len c) (core_short c) in
    let size : length (objects c) ≡ program_size l p =
    ap length (sym c.in_ok-objects.ensures.laid) ∙ c.in_ok-objects.ensures.size in
    let there = objects_there (image c) (words c) (objects c) (image_len c) (words_len c)
    (omega (arith, c.in_ok-admit.ensures.room, size)) in
    let told = subst (TellsStacks l interpreter_at p) c.in_ok-objects.ensures.laid
    (c.in_ok-objects.ensures.stacks room place_is) in
    record {
      is_core = returns-clause-accepted c;
      stacks = λ config traces. subst (λ rs. AreStacksOver config l (byte_at rs) 0 interpreter_at traces
          ↔ (traces ≡ program_told config l interpreter_at 0 p)) (sym memory)
          (told (byte_at (built_memory (image c) (words c) (objects c)))
          (record { stands = there; none = none_alone (image c) (words c) (objects c) }) config 0 0
          (no_holder l (byte_at (built_memory (image c) (words c) (objects c)))) traces);
    }
