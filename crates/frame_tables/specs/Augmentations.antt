-- The augmentation of a common information entry, by the LSB's page on exception frames. Which letters are taken, and
-- which encodings a handler's pointer may have, are this project's rules; `B` and its meaning (the key of signed return
-- addresses) are those of the DWARF of the 64-bit Arm architecture.
use Rattle.std.specs.Prelude.{ℕ, ◌+◌, ◌-◌, ◌/◌, ◌%◌, nat_lt, nat_eq, ◌||◌, ◌==◌, List, [], ◌∷◌, length, take}
use Rattle.std.specs.Prelude.{if◌then◌else◌}
use Rattle.std.specs.Prelude.{Option, Some, None, Result, Ok, Err, true, false}
use Rattle.frame_tables.specs.declared.augmentation.Augmentation.{Augmentation}
use Rattle.frame_tables.specs.declared.augmentation.Marks.{Marks}
use Rattle.frame_tables.specs.declared.part.Part.{Part}
use Rattle.frame_tables.specs.declared.flaw.RecordFlaw.{RecordFlaw}
use Rattle.frame_tables.specs.declared.flaw.RecordFlaw.TheVariants.{Cut, Augmentation as Strange, Encoding}
use Rattle.frame_tables.specs.Fields.{read_then, byte_at, block_at}

-- how many bytes a pointer of an encoding has: by its lower half, where the upper one doesn't align it
abbrev pub pointer_size : ℕ → Option ℕ
pointer_size encoding =
    if encoding / 16 % 8 == 5 then None
    else if encoding % 16 == 0 || encoding % 16 == 4 || encoding % 16 == 12 then Some 8
    else if encoding % 16 == 2 || encoding % 16 == 10 then Some 2
    else if encoding % 16 == 3 || encoding % 16 == 11 then Some 4
    else None

-- what stands behind a pointer of so many bytes
abbrev pub behind_pointer : (length at encoding : ℕ) → Option ℕ → Result ℕ RecordFlaw
behind_pointer length at encoding None = Err (Encoding encoding)
behind_pointer length at encoding (Some size) = if nat_lt (length - at - 1) size then Err Cut else Ok (at + 1 + size)

-- a handler's encoding and its pointer
abbrev pub behind_handler : List ℕ → ℕ → Result ℕ RecordFlaw
behind_handler body at =
    read_then (byte_at body at) (λ encoding. behind_pointer (length body) at encoding (pointer_size encoding))

-- what one more letter says
abbrev pub letter_at : List ℕ → ℕ → Marks → Result Marks RecordFlaw
letter_at body letter m =
    if letter == 82 then read_then (byte_at body m.next) (λ byte.
    Ok (record { encoding = byte; is_signal = m.is_signal; next = m.next + 1 }))
    else if letter == 76 then read_then (byte_at body m.next) (λ byte. Ok (record m { next = m.next + 1 }))
    else if letter == 80 then read_then (behind_handler body m.next) (λ next. Ok (record m { next = next }))
    else if letter == 83 then Ok (record m { is_signal = true })
    else if letter == 66 then Ok m
    else Err (Strange letter)

-- what the letters say, one behind the other
abbrev pub letters_from : List ℕ → List ℕ → Marks → Result Marks RecordFlaw
letters_from body [] m = Ok m
letters_from body (letter ∷ text) m = read_then (letter_at body letter m) (letters_from body text)

-- an augmentation that has no data
abbrev pub plain : ℕ → Augmentation
plain at = record { is_sized = false; encoding = 0; is_signal = false; end = at }

-- one whose data have a size, of these letters
abbrev pub lettered : List ℕ → List ℕ → Part → Result Augmentation RecordFlaw
lettered body letters block =
    read_then
    (letters_from (take block.end body) letters (record { encoding = 0; is_signal = false; next = block.start }))
    (λ m. Ok (record { is_sized = true; encoding = m.encoding; is_signal = m.is_signal; end = block.end }))

-- the augmentation of a text that begins with `z`: its data have a size, and its other letters say what they are
abbrev pub augmentation_in : List ℕ → List ℕ → ℕ → Result Augmentation RecordFlaw
augmentation_in body letters at = read_then (block_at body at) (lettered body letters)

-- that of a text: it is empty, or begins with `z`
abbrev pub augmentation_at : List ℕ → List ℕ → ℕ → Result Augmentation RecordFlaw
augmentation_at body [] at = Ok (plain at)
augmentation_at body (first ∷ letters) at =
    if nat_eq first 122 then augmentation_in body letters at else Err (Strange first)
