-- Where the collector's lists stand, by version: `struct _gc_runtime_state` of Include/internal/mem.h (3.7),
-- Include/internal/pycore_pymem.h (3.8) and Include/internal/pycore_gc.h (from 3.9 on), and `PyGC_Head` of
-- Include/objimpl.h. The numbers are those of the builds' debug information, 3.13's those of 3.13.0.
use Rattle.std.specs.Prelude.{ℕ, ◌+◌, ◌-◌, ◌^◌, nat_eq, ◌||◌, Bool, true, false, if◌then◌else◌, Option, Some, None}
use Rattle.gc_lists.specs.declared.places.Home.TheVariants.{Runtime, Interpreter}
use Rattle.gc_lists.specs.declared.places.ListPlaces.{ListPlaces}

-- all bits of a link but the two lowest, which hold marks
abbrev pub all_but_two : ℕ
all_but_two = 2 ^ 64 - 4

-- where 3.7 has the collector's lists (`_PyRuntimeState.gc`)
abbrev pub runtime_of_3_7 : ListPlaces
runtime_of_3_7 = record {
  home = Runtime;
  generations = 352;
  generation_size = 48;
  permanent = 512;
  collecting = 632;
  head_size = 32;
  mask = 2 ^ 64 - 1;
  heads_are_checked = false;
}

-- where 3.8 has the collector's lists (`_PyRuntimeState.gc`)
abbrev pub runtime_of_3_8 : ListPlaces
runtime_of_3_8 = record {
  home = Runtime;
  generations = 368;
  generation_size = 24;
  permanent = 448;
  collecting = 544;
  head_size = 16;
  mask = all_but_two;
  heads_are_checked = false;
}

-- from 3.9 on: the permanent generation and the word of a collection stand in one place behind the generations
abbrev pub in_interpreter : (generations : ℕ) → Bool → ListPlaces
in_interpreter generations checked = record {
  home = Interpreter;
  generations = generations;
  generation_size = 24;
  permanent = generations + 80;
  collecting = generations + 176;
  head_size = 16;
  mask = all_but_two;
  heads_are_checked = checked;
}

-- where Python 3 has the collector's lists, by its minor version
abbrev pub places_of_3 : (minor : ℕ) → Option ListPlaces
places_of_3 minor =
    if nat_eq minor 7 then Some runtime_of_3_7
    else (if nat_eq minor 8 then Some runtime_of_3_8
    else (if nat_eq minor 9 || nat_eq minor 10 then Some (in_interpreter 640 false)
    else (if nat_eq minor 11 then Some (in_interpreter 672 false)
    else (if nat_eq minor 12 then Some (in_interpreter 136 false)
    else (if nat_eq minor 13 then Some (in_interpreter 7424 true)
    else None)))))

-- where the lists of a version stand
abbrev pub list_places : (major minor : ℕ) → Option ListPlaces
list_places major minor = if nat_eq major 3 then places_of_3 minor else None
