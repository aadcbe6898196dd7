-- What is left of an opened process.
use Rattle.std.proofs.Common.{◌≡◌, ◌≢◌, ℕ, List, [], ◌∷◌, refl, sym, ap, subst, ◌∙◌}
use Rattle.std.specs.Prelude.{Bool, Option, Result, Ok, Err, is_some}
use Rattle.elf64_core.specs.declared.header.Machine.{Machine}
use Rattle.elf64_core.specs.Header.{machine_of}
use Rattle.image_memory.specs.Backed.{regions_of}
use Rattle.image_memory.specs.Images.{Pushed}
use Rattle.image_memory.specs.MapTables.{tests}
use Rattle.image_memory.specs.Maps.{in_maps}
use Rattle.image_memory.specs.declared.maps.CoreMapRange.{CoreMapRange}
use Rattle.process_memory.specs.Memory.{Memory, byte_at}
use Rattle.py_fields.specs.declared.layout.Layout.{Layout}
use Rattle.py_fields.specs.declared.version.Version.{Version}
use Rattle.py_stacks.specs.declared.asked.Asked.{Asked}
use Rattle.py_stacks.specs.declared.error.StackError.{StackError}
use Rattle.py_process.specs.Facts.{Known, known_of}
use Rattle.py_records.specs.declared.table.RecordTable.{RecordTable}
use Rattle.py_records.specs.Versions.{records_of}
use Rattle.memory_sections.specs.Told.{AreMemoryTold}
use Rattle.memory_sections.specs.declared.told.MemoryTold.{MemoryTold}
use Rattle.py_fronts.specs.declared.search.Looked.{Looked}
use Rattle.py_fronts.specs.Answers.{IsOrNoMemory}
use Rattle.py_fronts.specs.Salvaged.{SalvagedShown, salvaged_result}
use Rattle.heap_search.specs.Salvaged.{salvaged_or_searched}
use Rattle.heap_search.proofs.SalvageSteps.{crash_kept}
use Rattle.py_fronts.specs.declared.crash.Crash.{Crash}
use Rattle.py_fronts.specs.declared.salvaged.Salvaged.{Salvaged}
use Rattle.py_fronts.specs.declared.salvaged.SalvagedInterpreter.{SalvagedInterpreter}
use Rattle.salvage_words.specs.Salvage.{Salvage}
use Rattle.local_values.specs.Addresses.{shown_addresses}
use Rattle.repr_json.specs.declared.shown.ShownValues.{ShownValues}
use Rattle.shown_values.specs.Values.{AreShown}
use Rattle.salvage_report.specs.declared.cause.Cause.TheVariants.{NoInterpreter}
use Rattle.salvage_report.specs.declared.left.Left.{Left}
use Rattle.salvage_report.specs.declared.sections.Told.{Told}
use Rattle.core_stacks.specs.declared.process.Process.{Process}
use Rattle.salvage_report.specs.Crashed.{CrashTold}
use Rattle.core_stacks.specs.Process.{IsProcessOf, OpenedProcess, opened_of}
use Rattle.salvage_report.specs.Outcome.{IsLeft, IsLeftOf, Outcome, SearchesBy, asked_of, shown_or_none}
use Rattle.py_selftest.specs.declared.checking.LayoutCheck.{LayoutCheck}
use Rattle.salvage_report.specs.LayoutChecked.{CheckIs, process_checked}
use Rattle.salvage_report.specs.Sections.{AreTold}
use Rattle.salvage_report.specs.Seen.{IsSalvaged, Salvages}
use Rattle.salvage_report.specs.Texts.{shown_left}

pub salvages_by : (s : Salvage) (p : Process) (crash : Option Crash) (segments : List CoreMapRange) (pointers : List ℕ)
    (result : Result Salvaged StackError) → SearchesBy p.dump.core segments pointers
    → IsOrNoMemory (salvaged_or_searched (tests p.info.maps) (machine_of p.dump.core) (known_of p.info) p.version
    p.layout (byte_at (regions_of p.dump)) (asked_of s) s.limit crash segments pointers) (salvaged_result result)
    → Salvages s p crash result
salvages_by s p crash segments pointers (Ok salvaged) by h =
    record { segments = segments; pointers = pointers; by = by; is = h }
salvages_by s p crash segments pointers (Err e) by h = h

nothing_shown : (is : List SalvagedInterpreter) (n : Looked) (t : List ℕ) → is ≡ []
    → ◌≡◌ {A = Outcome} (Err (NoInterpreter n.addresses n.members)) (shown_or_none is n t)
nothing_shown is n t none = ap (λ xs. shown_or_none xs n t) (sym none)

something_shown : (is : List SalvagedInterpreter) (n : Looked) (t : List ℕ) → is ≢ []
    → ◌≡◌ {A = Outcome} (Ok t) (shown_or_none is n t)
something_shown [] n t some = absurd (some refl)
something_shown (i ∷ is) n t some = refl

module _ (s : Salvage) (ts : List RecordTable) (p : Process) (crash : Option Crash) (salvaged : Salvaged)
    (found : IsSalvaged s p crash salvaged)
    (bytes : List ℕ) (images : Pushed) (is : IsProcessOf bytes p)
    (told : CrashTold bytes crash)
    (sections : Told) (are : AreTold s.sections p.dump.core p.notes.process salvaged.interpreters.items sections)
    (check : Option LayoutCheck)
    (checks : CheckIs s.sections.check_layout p.dump.core (process_checked p salvaged.interpreters.items) check)
    (memory : MemoryTold) (reads : AreMemoryTold s.sections s.locals p.dump.core images (known_of p.info)
    p.version p.layout
    (records_of ts p.version) (byte_at (regions_of p.dump)) salvaged.interpreters.items memory)
    (values : ShownValues)
    (shows : AreShown s.json memory.values (shown_addresses salvaged.interpreters.items) values)
    (named : Bool) (names : named ≡ is_some p.untold) where
  abbrev opened : OpenedProcess
  opened = opened_of is.maps p

  abbrev left : Left
  left = record {
    signal = p.notes.signal;
    process = p.notes.process;
    version = p.version;
    named = named;
    salvaged = salvaged;
    told = sections;
    check = check;
    memory = memory;
    values = values;
  }

  abbrev over : (ℕ → Bool) → List ℕ → Option Crash → SalvagedShown
  over contains core c =
      salvaged_or_searched contains (machine_of core) (known_of p.info) p.version p.layout (byte_at (regions_of p.dump))
      (asked_of s) s.limit c found.segments found.pointers

  handed : salvaged.crash ≡ crash
  handed = ap (λ (x : SalvagedShown). x.crash) found.is
      ∙ crash_kept (tests p.info.maps) (machine_of p.dump.core) (known_of p.info) p.version p.layout
      (byte_at (regions_of p.dump)) (asked_of s) s.limit crash found.segments found.pointers

  is_left : IsLeft s ts bytes images opened left
  is_left = record {
    version_is = refl;
    named_is = names;
    notes = is.notes;
    crash = subst (CrashTold bytes) (sym handed) told;
    segments = found.segments;
    pointers = found.pointers;
    by = subst (λ core. SearchesBy core found.segments found.pointers) is.same found.by;
    salvaged = found.is ∙ ap (λ t. over t p.dump.core crash) is.tested
        ∙ ap (λ b. over (in_maps is.maps) b crash) is.same ∙ ap (over (in_maps is.maps) bytes) (sym handed);
    told = subst (λ core. AreTold s.sections core p.notes.process salvaged.interpreters.items sections) is.same are;
    check = subst (λ core. CheckIs s.sections.check_layout core (process_checked p salvaged.interpreters.items) check)
        is.same checks;
    memory = subst (λ core. AreMemoryTold s.sections s.locals core images (known_of p.info) p.version p.layout
        (records_of ts p.version) (byte_at (regions_of p.dump)) salvaged.interpreters.items memory) is.same reads;
    values = shows;
  }

  pub none_left : salvaged.interpreters.items ≡ []
      → IsLeftOf s ts bytes images opened (Err (NoInterpreter salvaged.looked.addresses salvaged.looked.members))
  none_left none =
      (left, is_left, nothing_shown salvaged.interpreters.items salvaged.looked (shown_left s left) none)

  pub some_left : (text : List ℕ) → salvaged.interpreters.items ≢ [] → text ≡ shown_left s left
      → IsLeftOf s ts bytes images opened (Ok text)
  some_left text some shown = (
    left,
    is_left,
    ap (λ t. Ok t) shown ∙ something_shown salvaged.interpreters.items salvaged.looked (shown_left s left) some,
  )
