-- What status 0 tells where a core is asked for.
use Rattle.std.proofs.Common.{◌≡◌, ◌≢◌, ℕ, List, [], ◌∷◌, ◌++◌, Ok, Err}
use Rattle.std.proofs.Common.{Some, None, inl, inr, ap, sym, subst, true, false, refl, ne_eqb, ◌∙◌}
use Rattle.std.specs.Prelude.{Option, Bool, Vec, codes, nat_eq, not}
use Rattle.std.specs.Global.{Global}
use Rattle.std.specs.Io.KnownBytes.{Appends}
use Rattle.std.proofs.lemmas.Option.{same_Some}
use Rattle.outside.specs.Files.{Told}
use Rattle.outside.specs.Streams.{SinkSeen}
use Rattle.elf64_core.specs.Header.{machine_of}
use Rattle.crash_signal.specs.Signals.{signal_told}
use Rattle.thread_registers.specs.Threads.{threads_told}
use Rattle.py_fields.specs.declared.layout.Layout.{Layout}
use Rattle.py_layout.specs.File.{IsRightFor}
use Rattle.py_fields.specs.declared.version.Version.{Version}
use Rattle.py_process.specs.Facts.{Known}
use Rattle.py_records.specs.Versions.{records_of}
use Rattle.py_records.specs.declared.records.Records.{Records}
use Rattle.py_records.specs.declared.table.RecordTable.{RecordTable}
use Rattle.native_stacks.specs.declared.stacks.NativeStacks.{NativeStacks}
use Rattle.paired_stacks.specs.declared.stack.PairedStack.{PairedStack}
use Rattle.memory_sections.specs.Pairs.{ArePairs, PairsAre}
use Rattle.py_fronts.specs.declared.salvaged.SalvagedInterpreter.{SalvagedInterpreter}
use Rattle.salvage_words.specs.Salvage.{Salvage, Wanted}
use Rattle.salvage_words.specs.Salvage.Wanted.{salvage}
use Rattle.salvage_report.specs.declared.cause.Cause.{Cause}
use Rattle.salvage_report.specs.Headline.{AreTables, HasSalvaged, SaysLayout, SaysNames, SaysRegisters}
use Rattle.salvage_report.specs.Headline.{SaysExceptions, SaysNative, SaysSignal, SaysStacks, SaysTasks, SaysValues}
use Rattle.salvage_report.specs.Headline.{SaysHeap, SaysWaits}
use Rattle.memory_sections.specs.Told.{ToldIf}
use Rattle.py_fronts.specs.declared.search.Looked.{Looked}
use Rattle.salvage_report.specs.Outcome.{IsCoreOutcome, IsOutcomeBy, IsSalvagedBy, Outcome, shown_or_none}
use Rattle.salvage_report.specs.Outcome.{tables_for}
use Rattle.named_images.specs.Named.{images_read}
use Rattle.program_run.specs.Ends.{Reaches}
use Rattle.program_run.specs.Reading.{AreRead}
use Rattle.salvage_report.specs.Reading.{files_of}
use Rattle.salvage_report.specs.Run.{ComesTo, pysalvage}
use Rattle.process_memory.specs.Memory.{Found, Memory}
use Rattle.py_selftest.specs.Checking.{CheckShown, check_shown}
use Rattle.py_selftest.specs.declared.checking.LayoutCheck.{LayoutCheck}
use Rattle.py_selftest.proofs.Verdicts.{check_says}
use Rattle.salvage_report.specs.Pointers.{pointers_of}
use Rattle.salvage_report.specs.LayoutChecked.{CheckIs, CheckTold, layout_checked, release_of, thread_places, types_of}
use Rattle.py_process.specs.Facts.{symbol_known}
use Rattle.py_process.specs.Reports.{memory_in}
use Rattle.memory_sections.specs.Pythons.{python_threads}
use Rattle.salvage_report.specs.Sections.{if_asked, own_id}
use Rattle.salvage_report.specs.Texts.{shown_left}
use Rattle.shown_values.specs.Values.{AreShown}
use Rattle.local_values.specs.Addresses.{shown_addresses}

no_text : (s : List ℕ) (cause : Cause) → ◌≡◌ {A = Outcome} (Ok s) (Err cause) → ⊥
no_text s cause is = cc

-- where a text is shown, some interpreter is, and it is that text
shows : (is : List SalvagedInterpreter) (n : Looked) (t written : List ℕ)
    → ◌≡◌ {A = Outcome} (Ok written) (shown_or_none is n t)
    → (is ≢ []) × (written ≡ t)
shows [] n t written same = absurd (no_text written _ same)
shows (i ∷ is) n t written same = (λ none. absurd (cc), cc)

module _ (s : Salvage) (told : Told) (old new : SinkSeen) (written : List ℕ)
    (added : Appends old.written new.written written) where
  by_left : (records : List (List ℕ)) (tables : List RecordTable) (bytes text : List ℕ) (images : List (List ℕ))
      (layouts : List Layout) → AreTables records tables → AreRead told (files_of s) (records ++ bytes ∷ text ∷ images) → IsRightFor text (Ok layouts)
      → IsSalvagedBy s tables bytes (images_read s.images images) layouts (Ok written) → HasSalvaged s told old new
  by_left records tables bytes text images layouts judged read says (inl (e, is, h)) = absurd (no_text written _ is)
  by_left records tables bytes text images layouts judged read says (inr (o, opened, (left, h, is))) =
      let shown = shows left.salvaged.interpreters.items left.salvaged.looked (shown_left s left) written is in
      record {
        records = records;
        core = bytes;
        text = text;
        images = images;
        all_tables = tables;
        judged = judged;
        read = read;
        layouts = layouts;
        says = says;
        opened = o;
        is_opened = opened;
        tables = tables_for tables o;
        tables_are = refl;
        left = left;
        is_left = h;
        some = shown.0;
        written = subst (λ t. Appends old.written new.written t) shown.1 added;
      }

  by_core : (records : List (List ℕ)) (tables : List RecordTable) (contents : List (List ℕ)) → AreTables records tables
      → AreRead told (files_of s) (records ++ contents) → IsCoreOutcome s tables contents (Ok written) → HasSalvaged s told old new
  by_core records tables [] judged read h = absurd h
  by_core records tables (bytes ∷ []) judged read h = absurd h
  by_core records tables (bytes ∷ text ∷ images) judged read (inl (e, is, h)) = absurd (no_text written _ is)
  by_core records tables (bytes ∷ text ∷ images) judged read (inr (layouts, says, h)) =
      by_left records tables bytes text images layouts judged read says h

  by_contents : (name : Option (List ℕ)) (contents : List (List ℕ)) → AreRead told (files_of s) contents
      → IsOutcomeBy name s contents (Ok written) → HasSalvaged s told old new
  by_contents None contents read h = by_core [] [] contents refl read h
  by_contents (Some name) [] read h = absurd h
  by_contents (Some name) (text ∷ contents) read (inl (e, is, h)) = absurd (no_text written _ is)
  by_contents (Some name) (text ∷ contents) read (inr (tables, says, h)) =
      by_core (text ∷ []) tables contents says read h

  comes : ComesTo told (salvage s) (Ok written) → HasSalvaged s told old new
  comes h = by_contents s.records h.contents h.read h.is

  pub salvaged_of_run : (asked : Option Wanted) → asked ≡ Some (salvage s) → Reaches pysalvage asked told (Ok written)
      → HasSalvaged s told old new
  salvaged_of_run asked is reached =
      comes (subst (λ w. ComesTo told w (Ok written)) (same_Some _ _ (sym reached.is_asked ∙ is)) reached.comes)

-- a section that is asked for is told
pub says_signal : (s : Salvage) (told : Told) (old new : SinkSeen) → HasSalvaged s told old new
    → s.sections.signal ≡ true
    → SaysSignal s told old new
says_signal s told old new h asked =
    let own = own_id h.left.process in
    record {
      has = h;
      notes = h.is_left.told.notes;
      are = h.is_left.told.are;
      is = h.is_left.told.signal ∙ ap (λ a. if_asked a (signal_told own h.is_left.told.notes)) asked;
    }

pub says_registers : (s : Salvage) (told : Told) (old new : SinkSeen) → HasSalvaged s told old new
    → s.sections.registers ≡ true → SaysRegisters s told old new
says_registers s told old new h asked =
    let pythons = python_threads h.left.salvaged.interpreters.items in
    record {
      has = h;
      notes = h.is_left.told.notes;
      are = h.is_left.told.are;
      is = h.is_left.told.registers
          ∙ ap (λ a. if_asked a (threads_told (machine_of h.core) pythons h.is_left.told.notes)) asked;
    }

-- what is told where it is asked for
checked_one : (asked : Bool) (bytes : List ℕ) (checked : List ℕ → Found CheckShown) (told : Option LayoutCheck)
    → CheckIs asked bytes checked told
    → asked ≡ true → (check : LayoutCheck) × (told ≡ Some check) × CheckTold bytes checked check
checked_one false bytes checked told is on = absurd (cc)
checked_one true bytes checked None is on = absurd is
checked_one true bytes checked (Some check) is on = (check, refl, is)

pub says_layout : (s : Salvage) (told : Told) (old new : SinkSeen) → HasSalvaged s told old new
    → s.sections.check_layout ≡ true → SaysLayout s told old new
says_layout s told old new h asked =
    let o = h.opened in
    let one = checked_one s.sections.check_layout h.core (layout_checked o h.left.salvaged.interpreters.items) h.left.check h.is_left.check asked in
    record {
      has = h;
      check = one.0;
      is = one.1;
      notes = one.2.notes;
      are = one.2.are;
      checked = one.2.is;
      says = check_says (memory_in o.dumped) o.layout (types_of o.known o.version)
          (symbol_known o.known (codes "_PyRuntime")) (release_of o.version)
          (pointers_of (machine_of h.core) one.2.notes)
          (thread_places h.left.salvaged.interpreters.items) (check_shown one.0) one.2.is;
    }

-- what is read in memory is told where it is asked for
told_one : {T : Type 0} (asked : Bool) (Is : T → Type 0) (told : Option T) → ToldIf asked Is told → asked ≡ true
    → (one : T) × (told ≡ Some one) × Is one
told_one false Is told is on = absurd (cc)
told_one true Is None is on = absurd is
told_one true Is (Some one) is on = (one, refl, is)

pub says_names : (s : Salvage) (told : Told) (old new : SinkSeen) → HasSalvaged s told old new
    → s.sections.names ≡ true → SaysNames s told old new
says_names s told old new h asked =
    let one = told_one s.sections.names _ h.left.memory.names h.is_left.memory.names asked in
    record { has = h; names = one.0; is = one.1; are = one.2 }

pub says_tasks : (s : Salvage) (told : Told) (old new : SinkSeen) → HasSalvaged s told old new
    → s.sections.tasks ≡ true → SaysTasks s told old new
says_tasks s told old new h asked =
    let one = told_one s.sections.tasks _ h.left.memory.tasks h.is_left.memory.tasks asked in
    record { has = h; tasks = one.0; is = one.1; are = one.2 }

pub says_exceptions : (s : Salvage) (told : Told) (old new : SinkSeen) → HasSalvaged s told old new
    → s.sections.exceptions ≡ true → SaysExceptions s told old new
says_exceptions s told old new h asked =
    let one = told_one s.sections.exceptions _ h.left.memory.exceptions h.is_left.memory.exceptions asked in
    record { has = h; exceptions = one.0; is = one.1; are = one.2 }

pub says_waits : (s : Salvage) (told : Told) (old new : SinkSeen) → HasSalvaged s told old new
    → s.sections.waits ≡ true → SaysWaits s told old new
says_waits s told old new h asked =
    let one = told_one s.sections.waits _ h.left.memory.waits h.is_left.memory.waits asked in
    record { has = h; waits = one.0; is = one.1; are = one.2 }

pub says_native : (s : Salvage) (told : Told) (old new : SinkSeen) → HasSalvaged s told old new
    → s.sections.native ≡ true → SaysNative s told old new
says_native s told old new h asked =
    let one = told_one s.sections.native _ h.left.memory.native h.is_left.memory.native asked in
    record { has = h; stacks = one.0; is = one.1; are = one.2 }

-- where native stacks are told, so are these
paired_one : (bytes : List ℕ) (k : Known) (v : Version) (l : Layout) (r : Records) (m : Memory)
    (is : List SalvagedInterpreter) (n : NativeStacks) (told : Option (Vec (Option PairedStack) Global))
    → PairsAre bytes k v l r m is (Some n) told
    → (one : Vec (Option PairedStack) Global) × (told ≡ Some one) × ArePairs bytes k v l r m is n one
paired_one bytes k v l r m is n None are = absurd are
paired_one bytes k v l r m is n (Some one) are = (one, refl, are)

pub says_stacks : (s : Salvage) (told : Told) (old new : SinkSeen) → HasSalvaged s told old new
    → s.sections.native ≡ true → SaysStacks s told old new
says_stacks s told old new h asked =
    let native = told_one s.sections.native _ h.left.memory.native h.is_left.memory.native asked in
    let k = h.opened.known in
    let v = h.opened.version in
    let l = h.opened.layout in
    let r = records_of h.tables v in
    let m = memory_in h.opened.dumped in
    let is = h.left.salvaged.interpreters.items in
    let one = paired_one h.core k v l r m is native.0 h.left.memory.stacks
    (subst (λ n. PairsAre h.core k v l r m is n h.left.memory.stacks) native.1 h.is_left.memory.stacks) in
    record { has = h; natives = native.0; natives_are = native.1; stacks = one.0; is = one.1; are = one.2 }

pub says_heap : (s : Salvage) (told : Told) (old new : SinkSeen) → HasSalvaged s told old new
    → s.sections.heap ≡ true → SaysHeap s told old new
says_heap s told old new h asked =
    let one = told_one s.sections.heap _ h.left.memory.heap h.is_left.memory.heap asked in
    record { has = h; heaps = one.0; is = one.1; are = one.2 }

pub says_values : (s : Salvage) (told : Told) (old new : SinkSeen) → HasSalvaged s told old new
    → s.locals ≢ 0 → SaysValues s told old new
says_values s told old new h asked =
    let one = told_one (not (nat_eq s.locals 0)) _ h.left.memory.values h.is_left.memory.values
    (ap not (ne_eqb s.locals 0 asked)) in
    record {
      has = h;
      values = one.0;
      is = one.1;
      are = one.2;
      shown = subst (λ values. AreShown s.json values (shown_addresses h.left.salvaged.interpreters.items) h.left.values)
          one.1 h.is_left.values;
    }
