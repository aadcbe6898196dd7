-- What is read of a core and an image that were written is what was written, and nothing else.
use Rattle.std.proofs.Common.{◌≡◌, ℕ, zero, suc, ◌<◌, List, [], ◌∷◌, map, refl, sym, ap, subst, ◌∙◌, arith}
use Rattle.std.specs.Prelude.{◌↔◌, Some, Ok, pos, slice_get, slice_index_or}
use Rattle.std.specs.List.{Contains}
use Rattle.bstr.specs.Utf8.{lossy_chars, pieces_from}
use Rattle.elf64_core.specs.Header.{machine_of}
use Rattle.elf64_core.specs.Nul.{until_nul}
use Rattle.image_memory.specs.Cores.{IsCore}
use Rattle.image_memory.specs.Images.{Pushed}
use Rattle.image_memory.specs.Maps.{in_maps}
use Rattle.image_memory.specs.Notes.{AreStatuses, IsProcess}
use Rattle.process_memory.specs.Memory.{Memory}
use Rattle.py_fields.specs.Sound.{Covers}
use Rattle.py_fields.specs.declared.layout.Layout.{Layout}
use Rattle.py_fields.specs.declared.version.Version.{Version}
use Rattle.py_stacks.specs.Asking.{asked_of}
use Rattle.py_stacks.specs.StacksOver.{AreStacksOver}
use Rattle.py_stacks.specs.Threads.{Trace}
use Rattle.py_stacks.specs.declared.config.Config.{Config}
use Rattle.py_process.specs.Candidates.{IsFirstOf, candidates_of}
use Rattle.py_process.specs.Findings.{Finding, IsChosen, IsFound, finding}
use Rattle.py_process.specs.Lock.{lock_address_of}
use Rattle.py_process.specs.Programs.{ArePrograms, IsKnown}
use Rattle.py_process.specs.Reports.{AsksNoOther, Dumped, IsDumped, IsReadable, IsRight, NotesTell, Reported}
use Rattle.py_process.specs.Reports.{bare_trace, memory_in, up_to_nul}
use Rattle.py_process.specs.Sources.{FirstTells, sources_of}
use Rattle.py_process.proofs.Agreement.{ok_is, ok_kept}
use Rattle.py_process.proofs.Bare.{over_bare}
use Rattle.py_process.proofs.Dumped.{dumped_once}
use Rattle.py_process.proofs.FindingLaws.{ChoosesOnce, finding_agree}
use Rattle.py_process.proofs.Full.{right_once}
use Rattle.py_process.proofs.ReportLaws.{finds}
use Rattle.memory_builder.specs.Laid.{owner_id}
use Rattle.memory_builder.specs.Program.{Program, Thread}
use Rattle.memory_builder.specs.Told.{program_told}
use Rattle.image_builder.specs.CoreFacts.{built_process, built_programs, built_status}
use Rattle.image_builder.specs.CoreFiles.{process_name}
use Rattle.image_builder.specs.ImageFacts.{image_known}
use Rattle.image_builder.specs.Inverse.{FindsAlone, HasFramesOf, IsReadableAsAsked, IsReportOf}
use Rattle.image_builder.specs.Records.{filled}
use Rattle.image_builder.specs.RuntimeWords.{interpreter_at}
use Rattle.image_builder.specs.Shown.{shown_report, without_addresses}
use Rattle.image_builder.proofs.FramesOnce.{frames_moved, frames_once}
use Rattle.image_builder.proofs.RestBack.{is_ok, kept_has_locals}
use Rattle.image_builder.proofs.ShownBack.{program_unplaced, traces_bare}

-- what the readers find, each by itself, of a core and images that were written
pub record IsWritten (core : List ℕ) (images : Pushed) (l : Layout) (v : Version) (p : Program) (lock : ℕ)
    : Type 0 where
  pub core_is : IsCore core
  pub dumped : Dumped
  pub is_dumped : IsDumped core images dumped
  pub programs : ArePrograms dumped.maps built_programs
  pub known : IsKnown images built_programs image_known
  pub covers : Covers l v
  pub told : FirstTells (memory_in dumped) (sources_of image_known) (Ok (Some v))
  pub first : IsFirstOf (in_maps dumped.maps) l (memory_in dumped)
      (candidates_of image_known v l (memory_in dumped)) interpreter_at
  pub named : lock_address_of (machine_of core) image_known v l (memory_in dumped) interpreter_at ≡ Ok lock
  pub stacks : (c : Config) (traces : List Trace) → AreStacksOver c l (memory_in dumped) lock interpreter_at traces
      ↔ (traces ≡ program_told c l interpreter_at (owner_id p) p)
  pub statuses : AreStatuses core (built_status ∷ [])
  pub process : IsProcess core (Some built_process)
  pub alone : (k : ℕ) (t : Thread) → slice_get p.threads k ≡ Some t → (t.id ≡ owner_id p) ↔ (p.owner ≡ Some k)

-- ---- a list of one layout

listed_at : (l x : Layout) (k : ℕ) → k < 1 → slice_index_or (l ∷ []) k x ≡ x → l ≡ x
listed_at l x zero lt e = e
listed_at l x (suc k) lt e = absurd (omega (arith, lt))

listed_is : (l x : Layout) → Contains (l ∷ []) x → l ≡ x
listed_is l x h = listed_at l x h.0 h.1 h.2

pub one_chooses : (l : Layout) → ChoosesOnce (l ∷ [])
one_chooses l version a b one other = sym (listed_is l a one.listed) ∙ listed_is l b other.listed

-- ---- the notes

-- the arguments, as they are shown
name_told : lossy_chars (up_to_nul (filled 80 process_name)) ≡ process_name
unfolding pieces_from until_nul filled
name_told = refl

module _ (core : List ℕ) (images : Pushed) (l : Layout) (v : Version) (p : Program) (lock : ℕ)
    (w : IsWritten core images l v p lock) where
  abbrev m : Memory
  m = memory_in w.dumped

  abbrev is_finding : Finding
  is_finding = finding v l interpreter_at lock

  abbrev traces_told : Config → List Trace
  traces_told c = program_told c l interpreter_at (owner_id p) p

  abbrev told_report : Config → Reported
  told_report c = record {
    signal = Some (pos 6);
    process = Some (pos 1, process_name);
    version = v;
    traces = traces_told c;
  }

  -- ---- what is found

  chosen : IsChosen (l ∷ []) v l
  chosen =
      let lt : 0 < 1 = omega arith in
      record { listed = (0, lt, refl); covers = w.covers }

  is_found : IsFound m (machine_of core) w.dumped.maps images (l ∷ []) is_finding
  is_found = record {
    programs = built_programs;
    are_programs = w.programs;
    known = image_known;
    is_known = w.known;
    told = w.told;
    chosen = chosen;
    first = w.first;
    lock = w.named;
  }

  found_same : (g : Finding) → IsFound m (machine_of core) w.dumped.maps images (l ∷ []) g → g ≡ is_finding
  found_same g h = ok_is g is_finding (finding_agree m (machine_of core) w.dumped.maps images (l ∷ []) (one_chooses l)
      (Ok g) (Ok is_finding) (finds m (machine_of core) w.dumped.maps images (l ∷ []) g h)
      (finds m (machine_of core) w.dumped.maps images (l ∷ []) is_finding is_found) (ok_kept g) (ok_kept is_finding))

  finds_alone : FindsAlone core images (l ∷ []) is_finding
  finds_alone d is g =
      let same : d ≡ w.dumped = dumped_once core images d w.dumped is w.is_dumped in (
        λ h. found_same g
            (subst (λ d. IsFound (memory_in d) (machine_of core) d.maps images (l ∷ []) g) same h),
        λ e. subst (λ x. IsFound (memory_in d) (machine_of core) d.maps images (l ∷ []) x) (sym e)
            (subst (λ d. IsFound (memory_in d) (machine_of core) d.maps images (l ∷ []) is_finding)
            (sym same) is_found),
      )

  -- ---- what is right

  stacks_told : (c : Config) → AreStacksOver c l m lock interpreter_at (traces_told c)
  stacks_told c = (w.stacks c (traces_told c)).1 refl

  notes_tell : NotesTell core (Some (pos 6)) (Some (pos 1, process_name))
  notes_tell = record {
    statuses = built_status ∷ [];
    are_statuses = w.statuses;
    signal_is = refl;
    last = Some built_process;
    is_last = w.process;
    process_is = ap (λ name. Some (pos 1, name)) (sym name_told);
  }

  is_right : (c : Config) → IsRight core images (l ∷ []) c (told_report c)
  is_right c =
      let bare = over_bare c l m lock interpreter_at (traces_told c) (stacks_told c) in
      record {
        has = record {
          core = w.core_is;
          dumped = w.dumped;
          is_dumped = w.is_dumped;
          programs = built_programs;
          are_programs = w.programs;
          known = image_known;
          is_known = w.known;
          told = w.told;
          layout = l;
          chosen = chosen;
          interpreter = interpreter_at;
          first = w.first;
          walked = bare.walked;
          are_walked = bare.are;
          threads = bare.same;
        };
        lock = lock;
        is_lock = w.named;
        stacks = stacks_told c;
        notes = notes_tell;
      }

  -- ---- a report is owed

  is_owed : (c : Config) → AsksNoOther c → IsReadable core images (l ∷ []) c
  is_owed c asks =
      let s = (stacks_told c).stacks in
      record {
        core = w.core_is;
        dumped = w.dumped;
        is_dumped = w.is_dumped;
        finding = is_finding;
        found = is_found;
        asks = asks;
        rest = record {
          holder_id = is_ok _ s.holder_id s.held;
          locals = λ asked r kept. kept_has_locals (asked_of c) l m asked interpreter_at s.unmarked s.threads r kept;
        };
      }

  pub is_readable : IsReadableAsAsked core images (l ∷ [])
  is_readable c = (λ h. h.asks, is_owed c)

  -- ---- names and marks

  told_bare : (c : Config) → map bare_trace (told_report c).traces ≡ map bare_trace (shown_report c l v p).traces
  told_bare c = sym (traces_bare (traces_told c))
      ∙ ap (map bare_trace) (program_unplaced c l interpreter_at p w.alone)

  pub has_frames : (c : Config) → HasFramesOf core images (l ∷ []) (shown_report c l v p)
  has_frames c r = (
    λ h.
        let same = frames_once core images (l ∷ []) (one_chooses l) r (told_report c) h (is_right c).has in
        record { version = same.version; threads = same.threads ∙ told_bare c },
    λ same. frames_moved core images (l ∷ []) r (told_report c)
        (record { version = same.version; threads = same.threads ∙ sym (told_bare c) }) (is_right c).has,
  )

  -- ---- the report

  shows : (c : Config) → without_addresses (told_report c) ≡ shown_report c l v p
  shows c = ap (λ ts. record (shown_report c l v p) { traces = ts }) (program_unplaced c l interpreter_at p w.alone)

  pub is_report : (c : Config) → AsksNoOther c → IsReportOf core images (l ∷ []) c (shown_report c l v p)
  is_report c asks = record {
    report = told_report c;
    right = λ r. (
      λ h. right_once core images (l ∷ []) c (one_chooses l) asks r (told_report c) h (is_right c),
      λ e. subst (λ x. IsRight core images (l ∷ []) c x) (sym e) (is_right c),
    );
    shows = shows c;
  }

-- the same where the lock's address is told as another number that it is
pub finds_by : (core : List ℕ) (images : Pushed) (l : Layout) (v : Version) (p : Program) (lock built : ℕ)
    → lock ≡ built → IsWritten core images l v p built
    → FindsAlone core images (l ∷ []) (finding v l interpreter_at lock)
finds_by core images l v p lock built same w = subst
    (λ x. FindsAlone core images (l ∷ []) (finding v l interpreter_at x)) (sym same)
    (finds_alone core images l v p built w)
