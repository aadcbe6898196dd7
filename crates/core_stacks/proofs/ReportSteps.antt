-- The report over a memory, by the search and the stacks; and over the memory of a core and its images.
use Rattle.std.proofs.Common.{◌≡◌, ℕ, ◌+◌, List, refl, sym, ap, subst, ◌∙◌, arith, ⊎_elim, inl, inr}
use Rattle.std.specs.Prelude.{Bool, Some, None, Result, Ok, Err}
use Rattle.std.proofs.lemmas.Option.{IfSome_then}
use Rattle.elf64_core.specs.Header.{machine_of}
use Rattle.image_memory.specs.Cores.{IsCore}
use Rattle.image_memory.specs.Images.{Pushed}
use Rattle.image_memory.specs.Maps.{in_maps}
use Rattle.process_memory.specs.Layers.{plain}
use Rattle.process_memory.specs.Memory.{Memory, Region, byte_at}
use Rattle.process_memory.specs.Seen.{Seen}
use Rattle.py_builtins.specs.Consulted.{Consulting}
use Rattle.py_builtins.proofs.Consulted.{consulting_short}
use Rattle.process_memory.proofs.Reading.{reading_gives, reading_here, reading_then, reads_within}
use Rattle.py_fields.specs.declared.layout.Layout.{Layout}
use Rattle.py_stacks.specs.declared.config.Config.{Config}
use Rattle.py_stacks.specs.Threads.{Trace}
use Rattle.py_process.specs.Facts.{Known}
use Rattle.py_process.specs.Findings.{AfterImages, Finding, FindingIs, FindsIn, IsFound}
use Rattle.py_process.specs.Programs.{ImagesSay, IsKnown, MapsSay, Programs}
use Rattle.py_process.specs.Sources.{FirstTells, sources_of}
use Rattle.py_process.specs.Reports.{AfterCore, AfterFinding, AsksNoOther, CoreSays, Dumped, IsDumped, IsReadable}
use Rattle.py_process.specs.Reports.{IsTold, ReportIs, Reported, StacksSay, TellsReport, fault_on, memory_in}
use Rattle.py_process.specs.Steps.{Then}
use Rattle.py_process.specs.declared.core_error.CoreError.{CoreError}
use Rattle.py_process.specs.declared.core_error.CoreError.TheVariants as core
use Rattle.py_process.proofs.Sections.{searching}
use Rattle.core_stacks.specs.Reached.{AfterKnown, IsCounted, IsTrialBy, Reporting, Trying, cost_of, finding_cost}
use Rattle.core_stacks.specs.Reached.{trial_cost}
use Rattle.core_stacks.specs.Sole.{Settles}
use Rattle.py_process.proofs.Agreement.{ok_is, ok_kept, ok_not_err, then_ok, then_value}
use Rattle.py_process.proofs.FindingLaws.{images_agree, maps_agree}
use Rattle.py_process.proofs.ReportLaws.{core_agree, finds, found_by, told_agree}
use Rattle.py_process.proofs.Dumped.{dumped_once}
use Rattle.py_process.proofs.StackCauses.{stacks_agree}
use Rattle.core_stacks.proofs.Settling.{settles_agree, settles_by_err, settles_by_ok, settles_err, settles_ok}
use Rattle.core_stacks.proofs.ReportLaws.{left_memory}
use Rattle.core_stacks.proofs.Searching.{candidate_ends}
use Rattle.core_stacks.proofs.Steps.{unknown_then}
use Rattle.core_stacks.proofs.Unfaulted.{unfaulted}

err_is : {T : Type 0} (e d : CoreError) → ◌≡◌ {A = Result T CoreError} (Err e) (Err d) → e ≡ d
err_is e d is = cc

-- ---- over any memory

module _ (s0 s1 : Seen) (bytes : List ℕ) (contains : ℕ → Bool) (layouts : List Layout) (config : Config) (k : Known) where
  abbrev sought : Memory → Result Finding CoreError → Type 0
  sought m = AfterImages m (machine_of bytes) contains layouts k

  abbrev rest : Memory → Finding → Result Reported CoreError → Type 0
  rest m f = Then (StacksSay m f config) (IsTold bytes f)

  -- the search fails
  pub search_ends : (e : CoreError) (r : Result Reported CoreError)
      → Trying k (IsTrialBy (byte_at s0.pieces) layouts k) contains 10 s0 s1 (λ m. Settles (AfterImages m (machine_of bytes) contains layouts k) (Err e))
      → r ≡ Err e
      → Reporting k (IsTrialBy (byte_at s0.pieces) layouts k) (λ f. AfterImages (byte_at s0.pieces) (machine_of bytes) contains layouts k (Ok f)) contains config s0 s1
      (λ m. Settles (AfterKnown bytes m contains layouts config k) r)
  search_ends e r t is = record {
    tried = t.tried;
    is_tried = t.is;
    found = None;
    is_found = tt;
    reading = reading_gives _ _ t.reading (omega arith) (λ m h. settles_by_err (sought m) (rest m) e r h is);
  }

  pub search_memory : (e : CoreError)
      → Trying k (IsTrialBy (byte_at s0.pieces) layouts k) contains 10 s0 s1 (λ m. Settles (AfterImages m (machine_of bytes) contains layouts k) (Err e))
      → (f : Finding) → AfterImages (byte_at s0.pieces) (machine_of bytes) contains layouts k (Ok f) → e ≡ core.OutOfMemory
  search_memory e t f right =
      ⊎_elim (λ is. absurd (ok_not_err f e (sym is))) (λ is. err_is e core.OutOfMemory is) ((reading_here t.reading).only (Ok f) right (ok_kept f))

  module _ (s2 : Seen) (f : Finding)
      (t : Trying k (IsTrialBy (byte_at s0.pieces) layouts k) contains 10 s0 s1 (λ m. Settles (AfterImages m (machine_of bytes) contains layouts k) (Ok f)))
      (x : Result (List Trace) CoreError)
      (stacks : Consulting f.layout (13 + finding_cost config (byte_at s1.pieces) f) s1 s2 (λ m. StacksSay m f config x)) where
    -- what is found, and what comes of it over each memory
    pub stacks_report : (r : Result Reported CoreError) → ((m : Memory) → StacksSay m f config x → Settles (Then (StacksSay m f config) (IsTold bytes f)) r)
        → Reporting k (IsTrialBy (byte_at s0.pieces) layouts k) (λ f. AfterImages (byte_at s0.pieces) (machine_of bytes) contains layouts k (Ok f)) contains config s0 s2
        (λ m. Settles (AfterKnown bytes m contains layouts config k) r)
    stacks_report r f_rest =
        let same = ap (λ ps. finding_cost config (byte_at ps) f) t.reading.pieces in
        record {
          tried = t.tried;
          is_tried = t.is;
          found = Some f;
          is_found = (reading_here t.reading).right;
          reading = reads_within _ (reading_then _ t.reading (searching k (consulting_short stacks))
              (λ m a b. settles_by_ok (sought m) (rest m) f r a (f_rest m b))) (omega (arith, same));
        }

    pub stacks_memory : (e : CoreError) → x ≡ Err e → (g : Finding) → AfterImages (byte_at s0.pieces) (machine_of bytes) contains layouts k (Ok g)
        → AsksNoOther config → fault_on (byte_at s0.pieces) g config ≡ None → e ≡ core.OutOfMemory
    stacks_memory e lost g right asks none =
        let is : f ≡ g = ⊎_elim (λ is. ok_is f g is) (λ is. absurd (ok_not_err f core.OutOfMemory is)) ((reading_here t.reading).only (Ok g) right (ok_kept g)) in
        let says = subst (λ y. StacksSay (byte_at s0.pieces) f config y) lost (subst (λ ps. StacksSay (byte_at ps) f config x) t.reading.pieces (reading_here stacks)) in
        left_memory (record { core = bytes; pieces = s0.pieces; finding = f }) config asks (subst (λ h. fault_on (byte_at s0.pieces) h config ≡ None) (sym is) none) e says

-- the stacks that are lost, and those that are told
pub lost : (m : Memory) (bytes : List ℕ) (f : Finding) (config : Config) (e : CoreError) (r : Result Reported CoreError) → r ≡ Err e
    → StacksSay m f config (Err e) → Settles (Then (StacksSay m f config) (IsTold bytes f)) r
lost m bytes f config e r is says = settles_err (StacksSay m f config) (IsTold bytes f) (stacks_agree m f config) e r says is

pub told : (m : Memory) (bytes : List ℕ) (f : Finding) (config : Config) (traces : List Trace) (reported : Reported) (r : Result Reported CoreError)
    → TellsReport bytes f traces reported → r ≡ Ok reported → StacksSay m f config (Ok traces) → Settles (Then (StacksSay m f config) (IsTold bytes f)) r
told m bytes f config traces reported r tells is says =
    settles_ok (StacksSay m f config) (IsTold bytes f) (stacks_agree m f config) traces r says
    (settles_agree (IsTold bytes f traces) (told_agree bytes f traces) r (reported, tells, is))

-- ---- steps in other brackets

abbrev Steps : {T U V : Type 0} → (Result T CoreError → Type 0) → (T → Result U CoreError → Type 0) → (U → Result V CoreError → Type 0) → Result V CoreError → Type 0
Steps A B C = Then A (λ x. Then (B x) C)

err_moves : {T U : Type 0} (e d : CoreError) → ◌≡◌ {A = Result T CoreError} (Err e) (Err d) → ◌≡◌ {A = Result U CoreError} (Err e) (Err d)
err_moves e d is = cc

inward : {T U V : Type 0} (A : Result T CoreError → Type 0) (B : T → Result U CoreError → Type 0) (C : U → Result V CoreError → Type 0) (r : Result V CoreError)
    → Then (Then A B) C r → Steps A B C r
inward A B C r (inl (e, inl (d, a, is'), is)) = inl (d, a, is ∙ err_moves e d is')
inward A B C r (inl (e, inr (x, a, b), is)) = inr (x, a, inl (e, b, is))
inward A B C r (inr (u, inl (d, a, is'), c)) = absurd (ok_not_err u d is')
inward A B C r (inr (u, inr (x, a, b), c)) = inr (x, a, inr (u, b, c))

outward : {T U V : Type 0} (A : Result T CoreError → Type 0) (B : T → Result U CoreError → Type 0) (C : U → Result V CoreError → Type 0) (r : Result V CoreError)
    → Steps A B C r → Then (Then A B) C r
outward A B C r (inl (e, a, is)) = inl (e, inl (e, a, refl), is)
outward A B C r (inr (x, a, inl (e, b, is))) = inl (e, inr (x, a, b), is)
outward A B C r (inr (x, a, inr (u, b, c))) = inr (u, inr (x, a, b), c)

settles_outward : {T U V : Type 0} (A : Result T CoreError → Type 0) (B : T → Result U CoreError → Type 0) (C : U → Result V CoreError → Type 0) (r : Result V CoreError)
    → Settles (Steps A B C) r → Settles (Then (Then A B) C) r
settles_outward A B C r h = record { right = outward A B C r h.right; only = λ answer is kept. h.only answer (inward A B C answer is) kept }

-- ---- over the memory of a core and its images

module _ (bytes : List ℕ) (images : Pushed) (layouts : List Layout) (config : Config) where
  refusal : (e : CoreError) → CoreSays bytes images (Err e) → Settles (CoreSays bytes images) (Err e)
  refusal e says = settles_agree (CoreSays bytes images) (core_agree bytes images) (Err e) says

  pub refused_reports : (e : CoreError) → CoreSays bytes images (Err e) → (r : Result Reported CoreError) → r ≡ Err e
      → Settles (ReportIs bytes images layouts config) r
  refused_reports e says r is = settles_by_err (CoreSays bytes images) (AfterCore bytes images layouts config) e r (refusal e says) is

  pub refused_memory : (e : CoreError) → CoreSays bytes images (Err e) → IsReadable bytes images layouts config → e ≡ core.OutOfMemory
  refused_memory e says good =
      ⊎_elim (λ is. absurd (ok_not_err good.dumped e (sym is))) (λ is. err_is e core.OutOfMemory is)
      ((refusal e says).only (Ok good.dumped) (good.core, good.is_dumped) (λ is. absurd (ok_not_err good.dumped core.OutOfMemory is)))

  pub none_counted : (n : ℕ) → IsCounted bytes images layouts config n n
  none_counted n = record { reached = None; is = tt; most = omega arith; tests_end = tt }

  module _ (d : Dumped) (accepted : IsCore bytes) (dumped : IsDumped bytes images d) where
    abbrev found_in : Result Finding CoreError → Type 0
    found_in = FindingIs (memory_in d) (machine_of bytes) d.maps images layouts

    by_core : (r : Result Reported CoreError) → Settles (AfterCore bytes images layouts config d) r → Settles (ReportIs bytes images layouts config) r
    by_core r h = settles_ok (CoreSays bytes images) (AfterCore bytes images layouts config) (core_agree bytes images) d r (accepted, dumped) h

    -- where nothing is known
    unknown_settles : (e : CoreError) → Then (MapsSay d.maps) (ImagesSay images) (Err e) → Settles found_in (Err e)
    unknown_settles e says = unknown_then (memory_in d) d.maps images layouts (FindsIn (memory_in d) (machine_of bytes) (in_maps d.maps)) e (Err e) says refl

    pub unknown_reports : (e : CoreError) → Then (MapsSay d.maps) (ImagesSay images) (Err e) → (r : Result Reported CoreError) → r ≡ Err e
        → Settles (ReportIs bytes images layouts config) r
    unknown_reports e says r is = by_core r (settles_by_err found_in (AfterFinding bytes d config) e r (unknown_settles e says) is)

    unknown_kept : (e : CoreError) → Then (MapsSay d.maps) (ImagesSay images) (Err e) → (f : Finding) → found_in (Ok f) → e ≡ core.OutOfMemory
    unknown_kept e says f right =
        ⊎_elim (λ is. absurd (ok_not_err f e (sym is))) (λ is. err_is e core.OutOfMemory is) ((unknown_settles e says).only (Ok f) right (ok_kept f))

    -- what can be read is of this core
    readable : (good : IsReadable bytes images layouts config) → found_in (Ok good.finding)
    readable good =
        subst (λ x. FindingIs (memory_in x) (machine_of bytes) x.maps images layouts (Ok good.finding)) (dumped_once bytes images good.dumped d good.is_dumped dumped)
        (finds (memory_in good.dumped) (machine_of bytes) good.dumped.maps images layouts good.finding good.found)

    readable_faultless : (good : IsReadable bytes images layouts config) → fault_on (memory_in d) good.finding config ≡ None
    readable_faultless good =
        subst (λ x. fault_on (memory_in x) good.finding config ≡ None) (dumped_once bytes images good.dumped d good.is_dumped dumped)
        (unfaulted (memory_in good.dumped) good.finding config good.found.first.is.is good.rest)

    pub unknown_memory : (e : CoreError) → Then (MapsSay d.maps) (ImagesSay images) (Err e) → IsReadable bytes images layouts config → e ≡ core.OutOfMemory
    unknown_memory e says good = unknown_kept e says good.finding (readable good)

    -- where it is known
    module _ (s0 : Seen) (contains : ℕ → Bool) (k : Known) (same : s0.pieces ≡ d.pieces) (tested : contains ≡ in_maps d.maps)
        (says : Then (MapsSay d.maps) (ImagesSay images) (Ok k)) where
      abbrev known_by : (p : Programs) × MapsSay d.maps (Ok p) × ImagesSay images p (Ok k)
      known_by = then_ok (MapsSay d.maps) (ImagesSay images) k says

      abbrev after : (ℕ → Bool) → Result Finding CoreError → Type 0
      after test = AfterImages (memory_in d) (machine_of bytes) test layouts k

      abbrev after_known : Known → Result Finding CoreError → Type 0
      after_known = AfterImages (memory_in d) (machine_of bytes) (in_maps d.maps) layouts

      abbrev after_maps : Programs → Result Finding CoreError → Type 0
      after_maps p = Then (ImagesSay images p) after_known

      here : (r : Result Finding CoreError) → AfterImages (byte_at s0.pieces) (machine_of bytes) contains layouts k r → after (in_maps d.maps) r
      here r h =
          subst (λ test. after test r) tested (subst (λ ps. AfterImages (byte_at ps) (machine_of bytes) contains layouts k r) same h)

      pub known_reports : (s1 : Seen) (r : Result Reported CoreError)
          → Reporting k (IsTrialBy (byte_at s0.pieces) layouts k) (λ f. AfterImages (byte_at s0.pieces) (machine_of bytes) contains layouts k (Ok f)) contains config s0 s1
          (λ m. Settles (AfterKnown bytes m contains layouts config k) r)
          → Settles (ReportIs bytes images layouts config) r
      known_reports s1 r h =
          let over = subst (λ test. Settles (AfterKnown bytes (memory_in d) test layouts config k) r) tested
          (subst (λ ps. Settles (AfterKnown bytes (byte_at ps) contains layouts config k) r) same (reading_here h.reading)) in
          by_core r (settles_outward (MapsSay d.maps) after_maps (AfterFinding bytes d config) r
          (settles_ok (MapsSay d.maps) (λ p. Then (after_maps p) (AfterFinding bytes d config)) (maps_agree d.maps) known_by.0 r known_by.1
          (settles_outward (ImagesSay images known_by.0) after_known (AfterFinding bytes d config) r
          (settles_ok (ImagesSay images known_by.0) (λ x. Then (after_known x) (AfterFinding bytes d config)) (images_agree images known_by.0) k r known_by.2 over))))

      found_here : (f : Finding) → AfterImages (byte_at s0.pieces) (machine_of bytes) contains layouts k (Ok f) → IsFound (memory_in d) (machine_of bytes) d.maps images layouts f
      found_here f h =
          found_by (memory_in d) (machine_of bytes) d.maps images layouts f (inr (known_by.0, known_by.1, inr (k, known_by.2, here (Ok f) h)))

      pub known_counted : (s1 : Seen) (Q : Memory → Type 0)
          → Reporting k (IsTrialBy (byte_at s0.pieces) layouts k) (λ f. AfterImages (byte_at s0.pieces) (machine_of bytes) contains layouts k (Ok f)) contains config s0 s1 Q
          → IsCounted bytes images layouts config s0.reads s1.reads
      known_counted s1 Q h =
          let tests = ap (λ test. cost_of (trial_cost test (byte_at s0.pieces)) h.tried) tested in
          let trials = ap (λ ps. cost_of (trial_cost (in_maps d.maps) (byte_at ps)) h.tried) same in
          let findings = ap (λ ps. cost_of (finding_cost config (byte_at ps)) h.found) same in
          record {
            reached = Some (record { dumped = d; trial = h.tried; finding = h.found });
            is = record {
              dumped = dumped;
              trial = IfSome_then h.tried h.is_tried (λ t b. record {
                programs = known_by.0;
                are_programs = known_by.1;
                is_known = subst (λ x. IsKnown images known_by.0 x) (sym b.known_is) known_by.2;
                told = subst (λ ps. FirstTells (byte_at ps) (sources_of t.known) (Ok (Some t.version))) same b.told;
                chosen = b.chosen;
              });
              finding = IfSome_then h.found h.is_found found_here;
            };
            most = omega (arith, h.reading.cost, tests, trials, findings);
            tests_end = λ l a. candidate_ends (in_maps d.maps) l (memory_in d) a;
          }

      -- what can be read is found
      pub good_found : (good : IsReadable bytes images layouts config) → AfterImages (byte_at s0.pieces) (machine_of bytes) contains layouts k (Ok good.finding)
      good_found good =
          let maps = then_value (MapsSay d.maps) after_maps (maps_agree d.maps) known_by.0 known_by.1 (Ok good.finding) (ok_kept good.finding) (readable good) in
          let known = then_value (ImagesSay images known_by.0) after_known (images_agree images known_by.0) k known_by.2 (Ok good.finding) (ok_kept good.finding) maps in
          subst (λ ps. AfterImages (byte_at ps) (machine_of bytes) contains layouts k (Ok good.finding)) (sym same)
          (subst (λ test. after test (Ok good.finding)) (sym tested) known)

      pub good_faultless : (good : IsReadable bytes images layouts config) → fault_on (byte_at s0.pieces) good.finding config ≡ None
      good_faultless good = subst (λ ps. fault_on (byte_at ps) good.finding config ≡ None) (sym same) (readable_faultless good)

-- ---- the same by what a report owes over a memory of its core

module _ (bytes : List ℕ) (images : Pushed) (layouts : List Layout) (config : Config) (d : Dumped) (accepted : IsCore bytes) (dumped : IsDumped bytes images d) where
  pub report_settles : {s0 s1 : Seen} {core : List ℕ} {contains : ℕ → Bool} {k : Known} {r : Result Reported CoreError}
      → Reporting k (IsTrialBy (byte_at s0.pieces) layouts k) (λ f. AfterImages (byte_at s0.pieces) (machine_of core) contains layouts k (Ok f)) contains config s0 s1
      (λ m. Settles (AfterKnown core m contains layouts config k) r)
      → core ≡ bytes → s0.pieces ≡ d.pieces → contains ≡ in_maps d.maps → Then (MapsSay d.maps) (ImagesSay images) (Ok k)
      → Settles (ReportIs bytes images layouts config) r
  report_settles {s0} {s1} {core} {contains} {k} {r} h core_is same tested says =
      known_reports bytes images layouts config d accepted dumped s0 contains k same tested says s1 r
      (subst (λ x. Reporting k (IsTrialBy (byte_at s0.pieces) layouts k) (λ f. AfterImages (byte_at s0.pieces) (machine_of x) contains layouts k (Ok f)) contains config s0 s1
      (λ m. Settles (AfterKnown x m contains layouts config k) r)) core_is h)

  pub report_counts : {s0 s1 : Seen} {core : List ℕ} {contains : ℕ → Bool} {k : Known} {Q : Memory → Type 0}
      → Reporting k (IsTrialBy (byte_at s0.pieces) layouts k) (λ f. AfterImages (byte_at s0.pieces) (machine_of core) contains layouts k (Ok f)) contains config s0 s1 Q
      → core ≡ bytes → s0.pieces ≡ d.pieces → contains ≡ in_maps d.maps → Then (MapsSay d.maps) (ImagesSay images) (Ok k)
      → {file : List ℕ} {old new : ℕ} → bytes ≡ file → s0.reads ≡ old → s1.reads ≡ new → IsCounted file images layouts config old new
  report_counts {s0} {s1} {core} {contains} {k} {Q} h core_is same tested says {file} {old} {new} is from to =
      subst (λ bs. IsCounted bs images layouts config old new) is (subst (λ n. IsCounted bytes images layouts config old n) to (subst (λ n. IsCounted bytes images layouts config n s1.reads) from
      (known_counted bytes images layouts config d accepted dumped s0 contains k same tested says s1 Q
      (subst (λ x. Reporting k (IsTrialBy (byte_at s0.pieces) layouts k) (λ f. AfterImages (byte_at s0.pieces) (machine_of x) contains layouts k (Ok f)) contains config s0 s1 Q) core_is h))))

  pub report_goods : {pieces : List Region} {core : List ℕ} {contains : ℕ → Bool} {k : Known} {Goal : Type 0}
      → ((f : Finding) → AfterImages (byte_at pieces) (machine_of core) contains layouts k (Ok f) → AsksNoOther config → fault_on (byte_at pieces) f config ≡ None → Goal)
      → core ≡ bytes → pieces ≡ d.pieces → contains ≡ in_maps d.maps → Then (MapsSay d.maps) (ImagesSay images) (Ok k)
      → IsReadable bytes images layouts config → Goal
  report_goods {pieces} {core} {contains} {k} {Goal} h core_is same tested says good =
      let s : Seen = plain pieces in
      (subst (λ x. (f : Finding) → AfterImages (byte_at pieces) (machine_of x) contains layouts k (Ok f) → AsksNoOther config → fault_on (byte_at pieces) f config ≡ None → Goal) core_is h) good.finding (good_found bytes images layouts config d accepted dumped s contains k same tested says good) good.asks
      (good_faultless bytes images layouts config d accepted dumped s contains k same tested says good)
