-- A core and its images have one version, and one list of threads with their frames by names and marks.
use Rattle.std.proofs.Common.{◌≡◌, ℕ, List, map, sym, ap, subst, ◌∙◌, inr}
use Rattle.std.specs.Prelude.{Some, Result, Ok}
use Rattle.image_memory.specs.Images.{Pushed}
use Rattle.image_memory.specs.Maps.{in_maps}
use Rattle.process_memory.specs.Memory.{Memory}
use Rattle.process_memory.proofs.Founds.{ok_same}
use Rattle.py_fields.specs.declared.layout.Layout.{Layout}
use Rattle.py_fields.specs.declared.version.Version.{Version}
use Rattle.py_stacks.specs.Asking.{nothing}
use Rattle.py_stacks.specs.Frames.{Call}
use Rattle.py_stacks.specs.Threads.{AreTraces, Trace}
use Rattle.py_stacks.proofs.Wholes.{traces_whole}
use Rattle.py_process.specs.Candidates.{IsFirstOf, candidates_of}
use Rattle.py_process.specs.Facts.{Known}
use Rattle.py_process.specs.Findings.{IsChosen, ProcessThen, SearchSays}
use Rattle.py_process.specs.Reports.{CoreSays, Dumped, HasFrames, Reported, bare_trace, memory_in}
use Rattle.py_process.specs.Sources.{FirstTells, sources_of}
use Rattle.py_process.specs.Steps.{Then}
use Rattle.py_process.specs.declared.core_error.CoreError.{CoreError}
use Rattle.py_process.proofs.Agreement.{Agree, ok_is, ok_kept, then_agree}
use Rattle.py_process.proofs.FindingLaws.{ChoosesOnce, process_then_agree, search_agree}
use Rattle.py_process.proofs.ReportLaws.{core_agree}
use Rattle.image_builder.specs.Shown.{HaveSameFrames}

-- a version, and threads by their ids and the names and marks of their frames
abbrev Plain : Type 0
Plain = Version × List (ℕ × List Call)

abbrev PlainIs : Memory → Version → Layout → ℕ → Result Plain CoreError → Type 0
PlainIs m v l a result = (walked : List Trace) × AreTraces nothing l m a walked
    × (result ≡ Ok (v, map bare_trace walked))

plain_agree : (m : Memory) (v : Version) (l : Layout) (a : ℕ) → Agree (PlainIs m v l a)
plain_agree m v l a x y (ws, are, is) (us, those, is') nx ny =
    let same : ws ≡ us = ok_same ws us
    (sym (traces_whole nothing l m a ws are) ∙ traces_whole nothing l m a us those) in
    is ∙ ap (λ ts. Ok (v, map bare_trace ts)) same ∙ sym is'

module _ (bytes : List ℕ) (images : Pushed) (layouts : List Layout) where
  abbrev PlainIn : Dumped → Known → Version → Layout → Result Plain CoreError → Type 0
  PlainIn d k v l = Then (SearchSays (memory_in d) (in_maps d.maps) k v l) (PlainIs (memory_in d) v l)

  abbrev PlainOf : Dumped → Result Plain CoreError → Type 0
  PlainOf d = ProcessThen (memory_in d) d.maps images layouts (PlainIn d)

  abbrev IsPlain : Result Plain CoreError → Type 0
  IsPlain = Then (CoreSays bytes images) PlainOf

  module _ (once : ChoosesOnce layouts) where
    in_agree : (d : Dumped) (k : Known) (v : Version) (l : Layout) → Agree (PlainIn d k v l)
    in_agree d k v l = then_agree (SearchSays (memory_in d) (in_maps d.maps) k v l) (PlainIs (memory_in d) v l)
        (search_agree (memory_in d) (in_maps d.maps) k v l) (λ a h. plain_agree (memory_in d) v l a)

    agree : Agree IsPlain
    agree = then_agree (CoreSays bytes images) PlainOf (core_agree bytes images)
        (λ d h. process_then_agree (memory_in d) layouts once (PlainIn d) (in_agree d) d.maps images)

    abbrev plain_of : Reported → Plain
    plain_of r = (r.version, map bare_trace r.traces)

    is_plain : (r : Reported) → HasFrames bytes images layouts r → IsPlain (Ok (plain_of r))
    is_plain r h =
        inr (
          h.dumped,
          (h.core, h.is_dumped),
          inr (
            h.programs,
            h.are_programs,
            inr (
              h.known,
              h.is_known,
              inr (
                r.version,
                h.told,
                inr (
                  h.layout,
                  h.chosen,
                  inr (
                    h.interpreter,
                    h.first,
                    (h.walked, h.are_walked, ap (λ ts. Ok (r.version, ts)) h.threads),
                  ),
                ),
              ),
            ),
          ),
        )

    -- two reports that are right so are the same in it
    pub frames_once : (r q : Reported) → HasFrames bytes images layouts r → HasFrames bytes images layouts q
        → HaveSameFrames r q
    frames_once r q one two =
        let same : plain_of r ≡ plain_of q = ok_is (plain_of r) (plain_of q)
        (agree (Ok (plain_of r)) (Ok (plain_of q)) (is_plain r one) (is_plain q two) (ok_kept (plain_of r))
        (ok_kept (plain_of q))) in
        record { version = ap (λ (x : Plain). x.0) same; threads = ap (λ (x : Plain). x.1) same }

  -- what is the same in it is right so too
  pub frames_moved : (r q : Reported) → HaveSameFrames r q → HasFrames bytes images layouts q
      → HasFrames bytes images layouts r
  frames_moved r q same h = record {
    core = h.core;
    dumped = h.dumped;
    is_dumped = h.is_dumped;
    programs = h.programs;
    are_programs = h.are_programs;
    known = h.known;
    is_known = h.is_known;
    told = subst (λ v. FirstTells (memory_in h.dumped) (sources_of h.known) (Ok (Some v))) (sym same.version) h.told;
    layout = h.layout;
    chosen = subst (λ v. IsChosen layouts v h.layout) (sym same.version) h.chosen;
    interpreter = h.interpreter;
    first = subst (λ v. IsFirstOf (in_maps h.dumped.maps) h.layout (memory_in h.dumped)
        (candidates_of h.known v h.layout (memory_in h.dumped)) h.interpreter) (sym same.version) h.first;
    walked = h.walked;
    are_walked = h.are_walked;
    threads = same.threads ∙ h.threads;
  }
