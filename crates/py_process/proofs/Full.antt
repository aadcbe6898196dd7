-- A report that is right in all its fields is the report of its core, and there is one.
use Rattle.std.proofs.Common.{◌≡◌, ℕ, List, refl, ap, ◌∙◌, inr}
use Rattle.std.specs.Prelude.{None, Ok}
use Rattle.elf64_core.specs.Header.{machine_of}
use Rattle.image_memory.specs.Images.{Pushed}
use Rattle.process_memory.specs.Walk.{fault_in}
use Rattle.py_fields.specs.declared.layout.Layout.{Layout}
use Rattle.py_stacks.specs.Asking.{asked_of}
use Rattle.py_stacks.specs.declared.config.Config.{Config}
use Rattle.py_stacks.proofs.StackLaws.{stacks_same}
use Rattle.py_stacks.proofs.Wholes.{stacks_whole}
use Rattle.py_process.specs.Findings.{Finding, finding}
use Rattle.py_process.specs.Reports.{AsksNoOther, IsRight, ReportIs, Reported, fault_on, memory_in}
use Rattle.py_process.proofs.Agreement.{ok_is, ok_kept}
use Rattle.py_process.proofs.FindingLaws.{ChoosesOnce}
use Rattle.py_process.proofs.ReportLaws.{finds, report_agree}

module _ (bytes : List ℕ) (images : Pushed) (layouts : List Layout) (config : Config) (r : Reported)
    (h : IsRight bytes images layouts config r) where
  abbrev is_found : Finding
  is_found = finding r.version h.has.layout h.has.interpreter h.lock

  -- stacks that are whole meet no fault
  faultless : fault_on (memory_in h.has.dumped) is_found config ≡ None
  faultless =
      stacks_same (asked_of config) h.has.layout (memory_in h.has.dumped) h.lock h.has.interpreter
      ∙ ap fault_in (stacks_whole (asked_of config) h.has.layout (memory_in h.has.dumped) h.lock h.has.interpreter h.stacks.walked h.stacks.stacks)

  pub right_reports : AsksNoOther config → ReportIs bytes images layouts config (Ok r)
  right_reports asks =
      inr (
        h.has.dumped,
        (h.has.core, h.has.is_dumped),
        inr (
          is_found,
          finds (memory_in h.has.dumped) (machine_of bytes) h.has.dumped.maps images layouts is_found (record {
            programs = h.has.programs;
            are_programs = h.has.are_programs;
            known = h.has.known;
            is_known = h.has.is_known;
            told = h.has.told;
            chosen = h.has.chosen;
            first = h.has.first;
            lock = h.is_lock;
          }),
          inr (
            r.traces,
            record { asks = asks; faultless = faultless; are = h.stacks },
            (r, record { version_is = refl; traces_are = refl; notes = h.notes }, refl),
          ),
        ),
      )

-- two reports of one core and its images that are right are one, in all their fields
pub right_once : (bytes : List ℕ) (images : Pushed) (layouts : List Layout) (config : Config) → ChoosesOnce layouts
    → AsksNoOther config → (r q : Reported) → IsRight bytes images layouts config r
    → IsRight bytes images layouts config q → r ≡ q
right_once bytes images layouts config once asks r q one two =
    ok_is r q (report_agree bytes images layouts config once (Ok r) (Ok q)
    (right_reports bytes images layouts config r one asks) (right_reports bytes images layouts config q two asks)
    (ok_kept r) (ok_kept q))
