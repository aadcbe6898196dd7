-- What is left of the errors of stacks where the process was found.
use Rattle.std.proofs.Common.{ℕ, List, subst, inl, inr}
use Rattle.std.specs.Prelude.{Result, Ok, Err, IfErr, IfOk, Vec}
use Rattle.std.specs.Global.{Global}
use Rattle.process_memory.specs.Memory.{Fault, Memory}
use Rattle.py_stacks.specs.declared.config.Config.{Config}
use Rattle.py_stacks.specs.declared.trace.StackTrace.{StackTrace}
use Rattle.py_process.specs.Findings.{Finding}
use Rattle.py_process.specs.Reports.{MeetsFault, StacksSay, traces_in}
use Rattle.py_process.specs.Variables.{IsRestFault}
use Rattle.py_process.specs.declared.core_error.CoreError.{CoreError}
use Rattle.py_process.specs.declared.core_error.CoreError.TheVariants as core
use Rattle.process_memory.specs.declared.memory.Span.{Span}
use Rattle.core_stacks.specs.Footprints.{traces_with}
use Rattle.elf64_core.specs.Header.{machine_of}
use Rattle.image_memory.specs.Images.{Pushed}
use Rattle.process_memory.specs.Memory.{byte_at}
use Rattle.py_fields.specs.declared.layout.Layout.{Layout}
use Rattle.py_process.specs.Findings.{IsFound}
use Rattle.core_stacks.specs.Opened.{opened_first, opened_memory, IsFoundIn, IsLeft, Opened, Opens}
use Rattle.py_process.proofs.Dumped.{backed_once}
use Rattle.py_process.proofs.ReportLaws.{found_by}
use Rattle.core_stacks.proofs.PlainFaults.{Fails, IsPlain, locals_plain, holder_id_plain}
use Rattle.core_stacks.proofs.Unfaulted.{rest_fault}

-- a fault of the rest is no limit of threads or frames
pub limit_none : (m : Memory) (f : Finding) (config : Config) (fault : Fault) → IsRestFault m f config fault
    → IsPlain fault
limit_none m f config fault (inl e) = subst (λ x. Fails IsPlain x) e (holder_id_plain f.layout m f.addresses.lock)
limit_none m f config fault (inr (asked, h)) = locals_plain f.layout m h.member fault h.first

module _ (o : Opened) (config : Config) (found : IsFoundIn o) where
  rest : (fault : Fault) → MeetsFault (opened_memory o) o.finding config fault
      → IsRestFault (opened_memory o) o.finding config fault
  rest fault h = rest_fault (opened_memory o) o.finding config fault found.is.first.is.is h.first

  no_limit : (fault : Fault) → MeetsFault (opened_memory o) o.finding config fault → IsPlain fault
  no_limit fault h = limit_none (opened_memory o) o.finding config fault (rest fault h)

  left : (e : CoreError) → StacksSay (opened_memory o) o.finding config (Err e) → IsLeft o config e
  left core.NativeUnsupported h = tt
  left core.SubprocessesUnsupported h = tt
  left core.OutOfMemory h = tt
  left (core.Unreadable addr len) h = rest _ h
  left (core.BadValue frame) h = rest _ h
  left (core.LocalsLimit count) h = rest _ h
  left core.ThreadLimit h = no_limit _ h
  left core.FrameLimit h = no_limit _ h
  left core.ChainLimit h = no_limit _ h
  left _ h = absurd h

pub found_left : (o : Opened) (config : Config) (r : Result (Vec StackTrace Global) CoreError) → IsFoundIn o
    → StacksSay (opened_memory o) o.finding config (traces_in r) → IfErr r (IsLeft o config)
found_left o config (Ok v) found h = tt
found_left o config (Err e) found h = left o config found e h

pub footprint_left : (o : Opened) (config : Config) (r : Result (Vec StackTrace Global × Vec Span Global) CoreError)
    → IsFoundIn o
    → StacksSay (opened_memory o) o.finding config (traces_with r) → IfErr r (IsLeft o config)
footprint_left o config (Ok x) found h = tt
footprint_left o config (Err e) found h = left o config found e h

-- what is opened was found
pub found_in : (bytes : List ℕ) (images : Pushed) (layouts : List Layout) (r : Result Opened CoreError)
    → Opens bytes images layouts r
    → IfOk r IsFoundIn
found_in bytes images layouts (Ok o) h =
    let d = h.finds.dumped in
    record {
      machine = machine_of bytes;
      maps = d.maps;
      images = images;
      layouts = layouts;
      is = subst (λ ps. IsFound (byte_at ps) (machine_of bytes) d.maps images layouts o.finding)
          (backed_once bytes images d.pieces o.pieces h.finds.is_dumped.memory h.memory)
          (found_by (byte_at d.pieces) (machine_of bytes) d.maps images layouts o.finding h.finds.is);
    }
found_in bytes images layouts (Err e) h = tt

pub found_in_pair : {B : Type 0} (bytes : List ℕ) (images : Pushed) (layouts : List Layout) (r : Result (Opened × B) CoreError)
    → Opens bytes images layouts (opened_first r) → IfOk r (λ opened. IsFoundIn opened.0)
found_in_pair bytes images layouts (Ok opened) h = found_in bytes images layouts (Ok opened.0) h
found_in_pair bytes images layouts (Err e) h = tt
