-- What was read is a footprint.
use Rattle.std.proofs.Common.{◌≡◌, ℕ, ◌<◌, ◌+◌, ◌^◌, List, [], length, refl, arith}
use Rattle.std.specs.Prelude.{All, Some, slice_get, get_or}
use Rattle.std.proofs.lemmas.List.Elements.{All-from_get_or}
use Rattle.std.proofs.lemmas.Option.{slice_get-get_or}
use Rattle.process_memory.specs.Layers.{plain, recorded}
use Rattle.process_memory.specs.Memory.{Region, byte_at}
use Rattle.process_memory.specs.Seen.{AddsOnly, HoldsRead, HoldsSpan, Seen}
use Rattle.process_memory.specs.declared.memory.Span.{Span}
use Rattle.process_memory.proofs.Reading.{reading_part}
use Rattle.py_builtins.specs.Consulted.{Consulting, IsConsulted}
use Rattle.py_stacks.specs.declared.config.Config.{Config}
use Rattle.py_stacks.specs.Threads.{Trace}
use Rattle.py_process.specs.Findings.{Finding}
use Rattle.py_process.specs.Reports.{HasStacks}
use Rattle.core_stacks.specs.Footprints.{IsFootprint}
use Rattle.core_stacks.specs.Reached.{finding_cost}

-- what holds of what stands at each place holds of each
each : (P : Span → Type 0) (ranges : List Span) → ((k : ℕ) (s : Span) → slice_get ranges k ≡ Some s → P s) → All P ranges
each P ranges f = All-from_get_or P ranges (record { start = 0; len = 0 })
    (λ i lt. f i (get_or ranges i (record { start = 0; len = 0 })) (slice_get-get_or ranges i (record { start = 0; len = 0 }) lt))

pub footprint_of : {s0 s1 : Seen} (pieces : List Region) (f : Finding) (config : Config) (traces : List Trace) (ranges : List Span)
    → s0 ≡ recorded (plain pieces) [] → s1.ranges ≡ Some ranges → s1.reads ≡ length ranges
    → Consulting f.layout (13 + finding_cost config (byte_at s0.pieces) f) s0 s1 (λ m. HasStacks m f config traces)
    → IsFootprint (byte_at pieces) f config traces ranges
footprint_of {s0} {s1} pieces f config traces ranges from to count r =
    let r' = rw from at r in
    let here : HoldsRead (Some []) (Some ranges) (byte_at pieces) (byte_at pieces) = rw to at r'.here in
    let only : AddsOnly (IsConsulted f.layout (byte_at pieces)) (Some []) (Some ranges) = rw to at r'.only in
    record {
      held = each (HoldsSpan (byte_at pieces)) ranges (λ k s at. here k s (omega arith) at);
      short = each (λ s. s.len < 2 ^ 16) ranges (λ k s at. (only k s (omega arith) at).short);
      consulted = each (IsConsulted f.layout (byte_at pieces)) ranges (λ k s at. only k s (omega arith) at);
      few = omega (arith, count, r'.cost);
      enough = λ part is. reading_part ranges part r' refl to is;
    }
