-- What a valid program is, and where its parts stand.
use Rattle.std.proofs.Common.{◌≡◌, ◌+◌, ◌<◌, ◌^◌, ℕ, List, refl, arith}
use Rattle.std.specs.Prelude.{Option, Some, None, IfSome, length, take, slice_get}
use Rattle.std.specs.List.{AllByRecursion, sum_by}
use Rattle.py_fields.specs.declared.layout.Layout.{Layout}
use Rattle.py_lines.specs.declared.lines.LineFamily.{LineFamily}
use Rattle.memory_builder.specs.Laid.{first_place}
use Rattle.memory_builder.specs.Program.{Program, Thread}
use Rattle.memory_builder.specs.Sizes.{program_size, shared_size, thread_size}
use Rattle.memory_builder.specs.Validity.{IsValidFrame, IsValidIn, IsValidProgram}
use Rattle.memory_builder.proofs.Lists.{somewhere_all}

in_thread : (family : LineFamily) (earlier : List Thread) (o : Option Thread)
    → ((frame : ℕ) → IfSome o (λ t. IsValidIn family earlier t frame))
    → IfSome o (λ t. AllByRecursion (IsValidFrame family) t.frames)
in_thread family earlier None h = tt
in_thread family earlier (Some t) h = somewhere_all (IsValidFrame family) t.frames (λ frame. (h frame).call)

-- all frames of a valid program are valid
pub frames_valid : (family : LineFamily) (p : Program) → IsValidProgram family p
    → AllByRecursion (λ (t : Thread). AllByRecursion (IsValidFrame family) t.frames) p.threads
frames_valid family p valid =
    somewhere_all (λ (t : Thread). AllByRecursion (IsValidFrame family) t.frames) p.threads
    (λ k. in_thread family (take k p.threads) (slice_get p.threads k) (λ frame. (valid k frame).within))

pub owner_valid : (family : LineFamily) (p : Program) → IsValidProgram family p
    → IfSome p.owner (λ k. k < length p.threads)
owner_valid family p valid = ((valid 0 0).whole refl refl).owner

-- the threads stand behind all else, and end where the program does
pub threads_fit : (l : Layout) (a : ℕ) (p : Program) → a + program_size l p < 2 ^ 62
    → first_place l a + sum_by (thread_size l) p.threads < 2 ^ 62
unfolding program_size shared_size
threads_fit l a p h = omega arith

-- the first thread stands behind what all share
pub first_is : (l : Layout) (a n : ℕ) → n ≡ shared_size l → a + n ≡ first_place l a
unfolding shared_size
first_is l a n is = omega (arith, is)
