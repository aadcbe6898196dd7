-- What is told of the program of a seed. The form of the text is this project's own.
use Rattle.std.specs.Prelude.{◌≡◌, ℕ, List, [], ◌∷◌, codes, decimal, length, map}
use Rattle.std.specs.List.{concat, sum_by}
use Rattle.elf64_core.specs.declared.header.Machine.TheVariants.{X86_64}
use Rattle.py_fields.specs.Samples.{sample_layout}
use Rattle.py_fields.specs.Version.{release}
use Rattle.py_stacks.specs.Asking.{default_config}
use Rattle.py_stacks.specs.Threads.{Trace, trace_of}
use Rattle.py_stacks.specs.declared.trace.StackTrace.{StackTrace}
use Rattle.py_process.specs.Reports.{Reported}
use Rattle.memory_builder.specs.Program.{Program, Thread}
use Rattle.memory_builder.specs.Sizes.{capped}
use Rattle.image_builder.specs.Built.{built_core}
use Rattle.image_builder.specs.Generated.{generated}
use Rattle.image_builder.specs.Shown.{shown_report, without_addresses}

-- the core of the program of a seed, by the example of a layout, for version 3.9.0 and x86-64
abbrev pub sample_core : ℕ → List ℕ
sample_core seed = built_core sample_layout (release 3 9 0) X86_64 (generated seed)

-- three lines: a seed, and how many threads and frames there are
abbrev pub counts_text : (seed threads frames : ℕ) → List ℕ
counts_text seed threads frames = concat (codes "seed " ∷ decimal seed ∷ codes "\nthreads " ∷ decimal threads
    ∷ codes "\nframes " ∷ decimal frames ∷ codes "\n" ∷ [])

-- the same of a program
abbrev pub sample_text : ℕ → Program → List ℕ
sample_text seed p =
    counts_text seed (length p.threads) (sum_by (λ (t : Thread). length t.frames) p.threads)

-- ---- how they are counted

-- the report of the program of a seed, by the example of a layout, addresses of locals aside
abbrev pub IsSampleReport : ℕ → Reported → Type 0
IsSampleReport seed r =
    without_addresses r ≡ shown_report default_config sample_layout (release 3 9 0) (generated seed)

-- how many frames some threads have, as far as a u64 counts
abbrev pub frames_shown : List StackTrace → ℕ
frames_shown traces = capped (sum_by (λ (t : Trace). length t.frames) (map trace_of traces))
