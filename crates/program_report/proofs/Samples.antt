-- The program of a seed is always written for the example of a layout, and its report has its threads and frames.
use Rattle.std.proofs.Common.{◌≡◌, ◌∙◌, ℕ, ◌+◌, ◌*◌, ◌<◌, ◌≤◌, ◌^◌, Bool, true, false, zero, suc, List, [], ◌∷◌, length}
use Rattle.std.proofs.Common.{map, refl, ap, ap₂, sym, arith, inl, rules}
use Rattle.std.specs.Prelude.{Option, None, if◌then◌else◌}
use Rattle.std.specs.List.{sum_by}
use Rattle.std.proofs.lemmas.List.{length-map}
use Rattle.std.proofs.lemmas.List.Sums.{sum_by-cons, sum_by_push}
use Rattle.elf64_core.specs.declared.header.Machine.TheVariants.{X86_64}
use Rattle.py_fields.specs.Samples.{sample_layout}
use Rattle.py_fields.specs.declared.layout.Layout.{Layout}
use Rattle.py_lines.specs.declared.lines.LineFamily.TheVariants.{Pairs}
use Rattle.py_fields.specs.Version.{release}
use Rattle.py_fields.specs.declared.version.Version.{Version}
use Rattle.py_stacks.specs.Asking.{default_config}
use Rattle.py_stacks.specs.Threads.{Trace}
use Rattle.py_stacks.specs.declared.config.Config.{Config}
use Rattle.py_process.specs.Reports.{AsksNoOther, Reported}
use Rattle.object_builder.specs.Room.{HasRoom}
use Rattle.object_builder.specs.Sizes.{all_under, is_short_headed, rounded, text_len}
use Rattle.object_builder.specs.Texts.{IsBriefText}
use Rattle.memory_builder.specs.Program.{Frame, Program, Thread}
use Rattle.memory_builder.specs.Sizes.{frame_size, held_size, item_size, local_size, name_size, program_size}
use Rattle.memory_builder.specs.Sizes.{records_size, shared_size, table_len, thread_size}
use Rattle.memory_builder.specs.Validity.{IsValidFrame}
use Rattle.image_builder.specs.Built.{built_core}
use Rattle.image_builder.specs.Covered.{IsCovered}
use Rattle.image_builder.specs.Generated.{each, frame_count, frame_of, generated, thread_of}
use Rattle.image_builder.specs.Refusals.{IsUnbuilt, room_for}
use Rattle.image_builder.specs.RuntimeWords.{HasWordRoom}
use Rattle.image_builder.specs.Shown.{is_owner, shown_frames, shown_thread, shown_threads, unplaced_call}
use Rattle.image_builder.specs.Shown.{unplaced_trace}
use Rattle.image_builder.specs.declared.error.BuildError.{BuildError}
use Rattle.image_builder.specs.declared.error.BuildError.TheVariants.{Uncovered, NotValid, NoRoom, OutOfMemory}
use Rattle.image_builder.proofs.EachAt.{length_each}
use Rattle.image_builder.proofs.GeneratedValid.{frame_valid, generated_valid}
use Rattle.program_report.specs.Samples.{IsSampleReport, sample_core}

pub sample_room : HasRoom sample_layout
sample_room = record {
  number = search rules;
  text = search rules;
  list = search rules;
  short_at = omega arith;
  long_at = omega arith;
}

pub sample_words : HasWordRoom sample_layout X86_64 (release 3 9 0)
sample_words = tt

pub default_asks : AsksNoOther default_config
default_asks = record { native = refl; subprocesses = refl }

pub sample_covered : IsCovered sample_layout (release 3 9 0) X86_64 None
sample_covered = record {
  covers = record { major = refl; first = omega arith; last = omega arith };
  numbered = record {
    major = omega arith;
    minor = omega arith;
    patch = omega arith;
    flags = (0xF0, inl (refl, refl));
    plain = refl;
  };
  lock = λ some. absurd (let h : _ = some in cc);
}

-- ---- how much room it takes

rounded_most : (n : ℕ) → rounded n ≤ n + 15
rounded_most n = omega arith

width_most : (b c : Bool) (n : ℕ) → n < 4096 → (if b then 1 else (if c then 2 else 4)) * n ≤ 16380
width_most true c n few = omega (arith, few)
width_most false true n few = omega (arith, few)
width_most false false n few = omega (arith, few)

-- a brief text has at most 16380 bytes, behind 72 at most
text_most : (cs : List ℕ) → IsBriefText cs → text_len sample_layout cs ≤ 16452
unfolding text_len
text_most cs brief = by (is_short_headed sample_layout.strings cs) refl
  where
    by : (b : Bool) → is_short_headed sample_layout.strings cs ≡ b → text_len sample_layout cs ≤ 16452
    by true e = rw e (omega (arith, brief.bytes))
    by false e = rw e (omega (arith, width_most (all_under 0x100 cs) (all_under 0x1_0000 cs) (length cs) brief.chars))

sum_each : {X : Type 0} (size : X → ℕ) (f : ℕ → X) (most n : ℕ) → ((k : ℕ) → k < n → size (f k) ≤ most) → sum_by size (each f n) ≤ n * most
unfolding each
sum_each size f most zero h = omega arith
sum_each size f most (suc n) h =
    omega (arith, sum_by_push size (each f n) (f n), sum_each size f most n (λ k small. h k (omega (arith, small))), h n (omega arith))

frame_most : (seed t j : ℕ) → IsValidFrame Pairs (frame_of seed t j) → frame_size sample_layout (frame_of seed t j) ≤ 150000
unfolding frame_size records_size name_size local_size held_size item_size
frame_most seed t j valid =
    let x = valid.locals.each.0.name in
    let y = valid.locals.each.1.0.name in
    let s = valid.locals.each.1.0.value.1.0 in
    omega (
      arith,
      rounded_most (table_len sample_layout (frame_of seed t j)),
      valid.codable.short,
      rounded_most (text_len sample_layout (frame_of seed t j).filename),
      text_most (frame_of seed t j).filename valid.named.filename,
      rounded_most (text_len sample_layout (frame_of seed t j).name),
      text_most (frame_of seed t j).name valid.named.name,
      text_most _ x,
      text_most _ y,
      text_most _ s,
    )

thread_most : (seed t : ℕ) → t < 256 → thread_size sample_layout (thread_of seed t) ≤ 2400064
unfolding thread_size
thread_most seed t few =
    let frames = sum_each (frame_size sample_layout) (frame_of seed t) 150000 (frame_count seed t)
    (λ j small. frame_most seed t j (frame_valid Pairs seed t j few (omega (arith, small)))) in
    omega (arith, frames)

program_most : (seed : ℕ) → program_size sample_layout (generated seed) ≤ 614417408
unfolding program_size generated shared_size
program_most seed = omega (arith, sum_each (thread_size sample_layout) (thread_of seed) 2400064 256 (λ t few. thread_most seed t few))

pub room_most : (seed : ℕ) → room_for sample_layout (generated seed) ≤ 2 ^ 30
room_most seed = omega (arith, program_most seed)

-- why it isn't written
pub unbuilt_is : (seed : ℕ) (e : BuildError) → IsUnbuilt sample_layout (release 3 9 0) X86_64 (generated seed) e → e ≡ OutOfMemory
unfolding generated
unbuilt_is seed Uncovered h = absurd (h sample_covered)
unbuilt_is seed (NotValid thread frame) h = absurd (h.first.fails (generated_valid Pairs seed thread frame))
unbuilt_is seed (NoRoom needed) h = absurd (omega (arith, h.beyond, h.needed_is, room_most seed))
unbuilt_is seed OutOfMemory h = refl

-- what is written for the example of a layout is the core of this program
pub core_is : (seed : ℕ) (l : Layout) (v : Version) (p : Program) (bytes : List ℕ) → l ≡ sample_layout
    → v ≡ release 3 9 0 → p ≡ generated seed → bytes ≡ built_core l v X86_64 p → bytes ≡ sample_core seed
core_is seed l v p bytes layout version program is = rw (is, layout, version, program) refl

-- ---- what is counted

abbrev pub frames_of : List Trace → ℕ
frames_of ts = sum_by (λ (t : Trace). length t.frames) ts

length-shown : (c : Config) (fs : List Frame) → length (shown_frames c fs) ≡ length fs
length-shown c [] = refl
length-shown c (f ∷ fs) = ap suc (length-shown c fs)

shown_len : (c : Config) (l : Layout) (owner : Option ℕ) (i : ℕ) (ts : List Thread) → length (shown_threads c l owner i ts) ≡ length ts
shown_len c l owner i [] = refl
shown_len c l owner i (t ∷ ts) = ap suc (shown_len c l owner (i + 1) ts)

shown_sum : (c : Config) (l : Layout) (owner : Option ℕ) (i : ℕ) (ts : List Thread)
    → frames_of (shown_threads c l owner i ts) ≡ sum_by (λ (t : Thread). length t.frames) ts
shown_sum c l owner i [] = refl
shown_sum c l owner i (t ∷ ts) =
    sum_by-cons (λ (t : Trace). length t.frames) (shown_thread c l (is_owner owner i) t) (shown_threads c l owner (i + 1) ts)
    ∙ ap₂ (λ a b. a + b) (length-shown c t.frames) (shown_sum c l owner (i + 1) ts)
    ∙ sym (sum_by-cons (λ (t : Thread). length t.frames) t ts)

unplaced_sum : (ts : List Trace) → frames_of (map unplaced_trace ts) ≡ frames_of ts
unplaced_sum [] = refl
unplaced_sum (t ∷ ts) =
    sum_by-cons (λ (t : Trace). length t.frames) (unplaced_trace t) (map unplaced_trace ts)
    ∙ ap₂ (λ a b. a + b) (length-map t.frames unplaced_call) (unplaced_sum ts)
    ∙ sym (sum_by-cons (λ (t : Trace). length t.frames) t ts)

module _ (seed : ℕ) (r : Reported) (is : IsSampleReport seed r) where
  pub threads_counted : length r.traces ≡ length (generated seed).threads
  threads_counted = sym (length-map r.traces unplaced_trace) ∙ ap (λ (x : Reported). length x.traces) is
      ∙ shown_len default_config sample_layout (generated seed).owner 0 (generated seed).threads

  pub frames_counted : frames_of r.traces ≡ sum_by (λ (t : Thread). length t.frames) (generated seed).threads
  frames_counted = sym (unplaced_sum r.traces) ∙ ap (λ (x : Reported). frames_of x.traces) is
      ∙ shown_sum default_config sample_layout (generated seed).owner 0 (generated seed).threads

pub frames_few : (seed : ℕ) → sum_by (λ (t : Thread). length t.frames) (generated seed).threads < 2 ^ 64
unfolding generated
frames_few seed = omega (
  arith,
  sum_each (λ (t : Thread). length t.frames) (thread_of seed) 16 256
      (λ t few. omega (arith, length_each (frame_of seed t) (frame_count seed t))),
)
