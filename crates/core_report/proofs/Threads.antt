-- A thread of an opened process, merged with native addresses.
use Rattle.std.proofs.Common.{◌≡◌, ◌∷◌, ◌++◌, ◌≢◌, ◌⊎◌, [], ℕ, List, Ok, Err, Result, suc, zero, ap}
use Rattle.std.proofs.Common.{drop, inl, inr, length, map, refl, subst, sym, arith}
use Rattle.std.specs.Prelude.{IsErrOf, Option, Vec, option_map}
use Rattle.std.specs.Global.{Global}
use Rattle.image_memory.specs.Images.{Pushed}
use Rattle.image_memory.specs.Mmap.{whole_view}
use Rattle.py_fields.specs.declared.layout.Layout.{Layout}
use Rattle.py_layout.specs.File.{IsRightFor}
use Rattle.py_process.specs.Facts.{facts_of}
use Rattle.py_process.specs.declared.binary.BinaryInfo.{BinaryInfo}
use Rattle.py_stacks.specs.Asking.{default_config}
use Rattle.py_stacks.specs.Frames.{Call, call_of}
use Rattle.py_stacks.specs.Threads.{Trace}
use Rattle.py_stacks.specs.declared.trace.Frame.{Frame}
use Rattle.native_merge.specs.Merges.{is_python}
use Rattle.native_merge.specs.PythonFrames.{calls}
use Rattle.core_texts.specs.Text.{frames_text}
use Rattle.core_merge.specs.declared.error.CoreMergeError.{CoreMergeError}
use Rattle.core_merge.specs.declared.error.CoreMergeError.TheVariants as merging
use Rattle.core_report.specs.Merged.{python_in}
use Rattle.core_report.proofs.Binaries.{python_seen}
use Rattle.core_stacks.specs.Seen.{AreBinaries}
use Rattle.core_merge.specs.CoreMerges.{CoreMergeIs}
use Rattle.core_words.specs.Words.{Merge as AsksMerge}
use Rattle.core_report.specs.Outcome.{IsMergeOutcome, IsMergedBy, IsMergedFrom, IsMergedIn, merge_status, Outcome}
use Rattle.core_report.specs.Outcome.{images_by, images_read}
use Rattle.program_run.specs.Outcomes.{OutcomeThen}
use Rattle.core_report.specs.Stacked.{Stacked, StackedIs}
use Rattle.core_report.specs.declared.cause.Cause.TheVariants.{Layouts, Merge}

drop_images : (n : ℕ) (read : List (List ℕ)) (text : List ℕ) → length read ≡ n → drop n (read ++ text ∷ []) ≡ text ∷ []
drop_images zero [] text count = refl
drop_images zero (x ∷ read) text count = absurd (omega (arith, count))
drop_images (suc n) [] text count = absurd (omega (arith, count))
drop_images (suc n) (x ∷ read) text count = drop_images n read text (omega (arith, count))

images_front : (read : List (List ℕ)) (words : List (List ℕ × List ℕ)) (text : List ℕ) → length read ≡ length words
    → images_by (read ++ text ∷ []) words ≡ images_by read words
images_front [] [] text count = refl
images_front [] (w ∷ words) text count = absurd (omega (arith, count))
images_front (x ∷ read) [] text count = refl
images_front (x ∷ read) (w ∷ words) text count =
    ap (λ ps. (w.0, whole_view x) ∷ ps) (images_front read words text (omega (arith, count)))

-- what a merge comes to is what it comes to by the layouts, and by its images and addresses
pub merge_of : (m : AsksMerge) (core layouts : List ℕ) (read : List (List ℕ)) (text : List ℕ) → length read ≡ length m.images
    → (outcome : Outcome)
    → OutcomeThen (λ error. Layouts error) (IsRightFor layouts) (IsMergedBy m core (images_read m.images read) text) outcome
    → IsMergeOutcome m (core ∷ layouts ∷ (read ++ text ∷ [])) outcome
merge_of m core layouts read text count outcome h = (
  text,
  drop_images (length m.images) read text count,
  subst (λ p. OutcomeThen (λ error. Layouts error) (IsRightFor layouts) (IsMergedBy m core p text) outcome)
      (sym (images_front read m.images text count)) h,
)

-- what follows an opened process is what the command comes to
pub merged_over : (m : AsksMerge) (core layouts : List ℕ) (read : List (List ℕ)) (text : List ℕ) (pushed : Pushed) (list : List Layout)
    (s : Stacked) → length read ≡ length m.images → IsRightFor layouts (Ok list) → pushed ≡ images_read m.images read
    → StackedIs core pushed list default_config (Ok s) → (outcome : Outcome) → IsMergedIn m.index core pushed text s outcome
    → IsMergeOutcome m (core ∷ layouts ∷ (read ++ text ∷ [])) outcome
merged_over m core layouts read text pushed list s count says are opened outcome h =
    merge_of m core layouts read text count outcome
    (inr (list, says, subst (λ p. IsMergedBy m core p text list outcome) are (inr (s, opened, h))))

-- ---- one thread

module _ (core : List ℕ) (images : Pushed) (text : List ℕ) (thread : Trace) (program library : Option BinaryInfo)
    (are : AreBinaries core images (option_map facts_of program) (option_map facts_of library))
    (held : List ℕ) (frames : List Frame) (same : held ≡ core) (framed : calls frames ≡ thread.frames) where
  -- by the core and the frames of the process, and by what images say of Python's addresses
  as_merged : (r : Result (List Call) CoreMergeError) → CoreMergeIs held images (is_python program library) (calls frames) text r
      → CoreMergeIs core images (python_in (option_map facts_of program) (option_map facts_of library)) thread.frames text r
  as_merged r h =
      subst (λ fs. CoreMergeIs core images (python_in (option_map facts_of program) (option_map facts_of library)) fs text r) framed
      (subst (λ p. CoreMergeIs core images p (calls frames) text r) (python_seen program library)
      (subst (λ c. CoreMergeIs c images (is_python program library) (calls frames) text r) same h))

  pub merged_fails : (e : CoreMergeError)
      → IsErrOf {T = Vec Frame Global} (Err e) merging.OutOfMemory
      ⊎ CoreMergeIs held images (is_python program library) (calls frames) text (Err e)
      → merge_status e ≢ 5 → IsMergedFrom core images text thread (Err (Merge e))
  merged_fails e (inl wants) ne = absurd (ne (ap merge_status (wanted e wants)))
    where
      wanted : (e : CoreMergeError) → IsErrOf {T = Vec Frame Global} (Err e) merging.OutOfMemory → e ≡ merging.OutOfMemory
      wanted e h = cc
  merged_fails e (inr h) ne = (option_map facts_of program, option_map facts_of library, are, inl (e, refl, as_merged (Err e) h))

  pub merged_goes : (shown : Vec Frame Global) (bytes : List ℕ)
      → IsErrOf {T = Vec Frame Global} (Ok shown) merging.OutOfMemory
      ⊎ CoreMergeIs held images (is_python program library) (calls frames) text (Ok (map call_of shown.items))
      → bytes ≡ frames_text shown.items → IsMergedFrom core images text thread (Ok bytes)
  merged_goes shown bytes (inl wants) is = absurd (no_error wants)
    where
      no_error : IsErrOf {T = Vec Frame Global} {E = CoreMergeError} (Ok shown) merging.OutOfMemory → ⊥
      no_error h = cc
  merged_goes shown bytes (inr h) is = (
    option_map facts_of program,
    option_map facts_of library,
    are,
    inr (map call_of shown.items, as_merged (Ok (map call_of shown.items)) h, (shown.items, refl, ap Ok is)),
  )
