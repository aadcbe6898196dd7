-- Cores that are read and judged one after the other.
use Rattle.std.proofs.Common.{◌≡◌, ◌≢◌, ◌<◌, ◌≤◌, ◌+◌, ℕ, zero, suc, List, [], ◌∷◌, ◌++◌, length, get_or, map, take}
use Rattle.std.proofs.Common.{refl, sym, ap, subst, ◌∙◌, arith, inl, append_assoc, length-append, Some, Ok}
use Rattle.std.proofs.Common.{Err}
use Rattle.std.specs.Borrow.{Bor}
use Rattle.std.specs.Global.{Global}
use Rattle.std.specs.Prelude.{Result, String, option_map, slice_get, string_bytes}
use Rattle.std.proofs.lemmas.Option.{same_Some, slice_get-map, slice_get_past, slice_get_read, slice_get_within}
use Rattle.std.proofs.lemmas.List.{append-nil, map-append, length-map, take_all, take_more}
use Rattle.std.proofs.lemmas.List.Concat.{flat_map-append}
use Rattle.image_memory.specs.Images.{Pushed}
use Rattle.outside.specs.Files.{FilesSeen, Told, Gives}
use Rattle.py_fields.specs.declared.layout.Layout.{Layout}
use Rattle.py_stacks.specs.Asking.{default_config}
use Rattle.py_stacks.specs.declared.config.Config.{Config}
use Rattle.py_process.specs.Reports.{ReportIs, reported_of}
use Rattle.py_process.specs.declared.core_error.CoreError.{CoreError}
use Rattle.py_process.specs.declared.core_error.CoreError.TheVariants as core
use Rattle.py_process.specs.declared.report.Report.{Report}
use Rattle.core_triage.specs.Groups.{IsGrouping, groups_of}
use Rattle.core_triage.specs.Keys.{compared_in, compared_of, same_key}
use Rattle.core_triage.specs.declared.key.StackKey.{StackKey}
use Rattle.core_words.specs.Words.{Triage, kept_files, texts, triage}
use Rattle.core_report.specs.Grouped.{AreJudged, IsGroupedText, IsJudgedRight, Judged, groups_text, name_by, names_in}
use Rattle.core_report.specs.Grouped.{refusal_by, refusals_in, refusals_text, stacks_by, stacks_in}
use Rattle.core_report.specs.Judging.{Keeps, kept_names, kept_refusals, refusal_seen}
use Rattle.core_report.specs.Reading.{AsksCores, IsAll, IsNext, IsRead, StopsTriage}
use Rattle.core_report.specs.Run.{HasJudged}
use Rattle.core_report.specs.declared.judged.JudgedCores.{JudgedCores}
use Rattle.core_report.proofs.Turns.{get-behind, more}

-- ---- what is kept

err_same : (a b : CoreError) → ◌≡◌ {A = Result Report CoreError} (Err a) (Err b) → a ≡ b
err_same a b is = cc

pub keeps_none : (kept : JudgedCores) → kept.names.items ≡ [] → kept.keys.items ≡ [] → kept.refusals.items ≡ [] → Keeps [] kept
keeps_none kept names keys refusals = record {
  names = ap (λ l. map (λ (n : Bor (List ℕ)). n.now) l) names;
  stacks = ap (λ l. map compared_in l) keys;
  refusals = ap (λ l. map refusal_seen l) refusals;
}

pub keeps_report : (cores : List Judged) (old new : JudgedCores) (name : Bor (List ℕ)) (report : Report) (key : StackKey) → Keeps cores old
    → new.names.items ≡ old.names.items ++ name ∷ [] → new.keys.items ≡ old.keys.items ++ key ∷ [] → new.refusals.items ≡ old.refusals.items
    → compared_in key ≡ compared_of report.traces.items → Keeps (cores ++ (record { name = name.now; answer = Ok report }) ∷ []) new
keeps_report cores old new name report key keeps names keys refusals same =
    let core : Judged = record { name = name.now; answer = Ok report } in
    record {
      names = ap (λ l. map (λ (n : Bor (List ℕ)). n.now) l) names ∙ map-append (λ (n : Bor (List ℕ)). n.now) old.names.items (name ∷ [])
          ∙ ap (λ l. l ++ name.now ∷ []) keeps.names ∙ sym (flat_map-append (λ (c : Judged). name_by c.name c.answer) cores (core ∷ []));
      stacks = ap (λ l. map compared_in l) keys ∙ map-append compared_in old.keys.items (key ∷ [])
          ∙ ap (λ l. l ++ compared_in key ∷ []) keeps.stacks ∙ ap (λ s. stacks_in cores ++ s ∷ []) same
          ∙ sym (flat_map-append (λ (c : Judged). stacks_by c.answer) cores (core ∷ []));
      refusals = ap (λ l. map refusal_seen l) refusals ∙ keeps.refusals ∙ sym (append-nil (refusals_in cores))
          ∙ sym (flat_map-append (λ (c : Judged). refusal_by c.name c.answer) cores (core ∷ []));
    }

pub keeps_refusal : (cores : List Judged) (old new : JudgedCores) (name : Bor (List ℕ)) (error : CoreError) → Keeps cores old
    → new.names.items ≡ old.names.items → new.keys.items ≡ old.keys.items → new.refusals.items ≡ old.refusals.items ++ (name, error) ∷ []
    → Keeps (cores ++ (record { name = name.now; answer = Err error }) ∷ []) new
keeps_refusal cores old new name error keeps names keys refusals =
    let core : Judged = record { name = name.now; answer = Err error } in
    record {
      names = ap (λ l. map (λ (n : Bor (List ℕ)). n.now) l) names ∙ keeps.names ∙ sym (append-nil (names_in cores))
          ∙ sym (flat_map-append (λ (c : Judged). name_by c.name c.answer) cores (core ∷ []));
      stacks = ap (λ l. map compared_in l) keys ∙ keeps.stacks ∙ sym (append-nil (stacks_in cores))
          ∙ sym (flat_map-append (λ (c : Judged). stacks_by c.answer) cores (core ∷ []));
      refusals = ap (λ l. map refusal_seen l) refusals ∙ map-append refusal_seen old.refusals.items ((name, error) ∷ [])
          ∙ ap (λ l. l ++ (name.now, error) ∷ []) keeps.refusals ∙ sym (flat_map-append (λ (c : Judged). refusal_by c.name c.answer) cores (core ∷ []));
    }

-- ---- what a core is judged by

pub judged_ok : (images : Pushed) (layouts : List Layout) (bytes : List ℕ) (config : Config) (report : Report) → config ≡ default_config
    → ReportIs bytes images layouts config (Ok (reported_of report)) → IsJudgedRight images layouts bytes (Ok report)
judged_ok images layouts bytes config report same right = record {
  right = subst (λ c. ReportIs bytes images layouts c (Ok (reported_of report))) same right;
  not_memory = λ is. cc is;
}

pub judged_err : (images : Pushed) (layouts : List Layout) (bytes : List ℕ) (config : Config) (error : CoreError) → config ≡ default_config
    → ReportIs bytes images layouts config (Err error) → error ≢ core.OutOfMemory → IsJudgedRight images layouts bytes (Err error)
judged_err images layouts bytes config error same right ne = record {
  right = subst (λ c. ReportIs bytes images layouts c (Err error)) same right;
  not_memory = λ is. ne (err_same error core.OutOfMemory is);
}

-- ---- cores in turn

judged_count : (images : Pushed) (layouts : List Layout) (contents : List (List ℕ)) (cores : List Judged) → AreJudged images layouts contents cores
    → length contents ≡ length cores
judged_count images layouts [] [] are = refl
judged_count images layouts [] (c ∷ cores) are = absurd are
judged_count images layouts (b ∷ contents) [] are = absurd are
judged_count images layouts (b ∷ contents) (c ∷ cores) are = ap suc (judged_count images layouts contents cores are.1)

judged_more : (images : Pushed) (layouts : List Layout) (contents : List (List ℕ)) (cores : List Judged) (bytes : List ℕ) (core : Judged)
    → AreJudged images layouts contents cores → IsJudgedRight images layouts bytes core.answer
    → AreJudged images layouts (contents ++ bytes ∷ []) (cores ++ core ∷ [])
judged_more images layouts [] [] bytes core are right = (right, tt)
judged_more images layouts [] (c ∷ cores) bytes core are right = absurd are
judged_more images layouts (b ∷ contents) [] bytes core are right = absurd are
judged_more images layouts (b ∷ contents) (c ∷ cores) bytes core are right = (are.0, judged_more images layouts contents cores bytes core are.1 right)

get_of : (xs : List (List ℕ)) (n : ℕ) (x : List ℕ) → slice_get xs n ≡ Some x → get_or xs n x ≡ x
get_of [] n x is = refl
get_of (y ∷ xs) zero x is = same_Some y x is
get_of (y ∷ xs) (suc n) x is = get_of xs n x is

take_get : (xs : List (List ℕ)) (n : ℕ) (x : List ℕ) → slice_get xs n ≡ Some x → take (n + 1) xs ≡ take n xs ++ x ∷ []
take_get xs n x is = take_more xs n x (slice_get_within xs n x is) ∙ ap (λ z. take n xs ++ z ∷ []) (get_of xs n x is)

kept_count : (t : Triage) (before : List (List ℕ)) → AsksCores t before → length before ≡ length (kept_files (triage t))
kept_count t before asks = ap length asks.are ∙ ap suc (asks.count ∙ sym (length-map t.images (λ (image : List ℕ × List ℕ). image.1)))

core_next : (t : Triage) (before contents : List (List ℕ)) (name : List ℕ) (n : ℕ) → AsksCores t before → length contents ≡ n
    → slice_get t.cores n ≡ Some name → IsNext (triage t) (before ++ contents) name
core_next t before contents name n asks count is = record {
  named = get-behind (kept_files (triage t)) t.cores n (length (before ++ contents)) place ∙ is;
  goes_on = λ stops. asks.flawless (subst (λ b. StopsTriage t (b ++ contents)) asks.are stops).1;
}
  where
    place : length (before ++ contents) ≡ length (kept_files (triage t)) + n
    place = omega (arith, length-append before contents, kept_count t before asks, count)

-- so many cores were read and judged
pub record SoFar (told : Told) (t : Triage) (before : List (List ℕ)) (images : Pushed) (layouts : List Layout) (n : ℕ)
    (kept : JudgedCores) : Type 0 where
  pub cores : List Judged
  pub contents : List (List ℕ)
  pub named : map (λ c. c.name) cores ≡ take n t.cores
  pub count : length cores ≡ n
  pub judged : AreJudged images layouts contents cores
  pub keeps : Keeps cores kept
  pub read : IsRead told (triage t) (before ++ contents)

module _ (told : Told) (t : Triage) (before : List (List ℕ)) (images : Pushed) (layouts : List Layout) where
  pub so_far_first : (kept : JudgedCores) → Keeps [] kept → IsRead told (triage t) before → SoFar told t before images layouts 0 kept
  so_far_first kept keeps read = record {
    cores = [];
    contents = [];
    named = refl;
    count = refl;
    judged = tt;
    keeps = keeps;
    read = subst (λ c. IsRead told (triage t) c) (sym (append-nil before)) read;
  }

  pub so_far_asks : (n : ℕ) (kept : JudgedCores) (far : SoFar told t before images layouts n kept) (name : List ℕ) → AsksCores t before
      → slice_get t.cores n ≡ Some name → IsNext (triage t) (before ++ far.contents) name
  so_far_asks n kept far name asks is = core_next t before far.contents name n asks (judged_count images layouts far.contents far.cores far.judged ∙ far.count) is

  pub so_far_next : (now : Told) (n : ℕ) (kept next : JudgedCores) (far : SoFar told t before images layouts n kept) (name bytes : List ℕ) (core : Judged)
      → AsksCores t before → slice_get t.cores n ≡ Some name → now ≡ told → Gives now name bytes → core.name ≡ name
      → IsJudgedRight images layouts bytes core.answer → Keeps (far.cores ++ core ∷ []) next → SoFar told t before images layouts (n + 1) next
  so_far_next now n kept next far name bytes core asks is same gives named right keeps = record {
    cores = far.cores ++ core ∷ [];
    contents = far.contents ++ bytes ∷ [];
    named = map-append (λ (c : Judged). c.name) far.cores (core ∷ []) ∙ ap (λ l. l ++ core.name ∷ []) far.named
        ∙ ap (λ x. take n t.cores ++ x ∷ []) named ∙ sym (take_get t.cores n name is);
    count = omega (arith, length-append far.cores (core ∷ []), far.count);
    judged = judged_more images layouts far.contents far.cores bytes core far.judged right;
    keeps = keeps;
    read = subst (λ c. IsRead told (triage t) c) (append_assoc before far.contents (bytes ∷ []))
        (more told now (triage t) (before ++ far.contents) name bytes far.read (so_far_asks n kept far name asks is) same gives);
  }

  pub so_far_all : (old new : FilesSeen) (n : ℕ) (kept : JudgedCores) → old.told ≡ told → SoFar told t before images layouts n kept → length t.cores ≤ n
      → new.failed ≡ old.failed → HasJudged old new t before images layouts kept
  so_far_all old new n kept same far all failed = record {
    cores = far.cores;
    contents = far.contents;
    named = far.named ∙ take_all n t.cores all;
    judged = far.judged;
    keeps = far.keeps;
    first = record { read = subst (λ x. IsRead x (triage t) (before ++ far.contents)) (sym same) far.read; failed = failed };
  }

pub core_at : (cores : List (String Global)) (i : ℕ) (item : String Global) (name : List ℕ) → i < length cores → item ≡ get_or cores i item
    → name ≡ string_bytes item → slice_get (texts cores) i ≡ Some name
core_at cores i item name lt at is =
    slice_get-map (λ (w : String Global). string_bytes w) cores i
    ∙ ap (λ o. option_map (λ (w : String Global). string_bytes w) o) (slice_get_read cores (length cores) i item refl lt at) ∙ ap Some (sym is)

-- ---- the text

-- no core is asked for after all of them
pub all_cores : (old new : FilesSeen) (t : Triage) (before : List (List ℕ)) (images : Pushed) (layouts : List Layout) (kept : JudgedCores) → AsksCores t before
    → (has : HasJudged old new t before images layouts kept) → IsAll (triage t) (before ++ has.contents)
all_cores old new t before images layouts kept asks has = inl (slice_get_past (kept_files (triage t) ++ t.cores) (length (before ++ has.contents)) (omega (
  arith,
  length-append before has.contents,
  kept_count t before asks,
  length-append (kept_files (triage t)) t.cores,
  judged_count images layouts has.contents has.cores has.judged,
  ap length has.named,
  length-map has.cores (λ (c : Judged). c.name),
)))

pub grouped_text : (old new : FilesSeen) (t : Triage) (before : List (List ℕ)) (images : Pushed) (layouts : List Layout) (kept : JudgedCores) (text : List ℕ)
    → (has : HasJudged old new t before images layouts kept)
    → text ≡ groups_text (kept_names kept) 1 (groups_of same_key kept.keys.items) ++ refusals_text (kept_refusals kept)
    → IsGrouping (λ a b. a ≡ b) (map compared_in kept.keys.items) (groups_of same_key kept.keys.items)
    → IsGroupedText t.cores images layouts has.contents text
grouped_text old new t before images layouts kept text has is groups = record {
  cores = has.cores;
  named = has.named;
  judged = has.judged;
  keys = kept.keys.items;
  keys_are = has.keeps.stacks;
  grouped = subst (λ stacks. IsGrouping (λ a b. a ≡ b) stacks (groups_of same_key kept.keys.items)) has.keeps.stacks groups;
  text_is = is ∙ ap (λ names. groups_text names 1 (groups_of same_key kept.keys.items) ++ refusals_text (kept_refusals kept)) has.keeps.names
      ∙ ap (λ rs. groups_text (names_in has.cores) 1 (groups_of same_key kept.keys.items) ++ refusals_text rs) has.keeps.refusals;
}
