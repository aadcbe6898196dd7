-- What is merged over images and without sources, as what the images answer for each address.
use Rattle.std.proofs.Common.{◌≡◌, ◌≤◌, ℕ, Bool, true, false, List, [], ◌∷◌, Option, Some, None, Result, Ok, Err, refl}
use Rattle.std.proofs.Common.{sym, ap, subst, ◌∙◌, arith, inl, inr, ⊎_elim, cond, rules}
use Rattle.std.specs.List.{AllZip}
use Rattle.std.specs.FinMap as finmap
use Rattle.std.specs.FinMap.{get-empty, get-insert}
use Rattle.std.proofs.lemmas.Bool.{cases_Bool}
use Rattle.std.proofs.lemmas.List.Sums.{sum_by-cons}
use Rattle.lru.specs.LruCache.{lru_cache}
use Rattle.outside.specs.Counts.{count_after}
use Rattle.py_process.specs.declared.binary.BinaryInfo.{BinaryInfo}
use Rattle.py_stacks.specs.declared.trace.Frame.{Frame}
use Rattle.native_merge.specs.ImageSymbols.{FilesMapped, image_seen}
use Rattle.native_merge.specs.KeptMaps.{AddsMap, Kept, asked_line, file_order, placed, told_of, translated}
use Rattle.native_merge.specs.KeptMaps.{translated_at, wants_map}
use Rattle.native_merge.specs.MapsOfFiles.{IsMapOfFile, MapOrNone}
use Rattle.native_merge.specs.Merges.{AreAnswered, HasRoom, ShowsMerged, is_python, StayTold, all_items, failed_count}
use Rattle.native_merge.specs.Merges.{has_lines, is_failed}
use Rattle.native_merge.specs.MergedStacks.{merged}
use Rattle.std.specs.Prelude.{Contains, IsErrOf}
use Rattle.native_merge.specs.Merges.AreAnswered.{More, NoMore}
use Rattle.native_merge.specs.PythonFrames.{calls, ends_part}
use Rattle.native_merge.specs.Sources.{SourcesSeen, Stay, no_sources}
use Rattle.native_merge.specs.SymbolCaches.{Answer, AreKnown, HeldFrames, IsToldAnswer}
use Rattle.native_merge.specs.Symbols.{SymbolsSeen}
use Rattle.native_merge.specs.TranslatedStacks.{AreTranslated, IsMergedStack, IsTranslated, TranslatesAnswer, calls_in}
use Rattle.native_merge.specs.TranslatedStacks.AreTranslated.{More as TranslatesMore, NoMore as TranslatesNone}
use Rattle.native_merge.specs.declared.merge_error.MergeError.{MergeError}
use Rattle.native_merge.specs.declared.merge_error.MergeError.TheVariants.{Mismatch, OutOfMemory as WantsMemory}
use Rattle.native_merge.specs.declared.symbol_fault.SymbolFault.TheVariants.{NoBinary, Failed, OutOfMemory}
use Rattle.native_merge.proofs.KeptByName.{file_order_total}
use Rattle.core_merge.specs.ImageMerges.{IsImageAnswer, IsImageMerge}

-- ---- the answers

module _ (files : FilesMapped) where
  image_answer : (addr : ℕ) (lines : Bool) (answer : Answer) → IsToldAnswer (image_seen files) addr lines answer
      → (answer ≡ Err NoBinary → (image_seen files).lacks addr) → HasRoom answer → is_failed answer ≡ false
      → IsImageAnswer files addr answer
  image_answer addr lines (Ok fs) told lacking room failed = told refl
  image_answer addr lines (Err NoBinary) told lacking room failed = lacking refl
  image_answer addr lines (Err Failed) told lacking room failed = absurd (cc)
  image_answer addr lines (Err OutOfMemory) told lacking room failed = absurd (room refl)

  none_failed : (answer : Answer) (answers : List Answer) → failed_count (answer ∷ answers) ≡ 0
      → (is_failed answer ≡ false) × (failed_count answers ≡ 0)
  none_failed (Ok fs) answers none = (refl, none)
  none_failed (Err NoBinary) answers none = (refl, none)
  none_failed (Err Failed) answers none = absurd (omega (arith, none, sum_by-cons (λ x. cond (is_failed x) 1 0) (Err Failed) answers))
  none_failed (Err OutOfMemory) answers none = (refl, none)

  image_answers : (python : ℕ → Bool) (held after : HeldFrames) (addrs : List ℕ) (answers : List Answer)
      → AreAnswered (image_seen files) python held addrs answers after
      → AllZip (λ addr answer. IsToldAnswer (image_seen files) addr (has_lines python addr) answer) addrs answers
      → failed_count answers ≡ 0 → AllZip (IsImageAnswer files) addrs answers
  image_answers python held after addrs answers NoMore told none = tt
  image_answers python held after (addr ∷ addrs) (answer ∷ answers) (More {mid = mid} h rest) told none =
      let both = none_failed answer answers none in (
        image_answer addr (has_lines python addr) answer told.0 h.lacking h.room both.0,
        image_answers python mid after addrs answers rest told.1 both.1,
      )

-- a count of faults that stays at none counts none
no_faults : (count now : ℕ) → count_after 0 count ≤ now → now ≡ 0 → count ≡ 0
no_faults count now le zero = omega (arith, le, zero)

-- ---- without sources

-- nothing that is kept tells of a line
abbrev TellsNothing : Kept → Type 0
TellsNothing kept = (name : List ℕ) (line : ℕ) → told_of (finmap.get kept name) line ≡ None

empty_tells : TellsNothing finmap.empty
empty_tells name line = ap (λ o. told_of o line) (get-empty file_order name)

inserted : (b : Bool) (answer : MapOrNone) (o : Option MapOrNone) (line : ℕ) → answer ≡ None → told_of o line ≡ None
    → told_of (cond b (Some answer) o) line ≡ None
inserted true answer o line is h = ap (λ a. told_of (Some a) line) is
inserted false answer o line is h = h

frame_stays : (kept : Kept) → TellsNothing kept → (frame : Frame) → translated kept frame ≡ frame
frame_stays kept none frame = at (asked_line frame) where
  at : (o : Option ℕ) → translated_at kept frame o ≡ frame
  at None = refl
  at (Some line) = ap (placed frame) (none frame.filename line)

-- sources of which none exists
abbrev AreNone : SourcesSeen → Type 0
AreNone seen = (path : List ℕ) → seen.exists path ≡ false

no_map : (seen : SourcesSeen) (path : List ℕ) (module_name : Option (List ℕ)) (answer : MapOrNone) → AreNone seen
    → IsMapOfFile seen path module_name answer → answer ≡ None
no_map seen path module_name answer none (inl h) = h.1
no_map seen path module_name answer none (inr h) = absurd (let clash = sym (none path) ∙ h.1.exists in cc)

tells_more : (seen now : SourcesSeen) (frame : Frame) (old new : Kept) → AreNone seen → TellsNothing old
    → AddsMap seen now frame old new → TellsNothing new
tells_more seen now frame old new none tells (inl k) = λ name line.
    let answer = no_map seen _ _ k.answer none k.right in
    ap (λ m. told_of (finmap.get m name) line) k.kept
    ∙ ap (λ o. told_of o line) (get-insert file_order_total old frame.filename k.answer name)
    ∙ inserted _ k.answer (finmap.get old name) line answer (tells name line)
tells_more seen now frame old new none tells (inr f) = absurd (let clash = sym (none _) ∙ f.0.exists in cc)

tells_after : (seen now : SourcesSeen) (frame shown : Frame) (old new : Kept) → AreNone seen → TellsNothing old
    → IsTranslated seen old frame now new shown → TellsNothing new
tells_after seen now frame shown old new none tells h = ⊎_elim
    (λ wants. tells_more seen now frame old new none tells (h.adds wants))
    (λ kept. subst TellsNothing (sym (h.same kept)) tells) (cases_Bool (wants_map old frame))

none_after : (seen now : SourcesSeen) → AreNone seen → Stay seen now → AreNone now
none_after seen now none stay = λ path. ap (λ e. e path) stay.exists ∙ none path

all_stay : (seen now : SourcesSeen) (kept new : Kept) (frames shown : List Frame) → AreNone seen → TellsNothing kept
    → AreTranslated seen kept frames now new shown → shown ≡ frames
all_stay seen now kept new frames shown none tells TranslatesNone = refl
all_stay seen now kept new (frame ∷ frames) (one ∷ shown) none tells (TranslatesMore {mid = mid} {between = between} h rest) =
    let tells_now = tells_after seen mid frame one kept between none tells h in
    ap (λ f. f ∷ shown) (h.frame_is ∙ frame_stays between tells_now frame)
    ∙ ap (λ fs. frame ∷ fs) (all_stay mid now between new frames shown (none_after seen mid none h.stay) tells_now rest)

answer_stays : (seen now : SourcesSeen) (kept new : Kept) (before answer : Result (List Frame) MergeError) → AreNone seen
    → TellsNothing kept → TranslatesAnswer seen kept before now new answer → answer ≡ before
answer_stays seen now kept new (Ok frames) (Ok shown) none tells h = ap (λ fs. Ok fs) (all_stay seen now kept new frames shown none tells h)
answer_stays seen now kept new (Ok frames) (Err e) none tells h = absurd h
answer_stays seen now kept new (Err e) (Ok shown) none tells h = absurd h
answer_stays seen now kept new (Err e) (Err d) none tells h = ap (λ x. Err x) h.0

-- ---- both

-- nothing is held yet
none_known : (seen : SymbolsSeen) (lines : ℕ → Bool) → AreKnown seen lines (lru_cache [] 65536)
none_known seen lines = record { each = λ addr f h. absurd (no h) } where
  no : {X : Type 0} {x : X} → Contains [] x → ⊥
  no h = search rules

pub images_merge : (files : FilesMapped) (new : SymbolsSeen) (now : SourcesSeen) (python : ℕ → Bool) (frames : List Frame)
    (addrs : List ℕ) (after : HeldFrames) (keeps : Kept) (answer : Result (List Frame) MergeError)
    → new.faults ≡ 0 → StayTold (image_seen files) python
    → IsMergedStack (image_seen files) new no_sources now python frames addrs (lru_cache [] 65536) after finmap.empty keeps answer
    → IsImageMerge files python (calls frames) addrs (calls_in answer)
images_merge files new now python frames addrs after keeps answer zero told h =
    let m = h.merges in
    let all = told (lru_cache [] 65536) addrs m.answers after m.each (none_known (image_seen files) (has_lines python)) in
    let none : AreNone h.mid = none_after no_sources h.mid (λ path. refl) h.stay in
    let same = answer_stays h.mid now finmap.empty keeps h.before answer none empty_tells h.translates in
    record {
      answers = m.answers;
      each = image_answers files python (lru_cache [] 65536) after addrs m.answers m.each all.told
          (no_faults (failed_count m.answers) new.faults m.faults zero);
      shows = subst (λ a. ShowsMerged (λ _. false) (merged ends_part (calls frames) (all_items python addrs m.answers)) (calls_in a))
          (sym same) m.shows;
    }

-- the same of a stack that was just made
pub stack_merges : (files symbols : FilesMapped) (new : SymbolsSeen) (now : SourcesSeen) (python libpython program library : Option BinaryInfo)
    (frames : List Frame) (addrs : List ℕ) (cache after : HeldFrames) (maps keeps : Kept) (answer : Result (List Frame) MergeError)
    → symbols ≡ files → program ≡ python → library ≡ libpython → cache ≡ lru_cache [] 65536 → maps ≡ finmap.empty
    → new.faults ≡ 0 → StayTold (image_seen symbols) (is_python program library)
    → IsMergedStack (image_seen symbols) new no_sources now (is_python program library) frames addrs cache after maps keeps answer
    → IsImageMerge files (is_python python libpython) (calls frames) addrs (calls_in answer)
stack_merges files symbols new now python libpython program library frames addrs cache after maps keeps answer is one two held kept zero told h =
    images_merge files new now (is_python python libpython) frames addrs after keeps answer zero
    (subst (λ s. StayTold (image_seen s) (is_python python libpython)) is
    (subst (λ p. StayTold (image_seen symbols) (is_python p libpython)) one
    (subst (λ l. StayTold (image_seen symbols) (is_python program l)) two told)))
    (subst (λ s. IsMergedStack (image_seen s) new no_sources now (is_python python libpython) frames addrs (lru_cache [] 65536) after finmap.empty keeps answer) is
    (subst (λ p. IsMergedStack (image_seen symbols) new no_sources now (is_python p libpython) frames addrs (lru_cache [] 65536) after finmap.empty keeps answer) one
    (subst (λ l. IsMergedStack (image_seen symbols) new no_sources now (is_python program l) frames addrs (lru_cache [] 65536) after finmap.empty keeps answer) two
    (subst (λ c. IsMergedStack (image_seen symbols) new no_sources now (is_python program library) frames addrs c after finmap.empty keeps answer) held
    (subst (λ m. IsMergedStack (image_seen symbols) new no_sources now (is_python program library) frames addrs cache after m keeps answer) kept h)))))

pub not_wanting : {T : Type 0} (x : T) → IsErrOf {T = T} {E = MergeError} (Ok x) WantsMemory → ⊥
not_wanting x e = cc

pub not_wanting_either : {T : Type 0} (steps count : ℕ) → IsErrOf {T = T} {E = MergeError} (Err (Mismatch steps count)) WantsMemory → ⊥
not_wanting_either steps count e = absurd (cc)
