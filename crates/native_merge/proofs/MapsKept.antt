-- What is kept of maps stays right, wherever the frames' translation stopped.
use Rattle.std.proofs.Common.{◌≡◌, ◌⊎◌, ℕ, Bool, true, false, not, List, inl, inr, refl, sym, ◌∙◌, ap, subst, cond}
use Rattle.std.specs.Prelude.{Option, Some, None, IfSome, is_some, encode_utf8_all}
use Rattle.std.specs.Cmp.Lexicographic.{bytes_decides}
use Rattle.std.specs.FinMap as map
use Rattle.std.specs.Ordering.{eq_by_cmp}
use Rattle.std.proofs.lemmas.Bool.{true≢false, cases_Bool, and_parts, not-true}
use Rattle.std.proofs.lemmas.Map.Text.{is_eq-slice_cmp}
use Rattle.std.proofs.lemmas.Str.{encodes_same}
use Rattle.outside.specs.Files.{Gives}
use Rattle.py_stacks.specs.declared.trace.Frame.{Frame}
use Rattle.native_merge.specs.KeptMaps.{AddsMap, Kept, KeepsMap, MapsStay, asked_line, file_order, module_of, wants_map}
use Rattle.native_merge.specs.MapsOfFiles.{IsMapOfBytes, IsMapOfFile, MapOrNone}
use Rattle.native_merge.specs.Paths.{cython_file}
use Rattle.native_merge.specs.Sources.{SourcesSeen, Stay}
use Rattle.native_merge.specs.TranslatedStacks.{AreTranslated}
use Rattle.native_merge.specs.TranslatedStacks.AreTranslated.{NoMore, More}
use Rattle.native_merge.proofs.KeptByName.{file_order_total}

-- a map is one of a file by what exists and what is told
map_before : (before now : SourcesSeen) (path : List ℕ) (module_name : Option (List ℕ)) (answer : MapOrNone) → Stay before now
    → IsMapOfFile now path module_name answer → IsMapOfFile before path module_name answer
map_before before now path module_name answer stay (inl (absent, none)) = inl (ap (λ (e : List ℕ → Bool). e path) (sym stay.exists) ∙ absent, none)
map_before before now path module_name answer stay (inr (bytes, has, of)) = inr (
  bytes,
  record {
    exists = ap (λ (e : List ℕ → Bool). e path) (sym stay.exists) ∙ has.exists;
    told = subst (λ t. Gives t path bytes) stay.told has.told;
  },
  subst (λ (e : List ℕ → Bool). IsMapOfBytes (cython_file e path module_name) bytes answer) stay.exists of,
)

abbrev IsRightFor : SourcesSeen → List ℕ → Option MapOrNone → Type 0
IsRightFor seen name kept = IfSome kept (λ answer. (module_name : Option (List ℕ)) × IsMapOfFile seen (encode_utf8_all name) module_name answer)

right_before : (before now : SourcesSeen) (name : List ℕ) (kept : Option MapOrNone) → Stay before now → IsRightFor now name kept → IsRightFor before name kept
right_before before now name None stay is = tt
right_before before now name (Some answer) stay (module_name, is) = (module_name, map_before before now (encode_utf8_all name) module_name answer stay is)

pub maps_same : (seen : SourcesSeen) (kept : Kept) → MapsStay seen kept kept
maps_same seen kept = record { stay = λ name has. refl; right = λ name none. nothing name (map.get kept name) none }
  where
    nothing : (name : List ℕ) (o : Option MapOrNone) → is_some o ≡ false → IsRightFor seen name o
    nothing name None none = tt
    nothing name (Some answer) none = absurd (true≢false none)

pub maps_then : {before now : SourcesSeen} {old mid new : Kept} → Stay before now → MapsStay before old mid → MapsStay now mid new → MapsStay before old new
maps_then {before} {now} {old} {mid} {new} stays first then = record { stay = held; right = right }
  where
    held : (name : List ℕ) → map.contains_key old name ≡ true → map.get new name ≡ map.get old name
    held name has =
        let at_mid : map.get mid name ≡ map.get old name = first.stay name has in
        then.stay name (ap is_some at_mid ∙ has) ∙ at_mid

    right : (name : List ℕ) → map.contains_key old name ≡ false → IsRightFor before name (map.get new name)
    right name none = elim (cases_Bool (map.contains_key mid name)) [
      | inl has ↦ subst (IsRightFor before name) (sym (then.stay name has)) (first.right name none)
      | inr lacks ↦ right_before before now name (map.get new name) stays (then.right name lacks)
    ]

-- names that tie are one name
same_name : (a b : List ℕ) → eq_by_cmp file_order a b ≡ true → a ≡ b
same_name a b e = encodes_same a b ((bytes_decides (encode_utf8_all a) (encode_utf8_all b)).0 (sym (is_eq-slice_cmp (encode_utf8_all a) (encode_utf8_all b)) ∙ e))

-- a map that is kept where none was
maps_keep : {seen : SourcesSeen} {frame : Frame} {old new : Kept} → map.contains_key old frame.filename ≡ false → KeepsMap seen frame old new → MapsStay seen old new
maps_keep {seen} {frame} {old} {new} none keeps = record {
  stay = λ name has. held name has (eq_by_cmp file_order name frame.filename) refl;
  right = λ name lacks. right name lacks (eq_by_cmp file_order name frame.filename) refl;
}
  where
    at : (name : List ℕ) (b : Bool) → eq_by_cmp file_order name frame.filename ≡ b → map.get new name ≡ cond b (Some keeps.answer) (map.get old name)
    at name b e = ap (λ (m : Kept). map.get m name) keeps.kept ∙ map.get-insert file_order_total old frame.filename keeps.answer name
        ∙ ap (λ t. cond t (Some keeps.answer) (map.get old name)) e

    held : (name : List ℕ) → map.contains_key old name ≡ true → (b : Bool) → eq_by_cmp file_order name frame.filename ≡ b → map.get new name ≡ map.get old name
    held name has true e = absurd (true≢false (sym has ∙ ap (λ n. map.contains_key old n) (same_name name frame.filename e) ∙ none))
    held name has false e = at name false e

    right : (name : List ℕ) → map.contains_key old name ≡ false → (b : Bool) → eq_by_cmp file_order name frame.filename ≡ b → IsRightFor seen name (map.get new name)
    right name lacks true e = subst (IsRightFor seen name) (sym (at name true e))
        (module_of frame, subst (λ n. IsMapOfFile seen (encode_utf8_all n) (module_of frame) keeps.answer) (sym (same_name name frame.filename e)) keeps.right)
    right name lacks false e = subst (IsRightFor seen name) (sym (at name false e)) ((maps_same seen old).right name lacks)

unkept : (kept : Kept) (frame : Frame) → wants_map kept frame ≡ true → map.contains_key kept frame.filename ≡ false
unkept kept frame wants = not-true (map.contains_key kept frame.filename) ((and_parts (is_some (asked_line frame)) (not (map.contains_key kept frame.filename)) wants).1)

maps_equal : (seen : SourcesSeen) {old new : Kept} → new ≡ old → MapsStay seen old new
maps_equal seen {old} e = subst (MapsStay seen old) (sym e) (maps_same seen old)

-- a frame that was translated
maps_after : {seen now : SourcesSeen} {frame : Frame} {old new : Kept} → (wants_map old frame ≡ true → AddsMap seen now frame old new)
    → (wants_map old frame ≡ false → new ≡ old) → MapsStay seen old new
maps_after {seen} {now} {frame} {old} {new} adds same = elim (cases_Bool (wants_map old frame)) [
  | inl wants ↦ added (unkept old frame wants) (adds wants)
  | inr not_wanted ↦ maps_equal seen (same not_wanted)
]
  where
    added : map.contains_key old frame.filename ≡ false → AddsMap seen now frame old new → MapsStay seen old new
    added none (inl keeps) = maps_keep none keeps
    added none (inr fails) = maps_equal seen fails.1

-- a frame whose translation failed
maps_failed : {seen : SourcesSeen} {frame : Frame} {old new : Kept} → (wants_map old frame ≡ false → new ≡ old)
    → (new ≡ old) ⊎ KeepsMap seen frame old new → MapsStay seen old new
maps_failed {seen} {frame} {old} {new} same was = elim (cases_Bool (wants_map old frame)) [
  | inl wants ↦ kept (unkept old frame wants) was
  | inr not_wanted ↦ maps_equal seen (same not_wanted)
]
  where
    kept : map.contains_key old frame.filename ≡ false → (new ≡ old) ⊎ KeepsMap seen frame old new → MapsStay seen old new
    kept none (inl e) = maps_equal seen e
    kept none (inr keeps) = maps_keep none keeps

pub maps_translated : {seen now : SourcesSeen} {kept new : Kept} {frames shown : List Frame} → AreTranslated seen kept frames now new shown → MapsStay seen kept new
maps_translated (NoMore {seen} {kept}) = maps_same seen kept
maps_translated (More one rest) = maps_then one.stay (maps_after one.adds one.same) (maps_translated rest)

-- frames that were translated, and one whose translation failed
pub maps_stopped : {seen mid : SourcesSeen} {kept between new : Kept} {frames shown : List Frame} {frame : Frame} → Stay seen mid
    → AreTranslated seen kept frames mid between shown → (wants_map between frame ≡ false → new ≡ between)
    → (new ≡ between) ⊎ KeepsMap mid frame between new → MapsStay seen kept new
maps_stopped stay done same was = maps_then stay (maps_translated done) (maps_failed same was)
