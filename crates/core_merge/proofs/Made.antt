-- The entries of a core's maps, one by one.
use Rattle.std.proofs.Common.{◌≡◌, ◌<◌, ◌≤◌, ◌+◌, ◌-◌, ◌^◌, ◌&&◌, nat_lt, zero, suc, ℕ, Bool, true, false, List, []}
use Rattle.std.proofs.Common.{◌∷◌, ◌++◌, drop, filter, get_or, length, map, Option, Err, Ok, refl, sym, ap, subst, ◌∙◌}
use Rattle.std.proofs.Common.{append_assoc, arith}
use Rattle.std.proofs.lemmas.Bool.{cond-false, cond-true}
use Rattle.std.proofs.lemmas.Bool.Decides.{nat_tests}
use Rattle.std.proofs.lemmas.List.{append-nil, at_drop_more, length-map}
use Rattle.std.proofs.lemmas.List.Folds.{list_all-append}
use Rattle.std.proofs.lemmas.Option.{slice_get-get_or}
use Rattle.std.specs.List.{list_all}
use Rattle.std.specs.Prelude.{option_and_then, slice_get}
use Rattle.elf64_core.specs.Header.{HasSegments}
use Rattle.elf64_core.specs.Notes.{Noted}
use Rattle.elf64_core.specs.declared.segment.Segment.{Segment}
use Rattle.image_memory.specs.FileTables.{Entry}
use Rattle.image_memory.specs.Maps.{AreMaps, IsFilePlace, file_place_by, map_by}
use Rattle.image_memory.specs.Notes.{AreCoreNotes}
use Rattle.image_memory.specs.Pieces.{loads_of}
use Rattle.image_memory.specs.declared.file_table.FilePlace.{FilePlace}
use Rattle.image_memory.specs.declared.maps.CoreMapRange.{CoreMapRange}
use Rattle.image_memory.proofs.Held.{held_loads}
use Rattle.image_memory.proofs.Noted.{entries_same}
use Rattle.maps_text.specs.Relevance.{is_relevant}
use Rattle.maps_text.specs.declared.entry.MapsEntry.{MapsEntry}
use Rattle.core_merge.specs.CoreEntries.{SaysMade, entry_of, is_placed, offset_of, unplaced}
use Rattle.core_merge.specs.declared.error.CoreMergeError.TheVariants.{BadOffset}

-- the relevant ones of a core's segments as entries
abbrev relevant_of : List Entry → List Segment → List MapsEntry
relevant_of entries ss = filter is_relevant (map (entry_of entries) ss)

-- these are the entries of the maps before a number
pub record Making (bytes : List ℕ) (maps : List CoreMapRange) (number : ℕ) (made : List MapsEntry) : Type 0 where
  pub readable : HasSegments bytes
  pub notes : List Noted
  pub entries : List Entry
  pub found : AreCoreNotes bytes notes entries
  pub maps_are : maps ≡ map (map_by entries) (loads_of bytes)
  pub made_are : relevant_of entries (loads_of bytes) ≡ made ++ relevant_of entries (drop number (loads_of bytes))
  pub placed : list_all is_placed made ≡ true

pub making_none : (bytes : List ℕ) (maps : List CoreMapRange) → HasSegments bytes → AreMaps bytes maps → Making bytes maps 0 []
making_none bytes maps readable are = record {
  readable = readable;
  notes = are.notes;
  entries = are.entries;
  found = are.found;
  maps_are = are.says;
  made_are = refl;
  placed = refl;
}

get_or-map : {X Y : Type 0} (f : X → Y) (xs : List X) (i : ℕ) (d : X) (e : Y) → i < length xs → get_or (map f xs) i e ≡ f (get_or xs i d)
get_or-map f [] i d e lt = absurd (omega (arith, lt))
get_or-map f (x ∷ xs) zero d e lt = refl
get_or-map f (x ∷ xs) (suc i) d e lt = get_or-map f xs i d e (omega (arith, lt))

below : (n : ℕ) → n ≤ 2 ^ 64 - 1 → n < 2 ^ 64
below n le = omega (arith, le)

module _ (bytes : List ℕ) (maps : List CoreMapRange) (number : ℕ) (made : List MapsEntry) (m : CoreMapRange)
    (making : Making bytes maps number made) (lt : number < length maps) (at : m ≡ get_or maps number m) where
  abbrev es : List Entry
  es = making.entries

  within : number < length (loads_of bytes)
  within = subst (λ n. number < n) (ap length making.maps_are ∙ length-map (loads_of bytes) (map_by es)) lt

  abbrev segment : Segment
  segment = get_or (loads_of bytes) number m.segment

  map_is : m ≡ map_by es segment
  map_is = at ∙ ap (λ ms. get_or ms number m) making.maps_are ∙ get_or-map (map_by es) (loads_of bytes) number m.segment m within

  pub making_fits : m.segment.addr + m.segment.mem_size < 2 ^ 64
  making_fits =
      let held : segment.addr + segment.mem_size ≤ 2 ^ 64 - 1 = (held_loads bytes making.readable number m.segment within).ends in
      subst (λ (x : CoreMapRange). x.segment.addr + x.segment.mem_size < 2 ^ 64) (sym map_is) (below (segment.addr + segment.mem_size) held)

  -- what is left begins with the map's entry
  left : relevant_of es (drop number (loads_of bytes)) ≡ filter is_relevant (entry_of es segment ∷ map (entry_of es) (drop (number + 1) (loads_of bytes)))
  left = at_drop_more (relevant_of es) (loads_of bytes) number m.segment within

  relevance : (b : Bool) → is_relevant (unplaced m) ≡ b → is_relevant (entry_of es segment) ≡ b
  relevance b is = ap (λ x. is_relevant (unplaced x)) (sym map_is) ∙ is

  pub making_skip : is_relevant (unplaced m) ≡ false → Making bytes maps (number + 1) made
  making_skip irrelevant = record {
    readable = making.readable;
    notes = making.notes;
    entries = es;
    found = making.found;
    maps_are = making.maps_are;
    made_are = making.made_are ∙ ap (λ r. made ++ r) (left ∙ cond-false _ _ _ (relevance false irrelevant));
    placed = making.placed;
  }

  -- with the map's entry as the next
  next_is : is_relevant (unplaced m) ≡ true
      → relevant_of es (loads_of bytes) ≡ (made ++ entry_of es segment ∷ []) ++ relevant_of es (drop (number + 1) (loads_of bytes))
  next_is relevant = making.made_are ∙ ap (λ r. made ++ r) (left ∙ cond-true _ _ _ (relevance true relevant))
      ∙ sym (append_assoc made (entry_of es segment ∷ []) (relevant_of es (drop (number + 1) (loads_of bytes))))

  place_is : (place : Option FilePlace) → IsFilePlace bytes number place → place ≡ file_place_by es segment
  place_is place p =
      p.says ∙ ap (λ xs. option_and_then (file_place_by xs) (slice_get (loads_of bytes) number))
      (entries_same bytes p.notes making.notes p.entries es p.found making.found)
      ∙ ap (option_and_then (file_place_by es)) (slice_get-get_or (loads_of bytes) number m.segment within)

  entry_is : (place : Option FilePlace) → IsFilePlace bytes number place
      → record (unplaced m) { offset = offset_of place } ≡ entry_of es segment
  entry_is place p = λ i. record (unplaced (map_is i)) { offset = offset_of (place_is place p i) }

  pub making_more : (place : Option FilePlace) → IsFilePlace bytes number place → is_relevant (unplaced m) ≡ true
      → offset_of place < 2 ^ 64 → Making bytes maps (number + 1) (made ++ record (unplaced m) { offset = offset_of place } ∷ [])
  making_more place p relevant fits = record {
    readable = making.readable;
    notes = making.notes;
    entries = es;
    found = making.found;
    maps_are = making.maps_are;
    made_are = next_is relevant ∙ ap (λ e. (made ++ e ∷ []) ++ relevant_of es (drop (number + 1) (loads_of bytes))) (sym (entry_is place p));
    placed = list_all-append is_placed made _ ∙ both _ _ making.placed (one (offset_of place) fits);
  }
    where
      one : (n : ℕ) → n < 2 ^ 64 → (nat_lt n (2 ^ 64) && true) ≡ true
      one n lt = grind (arith, nat_tests)

      both : (a b : Bool) → a ≡ true → b ≡ true → (a && b) ≡ true
      both true true h k = refl
      both true false h k = k
      both false b h k = h

  pub making_past : (place : Option FilePlace) → IsFilePlace bytes number place → is_relevant (unplaced m) ≡ true
      → ¬ (offset_of place < 2 ^ 64) → SaysMade bytes (Err BadOffset)
  making_past place p relevant past = (
    relevant_of es (loads_of bytes),
    record { notes = making.notes; entries = es; found = making.found; says = refl },
    ap (list_all is_placed) (next_is relevant) ∙ list_all-append is_placed (made ++ entry_of es segment ∷ []) _
        ∙ ap (λ b. b && list_all is_placed (relevant_of es (drop (number + 1) (loads_of bytes))))
        (list_all-append is_placed made (entry_of es segment ∷ [])
        ∙ fails (list_all is_placed made) (offset_of (file_place_by es segment))
        (subst (λ o. ¬ (offset_of o < 2 ^ 64)) (place_is place p) past)),
  )
    where
      fails : (a : Bool) (n : ℕ) → ¬ (n < 2 ^ 64) → (a && (nat_lt n (2 ^ 64) && true)) ≡ false
      fails true n past = grind (arith, nat_tests)
      fails false n past = refl

drop_past : {X : Type 0} (n : ℕ) (xs : List X) → length xs ≤ n → drop n xs ≡ []
drop_past zero [] past = refl
drop_past zero (x ∷ xs) past = absurd (omega (arith, past))
drop_past (suc n) [] past = refl
drop_past (suc n) (x ∷ xs) past = drop_past n xs (omega (arith, past))

pub making_done : (bytes : List ℕ) (maps : List CoreMapRange) (number : ℕ) (made : List MapsEntry) → Making bytes maps number made
    → length maps ≤ number → SaysMade bytes (Ok made)
making_done bytes maps number made making past =
    let loads : length (loads_of bytes) ≤ number = subst (λ n. n ≤ number) (ap length making.maps_are ∙ length-map (loads_of bytes) (map_by making.entries)) past in (
      record {
        notes = making.notes;
        entries = making.entries;
        found = making.found;
        says = sym (making.made_are ∙ ap (λ ss. made ++ relevant_of making.entries ss) (drop_past number (loads_of bytes) loads) ∙ append-nil made);
      },
      making.placed,
    )
