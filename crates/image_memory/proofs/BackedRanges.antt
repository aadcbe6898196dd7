-- Which bytes of which images the maps of a core have.
use Rattle.std.proofs.Common.{◌≡◌, ℕ, suc, ◌+◌, ◌-◌, ◌<◌, ◌≤◌, ◌^◌, min, true, false, cond, List, [], ◌∷◌, ◌++◌, length}
use Rattle.std.proofs.Common.{take, drop, get_or, map, refl, sym, ap, subst, ◌∙◌, arith, inl, inr, add-one, length-drop}
use Rattle.std.specs.Prelude.{All, Option, Some, None, filter_map, option_map, option_and_then, position}
use Rattle.std.specs.Prelude.{slice_index_or}
use Rattle.std.specs.List.{cons_option, position_or_len}
use Rattle.std.proofs.lemmas.Bool.{cases_lt, le-ltb, lt-ltb}
use Rattle.std.proofs.lemmas.List.{append-nil, drop_all, drop_min, drop_more, get_or-map, length-map, map-append}
use Rattle.std.proofs.lemmas.List.{take_min}
use Rattle.std.proofs.lemmas.List.Elements.{All-append}
use Rattle.std.proofs.lemmas.List.Folds.{find_at}
use Rattle.std.proofs.lemmas.Option.{slice_get-get_or, slice_get_past}
use Rattle.elf64_core.specs.Header.{HasSegments}
use Rattle.elf64_core.specs.declared.segment.Segment.{Segment}
use Rattle.piece_table.specs.Files.{IsInFile, file_bytes, region_in, regions_in}
use Rattle.piece_table.specs.declared.table.FileRange.{FileRange}
use Rattle.image_memory.specs.declared.file_table.FilePlace.{FilePlace}
use Rattle.image_memory.specs.declared.maps.CoreMapRange.{CoreMapRange}
use Rattle.image_memory.specs.Backed.{AreImageRanges, Backed, IsBacked, IsBackedMemory, IsInImage, backed_region}
use Rattle.image_memory.specs.Backed.{byte_place, files_of, image_range, is_writable, numbered_range, range_by}
use Rattle.image_memory.specs.Backed.{region_by, region_of_image, regions_of}
use Rattle.image_memory.specs.FileTables.{Entry}
use Rattle.image_memory.specs.Images.{Pushed, first_under, images_shown, is_under}
use Rattle.image_memory.specs.Maps.{AreMaps, ArePlaces, entry_for, map_by, file_place_by}
use Rattle.image_memory.specs.Mmap.{Mapped, shown_bytes}
use Rattle.image_memory.specs.Pieces.{core_ranges, loads_of, memory_of}
use Rattle.image_memory.proofs.Held.{core_held, core_regions, held_loads}
use Rattle.image_memory.proofs.Noted.{entries_same}

-- of maps with their places, in order
abbrev pub ranges_from : Pushed → List CoreMapRange → List (Option FilePlace) → List FileRange
ranges_from images [] places = []
ranges_from images (m ∷ maps) [] = []
ranges_from images (m ∷ maps) (p ∷ places) = cons_option (range_by images m.segment m.pathname p) (ranges_from images maps places)

pub ranges_from-more : (images : Pushed) (maps : List CoreMapRange) (places : List (Option FilePlace)) (k : ℕ) (d : CoreMapRange) (o : Option FilePlace)
    → k < length maps → k < length places
    → ranges_from images (drop k maps) (drop k places)
    ≡ cons_option (range_by images (get_or maps k d).segment (get_or maps k d).pathname (get_or places k o)) (ranges_from images (drop (k + 1) maps) (drop (k + 1) places))
ranges_from-more images maps places k d o less inside =
    ap (λ ms. ranges_from images ms (drop k places)) (drop_more maps k d less)
    ∙ ap (ranges_from images (get_or maps k d ∷ drop (k + 1) maps)) (drop_more places k o inside)

pub ranges_from-all : (images : Pushed) (maps : List CoreMapRange) (places : List (Option FilePlace)) (k : ℕ) (made whole : List FileRange)
    → length maps ≤ k → made ++ ranges_from images (drop k maps) (drop k places) ≡ whole → made ≡ whole
ranges_from-all images maps places k made whole le is =
    sym (append-nil made) ∙ ap (λ ms. made ++ ranges_from images ms (drop k places)) (sym (drop_all k maps le)) ∙ is

-- those of the load segments, by the entries of the file tables
ranges_of_loads : (images : Pushed) (entries : List Entry) (loads : List Segment)
    → ranges_from images (map (map_by entries) loads) (map (file_place_by entries) loads) ≡ filter_map (image_range images entries) loads
ranges_of_loads images entries [] = refl
ranges_of_loads images entries (s ∷ loads) = ap (cons_option (image_range images entries s)) (ranges_of_loads images entries loads)

pub AreImageRanges-from : (bytes : List ℕ) (images : Pushed) (maps : List CoreMapRange) (places : List (Option FilePlace)) (ranges : List FileRange)
    → AreMaps bytes maps → ArePlaces bytes places → ranges ≡ ranges_from images maps places → AreImageRanges bytes images ranges
AreImageRanges-from bytes images maps places ranges m p is =
    let same = entries_same bytes p.notes m.notes p.entries m.entries p.found m.found in
    record {
      notes = m.notes;
      entries = m.entries;
      found = m.found;
      says = is ∙ ap (λ ms. ranges_from images ms places) m.says
          ∙ ap (ranges_from images (map (map_by m.entries) (loads_of bytes))) (p.says ∙ ap (λ es. map (file_place_by es) (loads_of bytes)) same)
          ∙ ranges_of_loads images m.entries (loads_of bytes);
    }

-- maps end at 2^64 - 1 at most, and there is a place for each
pub maps_end : (bytes : List ℕ) (maps : List CoreMapRange) (k : ℕ) (d : CoreMapRange) → HasSegments bytes → AreMaps bytes maps → k < length maps
    → (get_or maps k d).segment.addr + (get_or maps k d).segment.mem_size ≤ 2 ^ 64 - 1
maps_end bytes maps k d h m less =
    let loads = loads_of bytes in
    let s : Segment = record { kind = 0; flags = 0; offset = 0; addr = 0; file_size = 0; mem_size = 0 } in
    let inside : k < length loads = omega (arith, ap length m.says, length-map loads (map_by m.entries)) in
    let same : get_or maps k d ≡ map_by m.entries (get_or loads k s) = ap (λ ms. get_or ms k d) m.says ∙ get_or-map (map_by m.entries) loads k s d inside in
    let held = held_loads bytes h k s inside in
    subst (λ (x : CoreMapRange). x.segment.addr + x.segment.mem_size ≤ 2 ^ 64 - 1) (sym same) held.ends

pub places_counted : (bytes : List ℕ) (maps : List CoreMapRange) (places : List (Option FilePlace)) → AreMaps bytes maps → ArePlaces bytes places
    → length places ≡ length maps
places_counted bytes maps places m p =
    omega (
      arith,
      ap length m.says,
      ap length p.says,
      length-map (loads_of bytes) (map_by m.entries),
      length-map (loads_of bytes) (file_place_by p.entries),
    )

map-filter_map : {A B C : Type 0} (g : B → C) (f : A → Option B) (xs : List A) → map g (filter_map f xs) ≡ filter_map (λ x. option_map g (f x)) xs
map-filter_map g f [] = refl
map-filter_map g f (x ∷ xs) =
    elim (f x) as (λ o. map g (cons_option o (filter_map f xs)) ≡ cons_option (option_map g o) (filter_map (λ x. option_map g (f x)) xs)) [
      | None ↦ map-filter_map g f xs
      | Some y ↦ ap (λ ys. g y ∷ ys) (map-filter_map g f xs)
    ]

filter_map-same : {A B : Type 0} (f g : A → Option B) (xs : List A) → ((x : A) → f x ≡ g x) → filter_map f xs ≡ filter_map g xs
filter_map-same f g [] same = refl
filter_map-same f g (x ∷ xs) same = ap (λ o. cons_option o (filter_map f xs)) (same x) ∙ ap (cons_option (g x)) (filter_map-same f g xs same)

no_image : List ℕ × Mapped
no_image = ([], record { bytes = []; start = 0; end = 0 })

-- the bytes that a segment has of an image, by its number
numbered_region : (dump : Backed) (images : Pushed) (s : Segment) (place : FilePlace) (number : ℕ) → dump.images ≡ images_shown images
    → number < length images → region_in (files_of dump) (numbered_range images s place number) ≡ region_of_image s place (get_or images number no_image).1
numbered_region dump images s place number kept less =
    let image = (get_or images number no_image).1 in
    let shown = shown_bytes image in
    let named : slice_index_or (images_shown images) number [] ≡ shown = get_or-map (λ (i : List ℕ × Mapped). shown_bytes i.1) images number no_image [] less in
    let size = length (slice_index_or (images_shown images) number []) in
    let size_is : size ≡ length shown = ap length named in
    let file : file_bytes (files_of dump) (number + 1) ≡ shown =
    ap (λ n. get_or (dump.core ∷ dump.images) n []) (add-one number) ∙ ap (λ is. get_or is number []) kept ∙ named in
    let at = byte_place place in
    let part = drop (min at (length shown)) shown in
    ap (λ n. (s.addr, take (min s.mem_size (n - min at n)) (drop (min at n) (file_bytes (files_of dump) (number + 1))))) size_is
    ∙ ap (λ bs. (s.addr, take (min s.mem_size (length shown - min at (length shown))) (drop (min at (length shown)) bs))) file
    ∙ ap (λ n. (s.addr, take (min s.mem_size n) part)) (sym (length-drop (min at (length shown)) shown))
    ∙ ap (λ bs. (s.addr, bs)) (take_min s.mem_size part)
    ∙ ap (λ bs. (s.addr, take s.mem_size bs)) (drop_min at shown)

region_found : (dump : Backed) (images : Pushed) (s : Segment) (place : FilePlace) (name : List ℕ) → dump.images ≡ images_shown images
    → option_map (region_in (files_of dump)) (option_map (numbered_range images s place) (position (is_under name) images))
    ≡ option_map (region_of_image s place) (first_under name images)
region_found dump images s place name kept =
    elim (cases_lt number (length images)) [
      | inl less ↦
          ap (λ b. option_map (region_in (files_of dump)) (option_map (numbered_range images s place) (cond b (Some number) None))) (lt-ltb number (length images) less)
          ∙ ap (λ r. Some r) (numbered_region dump images s place number kept less)
          ∙ ap (λ o. option_map (region_of_image s place) (option_map (λ image. image.1) o)) (sym (find_at (is_under name) images ∙ slice_get-get_or images number no_image less))
      | inr le ↦
          ap (λ b. option_map (region_in (files_of dump)) (option_map (numbered_range images s place) (cond b (Some number) None))) (le-ltb number (length images) le)
          ∙ ap (λ o. option_map (region_of_image s place) (option_map (λ image. image.1) o)) (sym (find_at (is_under name) images ∙ slice_get_past images number le))
    ]
  where
    number : ℕ
    number = position_or_len (is_under name) images

region_of_range : (dump : Backed) (images : Pushed) (entries : List Entry) (s : Segment) → dump.images ≡ images_shown images
    → option_map (region_in (files_of dump)) (image_range images entries s) ≡ backed_region images entries s
region_of_range dump images entries s kept =
    go (entry_for entries s.addr)
  where
    named : (o : Option Entry) → option_map (region_in (files_of dump)) (range_by images s (option_map (λ e. e.name) o) (option_map (λ e. e.place) o))
        ≡ cond (is_writable s) None (option_and_then (region_by images s) o)
    named None = elim (is_writable s) as (λ b. option_map (region_in (files_of dump)) (cond b None None) ≡ cond b None None) [ true ↦ refl | false ↦ refl ]
    named (Some e) =
        elim (is_writable s) as (λ b. option_map (region_in (files_of dump)) (cond b None (option_map (numbered_range images s e.place) (position (is_under e.name) images)))
        ≡ cond b None (option_map (region_of_image s e.place) (first_under e.name images)))
        [ true ↦ refl | false ↦ region_found dump images s e.place e.name kept ]

    go : (o : Option Entry) → option_map (region_in (files_of dump)) (range_by images s (option_map (λ e. e.name) o) (option_map (λ e. e.place) o))
        ≡ cond (is_writable s) None (option_and_then (region_by images s) o)
    go o = named o

-- the pieces of memory are those of the core and its images
pub regions_are : (bytes : List ℕ) (images : Pushed) (dump : Backed) → IsBacked bytes images dump → IsBackedMemory bytes images (regions_of dump)
regions_are bytes images dump h = record {
  notes = h.images_have.notes;
  entries = h.images_have.entries;
  found = h.images_have.found;
  says =
      ap (regions_in (files_of dump)) h.ranges_are
      ∙ map-append (region_in (files_of dump)) (core_ranges bytes) h.from_images
      ∙ ap (λ rs. rs ++ map (region_in (files_of dump)) h.from_images) (ap (λ bs. regions_in (bs ∷ dump.images) (core_ranges bytes)) h.core_is ∙ core_regions bytes dump.images)
      ∙ ap (λ rs. memory_of bytes ++ rs)
      (ap (map (region_in (files_of dump))) h.images_have.says
      ∙ map-filter_map (region_in (files_of dump)) (image_range images h.images_have.entries) (loads_of bytes)
      ∙ filter_map-same _ (backed_region images h.images_have.entries) (loads_of bytes) (λ s. region_of_range dump images h.images_have.entries s h.images_are));
}

-- each of the ranges has its bytes in its file
image_held : (core : List ℕ) (images : List (List ℕ)) (f : FileRange) → IsInImage images f → IsInFile (core ∷ images) f
image_held core images f h =
    let number : f.file ≡ suc h.number = h.file_is ∙ add-one h.number in
    let bytes : file_bytes (core ∷ images) f.file ≡ slice_index_or images h.number [] =
    ap (λ n. get_or (core ∷ images) n []) number in
    record {
      known = omega (arith, h.known, number);
      inside = inr (omega (arith, h.inside, ap length bytes));
      fits = h.fits;
    }

pub ranges_in_files : (core : List ℕ) (images : List (List ℕ)) (from_images : List FileRange) → length core ≤ 2 ^ 64 - 1 → HasSegments core
    → All (IsInImage images) from_images → All (IsInFile (core ∷ images)) (core_ranges core ++ from_images)
ranges_in_files core images from_images few h fit =
    All-append (IsInFile (core ∷ images)) (core_ranges core) from_images (core_held core images few h)
    (λ k d less. image_held core images (get_or from_images k d) (fit k d less))
