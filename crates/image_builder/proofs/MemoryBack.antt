-- What stands in the memory of a built core, whatever image is handed in.
use Rattle.std.proofs.Common.{◌≡◌, ℕ, ◌+◌, ◌-◌, ◌<◌, ◌≤◌, ◌^◌, Bool, true, false, cond, ltb, List, [], ◌∷◌, ◌++◌}
use Rattle.std.proofs.Common.{length, refl, sym, ap, ap₂, ◌∙◌, arith, inl, subst}
use Rattle.std.specs.Prelude.{Ok, Some, None, Option, filter, filter_map, option_and_then, option_map}
use Rattle.std.specs.Int.{w32, to_le_bytes}
use Rattle.process_memory.specs.Memory.{Memory, Region, byte_at, first_byte, first_of, region_byte}
use Rattle.image_memory.specs.Backed.{IsBackedMemory, backed_region, region_by, region_of_image}
use Rattle.image_memory.specs.Images.{Pushed, first_under}
use Rattle.image_memory.specs.Pieces.{is_load}
use Rattle.elf64_core.specs.declared.header.Machine.{Machine}
use Rattle.elf64_core.specs.declared.segment.Segment.{Segment}
use Rattle.object_builder.specs.Objects.{bytes_of}
use Rattle.object_builder.specs.Objects.Value.{U32}
use Rattle.py_fields.specs.declared.layout.Layout.{Layout}
use Rattle.py_stacks.specs.Holder.{holder_id_at}
use Rattle.object_builder.specs.Placing.{Stands}
use Rattle.object_builder.proofs.Placing.{stands_behind, stands_first, stands_right}
use Rattle.std.specs.List.{cons_option}
use Rattle.image_memory.specs.FileTables.{Entry}
use Rattle.image_memory.specs.Maps.{entry_for}
use Rattle.image_memory.specs.Mmap.{Mapped}
use Rattle.image_memory.specs.declared.file_table.FilePlace.{FilePlace}
use Rattle.image_builder.specs.CoreFiles.{core_file, core_segments}
use Rattle.image_builder.specs.CoreFacts.{built_memory}
use Rattle.image_builder.proofs.CoreBack.{core_memory_is, core_segments_are}
use Rattle.image_builder.specs.ImageFiles.{image_file, image_head}
use Rattle.image_builder.specs.Records.{filled}
use Rattle.image_builder.proofs.Appending.{length-filled}
use Rattle.image_builder.proofs.Lengths.{length-image_head}
use Rattle.image_builder.proofs.Reading.{filled_stands}

-- ---- pieces behind others change nothing that stands

first_more : (ps qs : List Region) (a b : ℕ) → first_byte ps a ≡ Some b → first_byte (ps ++ qs) a ≡ Some b
first_more [] qs a b = λ e. absurd (cc)
first_more (p ∷ ps) qs a b =
    elim (region_byte p a) as (λ o. first_of o (first_byte ps a) ≡ Some b
    → first_of o (first_byte (ps ++ qs) a) ≡ Some b) [ None ↦ first_more ps qs a b | Some x ↦ λ e. e ]

pub stands_more : (ps qs : List Region) (a : ℕ) (bytes : List ℕ) → Stands (byte_at ps) a bytes
    → Stands (byte_at (ps ++ qs)) a bytes
unfolding byte_at
stands_more ps qs a bytes s = record {
  ends = s.ends;
  each = λ k lt. kept (ltb (a + k) (2 ^ 64 - 1)) (first_byte ps (a + k)) (first_byte (ps ++ qs) (a + k)) _
      (first_more ps qs (a + k)) (s.each k lt);
}
  where
    kept : (t : Bool) (o r : Option ℕ) (b : ℕ) → ((b : ℕ) → o ≡ Some b → r ≡ Some b) → cond t o None ≡ Some b
        → cond t r None ≡ Some b
    kept true o r b f e = f b e
    kept false o r b f e = e

-- ---- the three pieces

module _ (image words objects : List ℕ) (image_len : length image ≡ 0x2000) (words_len : length words ≡ 0x2_0000) where
  abbrev pieces : List Region
  pieces = built_memory image words objects

  pub image_there : Stands (byte_at pieces) 0x40_0000 image
  image_there = stands_first 0x40_0000 image ((0x50_0000, words) ∷ (0x60_0000, objects) ∷ []) (omega (arith, image_len))

  pub words_there : Stands (byte_at pieces) 0x50_0000 words
  words_there = stands_behind (0x40_0000, image) ((0x50_0000, words) ∷ (0x60_0000, objects)
      ∷ []) 0x50_0000 words (inl (omega (arith, image_len)))
      (stands_first 0x50_0000 words ((0x60_0000, objects) ∷ []) (omega (arith, words_len)))

  pub objects_there : length objects ≤ 2 ^ 30 → Stands (byte_at pieces) 0x60_0000 objects
  objects_there short = stands_behind (0x40_0000, image) ((0x50_0000, words) ∷ (0x60_0000, objects)
      ∷ []) 0x60_0000 objects (inl (omega (arith, image_len)))
      (stands_behind (0x50_0000, words) ((0x60_0000, objects) ∷ []) 0x60_0000 objects (inl (omega (arith, words_len)))
      (stands_first 0x60_0000 objects [] (omega (arith, short))))

-- and at address 0 there is nothing
pub none_alone : (image words objects : List ℕ) → byte_at (built_memory image words objects) 0 ≡ None
unfolding byte_at
none_alone image words objects = refl

-- where no lock is named no thread holds it
pub no_holder : (l : Layout) (m : Memory) → holder_id_at l m 0 ≡ Ok 0
unfolding holder_id_at
no_holder l m = refl

-- ---- with images behind them

module _ (machine : Machine) (image words objects : List ℕ) (image_len : length image ≡ 0x2000)
    (words_len : length words ≡ 0x2_0000)
    (whole_short : length (core_file machine image words objects) < 2 ^ 63) (images : Pushed) (regions : List Region)
    (is : IsBackedMemory (core_file machine image words objects) images regions) where
  abbrev first_segment : Segment
  first_segment = record {
    kind = 1;
    flags = 5;
    offset = 0x1000;
    addr = 0x40_0000;
    file_size = 0x2000;
    mem_size =
        0x2000;
  }

  abbrev own : List Region
  own = built_memory image words objects

  more : List Region
  more = filter_map (backed_region images is.entries) (filter is_load (core_segments (length objects)))

  regions_are : own ++ more ≡ regions
  unfolding more
  regions_are =
      sym (is.says ∙ ap₂ (λ ps ss. ps ++ filter_map (backed_region images is.entries) (filter is_load ss))
      (core_memory_is machine image words objects image_len words_len whole_short)
      (core_segments_are machine image words objects image_len words_len whole_short))

  pub in_each : (a : ℕ) (bytes : List ℕ) → Stands (byte_at own) a bytes → Stands (byte_at regions) a bytes
  in_each a bytes s = subst (λ ps. Stands (byte_at ps) a bytes) regions_are (stands_more own more a bytes s)

  pub none_at_zero : byte_at regions 0 ≡ None
  unfolding byte_at more
  none_at_zero = subst (λ ps. byte_at ps 0 ≡ None) regions_are (by_entry (entry_for is.entries 0x40_0000) refl)
    where
      Behind : Option Region → Type 0
      Behind o = byte_at (own ++ cons_option o []) 0 ≡ None

      by_image : (place : FilePlace) (o : Option Mapped) → byte_at (own
          ++ cons_option (option_map (region_of_image first_segment place) o) []) 0 ≡ None
      by_image place None = refl
      by_image place (Some image) = refl

      by_entry : (o : Option Entry) → entry_for is.entries 0x40_0000 ≡ o → byte_at (own ++ more) 0 ≡ None
      by_entry None e = ap (λ o. byte_at (own ++ cons_option (option_and_then (region_by images first_segment) o) []) 0)
          e
      by_entry (Some entry) e = ap (λ o. byte_at (own ++ cons_option
          (option_and_then (region_by images first_segment) o) []) 0) e
          ∙ by_image entry.place (first_under entry.name images)

-- the version's number stands in the image
pub number_there : {m : Memory} (machine : Machine) (number : ℕ) → Stands m 0x40_0000 (image_file machine number)
    → Stands m 0x40_1000 (to_le_bytes w32 number)
unfolding image_file bytes_of
number_there machine number s =
    let page = filled 0x1000 (image_head machine) in
    let len : length page ≡ 0x1000 = length-filled 0x1000 (image_head machine) (omega (
      arith,
      length-image_head machine,
    )) in
    filled_stands 0x1000 (bytes_of (U32 number)) (rw len at
    (stands_right page (filled 0x1000 (bytes_of (U32 number))) s))
