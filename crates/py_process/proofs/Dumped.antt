-- What is dumped of a process is one, and without images it is the core alone.
use Rattle.std.proofs.Common.{◌≡◌, ℕ, List, [], ◌∷◌, ◌++◌, refl, sym, ap, ◌∙◌}
use Rattle.std.specs.Prelude.{Bool, true, false, Option, Some, None, option_and_then, filter_map, if◌then◌else◌}
use Rattle.std.proofs.lemmas.List.{append-nil}
use Rattle.elf64_core.specs.declared.segment.Segment.{Segment}
use Rattle.image_memory.specs.Backed.{IsBackedMemory, backed_memory_of, backed_region, is_writable, region_by}
use Rattle.image_memory.specs.FileTables.{Entry}
use Rattle.image_memory.specs.Images.{Pushed}
use Rattle.image_memory.specs.Maps.{entry_for}
use Rattle.image_memory.specs.Pieces.{loads_of, memory_of}
use Rattle.image_memory.proofs.Noted.{AreMaps-once, entries_same}
use Rattle.process_memory.specs.Memory.{Region}
use Rattle.py_process.specs.Reports.{Dumped, IsDumped}

pub backed_once : (bytes : List ℕ) (images : Pushed) (one other : List Region) → IsBackedMemory bytes images one
    → IsBackedMemory bytes images other → one ≡ other
backed_once bytes images one other h k =
    h.says ∙ ap (λ es. backed_memory_of bytes es images) (entries_same bytes h.notes k.notes h.entries k.entries h.found k.found)
    ∙ sym k.says

pub dumped_once : (bytes : List ℕ) (images : Pushed) (d e : Dumped) → IsDumped bytes images d → IsDumped bytes images e → d ≡ e
dumped_once bytes images d e one two = λ i. record {
  maps = AreMaps-once bytes d.maps e.maps one.are_maps two.are_maps i;
  pieces = backed_once bytes images d.pieces e.pieces one.memory two.memory i;
}

-- ---- no images

no_region : (s : Segment) (entry : Option Entry) → option_and_then (region_by [] s) entry ≡ None
no_region s None = refl
no_region s (Some entry) = refl

unbacked_by : (writable : Bool) (s : Segment) (entry : Option Entry)
    → ◌≡◌ {A = Option Region} (if writable then None else option_and_then (region_by [] s) entry) None
unbacked_by true s entry = refl
unbacked_by false s entry = no_region s entry

unbacked : (entries : List Entry) (s : Segment) → backed_region [] entries s ≡ None
unbacked entries s = unbacked_by (is_writable s) s (entry_for entries s.addr)

none_backed : (entries : List Entry) (ss : List Segment) → filter_map (backed_region [] entries) ss ≡ []
none_backed entries [] = refl
none_backed entries (s ∷ ss) = rw (unbacked entries s) (none_backed entries ss)

-- without images the memory is the core's own
pub alone : (bytes : List ℕ) (pieces : List Region) → IsBackedMemory bytes [] pieces → pieces ≡ memory_of bytes
alone bytes pieces h =
    h.says ∙ ap (λ rest. memory_of bytes ++ rest) (none_backed h.entries (loads_of bytes)) ∙ append-nil (memory_of bytes)
