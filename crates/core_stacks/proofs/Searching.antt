-- How the steps of a search are put together, with their reads.
use Rattle.std.proofs.Common.{◌≡◌, ℕ, ◌+◌, ◌*◌, ◌≤◌, cond, List, refl, ap, subst, arith}
use Rattle.std.specs.Prelude.{Bool, true, false, Some, None, Result, Ok, Err}
use Rattle.elf64_core.specs.Header.{machine_of}
use Rattle.elf64_core.specs.declared.header.Machine.{Machine}
use Rattle.image_memory.specs.Backed.{IsBackedMemory}
use Rattle.image_memory.specs.Images.{Pushed}
use Rattle.image_memory.specs.Maps.{AreMaps, in_maps}
use Rattle.image_memory.specs.declared.maps.CoreMapRange.{CoreMapRange}
use Rattle.process_memory.specs.Memory.{Memory, Region, byte_at}
use Rattle.process_memory.specs.Seen.{ReadingOf, Seen}
use Rattle.process_memory.proofs.Reading.{reading_gives, reading_here, reading_then, reads_within}
use Rattle.py_fields.specs.declared.layout.Layout.{Layout}
use Rattle.py_fields.specs.declared.version.Version.{Version}
use Rattle.py_stacks.specs.Interpreter.{threads_head}
use Rattle.py_stacks.proofs.Candidates.{test_most}
use Rattle.py_process.specs.Candidates.{candidate_cost, head_lies, search_bound, walk_bound}
use Rattle.py_process.specs.Facts.{Known}
use Rattle.py_process.specs.Sections.{IsSearched}
use Rattle.py_process.specs.Findings.{AfterImages, Finding, FindsIn, VersionThen}
use Rattle.py_process.specs.Programs.{ImagesSay, MapsSay}
use Rattle.py_process.specs.Steps.{Then}
use Rattle.py_process.specs.declared.core_error.CoreError.{CoreError}
use Rattle.core_stacks.specs.Reached.{IsTrialBy, Trial, Trying, trial_cost}
use Rattle.core_stacks.specs.Seen.{AreBinaries, FindsProcess, IsCovered}
use Rattle.core_stacks.specs.Sole.{Settles}
use Rattle.py_process.proofs.Agreement.{then_ok}
use Rattle.core_stacks.proofs.Steps.{covered_by, covered_fails, covered_then, in_core, known_then, unknown_then}

-- no version is told, or no layout covers it: nothing is tried
pub version_ends : {s0 s1 : Seen} (machine : Machine) (contains : ℕ → Bool) (layouts : List Layout) (k : Known) (e : CoreError) (r : Result Finding CoreError)
    → ReadingOf (IsSearched k) 3 s0 s1 (λ m. Settles (VersionThen m layouts k IsCovered) (Err e)) → r ≡ Err e
    → Trying k (IsTrialBy (byte_at s0.pieces) layouts k) contains 10 s0 s1 (λ m. Settles (AfterImages m machine contains layouts k) r)
version_ends machine contains layouts k e r told is = record {
  tried = None;
  is = tt;
  reading = reading_gives _ _ told (omega arith) (λ m h. covered_fails m layouts k (FindsIn m machine contains k) e r h is);
}

-- the version and its layout, and the search by them
pub version_tries : {s0 s1 s2 : Seen} (machine : Machine) (contains : ℕ → Bool) (layouts : List Layout) (k : Known) (v : Version) (l : Layout) (r : Result Finding CoreError)
    → ReadingOf (IsSearched k) 3 s0 s1 (λ m. Settles (VersionThen m layouts k IsCovered) (Ok (v, l)))
    → ReadingOf (IsSearched k) (search_bound contains k v l (byte_at s1.pieces) + 1) s1 s2 (λ m. Settles (FindsIn m machine contains k v l) r)
    → Trying k (IsTrialBy (byte_at s0.pieces) layouts k) contains 10 s0 s2 (λ m. Settles (AfterImages m machine contains layouts k) r)
unfolding search_bound
version_tries {s0} machine contains layouts k v l r covered found =
    let trial : Trial = record { known = k; version = v; layout = l } in
    let is = covered_by (byte_at s0.pieces) layouts k v l (reading_here covered).right in
    let same = ap (λ ps. trial_cost contains (byte_at ps) trial) covered.pieces in
    record {
      tried = Some trial;
      is = record { known_is = refl; told = is.0; chosen = is.1 };
      reading = reads_within _ (reading_then _ covered found
          (λ m a b. covered_then m layouts k (FindsIn m machine contains k) v l r a b)) (omega (arith, same));
    }

-- ---- what is known by the maps and the images

-- what is found by what is known, over the memory of a core and its images, is found of them
pub known_finds : (bytes : List ℕ) (images : Pushed) (layouts : List Layout) (pieces : List Region) (maps : List CoreMapRange) (contains : ℕ → Bool) (k : Known) (r : Result Finding CoreError)
    → IsBackedMemory bytes images pieces → AreMaps bytes maps → Then (MapsSay maps) (ImagesSay images) (Ok k) → contains ≡ in_maps maps
    → Settles (AfterImages (byte_at pieces) (machine_of bytes) contains layouts k) r → Settles (FindsProcess bytes images layouts) r
known_finds bytes images layouts pieces maps contains k r memory are says same h =
    in_core bytes (record { maps = maps; pieces = pieces }) images layouts r (record { are_maps = are; memory = memory })
    (known_then (byte_at pieces) maps images layouts (FindsIn (byte_at pieces) (machine_of bytes) (in_maps maps)) k r says
    (subst (λ test. Settles (AfterImages (byte_at pieces) (machine_of bytes) test layouts k) r) same h))

-- what the two images say
pub known_binaries : (bytes : List ℕ) (images : Pushed) (maps : List CoreMapRange) (k : Known) → AreMaps bytes maps
    → Then (MapsSay maps) (ImagesSay images) (Ok k) → AreBinaries bytes images k.program k.library
known_binaries bytes images maps k are says =
    let known = then_ok (MapsSay maps) (ImagesSay images) k says in
    record {
      maps = maps;
      are_maps = are;
      mapped = known.0;
      are_programs = known.1;
      program_says = known.2.program_says;
      library_says = known.2.library_says;
    }

-- or why nothing is known
pub unknown_finds : (bytes : List ℕ) (images : Pushed) (layouts : List Layout) (pieces : List Region) (maps : List CoreMapRange) (e : CoreError) (r : Result Finding CoreError)
    → IsBackedMemory bytes images pieces → AreMaps bytes maps → Then (MapsSay maps) (ImagesSay images) (Err e) → r ≡ Err e
    → Settles (FindsProcess bytes images layouts) r
unknown_finds bytes images layouts pieces maps e r memory are says is =
    in_core bytes (record { maps = maps; pieces = pieces }) images layouts r (record { are_maps = are; memory = memory })
    (unknown_then (byte_at pieces) maps images layouts (FindsIn (byte_at pieces) (machine_of bytes) (in_maps maps)) e r says is)

-- ---- one candidate

-- where no map holds it, or its head, it takes fewer
picked : (lies head : Bool) (walk most : ℕ) → 1 + walk ≤ most → cond lies (1 + cond head walk 0) 0 ≤ most
picked true true walk most h = h
picked true false walk most h = omega (arith, h)
picked false head walk most h = omega arith

pub candidate_ends : (contains : ℕ → Bool) (l : Layout) (m : Memory) (a : ℕ) → candidate_cost contains l m a ≤ 3 + 4096 * (2 + 6 * 16384)
unfolding candidate_cost
candidate_ends contains l m a =
    picked (contains a) (head_lies contains (threads_head l m a)) (walk_bound l m a) (3 + 4096 * (2 + 6 * 16384)) (omega (arith, test_most l m a))
