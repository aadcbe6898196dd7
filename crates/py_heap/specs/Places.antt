-- Where all that a heap's census reads stands, by version, layout, records and the classes of sets.
use Rattle.std.specs.Prelude.{ℕ, nat_lt, if◌then◌else◌, Option, Some, None}
use Rattle.gc_lists.specs.Versions.{list_places}
use Rattle.gc_lists.specs.declared.places.ListPlaces.{ListPlaces}
use Rattle.py_census.specs.Versions.{size_places}
use Rattle.py_census.specs.declared.places.SetClasses.{SetClasses}
use Rattle.py_census.specs.declared.places.SizePlaces.{SizePlaces}
use Rattle.py_exceptions.specs.Described.{class_of}
use Rattle.py_fields.specs.declared.layout.Layout.{Layout}
use Rattle.py_fields.specs.declared.version.Version.{Version}
use Rattle.py_records.specs.declared.records.Records.{Records}
use Rattle.py_records.specs.declared.types.HeapTypeRecord.{HeapTypeRecord}
use Rattle.py_records.specs.declared.types.KlassRecord.{KlassRecord}
use Rattle.py_heap.specs.declared.places.HeapPlaces.{HeapPlaces}

-- where the numbers of the heap stand, where all of them are known
abbrev pub places_by : Layout → Option ListPlaces → Option SizePlaces → Option KlassRecord → Option HeapTypeRecord
    → Option HeapPlaces
places_by l (Some lists) (Some sizes) (Some klass) (Some heap_type) =
    Some (record { lists = lists; sizes = sizes; classes = class_of l klass heap_type })
places_by l _ _ _ _ = None

-- where sizes stand, by where types keep the keys that dicts share
abbrev pub sizes_of : Option SetClasses → (major minor : ℕ) → Option HeapTypeRecord → Option SizePlaces
sizes_of sets major minor None = None
sizes_of sets major minor (Some heap_type) = size_places sets heap_type.cached_keys major minor

-- a number of a version, where it is a small one
abbrev pub small : ℕ → Option ℕ
small n = if nat_lt n 65536 then Some n else None

-- the same by the major and minor version
abbrev pub places_of : Layout → Records → Option SetClasses → (major minor : Option ℕ) → Option HeapPlaces
places_of l r sets (Some major) (Some minor) =
    places_by l (list_places major minor) (sizes_of sets major minor r.types.heap_type) r.types.klass r.types.heap_type
places_of l r sets _ _ = None

-- the same by the version
abbrev pub heap_places : Version → Layout → Records → Option SetClasses → Option HeapPlaces
heap_places v l r sets = places_of l r sets (small v.major) (small v.minor)
