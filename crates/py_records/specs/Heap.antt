-- Where the objects are: the garbage collector and the arenas; when the groups of these are sound, and what a
-- table says of them. From the structs of CPython that the groups' docs name; the form of the file is this
-- project's own.
use Rattle.std.specs.Prelude.{Bool, List, [], ◌∷◌, None, IfSome, is_some, option_map, codes}
use Rattle.std.specs.Option.{option_or}
use Rattle.toml.specs.Data.{Members}
use Rattle.py_layout.specs.Values.{group_at, number_at}
use Rattle.py_fields.specs.Places.{Place}
use Rattle.py_fields.specs.Sound.{IsRecord}
use Rattle.py_records.specs.Places.{ArePlain, any_both}
use Rattle.py_records.specs.declared.heap.InterpreterRecord.{InterpreterRecord}
use Rattle.py_records.specs.declared.heap.CollectorRecord.{CollectorRecord}
use Rattle.py_records.specs.declared.heap.GenerationRecord.{GenerationRecord}
use Rattle.py_records.specs.declared.heap.GcHeadRecord.{GcHeadRecord}
use Rattle.py_records.specs.declared.heap.ArenaRecord.{ArenaRecord}
use Rattle.py_records.specs.declared.heap.PoolRecord.{PoolRecord}
use Rattle.py_records.specs.declared.heap.ArenasInsideRecord.{ArenasInsideRecord}
use Rattle.py_records.specs.declared.heap.ArenasBehindRecord.{ArenasBehindRecord}
use Rattle.py_records.specs.declared.heap.HeapRecords.{HeapRecords}

-- the offset of `next` in a `PyInterpreterState` is below 2^20
abbrev pub IsSoundInterpreter : InterpreterRecord → Type 0
IsSoundInterpreter r = ArePlain (r.next ∷ [])

-- the offsets of the collector's `generations`, `permanent_generation` and `collecting` are below 2^20
abbrev pub IsSoundCollector : CollectorRecord → Type 0
IsSoundCollector r = ArePlain (r.generations ∷ r.permanent ∷ r.collecting ∷ [])

-- offset and width, in bytes, of `count` in a `gc_generation`
unfoldable pub generation_places : GenerationRecord → List Place
generation_places r = (r.count, 4) ∷ []

-- a `gc_generation`: its field stands inside its size, of 1 to 65535 bytes
abbrev pub IsSoundGeneration : GenerationRecord → Type 0
IsSoundGeneration r = IsRecord r.size (generation_places r)

-- offset and width, in bytes, of a `PyGC_Head`'s links, to the next head and to the one before
unfoldable pub gc_head_places : GcHeadRecord → List Place
gc_head_places r = (r.next, 8) ∷ (r.previous, 8) ∷ []

-- a `PyGC_Head`: its links stand inside its size, and don't meet; the number of bits that are marks is below 2^20
pub record IsSoundGcHead (r : GcHeadRecord) : Type 0 where
  pub fields : IsRecord r.size (gc_head_places r)
  pub constants : ArePlain (r.marks ∷ [])

-- offsets and widths, in bytes, in an `arena_object`: `address`, `pool_address`, `nfreepools`, `ntotalpools`
unfoldable pub arena_places : ArenaRecord → List Place
arena_places r = (r.address, 8) ∷ (r.pool, 8) ∷ (r.free, 4) ∷ (r.pools, 4) ∷ []

-- an `arena_object`: its fields stand inside its size, of 1 to 65535 bytes, and no two meet
abbrev pub IsSoundArena : ArenaRecord → Type 0
IsSoundArena r = IsRecord r.size (arena_places r)

-- offsets and widths, in bytes, in a `pool_header`: `ref.count`, `freeblock`, `szidx`, `nextoffset`
unfoldable pub pool_places : PoolRecord → List Place
pool_places r = (r.count, 4) ∷ (r.free_block, 8) ∷ (r.size_class, 4) ∷ (r.next_offset, 4) ∷ []

-- a `pool_header`: its fields stand inside its size, and no two meet; `POOL_SIZE` is below 2^20
pub record IsSoundPool (r : PoolRecord) : Type 0 where
  pub fields : IsRecord r.size (pool_places r)
  pub constants : ArePlain (r.bytes ∷ [])

-- each offset of the group `arenas_inside` (`obmalloc.mgmt.arenas`, `maxarenas`) is below 2^20
abbrev pub IsSoundArenasInside : ArenasInsideRecord → Type 0
IsSoundArenasInside r = ArePlain (r.arenas ∷ r.count ∷ [])

-- the offset of `obmalloc`, and those of `arenas` and `maxarenas` in the state it leads to, are below 2^20
abbrev pub IsSoundArenasBehind : ArenasBehindRecord → Type 0
IsSoundArenasBehind r = ArePlain (r.state ∷ r.arenas ∷ r.count ∷ [])

-- each group of interpreters, the collector and pymalloc that is there is sound
pub record AreSoundHeap (r : HeapRecords) : Type 0 where
  pub interpreter : IfSome r.interpreter IsSoundInterpreter
  pub runtime_collector : IfSome r.runtime_collector IsSoundCollector
  pub collector : IfSome r.collector IsSoundCollector
  pub generation : IfSome r.generation IsSoundGeneration
  pub gc_head : IfSome r.gc_head IsSoundGcHead
  pub arena : IfSome r.arena IsSoundArena
  pub pool : IfSome r.pool IsSoundPool
  pub arenas_inside : IfSome r.arenas_inside IsSoundArenasInside
  pub arenas_behind : IfSome r.arenas_behind IsSoundArenasBehind

-- the group `interpreter`: where a `PyInterpreterState` has the address of the next one
abbrev pub interpreter_in : Members → InterpreterRecord
interpreter_in ms = record {
  next = number_at ms None (codes "next");
}

-- the group `collector` or `runtime_collector`: offsets of `gc.generations`, `permanent_generation`, `collecting`
abbrev pub collector_in : Members → CollectorRecord
collector_in ms = record {
  generations = number_at ms None (codes "generations");
  permanent = number_at ms None (codes "permanent");
  collecting = number_at ms None (codes "collecting");
}

-- the group `generation`: size and the field's offset of a `gc_generation` (Include/internal/pycore_gc.h)
abbrev pub generation_in : Members → GenerationRecord
generation_in ms = record {
  size = number_at ms None (codes "size");
  count = number_at ms None (codes "count");
}

-- the group `gc_head`: size and link offsets of a `PyGC_Head`, and how many low bits of the links are marks
abbrev pub gc_head_in : Members → GcHeadRecord
gc_head_in ms = record {
  size = number_at ms None (codes "size");
  next = number_at ms None (codes "next");
  previous = number_at ms None (codes "previous");
  marks = number_at ms None (codes "marks");
}

-- the group `arena`: size and field offsets of an `arena_object` (Objects/obmalloc.c)
abbrev pub arena_in : Members → ArenaRecord
arena_in ms = record {
  size = number_at ms None (codes "size");
  address = number_at ms None (codes "address");
  pool = number_at ms None (codes "pool");
  free = number_at ms None (codes "free");
  pools = number_at ms None (codes "pools");
}

-- the group `pool`: size and field offsets of a `pool_header` (Objects/obmalloc.c), and `POOL_SIZE` in bytes
abbrev pub pool_in : Members → PoolRecord
pool_in ms = record {
  size = number_at ms None (codes "size");
  bytes = number_at ms None (codes "bytes");
  count = number_at ms None (codes "count");
  free_block = number_at ms None (codes "free_block");
  size_class = number_at ms None (codes "size_class");
  next_offset = number_at ms None (codes "next_offset");
}

-- the group `arenas_inside`: the offsets of `obmalloc.mgmt.arenas`, `maxarenas` in a `PyInterpreterState` of 3.12
abbrev pub arenas_inside_in : Members → ArenasInsideRecord
arenas_inside_in ms = record {
  arenas = number_at ms None (codes "arenas");
  count = number_at ms None (codes "count");
}

-- the group `arenas_behind`, of 3.13: offset of `obmalloc`, and in `_obmalloc_state` of `arenas` and `maxarenas`
abbrev pub arenas_behind_in : Members → ArenasBehindRecord
arenas_behind_in ms = record {
  state = number_at ms None (codes "state");
  arenas = number_at ms None (codes "arenas");
  count = number_at ms None (codes "count");
}

-- the groups of interpreters, the collector and pymalloc that a table has
unfoldable pub heap_from : Members → HeapRecords
heap_from ms = record {
  interpreter = option_map interpreter_in (group_at ms (codes "interpreter"));
  runtime_collector = option_map collector_in (group_at ms (codes "runtime_collector"));
  collector = option_map collector_in (group_at ms (codes "collector"));
  generation = option_map generation_in (group_at ms (codes "generation"));
  gc_head = option_map gc_head_in (group_at ms (codes "gc_head"));
  arena = option_map arena_in (group_at ms (codes "arena"));
  pool = option_map pool_in (group_at ms (codes "pool"));
  arenas_inside = option_map arenas_inside_in (group_at ms (codes "arenas_inside"));
  arenas_behind = option_map arenas_behind_in (group_at ms (codes "arenas_behind"));
}

-- no group is there
abbrev pub no_heap : HeapRecords
no_heap = record {
  interpreter = None;
  runtime_collector = None;
  collector = None;
  generation = None;
  gc_head = None;
  arena = None;
  pool = None;
  arenas_inside = None;
  arenas_behind = None;
}

-- each group of the first that is there, and else of the second
unfoldable pub joined_heap : HeapRecords → HeapRecords → HeapRecords
joined_heap a b = record {
  interpreter = option_or a.interpreter b.interpreter;
  runtime_collector = option_or a.runtime_collector b.runtime_collector;
  collector = option_or a.collector b.collector;
  generation = option_or a.generation b.generation;
  gc_head = option_or a.gc_head b.gc_head;
  arena = option_or a.arena b.arena;
  pool = option_or a.pool b.pool;
  arenas_inside = option_or a.arenas_inside b.arenas_inside;
  arenas_behind = option_or a.arenas_behind b.arenas_behind;
}

-- whether a group is there in both
unfoldable pub share_heap : HeapRecords → HeapRecords → Bool
share_heap a b = any_both (is_some a.interpreter ∷ is_some a.runtime_collector ∷ is_some a.collector
    ∷ is_some a.generation ∷ is_some a.gc_head ∷ is_some a.arena ∷ is_some a.pool ∷ is_some a.arenas_inside
    ∷ is_some a.arenas_behind ∷ [])
    (is_some b.interpreter ∷ is_some b.runtime_collector ∷ is_some b.collector ∷ is_some b.generation
    ∷ is_some b.gc_head ∷ is_some b.arena ∷ is_some b.pool ∷ is_some b.arenas_inside ∷ is_some b.arenas_behind ∷ [])
