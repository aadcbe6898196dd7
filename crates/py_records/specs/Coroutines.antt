-- Generators, coroutines, and what stands between them; when the groups of these are sound, and what a table
-- says of them. From the structs of CPython that the groups' docs name; the form of the file is this project's
-- own.
use Rattle.std.specs.Prelude.{Bool, List, [], ◌∷◌, None, IfSome, is_some, option_map, codes}
use Rattle.std.specs.Option.{option_or}
use Rattle.toml.specs.Data.{Members}
use Rattle.py_layout.specs.Values.{group_at, number_at}
use Rattle.py_fields.specs.Places.{Place}
use Rattle.py_fields.specs.Sound.{IsRecord}
use Rattle.py_records.specs.Places.{ArePlain, any_both}
use Rattle.py_records.specs.declared.coroutines.GeneratorRecord.{GeneratorRecord}
use Rattle.py_records.specs.declared.coroutines.GeneratorFrameRecord.{GeneratorFrameRecord}
use Rattle.py_records.specs.declared.coroutines.GeneratorRunningRecord.{GeneratorRunningRecord}
use Rattle.py_records.specs.declared.coroutines.GeneratorInsideRecord.{GeneratorInsideRecord}
use Rattle.py_records.specs.declared.coroutines.GeneratorHandledRecord.{GeneratorHandledRecord}
use Rattle.py_records.specs.declared.coroutines.HeldRecord.{HeldRecord}
use Rattle.py_records.specs.declared.coroutines.CoroutineRecords.{CoroutineRecords}

-- offset and width, in bytes, of `gi_name` and `gi_qualname`, or of their twins with `cr_` or `ag_`
unfoldable pub generator_places : GeneratorRecord → List Place
generator_places r = (r.name, 8) ∷ (r.qualname, 8) ∷ []

-- a `PyGenObject`, `PyCoroObject` or `PyAsyncGenObject`: its names stand inside its size, and don't meet
abbrev pub IsSoundGenerator : GeneratorRecord → Type 0
IsSoundGenerator r = IsRecord r.size (generator_places r)

-- the offset of the group `generator_frame` (`gi_frame`) is below 2^20
abbrev pub IsSoundGeneratorFrame : GeneratorFrameRecord → Type 0
IsSoundGeneratorFrame r = ArePlain (r.frame ∷ [])

-- the offset of the group `generator_running` (`gi_running`) is below 2^20
abbrev pub IsSoundGeneratorRunning : GeneratorRunningRecord → Type 0
IsSoundGeneratorRunning r = ArePlain (r.running ∷ [])

-- each offset of the group `generator_inside` (`gi_iframe`, `gi_frame_state`) is below 2^20
abbrev pub IsSoundGeneratorInside : GeneratorInsideRecord → Type 0
IsSoundGeneratorInside r = ArePlain (r.frame ∷ r.state ∷ [])

-- the offset of the group `generator_handled` (`gi_exc_state`) is below 2^20
abbrev pub IsSoundGeneratorHandled : GeneratorHandledRecord → Type 0
IsSoundGeneratorHandled r = ArePlain (r.item ∷ [])

-- offset and width, in bytes, of the address of the object that another one holds while it is awaited
unfoldable pub held_places : HeldRecord → List Place
held_places r = (r.held, 8) ∷ []

-- an object that holds another one: that one's address stands inside its size, of 1 to 65535 bytes
abbrev pub IsSoundHeld : HeldRecord → Type 0
IsSoundHeld r = IsRecord r.size (held_places r)

-- each group of generators, coroutines and what holds one of them that is there is sound
pub record AreSoundCoroutines (r : CoroutineRecords) : Type 0 where
  pub generator : IfSome r.generator IsSoundGenerator
  pub coroutine : IfSome r.coroutine IsSoundGenerator
  pub async_generator : IfSome r.async_generator IsSoundGenerator
  pub generator_frame : IfSome r.generator_frame IsSoundGeneratorFrame
  pub generator_running : IfSome r.generator_running IsSoundGeneratorRunning
  pub generator_inside : IfSome r.generator_inside IsSoundGeneratorInside
  pub generator_handled : IfSome r.generator_handled IsSoundGeneratorHandled
  pub coroutine_wrapper : IfSome r.coroutine_wrapper IsSoundHeld
  pub asend : IfSome r.asend IsSoundHeld
  pub athrow : IfSome r.athrow IsSoundHeld
  pub anext_awaitable : IfSome r.anext_awaitable IsSoundHeld

-- one of three groups: size and name offsets of a `PyGenObject`, `PyCoroObject` or `PyAsyncGenObject`
abbrev pub generator_in : Members → GeneratorRecord
generator_in ms = record {
  size = number_at ms None (codes "size");
  name = number_at ms None (codes "name");
  qualname = number_at ms None (codes "qualname");
}

-- the group `generator_frame`: the offset of `gi_frame` up to 3.10, and of its twins `cr_frame` and `ag_frame`
abbrev pub generator_frame_in : Members → GeneratorFrameRecord
generator_frame_in ms = record {
  frame = number_at ms None (codes "frame");
}

-- the group `generator_running`: the offset of `gi_running` up to 3.9, and of its twins
abbrev pub generator_running_in : Members → GeneratorRunningRecord
generator_running_in ms = record {
  running = number_at ms None (codes "running");
}

-- the group `generator_inside`: offsets of `gi_iframe`, `gi_frame_state` from 3.11 on, and of their twins
abbrev pub generator_inside_in : Members → GeneratorInsideRecord
generator_inside_in ms = record {
  frame = number_at ms None (codes "frame");
  state = number_at ms None (codes "state");
}

-- the group `generator_handled`: the offset at which `gi_exc_state` begins, from 3.7 on, and of its twins
abbrev pub generator_handled_in : Members → GeneratorHandledRecord
generator_handled_in ms = record {
  item = number_at ms None (codes "item");
}

-- the group of an object that holds another one (such as `PyCoroWrapper`): its size and that address's offset
abbrev pub held_in : Members → HeldRecord
held_in ms = record {
  size = number_at ms None (codes "size");
  held = number_at ms None (codes "held");
}

-- the groups of generators, coroutines and what holds one of them that a table has
unfoldable pub coroutines_from : Members → CoroutineRecords
coroutines_from ms = record {
  generator = option_map generator_in (group_at ms (codes "generator"));
  coroutine = option_map generator_in (group_at ms (codes "coroutine"));
  async_generator = option_map generator_in (group_at ms (codes "async_generator"));
  generator_frame = option_map generator_frame_in (group_at ms (codes "generator_frame"));
  generator_running = option_map generator_running_in (group_at ms (codes "generator_running"));
  generator_inside = option_map generator_inside_in (group_at ms (codes "generator_inside"));
  generator_handled = option_map generator_handled_in (group_at ms (codes "generator_handled"));
  coroutine_wrapper = option_map held_in (group_at ms (codes "coroutine_wrapper"));
  asend = option_map held_in (group_at ms (codes "asend"));
  athrow = option_map held_in (group_at ms (codes "athrow"));
  anext_awaitable = option_map held_in (group_at ms (codes "anext_awaitable"));
}

-- no group is there
abbrev pub no_coroutines : CoroutineRecords
no_coroutines = record {
  generator = None;
  coroutine = None;
  async_generator = None;
  generator_frame = None;
  generator_running = None;
  generator_inside = None;
  generator_handled = None;
  coroutine_wrapper = None;
  asend = None;
  athrow = None;
  anext_awaitable = None;
}

-- each group of the first that is there, and else of the second
unfoldable pub joined_coroutines : CoroutineRecords → CoroutineRecords → CoroutineRecords
joined_coroutines a b = record {
  generator = option_or a.generator b.generator;
  coroutine = option_or a.coroutine b.coroutine;
  async_generator = option_or a.async_generator b.async_generator;
  generator_frame = option_or a.generator_frame b.generator_frame;
  generator_running = option_or a.generator_running b.generator_running;
  generator_inside = option_or a.generator_inside b.generator_inside;
  generator_handled = option_or a.generator_handled b.generator_handled;
  coroutine_wrapper = option_or a.coroutine_wrapper b.coroutine_wrapper;
  asend = option_or a.asend b.asend;
  athrow = option_or a.athrow b.athrow;
  anext_awaitable = option_or a.anext_awaitable b.anext_awaitable;
}

-- whether a group is there in both
unfoldable pub share_coroutines : CoroutineRecords → CoroutineRecords → Bool
share_coroutines a b = any_both (is_some a.generator ∷ is_some a.coroutine ∷ is_some a.async_generator
    ∷ is_some a.generator_frame ∷ is_some a.generator_running ∷ is_some a.generator_inside
    ∷ is_some a.generator_handled ∷ is_some a.coroutine_wrapper ∷ is_some a.asend ∷ is_some a.athrow
    ∷ is_some a.anext_awaitable ∷ [])
    (is_some b.generator ∷ is_some b.coroutine ∷ is_some b.async_generator ∷ is_some b.generator_frame
    ∷ is_some b.generator_running ∷ is_some b.generator_inside ∷ is_some b.generator_handled
    ∷ is_some b.coroutine_wrapper ∷ is_some b.asend ∷ is_some b.athrow ∷ is_some b.anext_awaitable ∷ [])
