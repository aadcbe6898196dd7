-- Where the parts of coroutines stand by a layout and the records beside it: which group says what. That a group which
-- isn't described takes what stands on it along, and nothing else, is this project's rule.
use Rattle.std.specs.Prelude.{⊤, ℕ, ◌+◌, nat_lt, ◌||◌, Option, Some, None, if◌then◌else◌}
use Rattle.py_fields.specs.declared.layout.Layout.{Layout}
use Rattle.py_records.specs.declared.coroutines.GeneratorFrameRecord.{GeneratorFrameRecord}
use Rattle.py_records.specs.declared.coroutines.GeneratorInsideRecord.{GeneratorInsideRecord}
use Rattle.py_records.specs.declared.coroutines.GeneratorRecord.{GeneratorRecord}
use Rattle.py_records.specs.declared.coroutines.GeneratorRunningRecord.{GeneratorRunningRecord}
use Rattle.py_records.specs.declared.coroutines.HeldRecord.{HeldRecord}
use Rattle.py_records.specs.declared.frames.CodeNamesRecord.{CodeNamesRecord}
use Rattle.py_records.specs.declared.records.Records.{Records}
use Rattle.py_records.specs.declared.stacks.AwaitingStateRecord.{AwaitingStateRecord}
use Rattle.py_records.specs.declared.stacks.ResumeRecord.{ResumeRecord}
use Rattle.py_records.specs.declared.stacks.StackCountRecord.{StackCountRecord}
use Rattle.py_records.specs.declared.stacks.StackDepthRecord.{StackDepthRecord}
use Rattle.py_records.specs.declared.stacks.StackPointerRecord.{StackPointerRecord}
use Rattle.py_records.specs.declared.stacks.StackRecords.{StackRecords}
use Rattle.py_records.specs.declared.stacks.StatesRecord.{StatesRecord}
use Rattle.py_records.specs.declared.stacks.YieldFromRecord.{YieldFromRecord}
use Rattle.py_records.specs.declared.tasks.CarrierRecord.{CarrierRecord}
use Rattle.py_records.specs.declared.types.KlassRecord.{KlassRecord}
use Rattle.py_coroutines.specs.declared.places.ApartPlaces.{ApartPlaces}
use Rattle.py_coroutines.specs.declared.places.ApartStack.{ApartStack}
use Rattle.py_coroutines.specs.declared.places.ApartStack.TheVariants.{Pointer, Depth}
use Rattle.py_coroutines.specs.declared.places.AwaitTypes.{AwaitTypes}
use Rattle.py_coroutines.specs.declared.places.ClassPlaces.{ClassPlaces}
use Rattle.py_coroutines.specs.declared.places.CodePlaces.{CodePlaces}
use Rattle.py_coroutines.specs.declared.places.Family.{Family}
use Rattle.py_coroutines.specs.declared.places.Family.TheVariants.{Apart, Inside}
use Rattle.py_coroutines.specs.declared.places.Held.{Held}
use Rattle.py_coroutines.specs.declared.places.Holders.{Holders}
use Rattle.py_coroutines.specs.declared.places.InsidePlaces.{InsidePlaces}
use Rattle.py_coroutines.specs.declared.places.Places.{Places}
use Rattle.py_coroutines.specs.declared.places.States.{States}
use Rattle.py_coroutines.specs.declared.places.Wants.{Wants}
use Rattle.py_coroutines.specs.declared.places.Wants.TheVariants.{Class, Any, Future}
use Rattle.py_coroutines.specs.Places.{IsSound}
use Rattle.coroutine_frames.specs.declared.described.StackRead.{StackRead}

-- what stands between a coroutine and what it awaits
abbrev pub held_of : Wants → Option HeldRecord → Option Held
held_of wants None = None
held_of wants (Some at) = Some (record { size = at.size; held = at.held; wants = wants })

-- an object that holds a future, where it is described (`FutureIter`)
abbrev pub carried_of : Option CarrierRecord → Option Held
carried_of None = None
carried_of (Some at) = Some (record { size = at.size; held = at.held; wants = Future })

-- the objects that stand between a coroutine and what it awaits, as far as they are described
abbrev pub holders_of : Records → AwaitTypes → Holders
holders_of r types = record {
  coroutine_wrapper = held_of (Class types.coroutine) r.coroutines.coroutine_wrapper;
  asend = held_of (Class types.async_generator) r.coroutines.asend;
  athrow = held_of (Class types.async_generator) r.coroutines.athrow;
  anext_awaitable = held_of Any r.coroutines.anext_awaitable;
  future_iter = carried_of r.tasks.future_iter;
}

-- where an object names its class, and a class has its name, flags and size (`PyTypeObject`)
abbrev pub class_of : Layout → KlassRecord → ClassPlaces
class_of l klass = record {
  klass = l.object.klass;
  name = l.klass.name;
  flags = l.klass.flags;
  basic_size = klass.basicsize;
}

-- the instruction of a frame that awaits
abbrev pub yield_from_of : Layout → Option YieldFromRecord → Option CodeNamesRecord → Option CodePlaces
yield_from_of l None names = None
yield_from_of l (Some at) None = None
yield_from_of l (Some at) (Some names) = Some (record {
  bytecode = names.bytecode;
  start = l.bytes.at;
  first = at.opcode;
  second = at.opcode;
  least = 0;
})

-- the instruction of a frame that awaits: `RESUME` where that is described, else `YIELD_FROM`
abbrev pub code_by : Layout → Option ResumeRecord → Option YieldFromRecord → Option CodeNamesRecord → Option CodePlaces
code_by l None yield_from names = yield_from_of l yield_from names
code_by l (Some at) yield_from names =
    Some (record { bytecode = 0; start = 0; first = at.first; second = at.second; least = 2 })

-- the same by the records of a version
abbrev pub code_of : Layout → Records → Option CodePlaces
code_of l r = code_by l r.stacks.resume r.stacks.yield_from r.frames.code_names

-- the state of a frame that awaits (`FRAME_SUSPENDED_YIELD_FROM`), where a version has it
abbrev pub awaiting_of : Option AwaitingStateRecord → Option ℕ
awaiting_of None = None
awaiting_of (Some at) = Some at.state

-- where a coroutine has the byte that says whether it runs (`gi_running`), where a version describes it
abbrev pub running_of : Option GeneratorRunningRecord → Option ℕ
running_of None = None
running_of (Some at) = Some at.running

-- the numbers of a frame's states, by the records of a version
abbrev pub states_of : StatesRecord → Option AwaitingStateRecord → States
states_of s awaiting = record {
  created = s.created;
  suspended = s.suspended;
  running = s.running;
  awaiting = awaiting_of awaiting;
}

-- so many bytes, or one more than a place where that is behind them
unfoldable pub covering : ℕ → ℕ → ℕ
covering size place = if nat_lt place size || nat_lt 65534 place then size else place + 1

-- a stack that is told by its bottom, its depth and the frame's state (`f_valuestack`, `f_stackdepth`, `f_state`)
abbrev pub depth_stack : StackDepthRecord → States → ApartStack
depth_stack at states = Depth at.bottom at.depth at.state states

-- such a stack and how many bytes of the frame object are read, where it is described
abbrev pub depth_of : ℕ → Option StackDepthRecord → Option StatesRecord → Option AwaitingStateRecord → Option StackRead
depth_of size None states awaiting = None
depth_of size (Some at) None awaiting = None
depth_of size (Some at) (Some states) awaiting =
    Some (record { stack = depth_stack at (states_of states awaiting); size = covering size at.state })

-- how a frame object tells its state and its stack, and how many bytes of it are read
abbrev pub apart_stack_by : ℕ → Option StackPointerRecord → Option StackDepthRecord → Option StatesRecord
    → Option AwaitingStateRecord → Option StackRead
apart_stack_by size None depth states awaiting = depth_of size depth states awaiting
apart_stack_by size (Some at) depth states awaiting = Some (record { stack = Pointer at.top; size = size })

-- how a frame object tells its stack and how many bytes are read, by the records of a version
abbrev pub apart_stack_of : Layout → StackRecords → Option StackRead
apart_stack_of l s = apart_stack_by l.frame.size s.stack_pointer s.stack_depth s.states s.awaiting_state

-- coroutines whose frame is an object of its own, where all that they need is described
abbrev pub apart_by : Layout → Option GeneratorRecord → Option GeneratorFrameRecord → Option StackRead → Option ℕ
    → Option ApartPlaces
apart_by l None frame stack running = None
apart_by l (Some generator) None stack running = None
apart_by l (Some generator) (Some frame) None running = None
apart_by l (Some generator) (Some frame) (Some read) running = Some (record {
  size = generator.size;
  frame = frame.frame;
  running = running;
  frame_size = read.size;
  code = l.frame.code;
  last = l.frame.instr;
  stack = read.stack;
})

-- coroutines whose frame is an object of its own
abbrev pub apart_of : Layout → Records → Option ApartPlaces
apart_of l r = apart_by l r.coroutines.generator r.coroutines.generator_frame (apart_stack_of l r.stacks)
    (running_of r.coroutines.generator_running)

-- coroutines that have their frame inside
abbrev pub inside_with : Layout → GeneratorRecord → GeneratorInsideRecord → Option StackCountRecord
    → Option StatesRecord → Option AwaitingStateRecord → Option InsidePlaces
inside_with l generator inside None states awaiting = None
inside_with l generator inside (Some count) None awaiting = None
inside_with l generator inside (Some count) (Some states) awaiting = Some (record {
  size = generator.size;
  frame = inside.frame;
  state = inside.state;
  states = states_of states awaiting;
  instruction = l.frame.instr;
  depth = count.top;
  stack = l.frame.locals;
})

-- how coroutines stand in memory: with their frame inside, where its places are described
abbrev pub inside_if : Option InsidePlaces → Option Family
inside_if None = None
inside_if (Some places) = Some (Inside places)

-- how coroutines stand in memory: with a frame object, where its places are described
abbrev pub apart_if : Option ApartPlaces → Option Family
apart_if None = None
apart_if (Some places) = Some (Apart places)

-- coroutines with their frame inside, by the records of a version
abbrev pub inside_of : Layout → Option GeneratorRecord → GeneratorInsideRecord → StackRecords → Option Family
inside_of l None inside s = None
inside_of l (Some generator) inside s =
    inside_if (inside_with l generator inside s.stack_count s.states s.awaiting_state)

-- how coroutines stand in memory
abbrev pub family_by : Layout → Records → Option GeneratorInsideRecord → Option Family
family_by l r None = apart_if (apart_of l r)
family_by l r (Some inside) = inside_of l r.coroutines.generator inside r.stacks

-- how coroutines stand in memory, by the records of a version
abbrev pub family_of : Layout → Records → Option Family
family_of l r = family_by l r r.coroutines.generator_inside

-- where the parts of coroutines stand, where classes, code and frames are described
abbrev pub places_by : Layout → Records → AwaitTypes → Option KlassRecord → Option CodePlaces → Option Family
    → Option Places
places_by l r types None code family = None
places_by l r types (Some klass) None family = None
places_by l r types (Some klass) (Some code) None = None
places_by l r types (Some klass) (Some code) (Some family) = Some (record {
  types = types;
  class = class_of l klass;
  holders = holders_of r types;
  code = code;
  family = family;
})

-- where the parts of coroutines stand, as it is described
abbrev pub unchecked_of : Layout → Records → AwaitTypes → Option Places
unchecked_of l r types = places_by l r types r.types.klass (code_of l r) (family_of l r)

-- they are not described, or what is read of a record would not lie inside it
abbrev pub HasNoPlaces : Option Places → Type 0
HasNoPlaces None = ⊤
HasNoPlaces (Some places) = IsSound places → ⊥
