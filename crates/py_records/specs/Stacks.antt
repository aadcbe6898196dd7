-- Where the values of a frame stand that its instructions work on, and what tells its state; when the groups of
-- these are sound, and what a table says of them. From the structs of CPython that the groups' docs name; the
-- form of the file is this project's own.
use Rattle.std.specs.Prelude.{Bool, [], ◌∷◌, None, IfSome, is_some, option_map, codes}
use Rattle.std.specs.Option.{option_or}
use Rattle.toml.specs.Data.{Members}
use Rattle.py_layout.specs.Values.{group_at, number_at}
use Rattle.py_records.specs.Places.{ArePlain, any_both}
use Rattle.py_records.specs.declared.stacks.StackPointerRecord.{StackPointerRecord}
use Rattle.py_records.specs.declared.stacks.StackDepthRecord.{StackDepthRecord}
use Rattle.py_records.specs.declared.stacks.StackCountRecord.{StackCountRecord}
use Rattle.py_records.specs.declared.stacks.StatesRecord.{StatesRecord}
use Rattle.py_records.specs.declared.stacks.AwaitingStateRecord.{AwaitingStateRecord}
use Rattle.py_records.specs.declared.stacks.YieldFromRecord.{YieldFromRecord}
use Rattle.py_records.specs.declared.stacks.ResumeRecord.{ResumeRecord}
use Rattle.py_records.specs.declared.stacks.StackRecords.{StackRecords}

-- each offset of the group `stack_pointer` (`f_valuestack`, `f_stacktop`) is below 2^20
abbrev pub IsSoundStackPointer : StackPointerRecord → Type 0
IsSoundStackPointer r = ArePlain (r.bottom ∷ r.top ∷ [])

-- each offset of the group `stack_depth` (`f_valuestack`, `f_stackdepth`, `f_state`) is below 2^20
abbrev pub IsSoundStackDepth : StackDepthRecord → Type 0
IsSoundStackDepth r = ArePlain (r.bottom ∷ r.depth ∷ r.state ∷ [])

-- the offset of the group `stack_count` (`stacktop`) is below 2^20
abbrev pub IsSoundStackCount : StackCountRecord → Type 0
IsSoundStackCount r = ArePlain (r.top ∷ [])

-- the bytes for `FRAME_CREATED`, `FRAME_SUSPENDED` and `FRAME_EXECUTING` are below 2^20
abbrev pub IsSoundStates : StatesRecord → Type 0
IsSoundStates r = ArePlain (r.created ∷ r.suspended ∷ r.running ∷ [])

-- the byte for `FRAME_SUSPENDED_YIELD_FROM` is below 2^20
abbrev pub IsSoundAwaitingState : AwaitingStateRecord → Type 0
IsSoundAwaitingState r = ArePlain (r.state ∷ [])

-- the opcode of `YIELD_FROM` is below 2^20
abbrev pub IsSoundYieldFrom : YieldFromRecord → Type 0
IsSoundYieldFrom r = ArePlain (r.opcode ∷ [])

-- both opcodes of `RESUME` are below 2^20
abbrev pub IsSoundResume : ResumeRecord → Type 0
IsSoundResume r = ArePlain (r.first ∷ r.second ∷ [])

-- each group of a frame's stack of values and its state that is there is sound
pub record AreSoundStacks (r : StackRecords) : Type 0 where
  pub stack_pointer : IfSome r.stack_pointer IsSoundStackPointer
  pub stack_depth : IfSome r.stack_depth IsSoundStackDepth
  pub stack_count : IfSome r.stack_count IsSoundStackCount
  pub states : IfSome r.states IsSoundStates
  pub awaiting_state : IfSome r.awaiting_state IsSoundAwaitingState
  pub yield_from : IfSome r.yield_from IsSoundYieldFrom
  pub resume : IfSome r.resume IsSoundResume

-- the group `stack_pointer`: the offsets of `f_valuestack`, `f_stacktop` in a `PyFrameObject` up to 3.9
abbrev pub stack_pointer_in : Members → StackPointerRecord
stack_pointer_in ms = record {
  bottom = number_at ms None (codes "bottom");
  top = number_at ms None (codes "top");
}

-- the group `stack_depth`: the offsets of `f_valuestack`, `f_stackdepth`, `f_state` in a `PyFrameObject` of 3.10
abbrev pub stack_depth_in : Members → StackDepthRecord
stack_depth_in ms = record {
  bottom = number_at ms None (codes "bottom");
  depth = number_at ms None (codes "depth");
  state = number_at ms None (codes "state");
}

-- the group `stack_count`: the offset of `stacktop` in a `_PyInterpreterFrame` from 3.11 on
abbrev pub stack_count_in : Members → StackCountRecord
stack_count_in ms = record {
  top = number_at ms None (codes "top");
}

-- the group `states`: the bytes for `FRAME_CREATED`, `FRAME_SUSPENDED` and `FRAME_EXECUTING`
abbrev pub states_in : Members → StatesRecord
states_in ms = record {
  created = number_at ms None (codes "created");
  suspended = number_at ms None (codes "suspended");
  running = number_at ms None (codes "running");
}

-- the group `awaiting_state`: the byte for `FRAME_SUSPENDED_YIELD_FROM`, from 3.13 on
abbrev pub awaiting_state_in : Members → AwaitingStateRecord
awaiting_state_in ms = record {
  state = number_at ms None (codes "state");
}

-- the group `yield_from`: the opcode of `YIELD_FROM`, up to 3.10 (Include/opcode.h)
abbrev pub yield_from_in : Members → YieldFromRecord
yield_from_in ms = record {
  opcode = number_at ms None (codes "opcode");
}

-- the group `resume`: the opcodes of `RESUME`, and of `RESUME_QUICK` (3.11) or `INSTRUMENTED_RESUME`
abbrev pub resume_in : Members → ResumeRecord
resume_in ms = record {
  first = number_at ms None (codes "first");
  second = number_at ms None (codes "second");
}

-- the groups of a frame's stack of values and its state that a table has
unfoldable pub stacks_from : Members → StackRecords
stacks_from ms = record {
  stack_pointer = option_map stack_pointer_in (group_at ms (codes "stack_pointer"));
  stack_depth = option_map stack_depth_in (group_at ms (codes "stack_depth"));
  stack_count = option_map stack_count_in (group_at ms (codes "stack_count"));
  states = option_map states_in (group_at ms (codes "states"));
  awaiting_state = option_map awaiting_state_in (group_at ms (codes "awaiting_state"));
  yield_from = option_map yield_from_in (group_at ms (codes "yield_from"));
  resume = option_map resume_in (group_at ms (codes "resume"));
}

-- no group is there
abbrev pub no_stacks : StackRecords
no_stacks = record {
  stack_pointer = None;
  stack_depth = None;
  stack_count = None;
  states = None;
  awaiting_state = None;
  yield_from = None;
  resume = None;
}

-- each group of the first that is there, and else of the second
unfoldable pub joined_stacks : StackRecords → StackRecords → StackRecords
joined_stacks a b = record {
  stack_pointer = option_or a.stack_pointer b.stack_pointer;
  stack_depth = option_or a.stack_depth b.stack_depth;
  stack_count = option_or a.stack_count b.stack_count;
  states = option_or a.states b.states;
  awaiting_state = option_or a.awaiting_state b.awaiting_state;
  yield_from = option_or a.yield_from b.yield_from;
  resume = option_or a.resume b.resume;
}

-- whether a group is there in both
unfoldable pub share_stacks : StackRecords → StackRecords → Bool
share_stacks a b = any_both (is_some a.stack_pointer ∷ is_some a.stack_depth ∷ is_some a.stack_count
    ∷ is_some a.states ∷ is_some a.awaiting_state ∷ is_some a.yield_from ∷ is_some a.resume ∷ [])
    (is_some b.stack_pointer ∷ is_some b.stack_depth ∷ is_some b.stack_count ∷ is_some b.states
    ∷ is_some b.awaiting_state ∷ is_some b.yield_from ∷ is_some b.resume ∷ [])
