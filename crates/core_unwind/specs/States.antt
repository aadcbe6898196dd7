-- Where a thread stands.
use Rattle.std.specs.Prelude.{ℕ, ◌-◌, if◌then◌else◌}
use Rattle.core_unwind.specs.declared.state.State.{State}

-- the address of the instruction: a return address stands behind its call, maybe behind the function's end
abbrev pub here : State → ℕ
here s = if s.is_exact then s.pc else s.pc - 1
