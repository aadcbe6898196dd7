-- What an instance's dict is. The forms are CPython's.
use Rattle.std.specs.Prelude.{ℕ, zero, suc, ◌+◌, ◌-◌, ◌^◌, nat_lt, if◌then◌else◌, Ok, Err}
use Rattle.process_memory.specs.Memory.{Memory, Found, ◌>>=◌, word_at}
use Rattle.process_memory.specs.Memory.Fault.{Missing}
use Rattle.instance_dicts.specs.declared.forms.InstanceDict.{InstanceDict}
use Rattle.instance_dicts.specs.declared.forms.InstanceDict.TheVariants.{None, Dict, Values}
use Rattle.instance_dicts.specs.declared.forms.InstanceFields.{InstanceFields}

-- an address that was computed; one past the last is in no memory
unfoldable pub as_address : ℕ → Found ℕ
as_address n = if nat_lt n (2 ^ 64) then Ok n else Err (Missing (2 ^ 64 - 1) 8)

-- the dict that a word names; 0 names none
abbrev pub dict_or_none : ℕ → InstanceDict
dict_or_none zero = None
dict_or_none (suc a) = Dict (suc a)

-- values, with the keys that the instances of a class share
unfoldable pub values_with : InstanceFields → Memory → ℕ → ℕ → Found InstanceDict
values_with f m class values = do
  at ← as_address values
  keys ← word_at m (class + f.cached_keys)
  Ok (Values keys at)
