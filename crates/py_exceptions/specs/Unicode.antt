-- What the errors of Unicode's tell (`PyUnicodeErrorObject`, Include/cpython/pyerrors.h): the data that can't be coded,
-- which goes from `start` to before `end` in `object`, and why.
use Rattle.std.specs.Prelude.{ℕ, ◌+◌, Option, Some, None}
use Rattle.process_memory.specs.Memory.{Memory, word_at}
use Rattle.py_fields.specs.declared.layout.Layout.{Layout}
use Rattle.py_records.specs.declared.exceptions.UnicodeErrorRecord.{UnicodeErrorRecord}
use Rattle.py_exceptions.specs.declared.unicode.InvalidData.{InvalidData}
use Rattle.py_exceptions.specs.declared.unit.Unit.{Unit}
use Rattle.py_exceptions.specs.declared.unit.Units.{Units}
use Rattle.py_exceptions.specs.declared.value.Value.{Value}
use Rattle.py_exceptions.specs.Faults.{known}
use Rattle.py_exceptions.specs.Units.{unit_at}
use Rattle.py_exceptions.specs.Values.{field_at}

-- what the object has at the start, where both are known
abbrev pub first_by : Layout → Memory → Units → Option ℕ → Option ℕ → Option Unit
first_by l m u None start = None
first_by l m u (Some a) None = None
first_by l m u (Some a) (Some n) = unit_at l m u a n

-- what is told of the data, put together
abbrev pub invalid_with : Option ℕ → Option ℕ → Option ℕ → Option Unit → Option Value → InvalidData
invalid_with object start end first reason =
    record { object = object; start = start; end = end; first = first; reason = reason }

-- the same, with what the object has at the start
abbrev pub invalid_by : Layout → Memory → Units → Option ℕ → Option ℕ → Option ℕ → Option Value → InvalidData
invalid_by l m u object start end reason = invalid_with object start end (first_by l m u object start) reason

-- the data that the exception at an address says can't be coded
unfoldable pub invalid_at : Layout → UnicodeErrorRecord → Memory → Units → ℕ → InvalidData
invalid_at l p m u at =
    invalid_by l m u (known (word_at m (at + p.object))) (known (word_at m (at + p.start)))
    (known (word_at m (at + p.end))) (field_at l m at p.reason)
