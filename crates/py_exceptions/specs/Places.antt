-- Where the parts of exceptions stand: which places can be read. That what is read of a record lies inside it is this
-- project's rule.
use Rattle.std.specs.Prelude.{◌+◌, ◌<◌, ◌≤◌, ◌^◌}
use Rattle.py_exceptions.specs.declared.entry.TracebackPlaces.{TracebackPlaces}

-- what is read of the record of a traceback's entry lies inside it
pub record IsSoundTraceback (at : TracebackPlaces) : Type 0 where
  pub size : at.size < 2 ^ 16
  pub frame : at.frame + 8 ≤ at.size
  pub lasti : at.lasti + 4 ≤ at.size
  pub line : at.line + 4 ≤ at.size
