-- Where the parts of exceptions stand: which places can be read. That what is read of a record lies inside it is this
-- project's rule; which fields there are is CPython's (`PyBaseExceptionObject`, Include/cpython/pyerrors.h).
use Rattle.std.specs.Prelude.{ℕ, ◌+◌, ◌<◌, ◌≤◌, ◌^◌}
use Rattle.thread_exceptions.specs.declared.places.ExceptionPlaces.{ExceptionPlaces}
use Rattle.thread_exceptions.specs.declared.places.Places.{Places}

-- what is read of an exception's record lies inside it
pub record IsSoundException (at : ExceptionPlaces) : Type 0 where
  pub size : at.size < 2 ^ 16
  pub dict : at.dict + 8 ≤ at.size
  pub args : at.args + 8 ≤ at.size
  pub traceback : at.traceback + 8 ≤ at.size
  pub context : at.context + 8 ≤ at.size
  pub cause : at.cause + 8 ≤ at.size
  pub suppress_context : at.suppress_context + 1 ≤ at.size

-- what is read of each record lies inside it
abbrev pub IsSound : Places → Type 0
IsSound p = IsSoundException p.exception
