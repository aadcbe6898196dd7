-- Which places of exceptions and what they lead to can be read.
use Rattle.thread_exceptions.specs.Places.{IsSound}
use Rattle.py_exceptions.specs.declared.described.Described.{Described}
use Rattle.py_exceptions.specs.Places.{IsSoundTraceback}

-- what is read of each record lies inside it
pub record IsDescribed (d : Described) : Type 0 where
  pub thread : IsSound d.thread
  pub traceback : IsSoundTraceback d.traceback
