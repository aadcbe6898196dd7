-- What is needed of the threads of Python that are shown.
use Rattle.std.specs.Prelude.{List, [], ◌∷◌, length, map}
use Rattle.std.specs.List.{flat_map}
use Rattle.py_fronts.specs.declared.salvaged.SalvagedInterpreter.{SalvagedInterpreter}
use Rattle.py_fronts.specs.declared.thread_front.ThreadFront.{ThreadFront}
use Rattle.paired_stacks.specs.declared.walked.Walked.{Walked}

-- of a thread of Python's its address, how many members were met, and how many frames are told
abbrev pub walked_of : ThreadFront → Walked
walked_of t = record {
  address = t.address;
  met = t.frames.met;
  frames = length t.frames.first.items ∷ t.frames.between ∷ length t.frames.last.items ∷ [];
}

-- what is needed of the threads of an interpreter, in the order of its chain
abbrev pub walked_in : SalvagedInterpreter → List Walked
walked_in i = map walked_of i.front.threads.threads.items

-- those of each interpreter, in the order of the interpreters and of their chains
abbrev pub walked_threads : List SalvagedInterpreter → List Walked
walked_threads is = flat_map walked_in is
