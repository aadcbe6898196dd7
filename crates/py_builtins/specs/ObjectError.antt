-- The faults that errors name.
use Rattle.std.specs.Prelude.{Option, Some, None}
use Rattle.process_memory.specs.Memory.{Fault}
use Rattle.process_memory.specs.Memory.Fault.{Missing, NoText as HasNoText, TooLong as IsTooLong, BadDict as IsBadDict}
use Rattle.process_memory.specs.Memory.Fault.{BadType as IsBadType, Visits as ManyVisits, Depth as ManyLevels}
use Rattle.process_memory.specs.Memory.Fault.{BadCount as IsBadCount, BadBool as IsBadBool}
use Rattle.py_builtins.specs.declared.error.ObjectError.{ObjectError}
use Rattle.py_builtins.specs.declared.error.ObjectError.TheVariants.{Unreadable, NoText, TooLong, BadDict, BadType}
use Rattle.py_builtins.specs.declared.error.ObjectError.TheVariants.{Visits, Depth, BadCount, BadBool, OutOfMemory}

-- the fault that an error names; out of memory names none
abbrev pub object_fault : ObjectError → Option Fault
object_fault (Unreadable a n) = Some (Missing a n)
object_fault NoText = Some HasNoText
object_fault (TooLong n) = Some (IsTooLong n)
object_fault BadDict = Some IsBadDict
object_fault BadType = Some IsBadType
object_fault Visits = Some ManyVisits
object_fault Depth = Some ManyLevels
object_fault (BadCount n) = Some (IsBadCount n)
object_fault (BadBool b) = Some (IsBadBool b)
object_fault OutOfMemory = None
