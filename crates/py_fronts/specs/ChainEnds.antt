-- How fronts end, as values.
use Rattle.process_memory.specs.Memory.Fault.{Missing}
use Rattle.py_fronts.specs.declared.chain_end.ChainEnd.{ChainEnd}
use Rattle.py_fronts.specs.declared.chain_end.ChainEnd.TheVariants as seen
use Rattle.py_fronts.specs.Front.{Ending}
use Rattle.py_fronts.specs.Front.Break.{Lost, Stray}
use Rattle.py_fronts.specs.Front.Ending.{Whole, Cut, Broken}

-- how a front ends, by the end of a chain that the code has
abbrev pub ending_of : ChainEnd → Ending
ending_of seen.Whole = Whole
ending_of seen.Cut = Cut
ending_of (seen.Unreadable addr len) = Broken (Lost (Missing addr len))
ending_of (seen.Stray interpreter) = Broken (Stray interpreter)
