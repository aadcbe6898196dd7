use Rattle.type_places.proofs.Having.{Having}
use Rattle.type_places.proofs.classes.have_class.Given as goal

abbrev pub invariant-loop-object : goal.invariant-loop-object
invariant-loop-object g l = Having l.layout l.class l.objects (g.P.ProcessMemory.seen l.initial.process)
    (g.P.ProcessMemory.seen l.process) l.object-index
