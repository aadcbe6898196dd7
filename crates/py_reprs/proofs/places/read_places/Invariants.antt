use Rattle.py_reprs.specs.Places.{place_at}
use Rattle.py_reprs.proofs.Listing.{Listing}
use Rattle.py_reprs.proofs.places.read_places.Given as goal

abbrev pub invariant-loop-number : goal.invariant-loop-number
invariant-loop-number g l =
    Listing (λ m k. place_at m l.base k) 1 (g.P.ProcessMemory.seen l.initial.process)
    (g.P.ProcessMemory.seen l.process) l.count l.number l.places.items
