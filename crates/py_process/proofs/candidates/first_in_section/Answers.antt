use Rattle.std.proofs.Common.{ap, arith, inl, inr, refl}
use Rattle.std.specs.Prelude.{find}
use Rattle.process_memory.proofs.Reading.{reading_gives, reading_one, reading_wider}
use Rattle.py_process.specs.Candidates.{passes_in}
use Rattle.py_process.proofs.Searches.{section_missing, section_then}
use Rattle.py_process.proofs.candidates.first_in_section.Goals as goal

pub returns-in-Err-Unreadable : goal.returns-in-Err-Unreadable
returns-in-Err-Unreadable g c =
    reading_gives _ _ (reading_one (inr refl) c.in-Err-Unreadable.ensures.law) (omega arith)
    (λ m a. ap (find (passes_in (g.M.ContainsAddr.contains c.args.maps.now) c.args.layout.now m)) (section_missing m c.args.addr c.args.size c.in-Err-Unreadable.field-0 _ _ c.in-Err-Unreadable.field-0-is a))

pub returns-in-Err-OutOfMemory : goal.returns-in-Err-OutOfMemory
returns-in-Err-OutOfMemory g c = reading_gives _ _ (reading_one (inr refl) c.in-Err-OutOfMemory.ensures.law) (omega arith) (λ m a. tt)

pub returns : goal.returns
returns g c =
    section_then (g.M.ContainsAddr.contains c.args.maps.now) c.args.layout.now c.args.addr c.args.size c.in-Ok.bytes.items c.deref.result.now c.first_of_words.result c.deref.ensures.value
    (reading_one (inr refl) c.in-Ok.ensures.law) (reading_wider _ c.first_of_words.ensures (λ m s short. inl short))
