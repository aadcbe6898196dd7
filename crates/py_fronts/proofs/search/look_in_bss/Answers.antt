use Rattle.std.specs.Prelude.{option_map}
use Rattle.process_memory.specs.Memory.{Memory}
use Rattle.py_process.specs.Facts.{facts_of}
use Rattle.py_fronts.specs.Candidates.{bss_of_image, bss_count}
use Rattle.py_fronts.proofs.SearchSteps.{bss_count_is, bss_is, bss_none, nothing_looked, section_looked}
use Rattle.py_fronts.proofs.search.look_in_bss.Goals as goal

pub returns-in_default : goal.returns-in_default
returns-in_default g c =
    nothing_looked (g.M.ContainsAddr.contains c.args.maps.now) c.args.layout.now _ _ c.args.search.now
    (λ (m : Memory). bss_of_image m (option_map facts_of c.args.binary.now)) (λ m. bss_none m c.args.binary.now c.in_default.is)

pub returns : goal.returns
returns g c =
    section_looked (g.M.ContainsAddr.contains c.args.maps.now) c.args.layout.now c.args.search.now
    c.look_in_section.new.search c.in-Some.binary.bss_addr c.in-Some.binary.bss_size
    (bss_count (option_map facts_of c.args.binary.now))
    (λ (m : Memory). bss_of_image m (option_map facts_of c.args.binary.now)) c.look_in_section.result
    c.look_in_section.ensures (λ m. bss_is m c.args.binary.now c.in-Some.binary c.in-Some.is)
    (bss_count_is c.args.binary.now c.in-Some.binary c.in-Some.is)
