use Rattle.std.proofs.Common.{arith}
use Rattle.std.specs.Prelude.{option_map}
use Rattle.process_memory.specs.Memory.{Memory}
use Rattle.py_process.specs.Facts.{facts_of}
use Rattle.py_fronts.specs.Candidates.{runtime_of_image, runtime_count}
use Rattle.py_fronts.proofs.SearchSteps.{runtime_count_is, runtime_is, runtime_none, nothing_looked, runtime_zero, section_looked}
use Rattle.py_fronts.proofs.search.look_in_runtime.Goals as goal

pub returns-in_default : goal.returns-in_default
returns-in_default g c =
    nothing_looked (g.M.ContainsAddr.contains c.args.maps.now) c.args.layout.now _ _ c.args.search.now
    (λ (m : Memory). runtime_of_image m (option_map facts_of c.args.binary.now)) (λ m. runtime_none m c.args.binary.now c.in_default.is)

pub returns-then-binary-eq0 : goal.returns-then-binary-eq0
returns-then-binary-eq0 g c =
    nothing_looked (g.M.ContainsAddr.contains c.args.maps.now) c.args.layout.now _ _ c.args.search.now
    (λ (m : Memory). runtime_of_image m (option_map facts_of c.args.binary.now))
    (λ m. runtime_zero m c.args.binary.now c.in-Some.binary c.in-Some.is (omega arith))

pub returns : goal.returns
returns g c =
    section_looked (g.M.ContainsAddr.contains c.args.maps.now) c.args.layout.now c.args.search.now
    c.look_in_section.new.search c.in-Some.binary.pyruntime_addr c.in-Some.binary.pyruntime_size
    (runtime_count (option_map facts_of c.args.binary.now))
    (λ (m : Memory). runtime_of_image m (option_map facts_of c.args.binary.now)) c.look_in_section.result
    c.look_in_section.ensures (λ m. runtime_is m c.args.binary.now c.in-Some.binary c.in-Some.is (omega arith))
    (runtime_count_is c.args.binary.now c.in-Some.binary c.in-Some.is)
