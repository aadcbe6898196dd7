use Rattle.std.proofs.Common.{arith, inl, inr}
use Rattle.std.proofs.lemmas.Result.{err_from_is_err_and}
use Rattle.process_memory.proofs.Reading.{reading_wider}
use Rattle.py_process.specs.Candidates.{runtime_words, section_words}
use Rattle.py_process.proofs.Sections.{others_wider}
use Rattle.py_process.proofs.Searches.{seek_found, seek_lost, seek_then}
use Rattle.py_process.proofs.candidates.first_in_binary.Goals as goal

pub returns-in_err-found : goal.returns-in_err-found
returns-in_err-found g c =
    let p = err_from_is_err_and c.from_residual.result c.from_residual.ensures.1 in
    let b = c.args.binary.now in
    rw p.1 (seek_lost (g.M.ContainsAddr.contains c.args.maps.now) c.args.layout.now 1 2 (λ m. runtime_words m b.pyruntime_addr b.pyruntime_size) (λ m. section_words m b.bss_addr b.bss_size) c.in_err-found.field-0.0 p.0 p.2 (omega arith) (reading_wider _ c.in_err-found.ensures (others_wider _ _ (λ m s section. inl section))))

pub returns-in-Some : goal.returns-in-Some
returns-in-Some g c =
    let b = c.args.binary.now in
    seek_found (g.M.ContainsAddr.contains c.args.maps.now) c.args.layout.now 1 2 (λ m. runtime_words m b.pyruntime_addr b.pyruntime_size) (λ m. section_words m b.bss_addr b.bss_size) c.in_ok-found.field-0 c.in-Some.found c.in-Some.is (omega arith) (reading_wider _ c.in_ok-found.ensures (others_wider _ _ (λ m s section. inl section)))

pub returns : goal.returns
returns g c =
    let b = c.args.binary.now in
    seek_then (g.M.ContainsAddr.contains c.args.maps.now) c.args.layout.now 1 1 (λ m. runtime_words m b.pyruntime_addr b.pyruntime_size) (λ m. section_words m b.bss_addr b.bss_size) c.in_ok-found.field-0 c.first_in_section.result c.in_default.is (reading_wider _ c.in_ok-found.ensures (others_wider _ _ (λ m s section. inl section))) (reading_wider _ c.first_in_section.ensures (others_wider _ _ (λ m s section. inr section)))
