use Rattle.std.proofs.Common.{arith, refl, subst}
use Rattle.std.proofs.lemmas.Result.{err_from_is_err_and}
use Rattle.std.specs.Prelude.{Ok}
use Rattle.process_memory.proofs.Reading.{reading_gives, reading_one}
use Rattle.py_process.proofs.Telling.{section_told, section_unread}
use Rattle.py_process.specs.Sources.{SectionTells, ToldBy}
use Rattle.py_process.proofs.python_version.read_section.Goals as goal

pub returns-in_err-bytes : goal.returns-in_err-bytes
returns-in_err-bytes g c =
    let p = err_from_is_err_and c.from_residual.result c.from_residual.ensures.1 in
    rw p.1 (reading_gives 1 _ (reading_one refl c.in_err-bytes.ensures.law) (omega arith) (λ m a. section_unread m c.args.addr c.args.size c.in_err-bytes.field-0.0 p.0 p.2 a))

pub returns : goal.returns
returns g c =
    let told = subst (λ bytes. ToldBy (SectionTells (Ok bytes)) c.scan.result) c.deref.ensures.value c.scan.ensures in
    reading_gives 1 _ (reading_one refl c.in_ok-bytes.ensures.law) (omega arith) (λ m a. section_told m c.args.addr c.args.size c.in_ok-bytes.bytes.items c.scan.result a told)
