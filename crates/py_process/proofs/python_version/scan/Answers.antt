use Rattle.std.proofs.Common.{ap}
use Rattle.std.specs.Prelude.{Err}
use Rattle.py_process.proofs.python_version.scan.Goals as goal

pub returns-in-Err-NotFound : goal.returns-in-Err-NotFound
returns-in-Err-NotFound c = c.in-Err-NotFound.ensures.not_found.0 (ap (λ e. Err e) c.in-Err-NotFound.field-0-is)
