use Rattle.std.proofs.Common.{◌∙◌, sym, ap}
use Rattle.std.specs.Prelude.{Ok}
use Rattle.process_memory.specs.Memory.Fault.{BadType}
use Rattle.py_objects.proofs.Utf.{text_ok, text_bad}
use Rattle.py_objects.proofs.texts.type_name.Goals as goal

pub returns-in_ok-from_str-in-Ok : goal.returns-in_ok-from_str-in-Ok
returns-in_ok-from_str-in-Ok c = record { is = rw (← c.before_nul-name.ensures) (text_ok _ BadType c.in-Ok.ensures.cases.1 ∙ ap Ok (sym (c.in_ok-from_str-in-Ok.ensures.ok ∙ c.in-Ok.ensures.cases.0))) }

pub returns-in-Err : goal.returns-in-Err
returns-in-Err c = record { is = rw (← c.before_nul-name.ensures) (text_bad _ BadType c.in-Err.ensures.cases.0) }
