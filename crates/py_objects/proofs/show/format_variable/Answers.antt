use Rattle.std.proofs.Common.{◌≡◌, ◌∙◌, ap, sym, refl, arith, rules, string_bytes, encode_utf8_all}
use Rattle.std.specs.Int.{w64}
use Rattle.std.specs.Str.{chars}
use Rattle.std.proofs.lemmas.Int.{to_z-of_z}
use Rattle.std.proofs.lemmas.Result.{err_from_is_err_and}
use Rattle.std.proofs.lemmas.Str.{encodes-chars, IsUtf8-string_bytes}
use Rattle.process_memory.proofs.Reading.{reading_here, reading_gives}
use Rattle.py_objects.specs.Shows.{show_at, width_of}
use Rattle.py_builtins.specs.ObjectError.{object_fault}
use Rattle.py_objects.specs.Nodes.{values_in}
use Rattle.py_objects.proofs.Moving.{told_within}
use Rattle.py_objects.proofs.Steps.{told_ok, told_err, tells_lost, tells_least}
use Rattle.py_builtins.specs.declared.error.ObjectError.TheVariants.{OutOfMemory}
use Rattle.py_objects.proofs.show.format_variable.Goals as goal

pub returns-in_err-text-clause-few : goal.returns-in_err-text-clause-few
returns-in_err-text-clause-few g c = told_within _ _ _ _ _ _ (reading_here c.in_err-text.ensures.shown)

pub returns-clause-few : goal.returns-clause-few
returns-clause-few g c = told_within _ _ _ _ _ _ (reading_here c.in_ok-text.ensures.shown)

pub returns-clause-characters : goal.returns-clause-characters
returns-clause-characters g c =
    c.in_ok-shared.ensures ∙ ap chars (sym (ap encode_utf8_all c.in_ok-shared.ensures ∙ encodes-chars (string_bytes c.in_ok-text.text) (IsUtf8-string_bytes c.in_ok-text.text)))

pub returns-clause-shown : goal.returns-clause-shown
returns-clause-shown g c =
    let spelled : string_bytes c.in_ok-text.text ≡ encode_utf8_all c.in_ok-shared.shared = sym (ap encode_utf8_all c.in_ok-shared.ensures ∙ encodes-chars (string_bytes c.in_ok-text.text) (IsUtf8-string_bytes c.in_ok-text.text)) in
    let width = c.width_of-width.ensures ∙ ap width_of (to_z-of_z w64 c.args.max_length (search rules)) in
    let shown = rw (width, spelled) at c.in_ok-text.ensures.shown in
    reading_gives _ _ shown (omega arith) (λ m a. told_ok object_fault (values_in c.args.layout.now m) c.args.addr (width_of c.args.max_length) c.args.visits.now _ _ a)

pub returns-in_err-text-clause-shown : goal.returns-in_err-text-clause-shown
returns-in_err-text-clause-shown g c =
    let p = err_from_is_err_and c.from_residual.result c.from_residual.ensures.1 in
    let width = c.width_of-width.ensures ∙ ap width_of (to_z-of_z w64 c.args.max_length (search rules)) in
    let shown = rw width at c.in_err-text.ensures.shown in
    rw (p.1, p.2) (reading_gives _ _ shown (omega arith) (λ m a. told_err object_fault (values_in c.args.layout.now m) c.args.addr (width_of c.args.max_length) c.args.visits.now _ _ a))

pub returns-in_err-shared-clause-few : goal.returns-in_err-shared-clause-few
returns-in_err-shared-clause-few g c = told_within _ _ _ _ _ _ (reading_here c.in_ok-text.ensures.shown)

pub returns-in_err-shared-clause-shown : goal.returns-in_err-shared-clause-shown
returns-in_err-shared-clause-shown g c =
    let p = err_from_is_err_and c.from_residual-in_err-shared.result c.from_residual-in_err-shared.ensures.1 in
    let width = c.width_of-width.ensures ∙ ap width_of (to_z-of_z w64 c.args.max_length (search rules)) in
    let shown = rw width at c.in_ok-text.ensures.shown in
    rw (p.1, p.2) (reading_gives _ _ shown (omega arith) (λ m a. told_err object_fault (values_in c.args.layout.now m) c.args.addr (width_of c.args.max_length) c.args.visits.now OutOfMemory _
    (tells_lost OutOfMemory refl (tells_least (show_at (values_in c.args.layout.now m) 256 (width_of c.args.max_length) c.args.addr c.args.visits.now) _ a))))
