use Rattle.std.proofs.Common.{◌∙◌, ap, sym, Some}
use Rattle.std.proofs.lemmas.Bool.{and_parts}
use Rattle.clap.specs.Words.{HasKind, app_of, fault_of, found_of, is_simple, kind_of, rows_of}
use Rattle.core_words.specs.Words.{texts}
use Rattle.core_words.proofs.Accepted.{not_taken, refused, taken, unless_memory}
use Rattle.core_words.proofs.arguments.matches_in.Goals as goal

pub returns-in-Ok : goal.returns-in-Ok
returns-in-Ok c simple =
    let app = app_of c.args.command in
    let words = texts c.args.words.now in
    let rows = (c.in-Ok.ensures.matches (and_parts (is_simple app) _ simple).0).0 in
    taken app words (c.in-Ok.ensures.kinds simple) ∙ ap (λ rs. Some rs) (sym rows)

pub returns-in-Err : goal.returns-in-Err
returns-in-Err c simple =
    let app = app_of c.args.command in
    let words = texts c.args.words.now in
    let error = c.in-Err.error in
    let fails : HasKind (fault_of app words) error = c.in-Err.ensures.kinds simple in
    refused (λ matches. rows_of (found_of matches)) _ c.refusal.result c.kind.result c.refusal.ensures.memory
    (λ ne. not_taken app words (kind_of error)
    (unless_memory (fault_of app words) error fails (λ memory. ne (c.kind.ensures ∙ memory))))
