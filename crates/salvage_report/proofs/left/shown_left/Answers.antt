use Rattle.std.proofs.Common.{◌≡◌, ◌≢◌, ◌∙◌, List, [], ◌∷◌, ap, arith, length, refl, rules, subst, sym}
use Rattle.std.proofs.lemmas.Result.{err_from_is_err_and}
use Rattle.salvage_words.specs.Seen.{asked_salvage}
use Rattle.image_memory.specs.Backed.{regions_of}
use Rattle.process_memory.specs.Memory.{byte_at}
use Rattle.py_records.specs.Versions.{records_of}
use Rattle.py_process.specs.Facts.{known_of}
use Rattle.memory_sections.specs.Told.{AreMemoryTold}
use Rattle.local_values.specs.Addresses.{shown_addresses}
use Rattle.shown_values.specs.Values.{AreShown}
use Rattle.shown_values.proofs.Keeping.{shown_plain}
use Rattle.salvage_report.specs.LayoutChecked.{CheckIs, process_checked}
use Rattle.salvage_report.specs.Sections.{AreTold}
use Rattle.repr_json.specs.Shown.{HasNoFloat}
use Rattle.salvage_report.specs.Texts.{shown_left}
use Rattle.salvage_report.specs.declared.left.Left.{Left}
use Rattle.salvage_report.proofs.Remains.{none_left, some_left}
use Rattle.salvage_report.proofs.left.shown_left.Goals as goal

pub returns-in_err-salvaged : goal.returns-in_err-salvaged
returns-in_err-salvaged c =
    let p = err_from_is_err_and c.from_residual.result c.from_residual.ensures.1 in
    rw (p.1, p.2) (λ bytes is told ne. absurd (ne refl))

pub returns-in_err-check : goal.returns-in_err-check
returns-in_err-check c =
    let p = err_from_is_err_and c.from_residual-in_err-check.result c.from_residual-in_err-check.ensures.1 in
    rw (p.1, p.2) (λ bytes is told ne. absurd (ne refl))

pub returns-in_err-memory : goal.returns-in_err-memory
returns-in_err-memory c =
    let p = err_from_is_err_and c.from_residual-in_err-memory.result c.from_residual-in_err-memory.ensures.1 in
    rw (p.1, p.2) (λ bytes is told ne. absurd (ne refl))

pub returns-in_err-told : goal.returns-in_err-told
returns-in_err-told c =
    let p = err_from_is_err_and c.from_residual-in_err-told.result c.from_residual-in_err-told.ensures.1 in
    rw (p.1, p.2) (λ bytes is told ne. absurd (ne refl))

pub returns-in_err-values : goal.returns-in_err-values
returns-in_err-values c =
    let p = err_from_is_err_and c.from_residual-in_err-values.result c.from_residual-in_err-values.ensures.1 in
    rw (p.1, p.2) (λ bytes is told ne. absurd (ne refl))

empty : {T : Type 0} (xs : List T) → length xs ≡ 0 → xs ≡ []
empty [] e = refl
empty (x ∷ xs) e = absurd (omega (arith, e))

pub returns-then-is_empty : goal.returns-then-is_empty
returns-then-is_empty c = λ bytes is crashed ne.
    let salvaged = c.in_ok-salvaged.salvaged in
    let asked = c.args.words.now.sections in
    let process = c.args.process.notes.process in
    let told = c.in_ok-told.told in
    let core = subst (λ core. AreTold asked core process c.deref-3.result.now told) c.core-core.ensures.same
    c.in_ok-told.ensures in
    let sections = subst (λ xs. AreTold asked c.args.process.dump.core process xs told) c.deref-3.ensures.value core in
    let memory = subst (λ xs. AreMemoryTold asked c.args.words.now.locals c.args.process.dump.core c.args.images.now
    (known_of c.args.process.info) c.args.process.version c.args.process.layout
    (records_of c.args.tables.now c.args.process.version) (byte_at (regions_of c.args.process.dump)) xs
    c.in_ok-memory.memory) c.deref-2.ensures.value c.in_ok-memory.ensures in
    let check = subst
    (λ xs. CheckIs asked.check_layout c.args.process.dump.core (process_checked c.args.process xs) c.in_ok-check.check)
    c.deref.ensures.value c.in_ok-check.ensures in
    let values = subst (λ xs. AreShown c.args.words.now.json c.in_ok-memory.memory.values (shown_addresses xs)
    c.in_ok-values.values) c.deref-4.ensures.value c.in_ok-values.ensures in
    let none : salvaged.interpreters.items ≡ [] = empty salvaged.interpreters.items (search rules) in
    none_left (asked_salvage c.args.words.now) c.args.tables.now c.args.process c.args.crash salvaged c.in_ok-salvaged.ensures bytes
    c.args.images.now is crashed told sections c.in_ok-check.check check c.in_ok-memory.memory
    memory c.in_ok-values.values values _ refl none

pub shown-requires : goal.shown-requires
shown-requires c = subst (λ (left : Left). HasNoFloat left.values) (sym c.left_of-left.ensures)
    (shown_plain c.args.words.now.json c.in_ok-memory.memory.values _ c.in_ok-values.values c.in_ok-values.ensures)

pub returns-in_err-shown : goal.returns-in_err-shown
returns-in_err-shown c =
    let p = err_from_is_err_and c.from_residual-in_err-shown.result c.from_residual-in_err-shown.ensures.1 in
    rw (p.1, p.2) (λ bytes is told ne. absurd (ne refl))

pub returns : goal.returns
returns c = λ bytes is crashed.
    let salvaged = c.in_ok-salvaged.salvaged in
    let asked = c.args.words.now.sections in
    let process = c.args.process.notes.process in
    let told = c.in_ok-told.told in
    let core = subst (λ core. AreTold asked core process c.deref-3.result.now told) c.core-core.ensures.same
    c.in_ok-told.ensures in
    let sections = subst (λ xs. AreTold asked c.args.process.dump.core process xs told) c.deref-3.ensures.value core in
    let memory = subst (λ xs. AreMemoryTold asked c.args.words.now.locals c.args.process.dump.core c.args.images.now
    (known_of c.args.process.info) c.args.process.version c.args.process.layout
    (records_of c.args.tables.now c.args.process.version) (byte_at (regions_of c.args.process.dump)) xs
    c.in_ok-memory.memory) c.deref-2.ensures.value c.in_ok-memory.ensures in
    let check = subst
    (λ xs. CheckIs asked.check_layout c.args.process.dump.core (process_checked c.args.process xs) c.in_ok-check.check)
    c.deref.ensures.value c.in_ok-check.ensures in
    let values = subst (λ xs. AreShown c.args.words.now.json c.in_ok-memory.memory.values (shown_addresses xs)
    c.in_ok-values.values) c.deref-4.ensures.value c.in_ok-values.ensures in
    let full : length salvaged.interpreters.items ≢ 0 = search rules in
    let some : salvaged.interpreters.items ≢ [] = λ none. full (ap length none) in
    some_left (asked_salvage c.args.words.now) c.args.tables.now c.args.process c.args.crash salvaged c.in_ok-salvaged.ensures bytes
    c.args.images.now is crashed told sections c.in_ok-check.check check c.in_ok-memory.memory
    memory c.in_ok-values.values values c.is_some-named.result c.is_some-named.ensures c.in_ok-shown.field-0.items some
    (c.in_ok-shown.ensures ∙ ap (shown_left (asked_salvage c.args.words.now)) c.left_of-left.ensures)
