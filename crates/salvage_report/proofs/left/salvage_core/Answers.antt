use Rattle.std.proofs.Common.{◌≡◌, ◌∙◌, ap, List, inl, refl, sym, subst}
use Rattle.std.proofs.lemmas.Result.{err_from_is_err_and}
use Rattle.std.specs.Prelude.{ℕ, Bool, true, false, Option, Result, Ok, Vec, is_some}
use Rattle.std.specs.Global.{Global}
use Rattle.image_memory.specs.Images.{Pushed}
use Rattle.py_fields.specs.declared.layout.Layout.{Layout}
use Rattle.py_fronts.specs.declared.crash.Crash.{Crash}
use Rattle.py_records.specs.declared.table.RecordTable.{RecordTable}
use Rattle.salvage_words.specs.Salvage.{Salvage}
use Rattle.salvage_words.specs.Seen.{asked_salvage}
use Rattle.salvage_report.specs.declared.cause.Cause.{Cause}
use Rattle.salvage_report.specs.declared.cause.Cause.TheVariants.{Core}
use Rattle.core_stacks.specs.Named.{OpensOrNamed, ProcessOrNamed}
use Rattle.core_stacks.specs.Process.{OpenedProcess, opened_of}
use Rattle.core_stacks.specs.declared.process.Process.{Process}
use Rattle.salvage_report.specs.Crashed.{CrashTold}
use Rattle.salvage_report.specs.Outcome.{IsAnswer, IsLeftOf, IsSalvagedBy, cause_status, tables_for}
use Rattle.salvage_report.specs.Seen.{ShowsLeft}
use Rattle.salvage_report.proofs.Comes.{after}
use Rattle.salvage_report.proofs.left.salvage_core.Goals as goal

pub returns-in_err-crash : goal.returns-in_err-crash
returns-in_err-crash c =
    let p = err_from_is_err_and c.from_residual-in_err-crash.result c.from_residual-in_err-crash.ensures.1 in
    rw (p.1, p.2) (λ ne. absurd (ne refl))

pub returns-in_err-process : goal.returns-in_err-process
returns-in_err-process c =
    let p = err_from_is_err_and c.from_residual.result c.from_residual.ensures.1 in
    rw (p.1, p.2) (λ ne. inl (c.in_err-process.field-0.0, refl, c.in_err-process.ensures.opens))

pub returns-in_err-none : goal.returns-in_err-none
returns-in_err-none c =
    let p = err_from_is_err_and c.from_residual-in_err-none.result c.from_residual-in_err-none.ensures.1 in
    rw (p.1, p.2) (λ ne. absurd (ne (ap cause_status c.in_err-none.ensures)))

-- the tables that count, by whether names alone tell the version
counted : (s : Salvage) (ts counts : List RecordTable) (bytes : List ℕ) (images : Pushed) (layouts : List Layout)
    (p : Process) (opens : OpensOrNamed bytes images layouts (Ok p)) (crash : Option Crash) (r : Result (Vec ℕ Global) Cause)
    → CrashTold bytes crash → counts ≡ tables_for ts (opened_of opens.0.maps p)
    → ShowsLeft s counts images p crash r → IsAnswer (IsSalvagedBy s ts bytes images layouts) r
counted s ts counts bytes images layouts p opens crash r told is shows =
    after (λ error. Core error) (ProcessOrNamed bytes images layouts) (λ o. IsLeftOf s (tables_for ts o) bytes images o)
    (opened_of opens.0.maps p) r opens.1
    (subst (λ xs. IsAnswer (IsLeftOf s xs bytes images (opened_of opens.0.maps p)) r) is (shows bytes opens.0 told))

pub returns-then-is_some : goal.returns-then-is_some
returns-then-is_some c =
    let opens = c.in_ok-process.ensures.opens in
    let told = subst (λ bs. CrashTold bs c.in_ok-crash.crash) (c.core.ensures.same ∙ opens.0.same) c.in_ok-crash.ensures in
    let named : is_some c.in_ok-process.process.untold ≡ true = sym c.is_some.ensures ∙ c.if-is_some.true in
    counted (asked_salvage c.args.words.now) c.args.tables.now c.in_ok-none.none c.args.core.items c.args.images.now
    c.args.layouts.now c.in_ok-process.process opens c.in_ok-crash.crash c.shown_left.result told
    (c.in_ok-none.ensures ∙ rw named refl) c.shown_left.ensures

pub returns : goal.returns
returns c =
    let opens = c.in_ok-process.ensures.opens in
    let told = subst (λ bs. CrashTold bs c.in_ok-crash.crash) (c.core.ensures.same ∙ opens.0.same) c.in_ok-crash.ensures in
    let named : is_some c.in_ok-process.process.untold ≡ false = sym c.is_some.ensures ∙ c.if-is_some.false in
    counted (asked_salvage c.args.words.now) c.args.tables.now c.args.tables.now c.args.core.items c.args.images.now
    c.args.layouts.now c.in_ok-process.process opens c.in_ok-crash.crash c.shown_left-2.result told
    (rw named refl) c.shown_left-2.ensures
