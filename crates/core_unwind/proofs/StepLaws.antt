-- A step is one alone, where tables ascend.
use Rattle.std.proofs.Common.{◌≡◌, ◌∙◌, ℕ, List, refl, sym, subst}
use Rattle.std.specs.Prelude.{Option, Some, None, Result, Ok, Err}
use Rattle.process_memory.specs.Memory.{Memory}
use Rattle.frame_rows.specs.declared.row.Row.{Row}
use Rattle.frame_rows.specs.declared.program.RowError.{RowError}
use Rattle.frame_rows.proofs.Both.{one_row}
use Rattle.frame_tables.specs.declared.flaw.RecordError.{RecordError}
use Rattle.frame_tables.specs.declared.flaw.TableError.{TableError}
use Rattle.frame_tables.specs.declared.record.Entry.{Entry}
use Rattle.frame_tables.specs.Records.{bytes_of}
use Rattle.frame_tables.specs.Rows.{most_rows}
use Rattle.frame_tables.specs.Tables.{Ascends}
use Rattle.frame_tables.proofs.Laws.{finds_once}
use Rattle.core_unwind.specs.declared.end.End.{End}
use Rattle.core_unwind.specs.declared.end.Limit.{Limit}
use Rattle.core_unwind.specs.declared.frame.Turn.{Turn}
use Rattle.core_unwind.specs.declared.place.CodePlace.{CodePlace}
use Rattle.core_unwind.specs.declared.place.Mapping.{Mapping}
use Rattle.core_unwind.specs.declared.state.State.{State}
use Rattle.core_unwind.specs.Places.{Site}
use Rattle.core_unwind.specs.Stacks.{AllAscend}
use Rattle.core_unwind.specs.States.{here}
use Rattle.core_unwind.specs.Steps.{IsTableStep, IsStepAt, IsStepBy, IsStepIf, IsStepIn, IsStepOf, IsStepTo, IsStepUnless}
use Rattle.core_unwind.specs.Steps.{IsStepWith, cut_by}
use Rattle.core_unwind.proofs.FileLaws.{opens_once, opens_same, spot_once}

module _ (code_bits : ℕ) (m : Memory) (s : State) where
  with_once : (place : CodePlace) (file : List ℕ) (entry : Entry) (row : Result Row RowError) (x y : Turn)
      → IsStepWith code_bits m s place file entry row x → IsStepWith code_bits m s place file entry row y → x ≡ y
  with_once place file entry (Err error) x y p q = p ∙ sym q
  with_once place file entry (Ok row) x y p q = p ∙ sym q

  to_once : (place : CodePlace) (file : List ℕ) (entry : Entry) (x y : Turn) → IsStepTo code_bits m s place file entry x
      → IsStepTo code_bits m s place file entry y → x ≡ y
  to_once place file entry x y p q =
      let same : q.row ≡ p.row = one_row entry.convention (bytes_of file entry.initial) (bytes_of file entry.own)
      entry.begin
      place.address most_rows q.row p.row q.is_row p.is_row in
      with_once place file entry p.row x y p.is
      (subst (λ (r : Result Row RowError). IsStepWith code_bits m s place file entry r y) same q.is)

  unless_once : (place : CodePlace) (file : List ℕ) (entry : Entry) (limit : Option Limit) (x y : Turn)
      → IsStepUnless code_bits m s place file entry limit x → IsStepUnless code_bits m s place file entry limit y →
      x ≡ y
  unless_once place file entry (Some limit) x y p q = p ∙ sym q
  unless_once place file entry None x y p q = to_once place file entry x y p q

  of_once : (place : CodePlace) (file : List ℕ) (found : Result (Option Entry) RecordError) (x y : Turn)
      → IsStepOf code_bits m s place file found x → IsStepOf code_bits m s place file found y → x ≡ y
  of_once place file (Err error) x y p q = p ∙ sym q
  of_once place file (Ok None) x y p q = p ∙ sym q
  of_once place file (Ok (Some entry)) x y p q = unless_once place file entry (cut_by s entry) x y p q

  by_once : (place : CodePlace) (file : List ℕ) (x y : Turn) → Ascends file → IsStepBy code_bits m s place file x
      → IsStepBy code_bits m s place file y → x ≡ y
  by_once place file x y ascends p q =
      let same : q.found ≡ p.found = finds_once file place.address q.found p.found ascends q.finds p.finds in
      of_once place file p.found x y p.is
      (subst (λ (r : Result (Option Entry) RecordError). IsStepOf code_bits m s place file r y) same q.is)

  if_once : (place : CodePlace) (table : Result (List ℕ) TableError) (x y : Turn)
      → ((file : List ℕ) → table ≡ Ok file → Ascends file) → IsStepIf code_bits m s place table x
      → IsStepIf code_bits m s place table y → x ≡ y
  if_once place (Err error) x y ascends p q = p ∙ sym q
  if_once place (Ok file) x y ascends p q = by_once place file x y (ascends file refl) p q

  in_once : (site : Site) (x y : Turn) → Ascends site.bytes → IsStepIn code_bits m s site x → IsStepIn code_bits m
      s site y
      → x ≡ y
  in_once site x y ascends p q =
      let same : q.table ≡ p.table = opens_once site.bytes q.table p.table q.opens p.opens in
      if_once site.place p.table x y
      (λ file is. subst Ascends (opens_same site.bytes file (rw is at p.opens)) ascends)
      p.is (subst (λ (r : Result (List ℕ) TableError). IsStepIf code_bits m s site.place r y) same q.is)

  at_once : (answer : Result Site End) (x y : Turn) → ((site : Site) → answer ≡ Ok site → Ascends site.bytes)
      → IsStepAt code_bits m s answer x → IsStepAt code_bits m s answer y → x ≡ y
  at_once (Err end) x y ascends p q = p ∙ sym q
  at_once (Ok site) x y ascends p q = in_once site x y (ascends site refl) p q

  pub table_once : (mappings : List Mapping) (x y : Turn) → AllAscend mappings → IsTableStep mappings code_bits m s x
      → IsTableStep mappings code_bits m s y → x ≡ y
  table_once mappings x y ascends p q =
      let same : q.answer ≡ p.answer = spot_once mappings (here s) q.answer p.answer q.spot p.spot in
      at_once p.answer x y (λ site is. ascends (here s) site (rw is at p.spot)) p.is
      (subst (λ (r : Result Site End). IsStepAt code_bits m s r y) same q.is)
