-- Steps at which a stack ends, by what the files say.
use Rattle.std.proofs.Common.{◌≡◌, ◌∙◌, ℕ, List, ap, subst}
use Rattle.std.specs.Prelude.{Option, Some, None, Ok, Err}
use Rattle.process_memory.specs.Memory.{Memory}
use Rattle.frame_rows.specs.declared.program.RowError.{RowError}
use Rattle.frame_tables.specs.declared.flaw.RecordError.{RecordError}
use Rattle.frame_tables.specs.declared.flaw.TableError.{TableError}
use Rattle.frame_tables.specs.declared.record.Entry.{Entry}
use Rattle.frame_tables.specs.Headers.{Opens}
use Rattle.frame_tables.specs.Rows.{IsEntryRow}
use Rattle.frame_tables.specs.Tables.{Finds}
use Rattle.core_unwind.specs.declared.end.End.{End}
use Rattle.core_unwind.specs.declared.end.End.TheVariants as how
use Rattle.core_unwind.specs.declared.end.Limit.{Limit}
use Rattle.core_unwind.specs.declared.end.Refusal.TheVariants as why
use Rattle.core_unwind.specs.declared.frame.Turn.{Turn}
use Rattle.core_unwind.specs.declared.place.CodePlace.{CodePlace}
use Rattle.core_unwind.specs.declared.place.Mapping.{Mapping}
use Rattle.core_unwind.specs.declared.state.State.{State}
use Rattle.core_unwind.specs.Ends.{table_end}
use Rattle.core_unwind.specs.Places.{IsSpot, Site}
use Rattle.core_unwind.specs.States.{here}
use Rattle.core_unwind.specs.Steps.{IsTableStep, IsStepBy, IsStepFrom, IsStepIn, IsStepTo, cut_by}
use Rattle.core_unwind.specs.Turns.{stopped}

module _ (code_bits : ℕ) (m : Memory) (s : State) where
  pub no_row : (place : CodePlace) (file : List ℕ) (entry : Entry) (error : RowError) (turn : Turn)
      → IsEntryRow file entry place.address (Err error)
      → turn ≡ stopped s (Some place) (how.Refused (why.Row error)) → IsStepTo code_bits m s place file entry turn
  no_row place file entry error turn row is = record { row = Err error; is_row = row; is = is }

  pub cut_step : (place : CodePlace) (file : List ℕ) (entry : Entry) (limit : Limit) (turn : Turn)
      → cut_by s entry ≡ Some limit
      → turn ≡ stopped s (Some place) (how.Cut limit) → IsStepFrom code_bits m s place file entry turn
  cut_step place file entry limit turn cut is = rw cut is

  pub no_entry : (place : CodePlace) (file : List ℕ) (found : Option Entry) (at : ℕ) (turn : Turn)
      → Finds file place.address (Ok found)
      → found ≡ None → at ≡ here s → turn ≡ stopped s (Some place) (how.NoTable at)
      → IsStepBy code_bits m s place file turn
  no_entry place file found at turn finds none is_here is = record {
    found = Ok None;
    finds = subst (λ (o : Option Entry). Finds file place.address (Ok o)) none finds;
    is = is ∙ ap (λ (n : ℕ). stopped s (Some place) (how.NoTable n)) is_here;
  }

  pub bad_entry : (place : CodePlace) (file : List ℕ) (error : RecordError) (turn : Turn)
      → Finds file place.address (Err error)
      → turn ≡ stopped s (Some place) (how.Refused (why.Record error)) → IsStepBy code_bits m s place file turn
  bad_entry place file error turn finds is = record { found = Err error; finds = finds; is = is }

  pub no_table : (site : Site) (error : TableError) (at : ℕ) (end : End) (turn : Turn) → Opens site.bytes (Err error)
      → at ≡ here s
      → end ≡ table_end error at → turn ≡ stopped s (Some site.place) end → IsStepIn code_bits m s site turn
  no_table site error at end turn opens is_here ended is = record {
    table = Err error;
    opens = opens;
    is = is ∙ ap (stopped s (Some site.place)) (ended ∙ ap (table_end error) is_here);
  }

  pub no_place : (mappings : List Mapping) (at : ℕ) (end : End) (turn : Turn) → IsSpot mappings at (Err end)
      → at ≡ here s
      → turn ≡ stopped s None end → IsTableStep mappings code_bits m s turn
  no_place mappings at end turn spot is_here is = record {
    answer = Err end;
    spot = subst (λ (n : ℕ). IsSpot mappings n (Err end)) is_here spot;
    is = is;
  }
