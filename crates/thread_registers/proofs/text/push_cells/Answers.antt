use Rattle.std.proofs.Common.{◌≡◌, ◌+◌, ◌∙◌, ◌++◌, ap, drop, get_or, map, refl, sym, string_bytes}
use Rattle.std.specs.Prelude.{Result, Ok, Err, OnOk, if◌then◌else◌, is_ok, List, ℕ, codes}
use Rattle.std.proofs.lemmas.List.{at_drop_all}
use Rattle.thread_registers.specs.Text.{cell_text, cells_text, lead_text, next_column}
use Rattle.thread_registers.specs.Threads.{named_of}
use Rattle.thread_registers.proofs.Rest.{next, no_register, two_more}
use Rattle.thread_registers.proofs.text.push_cells.Goals as goal

-- the last part
last : {T E : Type 0} (r : Result T E) (before after part rest total : List ℕ)
    → after ≡ (if is_ok r then before ++ part else before) → rest ≡ part → before ++ rest ≡ total
    → OnOk r (after ≡ total)
last (Ok x) before after part rest total pushed same inv = pushed ∙ ap (λ t. before ++ t) (sym same) ∙ inv
last (Err e) before after part rest total pushed same inv = tt

pub loop-register-preserved : goal.loop-register-preserved
unfolding cells_text
loop-register-preserved c =
    let registers = c.args.registers.now in
    let i = c.loop-register.register-index in
    let column = c.loop-register.column in
    let x = named_of (get_or registers i no_register) in
    let rest = map named_of (drop (i + 1) registers) in (
      c.next_column-column.ensures.below,
      ap (λ n. string_bytes c.push_cell.new.text ++ cells_text n rest) c.next_column-column.ensures.is
          ∙ two_more (string_bytes c.loop-register.text) _ _ (lead_text column) (cell_text x)
          (cells_text (next_column column) rest) _ c.in_ok-push_lead.ensures c.in_ok-push_cell.ensures
          (ap (λ rs. string_bytes c.loop-register.text ++ cells_text column (map named_of rs))
          (sym (next registers i (get_or registers i no_register) no_register c.loop-register-test.true refl))
          ∙ c.loop-register.invariant.1),
    )

pub returns : goal.returns
unfolding cells_text
returns c =
    last c.push_str.result (string_bytes c.loop-register.text) (string_bytes c.push_str.new.self) (codes "\n") _ _
    c.push_str.ensures.bytes
    (at_drop_all (λ xs. cells_text c.loop-register.column (map named_of xs)) c.args.registers.now
    c.loop-register.register-index c.loop-register-test.false)
    c.loop-register.invariant.1
