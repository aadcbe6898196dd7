-- The line of a member, step by step.
use Rattle.std.proofs.Common.{◌≡◌, ℕ, Bool, true, false, sym, ◌∙◌, ap}
use Rattle.std.specs.Prelude.{Option, Ok, Result, ℤ, Vec}
use Rattle.std.specs.Global.{Global}
use Rattle.process_memory.specs.Memory.{Memory}
use Rattle.process_memory.specs.Seen.{Answers, read_fault}
use Rattle.process_memory.specs.declared.memory.ReadFault.{ReadFault}
use Rattle.py_fields.specs.declared.layout.Layout.{Layout}
use Rattle.frame_lines.specs.Tables.{items_of, items_or_none, table_at}
use Rattle.py_stacks.specs.declared.asked.LineNo.{LineNo}
use Rattle.py_stacks.specs.declared.error.StackError.{StackError}
use Rattle.py_stacks.specs.Lines.{first_line, offset_of}
use Rattle.py_stacks.specs.Member.{MemberAt}
use Rattle.py_fronts.specs.Answers.{IsOrNoMemory}
use Rattle.py_fronts.specs.TableLines.{is_before_start, line_by, line_or_first}

-- a table that was read is the one that is there
pub table_is : (l : Layout) (m : Memory) (a : ℕ) (table : Option (Vec ℕ Global))
    → Answers {E = ReadFault} read_fault (Ok (table_at l m a)) (items_or_none (Ok table))
    → items_of table ≡ table_at l m a
table_is l m a table h = let e = h.is in cc

pub line_before : (lineno : LineNo) (l : Layout) (m : Memory) (r : MemberAt) (offset : Option ℤ) (before : Bool)
    (line : ℤ) → offset ≡ offset_of l r → before ≡ is_before_start lineno offset → before ≡ true
    → line ≡ first_line l r → line ≡ line_or_first lineno l m r
unfolding line_or_first
line_before lineno l m r offset before line at is holds_so e =
    let holds : is_before_start lineno (offset_of l r) ≡ true =
    sym (is ∙ ap (is_before_start lineno) at) ∙ holds_so in
    rw holds e

pub line_after : (lineno : LineNo) (l : Layout) (m : Memory) (r : MemberAt) (offset : Option ℤ) (before : Bool)
    (result : Result ℤ StackError) → offset ≡ offset_of l r → before ≡ is_before_start lineno offset → before ≡ false
    → IsOrNoMemory (line_by lineno l m r) result → IsOrNoMemory (line_or_first lineno l m r) result
unfolding line_or_first
line_after lineno l m r offset before result at is fails_so a =
    let fails : is_before_start lineno (offset_of l r) ≡ false =
    sym (is ∙ ap (is_before_start lineno) at) ∙ fails_so in
    rw fails a
