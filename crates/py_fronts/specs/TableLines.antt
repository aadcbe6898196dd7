-- The line of a frame by the table of its code, of up to 2^24 bytes: that of its last instruction, or the first of its
-- code. That a line's offset below 0 gives the first line of the code is CPython's (`PyCode_Addr2Line`); that 0 stands
-- for no line, and that a table which can't be read gives none, are this project's rules.
use Rattle.std.specs.Prelude.{ℕ, Bool, false, if◌then◌else◌, List, Option, Some, None, ℤ, pos, int_lt}
use Rattle.elf64_core.specs.Fields.{u64_in}
use Rattle.process_memory.specs.Memory.{Memory}
use Rattle.py_fields.specs.declared.layout.Layout.{Layout}
use Rattle.frame_lines.specs.declared.form.TableForm.{TableForm}
use Rattle.frame_lines.specs.Forms.{form_of}
use Rattle.frame_lines.specs.Tables.{table_at}
use Rattle.frame_lines.specs.Walks.{line_at}
use Rattle.py_stacks.specs.declared.asked.LineNo.{LineNo}
use Rattle.py_stacks.specs.declared.asked.LineNo.TheVariants.{NoLine, First, LastInstruction}
use Rattle.py_stacks.specs.Lines.{first_line, offset_of}
use Rattle.py_stacks.specs.Member.{MemberAt}

-- the line at an offset, where there is one
abbrev pub line_there : TableForm → ℤ → List ℕ → Option ℤ → ℤ
line_there form first table None = pos 0
line_there form first table (Some offset) = line_at form first table offset

-- the line of a member's last instruction, by its table; 0 where there is none that can be read
unfoldable pub line_in : Layout → MemberAt → Option (List ℕ) → ℤ
line_in l r None = pos 0
line_in l r (Some table) = line_there (form_of l) (first_line l r) table (offset_of l r)

-- the line of a member, as it is asked for
unfoldable pub line_by : LineNo → Layout → Memory → MemberAt → ℤ
line_by NoLine l m r = pos 0
line_by First l m r = first_line l r
line_by LastInstruction l m r = line_in l r (table_at l m (u64_in r.code l.code.table))

-- whether the line of the last instruction is asked for, and the frame stands before its first one
abbrev pub is_before_start : LineNo → Option ℤ → Bool
is_before_start LastInstruction (Some offset) = int_lt offset (pos 0)
is_before_start LastInstruction None = false
is_before_start NoLine offset = false
is_before_start First offset = false

-- the line of a member: where it stands before its first instruction, the first line of its code
unfoldable pub line_or_first : LineNo → Layout → Memory → MemberAt → ℤ
line_or_first lineno l m r = if is_before_start lineno (offset_of l r) then first_line l r else line_by lineno l m r
