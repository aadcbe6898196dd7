-- The line of a frame: the first line of its code, or the line of its last instruction by the line table of its
-- code. Where these stand a layout says; what `instr` counts is CPython's (`f_lasti`, from 3.11 on `prev_instr`),
-- and what a table says too (`py_lines`). That 0 stands for no line, and that a table which can't be read gives
-- none, are this project's rules.
use Rattle.std.specs.Prelude.{ℕ, ◌+◌, Option, Some, None, List, Result, Ok, Err, ℤ, pos, ◌*ℤ◌, ◌-ℤ◌, option_map, Vec}
use Rattle.std.specs.Global.{Global}
use Rattle.std.specs.Int.{w32, cast_signed}
use Rattle.std.specs.Option.{unwrap_or}
use Rattle.elf64_core.specs.Fields.{u32_in, u64_in}
use Rattle.process_memory.specs.Memory.{Memory, Found}
use Rattle.py_fields.specs.declared.layout.Lasti.{Lasti}
use Rattle.py_fields.specs.declared.layout.Lasti.TheVariants.{Bytes, Units, Pointer}
use Rattle.py_fields.specs.declared.layout.Lines.{Lines}
use Rattle.py_fields.specs.declared.layout.Lines.TheVariants.{Pairs, Ranges, Locations}
use Rattle.py_fields.specs.declared.layout.Layout.{Layout}
use Rattle.py_lines.specs.declared.lines.LineFamily.{LineFamily}
use Rattle.py_lines.specs.declared.lines.LineFamily.TheVariants.{Pairs as PairTables, Ranges as RangeTables}
use Rattle.py_lines.specs.declared.lines.LineFamily.TheVariants.{Locations as LocationTables}
use Rattle.py_lines.specs.declared.lines.LineRange.{LineRange}
use Rattle.py_lines.specs.Lines.{in_i32, line_of, ranges_of}
use Rattle.py_builtins.specs.Bytes.{bytes_object_at}
use Rattle.py_stacks.specs.declared.asked.LineNo.{LineNo}
use Rattle.py_stacks.specs.declared.asked.LineNo.TheVariants.{NoLine, First, LastInstruction}
use Rattle.py_stacks.specs.Member.{MemberAt, readable}

-- the family of a layout's line tables
abbrev pub family_of : Lines → LineFamily
family_of Pairs = PairTables
family_of Ranges = RangeTables
family_of Locations = LocationTables

-- the line on which a frame's code begins
unfoldable pub first_line : Layout → MemberAt → ℤ
first_line l r = cast_signed w32 (u32_in r.code l.code.first_line)

-- where a frame's code begins, by its code record
abbrev pub code_start : Layout → MemberAt → ℕ
code_start l r = r.code_at + unwrap_or l.code.start 0

-- how far into its code a frame's last instruction stands, in bytes: `instr` itself, twice that where it counts
-- units of two bytes, or how far behind the code's start the address is that it has
abbrev pub offset_by : Lasti → Layout → MemberAt → ℤ
offset_by Bytes l r = cast_signed w32 (u32_in r.frame l.frame.instr)
offset_by Units l r = pos 2 *ℤ cast_signed w32 (u32_in r.frame l.frame.instr)
offset_by Pointer l r = pos (u64_in r.frame l.frame.instr) -ℤ pos (code_start l r)

-- the same where it is an i32
unfoldable pub offset_of : Layout → MemberAt → Option ℤ
offset_of l r = in_i32 (offset_by l.lasti l r)

-- the line at an offset, where there is one
abbrev pub line_there : List LineRange → Option ℤ → ℤ
line_there ranges None = pos 0
line_there ranges (Some offset) = line_of ranges offset

-- the line of a frame's last instruction, by its table; 0 where there is none that can be read
unfoldable pub line_in : Layout → MemberAt → Option (List ℕ) → ℤ
line_in l r None = pos 0
line_in l r (Some table) = line_there (ranges_of (family_of l.lines) (first_line l r) table) (offset_of l r)

-- the bytes of the bytes object at an address, where they can be read. Nothing is missing then
unfoldable pub table_at : Layout → Memory → ℕ → Found (Option (List ℕ))
table_at l m a = Ok (readable (bytes_object_at l m a))

-- the line of a frame
unfoldable pub line_by : LineNo → Layout → Memory → MemberAt → ℤ
line_by NoLine l m r = pos 0
line_by First l m r = first_line l r
line_by LastInstruction l m r = line_in l r (readable (bytes_object_at l m (u64_in r.code l.code.table)))

-- the same, as it is read. Nothing is missing then
unfoldable pub line_at : LineNo → Layout → Memory → MemberAt → Found ℤ
line_at lineno l m r = Ok (line_by lineno l m r)

-- two reads for a table: its record, and its bytes
abbrev pub line_cost : LineNo → ℕ
line_cost NoLine = 0
line_cost First = 0
line_cost LastInstruction = 2

-- the bytes of a line table, where there is one
abbrev pub table_of : Option (Vec ℕ Global) → Option (List ℕ)
table_of t = option_map (λ (v : Vec ℕ Global). v.items) t

-- a result with the bytes of its line table
abbrev pub table_of_result : {E : Type 0} → Result (Option (Vec ℕ Global)) E → Result (Option (List ℕ)) E
table_of_result (Ok t) = Ok (table_of t)
table_of_result (Err e) = Err e
