-- The lines of threads: one with the id that the system gave and whose it is, and the registers, four a line.
use Rattle.std.specs.Prelude.{ℕ, ◌+◌, ◌^◌, ◌-◌, ◌++◌, ◌==◌, true, if◌then◌else◌, List, [], ◌∷◌, map, Option, Some}
use Rattle.std.specs.Prelude.{None, codes, decimal}
use Rattle.std.specs.Fmt.{digits, format_spec, padded}
use Rattle.std.specs.List.{concat}
use Rattle.py_objects.specs.ShownTexts.{hex_of}
use Rattle.thread_registers.specs.declared.threads.Whose.{Whose}
use Rattle.thread_registers.specs.declared.threads.Whose.TheVariants.{Python, Other, Untold}
use Rattle.thread_registers.specs.Threads.{Named, ThreadShown}

-- whose it is; the id is written as the lines of stacks have it
abbrev pub whose_text : Whose → List ℕ
whose_text (Python found) = codes " (Python's 0x" ++ (digits 16 true found.thread_id ++ codes ")")
whose_text Other = codes " (none of Python's)"
whose_text Untold = codes " (whose is not told)"

-- a name, with spaces before it up to 8 characters
abbrev pub name_cell : List ℕ → List ℕ
name_cell name = padded (format_spec 32 3 0 8 (2 ^ 64 - 1)) name

-- a register: its name, and its value in 16 hexadecimal digits
abbrev pub cell_text : Named → List ℕ
cell_text r = codes " " ++ (name_cell r.name ++ (codes " " ++ hex_of 16 r.value))

-- what begins a line of registers
abbrev pub lead_text : ℕ → List ℕ
lead_text column = if column == 0 then codes "\n   " else []

-- the column behind one, of the four of a line
abbrev pub next_column : ℕ → ℕ
next_column column = if column == 3 then 0 else column + 1

-- registers from a column on, four a line
unfoldable pub cells_text : ℕ → List Named → List ℕ
cells_text column [] = codes "\n"
cells_text column (r ∷ rs) = lead_text column ++ (cell_text r ++ cells_text (next_column column) rs)

-- the lines of a thread's registers, or that there are none
abbrev pub registers_text : Option (List Named) → List ℕ
registers_text (Some registers) = cells_text 0 registers
registers_text None = codes ": no registers\n"

-- the lines of a thread: the system's id, whose it is, and its registers
abbrev pub thread_text : ThreadShown → List ℕ
thread_text t = codes "Thread " ++ (decimal t.system_id ++ (whose_text t.whose ++ registers_text t.registers))

-- the lines of all threads
abbrev pub threads_text : List ThreadShown → List ℕ
threads_text threads = concat (map (λ t. thread_text t) threads)
