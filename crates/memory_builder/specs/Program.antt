-- A program in plain terms: what the threads of a process are to show.
use Rattle.std.specs.Prelude.{ℕ, ℤ, List, Option}
use Rattle.py_lines.specs.declared.lines.LineRange.{LineRange}

-- a value that is no list
pub data Item : Type 0 where
  Number : (n : ℤ) → Item
  Words : (text : List ℕ) → Item

-- the value of a local: a single one, or a list of single ones
pub data Held : Type 0 where
  Single : (item : Item) → Held
  Items : (items : List Item) → Held

-- a local: the characters of its name, and its value
pub record Local : Type 0 where
  pub name : List ℕ
  pub value : Held

-- a call: the characters of its names, its lines, how far into the code it stands, in bytes, and its locals, of which
-- the first so many are arguments
pub record Frame : Type 0 where
  pub name : List ℕ
  pub filename : List ℕ
  pub first : ℤ
  pub ranges : List LineRange
  pub offset : ℕ
  pub args : ℕ
  pub locals : List Local

-- a thread: its id, and its calls, the newest first
pub record Thread : Type 0 where
  pub id : ℕ
  pub frames : List Frame

-- the threads, and the index of the one that holds the lock
pub record Program : Type 0 where
  pub threads : List Thread
  pub owner : Option ℕ
