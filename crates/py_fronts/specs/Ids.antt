-- Ids of threads. Neither the interpreter nor the system gives 0: it stands where a lock has no holder, in a record
-- that nothing was written to, and among registers that no thread pointer was put into.
use Rattle.std.specs.Prelude.{ℕ, nat_eq, not, ◌&&◌, Bool}

-- an id that is told names the thread of this id; 0 names none
abbrev pub names_thread : (told id : ℕ) → Bool
names_thread told id = not (nat_eq told 0) && nat_eq told id
