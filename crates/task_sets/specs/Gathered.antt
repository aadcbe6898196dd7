-- What is found at one place after another.
use Rattle.std.specs.Prelude.{ℕ, zero, suc, ◌+◌, Option, List, [], ◌++◌, Ok, option_to_list}
use Rattle.process_memory.specs.Memory.{Found, ◌>>=◌}

-- what is found at `n` places from a number on, in order; else the first fault
unfoldable pub gathered : {T : Type 0} → (ℕ → Found (Option T)) → ℕ → ℕ → Found (List T)
gathered f zero number = Ok []
gathered f (suc n) number = do
  x ← f number
  rest ← gathered f n (number + 1)
  Ok (option_to_list x ++ rest)
