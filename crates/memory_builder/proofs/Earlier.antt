-- A thread of the code's own list, and those before it.
use Rattle.std.proofs.Common.{◌≡◌, ◌∙◌, ◌<◌, ℕ, List, map, length, take, get_or, ap, subst, sym}
use Rattle.std.specs.Prelude.{Some, slice_get}
use Rattle.memory_builder.specs.declared.parts.ProgramThread.{ProgramThread}
use Rattle.memory_builder.specs.Mirror.{program_thread}
use Rattle.memory_builder.proofs.Lists.{get_map, take_map}

pub there : (threads items : List ProgramThread) (i : ℕ) (x : ProgramThread) → items ≡ threads → i < length items
    → x ≡ get_or items i x
    → slice_get (map program_thread threads) i ≡ Some (program_thread x)
there threads items i x are small is = subst (λ xs. slice_get (map program_thread xs) i ≡ Some (program_thread x)) are
    (get_map program_thread items i x small is)

pub earlier_are : (threads items : List ProgramThread) (i : ℕ) → items ≡ threads
    → map program_thread (take i items) ≡ take i (map program_thread threads)
earlier_are threads items i are = sym (take_map program_thread i items) ∙ ap (λ xs. take i (map program_thread xs)) are
