-- Entries as they are told, one more.
use Rattle.std.proofs.Common.{◌≡◌, List, [], ◌∷◌, ◌++◌, refl, ap}
use Rattle.std.specs.Prelude.{Option, Some, None, map, option_to_list}
use Rattle.py_tasks.specs.declared.task.Entry.{Entry}
use Rattle.py_tasks.specs.Entries.{entry_shown_of}
use Rattle.py_tasks.specs.Shown.{EntryShown, entry_shown}

one_shown : (e : Option Entry) → map entry_shown (option_to_list e) ≡ option_to_list (entry_shown_of e)
one_shown None = refl
one_shown (Some e) = refl

pub shown_more : (xs : List Entry) (e : Option Entry)
    → map entry_shown (xs ++ option_to_list e) ≡ map entry_shown xs ++ option_to_list (entry_shown_of e)
shown_more [] e = one_shown e
shown_more (x ∷ xs) e = ap (λ (rest : List EntryShown). entry_shown x ∷ rest) (shown_more xs e)
