use Rattle.std.proofs.Common.{◌≡◌, ◌≢◌, ◌∙◌, refl}
use Rattle.std.specs.Prelude.{IsSome, codes}
use Rattle.std.specs.Str.{chars}
use Rattle.py_builtins.specs.declared.error.ObjectError.{ObjectError}
use Rattle.py_builtins.specs.declared.error.ObjectError.TheVariants.{Unreadable, NoText, TooLong, BadDict, BadType}
use Rattle.py_builtins.specs.declared.error.ObjectError.TheVariants.{Visits, Depth, BadCount, BadBool, OutOfMemory}
use Rattle.py_builtins.specs.ObjectError.{object_fault}
use Rattle.py_stacks.proofs.values.mark_for.Goals as goal

-- each error but out of memory names a fault
is_fault : (e : ObjectError) → e ≢ OutOfMemory → IsSome (object_fault e)
is_fault (Unreadable addr len) h = refl
is_fault NoText h = refl
is_fault (TooLong len) h = refl
is_fault BadDict h = refl
is_fault BadType h = refl
is_fault Visits h = refl
is_fault Depth h = refl
is_fault (BadCount count) h = refl
is_fault (BadBool byte) h = refl
is_fault OutOfMemory h = absurd (h refl)

mark_is : chars (codes "?") ≡ codes "?"
unfolding chars
mark_is = refl

pub returns-in_ok-of-in_default : goal.returns-in_ok-of-in_default
returns-in_ok-of-in_default c = (c.in_ok-of-in_default.ensures ∙ mark_is, is_fault c.args.error c.in_default.not-OutOfMemory)
