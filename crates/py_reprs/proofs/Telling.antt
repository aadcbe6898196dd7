-- What is told of what was found.
use Rattle.std.proofs.Common.{◌≡◌, ℕ}
use Rattle.std.specs.Prelude.{Option, Some, None, Result, Ok, Err, IfOk}
use Rattle.process_memory.specs.Memory.{Fault, Found, Memory}
use Rattle.process_memory.specs.Seen.{Answers, FaultIs}
use Rattle.py_fields.specs.declared.layout.Layout.{Layout}
use Rattle.py_builtins.specs.ObjectError.{object_fault}
use Rattle.py_builtins.specs.Types.{type_at}
use Rattle.py_builtins.specs.declared.error.ObjectError.{ObjectError}
use Rattle.py_builtins.specs.declared.types.ObjectType.{ObjectType}
use Rattle.py_reprs.specs.declared.error.ReprError.{ReprError}
use Rattle.py_reprs.specs.declared.kinds.Kind.TheVariants as kind
use Rattle.py_reprs.specs.declared.kinds.ReprTypes.{ReprTypes}
use Rattle.py_reprs.specs.declared.levels.Level.{Level as LevelRead}
use Rattle.py_reprs.specs.declared.limits.Limits.{Limits}
use Rattle.py_reprs.specs.Levels.{ToldBy, Tells, level_by, level_of}

-- the value whose type was read
pub typed_as : (l : Layout) (t : ReprTypes) (b : Limits) (m : Memory) (nodes a : ℕ) (class : ObjectType)
    (r : Result LevelRead ReprError) → Answers {E = ObjectError} object_fault (type_at l m a) (Ok class)
    → IfOk r (λ level. level_of level ≡ level_by l t b m nodes a (Ok class))
    → IfOk r (λ level. level_of level ≡ level_by l t b m nodes a (type_at l m a))
typed_as l t b m nodes a class r h e = rw h.is e

module _ (l : Layout) (t : ReprTypes) (b : Limits) (m : Memory) (nodes a : ℕ) where
  lost_is : (d : Found ObjectType) (o : Option Fault) (r : Result LevelRead ReprError) → FaultIs d o
      → ToldBy kind.Other a o r → IfOk r (λ level. level_of level ≡ level_by l t b m nodes a d)
  lost_is d None r h e = rw e tt
  lost_is d (Some f) r h e = rw h e

  -- the value whose type could not be read
  pub tells_is : (d : Found ObjectType) (error : ObjectError) (r : Result LevelRead ReprError)
      → Answers {T = ObjectType} object_fault d (Err error) → Tells kind.Other a (Err error) r
      → IfOk r (λ level. level_of level ≡ level_by l t b m nodes a d)
  tells_is d error r h e = lost_is d (object_fault error) r h.is e
