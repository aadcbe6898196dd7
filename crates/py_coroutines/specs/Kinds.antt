-- What an object is, by the address of its class, which is CPython's rule (`PyGen_CheckExact`, `PyCoro_CheckExact`,
-- `PyAsyncGen_CheckExact`; none of the three types can be derived from). Its name tells nothing: other types have the
-- same ones.
use Rattle.std.specs.Prelude.{ℕ, nat_eq, Bool, not, ◌||◌, ◌&&◌, Option, Some, None, if◌then◌else◌}
use Rattle.py_coroutines.specs.declared.kinds.Kind.{Kind}
use Rattle.py_coroutines.specs.declared.kinds.Kind.TheVariants.{Coroutine, Generator, AsyncGenerator}
use Rattle.py_coroutines.specs.declared.places.AwaitTypes.{AwaitTypes}

-- a coroutine, a generator or an async generator, by the address of the class; none of another class
unfoldable pub kind_of : AwaitTypes → ℕ → Option Kind
kind_of types class =
    if nat_eq class 0 then None
    else if nat_eq class types.coroutine then Some Coroutine
    else if nat_eq class types.generator then Some Generator
    else if nat_eq class types.async_generator then Some AsyncGenerator
    else None

-- whether it is a future or a task of asyncio
unfoldable pub is_future : AwaitTypes → ℕ → Bool
is_future types class = not (nat_eq class 0) && (nat_eq class types.future || nat_eq class types.task)
