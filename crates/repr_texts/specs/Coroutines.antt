-- Coroutines, generators and async generators. The form is this project's own: the word, the name, the address, and how
-- far each has come. `repr` has the qualified name and the word `object` (`gen_repr` and its like, Objects/genobject.c).
use Rattle.std.specs.Prelude.{ℕ, Option, Some, None, List, [], ◌++◌, codes}
use Rattle.py_reprs.specs.declared.coroutines.CoroutineForm.{CoroutineForm}
use Rattle.py_reprs.specs.declared.coroutines.CoroutineForm.TheVariants as form
use Rattle.py_reprs.specs.declared.coroutines.CoroutineState.{CoroutineState}
use Rattle.py_reprs.specs.declared.coroutines.CoroutineState.TheVariants as state
use Rattle.repr_texts.specs.Names.{address_text, name_known}

-- the word for what one is
abbrev pub form_text : CoroutineForm → List ℕ
form_text form.Coroutine = codes "coroutine"
form_text form.Generator = codes "generator"
form_text form.AsyncGenerator = codes "async_generator"

-- the word for how far one has come
abbrev pub state_word : CoroutineState → List ℕ
state_word state.Created = codes "created"
state_word state.Suspended = codes "suspended"
state_word state.Running = codes "running"
state_word state.Finished = codes "finished"

-- a name behind a blank, and nothing where it isn't known
abbrev pub own_name_text : Option (List ℕ) → List ℕ
own_name_text None = []
own_name_text (Some name) = codes " " ++ name_known name

-- how far one has come, and nothing where that isn't known
abbrev pub state_text : Option CoroutineState → List ℕ
state_text None = []
state_text (Some s) = codes ": " ++ state_word s

-- a coroutine, a generator or an async generator: `<generator name at 0x..: suspended>`
abbrev pub coroutine_text : CoroutineForm → Option (List ℕ) → Option CoroutineState → ℕ → List ℕ
coroutine_text f name s addr =
    codes "<" ++ (form_text f ++ (own_name_text name ++ (address_text addr ++ (state_text s ++ codes ">"))))
