-- The threads of Python that are shown, by the ids that the interpreter and the system gave.
use Rattle.std.specs.Prelude.{List, map}
use Rattle.std.specs.List.{flat_map}
use Rattle.py_fronts.specs.declared.thread_front.ThreadFront.{ThreadFront}
use Rattle.py_fronts.specs.declared.salvaged.SalvagedInterpreter.{SalvagedInterpreter}
use Rattle.thread_registers.specs.declared.threads.PythonThread.{PythonThread}

-- a thread's ids: the interpreter's and, where it is told, the system's
abbrev pub python_thread : ThreadFront → PythonThread
python_thread t = record { thread_id = t.thread_id; native_id = t.os_thread_id }

-- the ids of an interpreter's threads, in order
abbrev pub threads_of : SalvagedInterpreter → List PythonThread
threads_of i = map python_thread i.front.threads.threads.items

-- those of each interpreter, in the order of the interpreters and of their chains
abbrev pub python_threads : List SalvagedInterpreter → List PythonThread
python_threads is = flat_map threads_of is
