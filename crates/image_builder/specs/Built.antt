-- The core and the image of a program.
use Rattle.std.specs.Prelude.{ℕ, ◌+◌, Option, Some, None, List}
use Rattle.elf64_core.specs.declared.header.Machine.{Machine}
use Rattle.py_fields.specs.declared.layout.Layout.{Layout}
use Rattle.py_fields.specs.declared.layout.Lock.{Lock}
use Rattle.py_fields.specs.declared.layout.Lock.TheVariants.{Symbol, Runtime, Gil}
use Rattle.py_fields.specs.Offsets.{tstate_current_offset}
use Rattle.py_fields.specs.declared.version.Version.{Version}
use Rattle.memory_builder.specs.Laid.{gil_place, laid_program, owner_place}
use Rattle.memory_builder.specs.Program.{Program}
use Rattle.image_builder.specs.CoreFiles.{core_file}
use Rattle.image_builder.specs.Covered.{number_of}
use Rattle.image_builder.specs.ImageFiles.{image_file}
use Rattle.image_builder.specs.RuntimeWords.{interpreter_at, runtime_words}

-- the image of a program's Python, of a version and a machine
abbrev pub built_image : Version → Machine → List ℕ
built_image v machine = image_file machine (number_of v)

-- the words of the bss that name the program's interpreter and its lock's holder
abbrev pub built_words : Layout → Version → Machine → Program → List ℕ
built_words l v machine p = runtime_words l machine v (owner_place l interpreter_at p)

-- the objects of the program, from the interpreter on
abbrev pub built_objects : Layout → Program → List ℕ
built_objects l p = laid_program l interpreter_at p

-- the core of a process that ran the program
abbrev pub built_core : Layout → Version → Machine → Program → List ℕ
built_core l v machine p =
    core_file machine (built_image v machine) (built_words l v machine p) (built_objects l p)

-- where the lock is, by its family; 0 where the runtime record has no place for it
abbrev pub runtime_lock : Option ℕ → ℕ
runtime_lock None = 0
runtime_lock (Some at) = 0x50_0000 + at

-- the address of the lock, by its family
abbrev pub lock_by : Lock → Layout → Version → Machine → ℕ
lock_by Symbol l v machine = 0x51_0008
lock_by Runtime l v machine = runtime_lock (tstate_current_offset machine v)
lock_by Gil l v machine = gil_place l interpreter_at

-- the address of the lock, by a layout
abbrev pub built_lock : Layout → Version → Machine → ℕ
built_lock l v machine = lock_by l.lock l v machine
