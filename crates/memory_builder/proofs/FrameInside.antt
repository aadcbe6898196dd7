-- The fields of a frame's records lie inside them.
use Rattle.std.proofs.Common.{◌≡◌, ◌+◌, ◌≤◌, ℕ, List, length, map, refl, arith}
use Rattle.std.specs.Prelude.{Option, Some, None}
use Rattle.py_fields.specs.Places.{EndBy, instr_width}
use Rattle.py_fields.specs.Sound.{IsSound}
use Rattle.py_fields.proofs.Fields.{frame_fits}
use Rattle.py_fields.specs.declared.layout.Lasti.{Lasti}
use Rattle.py_fields.specs.declared.layout.Lasti.TheVariants.{Bytes as InBytes, Units, Pointer}
use Rattle.py_fields.specs.declared.layout.Layout.{Layout}
use Rattle.object_builder.specs.Objects.{len_of, optional_write, write_place}
use Rattle.object_builder.specs.Objects.Value.{U8}
use Rattle.memory_builder.specs.Frames.{frame_writes, instr_value, start_in}

pub len-instr : (x : Lasti) (start offset : ℕ) → len_of (instr_value x start offset) ≡ instr_width x
len-instr InBytes start offset = refl
len-instr Units start offset = refl
len-instr Pointer start offset = refl

pub entry_inside : (o : Option ℕ) (n size : ℕ) → ((at : ℕ) → o ≡ Some at → at + 1 ≤ size) → size ≤ n
    → (optional_write o (U8 1)).at + len_of (optional_write o (U8 1)).value ≤ n
entry_inside None n size h le = omega arith
entry_inside (Some at) n size h le = omega (arith, h at refl)

pub frame_inside : (l : Layout) → IsSound l → (code back offset n : ℕ) (slots : List ℕ) → l.frame.size ≤ n
    → l.frame.locals + length slots ≤ n
    → EndBy n (map write_place (frame_writes l code back offset slots))
frame_inside l sound code back offset n slots le fits =
    let f = frame_fits sound in (
      omega (arith, f.code),
      (
        omega (arith, f.back),
        (
          omega (arith, f.instr, len-instr l.lasti (start_in l code) offset),
          (entry_inside l.frame.entry n l.frame.size f.entry le, (omega arith, tt)),
        ),
      ),
    )
