-- The records of a frame, and its locals.
use Rattle.std.proofs.Common.{◌≡◌, ◌+◌, ◌-◌, ◌*◌, ◌^◌, ℕ, refl, arith}
use Rattle.std.specs.Prelude.{min}
use Rattle.py_fields.specs.declared.layout.Layout.{Layout}
use Rattle.memory_builder.specs.Program.{Frame}
use Rattle.memory_builder.specs.Sizes.{capped, frame_len, gil_size, interpreter_len, records_size, rounded, shared_size}
use Rattle.memory_builder.specs.Sizes.{table_len, text_len, tuple_len}

pub records_are : (l : Layout) (f : Frame) (frame code table tuple file name : ℕ) → frame ≡ rounded (frame_len l f)
    → code ≡ rounded l.code.size → table ≡ rounded (table_len l f)
    → tuple ≡ rounded (tuple_len l f) → file ≡ rounded (text_len l f.filename) → name ≡ rounded (text_len l f.name)
    → frame + code + table + tuple + (file + name) ≡ records_size l f
unfolding records_size
records_are l f frame code table tuple file name a b c d e g =
    rw (a, b, c, d, e, g) (grouped (rounded (frame_len l f) + rounded l.code.size + rounded (table_len l f) + rounded
    (tuple_len l f)) (rounded (text_len l f.filename)) (rounded (text_len l f.name)))
  where
    grouped : (x y z : ℕ) → x + (y + z) ≡ x + y + z
    grouped x y z = omega arith

-- what is added one after the other stops at the greatest u64, as the sum does
pub added_twice : (a b c one two three sum : ℕ) → one ≡ capped a → two ≡ capped b → three ≡ capped c
    → sum ≡ min (min (one + two) (2 ^ 64 - 1) + three) (2 ^ 64 - 1)
    → sum ≡ capped (a + b + c)
added_twice a b c one two three sum x y z is = omega arith

pub added_once : (a b one two sum : ℕ) → one ≡ capped a → two ≡ capped b → sum ≡ min (one + two) (2 ^ 64 - 1)
    → sum ≡ capped (a + b)
added_once a b one two sum x y is = omega arith

pub shared_is : (l : Layout) (interpreter gil klass : ℕ) → interpreter ≡ rounded (interpreter_len l)
    → gil ≡ gil_size l.gil → klass ≡ rounded l.klass.size
    → interpreter + gil + 3 * (klass + 128) ≡ shared_size l
unfolding shared_size
shared_is l interpreter gil klass a b c = rw (a, b, c) refl
