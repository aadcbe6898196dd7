-- What a sound layout says of each field, for crates that read records: where it ends, and how large the
-- numbers are. `let fits = thread_fits sound in omega arith` has all the facts on threads.
use Rattle.std.proofs.Common.{◌≡◌, ℕ, ◌+◌, ◌<◌, ◌≤◌, ◌^◌, Option, Some, None, arith}
use Rattle.std.specs.Prelude.{IfSome, IsSome}
use Rattle.py_fields.specs.Places.{optional_place, instr_width, thread_places, frame_places, code_places, string_head}
use Rattle.py_fields.specs.Places.{string_places, state_bits}
use Rattle.py_fields.specs.declared.layout.Strings.TheVariants.{State}
use Rattle.py_fields.specs.Sound.{IsPlain, IsStart, IsSound}
use Rattle.py_fields.specs.declared.layout.Lasti.{Lasti}
use Rattle.py_fields.specs.declared.layout.InterpreterAt.{InterpreterAt}
use Rattle.py_fields.specs.declared.layout.ThreadAt.{ThreadAt}
use Rattle.py_fields.specs.declared.layout.CframeAt.{CframeAt}
use Rattle.py_fields.specs.declared.layout.FrameAt.{FrameAt}
use Rattle.py_fields.specs.declared.layout.CodeAt.{CodeAt}
use Rattle.py_fields.specs.declared.layout.StringAt.{StringAt}
use Rattle.py_fields.specs.declared.layout.Layout.{Layout}

-- a field that is there ends where its place does
pub optional_end : (field : Option ℕ) (width end at : ℕ) → (optional_place field width).0 + (optional_place field width).1 ≤ end → field ≡ Some at → at + width ≤ end
optional_end None width end at h e = cc
optional_end (Some x) width end at h e =
    let same : x ≡ at = cc in
    rw (← same) h

-- what holds of a value that is there holds of this one
pub some_is : {T : Type 0} (o : Option T) (P : T → Type 0) (x : T) → IfSome o P → o ≡ Some x → P x
some_is None P x h e = cc
some_is (Some y) P x h e =
    let same : y ≡ x = cc in
    rw (← same) h

pub record InterpreterFits (i : InterpreterAt) : Type 0 where
  pub threads : i.threads < 2 ^ 20
  pub modules : i.modules < 2 ^ 20
  pub gil : (at : ℕ) → i.gil ≡ Some at → at < 2 ^ 20

pub interpreter_fits : {l : Layout} → IsSound l → InterpreterFits l.interpreter
interpreter_fits {l} s = record {
  threads = s.interpreter.threads;
  modules = s.interpreter.modules;
  gil = λ at e. some_is l.interpreter.gil IsPlain at s.interpreter.gil e;
}

pub record ThreadFits (t : ThreadAt) : Type 0 where
  pub positive : 0 < t.size
  pub short : t.size < 2 ^ 16
  pub next : t.next + 8 ≤ t.size
  pub interp : t.interp + 8 ≤ t.size
  pub id : t.id + 8 ≤ t.size
  pub frame : t.frame + 8 ≤ t.size
  pub native_id : (at : ℕ) → t.native_id ≡ Some at → at + 8 ≤ t.size

pub thread_fits : {l : Layout} → IsSound l → ThreadFits l.thread
unfolding thread_places
thread_fits {l} s =
    let inside = s.thread.group.inside in
    record {
      positive = s.thread.positive;
      short = s.thread.short;
      next = inside.0;
      interp = inside.1.0;
      id = inside.1.1.0;
      frame = inside.1.1.1.0;
      native_id = λ at e. optional_end l.thread.native_id 8 l.thread.size at inside.1.1.1.1.0 e;
    }

pub cframe_fits : {l : Layout} → IsSound l → (c : CframeAt) → l.cframe ≡ Some c → c.current < 2 ^ 20
cframe_fits {l} s c e = some_is l.cframe (λ (x : CframeAt). x.current < 2 ^ 20) c s.groups.cframe e

pub record FrameFits (lasti : Lasti) (f : FrameAt) : Type 0 where
  pub positive : 0 < f.size
  pub short : f.size < 2 ^ 16
  pub code : f.code + 8 ≤ f.size
  pub back : f.back + 8 ≤ f.size
  pub instr : f.instr + instr_width lasti ≤ f.size
  pub entry : (at : ℕ) → f.entry ≡ Some at → at + 1 ≤ f.size
  pub locals : f.locals < 2 ^ 20
  pub code_tag_bits : f.code_tag_bits ≤ 3

pub frame_fits : {l : Layout} → IsSound l → FrameFits l.lasti l.frame
unfolding frame_places
frame_fits {l} s =
    let inside = s.frame.fields.group.inside in
    record {
      positive = s.frame.fields.positive;
      short = s.frame.fields.short;
      code = inside.0;
      back = inside.1.0;
      instr = inside.1.1.0;
      entry = λ at e. optional_end l.frame.entry 1 l.frame.size at inside.1.1.1.0 e;
      locals = s.frame.locals.plain;
      code_tag_bits = s.frame.code_tag_bits;
    }

pub record CodeFits (c : CodeAt) : Type 0 where
  pub positive : 0 < c.size
  pub short : c.size < 2 ^ 16
  pub argcount : c.argcount + 4 ≤ c.size
  pub nlocals : c.nlocals + 4 ≤ c.size
  pub first_line : c.first_line + 4 ≤ c.size
  pub filename : c.filename + 8 ≤ c.size
  pub name : c.name + 8 ≤ c.size
  pub table : c.table + 8 ≤ c.size
  pub varnames : c.varnames + 8 ≤ c.size
  pub start : (at : ℕ) → c.start ≡ Some at → at < 2 ^ 20

pub code_fits : {l : Layout} → IsSound l → CodeFits l.code
unfolding code_places
code_fits {l} s =
    let inside = s.code.fields.group.inside in
    record {
      positive = s.code.fields.positive;
      short = s.code.fields.short;
      argcount = inside.0;
      nlocals = inside.1.0;
      first_line = inside.1.1.0;
      filename = inside.1.1.1.0;
      name = inside.1.1.1.1.0;
      table = inside.1.1.1.1.1.0;
      varnames = inside.1.1.1.1.1.1.0;
      start = λ at e. some_is l.code.start IsPlain at s.code.start e;
    }

pub record StringFits (s : StringAt) : Type 0 where
  pub positive : 0 < s.size
  pub short : s.size < 2 ^ 16
  pub length : s.length + 8 ≤ s.size
  pub state : (at : ℕ) → s.state ≡ Some at → at + 4 ≤ s.size
  pub pointer : (at : ℕ) → s.pointer ≡ Some at → at + 8 ≤ s.size
  pub short_at : s.short_at < 2 ^ 20
  pub long_at : (at : ℕ) → s.long_at ≡ Some at → at < 2 ^ 20
  pub kind_shift : (bit : ℕ) → s.kind_shift ≡ Some bit → bit ≤ 29
  pub compact_bit : (bit : ℕ) → s.compact_bit ≡ Some bit → bit ≤ 31
  pub ascii_bit : (bit : ℕ) → s.ascii_bit ≡ Some bit → bit ≤ 31

pub string_fits : {l : Layout} → IsSound l → StringFits l.string
unfolding string_places state_bits
string_fits {l} s =
    let inside = s.string.fields.group.inside in
    let bits = s.string.bits.inside in
    record {
      positive = s.string.fields.positive;
      short = s.string.fields.short;
      length = inside.0;
      state = λ at e. optional_end l.string.state 4 l.string.size at inside.1.0 e;
      pointer = λ at e. optional_end l.string.pointer 8 l.string.size at inside.1.1.0 e;
      short_at = s.string.short_at.plain;
      long_at = λ at e. (some_is l.string.long_at (IsStart (string_head l.string)) at s.string.long_at e).plain;
      kind_shift = λ bit e. omega (arith, optional_end l.string.kind_shift 3 32 bit bits.0 e);
      compact_bit = λ bit e. omega (arith, optional_end l.string.compact_bit 1 32 bit bits.1.0 e);
      ascii_bit = λ bit e. omega (arith, optional_end l.string.ascii_bit 1 32 bit bits.1.1.0 e);
    }

-- a text with a state has all the fields that go with one
pub record HasStateAt (s : StringAt) : Type 0 where
  pub state : IsSome s.state
  pub pointer : IsSome s.pointer
  pub long_at : IsSome s.long_at
  pub kind_shift : IsSome s.kind_shift
  pub compact_bit : IsSome s.compact_bit
  pub ascii_bit : IsSome s.ascii_bit

pub string_state : {l : Layout} → IsSound l → l.strings ≡ State → HasStateAt l.string
string_state {l} s e =
    let has = s.string.optional in
    record {
      state = has.state.1 e;
      pointer = has.pointer.1 e;
      long_at = has.long_at.1 e;
      kind_shift = has.kind_shift.1 e;
      compact_bit = has.compact_bit.1 e;
      ascii_bit = has.ascii_bit.1 e;
    }
