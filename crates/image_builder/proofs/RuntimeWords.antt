-- The words of the bss have room beside each other.
use Rattle.std.proofs.Common.{ℕ, ◌+◌, ◌≤◌, eqb, leb, cond, true, false, Bool, [], ◌∷◌, map, arith, inl, inr}
use Rattle.std.specs.Prelude.{Some, None, Option, ⊤, IfSome}
use Rattle.std.specs.Int.{is_in_range}
use Rattle.elf64_core.specs.declared.header.Machine.{Machine}
use Rattle.elf64_core.specs.declared.header.Machine.TheVariants.{X86_64, Aarch64, Other}
use Rattle.py_fields.specs.Places.{Apart, AreApart, EndBy, IsGroup, offsets_places}
use Rattle.py_fields.specs.Sound.{IsRecord, IsSound}
use Rattle.py_fields.specs.declared.layout.Head.{Head}
use Rattle.py_fields.specs.declared.layout.Head.TheVariants.{Symbol, Runtime, Offsets}
use Rattle.py_fields.specs.declared.layout.Lock.{Lock}
use Rattle.py_fields.specs.declared.layout.Lock.TheVariants.{Symbol as SymbolLock, Runtime as RuntimeLock, Gil}
use Rattle.py_fields.specs.declared.layout.OffsetsAt.{OffsetsAt}
use Rattle.py_fields.specs.declared.layout.Layout.{Layout}
use Rattle.object_builder.specs.Objects.{optional_write, write_place}
use Rattle.object_builder.specs.Objects.Value.{U64}
use Rattle.image_builder.specs.RuntimeWords.{HasWordRoom, head_field, head_place, lock_word_place, words_writes}
use Rattle.py_fields.specs.Offsets.{by_minor, current_of_3, head_of_3, interp_head_offset, is_cinder}
use Rattle.py_fields.specs.Offsets.{tstate_current_offset}
use Rattle.py_fields.specs.declared.version.Version.{Version}

-- ---- the two tables

chosen : (t : Bool) (a b lo hi : ℕ) → (lo ≤ a) × (a ≤ hi) → (lo ≤ b) × (b ≤ hi) → (lo ≤ cond t a b) × (cond t a b ≤ hi)
chosen true a b lo hi p q = p
chosen false a b lo hi p q = q

pub head_small : (v : Version) → (24 ≤ interp_head_offset v) × (interp_head_offset v ≤ 40)
unfolding interp_head_offset
head_small v =
    chosen (eqb v.major 3) (head_of_3 v.minor) 24 24 40
    (chosen (is_in_range 8 10 v.minor) 32 _ 24 40 (
      omega arith,
      omega arith,
    ) (chosen (is_in_range 11 12 v.minor) 40 24 24 40 (omega arith, omega arith) (
      omega arith,
      omega arith,
    )))
    (omega arith, omega arith)

abbrev pub InRange : ℕ → Type 0
InRange at = (568 ≤ at) × (at ≤ 1496)

abbrev pub AllIn : Option ℕ → Type 0
AllIn None = ⊤
AllIn (Some at) = InRange at

picked : (t : Bool) (o p : Option ℕ) → AllIn o → AllIn p → AllIn (cond t o p)
picked true o p h k = h
picked false o p h k = k

minors_in : (a b c d minor : ℕ) → InRange a → InRange b → InRange c → InRange d → AllIn (by_minor a b c d minor)
minors_in a b c d minor p q r s =
    picked (eqb minor 7) (Some a) _ p (picked (eqb minor 8) (Some b) _ q
    (picked (is_in_range 9 10 minor) (Some c) _ r (picked (eqb minor 11) (Some d) None s tt)))

pub current_in : (machine : Machine) (v : Version) → AllIn (tstate_current_offset machine v)
unfolding tstate_current_offset
current_in X86_64 v = picked (eqb v.major 3) (current_of_3 X86_64 v) None
    (minors_in _ _ 568 576 v.minor (chosen (leb v.patch 3) 1392 1480 568 1496 (omega arith, omega arith) (
      omega arith,
      omega arith,
    )) (chosen (is_cinder v.build_metadata) 1384 1368 568 1496 (omega arith, omega arith) (
      omega arith,
      omega arith,
    )) (omega arith, omega arith) (omega arith, omega arith)) tt
current_in Aarch64 v = picked (eqb v.major 3) (current_of_3 Aarch64 v) None
    (minors_in _ 1384 584 592 v.minor (chosen (leb v.patch 3) 1408 1496 568 1496 (
      omega arith,
      omega arith,
    ) (omega arith, omega arith)) (omega arith, omega arith) (omega arith, omega arith) (
      omega arith,
      omega arith,
    )) tt
current_in Other v = picked (eqb v.major 3) None None tt tt

-- ---- the words lie inside

head_le : (h : Head) (v : Version) → head_place h v ≤ 0x1_0010
head_le Symbol v = omega arith
head_le Runtime v = let small = head_small v in omega (arith, small.1)
head_le Offsets v = omega arith

abbrev IsLow : Option ℕ → Type 0
IsLow o = IfSome o (λ at. at ≤ 0x1_0008)

field_le : (h : Head) (o : Option OffsetsAt) → IfSome o (λ o. IsRecord o.size (offsets_places o))
    → IsLow (head_field h o)
unfolding offsets_places
field_le Symbol o h = tt
field_le Runtime o h = tt
field_le Offsets None h = tt
field_le Offsets (Some o) h = let inside = h.group.inside.0 in omega (arith, inside, h.short)

low_of : (o : Option ℕ) → AllIn o → IsLow o
low_of None h = tt
low_of (Some at) h = omega (arith, h.1)

lock_le : (k : Lock) (machine : Machine) (v : Version) → IsLow (lock_word_place k machine v)
lock_le SymbolLock machine v = omega arith
lock_le RuntimeLock machine v = low_of (tstate_current_offset machine v) (current_in machine v)
lock_le Gil machine v = tt

word_inside : (o : Option ℕ) (n : ℕ) → IsLow o → (write_place (optional_write o (U64 n))).0 +
    (write_place (optional_write o (U64 n))).1 ≤ 0x2_0000
word_inside None n h = omega arith
word_inside (Some at) n h = omega (arith, h)

pub words_inside : (l : Layout) (machine : Machine) (v : Version) (holder : ℕ) → IsSound l
    → EndBy 0x2_0000 (map write_place (words_writes l machine v holder))
words_inside l machine v holder sound = (
  omega (arith, head_le l.head v),
  (
    word_inside (head_field l.head l.offsets) 0x1_0000 (field_le l.head l.offsets sound.groups.offsets),
    (word_inside (lock_word_place l.lock machine v) holder (lock_le l.lock machine v), tt),
  ),
)

-- ---- no two of them meet, where there is room

low_meets : (k : ℕ) (o : Option ℕ) → 0x1_0000 ≤ k → AllIn o → IfSome o (λ at. Apart (k, 8) (at, 8))
low_meets k None far h = tt
low_meets k (Some at) far h = inr (omega (arith, far, h.1))

early_meets : (k : ℕ) (o : Option ℕ) → k ≤ 40 → AllIn o → IfSome o (λ at. Apart (k, 8) (at, 8))
early_meets k None near h = tt
early_meets k (Some at) near h = inl (omega (arith, near, h.0))

field_apart : (h : Head) (o : Option OffsetsAt) (v : Version) → IfSome o (λ o. IsRecord o.size (offsets_places o))
    → IfSome (head_field h o) (λ at. Apart (head_place h v, 8) (at, 8))
unfolding offsets_places
field_apart Symbol o v h = tt
field_apart Runtime o v h = tt
field_apart Offsets None v h = tt
field_apart Offsets (Some o) v h = let inside = h.group.inside.0 in inr (omega (arith, inside, h.short))

word_apart : (h : Head) (k : Lock) (machine : Machine) (v : Version)
    → IfSome (lock_word_place k machine v) (λ at. Apart (head_place h v, 8) (at, 8))
word_apart Symbol SymbolLock machine v = inr (omega arith)
word_apart Symbol RuntimeLock machine v = low_meets 0x1_0010 (tstate_current_offset machine v) (omega arith)
    (current_in machine v)
word_apart Symbol Gil machine v = tt
word_apart Runtime SymbolLock machine v = let small = head_small v in inl (omega (arith, small.1))
word_apart Runtime RuntimeLock machine v = let small = head_small v in
    early_meets (interp_head_offset v) (tstate_current_offset machine v) small.1 (current_in machine v)
word_apart Runtime Gil machine v = tt
word_apart Offsets SymbolLock machine v = inl (omega arith)
word_apart Offsets RuntimeLock machine v = low_meets 0x1_0000 (tstate_current_offset machine v) (omega arith)
    (current_in machine v)
word_apart Offsets Gil machine v = tt

all_apart : (a x y z : ℕ) (f k : Option ℕ) → IfSome f (λ at. Apart (a, 8) (at, 8))
    → IfSome k (λ at. Apart (a, 8) (at, 8)) → IfSome f (λ b. IfSome k (λ c. Apart (b, 8) (c, 8)))
    → AreApart (map write_place (record { at = a; value = U64 x } ∷ optional_write f (U64 y) ∷ optional_write k (U64 z)
    ∷ []))
all_apart a x y z None None p q r = ((inr (omega arith), (inr (omega arith), tt)), ((inl (omega arith), tt), (tt, tt)))
all_apart a x y z None (Some c) p q r = ((inr (omega arith), (q, tt)), ((inl (omega arith), tt), (tt, tt)))
all_apart a x y z (Some b) None p q r = ((p, (inr (omega arith), tt)), ((inr (omega arith), tt), (tt, tt)))
all_apart a x y z (Some b) (Some c) p q r = ((p, (q, tt)), ((r, tt), (tt, tt)))

pub words_group : (l : Layout) (machine : Machine) (v : Version) (holder : ℕ) → IsSound l → HasWordRoom l machine v
    → IsGroup 0x2_0000 (map write_place (words_writes l machine v holder))
words_group l machine v holder sound room = record {
  inside = words_inside l machine v holder sound;
  apart = all_apart (head_place l.head v) 0x60_0000 0x1_0000 holder (head_field l.head l.offsets)
      (lock_word_place l.lock machine v) (field_apart l.head l.offsets v sound.groups.offsets)
      (word_apart l.head l.lock machine v) room;
}
