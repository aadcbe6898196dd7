-- What reads one range reads one that is consulted.
use Rattle.std.proofs.Common.{◌≡◌, ℕ, ◌<◌, ◌^◌, inl, inr, subst, sym}
use Rattle.process_memory.specs.Memory.{Memory, byte_at}
use Rattle.process_memory.specs.Seen.{IsRead, IsShort, Reading, ReadingOf, Seen}
use Rattle.process_memory.specs.declared.memory.Span.{Span}
use Rattle.process_memory.proofs.Reading.{reading_wider, reading_wider_here}
use Rattle.py_fields.specs.declared.layout.Layout.{Layout}
use Rattle.py_builtins.specs.Consulted.{AreBytes, AreCharacters, Consulting, IsConsulted, IsField, IsRecordSize, IsWidth}
use Rattle.py_builtins.specs.Consulted.{ReadingFields}

short_of : {addr len : ℕ} (m : Memory) (s : Span) → IsRead addr len m s → s.len < 2 ^ 16
short_of m s h = let Short : Span → Type 0 = λ t. t.len < 2 ^ 16 in subst Short (sym h.is) h.short

width_of : {addr len : ℕ} (m : Memory) (s : Span) → IsWidth len → IsRead addr len m s → IsWidth s.len
width_of m s w h = let Wide : Span → Type 0 = λ t. IsWidth t.len in subst Wide (sym h.is) w

pub reads_field : {addr len n : ℕ} {s0 s1 : Seen} {Q : Memory → Type 0} → IsWidth len → ReadingOf (IsRead addr len) n s0 s1 Q → ReadingFields n s0 s1 Q
reads_field w p = reading_wider IsField p (λ m s h. record { short = short_of m s h; width = width_of m s w h })

pub consults_fields : {n : ℕ} {s0 s1 : Seen} {Q : Memory → Type 0} (l : Layout) → ReadingFields n s0 s1 Q → Consulting l n s0 s1 Q
consults_fields l p = reading_wider (IsConsulted l) p (λ m s h. record { short = h.short; is = inl h.width })

pub consults_field : {addr len n : ℕ} {s0 s1 : Seen} {Q : Memory → Type 0} (l : Layout) → IsWidth len → ReadingOf (IsRead addr len) n s0 s1 Q → Consulting l n s0 s1 Q
consults_field l w p = consults_fields l (reads_field w p)

pub consults_record : {addr len n : ℕ} {s0 s1 : Seen} {Q : Memory → Type 0} (l : Layout) → IsRecordSize l len → ReadingOf (IsRead addr len) n s0 s1 Q → Consulting l n s0 s1 Q
consults_record l size p = reading_wider (IsConsulted l) p (λ m s h. record {
  short = short_of m s h;
  is = inr (inl (let Sized : Span → Type 0 = λ t. IsRecordSize l t.len in subst Sized (sym h.is) size));
})

pub consults_characters : {addr len n : ℕ} {s0 s1 : Seen} {Q : Memory → Type 0} (l : Layout) → ((s : Span) → s ≡ record { start = addr; len = len } → AreCharacters l (byte_at s0.pieces) s)
    → ReadingOf (IsRead addr len) n s0 s1 Q → Consulting l n s0 s1 Q
consults_characters {s0 = s0} l are p = reading_wider_here (IsConsulted l) p (λ s h. record { short = short_of (byte_at s0.pieces) s h; is = inr (inr (inl (are s h.is))) })

pub consults_bytes : {addr len n : ℕ} {s0 s1 : Seen} {Q : Memory → Type 0} (l : Layout) → ((s : Span) → s ≡ record { start = addr; len = len } → AreBytes l (byte_at s0.pieces) s)
    → ReadingOf (IsRead addr len) n s0 s1 Q → Consulting l n s0 s1 Q
consults_bytes {s0 = s0} l are p = reading_wider_here (IsConsulted l) p (λ s h. record { short = short_of (byte_at s0.pieces) s h; is = inr (inr (inr (are s h.is))) })

-- what is consulted is short
pub consulting_short : {l : Layout} {n : ℕ} {s0 s1 : Seen} {Q : Memory → Type 0} → Consulting l n s0 s1 Q → Reading n s0 s1 Q
consulting_short p = reading_wider IsShort p (λ m s h. h.short)

pub fields_short : {n : ℕ} {s0 s1 : Seen} {Q : Memory → Type 0} → ReadingFields n s0 s1 Q → Reading n s0 s1 Q
fields_short p = reading_wider IsShort p (λ m s h. h.short)
