-- What objects that stand over another memory mean.
use Rattle.std.specs.Prelude.{ℕ, true, false, Option, Some, None, List, length}
use Rattle.std.specs.Borrow.{GName}
use Rattle.process_memory.specs.declared.memory.Span.{Span}
use Rattle.process_memory.specs.Memory.{Region}
use Rattle.process_memory.specs.Seen.{Seen}

-- a memory of its own: its reads are neither counted nor kept, and want no memory
abbrev pub plain : List Region → Seen
plain pieces = record { pieces = pieces; reads = 0; ranges = None; counter = None; may_want_memory = false }

-- how many reads there were: those of the counter, where there is one, and else the ranges that are kept
abbrev pub counted_or : Option GName → ℕ → ℕ → ℕ
counted_or None reads recorded = recorded
counted_or (Some name) reads recorded = reads

-- one that keeps what was read. Its reads are those of its inner memory where that counts on a counter,
-- and else as many as the ranges
abbrev pub recorded : Seen → List Span → Seen
recorded inner spans = record {
  pieces = inner.pieces;
  reads = counted_or inner.counter inner.reads (length spans);
  ranges = Some spans;
  counter = inner.counter;
  may_want_memory = true;
}

-- one that counts on a counter
abbrev pub counted : Seen → ℕ → GName → Seen
counted inner count name = record {
  pieces = inner.pieces;
  reads = count;
  ranges = inner.ranges;
  counter = Some name;
  may_want_memory = inner.may_want_memory;
}
