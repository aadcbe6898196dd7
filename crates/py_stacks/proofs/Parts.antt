-- What a member costs, and what it shows as.
use Rattle.std.proofs.Common.{◌≡◌, ℕ, ◌+◌, ◌<◌, ◌≤◌, true, false, ltb, refl, sym, ◌∙◌, arith}
use Rattle.std.specs.Prelude.{Option, Some, Ok, Err}
use Rattle.std.proofs.lemmas.Bool.Decides.{nat_tests}
use Rattle.process_memory.specs.Memory.{Memory, Fault, ◌>>=◌, byte_at}
use Rattle.process_memory.specs.Memory.Fault.{FrameLimit}
use Rattle.process_memory.specs.Seen.{Seen, ReadsOf}
use Rattle.process_memory.specs.declared.memory.Span.{Span}
use Rattle.process_memory.proofs.Reading.{reading_here}
use Rattle.process_memory.proofs.Founds.{ok_same}
use Rattle.py_fields.specs.declared.layout.Layout.{Layout}
use Rattle.py_stacks.specs.declared.asked.Asked.{Asked}
use Rattle.py_stacks.specs.Detail.{detail_at, detail_cost}
use Rattle.py_stacks.specs.Member.{MemberAt}
use Rattle.py_stacks.specs.Frames.{Call, extra_cost, frame_limit, member_cost, name_at, part_by, part_cost, plain_at}
use Rattle.py_stacks.specs.Frames.{plain_by, records_at, with_detail}

pub plain_is : (l : Layout) (m : Memory) (r : MemberAt) → plain_at l m r ≡ Ok (plain_by l m r)
unfolding plain_at name_at
plain_is l m r = refl

pub member_costs : (q : Asked) (l : Layout) (m : Memory) (kept a : ℕ) → 6 ≤ member_cost q l m kept a
unfolding member_cost
member_costs q l m kept a = omega arith

pub member_costs_two : (q : Asked) (l : Layout) (m : Memory) (kept a : ℕ) → 2 ≤ member_cost q l m kept a
unfolding member_cost
member_costs_two q l m kept a = omega arith

-- a member that may be kept
module _ (q : Asked) (l : Layout) (m : Memory) (kept : ℕ) (r : MemberAt) (c : Call) where
  pub part_kept : kept < frame_limit
      → part_by q l m kept r (Some c) ≡ (detail_at q l m r >>= (λ d. Ok (Some (with_detail c d))))
  part_kept lt = let below : ltb kept 4096 ≡ true = grind (arith, nat_tests) in rw below refl

  pub part_over : frame_limit ≤ kept → part_by q l m kept r (Some c) ≡ Err FrameLimit
  part_over le = let past : ltb kept 4096 ≡ false = grind (arith, nat_tests) in rw past refl

  pub part_costs : kept < frame_limit → part_cost q l m kept r (Some c) ≡ detail_cost q l m r
  part_costs lt = let below : ltb kept 4096 ≡ true = grind (arith, nat_tests) in rw below refl

module _ {a1 a2 : Memory → Span → Type 0} {E E' : Type 0} {fault : E → Option Fault} {fault' : E' → Option Fault} {s0 s1 s2 : Seen} where
  -- the reads of the detail are counted in the member's
  pub member_budget : (q : Asked) (l : Layout) (kept a : ℕ) (r : MemberAt) (p : Option Call)
      → ReadsOf {E = E} a1 fault 2 s0 s1 (λ m. records_at l m a) (Ok r)
      → ReadsOf {E = E'} a2 fault' 4 s1 s2 (λ m. plain_at l m r) (Ok p)
      → 2 + (4 + part_cost q l (byte_at s2.pieces) kept r p) ≤ member_cost q l (byte_at s0.pieces) kept a
  unfolding member_cost extra_cost
  member_budget q l kept a r p one two =
      let read = (reading_here one).is in
      let is : Ok (plain_by l (byte_at s0.pieces) r) ≡ Ok p = sym (plain_is l (byte_at s0.pieces) r) ∙ rw one.pieces at (reading_here two).is in
      let same = ok_same _ p is in
      rw (two.pieces, one.pieces, read, same) (omega arith)
