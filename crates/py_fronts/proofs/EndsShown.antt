-- Both ends of a chain as they are shown, and chains of threads.
use Rattle.std.proofs.Common.{◌≡◌, ℕ, ◌+◌, ◌*◌, ◌≤◌, List, length, map}
use Rattle.std.proofs.Common.{refl, ◌∙◌, ap, arith}
use Rattle.std.proofs.Math.Nat.{mul-add}
use Rattle.std.specs.Prelude.{Ok, Err, Result, IfOk}
use Rattle.process_memory.specs.Memory.{Found, Memory}
use Rattle.process_memory.specs.Seen.{FaultIs}
use Rattle.py_fields.specs.declared.layout.Layout.{Layout}
use Rattle.py_stacks.specs.StackError.{stack_fault}
use Rattle.py_stacks.specs.Threads.{first_frame_at}
use Rattle.py_stacks.specs.declared.asked.Asked.{Asked}
use Rattle.py_stacks.specs.declared.error.StackError.{StackError}
use Rattle.py_stacks.specs.declared.error.StackError.TheVariants as stack
use Rattle.py_fronts.specs.declared.members.Chain.{Chain}
use Rattle.py_fronts.specs.Answers.{IsOrNoMemory}
use Rattle.py_fronts.specs.FrameFronts.{FramesShown, HasNoChain, chain_from, chain_of_thread, ends_reads, frames_shown}
use Rattle.py_fronts.specs.FrameFronts.{number_between, shown_first, shown_last}
use Rattle.py_fronts.specs.Members.{Chained, chained_of_result, kept_of, members_front}
use Rattle.py_fronts.specs.Standings.{standing_at, standing_reads}
use Rattle.py_fronts.proofs.FirstFrameLaws.{frames_equal}

-- both ends together are those that are shown
pub ends_few : (q : Asked) (limit : ℕ) (kept first last : List ℕ) → first ≡ shown_first limit kept → last ≡ shown_last limit kept → standing_reads q * length first + standing_reads q * length last ≤ ends_reads q limit kept
ends_few q limit kept first last f e = rw (← f, ← e) (omega (arith, mul-add (standing_reads q) (length first) (length last)))

pub first_few : (q : Asked) (limit : ℕ) (kept first : List ℕ) → first ≡ shown_first limit kept → standing_reads q * length first ≤ ends_reads q limit kept
first_few q limit kept first f = let both = ends_few q limit kept first (shown_last limit kept) f refl in omega (arith, both)

pub ends_shown : (q : Asked) (l : Layout) (m : Memory) (limit : ℕ) (c : Chained) (first last : List ℕ) (between : ℕ) (r : FramesShown) → first ≡ shown_first limit c.kept → between ≡ number_between limit c.kept → last ≡ shown_last limit c.kept
    → r.first ≡ map (standing_at q l m) first → r.last ≡ map (standing_at q l m) last → r.between ≡ between → r.met ≡ c.met → r.ending ≡ c.ending → r ≡ frames_shown q l m limit c
unfolding frames_shown
ends_shown q l m limit c first last between r f b e p o n met ending =
    frames_equal r (frames_shown q l m limit c) (p ∙ ap (map (standing_at q l m)) f) (n ∙ b) (o ∙ ap (map (standing_at q l m)) e) met ending

-- ---- chains of threads

pub chain_there : (l : Layout) (m : Memory) (limit : ℕ) (thread : List ℕ) (first : ℕ) (result : Result Chained StackError) → first_frame_at l m thread ≡ Ok first → IsOrNoMemory (kept_of l m (members_front l m limit first)) result
    → IsOrNoMemory (chain_of_thread l m limit thread) result
unfolding chain_of_thread
chain_there l m limit thread first result e h = rw e h

-- its reads, where its first member is known
pub chain_cost : (l : Layout) (m : Memory) (limit : ℕ) (thread : List ℕ) (first : ℕ) → first_frame_at l m thread ≡ Ok first
    → (chain_of_thread l m limit thread).met ≡ length (members_front l m limit first).members
unfolding chain_of_thread
chain_cost l m limit thread first e = rw e refl

missing_by : (l : Layout) (m : Memory) (limit : ℕ) (d : Found ℕ) (e : StackError) (result : Result Chain StackError) → FaultIs d (stack_fault e) → HasNoChain e result → IsOrNoMemory (chain_from l m limit d) (chained_of_result result)
missing_by l m limit d (stack.Unreadable addr len) (Ok c) h is = rw h is
missing_by l m limit d (stack.Unreadable addr len) (Err e) h is = is
missing_by l m limit d (stack.BadValue frame) (Ok c) h is = absurd is
missing_by l m limit d (stack.BadValue frame) (Err e) h is = is
missing_by l m limit d (stack.LocalsLimit count) (Ok c) h is = absurd is
missing_by l m limit d (stack.LocalsLimit count) (Err e) h is = is
missing_by l m limit d stack.ThreadLimit (Ok c) h is = absurd is
missing_by l m limit d stack.ThreadLimit (Err e) h is = is
missing_by l m limit d stack.FrameLimit (Ok c) h is = absurd is
missing_by l m limit d stack.FrameLimit (Err e) h is = is
missing_by l m limit d stack.ChainLimit (Ok c) h is = absurd is
missing_by l m limit d stack.ChainLimit (Err e) h is = is
missing_by l m limit d stack.OutOfMemory (Ok c) h is = absurd is
missing_by l m limit d stack.OutOfMemory (Err e) h is = is

pub chain_missing : (l : Layout) (m : Memory) (limit : ℕ) (thread : List ℕ) (e : StackError) (result : Result Chain StackError) → FaultIs (first_frame_at l m thread) (stack_fault e) → HasNoChain e result
    → IsOrNoMemory (chain_of_thread l m limit thread) (chained_of_result result)
unfolding chain_of_thread
chain_missing l m limit thread e result h is = missing_by l m limit (first_frame_at l m thread) e result h is

pub missing_few : (limit : ℕ) (e : StackError) (result : Result Chain StackError) → HasNoChain e result → IfOk result (λ c. c.met ≤ limit)
missing_few limit (stack.Unreadable addr len) (Ok c) is = let none : c.met ≡ 0 = ap (λ (x : Chained). x.met) is in omega arith
missing_few limit e (Err f) is = tt
missing_few limit (stack.BadValue frame) (Ok c) is = absurd is
missing_few limit (stack.LocalsLimit count) (Ok c) is = absurd is
missing_few limit stack.ThreadLimit (Ok c) is = absurd is
missing_few limit stack.FrameLimit (Ok c) is = absurd is
missing_few limit stack.ChainLimit (Ok c) is = absurd is
missing_few limit stack.OutOfMemory (Ok c) is = absurd is
