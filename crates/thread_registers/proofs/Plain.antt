-- The tree of threads has no float.
use Rattle.std.proofs.Common.{◌≡◌, Ordering, Less, Equal, Greater, Bool, true, false, List, [], ◌∷◌, map}
use Rattle.std.proofs.Common.{Option, Some, None, refl, ap, ◌∙◌}
use Rattle.std.specs.Prelude.{ℕ, ◌||◌}
use Rattle.std.specs.Ordering.{match_ordering, nat_cmp}
use Rattle.std.specs.Cmp.Lexicographic.{slice_cmp}
use Rattle.serde_json.specs.Data.{Data, Members, no_members, member, put, string}
use Rattle.serde_json.specs.View.{items_of}
use Rattle.serde_json.specs.Written.{has_float, items_have_float, members_have_float}
use Rattle.thread_registers.specs.declared.threads.Whose.{Whose}
use Rattle.thread_registers.specs.declared.threads.Whose.TheVariants.{Python, Other, Untold}
use Rattle.thread_registers.specs.Threads.{Named, ThreadShown}
use Rattle.thread_registers.specs.Trees.{registers_put, registers_tree, thread_tree, threads_tree, value_text}
use Rattle.thread_registers.specs.Trees.{whose_tree}

or_first : (a b : Bool) → (a || b) ≡ false → a ≡ false
or_first false b h = refl
or_first true b h = absurd (cc)

or_second : (a b : Bool) → (a || b) ≡ false → b ≡ false
or_second false b h = h
or_second true b h = absurd (cc)

-- a text is put among members
put_by : (o : Ordering) (k l text : List ℕ) (e : Data) (ms : Members) → members_have_float (member l e ms) ≡ false
    → members_have_float (put k (string text) ms) ≡ false
    → members_have_float (match_ordering o (member k (string text) (member l e ms)) (member l (string text) ms)
    (member l e (put k (string text) ms))) ≡ false
put_by Less k l text e ms whole later = whole
put_by Equal k l text e ms whole later = or_second (has_float e) (members_have_float ms) whole
put_by Greater k l text e ms whole later =
    ap (λ b. b || members_have_float (put k (string text) ms)) (or_first (has_float e) (members_have_float ms) whole)
    ∙ later

put_text : (k text : List ℕ) (ms : Members) → members_have_float ms ≡ false
    → members_have_float (put k (string text) ms) ≡ false
put_text k text no_members h = refl
put_text k text (member l e ms) h = put_by (slice_cmp nat_cmp k l) k l text e ms h
    (put_text k text ms (or_second (has_float e) (members_have_float ms) h))

registers_members : (rs : List Named) (ms : Members) → members_have_float ms ≡ false
    → members_have_float (registers_put rs ms) ≡ false
unfolding registers_put
registers_members [] ms h = h
registers_members (r ∷ rs) ms h = registers_members rs (put r.name (string (value_text r.value)) ms)
    (put_text r.name (value_text r.value) ms h)

registers : (rs : Option (List Named)) → has_float (registers_tree rs) ≡ false
registers (Some rs) = registers_members rs no_members refl
registers None = refl

whose : (w : Whose) → has_float (whose_tree w) ≡ false
whose (Python found) = refl
whose Other = refl
whose Untold = refl

thread : (t : ThreadShown) → has_float (thread_tree t) ≡ false
thread t = λ i. whose t.whose i || (registers t.registers i || (false || false))

pub no_float : (threads : List ThreadShown) → has_float (threads_tree threads) ≡ false
no_float [] = refl
no_float (t ∷ ts) = ap (λ b. b || items_have_float (items_of (map (λ x. thread_tree x) ts))) (thread t) ∙ no_float ts
