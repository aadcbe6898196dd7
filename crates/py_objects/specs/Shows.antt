-- How a value is shown: a rule over values and their parts, wherever these come from. It is this project's own.
use Rattle.std.specs.Prelude.{◌≡◌, ◌≤◌, ℕ, zero, suc, ℤ, pos, negsuc, ◌+◌, ◌-◌, nat_le, Bool, true, false, Option, Some}
use Rattle.std.specs.Prelude.{None, List, [], ◌∷◌, ◌++◌, length, Result, Ok, Err, if◌then◌else◌, codes, string_bytes}
use Rattle.std.specs.Prelude.{String, encode_utf8_all}
use Rattle.std.specs.Global.{Global}
use Rattle.process_memory.specs.Memory.{Found, Fault}
use Rattle.process_memory.specs.Memory.Fault.{Depth}
use Rattle.py_objects.specs.Shown.{Shown, ◌>>=◌, give, consult, visit}
use Rattle.py_objects.specs.ShownTexts.{dots, quoted}

-- what the parts of a list, a tuple or a dict stand in
pub data Brackets : Type 0 where
  Square : Brackets
  Round : Brackets
  Curly : Brackets

-- a value without its parts: a text that is shown whole; one that is shown in quotes; or so many parts, which
-- are found at a place
pub data Node (P : Type 0) : Type 0 where
  Whole : List ℕ → Node P
  Quoted : List ℕ → Node P
  Many : Brackets → ℕ → P → Node P

-- a part: an item, or a slot of a dict, which is empty or has a key and a value
pub data Child (V : Type 0) : Type 0 where
  Item : V → Child V
  Empty : Child V
  Entry : V → V → Child V

-- where values come from: what each is, and the part of a number at a place
pub record Source (V P : Type 0) : Type 0 where
  pub node : V → Found (Node P)
  pub child : P → ℕ → Found (Child V)

-- texts behind another one, each after a comma and a blank
unfoldable pub joined_after : List (List ℕ) → List ℕ
joined_after [] = []
joined_after (t ∷ ts) = codes ", " ++ t ++ joined_after ts

-- texts with commas between them
unfoldable pub joined : List (List ℕ) → List ℕ
joined [] = []
joined (t ∷ ts) = t ++ joined_after ts

-- the opening bracket
abbrev pub opening : Brackets → List ℕ
opening Square = codes "["
opening Round = codes "("
opening Curly = codes "{"

-- the closing bracket
abbrev pub closing : Brackets → List ℕ
closing Square = codes "]"
closing Round = codes ")"
closing Curly = codes "}"

-- what stands before a part: nothing before the first, else a comma and a blank
abbrev pub separator : Bool → List ℕ
separator true = []
separator false = codes ", "

-- texts in brackets, with a comma and a blank between them
unfoldable pub enclosed : Brackets → List (List ℕ) → List ℕ
enclosed b ts = opening b ++ joined ts ++ closing b

-- each slot of a dict that is looked at is a visit
unfoldable pub looked_at : Brackets → Shown (Unit {0})
looked_at Square = give tt
looked_at Round = give tt
looked_at Curly = visit

-- the text of a part, unless it is an empty slot; the parts after it have what is left of the width, its bytes
-- and 2 taken off, or where that is 5 or less it is replaced, and they are not looked at
unfoldable pub part_then : ℕ → (ℕ → Shown (List (List ℕ))) → Option (List ℕ) → Shown (List (List ℕ))
part_then w rest None = rest w
part_then w rest (Some t) = if nat_le (w - (length t + 2)) 5 then give (dots ∷ []) else do
  ts ← rest (w - (length t + 2))
  give (t ∷ ts)

-- the texts of `n` parts from the k-th on, within a width
unfoldable pub parts_at : (ℕ → ℕ → Shown (Option (List ℕ))) → ℕ → ℕ → ℕ → Shown (List (List ℕ))
parts_at part zero k w = give []
parts_at part (suc n) k w = do
  o ← part k w
  part_then w (λ left. parts_at part n (k + 1) left) o

-- a part, by the way in which values are shown: both values of an entry at the same width
unfoldable pub child_shown : {V : Type 0} → (ℕ → V → Shown (List ℕ)) → ℕ → Child V → Shown (Option (List ℕ))
child_shown show w (Item value) = do
  t ← show w value
  give (Some t)
child_shown show w Empty = give None
child_shown show w (Entry key value) = do
  t ← show w key
  u ← show w value
  give (Some (t ++ codes ": " ++ u))

-- the k-th part of a value
unfoldable pub part_at : {V P : Type 0} → Source V P → (ℕ → V → Shown (List ℕ)) → Brackets → P → ℕ → ℕ
    → Shown (Option (List ℕ))
part_at s show b parts k w = do
  u ← looked_at b
  child ← consult (s.child parts k)
  child_shown show w child

-- the parts of a value in their brackets
unfoldable pub parts_shown : {V P : Type 0} → Source V P → (ℕ → V → Shown (List ℕ)) → Brackets → ℕ → P → ℕ
    → Shown (List ℕ)
parts_shown s show b n parts w = do
  ts ← parts_at (part_at s show b parts) n 0 w
  give (enclosed b ts)

-- what a node shows as within so many characters
unfoldable pub node_shown : {V P : Type 0} → Source V P → (ℕ → V → Shown (List ℕ)) → ℕ → Node P → Shown (List ℕ)
node_shown s show w (Whole t) = give t
node_shown s show w (Quoted t) = give (quoted (w - 5) t)
node_shown s show w (Many b n parts) = parts_shown s show b n parts (w - 2)

-- a value at a width, where so many levels are left
unfoldable pub show_at : {V P : Type 0} → Source V P → ℕ → ℕ → V → Shown (List ℕ)
show_at s zero w a = if nat_le w 5 then give dots else do
  u ← visit
  (λ v. (Err Depth, v))
show_at s (suc levels) w a = if nat_le w 5 then give dots else do
  u ← visit
  node ← consult (s.node a)
  node_shown s (λ w2 a2. show_at s levels w2 a2) w node

-- the value `a` at a width, on a level from 1 on, with `before` visits counted, shows as `out`, its text or its
-- fault, and `after` visits are counted then
abbrev pub Shows : {V P : Type 0} → Source V P → V → ℕ → ℕ → ℕ → Found (List ℕ) → ℕ → Type 0
Shows s a width level before out after = show_at s (257 - level) width a before ≡ (out, after)

-- a fault that is told is the definition's; where none is told, at most its visits were made
abbrev pub FaultShows : {V P : Type 0} → Source V P → V → ℕ → ℕ → Option Fault → ℕ → Type 0
FaultShows s a width before None visits =
    (out : Found (List ℕ)) × (after : ℕ) × Shows s a width 1 before out after × (visits ≤ after)
FaultShows s a width before (Some f) visits = Shows s a width 1 before (Err f) visits

-- an answer and a count are what the value shows. Out of memory is free, and leaves a part of the visits
abbrev pub AnswerShows : {V P E : Type 0} → (E → Option Fault) → Source V P → V → ℕ → ℕ → Result (List ℕ) E → ℕ
    → Type 0
AnswerShows fault s a width before (Ok text) visits = Shows s a width 1 before (Ok text) visits
AnswerShows fault s a width before (Err e) visits = FaultShows s a width before (fault e) visits

-- no width is below 0
abbrev pub width_of : ℤ → ℕ
width_of (pos n) = n
width_of (negsuc n) = 0

-- a result with the bytes of its text
abbrev pub text_of : {E : Type 0} → Result (String Global) E → Result (List ℕ) E
text_of (Ok t) = Ok (string_bytes t)
text_of (Err e) = Err e

-- the bytes of a text, where there is one
abbrev pub maybe_of : Option (String Global) → Option (List ℕ)
maybe_of None = None
maybe_of (Some t) = Some (string_bytes t)

-- a result with the bytes of a text, where there is one
abbrev pub part_of : {E : Type 0} → Result (Option (String Global)) E → Result (Option (List ℕ)) E
part_of (Ok o) = Ok (maybe_of o)
part_of (Err e) = Err e

-- the bytes of a text of characters
abbrev pub bytes_shown : {E : Type 0} → Result (List ℕ) E → Result (List ℕ) E
bytes_shown (Ok cs) = Ok (encode_utf8_all cs)
bytes_shown (Err e) = Err e
