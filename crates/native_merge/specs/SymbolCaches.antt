-- What a cache of native addresses holds.
use Rattle.std.specs.Prelude.{◌≡◌, ◌⊎◌, ℕ, nat_eq, Bool, List, [], ◌∷◌, Contains, option_map, Option, Result, Ok, Err}
use Rattle.std.specs.Prelude.{Vec}
use Rattle.std.specs.Global.{Global}
use Rattle.lru.specs.LruCache.{LruCache, lru_cache, promoted, put_entries}
use Rattle.native_merge.specs.declared.native_frame.NativeFrame.{NativeFrame}
use Rattle.native_merge.specs.declared.symbol_fault.SymbolFault.{SymbolFault}
use Rattle.native_merge.specs.declared.symbol_fault.SymbolFault.TheVariants.{OutOfMemory}
use Rattle.native_merge.specs.Symbols.{SymbolsSeen, IsAsTold}

-- what is answered for an address
abbrev pub Answer : Type 0
Answer = Result (List NativeFrame) SymbolFault

-- an answer with its frames as a list
abbrev pub answer_listed : Result (Vec NativeFrame Global) SymbolFault → Answer
answer_listed (Ok v) = Ok v.items
answer_listed (Err e) = Err e

-- a frame for each of some addresses, the newest first
abbrev pub HeldFrames : Type 0
HeldFrames = LruCache ℕ NativeFrame

-- a frame is kept under an address, or nothing is
abbrev pub MayKeep : HeldFrames → HeldFrames → ℕ → NativeFrame → Type 0
MayKeep old new addr f = (new ≡ old) ⊎ (new ≡ lru_cache (put_entries nat_eq old addr f) old.cap)

-- what is held for an address is the one frame that is told for it, with lines or without
pub record AreKnown (seen : SymbolsSeen) (lines : ℕ → Bool) (held : HeldFrames) : Type 0 where
  pub each : (addr : ℕ) (f : NativeFrame) → Contains held.entries (addr, f) → IsAsTold seen addr (lines addr) (f ∷ [])

-- the answer for an address that is held: the frame, or there was no memory
abbrev pub IsHeldAnswer : NativeFrame → Answer → Type 0
IsHeldAnswer f (Ok fs) = fs ≡ f ∷ []
IsHeldAnswer f (Err e) = e ≡ OutOfMemory

-- one frame as the whole answer
abbrev pub alone : NativeFrame → List NativeFrame
alone f = f ∷ []

-- the frames as a list, where there are some
abbrev pub frames_of : Option (Vec NativeFrame Global) → Option (List NativeFrame)
frames_of o = option_map (λ (v : Vec NativeFrame Global). v.items) o

-- what an answer leaves of a cache: what it held, the address perhaps as the newest, or one frame that was the whole
-- answer besides
abbrev pub IsAfter : HeldFrames → HeldFrames → ℕ → Answer → Type 0
IsAfter old new addr answer = (new ≡ old) ⊎ (new ≡ lru_cache (promoted (nat_eq addr) old.entries) old.cap)
    ⊎ ((f : NativeFrame) × (answer ≡ Ok (f ∷ [])) × (new ≡ lru_cache (put_entries nat_eq old addr f) old.cap))

-- an answer is what is told for an address; an error tells nothing
abbrev pub IsToldAnswer : SymbolsSeen → ℕ → Bool → Answer → Type 0
IsToldAnswer seen addr lines (Ok fs) = IsAsTold seen addr lines fs
IsToldAnswer seen addr lines (Err e) = Unit {0}
