-- What the newest frames of a thread hold: words from the place of a frame's first variable on, which are its variables
-- and then what stands on its stack (`localsplus`, Include/internal/pycore_frame.h; `f_localsplus`,
-- Include/frameobject.h up to 3.10). How many frames and words are looked at is this project's own.
use Rattle.std.specs.Prelude.{ℕ, zero, suc, ◌+◌, ◌*◌, Option, Some, None, Ok}
use Rattle.process_memory.specs.Memory.{Memory, Found, ◌>>=◌}
use Rattle.py_fields.specs.declared.layout.CframeAt.{CframeAt}
use Rattle.py_fields.specs.declared.layout.Layout.{Layout}
use Rattle.py_waits.specs.declared.objects.Waited.{Waited}
use Rattle.py_waits.specs.declared.places.WaitPlaces.{WaitPlaces}
use Rattle.py_waits.specs.Objects.{slot_step}
use Rattle.py_waits.specs.Words.{word_in}

-- the newest frame: what a thread names, or what the `_PyCFrame` there names; none where that isn't in memory
abbrev pub current_at : Memory → Option CframeAt → Option ℕ → Found (Option ℕ)
current_at m None named = Ok named
current_at m (Some cframe) named = word_in m named cframe.current

-- the newest frame of a thread
unfoldable pub newest_at : Layout → Memory → ℕ → Found (Option ℕ)
newest_at l m thread = do
  named ← word_in m (Some thread) l.thread.frame
  current_at m l.cframe named

-- the first one that `n` words of a frame lead to, from a number on, where none was found before
unfoldable pub slots_from : Layout → Memory → WaitPlaces → (at : ℕ) → Option ℕ → (n number : ℕ) → Option Waited
    → Found (Option Waited)
slots_from l m p at frame zero number found = Ok found
slots_from l m p at frame (suc n) number found = do
  next ← slot_step m p at frame (l.frame.locals + 8 * number) found
  slots_from l m p at frame n (number + 1) next

-- the first object that the first 128 words of a frame lead to, where none was found before
abbrev pub in_frame : Layout → Memory → WaitPlaces → (at : ℕ) → Option ℕ → Option Waited → Found (Option Waited)
in_frame l m p at frame found = slots_from l m p at frame 128 0 found

-- among what the three newest frames of a thread hold
unfoldable pub searched_at : Layout → Memory → WaitPlaces → (thread at : ℕ) → Option Waited → Found (Option Waited)
searched_at l m p thread at before = do
  first ← newest_at l m thread
  one ← in_frame l m p at first before
  second ← word_in m first l.frame.back
  two ← in_frame l m p at second one
  third ← word_in m second l.frame.back
  in_frame l m p at third two
