-- The numbers of rows, one after another.
use Rattle.std.proofs.Common.{◌≡◌, ℕ, ◌+◌, ◌*◌, ◌<◌, ◌≤◌, List, [], ◌∷◌, ◌++◌, length, drop, get_or, map, refl, ◌∙◌}
use Rattle.std.proofs.Common.{ap, arith}
use Rattle.std.proofs.Common.{append-nil}
use Rattle.std.specs.Prelude.{Option, Some, None, Ok, Err, ⊤}
use Rattle.std.proofs.lemmas.List.{drop_more, drop_all}
use Rattle.process_memory.specs.Memory.{Memory, Fault, ◌>>=◌}
use Rattle.process_memory.specs.Seen.{FaultIs, Reading, Reads, Seen}
use Rattle.process_memory.specs.Walk.{after_all}
use Rattle.process_memory.proofs.Reading.{reading_then, reading_gives, reading_none}
use Rattle.process_memory.proofs.Walks.{after_all_none, after_all_twice}
use Rattle.py_fields.specs.declared.layout.Layout.{Layout}
use Rattle.py_selftest.specs.declared.rows.Row.{Row}
use Rattle.py_selftest.specs.declared.telling.Telling.{Telling}
use Rattle.py_selftest.specs.Checking.{KeyShown, key_told, keys_from}
use Rattle.py_selftest.specs.Rows.{row_of}
use Rattle.py_selftest.specs.Telling.{row_told}

module _ (m : Memory) (l : Layout) (t : Telling) (rows : List Row) (number : ℕ) where
  keys_step : (none : Row) → number < length rows → (p : Option ℕ)
      → row_told m t (row_of (get_or rows number none)) ≡ Ok p
      → keys_from m l t (map row_of (drop number rows))
      ≡ after_all (key_told l t.release (row_of (get_or rows number none)) p ∷ [])
      (keys_from m l t (map row_of (drop (number + 1) rows)))
  unfolding keys_from
  keys_step none some p e = ap (λ rs. keys_from m l t (map row_of rs)) (drop_more rows number none some)
      ∙ rw e (elim (keys_from m l t (map row_of (drop (number + 1) rows)))
      as (λ d. (d >>= (λ rest. Ok (key_told l t.release (row_of (get_or rows number none)) p ∷ rest)))
      ≡ after_all (key_told l t.release (row_of (get_or rows number none)) p ∷ []) d)
      [ Ok rest ↦ refl | Err f ↦ refl ])

  keys_stop : (none : Row) → number < length rows → (f : Fault)
      → row_told m t (row_of (get_or rows number none)) ≡ Err f
      → keys_from m l t (map row_of (drop number rows)) ≡ Err f
  unfolding keys_from
  keys_stop none some f e = ap (λ rs. keys_from m l t (map row_of rs)) (drop_more rows number none some) ∙ rw e refl

  keys_end : length rows ≤ number → keys_from m l t (map row_of (drop number rows)) ≡ Ok []
  unfolding keys_from
  keys_end all = ap (λ rs. keys_from m l t (map row_of rs)) (drop_all number rows all)

-- these were told of the rows before a number
pub record TellingKeys (l : Layout) (t : Telling) (rows : List Row) (s0 s1 : Seen) (number : ℕ) (list : List KeyShown)
    : Type 0 where
  pub within : number ≤ length rows
  pub reading : Reading (1027 * number) s0 s1 (λ m. keys_from m l t (map row_of rows)
      ≡ after_all list (keys_from m l t (map row_of (drop number rows))))

pub telling_init : (l : Layout) (t : Telling) (rows : List Row) (seen : Seen) → TellingKeys l t rows seen seen 0 []
telling_init l t rows seen = record {
  within = omega arith;
  reading = reading_none 0 seen _ (λ m. after_all_none (keys_from m l t (map row_of rows)));
}

module _ {l : Layout} {t : Telling} {rows : List Row} {s0 s1 : Seen} {number : ℕ} {list : List KeyShown} where
  pub telling_more : {E : Type 0} {fault : E → Option Fault} {s2 : Seen} (none : Row) (p : Option ℕ)
      → TellingKeys l t rows s0 s1 number list → number < length rows
      → Reads {E = E} fault 1027 s1 s2 (λ m. row_told m t (row_of (get_or rows number none))) (Ok p)
      → TellingKeys l t rows s0 s2 (number + 1)
      (list ++ key_told l t.release (row_of (get_or rows number none)) p ∷ [])
  telling_more none p k some a =
      let key = key_told l t.release (row_of (get_or rows number none)) p in
      record {
        within = omega arith;
        reading = reading_gives _ _
            (reading_then (λ m. keys_from m l t (map row_of rows)
            ≡ after_all (list ++ key ∷ []) (keys_from m l t (map row_of (drop (number + 1) rows)))) k.reading a
            (λ m e x. e ∙ ap (after_all list) (keys_step m l t rows number none some p x.is)
            ∙ after_all_twice list (key ∷ []) (keys_from m l t (map row_of (drop (number + 1) rows)))))
            (omega arith) (λ m e. e);
      }

  pub telling_done : {E : Type 0} {fault : E → Option Fault} → TellingKeys l t rows s0 s1 number list
      → length rows ≤ number
      → Reads {E = E} fault (1027 * length rows) s0 s1 (λ m. keys_from m l t (map row_of rows)) (Ok list)
  telling_done k all = reading_gives _ _ k.reading (omega (arith, k.within))
      (λ m e. record {
        is = e ∙ ap (after_all list) (keys_end m l t rows number all) ∙ ap Ok (append-nil list);
      })

  pub telling_stop : {E E' : Type 0} {fault : E → Option Fault} {fault' : E' → Option Fault} {s2 : Seen} {e : E}
      (none : Row) (e' : E') → TellingKeys l t rows s0 s1 number list → number < length rows
      → Reads {T = Option ℕ} fault 1027 s1 s2 (λ m. row_told m t (row_of (get_or rows number none))) (Err e)
      → fault' e' ≡ fault e
      → Reads {T = List KeyShown} fault' (1027 * length rows) s0 s2 (λ m. keys_from m l t (map row_of rows)) (Err e')
  telling_stop {fault = fault} {e = e} none e' k some a same = reading_gives _ _
      (reading_then (λ m. FaultIs (keys_from m l t (map row_of rows)) (fault e)) k.reading a
      (λ m d x. elim (fault e) as (λ o. FaultIs (row_told m t (row_of (get_or rows number none))) o
      → FaultIs (keys_from m l t (map row_of rows)) o) [
        | None ↦ λ h. tt
        | Some f ↦ λ h. d ∙ ap (after_all list) (keys_stop m l t rows number none some f h)
      ] x.is))
      (omega (arith, k.within)) (λ m h. record { is = rw same h })

  pub telling_lost : {E E' : Type 0} {fault : E → Option Fault} {fault' : E' → Option Fault} {s2 : Seen} {p : Option ℕ}
      (none : Row) (e' : E') → TellingKeys l t rows s0 s1 number list → number < length rows
      → Reads {E = E} fault 1027 s1 s2 (λ m. row_told m t (row_of (get_or rows number none))) (Ok p) → fault' e' ≡ None
      → Reads {T = List KeyShown} fault' (1027 * length rows) s0 s2 (λ m. keys_from m l t (map row_of rows)) (Err e')
  telling_lost none e' k some a same =
      reading_gives _ _ (reading_then (λ m. ⊤) k.reading a (λ m d x. tt)) (omega (arith, k.within))
      (λ m h. record { is = rw same tt })
