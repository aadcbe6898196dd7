-- The files that a process had mapped are one answer alone, by what their mappings show.
use Rattle.std.proofs.Common.{◌≡◌, ◌∙◌, ℕ, ◌+◌, ◌<◌, ◌≤◌, Bool, true, false, List, [], ◌∷◌, ◌++◌, length, drop, take, map}
use Rattle.std.proofs.Common.{refl, sym, ap, subst, arith, inl, inr}
use Rattle.std.specs.Prelude.{Option, Some, None, slice_range}
use Rattle.std.proofs.Common.{◌⊎◌}
use Rattle.std.proofs.lemmas.Bool.{cases_lt}
use Rattle.elf64_core.specs.Notes.{Noted}
use Rattle.image_memory.specs.FileTables.{IsFirstName, NamesThen, names_start}
use Rattle.image_memory.specs.Images.{Pushed}
use Rattle.image_memory.specs.Notes.{is_table}
use Rattle.image_memory.specs.Pieces.{core_ranges}
use Rattle.piece_table.specs.Places.{IsRun}
use Rattle.piece_table.specs.declared.table.FileRange.{FileRange}
use Rattle.core_unwind.specs.declared.place.Mapping.{Mapping}
use Rattle.native_frames.specs.Mapped.{AreMapped, mapping_shown, mappings_from, names_of, vdso_mappings}
use Rattle.native_frames.specs.Mapped.{vdso_names}
use Rattle.native_frames.specs.Tables.{IsRowTable, Row, RowsNext, RowsSay, rows_from}
use Rattle.native_frames.specs.Vdsos.{IsVdsoFor, IsVdsoOf, vdso_base}

-- ---- file tables

same_some : (a b : ℕ) → Some a ≡ Some b → a ≡ b
same_some a b e = cc

first_once : (bytes m n a b : List ℕ) → IsFirstName bytes m a → IsFirstName bytes n b → (m ≡ n) × (a ≡ b)
first_once bytes m n a b h k =
    let same : h.size ≡ k.size = same_some h.size k.size (sym h.ends ∙ k.ends) in (
      h.name_is ∙ ap (λ size. take size bytes) same ∙ sym k.name_is,
      h.rest_is ∙ ap (λ size. drop (size + 1) bytes) same ∙ sym k.rest_is,
    )

names_once : (bytes : List ℕ) (ms ns : List (List ℕ)) (rest end : List ℕ) → NamesThen bytes ms rest
    → NamesThen bytes ns end → length ms ≡ length ns → ms ≡ ns
names_once bytes [] [] rest end h k same = refl
names_once bytes [] (n ∷ ns) rest end h k same = absurd (omega (arith, same))
names_once bytes (m ∷ ms) [] rest end h k same = absurd (omega (arith, same))
names_once bytes (m ∷ ms) (n ∷ ns) rest end h k count =
    let same = first_once bytes m n h.0 k.0 h.1 k.1 in
    let names : ms ≡ ns = names_once h.0 ms ns rest end h.2 (subst (λ bs. NamesThen bs ns end) (sym same.1) k.2)
    (omega (arith, count)) in
    ap (λ x. x ∷ ms) same.0 ∙ ap (λ xs. n ∷ xs) names

table_once : (table : List ℕ) (x y : List Row) → IsRowTable table x → IsRowTable table y → x ≡ y
table_once table x y h k =
    let count : length k.names ≡ length h.names = sym k.count ∙ h.count in
    let named = subst (λ n. NamesThen (drop (names_start n) table) k.names k.rest) count k.named in
    let names : h.names ≡ k.names = names_once _ h.names k.names h.rest k.rest h.named named (sym count) in
    h.says ∙ ap (rows_from table 0) names ∙ sym k.says

next_once : (is_table : Bool) (desc : List ℕ) (notes : List Noted) (x y : List Row)
    → ((u v : List Row) → RowsSay notes u → RowsSay notes v → u ≡ v) → RowsNext is_table desc (RowsSay notes) x
    → RowsNext is_table desc (RowsSay notes) y → x ≡ y
next_once false desc notes x y rest h k = rest x y h k
next_once true desc notes x y rest h k =
    h.4 ∙ ap (λ (o : List Row). o ++ h.1) (table_once desc h.0 k.0 h.2 k.2)
    ∙ ap (λ (o : List Row). k.0 ++ o) (rest h.1 k.1 h.3 k.3) ∙ sym k.4

rows_once : (notes : List Noted) (x y : List Row) → RowsSay notes x → RowsSay notes y → x ≡ y
unfolding RowsSay
rows_once [] x y h k = h ∙ sym k
rows_once (note ∷ notes) x y h k =
    next_once (is_table note) note.desc notes x y (λ u v p q. rows_once notes u v p q) h k

-- ---- the vdso

pair_start : (a b c d : ℕ) → ◌≡◌ {A = Option (ℕ × ℕ)} (Some (a, b)) (Some (c, d)) → b ≡ d
pair_start a b c d e = same_some b d (ap snd e)
  where
    snd : Option (ℕ × ℕ) → Option ℕ
    snd None = None
    snd (Some p) = Some p.1

module _ (ranges : List FileRange) (addr most : ℕ) where
  start_once : (a b x y : ℕ) → IsRun ranges addr most 0 a x → IsRun ranges addr most 0 b y → a ≡ b
  start_once a b x y h k =
      let same : a + 0 ≡ b + 0 = pair_start 0 (a + 0) 0 (b + 0) (sym (h.each 0 h.some) ∙ k.each 0 k.some) in
      omega (arith, same)

  no_shorter : (a x y : ℕ) → IsRun ranges addr most 0 a x → IsRun ranges addr most 0 a y → x < y → ⊥
  no_shorter a x y h k less = h.longest (omega (arith, less, k.short)) (k.each x less)

  size_once : (a x y : ℕ) → IsRun ranges addr most 0 a x → IsRun ranges addr most 0 a y → x ≡ y
  size_once a x y h k = by (cases_lt x y) (cases_lt y x)
    where
      by : (x < y) ⊎ (y ≤ x) → (y < x) ⊎ (x ≤ y) → x ≡ y
      by (inl less) q = absurd (no_shorter a x y h k less)
      by (inr p) (inl less) = absurd (no_shorter a y x k h less)
      by (inr p) (inr q) = omega (arith, p, q)

pub run_none : {A : Type 0} (bytes : A) → ◌≡◌ {A = Option A} (Some bytes) None → ⊥
run_none bytes e = cc

vdso_at : (core : List ℕ) (base : ℕ) (x y : Option (ℕ × List ℕ)) → IsVdsoOf core base x → IsVdsoOf core base y → x ≡ y
vdso_at core base None None h k = refl
vdso_at core base None (Some v) h k = absurd (k.4 h)
vdso_at core base (Some v) None h k = absurd (h.4 k)
vdso_at core base (Some v) (Some w) h k =
    let starts : h.1 ≡ k.1 = start_once (core_ranges core) base 65536 h.1 k.1 (length v.1) (length w.1) h.2 k.2 in
    let run = subst (λ (s : ℕ). IsRun (core_ranges core) base 65536 0 s (length v.1)) starts h.2 in
    let sizes : length v.1 ≡ length w.1 =
    size_once (core_ranges core) base 65536 k.1 (length v.1) (length w.1) run k.2 in
    let bytes : v.1 ≡ w.1 = h.3 ∙ ap (λ (s : ℕ). slice_range core s (s + length v.1)) starts
    ∙ ap (λ (n : ℕ). slice_range core k.1 (k.1 + n)) sizes ∙ sym k.3 in
    ap (λ (b : ℕ). Some (b, v.1)) (h.0 ∙ sym k.0) ∙ ap (λ (bs : List ℕ). Some (w.0, bs)) bytes

vdso_for : (core : List ℕ) (base : Option ℕ) (x y : Option (ℕ × List ℕ)) → IsVdsoFor core base x → IsVdsoFor core base y
    → x ≡ y
vdso_for core None x y h k = h ∙ sym k
vdso_for core (Some base) x y h k = vdso_at core base x y h k

-- ---- the files

pub mapped_once : (core : List ℕ) (notes : List Noted) (images : Pushed) (fs gs : List (List ℕ)) (ms ns : List Mapping)
    → AreMapped core notes images fs ms → AreMapped core notes images gs ns
    → (fs ≡ gs) × (map mapping_shown ms ≡ map mapping_shown ns)
mapped_once core notes images fs gs ms ns h k =
    let rows : h.rows ≡ k.rows = rows_once notes h.rows k.rows h.rows_say k.rows_say in
    let vdso : h.vdso ≡ k.vdso = vdso_for core (vdso_base notes) h.vdso k.vdso h.is_vdso k.is_vdso in (
      h.names ∙ ap (λ (rs : List Row). names_of rs ++ vdso_names h.vdso) rows
          ∙ ap (λ (v : Option (ℕ × List ℕ)). names_of k.rows ++ vdso_names v) vdso ∙ sym k.names,
      h.mapped ∙ ap (λ (rs : List Row). mappings_from images 0 rs ++ vdso_mappings (length rs) h.vdso) rows
          ∙ ap (λ (v : Option (ℕ × List ℕ)). mappings_from images 0 k.rows ++ vdso_mappings (length k.rows) v) vdso
          ∙ sym k.mapped,
    )
