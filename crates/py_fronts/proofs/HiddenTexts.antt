-- Texts under which no frame is shown: their length is 0, or the 6 units of `<shim>`.
use Rattle.std.proofs.Common.{◌≡◌, ◌≢◌, ℕ, zero, suc, ◌+◌, ◌*◌, ◌≤◌, Bool, true, false, List, [], length, refl, sym}
use Rattle.std.proofs.Common.{ap, ◌∙◌, ◌⊎◌, inl, inr, rules, arith}
use Rattle.std.specs.Prelude.{Ok, Err, encode_utf8_all, codes, ◌||◌}
use Rattle.std.specs.Str.{IsAscii, bytes_eq}
use Rattle.std.proofs.lemmas.Slice.Eq.{bytes_eq-Decides}
use Rattle.std.proofs.lemmas.Str.{encodes_same, encodes-IsAscii}
use Rattle.elf64_core.specs.Fields.{u64_in}
use Rattle.process_memory.specs.Memory.{Fault, Found, Memory, Region, byte_at, record_at, word_at}
use Rattle.process_memory.specs.Seen.{Answers}
use Rattle.process_memory.proofs.Founds.{ok_same}
use Rattle.process_memory.proofs.Records.{Within, record_length}
use Rattle.py_fields.specs.Sound.{IsSound}
use Rattle.py_fields.specs.declared.layout.Layout.{Layout}
use Rattle.py_fields.proofs.Fields.{string_fits}
use Rattle.py_builtins.specs.declared.coding.TextKind.{TextKind}
use Rattle.py_builtins.specs.declared.coding.TextKind.TheVariants.{Utf8, Latin1, Utf16, Utf32}
use Rattle.py_builtins.specs.declared.error.ObjectError.{ObjectError}
use Rattle.py_builtins.specs.declared.error.ObjectError.TheVariants.{TooLong, Unreadable, NoText, BadDict, BadType}
use Rattle.py_builtins.specs.declared.error.ObjectError.TheVariants.{Visits, Depth, BadCount, BadBool, OutOfMemory}
use Rattle.py_builtins.specs.ObjectError.{object_fault}
use Rattle.py_builtins.specs.TextKind.{coded, width}
use Rattle.py_builtins.specs.Texts.{HasCharacters, text_at}
use Rattle.py_builtins.proofs.Texts.{text_read}
use Rattle.py_stacks.specs.Frames.{is_hidden}
use Rattle.py_fronts.specs.Members.{hides}
use Rattle.py_fronts.proofs.RecordWords.{field_below, word_in_record}

shim_ascii : IsAscii (codes "<shim>")
shim_ascii = search rules

one_of : (x y : Bool) → (x || y) ≡ true → (x ≡ true) ⊎ (y ≡ true)
one_of true y e = inl refl
one_of false y e = inr e

hidden_is : (file : List ℕ) → is_hidden file ≡ true → (file ≡ []) ⊎ (file ≡ codes "<shim>")
unfolding is_hidden
hidden_is file e =
    let bytes : List ℕ = encode_utf8_all file in
    elim (one_of (bytes_eq bytes []) (bytes_eq bytes (codes "<shim>")) e) [
      | inl none ↦ inl (encodes_same file [] ((bytes_eq-Decides bytes []).0 none))
      | inr shim ↦ inr (encodes_same file (codes "<shim>") ((bytes_eq-Decides bytes (codes "<shim>")).0 shim
          ∙ sym (encodes-IsAscii (codes "<shim>") shim_ascii)))
    ]

coded_shim : (k : TextKind) → length (coded k (codes "<shim>")) ≡ 6 * width k
unfolding coded
coded_shim Utf8 = ap length (encodes-IsAscii (codes "<shim>") shim_ascii)
coded_shim Latin1 = refl
coded_shim Utf16 = refl
coded_shim Utf32 = refl

coded_none : (k : TextKind) → length (coded k []) ≡ 0
unfolding coded
coded_none Utf8 = refl
coded_none Latin1 = refl
coded_none Utf16 = refl
coded_none Utf32 = refl

six_units : (k : TextKind) (n : ℕ) → n * width k ≡ 6 * width k → n ≡ 6
six_units Utf8 n e = omega (arith, e)
six_units Latin1 n e = omega (arith, e)
six_units Utf16 n e = omega (arith, e)
six_units Utf32 n e = omega (arith, e)

no_units : (k : TextKind) (n : ℕ) → n * width k ≡ 0 → n ≡ 0
no_units Utf8 n e = omega (arith, e)
no_units Latin1 n e = omega (arith, e)
no_units Utf16 n e = omega (arith, e)
no_units Utf32 n e = omega (arith, e)

units_of : (l : Layout) (m : Memory) (a : ℕ) (object : List ℕ) (n : ℕ) (file : List ℕ)
    → HasCharacters l m a object n file → (file ≡ []) ⊎ (file ≡ codes "<shim>") → (n ≡ 0) ⊎ (n ≡ 6)
units_of l m a object zero file h which = inl refl
units_of l m a object (suc n) file (short, p, is, stands) which =
    let long = record_length m p.at (suc n * width p.kind) stands.units stands.there in
    let bytes : suc n * width p.kind ≡ length (coded p.kind file) = sym long ∙ ap length (sym stands.coding.is) in
    elim which [
      | inl none ↦ inl (no_units p.kind (suc n) (bytes ∙ ap (λ cs. length (coded p.kind cs)) none ∙ coded_none p.kind))
      | inr shim ↦ inr (six_units p.kind (suc n) (bytes ∙ ap (λ cs. length (coded p.kind cs)) shim ∙ coded_shim p.kind))
    ]

-- the record of a text under which no frame is shown is in memory, and says that it has no units, or 6
pub hidden_units : (l : Layout) (m : Memory) (a : ℕ) (file : List ℕ) → text_at l m a ≡ Ok file → is_hidden file ≡ true
    → (object : List ℕ) × (record_at m a l.string.size ≡ Ok object)
    × ((u64_in object l.string.length ≡ 0) ⊎ (u64_in object l.string.length ≡ 6))
hidden_units l m a file e hidden =
    let t = text_read l m a file e in (
      t.object,
      t.there,
      units_of l m a t.object (u64_in t.object l.string.length) file t.characters (hidden_is file hidden),
    )

-- a text that can't be read hides nothing
pub not_hidden : (d : Found (List ℕ)) (e : ObjectError) → e ≢ OutOfMemory → Answers {T = List ℕ} object_fault d (Err e) → false ≡ hides d
not_hidden d (Unreadable a n) some h = rw h.is refl
not_hidden d NoText some h = rw h.is refl
not_hidden d (TooLong n) some h = rw h.is refl
not_hidden d BadDict some h = rw h.is refl
not_hidden d BadType some h = rw h.is refl
not_hidden d Visits some h = rw h.is refl
not_hidden d Depth some h = rw h.is refl
not_hidden d (BadCount n) some h = rw h.is refl
not_hidden d (BadBool b) some h = rw h.is refl
not_hidden d OutOfMemory some h = absurd (some refl)

-- the word that holds a text's length, where no frame is shown under the text
module _ {l : Layout} {m : Memory} (ps : List Region) (a : ℕ) (sound : IsSound l) (within : Within m (byte_at ps)) where
  hidden_length : (file : List ℕ) → text_at l m a ≡ Ok file → is_hidden file ≡ true
      → (word_at m (a + l.string.length) ≡ Ok 0) ⊎ (word_at m (a + l.string.length) ≡ Ok 6)
  hidden_length file e hidden =
      let h = hidden_units l m a file e hidden in
      let fits : l.string.length + 8 ≤ l.string.size = (string_fits sound).length in
      let below = field_below ps m a l.string.size l.string.length h.0 within h.1 (omega (arith, fits)) in
      let word = word_in_record m a l.string.size l.string.length h.0 h.1 fits below in
      elim h.2 [ inl none ↦ inl (word ∙ ap Ok none) | inr six ↦ inr (word ∙ ap Ok six) ]

  hides_none : (word_at m (a + l.string.length) ≢ Ok 0) → (word_at m (a + l.string.length) ≢ Ok 6)
      → false ≡ hides (text_at l m a)
  hides_none some other = by_text (text_at l m a) refl
    where
      by_file : (file : List ℕ) (hidden : Bool) → text_at l m a ≡ Ok file → is_hidden file ≡ hidden → false ≡ hidden
      by_file file true e h = absurd (elim (hidden_length file e h) [ inl z ↦ some z | inr six ↦ other six ])
      by_file file false e h = refl

      by_text : (d : Found (List ℕ)) → text_at l m a ≡ d → false ≡ hides d
      by_text (Ok file) e = by_file file (is_hidden file) e refl
      by_text (Err f) e = refl

  -- a text of another length hides nothing
  pub hides_no_other : (n : ℕ) → word_at m (a + l.string.length) ≡ Ok n → n ≢ 0 → n ≢ 6 → false ≡ hides (text_at l m a)
  hides_no_other n e some other =
      hides_none (λ z. some (ok_same n 0 (sym e ∙ z))) (λ z. other (ok_same n 6 (sym e ∙ z)))

  -- nor does one whose length is not in memory
  pub hides_no_lost : (f : Fault) → word_at m (a + l.string.length) ≡ Err f → false ≡ hides (text_at l m a)
  hides_no_lost f e = hides_none (not_both 0) (not_both 6)
    where
      not_both : (n : ℕ) → word_at m (a + l.string.length) ≢ Ok n
      not_both n z = let both : word_at m (a + l.string.length) ≡ Ok n = z in absurd (cc)
