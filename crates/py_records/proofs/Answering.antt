-- The one answer that is right for a text.
use Rattle.std.proofs.Common.{◌≡◌, ◌≢◌, ℕ, List, [], Option, Result, Ok, Err, Some, None, All, IsOk, IfOk, IfErr, ◌↔◌}
use Rattle.std.proofs.Common.{inl, inr, refl, sym, ap, ◌∙◌}
use Rattle.std.specs.Str.{chars}
use Rattle.toml.specs.Data.{Members}
use Rattle.py_records.specs.declared.error.RecordsError.{RecordsError}
use Rattle.py_records.specs.declared.error.RecordsError.TheVariants.{NotToml, Shape, Unsound, Clash, OutOfMemory}
use Rattle.py_records.specs.declared.table.RecordTable.{RecordTable}
use Rattle.py_records.specs.Table.{IsSoundTable}
use Rattle.py_records.specs.Lists.{AreSound, IsFirstUnsound, IsFirstClash, IsOfList}
use Rattle.py_records.specs.Keys.{the_keys}
use Rattle.elf64_core.specs.Outcomes.{IsUnless}
use Rattle.py_records.specs.File.{IsToml, FileSays, HasFlaw, HasUnsound, HasClash, HasTables, IsErrorFor, IsRightFor}
use Rattle.py_records.specs.File.{IsOfText, file_flaw, tables_of}
use Rattle.py_records.proofs.Judging.{unsound-not_all, unsound-unique, clash-not_apart, clash-unique}

abbrev refused : RecordsError → Result (List RecordTable) RecordsError
refused error = Err error

toml-unique : (text : List ℕ) (a b : Members) → IsToml text a → IsToml text b → a ≡ b
toml-unique text a b one other = let both : Some a ≡ Some b = sym one.document ∙ other.document in cc

abbrev no_flaw : Option (ℕ × List ℕ)
no_flaw = None

says-unique : (text : List ℕ) (l m : List RecordTable) → FileSays text l → FileSays text m → l ≡ m
says-unique text l m one other =
    one.says ∙ ap tables_of (toml-unique text one.members other.members one.toml other.toml) ∙ sym other.says

abbrev flaw_at : ℕ → List ℕ → Option (ℕ × List ℕ)
flaw_at n name = Some (n, name)

abbrev number_of : Option (ℕ × List ℕ) → ℕ
number_of None = 0
number_of (Some f) = f.0

abbrev name_of : Option (ℕ × List ℕ) → List ℕ
name_of None = []
name_of (Some f) = f.1

says-no_flaw : (text : List ℕ) (l : List RecordTable) (n : ℕ) (key : List ℕ) → FileSays text l → HasFlaw text n key → ⊥
says-no_flaw text l n key says bad =
    let both : no_flaw ≡ flaw_at n bad.name =
    sym says.whole ∙ ap (file_flaw the_keys) (toml-unique text says.members bad.members says.toml bad.toml)
    ∙ bad.flaw in
    cc

flaw-unique : (text : List ℕ) (n p : ℕ) (key name : List ℕ) → HasFlaw text n key → HasFlaw text p name
    → refused (Shape n key) ≡ refused (Shape p name)
flaw-unique text n p key name one other =
    let both : flaw_at n one.name ≡ flaw_at p other.name =
    sym one.flaw ∙ ap (file_flaw the_keys) (toml-unique text one.members other.members one.toml other.toml)
    ∙ other.flaw in
    let number : n ≡ p = ap number_of both in
    let named : key ≡ name = one.named ∙ ap chars (ap name_of both) ∙ sym other.named in
    ap (λ k. refused (Shape k key)) number ∙ ap (λ k. refused (Shape p k)) named

sound-not_unsound : (text : List ℕ) (l : List RecordTable) (n : ℕ) → HasTables text l → HasUnsound text n → ⊥
sound-not_unsound text l n good bad =
    unsound-not_all _ _ bad.unsound (rw (says-unique text l bad.list good.says bad.says) at good.sound.each)

sound-no_clash : (text : List ℕ) (l : List RecordTable) (i j : ℕ) → HasTables text l → HasClash text i j → ⊥
sound-no_clash text l i j good bad =
    clash-not_apart _ _ _ bad.clash.clash (rw (says-unique text l bad.list good.says bad.says) at good.sound.apart)

unsound-no_clash : (text : List ℕ) (n i j : ℕ) → HasUnsound text n → HasClash text i j → ⊥
unsound-no_clash text n i j one other =
    unsound-not_all _ _ one.unsound (rw (says-unique text other.list one.list other.says one.says) at other.sound)

same_unsound : (text : List ℕ) (n p : ℕ) → HasUnsound text n → HasUnsound text p → n ≡ p
same_unsound text n p one other =
    unsound-unique _ _ _ one.unsound (rw (says-unique text other.list one.list other.says one.says) at other.unsound)

same_clash : (text : List ℕ) (i j x y : ℕ) → HasClash text i j → HasClash text x y
    → refused (Clash i j) ≡ refused (Clash x y)
same_clash text i j x y one other =
    let same = clash-unique _ _ _ _ _ one.clash (rw (says-unique text other.list one.list other.says one.says) at
    other.clash) in
    rw (same.0, same.1) refl

-- any right answer is the result, unless memory ran out
pub right-unique : (text : List ℕ) (result answer : Result (List RecordTable) RecordsError) → IsRightFor text result
    → IsRightFor text answer → answer ≢ Err OutOfMemory → IsUnless OutOfMemory answer result
right-unique text (Ok l) (Ok m) h g ne = inl (ap Ok (says-unique text l m h.says g.says))
right-unique text (Ok l) (Err NotToml) h g ne = absurd (g (h.says.members, h.says.toml))
right-unique text (Ok l) (Err (Shape p name)) h g ne = absurd (says-no_flaw text l p name h.says g)
right-unique text (Ok l) (Err (Unsound p)) h g ne = absurd (sound-not_unsound text l p h g)
right-unique text (Ok l) (Err (Clash x y)) h g ne = absurd (sound-no_clash text l x y h g)
right-unique text (Ok l) (Err OutOfMemory) h g ne = absurd (ne refl)
right-unique text (Err NotToml) (Ok m) h g ne = absurd (h (g.says.members, g.says.toml))
right-unique text (Err NotToml) (Err NotToml) h g ne = inl refl
right-unique text (Err NotToml) (Err (Shape p name)) h g ne = absurd (h (g.members, g.toml))
right-unique text (Err NotToml) (Err (Unsound p)) h g ne = absurd (h (g.says.members, g.says.toml))
right-unique text (Err NotToml) (Err (Clash x y)) h g ne = absurd (h (g.says.members, g.says.toml))
right-unique text (Err NotToml) (Err OutOfMemory) h g ne = absurd (ne refl)
right-unique text (Err (Shape n key)) (Ok m) h g ne = absurd (says-no_flaw text m n key g.says h)
right-unique text (Err (Shape n key)) (Err NotToml) h g ne = absurd (g (h.members, h.toml))
right-unique text (Err (Shape n key)) (Err (Shape p name)) h g ne = inl (flaw-unique text n p key name h g)
right-unique text (Err (Shape n key)) (Err (Unsound p)) h g ne = absurd (says-no_flaw text g.list n key g.says h)
right-unique text (Err (Shape n key)) (Err (Clash x y)) h g ne = absurd (says-no_flaw text g.list n key g.says h)
right-unique text (Err (Shape n key)) (Err OutOfMemory) h g ne = absurd (ne refl)
right-unique text (Err (Unsound n)) (Ok m) h g ne = absurd (sound-not_unsound text m n g h)
right-unique text (Err (Unsound n)) (Err NotToml) h g ne = absurd (g (h.says.members, h.says.toml))
right-unique text (Err (Unsound n)) (Err (Shape p name)) h g ne = absurd (says-no_flaw text h.list p name h.says g)
right-unique text (Err (Unsound n)) (Err (Unsound p)) h g ne = inl
    (ap (λ k. Err (Unsound k)) (same_unsound text n p h g))
right-unique text (Err (Unsound n)) (Err (Clash x y)) h g ne = absurd (unsound-no_clash text n x y h g)
right-unique text (Err (Unsound n)) (Err OutOfMemory) h g ne = absurd (ne refl)
right-unique text (Err (Clash i j)) (Ok m) h g ne = absurd (sound-no_clash text m i j g h)
right-unique text (Err (Clash i j)) (Err NotToml) h g ne = absurd (g (h.says.members, h.says.toml))
right-unique text (Err (Clash i j)) (Err (Shape p name)) h g ne = absurd (says-no_flaw text h.list p name h.says g)
right-unique text (Err (Clash i j)) (Err (Unsound p)) h g ne = absurd (unsound-no_clash text p i j g h)
right-unique text (Err (Clash i j)) (Err (Clash x y)) h g ne = inl (same_clash text i j x y h g)
right-unique text (Err (Clash i j)) (Err OutOfMemory) h g ne = absurd (ne refl)
right-unique text (Err OutOfMemory) answer h g ne = inr refl

-- an error of the reader is right
pub right-error : (text : List ℕ) (error : RecordsError) → IsOfText text error → IsErrorFor text error
right-error text NotToml h = h
right-error text (Shape n key) h = h
right-error text (Unsound n) h = absurd h
right-error text (Clash i j) h = absurd h
right-error text OutOfMemory h = tt

-- and so is what is made of the tables that the file says
pub right-made : (text : List ℕ) (list : List RecordTable) (result : Result (List RecordTable) RecordsError)
    → FileSays text list
    → IfOk result (λ tables. tables ≡ list) → (IsOk result ↔ AreSound list)
    → ((table : ℕ) → (result ≡ Err (Unsound table)) ↔ IsFirstUnsound list table)
    → ((first second : ℕ) → (result ≡ Err (Clash first second)) ↔
    (All IsSoundTable list × IsFirstClash list first second))
    → IfErr result IsOfList → IsRightFor text result
right-made text list (Ok l) says value ok unsound clash errors =
    rw value (record { says = says; sound = ok.0 refl })
right-made text list (Err NotToml) says value ok unsound clash errors = absurd errors
right-made text list (Err (Shape n key)) says value ok unsound clash errors = absurd errors
right-made text list (Err (Unsound n)) says value ok unsound clash errors =
    record { list = list; says = says; unsound = (unsound n).0 refl }
right-made text list (Err (Clash i j)) says value ok unsound clash errors =
    let found = (clash i j).0 refl in
    record { list = list; says = says; sound = found.0; clash = found.1 }
right-made text list (Err OutOfMemory) says value ok unsound clash errors = absurd errors
