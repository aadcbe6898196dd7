-- File tables: the names and entries so far, and that bytes are a table of one list of entries at most.
use Rattle.std.proofs.Common.{◌≡◌, ℕ, ◌+◌, ◌<◌, List, [], ◌∷◌, ◌++◌, length, take, drop, Some, None, Option, refl, sym}
use Rattle.std.proofs.Common.{ap, subst, ◌∙◌, arith, add-zero, append_assoc}
use Rattle.std.specs.Prelude.{position}
use Rattle.std.proofs.lemmas.List.{append-nil}
use Rattle.elf64_core.specs.Fields.{u64_in}
use Rattle.elf64_core.specs.Notes.{Noted}
use Rattle.elf64_core.specs.Nul.{is_nul}
use Rattle.image_memory.specs.FileTables.{Entry, IsFileTable, IsFirstName, IsNoFileTable, NamesThen, entries_from}
use Rattle.image_memory.specs.FileTables.{entry_at, names_start}
use Rattle.image_memory.specs.Notes.{TablesSay}
use Rattle.image_memory.specs.declared.file_table.FileEntry.{FileEntry}

abbrev pub name_of : FileEntry → List ℕ
name_of entry = entry.name.now

same_some : (a b : ℕ) → ◌≡◌ {A = Option ℕ} (Some a) (Some b) → a ≡ b
same_some a b e = cc

-- one first name at most, and one rest
first_name_same : (bytes m n a b : List ℕ) → IsFirstName bytes m a → IsFirstName bytes n b → (m ≡ n) × (a ≡ b)
first_name_same bytes m n a b h k =
    let same : h.size ≡ k.size = same_some h.size k.size (sym h.ends ∙ k.ends) in (
      h.name_is ∙ ap (λ size. take size bytes) same ∙ sym k.name_is,
      h.rest_is ∙ ap (λ size. drop (size + 1) bytes) same ∙ sym k.rest_is,
    )

-- a name more
pub NamesThen-more : (bytes : List ℕ) (names : List (List ℕ)) (rest name after : List ℕ) → NamesThen bytes names rest
    → IsFirstName rest name after → NamesThen bytes (names ++ name ∷ []) after
NamesThen-more bytes [] rest name after h k = (after, subst (λ bs. IsFirstName bs name after) (sym h) k, refl)
NamesThen-more bytes (m ∷ ms) rest name after h k = (h.0, h.1, NamesThen-more h.0 ms rest name after h.2 k)

-- where more names than these are there, one follows
NamesThen-next : (bytes : List ℕ) (some all : List (List ℕ)) (rest end : List ℕ) → NamesThen bytes some rest
    → NamesThen bytes all end → length some < length all → (size : ℕ) × (position is_nul rest ≡ Some size)
NamesThen-next bytes [] [] rest end h k less = absurd (omega arith)
NamesThen-next bytes [] (name ∷ names) rest end h k less = (k.1.size, ap (position is_nul) (sym h) ∙ k.1.ends)
NamesThen-next bytes (m ∷ ms) [] rest end h k less = absurd (omega arith)
NamesThen-next bytes (m ∷ ms) (n ∷ ns) rest end h k less =
    let same = first_name_same bytes n m k.0 h.0 k.1 h.1 in
    NamesThen-next h.0 ms ns rest end h.2 (subst (λ bs. NamesThen bs ns end) same.1 k.2) (omega arith)

some_none : (size : ℕ) → ◌≡◌ {A = Option ℕ} (Some size) None → ⊥
some_none size e = cc

-- bytes with too few names are no file table
pub no_table : (table : List ℕ) (count : ℕ) (names : List (List ℕ)) (rest : List ℕ) → u64_in table 0 ≡ count
    → NamesThen (drop (names_start count) table) names rest → length names < count → position is_nul rest ≡ None
    → IsNoFileTable table
no_table table count names rest says h few none entries k =
    let many : length k.names ≡ count = sym k.count ∙ says in
    let named = subst (λ n. NamesThen (drop (names_start n) table) k.names k.rest) many k.named in
    let next = NamesThen-next _ names k.names rest k.rest h named (omega (arith, many)) in
    some_none next.0 (sym next.1 ∙ none)

-- as many names are the same
NamesThen-once : (bytes : List ℕ) (ms ns : List (List ℕ)) (rest end : List ℕ) → NamesThen bytes ms rest
    → NamesThen bytes ns end → length ms ≡ length ns → ms ≡ ns
NamesThen-once bytes [] [] rest end h k same = refl
NamesThen-once bytes [] (n ∷ ns) rest end h k same = absurd (omega arith)
NamesThen-once bytes (m ∷ ms) [] rest end h k same = absurd (omega arith)
NamesThen-once bytes (m ∷ ms) (n ∷ ns) rest end h k count =
    let same = first_name_same bytes n m k.0 h.0 k.1 h.1 in
    let names : ms ≡ ns = NamesThen-once h.0 ms ns rest end h.2 (subst (λ bs. NamesThen bs ns end) same.1 k.2) (omega arith) in
    ap (λ x. x ∷ ms) (sym same.0) ∙ ap (λ xs. n ∷ xs) names

-- an entry more
pub entries_from-more : (table : List ℕ) (number : ℕ) (names : List (List ℕ)) (name : List ℕ)
    → entries_from table number (names ++ name ∷ []) ≡ entries_from table number names ++ entry_at table (number + length names) name ∷ []
entries_from-more table number [] name = ap (λ n. entry_at table n name ∷ []) (sym (add-zero number))
entries_from-more table number (m ∷ ms) name =
    let place : number + 1 + length ms ≡ number + length (m ∷ ms) = omega arith in
    ap (λ es. entry_at table number m ∷ es) (entries_from-more table (number + 1) ms name
    ∙ ap (λ n. entries_from table (number + 1) ms ++ entry_at table n name ∷ []) place)

pub IsFileTable-once : (table : List ℕ) (one other : List Entry) → IsFileTable table one → IsFileTable table other → one ≡ other
IsFileTable-once table one other h k =
    let count : length k.names ≡ length h.names = sym k.count ∙ h.count in
    let named = subst (λ n. NamesThen (drop (names_start n) table) k.names k.rest) count k.named in
    let names : h.names ≡ k.names = NamesThen-once _ h.names k.names h.rest k.rest h.named named (sym count) in
    h.says ∙ ap (entries_from table 0) names ∙ sym k.says

-- a table more
pub TablesSay-more : (tables : List Noted) (entries : List Entry) (table : Noted) (own : List Entry)
    → TablesSay tables entries → IsFileTable table.desc own → TablesSay (tables ++ table ∷ []) (entries ++ own)
TablesSay-more [] entries table own h k =
    (own, [], k, refl, ap (λ es. es ++ own) h ∙ sym (append-nil own))
TablesSay-more (t ∷ ts) entries table own h k =
    (h.0, h.1 ++ own, h.2, TablesSay-more ts h.1 table own h.3 k, ap (λ es. es ++ own) h.4 ∙ append_assoc h.0 h.1 own)

-- a table that is none
pub TablesSay-none : (before after : List Noted) (table : Noted) (entries : List Entry) → IsNoFileTable table.desc
    → TablesSay (before ++ table ∷ after) entries → ⊥
TablesSay-none [] after table entries none h = none h.0 h.2
TablesSay-none (t ∷ ts) after table entries none h = TablesSay-none ts after table h.1 none h.3

pub TablesSay-once : (tables : List Noted) (one other : List Entry) → TablesSay tables one → TablesSay tables other → one ≡ other
TablesSay-once [] one other h k = h ∙ sym k
TablesSay-once (t ∷ ts) one other h k =
    let own = IsFileTable-once t.desc h.0 k.0 h.2 k.2 in
    let others = TablesSay-once ts h.1 k.1 h.3 k.3 in
    h.4 ∙ ap (λ es. es ++ h.1) own ∙ ap (λ es. k.0 ++ es) others ∙ sym k.4
