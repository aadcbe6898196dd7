-- The file of records is read before those of the core, and what it says is one.
use Rattle.std.proofs.Common.{◌≡◌, ◌≢◌, ◌≤◌, ℕ, List, [], ◌∷◌, ◌++◌, Result, Ok, Err, refl, sym, ap, subst, ◌∙◌, arith}
use Rattle.std.proofs.Common.{inr, ⊎_elim}
use Rattle.std.specs.Prelude.{Option, Some, None, Vec}
use Rattle.std.specs.Global.{Global}
use Rattle.std.proofs.lemmas.List.{append_assoc}
use Rattle.outside.specs.Files.{FilesSeen, Told}
use Rattle.py_records.specs.declared.error.RecordsError.{RecordsError}
use Rattle.py_records.specs.declared.error.RecordsError.TheVariants as records
use Rattle.py_records.specs.declared.table.RecordTable.{RecordTable}
use Rattle.py_records.specs.File.{IsRightFor as AreRightFor}
use Rattle.py_records.proofs.Answering.{right-unique}
use Rattle.program_run.specs.Ends.{IsOwn}
use Rattle.program_run.specs.Reading.{AreRead, AsksAmong, HasAll, IsUnreadTrouble}
use Rattle.program_run.specs.declared.trouble.FileTrouble.{FileTrouble}
use Rattle.program_run.specs.declared.trouble.FileTrouble.TheVariants.{File, OutOfMemory}
use Rattle.program_run.proofs.Contents.{later}
use Rattle.program_run.proofs.Outcomes.{Excludes}
use Rattle.program_run.proofs.Statuses.{cases_five, own}
use Rattle.salvage_words.specs.Salvage.{Salvage}
use Rattle.salvage_report.specs.Outcome.{IsOutcomeBy, IsOutcomeWith, Outcome, records_status}
use Rattle.salvage_report.specs.Reading.{bytes_of_records, one_or_none}

-- ---- reading

-- a file that could not be read, of more names
pub widen : (told : Told) (old new : FilesSeen) (names more : List (List ℕ)) (t : FileTrouble)
    → IsUnreadTrouble (AsksAmong told names) old new t → IsUnreadTrouble (AsksAmong told (names ++ more)) old new t
widen told old new names more OutOfMemory h = h
widen told old new names more (File n why) h = record {
  asks = record {
    before = h.asks.before;
    behind = h.asks.behind ++ more;
    are = ap (λ ns. ns ++ more) h.asks.are ∙ append_assoc h.asks.before (n.now ∷ h.asks.behind) more;
    contents = h.asks.contents;
    read = h.asks.read;
  };
  not_memory = h.not_memory;
  failed = h.failed;
}

-- a file that could not be read, behind that of the records
pub behind_records : (old mid new : FilesSeen) (name : Option (List ℕ)) (cs names : List (List ℕ)) (t : FileTrouble)
    → mid.told ≡ old.told → HasAll old mid (one_or_none name) cs → IsUnreadTrouble (AsksAmong mid.told names) mid new t
    → IsUnreadTrouble (AsksAmong old.told (one_or_none name ++ names)) old new t
behind_records old mid new None cs names OutOfMemory told has h = h ∙ has.failed
behind_records old mid new None cs names (File n why) told has h = record {
  asks = record {
    before = h.asks.before;
    behind = h.asks.behind;
    are = h.asks.are;
    contents = h.asks.contents;
    read = subst (λ t. AreRead t h.asks.before h.asks.contents) told h.asks.read;
  };
  not_memory = h.not_memory;
  failed = h.failed ∙ ap (λ b. b ++ (n.now, why) ∷ []) has.failed;
}
behind_records old mid new (Some name) [] names t told has h = absurd has.read
behind_records old mid new (Some name) (bytes ∷ cs) names t told has h =
    later old mid new names name bytes t told has.failed has.read.0 h

-- all files
pub both : (old mid new : FilesSeen) (name : Option (List ℕ)) (cs names contents : List (List ℕ)) → mid.told ≡ old.told
    → HasAll old mid (one_or_none name) cs → HasAll mid new names contents
    → HasAll old new (one_or_none name ++ names) (cs ++ contents)
both old mid new None [] names contents told has rest = record {
  read = subst (λ t. AreRead t names contents) told rest.read;
  failed = rest.failed ∙ has.failed;
}
both old mid new None (c ∷ cs) names contents told has rest = absurd has.read
both old mid new (Some name) [] names contents told has rest = absurd has.read
both old mid new (Some name) (c ∷ []) names contents told has rest = record {
  read = (has.read.0, subst (λ t. AreRead t names contents) told rest.read);
  failed = rest.failed ∙ has.failed;
}
both old mid new (Some name) (c ∷ d ∷ cs) names contents told has rest = absurd has.read.1

-- what is come to over the file of records that was read is what is come to by its name
pub by_name : (told : Told) (name : Option (List ℕ)) (file : Option (Vec ℕ Global)) (s : Salvage)
    (contents : List (List ℕ)) (o : Outcome) → AreRead told (one_or_none name) (one_or_none (bytes_of_records file))
    → IsOutcomeWith (bytes_of_records file) s contents o
    → IsOutcomeBy name s (one_or_none (bytes_of_records file) ++ contents) o
by_name told None None s contents o read h = h
by_name told None (Some file) s contents o read h = absurd read
by_name told (Some name) None s contents o read h = absurd read
by_name told (Some name) (Some file) s contents o read h = h

-- ---- statuses

pub records_flaw : (e : RecordsError) → records_status e ≢ 5 → (records_status e ≡ 6) × (e ≢ records.OutOfMemory)
records_flaw records.NotToml ne = (refl, λ is. cc)
records_flaw (records.Shape table key) ne = (refl, λ is. cc)
records_flaw (records.Unsound table) ne = (refl, λ is. cc)
records_flaw (records.Clash first second) ne = (refl, λ is. cc)
records_flaw records.OutOfMemory ne = absurd (ne refl)

pub records_own : (e : RecordsError) → IsOwn (records_status e)
records_own e = own (records_status e) (inr
    (⊎_elim (λ five. omega (arith, five)) (λ ne. omega (arith, (records_flaw e ne).0)) (cases_five (records_status e))))

pub records_within : (e : RecordsError) → records_status e ≤ 6
records_within records.OutOfMemory = omega arith
records_within _ = omega arith

-- ---- what a file of records says is one

abbrev Answer : Type 0
Answer = Result (List RecordTable) RecordsError

ok_err : (tables : List RecordTable) (e : RecordsError) → ◌≡◌ {A = Answer} (Ok tables) (Err e) → ⊥
ok_err tables e is = cc

ok_same : (a b : List RecordTable) → ◌≡◌ {A = Answer} (Ok a) (Ok b) → a ≡ b
ok_same a b is = cc

err_same : (a b : RecordsError) → ◌≡◌ {A = Answer} (Err a) (Err b) → a ≡ b
err_same a b is = cc

pub records_apart : (text : List ℕ) (tables : List RecordTable) (e : RecordsError) → e ≢ records.OutOfMemory
    → AreRightFor text (Ok tables) → AreRightFor text (Err e) → ⊥
records_apart text tables e ne one other = ⊎_elim (ok_err tables e) (ok_err tables records.OutOfMemory)
    (right-unique text (Ok tables) (Err e) one other (λ is. ne (err_same e records.OutOfMemory is)))

pub tables_once : (text : List ℕ) (a b : List RecordTable) → AreRightFor text (Ok a) → AreRightFor text (Ok b) → a ≡ b
tables_once text a b one other = ⊎_elim (ok_same a b) (λ is. absurd (ok_err a records.OutOfMemory is))
    (right-unique text (Ok a) (Ok b) one other (ok_err b records.OutOfMemory))

pub records_exclude : {Cause : Type 0} (cause_status : Cause → ℕ) (as_cause : RecordsError → Cause)
    → ((e : RecordsError) → cause_status (as_cause e) ≡ records_status e) → (text : List ℕ)
    → Excludes cause_status as_cause (AreRightFor text)
records_exclude cause_status as_cause same text = record {
  apart = λ l e one other ne. records_apart text l e (records_flaw e (λ five. ne (same e ∙ five))).1 one other;
  alike = λ e f one other ne nf. same e ∙ (records_flaw e (λ five. ne (same e ∙ five))).0
      ∙ sym (records_flaw f (λ five. nf (same f ∙ five))).0 ∙ sym (same f);
}
