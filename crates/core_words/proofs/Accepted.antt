-- clap takes words exactly where it has no kind of fault for them.
use Rattle.std.proofs.Common.{◌≡◌, ◌≢◌, ◌↔◌, true, List, [], ◌∷◌, Option, Err, Some, None, refl, ap, inl, inr}
use Rattle.clap.specs.Words.{App, HasKind, IsAmong, Kinds, Row, Text, fault_of, is_simple_and_free, kind_of, matches_of}
use Rattle.clap.specs.declared.error.Error.{Error}
use Rattle.clap.specs.declared.error.ErrorKind.{ErrorKind}
use Rattle.clap.specs.declared.error.ErrorKind.TheVariants as kind
use Rattle.clap.proofs.OnLiterals.{clap_on_literals}
use Rattle.core_words.specs.Answers.{AnswersWords}
use Rattle.core_words.specs.Dump.{dump_app, rows_taken, rows_without}
use Rattle.core_words.specs.declared.args_error.ArgsError.{ArgsError}
use Rattle.core_words.specs.declared.args_error.ArgsError.TheVariants.{Refused, OutOfMemory}

pub dump_is_simple : is_simple_and_free dump_app ≡ true
unfolding clap_on_literals
dump_is_simple = refl

-- words without a fault are taken
pub taken : (app : App) (words : List Text) → fault_of app words ≡ [] → rows_taken app words ≡ Some (matches_of app words)
unfolding rows_taken
taken app words none = ap (λ kinds. rows_without kinds (matches_of app words)) none

none_with : (kinds : Kinds) (k : ErrorKind) (rows : List Row) → IsAmong k kinds → rows_without kinds rows ≡ None
none_with [] k rows among = absurd among
none_with (x ∷ xs) k rows among = refl

pub unless_memory : (kinds : Kinds) (e : Error) → HasKind kinds e → kind_of e ≢ kind.OutOfMemory → IsAmong (kind_of e) kinds
unless_memory kinds e (inl memory) ne = absurd (ne memory)
unless_memory kinds e (inr among) ne = among

-- words with a fault are not
pub not_taken : (app : App) (words : List Text) (k : ErrorKind) → IsAmong k (fault_of app words) → rows_taken app words ≡ None
unfolding rows_taken
not_taken app words k among = none_with (fault_of app words) k (matches_of app words) among

pub refused : {S T : Type 0} (seen : S → T) (asked : Option T) (e : ArgsError) (k : ErrorKind)
    → (e ≡ OutOfMemory) ↔ (k ≡ kind.OutOfMemory) → (k ≢ kind.OutOfMemory → asked ≡ None) → AnswersWords seen asked (Err e)
refused seen asked Refused k both none = none (λ is. absurd (let h : Refused ≡ OutOfMemory = both.1 is in cc))
refused seen asked OutOfMemory k both none = tt
