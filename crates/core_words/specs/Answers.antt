-- Answers on words.
use Rattle.std.specs.Prelude.{◌≡◌, ⊤, Option, Some, None, Result, Ok, Err}
use Rattle.core_words.specs.declared.args_error.ArgsError.{ArgsError}
use Rattle.core_words.specs.declared.args_error.ArgsError.TheVariants.{Refused, OutOfMemory}

-- what the words ask for, or `Refused` where they ask for nothing, unless memory ran out
abbrev pub AnswersWords : {S T : Type 0} → (S → T) → Option T → Result S ArgsError → Type 0
AnswersWords seen asked (Ok answer) = asked ≡ Some (seen answer)
AnswersWords seen asked (Err Refused) = asked ≡ None
AnswersWords seen asked (Err OutOfMemory) = ⊤
