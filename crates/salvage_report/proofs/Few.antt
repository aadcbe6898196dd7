-- No words ask for more than 4096 frames.
use Rattle.std.proofs.Common.{◌≡◌, ◌≤◌, ℕ, Bool, true, false, List, Some, None, refl, subst, arith}
use Rattle.std.specs.Prelude.{Option, Result, Ok, Err, IfOk, IfSome, nat_le, ◌&&◌, if◌then◌else◌, option_and_then}
use Rattle.std.specs.Prelude.{option_map}
use Rattle.std.proofs.lemmas.Bool.Decides.{nat_tests}
use Rattle.clap.specs.Words.{Row, Text, first_of}
use Rattle.core_words.specs.Answers.{AnswersWords}
use Rattle.core_words.specs.Dump.{image_words, images_of}
use Rattle.core_words.specs.Words.{digits_in}
use Rattle.core_words.specs.declared.args_error.ArgsError.{ArgsError}
use Rattle.core_words.specs.declared.args_error.ArgsError.TheVariants.{Refused, OutOfMemory}
use Rattle.salvage_words.specs.Salvage.{Salvage, in_limits, is_alone, limit_of, salvage_by, salvage_found, salvage_with}
use Rattle.salvage_words.specs.Salvage.{salvage_words, taken_rows, words_asked}
use Rattle.salvage_words.specs.Salvage.Wanted.{help, version, salvage}
use Rattle.salvage_words.specs.Seen.{asked_by}
use Rattle.salvage_words.specs.declared.asked.Asked.{Asked}
use Rattle.salvage_report.specs.Run.{IsFew}
use Rattle.std.specs.Prelude.{codes}

abbrev FewIn : Option ℕ → Type 0
FewIn o = IfSome o (λ n. n ≤ 4096)

abbrev FewOf : Option Salvage → Type 0
FewOf o = IfSome o (λ s. s.limit ≤ 4096)

second : (a b : Bool) → (a && b) ≡ true → b ≡ true
second true b e = e
second false b e = absurd (cc)

in_few : (d : Option ℕ) → FewIn (option_and_then in_limits d)
in_few None = tt
in_few (Some n) = by (nat_le 1 n && nat_le n 4096) refl
  where
    by : (b : Bool) → (nat_le 1 n && nat_le n 4096) ≡ b → FewIn (if b then Some n else None)
    by true e = let h : nat_le n 4096 ≡ true = second (nat_le 1 n) (nat_le n 4096) e in grind (arith, nat_tests)
    by false e = tt

limit_few : (word : Option (List ℕ)) → FewIn (limit_of word)
limit_few None = omega arith
limit_few (Some word) = in_few (digits_in 10 4 word)

with_few : (rows : List Row) (n : ℕ) → n ≤ 4096 → (images : Option (List (List ℕ × List ℕ)))
    → FewOf (option_map (λ images. salvage_by rows n images) images)
with_few rows n h None = tt
with_few rows n h (Some images) = h

found_few : (rows : List Row) (limit : Option ℕ) → FewIn limit
    → FewOf (option_and_then (λ n. salvage_with rows n) limit)
found_few rows None h = tt
found_few rows (Some n) h = with_few rows n h (images_of (image_words rows))

taken_few : (taken : Option (List Row)) → FewOf (option_and_then salvage_found taken)
taken_few None = tt
taken_few (Some rows) = found_few rows (limit_of (first_of (codes "frames") rows))
    (limit_few (first_of (codes "frames") rows))

wanted_few : (a b : Bool) (o : Option Salvage) → FewOf o
    → IfSome (if a then Some help else if b then Some version else option_map (λ s. salvage s) o) IsFew
wanted_few true b o h = tt
wanted_few false true o h = tt
wanted_few false false None h = tt
wanted_few false false (Some s) h = h

words_few : (words : List Text) → IfSome (words_asked words) IsFew
words_few words = wanted_few (is_alone (codes "--help") words) (is_alone (codes "--version") words)
    (salvage_words words)
    (taken_few (taken_rows words))

pub asked_few : (words : List Text) (asked : Result Asked ArgsError) → AnswersWords asked_by (words_asked words) asked
    → IfOk asked (λ wanted. IsFew (asked_by wanted))
asked_few words (Ok wanted) is = subst (λ o. IfSome o IsFew) is (words_few words)
asked_few words (Err Refused) is = tt
asked_few words (Err OutOfMemory) is = tt
