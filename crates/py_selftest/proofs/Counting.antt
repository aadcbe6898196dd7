-- How many answers are counted, one after another.
use Rattle.std.proofs.Common.{◌≡◌, ℕ, ◌+◌, ◌<◌, List, length, drop, get_or, refl, ap, arith}
use Rattle.py_selftest.specs.declared.questions.Answer.{Answer}
use Rattle.py_selftest.specs.declared.questions.Counted.{Counted}
use Rattle.py_selftest.specs.Questions.{count_known, is_counted, one_if}
use Rattle.py_selftest.proofs.Rest.{next}

pub known_more : (answers : List Answer) (i : ℕ) (none : Answer) (counted : Counted) (count one total : ℕ)
    → i < length answers → one ≡ one_if (is_counted counted (get_or answers i none))
    → count + count_known counted (drop i answers) ≡ total
    → count + one + count_known counted (drop (i + 1) answers) ≡ total
unfolding count_known
known_more answers i none counted count one total some is inv =
    let step = ap (λ xs. count_known counted xs) (next answers i (get_or answers i none) none some refl) in
    omega (arith, step, is, inv)
