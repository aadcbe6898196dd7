-- The lines of locals, one more.
use Rattle.std.proofs.Common.{◌≡◌, ℕ, ◌+◌, ◌<◌, Bool, true, false, List, [], ◌∷◌, ◌++◌, length, take, get_or, sym, ap}
use Rattle.std.proofs.Common.{◌∙◌, append_assoc}
use Rattle.std.specs.Prelude.{◌||◌}
use Rattle.std.proofs.lemmas.List.{take_more, append-nil}
use Rattle.py_stacks.specs.declared.trace.LocalVariable.{LocalVariable}
use Rattle.core_texts.specs.Text.{heading_text, local_text, locals_after, locals_text}

one_after : (before locals : List LocalVariable) (l : LocalVariable)
    → locals_after before (locals ++ l ∷ []) ≡ locals_after before locals ++ (heading_text (before ++ locals) l.arg ++ local_text l)
one_after before [] l =
    ap (λ t. heading_text before l.arg ++ t) (append-nil (local_text l))
    ∙ ap (λ b. heading_text b l.arg ++ local_text l) (sym (append-nil before))
one_after before (x ∷ locals) l =
    let here = heading_text before x.arg in
    let line = local_text x in
    let rest = locals_after (before ++ x ∷ []) locals in
    let last = heading_text (before ++ x ∷ locals) l.arg ++ local_text l in
    let more : locals_after (before ++ x ∷ []) (locals ++ l ∷ []) ≡ rest ++ last =
    one_after (before ++ x ∷ []) locals l
    ∙ ap (λ b. rest ++ (heading_text b l.arg ++ local_text l)) (append_assoc before (x ∷ []) locals) in
    ap (λ t. here ++ (line ++ t)) more
    ∙ ap (λ t. here ++ t) (sym (append_assoc line rest last))
    ∙ sym (append_assoc here (line ++ rest) last)

-- one local more
pub more_locals : (locals : List LocalVariable) (i : ℕ) (d : LocalVariable) → i < length locals
    → locals_text (take (i + 1) locals) ≡ locals_text (take i locals) ++ (heading_text (take i locals) (get_or locals i d).arg ++ local_text (get_or locals i d))
more_locals locals i d lt = ap (λ ls. locals_text ls) (take_more locals i d lt) ∙ one_after [] (take i locals) (get_or locals i d)

pub or_true : (a b : Bool) → a ≡ true → true ≡ (a || b)
or_true a b is = ap (λ x. x || b) (sym is)

pub or_false : (a b : Bool) → a ≡ false → b ≡ (a || b)
or_false a b is = ap (λ x. x || b) (sym is)
