-- The notes so far, and that those of the rest follow.
use Rattle.std.proofs.Common.{◌≡◌, Bool, List, [], ◌∷◌, ◌++◌, ap, ◌∙◌, append_assoc, append-nil, sym}
use Rattle.std.specs.Prelude.{◌&&◌, ◌||◌}
use Rattle.elf64_core.specs.Notes.{Noted}
use Rattle.native_stacks.specs.First.{is_status, kept_unless, notes_behind}

pub notes_more : (before after total rest behind : List Noted) (n : Noted) (is_met : Bool) → rest ≡ n ∷ behind
    → before ++ notes_behind is_met rest ≡ total → after ≡ before ++ kept_unless (is_met && is_status n) n
    → after ++ notes_behind (is_met || is_status n) behind ≡ total
unfolding notes_behind
notes_more before after total rest behind n is_met step inv added =
    ap (λ x. x ++ notes_behind (is_met || is_status n) behind) added
    ∙ append_assoc before (kept_unless (is_met && is_status n) n) (notes_behind (is_met || is_status n) behind)
    ∙ ap (λ ns. before ++ notes_behind is_met ns) (sym step) ∙ inv

pub notes_end : (before total rest : List Noted) (is_met : Bool) → rest ≡ []
    → before ++ notes_behind is_met rest ≡ total → before ≡ total
unfolding notes_behind
notes_end before total rest is_met step inv =
    sym (append-nil before) ∙ ap (λ ns. before ++ notes_behind is_met ns) (sym step) ∙ inv
