-- Numbers, one behind the other.
use Rattle.std.proofs.Common.{◌≡◌, ℕ, suc, ◌+◌, List, [], ◌∷◌, ◌++◌, refl, sym, ap, ◌∙◌, append_assoc, append-nil}
use Rattle.elf64_core.specs.Fields.{u64_in}
use Rattle.thread_exceptions.specs.Groups.{words_in}

pub words_more : (words more bytes total : List ℕ) (x at left rest : ℕ) → left ≡ suc rest → more ≡ words ++ x ∷ []
    → x ≡ u64_in bytes at → words ++ words_in left bytes at ≡ total → more ++ words_in rest bytes (at + 8) ≡ total
unfolding words_in
words_more words more bytes total x at left rest e pushed is h =
    ap (λ t. t ++ words_in rest bytes (at + 8)) pushed ∙ append_assoc words (x ∷ []) (words_in rest bytes (at + 8))
    ∙ ap (λ y. words ++ (y ∷ words_in rest bytes (at + 8))) is
    ∙ ap (λ n. words ++ words_in n bytes at) (sym e) ∙ h

pub words_done : (words bytes total : List ℕ) (at left : ℕ) → left ≡ 0 → words ++ words_in left bytes at ≡ total
    → words ≡ total
unfolding words_in
words_done words bytes total at left e h = sym (append-nil words) ∙ ap (λ n. words ++ words_in n bytes at) (sym e) ∙ h
