use Rattle.std.proofs.Common.{◌≡◌, ℕ, Bool, true, false, List, length, take, ltb, cond, Some, None, refl, sym, ap}
use Rattle.std.specs.List.{position_or_len}
use Rattle.std.proofs.lemmas.Bool.{ltb-false}
use Rattle.std.proofs.lemmas.List.{take_all}
use Rattle.normalize_core.specs.Programs.{is_underscore}
use Rattle.normalize_core.proofs.bpf_prog.before_underscore.Goals as goal

cut-some : (s : List ℕ) (n e : ℕ) (b : Bool) → ltb n (length s) ≡ b → Some e ≡ cond b (Some n) None → take e s ≡ take n s
cut-some s n e true is h = let same : e ≡ n = cc in ap (λ k. take k s) same
cut-some s n e false is h = cc

cut-none : (s : List ℕ) (n : ℕ) (b : Bool) → ltb n (length s) ≡ b → None ≡ cond b (Some n) None → s ≡ take n s
cut-none s n true is h = cc
cut-none s n false is h = sym (take_all n s (ltb-false n (length s) is))

pub returns-in-Some : goal.returns-in-Some
returns-in-Some c =
    let s = c.args.text.now in
    let n = position_or_len is_underscore s in
    cut-some s n c.in-Some.end (ltb n (length s)) refl c.in-Some.ensures

pub returns-in-None : goal.returns-in-None
returns-in-None c =
    let s = c.args.text.now in
    let n = position_or_len is_underscore s in
    cut-none s n (ltb n (length s)) refl c.in-None.ensures
