use Rattle.std.proofs.Common.{◌≡◌, ◌∙◌, ◌≤◌, ◌-◌, ℕ, List, [], ◌∷◌, length, take, drop, false, cond, bytes_eq, sym, ap}
use Rattle.std.proofs.Common.{arith, Vec, get_or, take_all, Some}
use Rattle.std.specs.Global.{Global}
use Rattle.outside.specs.Files.{held_bytes, entries}
use Rattle.native_merge.proofs.memory_sources.find.Goals as goal

skips : (files : List (List ℕ × Vec ℕ Global)) (name : List ℕ) (file : List ℕ × Vec ℕ Global)
    → 1 ≤ length files → file ≡ get_or files 0 file → bytes_eq file.0 name ≡ false
    → held_bytes (entries (take (length files - 1) (drop 1 files))) name ≡ held_bytes (entries files) name
skips [] name file some is other = absurd (omega arith)
skips (first ∷ rest) name file some is other =
    let same : take (length (first ∷ rest) - 1) rest ≡ rest = take_all _ rest (omega arith) in
    ap (λ files. held_bytes (entries files) name) same
    ∙ sym (ap (λ b. cond b (Some first.1.items) (held_bytes (entries rest) name)) (ap (λ f. bytes_eq f.0 name) (sym is) ∙ other))

pub loop-rest-preserved : goal.loop-rest-preserved
loop-rest-preserved c =
    skips c.loop-rest.rest.now c.args.path.now c.file-item.result c.in-len1-up.len_at_least c.file-item.is
    (ap (λ held. bytes_eq held c.args.path.now) (sym c.as_bytes.ensures) ∙ sym c.if-eq.ensures)
    ∙ c.loop-rest.invariant
