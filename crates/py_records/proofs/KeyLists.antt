-- Keys behind others.
use Rattle.std.proofs.Common.{◌≡◌, ◌++◌, List, ap, ◌∙◌}
use Rattle.py_records.specs.Keys.{Key}

pub pushed : {before part new done keys : List Key} → new ≡ before ++ part → before ≡ done → part ≡ keys
    → new ≡ done ++ keys
pushed {before} {part} {new} {done} {keys} is so also = is ∙ ap (λ l. l ++ part) so ∙ ap (λ l. done ++ l) also
