use Rattle.std.proofs.Common.{◌≡◌, ◌∙◌, ap, false, refl, sym, true}
use Rattle.process_memory.proofs.Reading.{reads_end, reads_same}
use Rattle.py_waits.specs.Waits.{is_within, wait_at, wait_if}
use Rattle.py_waits.proofs.wait.own_wait.Goals as goal

pub returns-then-is_within : goal.returns-then-is_within
unfolding wait_at
returns-then-is_within g c =
    let a = c.args in
    let is : is_within a.gil a.at ≡ true = sym c.is_within.ensures ∙ c.if-is_within.true in
    reads_same _ _ (λ m. ap (λ b. wait_if b a.layout.now m a.places.now a.thread a.at) is) (reads_end 2313 refl)

pub returns : goal.returns
unfolding wait_at
returns g c =
    let a = c.args in
    let is : is_within a.gil a.at ≡ false = sym c.is_within.ensures ∙ c.if-is_within.false in
    reads_same _ _ (λ m. ap (λ b. wait_if b a.layout.now m a.places.now a.thread a.at) is) c.looked_at.ensures
