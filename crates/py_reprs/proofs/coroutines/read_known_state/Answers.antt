use Rattle.std.proofs.Common.{◌≡◌, ◌∙◌, ap, sym, true, false}
use Rattle.std.specs.Prelude.{Ok}
use Rattle.process_memory.proofs.Reading.{reads_known, reads_same}
use Rattle.py_coroutines.specs.Places.{is_sound_family}
use Rattle.py_reprs.specs.Coroutines.{if_found, known_state_at, stated_at}
use Rattle.py_reprs.proofs.Nones.{known_if, reads_or_none, unknown_if}
use Rattle.py_reprs.proofs.coroutines.read_known_state.Goals as goal

pub returns-then-is_sound : goal.returns-then-is_sound
returns-then-is_sound g c =
    let whole : is_sound_family c.args.family.now ≡ true = sym c.is_sound_family-is_sound.ensures.told ∙ c.if-is_sound.true in
    reads_same (λ m. known_state_at m c.args.family.now c.args.addr)
    (λ m. Ok (if_found (stated_at m c.args.family.now c.args.addr)))
    (λ m. known_if m c.args.family.now c.args.addr whole) (reads_or_none c.read_stated.ensures c.or_none.ensures)

pub returns : goal.returns
returns g c =
    let short : is_sound_family c.args.family.now ≡ false = sym c.is_sound_family-is_sound.ensures.told ∙ c.if-is_sound.false in
    reads_known 2 (λ m. known_state_at m c.args.family.now c.args.addr) _
    (λ m. record { is = unknown_if m c.args.family.now c.args.addr short })
