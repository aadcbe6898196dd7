-- What the code writes of a text.
use Rattle.std.proofs.Common.{◌≡◌, ℕ, List, [], ◌∷◌, refl, subst, sym}
use Rattle.std.specs.Prelude.{Option}
use Rattle.py_fields.specs.declared.layout.Layout.{Layout}
use Rattle.py_builtins.specs.declared.coding.TextKind.{TextKind}
use Rattle.py_builtins.specs.TextKind.{coded}
use Rattle.py_builtins.specs.Texts.{state_at}
use Rattle.object_builder.specs.Objects.{Write, optional_write}
use Rattle.object_builder.specs.Objects.Value.{U64, U32, Bytes}
use Rattle.object_builder.specs.Texts.{Suits, kind_for, klass_write, start_of, state_by, text_writes, units_of}
use Rattle.object_builder.proofs.TextsBack.{suits}

pub kind_suits : (l : Layout) (cs : List ℕ) (k : TextKind) → k ≡ kind_for l.strings cs → Suits k cs
kind_suits l cs k is = subst (λ k. Suits k cs) (sym is) (suits l.strings cs)

pub text_writes_are : (l : Layout) (klass : Option ℕ) (cs : List ℕ) (k : TextKind) (units state start : ℕ)
    (bytes : List ℕ) (state_write klass_is : Write)
    → k ≡ kind_for l.strings cs → units ≡ units_of k cs → state ≡ state_by (state_at l.string) k
    → state_write ≡ optional_write l.string.state (U32 state)
    → start ≡ start_of l.string k → bytes ≡ coded k cs → klass_is ≡ klass_write l klass
    → record { at = l.string.length; value = U64 units } ∷ state_write ∷ record { at = start; value = Bytes bytes }
    ∷ klass_is ∷ [] ≡ text_writes l klass (kind_for l.strings cs) cs
text_writes_are l klass cs k units state start bytes state_write klass_is kind_is a b c d e f =
    rw (c, a, b, d, e, f, kind_is) refl
