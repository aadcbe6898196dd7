-- What is written of a version's numbers alone is the same of the version that is told.
use Rattle.std.proofs.Common.{◌≡◌, ℕ, List, [], ◌∷◌, refl, sym, ap, subst}
use Rattle.std.specs.Prelude.{Option, IfSome}
use Rattle.elf64_core.specs.declared.header.Machine.{Machine}
use Rattle.elf64_core.specs.declared.header.Machine.TheVariants.{X86_64, Aarch64, Other}
use Rattle.py_fields.specs.Offsets.{interp_head_offset, tstate_current_offset}
use Rattle.py_fields.specs.declared.version.Version.{Version}
use Rattle.py_fields.specs.Places.{Apart}
use Rattle.py_fields.specs.Sound.{Covers}
use Rattle.py_fields.specs.declared.layout.Head.{Head}
use Rattle.py_fields.specs.declared.layout.Head.TheVariants.{Symbol, Runtime, Offsets}
use Rattle.py_fields.specs.declared.layout.Lock.{Lock}
use Rattle.py_fields.specs.declared.layout.Lock.TheVariants.{Symbol as SymbolLock, Runtime as RuntimeLock, Gil}
use Rattle.py_fields.specs.declared.layout.Layout.{Layout}
use Rattle.object_builder.specs.Objects.{Write, object, optional_write}
use Rattle.object_builder.specs.Objects.Value.{U64}
use Rattle.image_builder.specs.Built.{built_lock, lock_by, runtime_lock}
use Rattle.image_builder.specs.Covered.{told_version}
use Rattle.image_builder.specs.RuntimeWords.{HasWordRoom, head_field, head_place, interpreter_at, lock_word_place}
use Rattle.image_builder.specs.RuntimeWords.{runtime_words}

told_current : (machine : Machine) (v : Version) → tstate_current_offset machine (told_version v) ≡ tstate_current_offset machine v
unfolding tstate_current_offset
told_current X86_64 v = refl
told_current Aarch64 v = refl
told_current Other v = refl

told_head : (head : Head) (v : Version) → head_place head (told_version v) ≡ head_place head v
unfolding interp_head_offset
told_head Symbol v = refl
told_head Runtime v = refl
told_head Offsets v = refl

told_word : (lock : Lock) (machine : Machine) (v : Version) → lock_word_place lock machine (told_version v) ≡ lock_word_place lock machine v
told_word SymbolLock machine v = refl
told_word RuntimeLock machine v = told_current machine v
told_word Gil machine v = refl

pub told_words : (l : Layout) (machine : Machine) (v : Version) (holder : ℕ) → runtime_words l machine v holder ≡ runtime_words l machine (told_version v) holder
unfolding runtime_words
told_words l machine v holder =
    let writes : ℕ → Option ℕ → List Write = λ head lock. record { at = head; value = U64 interpreter_at }
    ∷ optional_write (head_field l.head l.offsets) (U64 0x1_0000) ∷ optional_write lock (U64 holder) ∷ [] in
    sym (λ i. object 0x2_0000 (writes (told_head l.head v i) (told_word l.lock machine v i)))

told_lock_by : (lock : Lock) (l : Layout) (v : Version) (machine : Machine) → lock_by lock l (told_version v) machine ≡ lock_by lock l v machine
told_lock_by SymbolLock l v machine = refl
told_lock_by RuntimeLock l v machine = ap runtime_lock (told_current machine v)
told_lock_by Gil l v machine = refl

pub told_lock : (l : Layout) (v : Version) (machine : Machine) → built_lock l (told_version v) machine ≡ built_lock l v machine
told_lock l v machine = told_lock_by l.lock l v machine

pub told_room : (l : Layout) (machine : Machine) (v : Version) → HasWordRoom l machine v → HasWordRoom l machine (told_version v)
told_room l machine v room = subst (λ lock. IfSome (head_field l.head l.offsets) (λ field. IfSome lock (λ word. Apart (field, 8) (word, 8))))
    (sym (told_word l.lock machine v)) room

pub told_covers : (l : Layout) (v : Version) → Covers l v → Covers l (told_version v)
told_covers l v is = record { major = is.major; first = is.first; last = is.last }
