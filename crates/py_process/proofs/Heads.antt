-- Where symbols give no head.
use Rattle.std.proofs.Common.{◌≡◌, ℕ, [], refl, sym, ap, ◌∙◌}
use Rattle.std.specs.Prelude.{Option, Some, None, codes}
use Rattle.process_memory.specs.Memory.{Memory, word_at}
use Rattle.py_fields.specs.declared.version.Version.{Version}
use Rattle.py_fields.specs.declared.layout.Head.{Head}
use Rattle.py_fields.specs.declared.layout.Head.TheVariants.{Symbol, Runtime, Offsets}
use Rattle.py_fields.specs.declared.layout.Layout.{Layout}
use Rattle.py_fields.specs.declared.layout.OffsetsAt.{OffsetsAt}
use Rattle.py_process.specs.Candidates.{at_symbol, head_by, head_from, head_where}
use Rattle.py_process.specs.Facts.{Known, symbol_known}

-- where there is no symbol there is no head
pub no_interp_head : (k : Known) (v : Version) (l : Layout) (m : Memory) → l.head ≡ Symbol → None ≡ symbol_known k (codes "interp_head") → head_by l.head k v l m ≡ []
no_interp_head k v l m is none = ap (λ h. head_by h k v l m) is ∙ ap (λ o. at_symbol o (word_at m)) (sym none)

none_where : (offsets : Option OffsetsAt) (m : Memory) → head_where offsets None m ≡ []
none_where None m = refl
none_where (Some o) m = refl

none_from : (h : Head) (v : Version) (l : Layout) (m : Memory) → head_from h v l m None ≡ []
none_from Symbol v l m = refl
none_from Runtime v l m = refl
none_from Offsets v l m = none_where l.offsets m

-- nor where it isn't known where the runtime's record is, or there is none
pub no_runtime : (h : Head) (v : Version) (l : Layout) (m : Memory) (runtime : Option ℕ) → runtime ≡ None
    → head_from h v l m runtime ≡ []
no_runtime h v l m runtime e = rw e (none_from h v l m)

pub no_record : (h : Head) (v : Version) (l : Layout) (m : Memory) (runtime : Option ℕ) → h ≡ Symbol
    → head_from h v l m runtime ≡ []
no_record h v l m runtime e = ap (λ x. head_from x v l m runtime) e
