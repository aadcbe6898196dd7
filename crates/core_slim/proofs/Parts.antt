-- The memory of a slim core is a part of the whole memory, with all of the ranges.
use Rattle.std.proofs.Common.{◌≡◌, ℕ, ◌+◌, cond, Bool, true, false, List, get_or, sym, ap, subst, ◌∙◌, arith}
use Rattle.std.specs.Prelude.{All, IsSome, None, Option, Some}
use Rattle.std.proofs.lemmas.Option.{get_or_from_slice_get, slice_get_within}
use Rattle.process_memory.specs.Memory.{Memory}
use Rattle.process_memory.specs.Seen.{HoldsSpan, IsPartWith}
use Rattle.process_memory.specs.declared.memory.Span.{Span}
use Rattle.core_slim.specs.Joined.{covers, lies_in}
use Rattle.core_slim.specs.Slim.{part_of}
use Rattle.core_slim.proofs.Joining.{covers_within, lies_of}

kept_byte : (t : Bool) (o : Option ℕ) (b : ℕ) → cond t o None ≡ Some b → o ≡ Some b
kept_byte true o b is = is
kept_byte false o b is = absurd (cc)

pub part_held : (m part : Memory) (ranges : List Span) → ((a : ℕ) → part a ≡ part_of ranges m a)
    → All (HoldsSpan m) ranges
    → IsPartWith m ranges part
part_held m part ranges same held = record {
  agrees = λ a b is. kept_byte (lies_in ranges a) (m a) b (sym (same a) ∙ is);
  holds = λ k s is j less.
      let lt = slice_get_within ranges k s is in
      let at : get_or ranges k s ≡ s = get_or_from_slice_get ranges k s s is in
      let there : IsSome (m (s.start + j)) = subst (HoldsSpan m) at (held k s lt) j less in
      let here : covers (s.start + j) (get_or ranges k s) ≡ true =
      ap (covers (s.start + j)) at ∙ covers_within (s.start + j) s (omega arith) (omega arith) in
      let lies : lies_in ranges (s.start + j) ≡ true = lies_of ranges k s (s.start + j) lt here in
      subst IsSome (sym (same (s.start + j) ∙ ap (λ t. cond t (m (s.start + j)) None) lies)) there;
}

-- so is that of a whole memory
pub whole_held : (m : Memory) (ranges : List Span) → All (HoldsSpan m) ranges → IsPartWith m ranges m
whole_held m ranges held = record {
  agrees = λ a b is. is;
  holds = λ k s is.
      let lt = slice_get_within ranges k s is in
      subst (HoldsSpan m) (get_or_from_slice_get ranges k s s is) (held k s lt);
}
