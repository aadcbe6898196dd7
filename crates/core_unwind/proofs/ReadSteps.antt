-- What was read is what the rules of a row come to.
use Rattle.std.proofs.Common.{◌≡◌, ◌∙◌, ℕ, List, sym, ap}
use Rattle.std.specs.Prelude.{Option, Some, None, Result, Ok, Err, IfOk}
use Rattle.process_memory.specs.Memory.{Memory, word_at}
use Rattle.process_memory.specs.declared.memory.ReadFault.{ReadFault}
use Rattle.process_memory.specs.declared.memory.ReadFault.TheVariants.{Unreadable}
use Rattle.process_memory.specs.Seen.{Answers, read_fault}
use Rattle.frame_rows.specs.declared.row.Cfa.{Cfa}
use Rattle.frame_rows.specs.declared.row.Rule.{Rule}
use Rattle.frame_tables.specs.Rows.{expression_of}
use Rattle.core_unwind.specs.declared.end.UnwindError.{UnwindError}
use Rattle.core_unwind.specs.declared.value.Rules.{Rules}
use Rattle.core_unwind.specs.Expressions.{known_word, word_in}
use Rattle.core_unwind.specs.Values.{cfa_by, cfa_of, evaluated_if, expressed, rule_of, saved_at, value_by, value_of}
use Rattle.core_unwind.specs.Values.{word_if}

-- ---- words

pub word_there : (m : Memory) (a n : ℕ) → Answers {E = ReadFault} read_fault (word_at m a) (Ok n) → Some n ≡ word_in m a
word_there m a n p = sym (ap known_word p.is)

-- one that is not in memory
pub word_gone : (m : Memory) (a : ℕ) (e : ReadFault) (b n : ℕ) → Answers {T = ℕ} read_fault (word_at m a) (Err e)
    → e ≡ Unreadable b n → None ≡ word_in m a
word_gone m a e b n p is = sym (ap known_word (rw is at p).is)

-- ---- what a result has

pub result_is : {T : Type 0} {x y : T} (r : Result T UnwindError) → x ≡ y → IfOk r (λ v. v ≡ x) → IfOk r (λ v. v ≡ y)
result_is (Ok v) e p = p ∙ e
result_is (Err error) e p = tt

module _ (rules : Rules) (registers : List (Option ℕ)) (m : Memory) where
  -- what the bytes of an expression come to
  pub expressed_is : (first : Option ℕ) (start end : ℕ) (bytes : Option (List ℕ))
      → expression_of rules.table rules.entry start end ≡ bytes
      → evaluated_if registers m first bytes ≡ expressed rules registers m first start end
  expressed_is first start end bytes e = ap (evaluated_if registers m first) (sym e)

  -- the CFA by its rule
  pub cfa_is : (cfa : Option Cfa) → rules.row.cfa ≡ cfa → cfa_by rules registers m cfa ≡ cfa_of rules registers m
  cfa_is cfa e = ap (cfa_by rules registers m) (sym e)

  -- a register by its rule
  pub value_is : (cfa register : ℕ) (rule : Option Rule) → rule_of rules.row register ≡ rule
      → value_by rules registers m cfa register rule ≡ value_of rules registers m cfa register
  value_is cfa register rule e = ap (value_by rules registers m cfa register) (sym e)

  -- the word where an expression says
  pub saved_is : (cfa start end : ℕ) (address : Option ℕ) → address ≡ expressed rules registers m (Some cfa) start end
      → word_if m address ≡ saved_at rules registers m cfa start end
  saved_is cfa start end address e = ap (word_if m) e
