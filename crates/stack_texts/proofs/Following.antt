-- The lines of the threads so far, and that those of the rest follow.
use Rattle.std.proofs.Common.{◌≡◌, ℕ, ◌+◌, List, [], ◌∷◌, ◌++◌, Option, ap, ◌∙◌, append_assoc, append-nil, sym, refl}
use Rattle.native_stacks.specs.Threads.{NativeShown}
use Rattle.paired_stacks.specs.declared.stack.PairedStack.{PairedStack}
use Rattle.py_fronts.specs.declared.salvaged.SalvagedInterpreter.{SalvagedInterpreter}
use Rattle.stack_texts.specs.Stacks.{first_pair, other_pairs, thread_text, threads_text}

module _ (files : List (List ℕ)) (limit : ℕ) (is : List SalvagedInterpreter) where
  pub lines_next : (before after total : List ℕ) (rest behind : List NativeShown) (t : NativeShown)
      (left : List (Option PairedStack)) → rest ≡ t ∷ behind
      → before ++ threads_text files limit is rest left ≡ total
      → after ≡ before ++ thread_text files limit is t (first_pair left)
      → after ++ threads_text files limit is behind (other_pairs left) ≡ total
  unfolding threads_text
  lines_next before after total rest behind t left step inv added =
      ap (λ x. x ++ threads_text files limit is behind (other_pairs left)) added
      ∙ append_assoc before (thread_text files limit is t (first_pair left))
      (threads_text files limit is behind (other_pairs left))
      ∙ ap (λ ts. before ++ threads_text files limit is ts left) (sym step) ∙ inv

  pub lines_end : (before total : List ℕ) (rest : List NativeShown) (left : List (Option PairedStack)) → rest ≡ []
      → before ++ threads_text files limit is rest left ≡ total → before ≡ total
  unfolding threads_text
  lines_end before total rest left step inv =
      sym (append-nil before) ∙ ap (λ ts. before ++ threads_text files limit is ts left) (sym step) ∙ inv
