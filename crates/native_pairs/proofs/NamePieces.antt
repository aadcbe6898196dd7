-- The pieces of a name, one after another.
use Rattle.std.proofs.Common.{◌≡◌, ℕ, ◌+◌, true, false, not, cond, List, [], ◌∷◌, take, drop, refl, sym, ◌∙◌, ap}
use Rattle.std.proofs.Math.Numerals.{one-add}
use Rattle.std.specs.List.{prefix_len}
use Rattle.native_pairs.specs.Kinds.{is_gap, is_inner, onto_piece, grown, pieces, head_of, tail_of, kind_by_two}
use Rattle.native_pairs.specs.Kinds.{kind_by_pieces, behind_gap, first_piece, behind_first}

abbrev BeginsInner : List ℕ → Type 0
BeginsInner [] = Unit {0}
BeginsInner (c ∷ cs) = is_gap c ≡ false

gap_begins : (text : List ℕ) → BeginsInner (behind_gap text)
gap_begins [] = tt
gap_begins (c ∷ cs) =
    (elim (is_gap c) as (λ b. is_gap c ≡ b → BeginsInner (drop (cond b (1 + prefix_len is_gap cs) 0) (c ∷ cs))) [
      | true ↦ λ _. rw (one-add (prefix_len is_gap cs)) (gap_begins cs)
      | false ↦ λ e. e
    ]) refl

pieces_behind : (text : List ℕ) → pieces text ≡ pieces (behind_gap text)
unfolding pieces
pieces_behind [] = refl
pieces_behind (c ∷ cs) = (elim (is_gap c) as (λ b. is_gap c ≡ b
    → cond b (pieces cs) (grown c cs (pieces cs)) ≡ pieces (drop (cond b (1 + prefix_len is_gap cs) 0) (c ∷ cs))) [
      | true ↦ λ _. rw (one-add (prefix_len is_gap cs)) (pieces_behind cs)
      | false ↦ λ e. rw e refl
    ]) refl

pieces_run : (c : ℕ) (cs : List ℕ) → is_gap c ≡ false
    → pieces (c ∷ cs) ≡ (c ∷ take (prefix_len is_inner cs) cs) ∷ pieces (drop (prefix_len is_inner cs) cs)
unfolding pieces
pieces_run c [] e = rw e refl
pieces_run c (d ∷ ds) e = rw e ((elim (is_gap d) as (λ b. is_gap d ≡ b →
    cond b ((c ∷ []) ∷ cond b (pieces ds) (grown d ds (pieces ds)))
    (onto_piece c (cond b (pieces ds) (grown d ds (pieces ds))))
    ≡ (c ∷ take (cond (not b) (1 + prefix_len is_inner ds) 0) (d ∷ ds))
    ∷ pieces (drop (cond (not b) (1 + prefix_len is_inner ds) 0) (d ∷ ds))) [
      | true ↦ λ s. rw s refl
      | false ↦ λ s. let more : grown d ds (pieces ds) ≡ (d ∷ take (prefix_len is_inner ds) ds)
          ∷ pieces (drop (prefix_len is_inner ds) ds) = rw s at (pieces_run d ds s) in
          rw (one-add (prefix_len is_inner ds)) (ap (onto_piece c) more)
    ]) refl)

first_from : (s : List ℕ) → BeginsInner s → head_of (pieces s) ≡ take (prefix_len is_inner s) s
unfolding pieces
first_from [] _ = refl
first_from (c ∷ cs) e =
    ap head_of (pieces_run c cs e) ∙ sym (rw e (ap (λ n. take n (c ∷ cs)) (one-add (prefix_len is_inner cs))))

rest_from : (s : List ℕ) → BeginsInner s → tail_of (pieces s) ≡ pieces (drop (prefix_len is_inner s) s)
unfolding pieces
rest_from [] _ = refl
rest_from (c ∷ cs) e =
    ap tail_of (pieces_run c cs e) ∙ sym (rw e (ap (λ n. pieces (drop n (c ∷ cs))) (one-add (prefix_len is_inner cs))))

pub head_of_pieces : (text : List ℕ) → head_of (pieces text) ≡ first_piece text
head_of_pieces text = ap head_of (pieces_behind text) ∙ first_from (behind_gap text) (gap_begins text)

pub tail_of_pieces : (text : List ℕ) → tail_of (pieces text) ≡ pieces (behind_first text)
tail_of_pieces text = ap tail_of (pieces_behind text) ∙ rest_from (behind_gap text) (gap_begins text)

pub kind_by_firsts : (text : List ℕ) → kind_by_pieces (pieces text)
    ≡ kind_by_two (first_piece text) (first_piece (behind_first text))
kind_by_firsts text = ap (λ p. kind_by_two p (head_of (tail_of (pieces text)))) (head_of_pieces text)
    ∙ ap (kind_by_two (first_piece text)) (ap head_of (tail_of_pieces text) ∙ head_of_pieces (behind_first text))
