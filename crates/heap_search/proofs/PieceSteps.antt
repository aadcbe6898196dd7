-- Pieces of segments, one after another.
use Rattle.std.proofs.Common.{◌≡◌, ◌≢◌, ℕ, zero, suc, ◌+◌, ◌-◌, ◌*◌, ◌<◌, ◌≤◌, ◌^◌, Bool, true, false, List, [], ◌∷◌, ◌++◌}
use Rattle.std.proofs.Common.{refl, sym, subst, ◌∙◌, ap, arith, append-nil, append_assoc, drop, get_or, length}
use Rattle.std.proofs.lemmas.List.{drop_more}
use Rattle.std.specs.Prelude.{All, min, nat_eq, nat_lt, if◌then◌else◌}
use Rattle.std.proofs.lemmas.Bool.Decides.{nat_tests}
use Rattle.std.proofs.lemmas.List.Elements.{All-append, All-cons, All-nil}
use Rattle.process_memory.specs.Memory.{Memory}
use Rattle.image_memory.specs.declared.maps.CoreMapRange.{CoreMapRange}
use Rattle.heap_search.specs.declared.pieces.HeapPiece.{HeapPiece}
use Rattle.heap_search.specs.Pieces.{IsPiece, heap_pieces, is_cut, piece_there, pieces_from, pieces_there, share}
use Rattle.heap_search.specs.Pieces.{words_in, words_of}

-- ---- the pieces of a segment

pub pieces_none : (turns at words : ℕ) → words ≡ 0 → pieces_from turns at words ≡ []
unfolding pieces_from
pieces_none zero at words e = refl
pieces_none (suc turns) at words e = rw e refl

pub pieces_spent : (at words : ℕ) → pieces_from 0 at words ≡ []
unfolding pieces_from
pieces_spent at words = refl

pub pieces_next : (turns at words count : ℕ) → words ≢ 0 → count ≡ min words 512
    → pieces_from (suc turns) at words
    ≡ record { at = at; count = count } ∷ pieces_from turns (at + 4096) (words - count)
unfolding pieces_from
pieces_next turns at words count some e =
    let no_it : nat_eq words 0 ≡ false = grind (arith, nat_tests) in
    rw (no_it, e) refl

piece_near : (at words : ℕ) → words ≢ 0 → at < 2 ^ 65 → IsPiece (record { at = at; count = min words 512 })
piece_near at words some near = record { some = omega arith; few = omega arith; near = near }

near_by : (turns at words : ℕ) (b : Bool) → nat_eq words 0 ≡ b → at < 2 ^ 65
    → All IsPiece (pieces_from turns (at + 4096) (words - min words 512))
    → All IsPiece (if b then [] else record { at = at; count = min words 512 }
    ∷ pieces_from turns (at + 4096) (words - min words 512))
near_by turns at words true e near rest = All-nil IsPiece
near_by turns at words false e near rest =
    let some : words ≢ 0 = λ z. grind (arith, nat_tests) in
    All-cons IsPiece (record { at = at; count = min words 512 })
    (pieces_from turns (at + 4096) (words - min words 512)) (piece_near at words some near) rest

pub pieces_near : (turns at words : ℕ) → at + 4096 * turns < 2 ^ 65 → All IsPiece (pieces_from turns at words)
unfolding pieces_from
pieces_near zero at words near = All-nil IsPiece
pieces_near (suc turns) at words near =
    near_by turns at words (nat_eq words 0) refl (omega (arith, near))
    (pieces_near turns (at + 4096) (words - min words 512) (omega (arith, near)))

-- ---- those of some segments

pub heap_none : (left : ℕ) → heap_pieces left [] ≡ []
unfolding heap_pieces
heap_none left = refl

pub heap_next : (left : ℕ) (s : CoreMapRange) (rest : List CoreMapRange) (n : ℕ) → n ≡ share left s
    → heap_pieces left (s ∷ rest) ≡ pieces_from 32768 s.segment.addr n ++ heap_pieces (left - n) rest
unfolding heap_pieces
heap_next left s rest n e = rw e refl

pub cut_none : (left : ℕ) → is_cut left [] ≡ false
unfolding is_cut
cut_none left = refl

pub cut_here : (left : ℕ) (s : CoreMapRange) (rest : List CoreMapRange) → share left s < words_of s
    → is_cut left (s ∷ rest) ≡ true
unfolding is_cut
cut_here left s rest less =
    let yes_it : nat_lt (share left s) (words_of s) ≡ true = grind (arith, nat_tests) in
    rw yes_it refl

pub cut_next : (left : ℕ) (s : CoreMapRange) (rest : List CoreMapRange) (n : ℕ) → n ≡ share left s
    → words_of s ≤ n → is_cut left (s ∷ rest) ≡ is_cut (left - n) rest
unfolding is_cut
cut_next left s rest n e less =
    let no_it : nat_lt (share left s) (words_of s) ≡ false = grind (arith, nat_tests) in
    rw (no_it, e) refl

-- ---- their words

pub there_none : (m : Memory) → pieces_there m [] ≡ []
unfolding pieces_there
there_none m = refl

pub there_append : (m : Memory) (ps qs : List HeapPiece)
    → pieces_there m (ps ++ qs) ≡ pieces_there m ps ++ pieces_there m qs
unfolding pieces_there
there_append m [] qs = refl
there_append m (p ∷ ps) qs =
    ap (λ ws. piece_there m p ++ ws) (there_append m ps qs)
    ∙ sym (append_assoc (piece_there m p) (pieces_there m ps) (pieces_there m qs))

pub there_one : (m : Memory) (p : HeapPiece) → pieces_there m (p ∷ []) ≡ piece_there m p
unfolding pieces_there
there_one m p = append-nil (piece_there m p)

pub there_more : (m : Memory) (ps : List HeapPiece) (p : HeapPiece)
    → pieces_there m (ps ++ p ∷ []) ≡ pieces_there m ps ++ piece_there m p
there_more m ps p = there_append m ps (p ∷ []) ∙ ap (λ ws. pieces_there m ps ++ ws) (there_one m p)

pub words_append : (ps qs : List HeapPiece) → words_in (ps ++ qs) ≡ words_in ps + words_in qs
unfolding words_in
words_append [] qs = omega arith
words_append (p ∷ ps) qs = omega (arith, words_append ps qs)

pub words_none : words_in [] ≡ 0
unfolding words_in
words_none = refl

pub words_one : (p : HeapPiece) → words_in (p ∷ []) ≡ p.count
unfolding words_in
words_one p = omega arith

pub words_more : (ps : List HeapPiece) (p : HeapPiece) → words_in (ps ++ p ∷ []) ≡ words_in ps + p.count
words_more ps p = words_append ps (p ∷ []) ∙ ap (λ n. words_in ps + n) (words_one p)

-- ---- a segment, piece by piece

-- the pieces that were added so far, and what is left
pub record Cutting (start : List HeapPiece) (addr words : ℕ) (pieces : List HeapPiece) (turns at left : ℕ) : Type 0 where
  pub within : turns ≤ 32768
  pub place : at + 4096 * turns ≡ addr + 4096 * 32768
  pub all : pieces ++ pieces_from turns at left ≡ start ++ pieces_from 32768 addr words

pub cutting_init : (start : List HeapPiece) (addr words : ℕ) → Cutting start addr words start 32768 addr words
cutting_init start addr words = record { within = omega arith; place = refl; all = refl }

module _ {start : List HeapPiece} {addr words : ℕ} {pieces : List HeapPiece} {turns at left : ℕ} where
  pub cutting_more : (count : ℕ) → Cutting start addr words pieces turns at left → turns ≢ 0 → left ≢ 0
      → count ≡ min left 512
      → Cutting start addr words (pieces ++ record { at = at; count = count } ∷ []) (turns - 1) (at + 4096) (left - count)
  cutting_more count w some more e =
      let next : turns ≡ suc (turns - 1) = omega arith in
      record {
        within = omega (arith, w.within);
        place = omega (arith, w.place);
        all = append_assoc pieces (record { at = at; count = count } ∷ []) (pieces_from (turns - 1) (at + 4096) (left - count))
            ∙ ap (λ ps. pieces ++ ps) (sym (pieces_next (turns - 1) at left count more e))
            ∙ ap (λ n. pieces ++ pieces_from n at left) (sym next) ∙ w.all;
      }

  pub cutting_empty : Cutting start addr words pieces turns at left → left ≡ 0
      → pieces ≡ start ++ pieces_from 32768 addr words
  cutting_empty w e =
      sym (append-nil pieces) ∙ ap (λ ps. pieces ++ ps) (sym (pieces_none turns at left e)) ∙ w.all

  pub cutting_done : Cutting start addr words pieces turns at left → turns ≡ 0
      → pieces ≡ start ++ pieces_from 32768 addr words
  cutting_done w e =
      sym (append-nil pieces)
      ∙ ap (λ ps. pieces ++ ps) (sym (ap (λ n. pieces_from n at left) e ∙ pieces_spent at left)) ∙ w.all

-- ---- segments, one after another

-- one of them is taken
pub segment_next : (maps : List CoreMapRange) (i : ℕ) (s : CoreMapRange) → i < length maps → s ≡ get_or maps i s
    → drop i maps ≡ s ∷ drop (i + 1) maps
segment_next maps i s lt is = drop_more maps i s lt ∙ ap (λ x. x ∷ drop (i + 1) maps) (sym is)

-- the pieces of the segments in front of an index, and how many words may be looked at yet
pub record Heaping (maps : List CoreMapRange) (pieces : List HeapPiece) (left index : ℕ) : Type 0 where
  pub all : pieces ++ heap_pieces left (drop index maps) ≡ heap_pieces 16777216 maps
  pub each : All IsPiece pieces
  pub few : left ≤ 16777216

pub heaping_init : (maps : List CoreMapRange) → Heaping maps [] 16777216 0
heaping_init maps = record { all = refl; each = All-nil IsPiece; few = omega arith }

module _ {maps : List CoreMapRange} {pieces : List HeapPiece} {left index : ℕ} where
  pub heaping_more : (s : CoreMapRange) (n : ℕ) (new : List HeapPiece) → Heaping maps pieces left index
      → drop index maps ≡ s ∷ drop (index + 1) maps → n ≡ share left s
      → new ≡ pieces ++ pieces_from 32768 s.segment.addr n → All IsPiece (pieces_from 32768 s.segment.addr n)
      → Heaping maps new (left - n) (index + 1)
  heaping_more s n new w next e is near = record {
    all = ap (λ ps. ps ++ heap_pieces (left - n) (drop (index + 1) maps)) is
        ∙ append_assoc pieces (pieces_from 32768 s.segment.addr n) (heap_pieces (left - n) (drop (index + 1) maps))
        ∙ ap (λ ps. pieces ++ ps) (sym (heap_next left s (drop (index + 1) maps) n e))
        ∙ ap (λ ms. pieces ++ heap_pieces left ms) (sym next) ∙ w.all;
    each = subst (All IsPiece) (sym is) (All-append IsPiece pieces (pieces_from 32768 s.segment.addr n) w.each near);
    few = omega (arith, w.few);
  }

  pub heaping_done : Heaping maps pieces left index → drop index maps ≡ [] → pieces ≡ heap_pieces 16777216 maps
  heaping_done w e =
      sym (append-nil pieces)
      ∙ ap (λ ps. pieces ++ ps) (sym (ap (heap_pieces left) e ∙ heap_none left)) ∙ w.all

-- whether there are more words, by those that are left
pub record Cutting_off (maps : List CoreMapRange) (left index : ℕ) : Type 0 where
  pub all : is_cut left (drop index maps) ≡ is_cut 16777216 maps

pub off_init : (maps : List CoreMapRange) → Cutting_off maps 16777216 0
off_init maps = record { all = refl }

module _ {maps : List CoreMapRange} {left index : ℕ} where
  pub off_more : (s : CoreMapRange) (n all : ℕ) → Cutting_off maps left index
      → drop index maps ≡ s ∷ drop (index + 1) maps → all ≡ words_of s → n ≡ min all left → all ≤ n
      → Cutting_off maps (left - n) (index + 1)
  off_more s n all w next e is less =
      let shared : n ≡ share left s = is ∙ ap (λ k. min k left) e in
      record {
        all = sym (cut_next left s (drop (index + 1) maps) n shared (omega (arith, e, less)))
            ∙ ap (is_cut left) (sym next) ∙ w.all;
      }

  pub off_here : (s : CoreMapRange) (n all : ℕ) → Cutting_off maps left index
      → drop index maps ≡ s ∷ drop (index + 1) maps → all ≡ words_of s → n ≡ min all left → n < all
      → true ≡ is_cut 16777216 maps
  off_here s n all w next e is less =
      let shared : n ≡ share left s = is ∙ ap (λ k. min k left) e in
      sym (cut_here left s (drop (index + 1) maps) (omega (arith, e, less, shared)))
      ∙ ap (is_cut left) (sym next) ∙ w.all

  pub off_done : Cutting_off maps left index → drop index maps ≡ [] → false ≡ is_cut 16777216 maps
  off_done w e = sym (cut_none left) ∙ ap (is_cut left) (sym e) ∙ w.all
