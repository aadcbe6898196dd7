-- The bytes of pieces, and the segments of these.
use Rattle.std.proofs.Common.{◌≡◌, ℕ, zero, suc, ◌+◌, ◌-◌, ◌%◌, ◌<◌, ◌≤◌, ◌^◌, List, [], ◌∷◌, ◌++◌, length, take, drop}
use Rattle.std.proofs.Common.{get_or, refl, sym, ap, ap₂, ◌∙◌, arith, inl, inr, add-zero, add_assoc, append_assoc}
use Rattle.std.proofs.Common.{length-append}
use Rattle.std.specs.Prelude.{Some, None, slice_get, unwrap_or, replicate}
use Rattle.std.specs.List.{flat_map}
use Rattle.std.proofs.Math.ListN.{get_or-append}
use Rattle.std.proofs.lemmas.Bool.{cases_lt}
use Rattle.std.proofs.lemmas.List.{drop_more, get_or-append-add, take-replicate}
use Rattle.std.proofs.lemmas.Option.{get_or_from_slice_get, slice_get_within}
use Rattle.elf64_core.specs.Notes.{padded}
use Rattle.elf64_core.specs.declared.header.Machine.{Machine}
use Rattle.elf64_core.specs.declared.segment.Segment.{Segment}
use Rattle.process_memory.specs.Memory.{Memory, Region, byte_at, bytes_at}
use Rattle.process_memory.specs.Seen.{HoldsSpan}
use Rattle.process_memory.specs.declared.memory.Span.{Span}
use Rattle.process_memory.proofs.Records.{byte_at-below}
use Rattle.image_memory.specs.Notes.{note_bytes}
use Rattle.elf64_core.specs.Header.{machine_of}
use Rattle.core_slim.specs.Slim.{filled, piece_bytes, piece_segment, slim_core, slim_segments}
use Rattle.core_slim.specs.Files.{contents_start, file_header, file_of, number_of, program_header, zeros}

-- ---- bytes

bytes_each : (m : Memory) (a : ℕ) (bs : List ℕ) → ((k : ℕ) → k < length bs → m (a + k) ≡ Some (get_or bs k 0))
    → bytes_at m a (length bs) ≡ Some bs
unfolding bytes_at
bytes_each m a [] h = refl
bytes_each m a (b ∷ bs) h =
    let here : m (a + 0) ≡ Some b = h 0 (omega arith) in
    let here2 : m a ≡ Some b = rw add-zero at here in
    let rest : bytes_at m (a + 1) (length bs) ≡ Some bs =
    bytes_each m (a + 1) bs (λ k lt. rw (add_assoc a 1 k) (next k lt)) in
    rw (here2, rest) refl
  where
    next : (k : ℕ) → k < length bs → m (a + (1 + k)) ≡ Some (get_or bs k 0)
    next k lt = let e : 1 + k ≡ suc k = omega arith in rw e (h (suc k) (omega arith))

-- bytes that were copied from an address on
pub record AreCopied (m : Memory) (start count : ℕ) (bytes : List ℕ) : Type 0 where
  pub counted : length bytes ≡ count
  pub each : (k : ℕ) → k < count → m (start + k) ≡ Some (get_or bytes k 0)

pub none_copied : (m : Memory) (start : ℕ) → AreCopied m start 0 []
none_copied m start = record { counted = refl; each = λ k lt. absurd (omega arith) }

pub more_copied : (m : Memory) (start count next : ℕ) (bytes run : List ℕ) → AreCopied m start count bytes
    → ((k : ℕ) → k < length run → m (start + count + k) ≡ Some (get_or run k 0)) → next ≡ count + length run
    → AreCopied m start next (bytes ++ run)
more_copied m start count next bytes run is more sum = record {
  counted = omega (arith, length-append bytes run, is.counted, sum);
  each = λ k lt. elim (cases_lt k count) [
    | inl below ↦ is.each k below ∙ ap Some (sym (get_or-append bytes run 0 k (omega (arith, is.counted))))
    | inr over ↦
        let same : start + k ≡ start + count + (k - count) = omega arith in
        let at : k ≡ length bytes + (k - count) = omega (arith, is.counted) in
        ap m same ∙ more (k - count) (omega (arith, sum))
        ∙ ap Some (sym (ap (λ i. get_or (bytes ++ run) i 0) at ∙ get_or-append-add bytes run (k - count) 0))
  ];
}

pub all_copied : (m : Memory) (p : Span) (bytes : List ℕ) → AreCopied m p.start p.len bytes → bytes ≡ piece_bytes m p
all_copied m p bytes is =
    let there : bytes_at m p.start p.len ≡ Some bytes =
    ap (bytes_at m p.start) (sym is.counted)
    ∙ bytes_each m p.start bytes (λ k lt. is.each k (omega (arith, is.counted))) in
    sym (ap (λ o. unwrap_or o []) there)

-- a piece that is in memory ends at 2^64 - 1 at most
pub held_ends : (rs : List Region) (p : Span) → 0 < p.len → HoldsSpan (byte_at rs) p → p.start + p.len ≤ 2 ^ 64 - 1
held_ends rs p some held =
    let last : p.start + (p.len - 1) < 2 ^ 64 - 1 =
    byte_at-below rs (p.start + (p.len - 1)) (held (p.len - 1) (omega arith)) in
    omega (arith, last)

-- ---- segments

pub segment_more : (whole segments next : List Segment) (offset further size : ℕ) (ps : List Span) (i : ℕ) (d : Span)
    → i < length ps
    → segments ++ slim_segments offset size (drop i ps) ≡ whole
    → next ≡ segments ++ piece_segment offset (get_or ps i d) ∷ []
    → further ≡ offset + (get_or ps i d).len → next ++ slim_segments further size (drop (i + 1) ps) ≡ whole
segment_more whole segments next offset further size ps i d lt is more sum =
    let p = get_or ps i d in
    let rest = slim_segments (offset + p.len) size (drop (i + 1) ps) in
    ap₂ (λ ss o. ss ++ slim_segments o size (drop (i + 1) ps)) more sum
    ∙ append_assoc segments (piece_segment offset p ∷ []) rest
    ∙ ap (λ qs. segments ++ slim_segments offset size qs) (sym (drop_more ps i d lt)) ∙ is

-- ---- notes

fills_by : (notes fill : List ℕ) (missing : ℕ) → missing ≡ padded (length notes) - length notes → fill ≡ zeros missing
    → notes ++ fill ≡ filled notes
fills_by notes fill missing same is = ap (λ bytes. notes ++ bytes) (is ∙ ap zeros same)

missing_of : (n missing : ℕ) → missing ≡ (4 - n % 4) % 4 → (missing ≤ 3) × (missing ≡ padded n - n)
missing_of n missing is = (omega arith, omega arith)

pub fills : (notes : List ℕ) (missing : ℕ) → missing ≡ (4 - length notes % 4) % 4
    → notes ++ take missing (replicate 3 0) ≡ filled notes
fills notes missing is =
    let n = missing_of (length notes) missing is in
    fills_by notes (take missing (replicate 3 0)) missing n.1 (take-replicate missing 3 0 n.0)

pub note_more : (whole bytes next notes : List ℕ) (all : List (List ℕ)) (i : ℕ) → slice_get all i ≡ Some notes
    → bytes ++ flat_map filled (drop i all) ≡ whole → next ≡ bytes ++ filled notes
    → next ++ flat_map filled (drop (i + 1) all) ≡ whole
note_more whole bytes next notes all i is before more =
    let lt = slice_get_within all i notes is in
    let same : get_or all i notes ≡ notes = get_or_from_slice_get all i notes notes is in
    ap (λ b. b ++ flat_map filled (drop (i + 1) all)) more
    ∙ append_assoc bytes (filled notes) (flat_map filled (drop (i + 1) all))
    ∙ ap (λ b. bytes ++ b)
    (sym (ap (flat_map filled) (drop_more all i notes lt ∙ ap (λ n. n ∷ drop (i + 1) all) same))) ∙ before

pub past_end : {X : Type 0} (xs : List X) (i : ℕ) → slice_get xs i ≡ None → length xs ≤ i
past_end [] i is = omega arith
past_end (x ∷ xs) zero is = absurd (cc)
past_end (x ∷ xs) (suc i) is = omega (arith, past_end xs i is)

-- ---- a slim core

pub length-slim_segments : (offset size : ℕ) (ps : List Span) → length (slim_segments offset size ps) ≡ length ps + 1
length-slim_segments offset size [] = refl
length-slim_segments offset size (p ∷ ps) = omega (arith, length-slim_segments (offset + p.len) size ps)

together : (a b c d : List ℕ) → ((a ++ b) ++ c) ++ d ≡ a ++ (b ++ (c ++ d))
together a b c d = simp append_assoc

pub slim_together : (core : List ℕ) (m : Memory) (pieces : List Span) (segments : List Segment) (notes : List ℕ)
    → notes ≡ flat_map filled (note_bytes core)
    → segments ≡ slim_segments (contents_start (length pieces + 1)) (length notes) pieces
    → ((file_header (number_of (machine_of core)) (length segments) ++ flat_map program_header segments)
    ++ flat_map (piece_bytes m) pieces) ++ notes ≡ slim_core core m pieces
unfolding slim_core file_of
slim_together core m pieces segments notes are is =
    let bytes = flat_map (piece_bytes m) pieces in
    together (file_header (number_of (machine_of core)) (length segments)) (flat_map program_header segments) bytes
    notes
    ∙ ap
    (λ (ss : List Segment).
    file_header (number_of (machine_of core)) (length ss) ++ (flat_map program_header ss ++ (bytes ++ notes)))
    is
    ∙ ap
    (λ (ns : List ℕ).
    let ss = slim_segments (contents_start (length pieces + 1)) (length ns) pieces in
    file_header (number_of (machine_of core)) (length ss) ++ (flat_map program_header ss ++ (bytes ++ ns)))
    are

-- what was written part by part
pub slim_made : (core : List ℕ) (m : Memory) (pieces : List Span) (found notes : List ℕ) (start size : ℕ)
    (segments : List Segment) (machine : Machine) (none one two whole : List ℕ)
    → found ≡ core → notes ≡ flat_map filled (note_bytes found) → start ≡ contents_start (length pieces + 1)
    → size ≡ length notes → segments ≡ slim_segments start size pieces → none ≡ [] → machine ≡ machine_of found
    → one ≡ (none ++ file_header (number_of machine) (length segments)) ++ flat_map program_header segments
    → two ≡ one ++ flat_map (piece_bytes m) pieces → whole ≡ two ++ notes → whole ≡ slim_core core m pieces
slim_made core m pieces found notes start size segments machine none one two whole same notes_are start_is size_is
    segments_are none_is machine_is one_is two_is whole_is =
    let bytes = flat_map (piece_bytes m) pieces in
    let headers = λ (e : List ℕ) (h : Machine).
    (e ++ file_header (number_of h) (length segments)) ++ flat_map program_header segments in
    let headed = one_is ∙ ap₂ headers none_is (machine_is ∙ ap machine_of same) in
    whole_is ∙ ap (λ b. b ++ notes) (two_is ∙ ap (λ b. b ++ bytes) headed)
    ∙ slim_together core m pieces segments notes (notes_are ∙ ap (λ c. flat_map filled (note_bytes c)) same)
    (segments_are ∙ ap₂ (λ s z. slim_segments s z pieces) start_is size_is)
