-- The refusals of an image shut each other out, and an image that says something has none.
use Rattle.std.proofs.Common.{◌≡◌, ◌≢◌, ℕ, List, refl, sym, ap, ◌∙◌, ◌++◌, inl, inr, ⊎_elim, Ok, Err}
use Rattle.std.specs.Prelude.{◌⊎◌, Some, Result, MatchResult, IfErr, IsErrOf}
use Rattle.elf64_core.specs.Header.{IsAccepted, IsElf64}
use Rattle.elf64_core.specs.Sections.{HasSections, sections_of}
use Rattle.elf64_core.specs.Symbols.{symbols_of}
use Rattle.elf64_core.specs.declared.symbol.SymbolKind.TheVariants.{Plain, Dynamic}
use Rattle.py_process.specs.declared.binary.BinaryInfo.{BinaryInfo}
use Rattle.py_process.specs.declared.binary_error.BinaryError.{BinaryError}
use Rattle.py_process.specs.declared.binary_error.BinaryError.TheVariants.{NotElf64, BadHeader, NoBss, NoExecutable}
use Rattle.py_process.specs.declared.binary_error.BinaryError.TheVariants.{BadBss, OutOfMemory}
use Rattle.py_process.specs.declared.ranges.BssRange.{BssRange}
use Rattle.py_process.specs.declared.ranges.Ranges.{Ranges}
use Rattle.py_process.specs.Binary.{HasInfo, IsInfo, SaysFacts, SaySame}
use Rattle.py_process.specs.Facts.{Facts}
use Rattle.py_process.specs.Ranges.{AreRanges, bss_range, moved_by, runtime_range, runtime_section}
use Rattle.py_process.specs.Refusals.{HasBadBss, HasBadHeader, HasNoBss, HasNoExecutable, HasRanges, RefusesImage}
use Rattle.py_process.specs.SymbolMap.{address_of}
use Rattle.py_process.proofs.Bss.{no_bss, one_bss}

same_some : {A : Type 0} (x y : A) → Some x ≡ Some y → x ≡ y
same_some x y e = cc

-- ---- ranges, and why there are none

ranges_no_bss : (bytes : List ℕ) (addr : ℕ) → HasRanges bytes addr → HasNoBss bytes → ⊥
ranges_no_bss bytes addr r h = no_bss bytes (sections_of bytes) r.1.bss h.none r.1.is_bss

ranges_no_executable : (bytes : List ℕ) (addr : ℕ) → HasRanges bytes addr → HasNoExecutable bytes → ⊥
ranges_no_executable bytes addr r h = absurd (cc (r.1.is_segment, h.none))

ranges_bad_bss : (bytes : List ℕ) (addr : ℕ) → HasRanges bytes addr → HasBadBss bytes addr → ⊥
ranges_bad_bss bytes addr r h =
    let bss = one_bss bytes (sections_of bytes) r.1.bss h.bss r.1.is_bss h.is_bss in
    let segment = same_some r.1.segment h.segment (sym r.1.is_segment ∙ h.is_segment) in
    let is : bss_range h.bss (moved_by addr h.segment) ≡ Some r.0.bss =
    ap (λ b. bss_range b (moved_by addr h.segment)) (sym bss) ∙ ap (λ s. bss_range r.1.bss (moved_by addr s)) (sym segment)
    ∙ ap (bss_range r.1.bss) (sym r.1.offset) ∙ r.1.bss_is in
    absurd (cc (is, h.past))

bad_header : (bytes : List ℕ) (addr : ℕ) → HasBadHeader bytes addr → IsAccepted bytes → HasSections bytes → ¬ HasRanges bytes addr → ⊥
bad_header bytes addr bad accepted held none =
    ⊎_elim (λ h. h.1 accepted.readable) (λ h. ⊎_elim (λ s. s.1 held) (λ r. none r.1) h) bad

header_elf : (bytes : List ℕ) (addr : ℕ) → HasBadHeader bytes addr → IsElf64 bytes
header_elf bytes addr bad = ⊎_elim (λ h. h.0) (λ h. ⊎_elim (λ s. s.0.header) (λ r. r.0.header) h) bad

no_executable_bad_bss : (bytes : List ℕ) (addr : ℕ) → HasNoExecutable bytes → HasBadBss bytes addr → ⊥
no_executable_bad_bss bytes addr h g = absurd (cc (h.none, g.is_segment))

bss_no_executable : (bytes : List ℕ) → HasNoBss bytes → HasNoExecutable bytes → ⊥
bss_no_executable bytes h g = no_bss bytes (sections_of bytes) g.bss h.none g.is_bss

bss_bad_bss : (bytes : List ℕ) (addr : ℕ) → HasNoBss bytes → HasBadBss bytes addr → ⊥
bss_bad_bss bytes addr h g = no_bss bytes (sections_of bytes) g.bss h.none g.is_bss

-- ---- one refusal alone

pub one_refusal : (bytes : List ℕ) (addr : ℕ) (e f : BinaryError) → RefusesImage bytes addr e → RefusesImage bytes addr f → e ≢ OutOfMemory
    → f ≢ OutOfMemory → e ≡ f
one_refusal bytes addr OutOfMemory f h g ne nf = absurd (ne refl)
one_refusal bytes addr NotElf64 OutOfMemory h g ne nf = absurd (nf refl)
one_refusal bytes addr BadHeader OutOfMemory h g ne nf = absurd (nf refl)
one_refusal bytes addr NoBss OutOfMemory h g ne nf = absurd (nf refl)
one_refusal bytes addr NoExecutable OutOfMemory h g ne nf = absurd (nf refl)
one_refusal bytes addr BadBss OutOfMemory h g ne nf = absurd (nf refl)
one_refusal bytes addr NotElf64 NotElf64 h g ne nf = refl
one_refusal bytes addr NotElf64 BadHeader h g ne nf = absurd (h (header_elf bytes addr g))
one_refusal bytes addr NotElf64 NoBss h g ne nf = absurd (h g.0.header)
one_refusal bytes addr NotElf64 NoExecutable h g ne nf = absurd (h g.0.header)
one_refusal bytes addr NotElf64 BadBss h g ne nf = absurd (h g.0.header)
one_refusal bytes addr BadHeader NotElf64 h g ne nf = absurd (g (header_elf bytes addr h))
one_refusal bytes addr BadHeader BadHeader h g ne nf = refl
one_refusal bytes addr BadHeader NoBss h g ne nf = absurd (bad_header bytes addr h g.0 g.1.held (λ r. ranges_no_bss bytes addr r g.1))
one_refusal bytes addr BadHeader NoExecutable h g ne nf = absurd (bad_header bytes addr h g.0 g.1.held (λ r. ranges_no_executable bytes addr r g.1))
one_refusal bytes addr BadHeader BadBss h g ne nf = absurd (bad_header bytes addr h g.0 g.1.held (λ r. ranges_bad_bss bytes addr r g.1))
one_refusal bytes addr NoBss NotElf64 h g ne nf = absurd (g h.0.header)
one_refusal bytes addr NoBss BadHeader h g ne nf = absurd (bad_header bytes addr g h.0 h.1.held (λ r. ranges_no_bss bytes addr r h.1))
one_refusal bytes addr NoBss NoBss h g ne nf = refl
one_refusal bytes addr NoBss NoExecutable h g ne nf = absurd (bss_no_executable bytes h.1 g.1)
one_refusal bytes addr NoBss BadBss h g ne nf = absurd (bss_bad_bss bytes addr h.1 g.1)
one_refusal bytes addr NoExecutable NotElf64 h g ne nf = absurd (g h.0.header)
one_refusal bytes addr NoExecutable BadHeader h g ne nf = absurd (bad_header bytes addr g h.0 h.1.held (λ r. ranges_no_executable bytes addr r h.1))
one_refusal bytes addr NoExecutable NoBss h g ne nf = absurd (bss_no_executable bytes g.1 h.1)
one_refusal bytes addr NoExecutable NoExecutable h g ne nf = refl
one_refusal bytes addr NoExecutable BadBss h g ne nf = absurd (no_executable_bad_bss bytes addr h.1 g.1)
one_refusal bytes addr BadBss NotElf64 h g ne nf = absurd (g h.0.header)
one_refusal bytes addr BadBss BadHeader h g ne nf = absurd (bad_header bytes addr g h.0 h.1.held (λ r. ranges_bad_bss bytes addr r h.1))
one_refusal bytes addr BadBss NoBss h g ne nf = absurd (bss_bad_bss bytes addr g.1 h.1)
one_refusal bytes addr BadBss NoExecutable h g ne nf = absurd (no_executable_bad_bss bytes addr g.1 h.1)
one_refusal bytes addr BadBss BadBss h g ne nf = refl

pub no_info : (bytes : List ℕ) (addr : ℕ) (e : BinaryError) → RefusesImage bytes addr e → e ≢ OutOfMemory → HasInfo bytes addr → ⊥
no_info bytes addr NotElf64 h ne info = h info.accepted.header
no_info bytes addr BadHeader h ne info = ⊎_elim (λ s. s.1 info.accepted.readable) (λ s. ⊎_elim (λ t. t.1 info.ranges.1.held) (λ t. t.2 info.both) s) h
no_info bytes addr NoBss h ne info = ranges_no_bss bytes addr info.ranges h.1
no_info bytes addr NoExecutable h ne info = ranges_no_executable bytes addr info.ranges h.1
no_info bytes addr BadBss h ne info = ranges_bad_bss bytes addr info.ranges h.1
no_info bytes addr OutOfMemory h ne info = ne refl

-- ---- from what is right

has_info : (bytes : List ℕ) (addr size : ℕ) (info : BinaryInfo) → IsInfo bytes addr size info → HasInfo bytes addr
has_info bytes addr size info is = record { accepted = is.accepted; ranges = (is.ranges, is.are_ranges); both = is.both }

abbrev IsRight : List ℕ → ℕ → ℕ → Result BinaryInfo BinaryError → Type 0
IsRight bytes addr size result = MatchResult result (IsInfo bytes addr size) (RefusesImage bytes addr)

pub only_right : (bytes : List ℕ) (addr size : ℕ) (result : Result BinaryInfo BinaryError) → IsRight bytes addr size result
    → (error : BinaryError) → error ≢ OutOfMemory → RefusesImage bytes addr error → IsErrOf result OutOfMemory ⊎ (result ≡ Err error)
only_right bytes addr size (Ok info) right error ne refuses = absurd (no_info bytes addr error refuses ne (has_info bytes addr size info right))
only_right bytes addr size (Err OutOfMemory) right error ne refuses = inl refl
only_right bytes addr size (Err NotElf64) right error ne refuses = inr (ap Err (one_refusal bytes addr NotElf64 error right refuses (λ e. absurd (cc)) ne))
only_right bytes addr size (Err BadHeader) right error ne refuses = inr (ap Err (one_refusal bytes addr BadHeader error right refuses (λ e. absurd (cc)) ne))
only_right bytes addr size (Err NoBss) right error ne refuses = inr (ap Err (one_refusal bytes addr NoBss error right refuses (λ e. absurd (cc)) ne))
only_right bytes addr size (Err NoExecutable) right error ne refuses = inr (ap Err (one_refusal bytes addr NoExecutable error right refuses (λ e. absurd (cc)) ne))
only_right bytes addr size (Err BadBss) right error ne refuses = inr (ap Err (one_refusal bytes addr BadBss error right refuses (λ e. absurd (cc)) ne))

wants_memory : (bytes : List ℕ) (addr : ℕ) (e : BinaryError) → RefusesImage bytes addr e → HasInfo bytes addr → e ≡ OutOfMemory
wants_memory bytes addr OutOfMemory h info = refl
wants_memory bytes addr NotElf64 h info = absurd (no_info bytes addr NotElf64 h (λ e. absurd (cc)) info)
wants_memory bytes addr BadHeader h info = absurd (no_info bytes addr BadHeader h (λ e. absurd (cc)) info)
wants_memory bytes addr NoBss h info = absurd (no_info bytes addr NoBss h (λ e. absurd (cc)) info)
wants_memory bytes addr NoExecutable h info = absurd (no_info bytes addr NoExecutable h (λ e. absurd (cc)) info)
wants_memory bytes addr BadBss h info = absurd (no_info bytes addr BadBss h (λ e. absurd (cc)) info)

pub complete_right : (bytes : List ℕ) (addr size : ℕ) (result : Result BinaryInfo BinaryError) → IsRight bytes addr size result
    → HasInfo bytes addr → IfErr result (λ e. e ≡ OutOfMemory)
complete_right bytes addr size (Ok info) right has = tt
complete_right bytes addr size (Err e) right has = wants_memory bytes addr e right has

-- ---- one answer alone

abbrev runtime_of : Ranges → ℕ × ℕ
runtime_of r = (r.runtime_addr, r.runtime_size)

record Same (r s : Ranges) : Type 0 where
  pub offset : r.offset ≡ s.offset
  pub bss : r.bss ≡ s.bss
  pub runtime : runtime_of r ≡ runtime_of s

one_ranges : (bytes : List ℕ) (addr : ℕ) (r s : Ranges) → AreRanges bytes addr r → AreRanges bytes addr s → Same r s
one_ranges bytes addr r s h g =
    let bss = one_bss bytes (sections_of bytes) h.bss g.bss h.is_bss g.is_bss in
    let segment = same_some h.segment g.segment (sym h.is_segment ∙ g.is_segment) in
    let moved : r.offset ≡ s.offset = h.offset ∙ ap (moved_by addr) segment ∙ sym g.offset in
    let range : Some r.bss ≡ Some s.bss = sym h.bss_is ∙ ap (λ b. bss_range b r.offset) bss ∙ ap (bss_range g.bss) moved ∙ g.bss_is in
    record {
      offset = moved;
      bss = same_some r.bss s.bss range;
      runtime = h.runtime_is ∙ ap (runtime_range (runtime_section bytes)) moved ∙ sym g.runtime_is;
    }

pub say_same : (bytes : List ℕ) (addr size : ℕ) (one other : BinaryInfo) → IsInfo bytes addr size one → IsInfo bytes addr size other → SaySame one other
say_same bytes addr size one other h g =
    let same = one_ranges bytes addr h.ranges g.ranges h.are_ranges g.are_ranges in
    record {
      bss_addr = h.bss_addr ∙ ap (λ (b : BssRange). b.addr) same.bss ∙ sym g.bss_addr;
      bss_size = h.bss_size ∙ ap (λ (b : BssRange). b.size) same.bss ∙ sym g.bss_size;
      pyruntime_addr = h.pyruntime_addr ∙ ap (λ (p : ℕ × ℕ). p.0) same.runtime ∙ sym g.pyruntime_addr;
      pyruntime_size = h.pyruntime_size ∙ ap (λ (p : ℕ × ℕ). p.1) same.runtime ∙ sym g.pyruntime_size;
      addr = h.addr_is ∙ sym g.addr_is;
      size = h.size_is ∙ sym g.size_is;
      symbols = λ name. h.symbols name
          ∙ ap (λ o. address_of (record { addr = addr; size = size; offset = o; bss_end = h.ranges.bss.end }) name (symbols_of bytes Plain ++ symbols_of bytes Dynamic)) same.offset
          ∙ ap (λ (b : BssRange). address_of (record { addr = addr; size = size; offset = g.ranges.offset; bss_end = b.end }) name (symbols_of bytes Plain ++ symbols_of bytes Dynamic)) same.bss
          ∙ sym (g.symbols name);
    }

-- an image says one thing
pub facts_once : (bytes : List ℕ) (addr size : ℕ) (f g : Facts) → SaysFacts bytes addr size f → SaysFacts bytes addr size g → f ≡ g
facts_once bytes addr size f g h k =
    let same = one_ranges bytes addr h.ranges k.ranges h.are_ranges k.are_ranges in
    let bss_addr : f.bss_addr ≡ g.bss_addr = h.bss_addr ∙ ap (λ (b : BssRange). b.addr) same.bss ∙ sym k.bss_addr in
    let bss_size : f.bss_size ≡ g.bss_size = h.bss_size ∙ ap (λ (b : BssRange). b.size) same.bss ∙ sym k.bss_size in
    let runtime_addr : f.pyruntime_addr ≡ g.pyruntime_addr = h.pyruntime_addr ∙ ap (λ (p : ℕ × ℕ). p.0) same.runtime ∙ sym k.pyruntime_addr in
    let runtime_size : f.pyruntime_size ≡ g.pyruntime_size = h.pyruntime_size ∙ ap (λ (p : ℕ × ℕ). p.1) same.runtime ∙ sym k.pyruntime_size in
    let symbols : (name : List ℕ) → f.symbols name ≡ g.symbols name = λ name. h.symbols name
    ∙ ap (λ o. address_of (record { addr = addr; size = size; offset = o; bss_end = h.ranges.bss.end }) name (symbols_of bytes Plain ++ symbols_of bytes Dynamic)) same.offset
    ∙ ap (λ (b : BssRange). address_of (record { addr = addr; size = size; offset = k.ranges.offset; bss_end = b.end }) name (symbols_of bytes Plain ++ symbols_of bytes Dynamic)) same.bss
    ∙ sym (k.symbols name) in
    λ i. record {
      symbols = λ name. symbols name i;
      bss_addr = bss_addr i;
      bss_size = bss_size i;
      pyruntime_addr = runtime_addr i;
      pyruntime_size = runtime_size i;
      addr = (h.addr_is ∙ sym k.addr_is) i;
      size = (h.size_is ∙ sym k.size_is) i;
    }

-- what says something is refused for no cause
pub says_has : (bytes : List ℕ) (addr size : ℕ) (f : Facts) → SaysFacts bytes addr size f → HasInfo bytes addr
says_has bytes addr size f h = record { accepted = h.accepted; ranges = (h.ranges, h.are_ranges); both = h.both }
