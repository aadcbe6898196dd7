-- What a file says is one answer alone.
use Rattle.std.proofs.Common.{◌≡◌, ◌∙◌, ℕ, List, sym, ap, inl, inr}
use Rattle.std.specs.Prelude.{Option, Some, None, Result, Ok, Err, option_copied}
use Rattle.std.specs.List.{find}
use Rattle.frame_tables.specs.declared.flaw.TableError.{TableError}
use Rattle.frame_tables.specs.declared.flaw.TableError.TheVariants.{NotElf, BadHeaders}
use Rattle.frame_tables.specs.declared.header.Heading.{Heading}
use Rattle.frame_tables.specs.Headers.{Opens, heading_of, opened}
use Rattle.core_unwind.specs.declared.end.End.{End}
use Rattle.core_unwind.specs.declared.place.Mapping.{Mapping}
use Rattle.core_unwind.specs.Places.{IsCodeAddress, IsOpened, IsSpot, IsSpotAt, IsSpotIn, IsSpotOf, Site, address_in}
use Rattle.core_unwind.specs.Places.{holds}
use Rattle.core_unwind.specs.Places.{site_in, word_or_none}

-- ---- tables

pub opens_once : (file : List ℕ) (x y : Result (List ℕ) TableError) → Opens file x → Opens file y → x ≡ y
opens_once file x y (inl p) (inl q) = p.1 ∙ sym q.1
opens_once file x y (inl p) (inr (inl q)) = absurd (p.0 q.0)
opens_once file x y (inl p) (inr (inr q)) = absurd (p.0 q.0.header)
opens_once file x y (inr (inl p)) (inl q) = absurd (q.0 p.0)
opens_once file x y (inr (inl p)) (inr (inl q)) = p.2 ∙ sym q.2
opens_once file x y (inr (inl p)) (inr (inr q)) = absurd (p.1 q.0.readable)
opens_once file x y (inr (inr p)) (inl q) = absurd (q.0 p.0.header)
opens_once file x y (inr (inr p)) (inr (inl q)) = absurd (q.1 p.0.readable)
opens_once file x y (inr (inr p)) (inr (inr q)) = p.1 ∙ sym q.1

headed_same : (bytes file : List ℕ) (h : Result Heading TableError) → Ok file ≡ opened bytes h → bytes ≡ file
headed_same bytes file (Ok h) is = cc
headed_same bytes file (Err e) is = absurd cc

ok_or_err : (file : List ℕ) (e : TableError) → ◌≡◌ {A = Result (List ℕ) TableError} (Ok file) (Err e) → ⊥
ok_or_err file e is = cc

-- a table is that of the file's bytes
pub opens_same : (bytes file : List ℕ) → Opens bytes (Ok file) → bytes ≡ file
opens_same bytes file (inl p) = absurd (ok_or_err file NotElf p.1)
opens_same bytes file (inr (inl p)) = absurd (ok_or_err file BadHeaders p.2)
opens_same bytes file (inr (inr p)) = headed_same bytes file (heading_of bytes) p.1

-- ---- places

opened_once : (file : List ℕ) (x y : Option (List ℕ)) → IsOpened file x → IsOpened file y → x ≡ y
opened_once file x y (inl p) (inl q) = p.1 ∙ sym q.1
opened_once file x y (inl p) (inr q) = absurd (p.0 q.0)
opened_once file x y (inr p) (inl q) = absurd (q.0 p.0)
opened_once file x y (inr p) (inr q) = p.1 ∙ sym q.1

code_once : (file : List ℕ) (place : ℕ) (x y : Option ℕ) → IsCodeAddress file place x → IsCodeAddress file place y
    → x ≡ y
code_once file place x y p q =
    p.is ∙ ap (λ e. address_in e place) (opened_once file p.elf q.elf p.opened q.opened) ∙ sym q.is

placed_once : (at file : ℕ) (bytes : List ℕ) (place : Option ℕ) (x y : Result Site End) → IsSpotAt at file bytes place x
    → IsSpotAt at file bytes place y → x ≡ y
placed_once at file bytes None x y p q = p ∙ sym q
placed_once at file bytes (Some place) x y p q =
    p.2 ∙ ap (site_in at file bytes) (code_once bytes place p.0 q.0 p.1 q.1) ∙ sym q.2

filed_once : (at file place : ℕ) (bytes : Option (List ℕ)) (x y : Result Site End) → IsSpotOf at file place bytes x
    → IsSpotOf at file place bytes y → x ≡ y
filed_once at file place None x y p q = p ∙ sym q
filed_once at file place (Some bytes) x y p q = placed_once at file bytes (word_or_none place) x y p q

mapped_once : (at : ℕ) (mapping : Option Mapping) (x y : Result Site End) → IsSpotIn at mapping x → IsSpotIn at
    mapping y
    → x ≡ y
mapped_once at None x y p q = p ∙ sym q
mapped_once at (Some m) x y p q = filed_once at m.file _ (option_copied m.bytes) x y p q

pub spot_once : (mappings : List Mapping) (at : ℕ) (x y : Result Site End) → IsSpot mappings at x → IsSpot mappings at y
    → x ≡ y
spot_once mappings at x y p q = mapped_once at (find (holds at) mappings) x y p q
