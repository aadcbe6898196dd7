-- An answer that is right is the answer.
use Rattle.std.proofs.Common.{◌≡◌, ℕ, Bool, true, false, List, [], ◌∷◌, Option, Some, None, Result, Ok, Err, inl, inr}
use Rattle.std.proofs.Common.{refl, sym, ap, subst, ◌∙◌}
use Rattle.std.specs.Prelude.{map}
use Rattle.std.specs.List.{AllZip}
use Rattle.elf64_core.specs.BuildIds.{FoundBuildId, FileHoldsBuildId}
use Rattle.elf64_core.proofs.Found.{BuildIdIs-once}
use Rattle.image_memory.specs.Images.{Pushed, first_under}
use Rattle.image_memory.specs.Mmap.{Mapped, shown_bytes}
use Rattle.maps_text.specs.declared.entry.MapsEntry.{MapsEntry}
use Rattle.normalize_core.specs.declared.error.NormalizeError.{NormalizeError}
use Rattle.normalize_core.specs.declared.meta.UserMeta.{UserMeta}
use Rattle.normalize_core.specs.declared.meta.UserMeta.TheVariants as meta
use Rattle.normalize_core.specs.BuildIds.{id_in, FileHasId, ImageHasId, SoughtId, IsBuildId, own_id}
use Rattle.normalize_core.specs.Normal.{Asked, Normal, IsMetaOf, IsMetaAt, IsNormal, IsNormalOrFault, first_addrs}
use Rattle.normalize_core.specs.Normal.{output_at}
use Rattle.normalize_core.specs.Targets.{Target, covering, target_at}
use Rattle.normalize_core.proofs.Orders.{ascending-once}

FileSays-once : (bytes : List ℕ) (r s : FoundBuildId) → FileHoldsBuildId bytes r → FileHoldsBuildId bytes s → r ≡ s
FileSays-once bytes r s (inl h) (inl k) = h.1 ∙ sym k.1
FileSays-once bytes r s (inl h) (inr (inl k)) = absurd (h.0 k.0)
FileSays-once bytes r s (inl h) (inr (inr k)) = absurd (h.0 k.0.header)
FileSays-once bytes r s (inr (inl h)) (inl k) = absurd (k.0 h.0)
FileSays-once bytes r s (inr (inl h)) (inr (inl k)) = h.2 ∙ sym k.2
FileSays-once bytes r s (inr (inl h)) (inr (inr k)) = absurd (h.1 k.0.readable)
FileSays-once bytes r s (inr (inr h)) (inl k) = absurd (k.0 h.0.header)
FileSays-once bytes r s (inr (inr h)) (inr (inl k)) = absurd (k.1 h.0.readable)
FileSays-once bytes r s (inr (inr h)) (inr (inr k)) = BuildIdIs-once bytes r s h.1 k.1

file_id-once : (bytes : List ℕ) (a b : Option (List ℕ)) → FileHasId bytes a → FileHasId bytes b → a ≡ b
file_id-once bytes a b h k = h.is ∙ ap id_in (FileSays-once bytes h.found k.found h.says k.says) ∙ sym k.is

image_id-once : (image : Option Mapped) (a b : Option (List ℕ)) → ImageHasId image a → ImageHasId image b → a ≡ b
image_id-once None a b h k = h ∙ sym k
image_id-once (Some image) a b h k = file_id-once (shown_bytes image) a b h k

sought_id-once : (on : Bool) (images : Pushed) (path : List ℕ) (a b : Option (List ℕ))
    → SoughtId on images path a → SoughtId on images path b → a ≡ b
sought_id-once false images path a b h k = h ∙ sym k
sought_id-once true images path a b h k = image_id-once (first_under path images) a b h k

build_id-once : (on : Bool) (images : Pushed) (path : List ℕ) (own a b : Option (List ℕ))
    → IsBuildId on images path own a → IsBuildId on images path own b → a ≡ b
build_id-once on images path (Some own) a b h k = h ∙ sym k
build_id-once on images path None a b h k = sought_id-once on images path a b h k

abbrev elf_of : List ℕ → Option (List ℕ) → UserMeta
elf_of path id = meta.Elf (record { path = path; build_id = id })

meta_of-once : (asked : Asked) (entry : Option MapsEntry) (target : Target) (m n : UserMeta)
    → IsMetaOf asked entry target m → IsMetaOf asked entry target n → m ≡ n
meta_of-once asked entry (Err reason) m n h k = h ∙ sym k
meta_of-once asked entry (Ok path) m n h k =
    h.2 ∙ ap (elf_of path) (build_id-once asked.build_ids asked.images path (own_id entry) h.0 k.0 h.1 k.1) ∙ sym k.2

metas-once : (asked : Asked) (addrs : List ℕ) (ms ns : List UserMeta)
    → AllZip (IsMetaAt asked) addrs ms → AllZip (IsMetaAt asked) addrs ns → ms ≡ ns
metas-once asked [] [] [] h k = refl
metas-once asked [] [] (n ∷ ns) h k = absurd k
metas-once asked [] (m ∷ ms) ns h k = absurd h
metas-once asked (a ∷ rest) [] ns h k = absurd h
metas-once asked (a ∷ rest) (m ∷ ms) [] h k = absurd k
metas-once asked (a ∷ rest) (m ∷ ms) (n ∷ ns) h k =
    ap (λ x. x ∷ ms) (meta_of-once asked (covering asked.entries a) (target_at asked.entries asked.map_files a) m n h.0 k.0)
    ∙ ap (λ xs. n ∷ xs) (metas-once asked rest ms ns h.1 k.1)

abbrev normal_with : List (ℕ × ℕ) → List UserMeta → Normal
normal_with outputs metas = record { outputs = outputs; metas = metas }

normal-once : (asked : Asked) (addrs : List ℕ) (x y : Normal) → IsNormal asked addrs x → IsNormal asked addrs y → x ≡ y
normal-once asked addrs x y h k =
    let same = ascending-once addrs h.ascending k.ascending h.same k.same h.sorted k.sorted in
    let outputs = h.outputs ∙ ap (λ up. map (output_at asked up) addrs) same ∙ sym k.outputs in
    let there = subst (λ up. AllZip (IsMetaAt asked) (first_addrs asked up) x.metas) same h.metas in
    let metas = metas-once asked (first_addrs asked k.ascending) x.metas y.metas there k.metas in
    ap (λ os. normal_with os x.metas) outputs ∙ ap (λ ms. normal_with y.outputs ms) metas

pub right-once : (asked : Asked) (sorted : Bool) (addrs : List ℕ) (x y : Result Normal NormalizeError)
    → IsNormalOrFault asked sorted addrs x → IsNormalOrFault asked sorted addrs y → x ≡ y
right-once asked sorted addrs (Ok x) (Ok y) h k = ap (λ (n : Normal). Ok n) (normal-once asked addrs x y h.1 k.1)
right-once asked sorted addrs (Ok x) (Err d) h k = let both : None ≡ Some d = sym h.0 ∙ k in cc
right-once asked sorted addrs (Err e) (Ok y) h k = let both : None ≡ Some e = sym k.0 ∙ h in cc
right-once asked sorted addrs (Err e) (Err d) h k =
    let both : Some e ≡ Some d = sym h ∙ k in
    let is : e ≡ d = cc in
    ap (λ (x : NormalizeError). Err x) is
