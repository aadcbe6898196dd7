-- Maps of C files by their paths: what reading a path gives, and that a path whose bytes are told has one map.
use Rattle.std.proofs.Common.{◌≡◌, ℕ, Bool, true, false, List, refl, sym, ap, subst, ◌∙◌, inl, inr}
use Rattle.std.specs.Prelude.{Option, Some, None}
use Rattle.std.proofs.lemmas.Option.{same_Some}
use Rattle.outside.specs.Files.{Gives, held_bytes}
use Rattle.native_merge.specs.Paths.{cython_file}
use Rattle.native_merge.specs.MapsOfFiles.{FilesMapOnce, HasBytes, IsMapOfBytes, IsMapOfFile, MapOrNone}
use Rattle.native_merge.specs.Sources.{SourcesSeen}
use Rattle.native_merge.proofs.Marks.{maps_once}

not_false : (b : Bool) → (b ≡ false → ⊥) → b ≡ true
not_false true other = refl
not_false false other = absurd (other refl)

-- the bytes that were given have this map, by the paths that exist after the call, which are those before it
pub map_read : (seen : SourcesSeen) (exists : List ℕ → Bool) (path asked : List ℕ) (module_name : Option (List ℕ)) (bytes read : List ℕ) (answer : MapOrNone)
    → asked ≡ path → read ≡ bytes → (seen.exists asked ≡ false → ⊥) → Gives seen.told asked bytes → exists ≡ seen.exists
    → IsMapOfBytes (cython_file exists path module_name) read answer → IsMapOfFile seen path module_name answer
map_read seen exists path asked module_name bytes read answer is reads there gives same map =
    let has : HasBytes seen asked bytes = record { exists = not_false (seen.exists asked) there; told = gives } in
    let by_bytes : IsMapOfBytes (cython_file exists path module_name) bytes answer =
    subst (λ (bs : List ℕ). IsMapOfBytes (cython_file exists path module_name) bs answer) reads map in
    inr (
      bytes,
      subst (λ (p : List ℕ). HasBytes seen p bytes) is has,
      subst (λ (e : List ℕ → Bool). IsMapOfBytes (cython_file e path module_name) bytes answer) same by_bytes,
    )

-- ---- one map

one_map : (file_of : List ℕ → List ℕ) (bytes : List ℕ) (answer other : MapOrNone) → IsMapOfBytes file_of bytes answer → IsMapOfBytes file_of bytes other → answer ≡ other
one_map file_of bytes None None a b = refl
one_map file_of bytes None (Some map) a b = absurd (a b.0)
one_map file_of bytes (Some map) None a b = absurd (b a.0)
one_map file_of bytes (Some map) (Some again) a b = ap Some (maps_once file_of bytes map again a.1 b.1)

held : (told : Option (List (List ℕ × List ℕ))) (files : List (List ℕ × List ℕ)) (path bytes : List ℕ) → told ≡ Some files → Gives told path bytes → held_bytes files path ≡ Some bytes
held told files path bytes is gives = subst (λ (t : Option (List (List ℕ × List ℕ))). Gives t path bytes) is gives

pub files_map_once : FilesMapOnce
files_map_once seen files path module_name answer other told (inl a) (inl b) = a.1 ∙ sym b.1
files_map_once seen files path module_name answer other told (inl a) (inr b) = let e : false ≡ true = sym a.0 ∙ b.1.exists in absurd (cc)
files_map_once seen files path module_name answer other told (inr a) (inl b) = let e : false ≡ true = sym b.0 ∙ a.1.exists in absurd (cc)
files_map_once seen files path module_name answer other told (inr a) (inr b) =
    let same : a.0 ≡ b.0 = same_Some a.0 b.0 (sym (held seen.told files path a.0 told a.1.told) ∙ held seen.told files path b.0 told b.1.told) in
    one_map (cython_file seen.exists path module_name) b.0 answer other
    (subst (λ (bytes : List ℕ). IsMapOfBytes (cython_file seen.exists path module_name) bytes answer) same a.2) b.2
