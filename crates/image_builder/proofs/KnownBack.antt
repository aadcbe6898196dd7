-- The program of a built core is its first map, no library is mapped, and its image tells what is known.
use Rattle.std.proofs.Common.{subst, ◌≡◌, ℕ, ◌-◌, Bool, true, false, eqb, not, List, [], ◌∷◌, ◌++◌, length, take, refl}
use Rattle.std.proofs.Common.{sym, ap, ◌∙◌, arith, rules}
use Rattle.std.specs.Prelude.{Some, None, ◌&&◌, max}
use Rattle.std.proofs.lemmas.List.Elements.{All-cons, All-nil}
use Rattle.image_memory.specs.Mmap.{shown_bytes, whole_view}
use Rattle.image_memory.specs.declared.maps.CoreMapRange.{CoreMapRange}
use Rattle.elf64_core.specs.declared.header.Machine.{Machine}
use Rattle.py_process.specs.Binary.{SaysFacts}
use Rattle.py_process.specs.Library.{IsLibrary}
use Rattle.py_process.specs.Programs.{ArePrograms, ImageSays, IsKnown, IsLibraryMap}
use Rattle.memory_builder.proofs.Sums.{take_all}
use Rattle.image_builder.specs.CoreFacts.{built_maps, built_programs, map_of}
use Rattle.image_builder.specs.CoreFiles.{image_path}
use Rattle.image_builder.specs.ImageFacts.{image_facts, image_known}
use Rattle.image_builder.specs.ImageFiles.{image_file}
use Rattle.image_builder.proofs.ImageBack.{image_says}
use Rattle.image_builder.proofs.Lengths.{length-image}

-- ---- no library

abbrev begins_l : List ℕ → Bool
begins_l [] = false
begins_l (c ∷ cs) = eqb c 108

abbrev lacks : List ℕ → Bool
lacks [] = true
lacks (c ∷ cs) = not (eqb c 47 && begins_l cs) && lacks cs

lacks_rest : (c : ℕ) (cs : List ℕ) → lacks (c ∷ cs) ≡ true → lacks cs ≡ true
lacks_rest c cs e = by (not (eqb c 47 && begins_l cs)) (lacks cs) e
  where
    by : (p q : Bool) → (p && q) ≡ true → q ≡ true
    by true q e = e
    by false q e = absurd (cc)

lacks_name : (before rest : List ℕ) → lacks (before ++ (47 ∷ 108 ∷ rest)) ≡ true → ⊥
lacks_name [] rest e = absurd (let no_name : false ≡ true = e in cc)
lacks_name (b ∷ before) rest e = lacks_name before rest (lacks_rest b (before ++ (47 ∷ 108 ∷ rest)) e)

no_library : ¬ IsLibrary image_path
no_library h =
    let whole = h.parts ∙ ap (λ n. h.before ++ (n ++ h.after)) h.is_name.parts in
    lacks_name h.before _ (subst (λ p. lacks p ≡ true) whole refl)

-- ---- the programs

abbrev NoLibrary : CoreMapRange → Type 0
NoLibrary m = ¬ IsLibraryMap m

abbrev first_map : CoreMapRange
first_map = map_of (Some image_path) 5 0x1000 0x40_0000 0x2000

abbrev words_map : CoreMapRange
words_map = map_of None 6 0x3000 0x50_0000 0x2_0000

abbrev objects_map : ℕ → CoreMapRange
objects_map n = map_of None 6 0x2_3000 0x60_0000 n

pub programs_are : (n : ℕ) → ArePrograms (built_maps n) built_programs
programs_are n = record {
  first_program = record {
    before = [];
    after = words_map ∷ objects_map n ∷ [];
    parts = refl;
    is = record { executable = λ e. absurd (cc); named = search rules };
    none_before = All-nil _;
  };
  first_library = All-cons NoLibrary first_map (words_map ∷ objects_map n
      ∷ []) (λ h. no_library (subst IsLibrary (name_is h.name h.named) h.library))
      (All-cons NoLibrary words_map (objects_map n ∷ []) (λ h. absurd (let no_name : None ≡ Some h.name = h.named in
      cc))
      (All-cons NoLibrary (objects_map n) [] (λ h. absurd (let no_name : None ≡ Some h.name = h.named in cc))
      (All-nil NoLibrary)));
}
  where
    name_is : (name : List ℕ) → Some image_path ≡ Some name → name ≡ image_path
    name_is name e = cc

-- ---- what is known

module _ (machine : Machine) (number : ℕ) where
  abbrev image : List ℕ
  image = image_file machine number

  shown_is : shown_bytes (whole_view image) ≡ image
  shown_is =
      let all : max 1 (length image) - 0 ≡ length image = omega (arith, length-image machine number) in
      ap (λ k. take k image) all ∙ take_all image (length image) (omega arith)

  says : ImageSays ((image_path, whole_view image) ∷ []) first_map image_facts
  says = record {
    image = whole_view image;
    held = refl;
    says = subst (λ bs. SaysFacts bs 0x40_0000 0x2000 image_facts) (sym shown_is) (image_says machine number);
  }

  pub known_is : IsKnown ((image_path, whole_view image) ∷ []) built_programs image_known
  known_is = record {
    program_says = says;
    library_says = refl;
    path_is = refl;
    facts = image_facts;
    needed_says =
        says;
  }
