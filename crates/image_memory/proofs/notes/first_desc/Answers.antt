use Rattle.std.proofs.Common.{◌≡◌, ℕ, true, false, cond, List, [], ◌∷◌, Option, Some, refl, sym, ap, map, ◌∙◌}
use Rattle.std.specs.Prelude.{find, nat_eq, option_map}
use Rattle.elf64_core.specs.Notes.{noted}
use Rattle.elf64_core.specs.declared.note.Note.{Note}
use Rattle.image_memory.specs.Notes.{desc_of, is_of_kind}
use Rattle.image_memory.proofs.notes.first_desc.Goals as goal

abbrev desc_in : Option Note → Option (List ℕ)
desc_in found = option_map (λ (note : Note). note.desc.now) found

-- what is found among what notes say is what is found among the notes
among : (kind : ℕ) (notes : List Note) → desc_of kind (map noted notes) ≡ desc_in (find (λ note. nat_eq note.kind kind) notes)
among kind [] = refl
among kind (note ∷ rest) =
    elim (nat_eq note.kind kind) as
    (λ b. option_map (λ n. n.desc) (cond b (Some (noted note)) (find (is_of_kind kind) (map noted rest)))
    ≡ desc_in (cond b (Some note) (find (λ n. nat_eq n.kind kind) rest)))
    [ true ↦ refl | false ↦ among kind rest ]

pub returns-in-Some : goal.returns-in-Some
returns-in-Some c = ap desc_in c.in-Some.ensures ∙ sym (among c.args.kind c.args.notes.now)

pub returns-in-None : goal.returns-in-None
returns-in-None c = ap desc_in c.in-None.ensures ∙ sym (among c.args.kind c.args.notes.now)
