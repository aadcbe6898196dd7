-- What cores in groups come to.
use Rattle.std.proofs.Common.{◌≡◌, ◌≢◌, ℕ, List, [], ◌∷◌, ◌++◌, length, drop, refl, sym, ap, subst, ◌∙◌}
use Rattle.std.proofs.Common.{arith, inl, inr, Err, Ok}
use Rattle.std.specs.Prelude.{Vec}
use Rattle.std.specs.Global.{Global}
use Rattle.std.proofs.lemmas.List.{length-map}
use Rattle.std.proofs.Math.Seq.{drop-append_seam}
use Rattle.image_memory.specs.Mmap.{whole_view}
use Rattle.image_memory.specs.Images.{Pushed}
use Rattle.outside.specs.Files.{FilesSeen}
use Rattle.py_fields.specs.declared.layout.Layout.{Layout}
use Rattle.py_layout.specs.File.{IsRightFor}
use Rattle.py_layout.specs.declared.error.LayoutError.{LayoutError}
use Rattle.core_words.specs.Words.{Triage, triage}
use Rattle.core_report.specs.Grouped.{IsGroupedText}
use Rattle.core_report.specs.Outcome.{cause_status}
use Rattle.core_report.specs.Outcome.{images_by, images_read}
use Rattle.core_report.specs.Reading.{AsksCores, IsRead, contents}
use Rattle.core_report.specs.Run.{ComesTo, HasJudged, pystacks}
use Rattle.core_report.specs.declared.cause.Cause.{Cause}
use Rattle.core_report.specs.declared.cause.Cause.TheVariants.{Layouts}
use Rattle.core_report.specs.declared.judged.JudgedCores.{JudgedCores}
use Rattle.program_run.specs.Ends.{IsAnswered, IsTroubled}
use Rattle.program_run.specs.declared.trouble.Trouble.TheVariants.{Cause as Caused}
use Rattle.core_report.proofs.Agreement.{flawless}
use Rattle.core_report.proofs.Judging.{all_cores}

-- the layouts are at fault: no core is asked for
pub stopped_by : (old new : FilesSeen) (t : Triage) (text : List ℕ) (images : List (Vec ℕ Global)) (cause : Cause)
    → IsRead old.told (triage t) (text ∷ contents images) → length images ≡ length t.images → new.failed ≡ old.failed
    → (cause_status cause ≢ 5 → (error : LayoutError) × (cause ≡ Layouts error) × IsRightFor text (Err error))
    → IsTroubled pystacks old new (triage t) (Caused cause)
stopped_by old new t text images cause read count failed judged = (λ ne. by ne (judged ne), failed)
  where
    by : cause_status cause ≢ 5 → (error : LayoutError) × (cause ≡ Layouts error) × IsRightFor text (Err error) → ComesTo old.told (triage t) (Err cause)
    by ne (error, is, says) = record {
      contents = text ∷ contents images;
      read = read;
      all = inr (
        length-map images (λ (f : Vec ℕ Global). f.items) ∙ count,
        record {
          flaw = error;
          not_memory = λ memory. ne (ap cause_status (is ∙ ap (λ e. Layouts e) memory));
          is = says;
        },
      );
      is = inl (error, ap (λ c. Err c) is, says);
    }

-- the layouts are right: the cores are asked for
pub asks_cores : (t : Triage) (text : List ℕ) (images : List (Vec ℕ Global)) (list : List Layout) → length images ≡ length t.images
    → IsRightFor text (Ok list) → AsksCores t (text ∷ contents images)
asks_cores t text images list count says = record {
  text = text;
  images = contents images;
  are = refl;
  count = length-map images (λ (f : Vec ℕ Global). f.items) ∙ count;
  flawless = flawless text list says;
}

drop_front : (xs ys : List (List ℕ)) (n : ℕ) → length xs ≡ n → drop n (xs ++ ys) ≡ ys
drop_front xs ys n is = ap (λ k. drop k (xs ++ ys)) (sym is) ∙ drop-append_seam xs ys

-- images by more contents than there are images
images_front : (images : List (List ℕ × List ℕ)) (xs ys : List (List ℕ)) → length xs ≡ length images → images_by (xs ++ ys) images ≡ images_by xs images
images_front [] [] [] is = refl
images_front [] [] (y ∷ ys) is = refl
images_front [] (x ∷ xs) ys is = absurd (omega (arith, is))
images_front (i ∷ is) [] ys same = absurd (omega (arith, same))
images_front (i ∷ is) (x ∷ xs) ys same = ap (λ r. (i.0, whole_view x) ∷ r) (images_front is xs ys (omega (arith, same)))

-- the text of the cores
pub grouped : (old new : FilesSeen) (t : Triage) (text : List ℕ) (images : List (Vec ℕ Global)) (list : List Layout) (pushed : Pushed) (kept : JudgedCores)
    (written : Vec ℕ Global) → length images ≡ length t.images → IsRightFor text (Ok list) → pushed ≡ images_read t.images (contents images)
    → (has : HasJudged old new t (text ∷ contents images) pushed list kept)
    → IsGroupedText t.cores pushed list has.contents written.items → IsAnswered pystacks old new (triage t) (Ok written)
grouped old new t text images list pushed kept written count says are has is = (
  record {
    contents = text ∷ (contents images ++ has.contents);
    read = has.first.read;
    all = all_cores old new t (text ∷ contents images) pushed list kept (asks_cores t text images list count says) has;
    is = inr (
      list,
      says,
      (
        written.items,
        subst (λ c. IsGroupedText t.cores (images_read t.images (contents images ++ has.contents)) list c written.items)
            (sym (drop_front (contents images) has.contents (length t.images) counted))
            (subst (λ p. IsGroupedText t.cores p list has.contents written.items)
            (are ∙ sym (images_front t.images (contents images) has.contents counted)) is),
        refl,
      ),
    );
  },
  has.first.failed,
)
  where
    counted : length (contents images) ≡ length t.images
    counted = length-map images (λ (f : Vec ℕ Global). f.items) ∙ count
