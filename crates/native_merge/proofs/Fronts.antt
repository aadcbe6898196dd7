-- Whether a text begins with a front, by what is left of it.
use Rattle.std.proofs.Common.{◌≡◌, ◌≢◌, ℕ, Bool, true, false, List, [], ◌∷◌, ◌++◌, length, take, drop, cond, refl, sym}
use Rattle.std.proofs.Common.{ap, subst, ◌∙◌, arith, add-one}
use Rattle.std.specs.Prelude.{◌==◌, Option, Some, None, MatchOption, option_map}
use Rattle.std.specs.Borrow.{Bor}
use Rattle.std.specs.Str.Pattern.{FindsTextPrefix, StripsPrefix}
use Rattle.std.proofs.lemmas.Bool.Decides.{nat_tests}
use Rattle.std.proofs.lemmas.List.{take-append-drop}
use Rattle.std.proofs.lemmas.Slice.Eq.{bytes_eq-Decides}
use Rattle.std.proofs.Math.Seq.{take-append_seam}
use Rattle.native_merge.specs.CythonNames.{begins, behind, DemanglesOnce, GoesOn, HasTurn, IsLeftOver, IsPointIn}
use Rattle.native_merge.specs.CythonNames.{IsShortened, IsTurnAt, fronts, left_behind, next_place, number_behind}
use Rattle.native_merge.specs.CythonNames.IsShortened.{Stops, Ends, Goes}
use Rattle.native_merge.specs.Digits.{leading_digits, HasNumber, IsNumberOf}
use Rattle.native_merge.specs.declared.digits.Number.{Number}

not_true : (b : Bool) → (b ≡ true → ⊥) → b ≡ false
not_true true h = absurd (h refl)
not_true false h = refl

pub begins_by : (front name rest : List ℕ) → name ≡ front ++ rest → begins front name ≡ true
begins_by front name rest e =
    (bytes_eq-Decides (take (length front) name) front).1 (ap (take (length front)) e ∙ take-append_seam front rest)

pub begins_not : (front name : List ℕ) → ((rest : List ℕ) → name ≢ front ++ rest) → begins front name ≡ false
begins_not front name none = not_true (begins front name) (λ is.
    none (drop (length front) name) (sym (ap (λ taken. taken ++ drop (length front) name)
    (sym ((bytes_eq-Decides (take (length front) name) front).0 is)) ∙ take-append-drop (length front) name)))

pub behind_is : (front name : List ℕ) (r : Option (Bor (List ℕ))) → MatchOption r (FindsTextPrefix front name None) (λ x. StripsPrefix (FindsTextPrefix front) name x.now)
    → option_map (λ left. left.now) r ≡ behind front name
behind_is front name None lacks =
    sym (ap (λ b. cond b (Some (drop (length front) name)) None) (begins_not front name lacks))
behind_is front name (Some x) found =
    ap Some (found.2 ∙ ap (λ n. drop n name) found.1.0)
    ∙ sym (ap (λ b. cond b (Some (drop (length front) name)) None) (begins_by front name (drop found.0 name) found.1.1))

-- a number behind an underscore
pub turn_is : (place text : List ℕ) (number : Number) → place ≡ 95 ∷ text → IsNumberOf text number → IsTurnAt place number
turn_is place text number e is = subst (λ (p : List ℕ). IsTurnAt p number) (sym e) (record {
  has = record { some = is.has.some; fits = is.has.fits };
  value = is.value;
  digits = is.digits;
  rest = is.rest ∙ ap (λ n. drop n (95 ∷ text)) (sym (add-one (length (leading_digits text))));
})

pub no_turn : (place text : List ℕ) → place ≡ 95 ∷ text → (HasNumber text → ⊥) → HasTurn place → ⊥
no_turn place text e none has =
    let here : HasTurn (95 ∷ text) = subst HasTurn e has in
    none (record { some = here.some; fits = here.fits })

-- no number without an underscore
pub no_underscore : (place : List ℕ) → ((rest : List ℕ) → place ≢ 95 ∷ rest) → HasTurn place → ⊥
no_underscore [] none has = has.some refl
no_underscore (c ∷ text) none has = (elim (c == 95) as (λ b. (c == 95) ≡ b → ⊥) [
  | true ↦ λ is. let same : c ≡ 95 = grind (arith, nat_tests, is) in none text (ap (λ x. x ∷ text) same)
  | false ↦ λ is. has.some (ap (λ b. cond b (leading_digits text) []) is)
]) refl

-- ---- the turns of the loop

-- a number at which the search ends
pub ends : (place name : List ℕ) (turn : Number) → IsTurnAt place turn → (IsPointIn turn.value turn.digits turn.rest.now → ⊥)
    → IsShortened place name turn.rest.now
ends place name turn is stops =
    subst (IsShortened place name) (sym is.rest) (Ends is.has (λ goes. stops (rw (is.value, is.digits, is.rest) goes)))

-- one from which it goes on
pub goes : (place name next answer : List ℕ) (turn : Number) → IsTurnAt place turn → IsPointIn turn.value turn.digits turn.rest.now
    → next ≡ drop turn.value turn.rest.now → IsShortened next turn.rest.now answer → IsShortened place name answer
goes place name next answer turn is point e more =
    let here : GoesOn place = rw (is.value, is.digits, is.rest) at point in
    let at_next : next ≡ next_place place = e ∙ ap (λ n. drop n turn.rest.now) is.value ∙ ap (drop (number_behind place)) is.rest in
    Goes is.has here (subst (λ (name : List ℕ). IsShortened (next_place place) name answer) is.rest (subst (λ (p : List ℕ). IsShortened p turn.rest.now answer) at_next more))

-- ---- one name is left

shortened_once : {place name answer other : List ℕ} → IsShortened place name answer → IsShortened place name other → answer ≡ other
shortened_once (Stops none) (Stops _) = refl
shortened_once (Stops none) (Ends has _) = absurd (none has)
shortened_once (Stops none) (Goes has _ _) = absurd (none has)
shortened_once (Ends has stops) (Stops none) = absurd (none has)
shortened_once (Ends has stops) (Ends _ _) = refl
shortened_once (Ends has stops) (Goes _ on _) = absurd (stops on)
shortened_once (Goes has on more) (Stops none) = absurd (none has)
shortened_once (Goes has on more) (Ends _ stops) = absurd (stops on)
shortened_once (Goes has on more) (Goes _ _ again) = shortened_once more again

left_once : (name : List ℕ) (left : Option (List ℕ)) (answer other : List ℕ) → IsLeftOver name left answer → IsLeftOver name left other → answer ≡ other
left_once name None answer other is again = is ∙ sym again
left_once name (Some left) answer other is again = shortened_once is again

pub demangles_once : DemanglesOnce
demangles_once name answer other is again = left_once name (left_behind fronts name) answer other is again
