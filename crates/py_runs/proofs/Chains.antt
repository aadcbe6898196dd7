-- Chains of members and of C frames, one after another.
use Rattle.std.proofs.Common.{◌≡◌, ◌≢◌, ℕ, zero, suc, ◌+◌, ◌-◌, ◌<◌, ◌≤◌, List, [], ◌∷◌, ◌++◌, refl, sym, ◌∙◌, arith}
use Rattle.std.proofs.Common.{append_assoc, Option, Some, None}
use Rattle.std.proofs.lemmas.List.{append-nil}
use Rattle.process_memory.specs.Memory.{Memory}
use Rattle.py_fields.specs.declared.layout.Layout.{Layout}
use Rattle.py_runs.specs.declared.c_frame.CFrame.{CFrame}
use Rattle.py_runs.specs.declared.member.Member.{Member}
use Rattle.py_runs.specs.declared.member.Met.{Met}
use Rattle.py_runs.specs.declared.run_rule.RunEnd.{RunEnd}
use Rattle.py_runs.specs.Members.{IsMet, c_frame_at, c_frames_behind, c_frames_from, member_at, members_behind}
use Rattle.py_runs.specs.Members.{members_from, word_known}

module _ (l : Layout) (e : RunEnd) (m : Memory) where
  members_some : (k at : ℕ) → at ≢ 0
      → members_from l e m (suc k) at ≡ member_at e m at
      ∷ members_behind (word_known m (at + l.frame.back)) (members_from l e m k)
  unfolding members_from
  members_some k zero some = absurd (some refl)
  members_some k (suc a) some = refl

  members_here : (count met at : ℕ) (whole found more : List Member) (x : Member) (word : Option ℕ) → at ≢ 0
      → met < count
      → whole ≡ found ++ members_from l e m (count - met) at → x ≡ member_at e m at
      → more ≡ found ++ x ∷ [] → word ≡ word_known m (at + l.frame.back)
      → whole ≡ more ++ members_behind word (members_from l e m (count - (met + 1)))
  members_here count met at whole found more x word some below w c a k =
      let left : count - met ≡ suc (count - (met + 1)) = omega (arith, below) in
      w ∙ rw (left, members_some (count - (met + 1)) at some, a, c, k)
      (sym (append_assoc found (member_at e m at ∷ [])
      (members_behind (word_known m (at + l.frame.back)) (members_from l e m (count - (met + 1))))))

  pub members_more : (count met at : ℕ) (whole found more : List Member) (s : Met) (back : ℕ) → at ≢ 0 → met < count
      → whole ≡ found ++ members_from l e m (count - met) at → IsMet l e m at s → more ≡ found ++ s.member ∷ []
      → s.back ≡ Some back
      → whole ≡ more ++ members_from l e m (count - (met + 1)) back
  members_more count met at whole found more s back some below w h a is =
      members_here count met at whole found more s.member (Some back) some below w h.member a (sym is ∙ h.back)

  pub members_lost : (count met at : ℕ) (whole found more : List Member) (s : Met) → at ≢ 0 → met < count
      → whole ≡ found ++ members_from l e m (count - met) at → IsMet l e m at s → more ≡ found ++ s.member ∷ []
      → s.back ≡ None
      → more ≡ whole
  members_lost count met at whole found more s some below w h a is =
      sym (members_here count met at whole found more s.member None some below w h.member a (sym is ∙ h.back)
      ∙ append-nil more)

  members_null : (k : ℕ) → members_from l e m k 0 ≡ []
  unfolding members_from
  members_null zero = refl
  members_null (suc k) = refl

  pub members_end : (count met at : ℕ) (whole found : List Member) → at ≡ 0
      → whole ≡ found ++ members_from l e m (count - met) at → found ≡ whole
  members_end count met at whole found null w = sym (w ∙ rw (null, members_null (count - met)) (append-nil found))

  members_full : (at : ℕ) → members_from l e m 0 at ≡ []
  unfolding members_from
  members_full at = refl

  pub members_cut : (count met at : ℕ) (whole found : List Member) → count ≤ met
      → whole ≡ found ++ members_from l e m (count - met) at → found ≡ whole
  members_cut count met at whole found full w =
      let none : count - met ≡ 0 = omega (arith, full) in
      sym (w ∙ rw (none, members_full at) (append-nil found))

-- ---- C frames

module _ (current previous : ℕ) (m : Memory) where
  c_frames_some : (k at : ℕ) → at ≢ 0 → c_frames_from current previous m (suc k) at
      ≡ c_frames_behind (c_frame_at current previous m at) (c_frames_from current previous m k)
  unfolding c_frames_from
  c_frames_some k zero some = absurd (some refl)
  c_frames_some k (suc a) some = refl

  c_frames_here : (count met at : ℕ) (whole found : List CFrame) (one : Option (CFrame × ℕ)) → at ≢ 0 → met < count
      → whole ≡ found ++ c_frames_from current previous m (count - met) at → one ≡ c_frame_at current previous m at
      → whole ≡ found ++ c_frames_behind one (c_frames_from current previous m (count - (met + 1)))
  c_frames_here count met at whole found one some below w o =
      let left : count - met ≡ suc (count - (met + 1)) = omega (arith, below) in
      w ∙ rw (left, c_frames_some (count - (met + 1)) at some, o) refl

  pub c_frames_more : (count met at : ℕ) (whole found more : List CFrame) (c : CFrame) (back : ℕ) → at ≢ 0 → met < count
      → whole ≡ found ++ c_frames_from current previous m (count - met) at
      → Some (c, back) ≡ c_frame_at current previous m at
      → more ≡ found ++ c ∷ [] → whole ≡ more ++ c_frames_from current previous m (count - (met + 1)) back
  c_frames_more count met at whole found more c back some below w o a =
      c_frames_here count met at whole found (Some (c, back)) some below w o
      ∙ rw a (sym (append_assoc found (c ∷ []) (c_frames_from current previous m (count - (met + 1)) back)))

  pub c_frames_lost : (count met at : ℕ) (whole found : List CFrame) → at ≢ 0 → met < count
      → whole ≡ found ++ c_frames_from current previous m (count - met) at → None ≡ c_frame_at current previous m at
      → found ≡ whole
  c_frames_lost count met at whole found some below w o =
      sym (c_frames_here count met at whole found None some below w o ∙ append-nil found)

  c_frames_null : (k : ℕ) → c_frames_from current previous m k 0 ≡ []
  unfolding c_frames_from
  c_frames_null zero = refl
  c_frames_null (suc k) = refl

  c_frames_full : (at : ℕ) → c_frames_from current previous m 0 at ≡ []
  unfolding c_frames_from
  c_frames_full at = refl

  pub c_frames_end : (count met at : ℕ) (whole found : List CFrame) → at ≡ 0
      → whole ≡ found ++ c_frames_from current previous m (count - met) at → found ≡ whole
  c_frames_end count met at whole found null w = sym (w ∙ rw (null, c_frames_null (count - met)) (append-nil found))

  pub c_frames_cut : (count met at : ℕ) (whole found : List CFrame) → count ≤ met
      → whole ≡ found ++ c_frames_from current previous m (count - met) at → found ≡ whole
  c_frames_cut count met at whole found full w =
      let none : count - met ≡ 0 = omega (arith, full) in
      sym (w ∙ rw (none, c_frames_full at) (append-nil found))
