-- A frame's line ends in a parenthesis, and no line does that says what is missing.
use Rattle.std.proofs.Common.{◌≡◌, ◌≢◌, ℕ, ◌≤◌, true, false, List, [], ◌∷◌, ◌++◌, ◌∙◌, refl, subst, sym, ap}
use Rattle.std.proofs.Common.{append_assoc, arith}
use Rattle.std.proofs.lemmas.List.Elements.{All-head, All-tail}
use Rattle.std.specs.Prelude.{All, ◌==◌, if◌then◌else◌, codes, decimal, Some}
use Rattle.std.specs.Fmt.{digits}
use Rattle.py_builtins.specs.declared.error.ObjectError.{ObjectError}
use Rattle.py_builtins.specs.declared.error.ObjectError.TheVariants as object
use Rattle.py_fronts.specs.declared.chain_end.ChainEnd.{ChainEnd}
use Rattle.py_fronts.specs.declared.chain_end.ChainEnd.TheVariants.{Whole, Cut, Unreadable, Stray}
use Rattle.py_stacks.specs.declared.error.StackError.{StackError}
use Rattle.py_stacks.specs.declared.error.StackError.TheVariants as stack
use Rattle.py_stacks.specs.declared.trace.Frame.{Frame}
use Rattle.core_texts.specs.Parts.{address_text}
use Rattle.salvage_texts.specs.Ends.{frames_end_text, missing_text, more_text}
use Rattle.salvage_texts.specs.Escape.{escaped}
use Rattle.py_fronts.specs.Lines.{shown_line}
use Rattle.salvage_texts.specs.Lines.{line_text}
use Rattle.salvage_texts.specs.Marks.{IsNoMark}
use Rattle.salvage_texts.specs.Standings.{frame_line, locals_fault, member_line}
use Rattle.salvage_texts.proofs.Escapes.{digits_from}

-- the byte before the last one, where these two stand in front
abbrev before_last : (a b : ℕ) → List ℕ → ℕ
before_last a b [] = a
before_last a b (c ∷ cs) = before_last b c cs

-- that byte, whatever stands in front
abbrev Closes : ℕ → List ℕ → Type 0
Closes c text = (a b : ℕ) → before_last a b text ≡ c

past : (front text : List ℕ) (c : ℕ) → Closes c text → Closes c (front ++ text)
past [] text c h = h
past (x ∷ xs) text c h = λ a b. past xs text c h b x

past_in : (front text rest : List ℕ) (c : ℕ) → Closes c (text ++ rest) → Closes c ((front ++ text) ++ rest)
past_in front text rest c h =
    subst (λ (t : List ℕ). Closes c t) (sym (append_assoc front text rest)) (past front (text ++ rest) c h)

frame_closes : (f : Frame) → Closes 41 (frame_line f)
frame_closes f =
    let line = line_text (shown_line f.line) in
    let in_file = escaped true f.filename ++ (line ++ codes ")\n") in
    past (codes "    ") (escaped true f.name ++ (codes " (" ++ in_file)) 41
    (past (escaped true f.name) (codes " (" ++ in_file) 41
    (past (codes " (") in_file 41
    (past (escaped true f.filename) (line ++ codes ")\n") 41
    (past line (codes ")\n") 41 (λ a b. refl)))))

missing_closes : (addr len : ℕ) → Closes 115 (missing_text addr len ++ codes "\n")
missing_closes addr len =
    let number = decimal len ++ codes " bytes" in
    past_in (codes "unreadable at ") (address_text addr ++ (codes ", " ++ number)) (codes "\n") 115
    (past_in (address_text addr) (codes ", " ++ number) (codes "\n") 115
    (past_in (codes ", ") number (codes "\n") 115
    (past_in (decimal len) (codes " bytes") (codes "\n") 115 (λ a b. refl))))

-- ---- none of them is a frame's

apart : (f : Frame) (line : List ℕ) → before_last 0 0 line ≢ 41 → frame_line f ≢ line
apart f line ne e = ne (ap (before_last 0 0) (sym e) ∙ frame_closes f 0 0)

closed_apart : (f : Frame) (line : List ℕ) (c : ℕ) → c ≢ 41 → Closes c line → frame_line f ≢ line
closed_apart f line c ne h = apart f line (λ e. ne (sym (h 0 0) ∙ e))

member_apart : (f : Frame) (why : ObjectError) → frame_line f ≢ member_line why
member_apart f (object.Unreadable addr len) = closed_apart f (member_line (object.Unreadable addr len)) 115
    (omega arith) (past (codes "    ? ") (missing_text addr len ++ codes "\n") 115 (missing_closes addr len))
member_apart f (object.TooLong len) = apart f (member_line (object.TooLong len)) (omega arith)
member_apart f object.NoText = apart f (member_line object.NoText) (omega arith)
member_apart f object.BadDict = apart f (member_line object.BadDict) (omega arith)
member_apart f object.BadType = apart f (member_line object.BadType) (omega arith)
member_apart f object.Visits = apart f (member_line object.Visits) (omega arith)
member_apart f object.Depth = apart f (member_line object.Depth) (omega arith)
member_apart f (object.BadCount count) = apart f (member_line (object.BadCount count)) (omega arith)
member_apart f (object.BadBool byte) = apart f (member_line (object.BadBool byte)) (omega arith)
member_apart f object.OutOfMemory = apart f (member_line object.OutOfMemory) (omega arith)

more_apart : (f : Frame) (between : ℕ) → frame_line f ≢ more_text between
more_apart f between = elim (between == 0) as
    (λ t. frame_line f ≢ (if t then [] else codes "    ... " ++ (decimal between ++ codes " more frames\n"))) [
      | true ↦ apart f [] (omega arith)
      | false ↦ closed_apart f (codes "    ... " ++ (decimal between ++ codes " more frames\n")) 115 (omega arith)
          (past (codes "    ... ") (decimal between ++ codes " more frames\n") 115
          (past (decimal between) (codes " more frames\n") 115 (λ a b. refl)))
    ]

-- a line whose last bytes are these
last_from : (a b : ℕ) (text : List ℕ) → b ≢ 41 → All (λ n. 48 ≤ n) text → before_last a b (text ++ 10 ∷ []) ≢ 41
last_from a b [] ne h = ne
last_from a b (x ∷ xs) ne h =
    let here : 48 ≤ x = All-head (λ n. 48 ≤ n) x xs h in
    last_from b x xs (omega arith) (All-tail (λ n. 48 ≤ n) x xs h)

end_apart : (f : Frame) (end : ChainEnd) (met : ℕ) → frame_line f ≢ frames_end_text end met
end_apart f Whole met = apart f [] (omega arith)
end_apart f Cut met = closed_apart f (frames_end_text Cut met) 115 (omega arith)
    (past (codes "    ... cut after ") (decimal met ++ codes " members\n") 115
    (past (decimal met) (codes " members\n") 115 (λ a b. refl)))
end_apart f (Unreadable addr len) met = closed_apart f (frames_end_text (Unreadable addr len) met) 115 (omega arith)
    (past (codes "    ... ") (missing_text addr len ++ codes "\n") 115 (missing_closes addr len))
end_apart f (Stray interpreter) met = apart f (frames_end_text (Stray interpreter) met)
    (last_from 48 120 (digits 16 false interpreter) (omega arith) (digits_from interpreter))

locals_apart : (f : Frame) (fault : StackError) → frame_line f ≢ locals_fault (Some fault)
locals_apart f (stack.Unreadable addr len) = closed_apart f (locals_fault (Some (stack.Unreadable addr len))) 115
    (omega arith)
    (past (codes "        ... locals ") (missing_text addr len ++ codes "\n") 115 (missing_closes addr len))
locals_apart f (stack.LocalsLimit count) = apart f (locals_fault (Some (stack.LocalsLimit count))) (omega arith)
locals_apart f (stack.BadValue frame) = apart f (locals_fault (Some (stack.BadValue frame))) (omega arith)
locals_apart f stack.ThreadLimit = apart f (locals_fault (Some stack.ThreadLimit)) (omega arith)
locals_apart f stack.FrameLimit = apart f (locals_fault (Some stack.FrameLimit)) (omega arith)
locals_apart f stack.ChainLimit = apart f (locals_fault (Some stack.ChainLimit)) (omega arith)
locals_apart f stack.OutOfMemory = apart f (locals_fault (Some stack.OutOfMemory)) (omega arith)

pub frame_is_no_mark : (f : Frame) → IsNoMark (frame_line f)
frame_is_no_mark f = record {
  member = member_apart f;
  more = more_apart f;
  ended = end_apart f;
  locals = locals_apart f;
}
