-- The lines of a task's chain.
use Rattle.std.specs.Prelude.{ℕ, ◌++◌, true, false, List, [], map, Option, Some, None, codes}
use Rattle.std.specs.Fmt.{digits}
use Rattle.std.specs.List.{concat}
use Rattle.coroutine_frames.specs.declared.frame.CoroutineFrame.{CoroutineFrame}
use Rattle.py_coroutines.specs.declared.kinds.Kind.{Kind}
use Rattle.py_coroutines.specs.declared.turn.AwaitEnd.{AwaitEnd}
use Rattle.py_coroutines.specs.declared.turn.AwaitEnd.TheVariants.{Stops, Cycle, Cut}
use Rattle.py_coroutines.specs.declared.turn.Stop.{Stop}
use Rattle.py_coroutines.specs.declared.turn.Stop.TheVariants.{Future, Yielding, Created, Running, Finished}
use Rattle.py_coroutines.specs.declared.turn.Stop.TheVariants.{NoTop, Other, Unreadable}
use Rattle.py_fronts.specs.Lines.{shown_line}
use Rattle.salvage_texts.specs.Ends.{missing_text}
use Rattle.salvage_texts.specs.Escape.{escaped}
use Rattle.salvage_texts.specs.Lines.{line_text}
use Rattle.py_tasks.specs.declared.task.Member.{Member}
use Rattle.py_tasks.specs.Shown.{ChainShown}

-- a name with quotes, backslashes and control characters escaped; a question mark where it isn't known
abbrev pub name_text : Option (List ℕ) → List ℕ
name_text None = codes "?"
name_text (Some name) = escaped true name

-- the line of a coroutine's frame: its function, its file and its line
abbrev pub frame_text : CoroutineFrame → List ℕ
frame_text f = codes "    " ++ (name_text f.function ++ (codes " (" ++ (name_text f.filename
    ++ (line_text (shown_line f.line) ++ codes ")\n"))))

-- the line of a member's frame, or that none can be told
abbrev pub own_frame_text : Option CoroutineFrame → List ℕ
own_frame_text None = codes "    ? no frame\n"
own_frame_text (Some f) = frame_text f

-- the line of a coroutine or a generator; none of another kind of object
abbrev pub by_kind : Option Kind → Option CoroutineFrame → List ℕ
by_kind None frame = []
by_kind (Some kind) frame = own_frame_text frame

-- a member; what stands between two coroutines has no line
abbrev pub member_text : Member → List ℕ
member_text m = by_kind m.kind m.frame

-- the lines of a chain's members, in order
abbrev pub members_text : List Member → List ℕ
members_text members = concat (map (λ m. member_text m) members)

-- the line of why a chain can't be followed further; none where it ends as it has to
abbrev pub stop_text : Stop → List ℕ
stop_text NoTop = codes "    ... what it awaits is not stored\n"
stop_text (Other a class) = codes "    ... awaits an object at 0x" ++ (digits 16 false a ++ codes "\n")
stop_text (Unreadable a n) = codes "    ... " ++ (missing_text a n ++ codes "\n")
stop_text (Future a) = []
stop_text Yielding = []
stop_text Created = []
stop_text Running = []
stop_text Finished = []

-- how a chain breaks off, where it does
abbrev pub end_text : AwaitEnd → List ℕ
end_text (Stops why) = stop_text why
end_text (Cycle a) = codes "    ... awaits the one at 0x" ++ (digits 16 false a ++ codes " again\n")
end_text (Cut a) = codes "    ... and more, from 0x" ++ (digits 16 false a ++ codes " on\n")

-- the lines of a chain: how it breaks off, and then its members
abbrev pub chain_text : ChainShown → List ℕ
chain_text c = end_text c.end ++ members_text c.members
