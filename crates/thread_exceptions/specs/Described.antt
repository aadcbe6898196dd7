-- Where the parts of threads, items and exceptions stand, by a layout and the records beside it: which group says what.
-- That a group which is needed and isn't described leaves no places, nor one of which what is read would not lie inside
-- its record, is this project's rule.
use Rattle.std.specs.Prelude.{◌≡◌, Option, Some, None}
use Rattle.py_fields.specs.declared.layout.Layout.{Layout}
use Rattle.py_records.specs.declared.coroutines.GeneratorHandledRecord.{GeneratorHandledRecord}
use Rattle.py_records.specs.declared.exceptions.ExceptionGroupRecord.{ExceptionGroupRecord}
use Rattle.py_records.specs.declared.exceptions.ExceptionRecord.{ExceptionRecord}
use Rattle.py_records.specs.declared.exceptions.HandledRecord.{HandledRecord}
use Rattle.py_records.specs.declared.exceptions.ItemRecord.{ItemRecord}
use Rattle.py_records.specs.declared.exceptions.RaisedPartsRecord.{RaisedPartsRecord}
use Rattle.py_records.specs.declared.exceptions.RaisedRecord.{RaisedRecord}
use Rattle.py_records.specs.declared.records.Records.{Records}
use Rattle.py_records.specs.declared.types.KlassRecord.{KlassRecord}
use Rattle.thread_exceptions.specs.declared.places.ExceptionPlaces.{ExceptionPlaces}
use Rattle.thread_exceptions.specs.declared.places.GroupPlaces.{GroupPlaces}
use Rattle.thread_exceptions.specs.declared.places.Places.{Places}
use Rattle.thread_exceptions.specs.declared.places.RaisedPlaces.{RaisedPlaces}
use Rattle.thread_exceptions.specs.declared.places.RaisedPlaces.TheVariants.{Exception, Parts}
use Rattle.thread_exceptions.specs.Places.{IsSound}

-- how a thread names what is raised: from 3.12 on an exception, and before it the parts of one
abbrev pub raised_by : Option RaisedRecord → Option RaisedPartsRecord → Option RaisedPlaces
raised_by (Some at) parts = Some (Exception at.exception)
raised_by None None = None
raised_by None (Some at) = Some (Parts at.klass at.value)

-- groups, where a version has them
abbrev pub group_of : Layout → Option ExceptionGroupRecord → Option GroupPlaces
group_of l None = None
group_of l (Some at) = Some (record { members = at.excs; count = l.tuple.count; items = l.tuple.at })

-- where an exception has its fields, where that is described (`PyBaseExceptionObject`)
abbrev pub exception_of : Option ExceptionRecord → Option ExceptionPlaces
exception_of None = None
exception_of (Some at) = Some (record {
  size = at.size;
  dict = at.dict;
  args = at.args;
  traceback = at.traceback;
  context = at.context;
  cause = at.cause;
  suppress_context = at.suppress_context;
})

-- what is needed of the groups
pub record Needed : Type 0 where
  pub klass : KlassRecord
  pub raised : RaisedPlaces
  pub handled : HandledRecord
  pub item : ItemRecord
  pub inside : GeneratorHandledRecord
  pub exception : ExceptionPlaces

-- what is needed of the groups, where all of them are described
abbrev pub needed_by : Option KlassRecord → Option RaisedPlaces → Option HandledRecord → Option ItemRecord
    → Option GeneratorHandledRecord → Option ExceptionPlaces → Option Needed
needed_by (Some klass) (Some raised) (Some handled) (Some item) (Some inside) (Some exception) = Some (record {
  klass = klass;
  raised = raised;
  handled = handled;
  item = item;
  inside = inside;
  exception = exception;
})
needed_by None raised handled item inside exception = None
needed_by (Some klass) None handled item inside exception = None
needed_by (Some klass) (Some raised) None item inside exception = None
needed_by (Some klass) (Some raised) (Some handled) None inside exception = None
needed_by (Some klass) (Some raised) (Some handled) (Some item) None exception = None
needed_by (Some klass) (Some raised) (Some handled) (Some item) (Some inside) None = None

-- what is needed of a version's records, where all of it is described
abbrev pub needed_of : Records → Option Needed
needed_of r = needed_by r.types.klass (raised_by r.exceptions.raised r.exceptions.raised_parts) r.exceptions.handled
    r.exceptions.item r.coroutines.generator_handled (exception_of r.exceptions.exception)

-- where the parts of threads, items and exceptions stand, where what is needed is described
abbrev pub places_by : Layout → Option ExceptionGroupRecord → Option Needed → Option Places
places_by l group None = None
places_by l group (Some n) = Some (record {
  klass = l.object.klass;
  flags = l.klass.flags;
  name = l.klass.name;
  base = n.klass.base;
  raised = n.raised;
  newest = n.handled.newest;
  oldest = n.handled.oldest;
  inside = n.inside.item;
  value = n.item.value;
  previous = n.item.previous;
  exception = n.exception;
  group = group_of l group;
})

-- the places as they are described
unfoldable pub unchecked_of : Layout → Records → Option Places
unchecked_of l r = places_by l r.exceptions.exception_group (needed_of r)

-- these are the places: as they are described, where what is read lies inside its record
abbrev pub ArePlaces : Layout → Records → Option Places → Type 0
ArePlaces l r None = (p : Places) → unchecked_of l r ≡ Some p → IsSound p → ⊥
ArePlaces l r (Some p) = (unchecked_of l r ≡ Some p) × IsSound p
