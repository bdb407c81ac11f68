-- What is still to be done of a listing, the next task first.
use Rattle.std.specs.Prelude.{◌≡◌, List, [], ◌∷◌, ◌++◌}
use Rattle.lt_tree.specs.declared.typed.types.TypeId.{TypeId}
use Rattle.lt_tree.specs.declared.typed.types.TypeRow.{TypeRow}
use Rattle.lt_tree.specs.declared.typed.types.TypeRow.TheVariants as row
use Rattle.lt_tree.specs.Typing.Types.{CType}
use Rattle.lt_tree.specs.Typing.TypeRows.{type_in}
use Rattle.lt_tree.specs.Typing.Programs.{made_of, with_new}
use Rattle.lt_unit.specs.MadeOf.{IsClosed}
use Rattle.lt_unit.specs.Listing.{IsListing, types_at, listed_in}
use Rattle.lt_unit.specs.declared.listing.Listed.{Listed}
use Rattle.lt_unit.specs.declared.listing.Task.{Task}
use Rattle.lt_unit.specs.declared.listing.Task.TheVariants as task
use Rattle.lt_unit.specs.declared.listing.TypesByPlace.{TypesByPlace}

-- the types of which a row is made
abbrev pub parts_in : TypeRow → List TypeId
parts_in (row.Pointer t) = t ∷ []
parts_in (row.Array t n) = t ∷ []
parts_in (row.Function f) = f.result ∷ f.parameters.items
parts_in (row.Qualified q t) = t ∷ []
parts_in _ = []

-- what a task lists
abbrev pub listed_by : List CType → Task → List CType
listed_by types (task.List t) = made_of (type_in types t)
listed_by types (task.Add t) = type_in types t ∷ []

abbrev pub all_listed_by : List CType → List Task → List CType
all_listed_by types [] = []
all_listed_by types (task ∷ tasks) = listed_by types task ++ all_listed_by types tasks

-- behind each task what is listed is closed
abbrev pub StaysClosed : List CType → List CType → List Task → Type 0
StaysClosed types found [] = Unit {0}
StaysClosed types found (task ∷ tasks) = IsClosed (with_new found (listed_by types task)) × StaysClosed types (with_new found (listed_by types task)) tasks

-- with these tasks all of these types get listed
pub record AreDue (types : TypesByPlace) (it : Listed) (tasks : List Task) (all : List CType) : Type 0 where
  pub listing : IsListing types it
  pub closed : StaysClosed (types_at types) (listed_in (types_at types) it) tasks
  pub rest : with_new (listed_in (types_at types) it) (all_listed_by (types_at types) tasks) ≡ all

-- the same types get listed from here and from there
abbrev pub GoesOn : TypesByPlace → Listed → List Task → Listed → List Task → Type 0
GoesOn types it tasks then left = (all : List CType) → AreDue types it tasks all → AreDue types then left all
