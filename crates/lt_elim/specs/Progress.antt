-- What the code keeps while it eliminates.
use Rattle.std.specs.Prelude.{ℕ, ℤ, pos, int_lt, ◌<◌, ◌^◌, ◌==◌, if◌then◌else◌, List, [], ◌∷◌, map, Option, Some, None}
use Rattle.std.specs.Global.{Vec}
use Rattle.lt_elim.specs.Divisor.{content}
use Rattle.lt_lin.specs.declared.row.Row.{Row}
use Rattle.lt_lin.specs.Terms.{Term, IsOrdered}
use Rattle.lt_elim.specs.declared.kept.Held.{Held}
use Rattle.lt_elim.specs.declared.numbered.Numbered.{Numbered}
use Rattle.lt_elim.specs.declared.event.Event as code
use Rattle.lt_elim.specs.declared.event.Event.TheVariants as event
use Rattle.lt_elim.specs.Elimination.{Event, coeff, refuted, many_rows, Kept, keeps, ends}

abbrev pub row_of : Vec Term × Held → Row
row_of e = record { terms = e.0.items; constant = e.1.constant }

abbrev pub rows_of : List (Vec Term × Held) → List Row
rows_of es = map row_of es

abbrev pub numbered_of : Vec Term × Held → Numbered
numbered_of e = record { row = row_of e; number = e.1.number }

-- rows that are kept, by themselves and with their numbers
pub record KeptRows : Type 0 where
  pub rows : List Row
  pub numbered : List Numbered

abbrev pub kept_of : List (Vec Term × Held) → KeptRows
kept_of es = record { rows = rows_of es; numbered = map numbered_of es }

-- the factor of the first term of the variable
abbrev pub found_factor : ℕ → List Term → ℤ
found_factor x [] = pos 0
found_factor x (t ∷ ts) = if x == t.0 then t.1 else found_factor x ts

-- the terms of each row are in order
abbrev pub AllInOrder : List Row → Type 0
AllInOrder [] = Unit {0}
AllInOrder (r ∷ rs) = IsOrdered r.terms × AllInOrder rs

-- the one with the lesser constant, if another is known
abbrev pub least_of : Held → Option Held → Held
least_of h None = h
least_of h (Some k) = if int_lt h.constant k.constant then h else k

abbrev pub event_of : code.Event → Event
event_of (event.Coeff v) = coeff v
event_of event.Refuted = refuted
event_of (event.Rows v) = many_rows v

-- the rows, unless there is an event
abbrev pub outcome : Option code.Event → List Row → Kept
outcome None rows = keeps rows
outcome (Some e) rows = ends (event_of e)

-- the factors of each row have a common divisor that fits
abbrev pub HaveContents : List Row → Type 0
HaveContents [] = Unit {0}
HaveContents (r ∷ rs) = (content r.terms < 2 ^ 127) × HaveContents rs
