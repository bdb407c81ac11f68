-- Parts of objects that are left to be filled, and those that are filled, in range.
use Rattle.std.proofs.Common.{ℕ, zero, suc, ◌+◌, List, [], ◌∷◌, ◌++◌, length, map, Bool, true, false, Option, Some, None}
use Rattle.std.specs.Prelude.{if◌then◌else◌, nat_le, ◌-◌, ◌==◌, ◌&&◌}
use Rattle.std.specs.List.{flat_map}
use Rattle.lt_tree.specs.Tree as c
use Rattle.lt_tree.specs.Typing.Types.{CType, Array, Struct, Qualified, unqualified}
use Rattle.lt_tree.specs.Typing.Extents.{size_of, Placed, placed_members}
use Rattle.lt_tree.specs.Typing.TypedTree.{StartPart, stored, fixed}
use Rattle.lt_tree.specs.Typing.Entities.{Known}
use Rattle.lt_tree.specs.Typing.Operands.{holds}
use Rattle.lt_tree.specs.Typing.Expressions.{Typed, value_in, converted_to}
use Rattle.lt_tree.specs.Typing.Filling.{Run, one_object, length_left, behind_first, member_run, parts_of, first_within, first_in_members, first_in_struct, opened, is_character_array, content_of, value_part, Filling, only_text, filling_of, nothing_to_fill}
use Rattle.lt_tree.specs.Typing.InitialiserTyping.{filled_by, filling_for, behind_list, with_length}
use Rattle.lt_tree.specs.Typing.Ranges.{Reference, Lists, in_type, in_start_part}
use Rattle.lt_ranges.proofs.References.{Has, none, both, front, back, Kept, later, pushed, appended}
use Rattle.lt_ranges.proofs.Steps.{Sound, lists_of}
use Rattle.lt_ranges.proofs.TypesInRange.{T, unqualified_in, constancy_to_in}
use Rattle.lt_ranges.proofs.TypedInRange.{TypedIn, value_in_range, converted_value_in}
use Rattle.lt_ranges.proofs.Lookups.{Ps, placed_members_in}

abbrev pub in_run : Run → List Reference
in_run run = in_type run.type

abbrev pub RunsIn : Lists → List Run → Type 0
RunsIn b runs = Has b (flat_map in_run runs)

abbrev pub PartsIn : Lists → List StartPart → Type 0
PartsIn b parts = Has b (flat_map in_start_part parts)

pub record FillingIn (b : Lists) (filling : Filling) : Type 0 where
  pub left : RunsIn b filling.left
  pub parts : PartsIn b filling.parts

pub later_filling : {b b' : Lists} {filling : Filling} → Kept b b' → FillingIn b filling → FillingIn b' filling
later_filling kept h = record { left = later kept h.left; parts = later kept h.parts }

-- ---- what is left

-- further objects of a run
further_in : {b : Lists} (last : Bool) (run : Run) → T b run.type → RunsIn b (if last then [] else run ∷ [])
further_in true run h = none
further_in false run h = both h none

abbrev next_of : Known → Run → Option ℕ → Run
next_of known run left = record { offset = run.offset + size_of known.model known.structs run.type; type = run.type; left = left }

abbrev behind_of : Known → Run → Option ℕ → List Run
behind_of known run None = next_of known run None ∷ []
behind_of known run (Some n) = if nat_le n 1 then [] else next_of known run (Some (n - 1)) ∷ []

behind_of_in : {b : Lists} (known : Known) (run : Run) (left : Option ℕ) → T b run.type → RunsIn b (behind_of known run left)
behind_of_in known run None h = both h none
behind_of_in known run (Some n) h = further_in (nat_le n 1) (next_of known run (Some (n - 1))) h

pub behind_first_in : {b : Lists} (known : Known) (run : Run) → T b run.type → RunsIn b (behind_first known run)
behind_first_in known run h = behind_of_in known run run.left h

members_runs_in : {b : Lists} (offset : ℕ) (placed : List Placed) → Ps b placed → RunsIn b (map (member_run offset) placed)
members_runs_in offset [] h = none
members_runs_in offset (it ∷ placed) h = both (front {rs = in_type it.type} _ h) (members_runs_in offset placed (back (in_type it.type) h))

pub parts_of_in : (known : Known) (offset : ℕ) (t : CType) → Sound known → T (lists_of known) t → RunsIn (lists_of known) (parts_of known offset t)
parts_of_in known offset (Array t n) s h = both h none
parts_of_in known offset (Struct k) s h = members_runs_in offset (placed_members known.model known.structs k) (placed_members_in known.model known.structs k s.structs)
parts_of_in known offset (Qualified q t) s h = parts_of_in known offset t s h
parts_of_in known offset _ s h = both h none

-- ---- the part in front

-- a function on what is left that keeps it in range
abbrev KeepsRuns : Lists → (ℕ → ℕ → List Run → List Run) → Type 0
KeepsRuns b f = (offset k : ℕ) (rest : List Run) → RunsIn b rest → RunsIn b (f offset k rest)

first_within_in : {b : Lists} (known : Known) (whole : CType → Bool) (in_struct : ℕ → ℕ → List Run → List Run) → KeepsRuns b in_struct → (offset : ℕ) (t : CType) (rest : List Run)
    → T b t → RunsIn b rest → RunsIn b (first_within known whole in_struct offset t rest)
first_within_in {b} known whole in_struct f offset (Array t n) rest h i =
    let run : Run = record { offset = offset; type = t; left = length_left n } in
    elim (whole (Array t n)) as (λ v. RunsIn b (if v then one_object offset (Array t n) ∷ rest else first_within known whole in_struct offset t (behind_first known run ++ rest)))
    [ true ↦ both h i | false ↦ first_within_in known whole in_struct f offset t (behind_first known run ++ rest) h (appended in_run (behind_first known run) rest (behind_first_in known run h) i) ]
first_within_in {b} known whole in_struct f offset (Struct k) rest h i =
    elim (whole (Struct k)) as (λ v. RunsIn b (if v then one_object offset (Struct k) ∷ rest else in_struct offset k rest)) [ true ↦ both h i | false ↦ f offset k rest i ]
first_within_in known whole in_struct f offset (Qualified q t) rest h i = first_within_in known whole in_struct f offset t rest h i
first_within_in known whole in_struct f offset _ rest h i = both h i

first_in_members_in : {b : Lists} (known : Known) (whole : CType → Bool) (in_struct : ℕ → ℕ → List Run → List Run) → KeepsRuns b in_struct → (offset : ℕ) (members : List Placed) (rest : List Run)
    → Ps b members → RunsIn b rest → RunsIn b (first_in_members known whole in_struct offset members rest)
first_in_members_in known whole in_struct f offset [] rest h i = i
first_in_members_in known whole in_struct f offset (member ∷ members) rest h i =
    first_within_in known whole in_struct f (offset + member.offset) member.type (map (member_run offset) members ++ rest) (front {rs = in_type member.type} _ h)
    (appended in_run (map (member_run offset) members) rest (members_runs_in offset members (back (in_type member.type) h)) i)

first_in_struct_in : (known : Known) (whole : CType → Bool) (depth : ℕ) → Sound known → KeepsRuns (lists_of known) (first_in_struct known whole depth)
unfolding first_in_struct
first_in_struct_in known whole zero s offset k rest h = h
first_in_struct_in known whole (suc depth) s offset k rest h =
    first_in_members_in known whole (first_in_struct known whole depth) (first_in_struct_in known whole depth s) offset (placed_members known.model known.structs k) rest
    (placed_members_in known.model known.structs k s.structs) h

pub opened_in : (known : Known) (whole : CType → Bool) (runs : List Run) → Sound known → RunsIn (lists_of known) runs → RunsIn (lists_of known) (opened known whole runs)
opened_in known whole [] s h = none
opened_in known whole (run ∷ runs) s h =
    let here : T (lists_of known) run.type = front {rs = in_run run} _ h in
    first_within_in known whole (first_in_struct known whole (length known.structs)) (first_in_struct_in known whole (length known.structs) s) run.offset run.type (behind_first known run ++ runs) here
    (appended in_run (behind_first known run) runs (behind_first_in known run here) (back (in_run run) h))

-- ---- what is filled

pub value_part_in : {b : Lists} {x : Typed} (known : Known) (is_static : Bool) (offset : ℕ) (t : CType) → T b t → TypedIn b x → Has b (in_start_part (value_part known is_static offset t x))
value_part_in {b} {x} known is_static offset t h i =
    elim is_static as (λ v. Has b (in_start_part (if v then fixed offset (unqualified t) (content_of known t x) else stored offset (converted_to (unqualified t) (value_in x))))) [
      | true ↦ both (unqualified_in t h) (constancy_to_in known.model (unqualified t) x.constancy i.constancy)
      | false ↦ converted_value_in (unqualified t) (value_in x) (unqualified_in t h) (value_in_range i)
    ]

pub filled_in : {b : Lists} (filling : Filling) (part : StartPart) (rest : List Run) → FillingIn b filling → Has b (in_start_part part) → RunsIn b rest → FillingIn b (filled_by filling part rest)
filled_in filling part rest h i j = record { left = j; parts = pushed in_start_part filling.parts part h.parts i }

left_of_text : {b : Lists} (known : Known) (offset : ℕ) (t : CType) (text : Bool) → T b t → RunsIn b (parts_of known offset t) → RunsIn b (if text then one_object offset t ∷ [] else parts_of known offset t)
left_of_text known offset t true h i = both h none
left_of_text known offset t false h i = i

pub filling_in : (known : Known) (offset : ℕ) (t : CType) (list : c.Initialisers) → Sound known → T (lists_of known) t → FillingIn (lists_of known) (filling_of known offset t list)
filling_in known offset t list s h = record {
  left = left_of_text known offset t (is_character_array t && holds (λ bytes. true) (only_text list)) h (parts_of_in known offset t s h);
  parts = none;
}

pub nothing_in_filling : {b : Lists} → FillingIn b nothing_to_fill
nothing_in_filling = record { left = none; parts = none }

pub filling_for_in : (known : Known) (list : c.Initialisers) (runs : List Run) → Sound known → RunsIn (lists_of known) runs → FillingIn (lists_of known) (filling_for known list runs)
filling_for_in known list [] s h = nothing_in_filling
filling_for_in known list (run ∷ runs) s h = filling_in known run.offset run.type list s (front {rs = in_run run} _ h)

-- behind a list in braces
pub behind_list_in : {b : Lists} (known : Known) (outer inner : Filling) (runs : List Run) → FillingIn b outer → FillingIn b inner → RunsIn b runs → FillingIn b (behind_list known outer inner runs)
behind_list_in known outer inner [] h i j = record { left = h.left; parts = h.parts }
behind_list_in known outer inner (run ∷ runs) h i j = record {
  left = appended in_run (behind_first known run) runs (behind_first_in known run (front {rs = in_run run} _ j)) (back (in_run run) j);
  parts = appended in_start_part outer.parts inner.parts h.parts i.parts;
}

lengthened : {b : Lists} (unknown : Bool) (t : CType) (n k : ℕ) → T b t → T b (if unknown then Array t k else Array t n)
lengthened true t n k h = h
lengthened false t n k h = h

pub with_length_in : {b : Lists} (t : CType) (k : ℕ) → T b t → T b (with_length t k)
with_length_in (Array t n) k h = lengthened (n == 0) t n k h
with_length_in _ k h = h
