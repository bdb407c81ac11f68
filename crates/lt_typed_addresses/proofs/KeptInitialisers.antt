-- Typing of initialisers keeps the objects that are known, and the parts of which an object is made rest on those.
use Rattle.std.proofs.Common.{◌≡◌, sym, ◌∙◌, ℕ, suc, Bool, true, false, List, [], ◌∷◌, ◌++◌, length, Option, Some, None}
use Rattle.std.specs.Prelude.{if◌then◌else◌}
use Rattle.lt_tree.specs.Tree as c
use Rattle.lt_tree.specs.Typing.Types.{CType, struct_of, unqualified, is_array}
use Rattle.lt_tree.specs.Typing.Extents.{has_too_many_cells}
use Rattle.lt_tree.specs.Typing.Rules.{broken_if, bad_length, bad_initialiser}
use Rattle.lt_tree.specs.Typing.TypedTree.{StartPart}
use Rattle.lt_tree.specs.Typing.Entities.{Known, Object}
use Rattle.lt_tree.specs.Typing.Steps.{◌>>◌, gives, settle}
use Rattle.lt_tree.specs.Typing.Expressions.{Typed, as_value, own_type}
use Rattle.lt_tree.specs.Typing.Operations.{text_type}
use Rattle.lt_tree.specs.Typing.Filling.{Run, Filling, opened, is_struct_of, is_character_array, is_too_long_for, letters_of, value_faults, value_part, text_in, filling_of, nothing_to_fill, list_faults}
use Rattle.lt_tree.specs.Typing.InitialiserTyping.{Judges, literal_alone, filled_by, fill_value, value_initialiser, fill_text, initialiser_without_braces, filling_for, faults_of_list, behind_list, initialiser, initialisers, Started, with_length, whole_value, whole_text, whole_without_braces, listed_length, object_initialiser, initialiser_of_none}
use Rattle.lt_typed_addresses.proofs.Resting.{PartRests, PartsRest, TypedRests, constancy_to_rests}
use Rattle.lt_typed_addresses.proofs.Keeping.{Keeps, same, TypedAt, Good, Kept, went, bind, judges, judged, entered}
use Rattle.lt_typed_addresses.proofs.Growth.{pushed, joined, parts_later}
use Rattle.lt_typed_addresses.proofs.KeptExpressions.{of_expression}

-- ---- parts

abbrev pub PartsAt : Bool → List Object → List StartPart → Type 0
PartsAt is_unmarked objects parts = is_unmarked ≡ false → PartsRest objects parts

abbrev FillingAt : Bool → List Object → Filling → Type 0
FillingAt is_unmarked objects filling = PartsAt is_unmarked objects filling.parts

abbrev pub StartedAt : Bool → List Object → Started → Type 0
StartedAt is_unmarked objects it = PartsAt is_unmarked objects it.start.parts

parts_still : {was now : Bool} {before behind : List Object} (parts : List StartPart) → Keeps was before now behind → PartsAt was before parts → PartsAt now behind parts
parts_still parts k h clean = parts_later k.lives parts (h (sym k.marks ∙ clean))

value_part_rests : {objects : List Object} (known : Known) (is_static : Bool) (offset : ℕ) (t : CType) {x : Typed} → TypedRests objects x → PartRests objects (value_part known is_static offset t x)
value_part_rests known true offset t {x} h = constancy_to_rests known.model (unqualified t) x.constancy h.constancy
value_part_rests known false offset t h = tt

nothing_filled : (objects : List Object) (known : Known) (list : c.Initialisers) (runs : List Run) → PartsRest objects (filling_for known list runs).parts
nothing_filled objects known list [] = tt
nothing_filled objects known list (run ∷ runs) = tt

filled_behind : (objects : List Object) (known : Known) (outer inner : Filling) (runs : List Run) → PartsRest objects outer.parts → PartsRest objects inner.parts → PartsRest objects (behind_list known outer inner runs).parts
filled_behind objects known outer inner [] h i = h
filled_behind objects known outer inner (run ∷ runs) h i = joined (PartRests objects) outer.parts inner.parts h i

-- ---- string literals

of_literal : (bytes : List ℕ) (known : Known) → Kept known (literal_alone bytes known)
of_literal bytes known = judges known.next (broken_if bad_length (has_too_many_cells known.structs (text_type bytes))) (entered known) _ (went same tt)

-- ---- initialisers in lists

of_fill_value : (node : ℕ) (is_static : Bool) (filling : Filling) (x : Typed) (runs : List Run) (known : Known) → TypedAt known.is_unmarked known.objects x → FillingAt known.is_unmarked known.objects filling
    → Good FillingAt known.is_unmarked known.objects (fill_value node is_static filling x known runs known)
of_fill_value node is_static filling x [] known h i = went same i
of_fill_value node is_static filling x (run ∷ runs) known h i =
    judges node (value_faults known is_static run.type x) known _
    (went same (λ clean. pushed (PartRests known.objects) filling.parts (value_part known is_static run.offset run.type x) (i clean) (value_part_rests known is_static run.offset run.type (h clean))))

of_value : (node : ℕ) (is_static : Bool) (filling : Filling) (e : c.Expression) (known : Known) → FillingAt known.is_unmarked known.objects filling → Good FillingAt known.is_unmarked known.objects (value_initialiser node is_static filling e known)
of_value node is_static filling e known i =
    bind (of_expression e as_value known) (λ x k kept h. of_fill_value node is_static filling x (opened k (is_struct_of (struct_of (own_type x))) filling.left) k h (parts_still filling.parts kept i))

of_letters : (node : ℕ) (filling : Filling) (bytes : List ℕ) (run : Run) (runs : List Run) (known : Known) → FillingAt known.is_unmarked known.objects filling
    → Good FillingAt known.is_unmarked known.objects ((literal_alone bytes >> (settle node (broken_if bad_initialiser (is_too_long_for run.type bytes)) >> gives (filled_by filling (letters_of run.offset run.type bytes) runs))) known)
of_letters node filling bytes run runs known i =
    bind (of_literal bytes known) (λ u k kept h. judges node (broken_if bad_initialiser (is_too_long_for run.type bytes)) k _
    (went same (λ clean. pushed (PartRests k.objects) filling.parts (letters_of run.offset run.type bytes) (parts_still filling.parts kept i clean) tt)))

of_text_or_value : (node : ℕ) (is_text is_static : Bool) (filling : Filling) (e : c.Expression) (bytes : List ℕ) (run : Run) (runs : List Run) (known : Known) → FillingAt known.is_unmarked known.objects filling
    → Good FillingAt known.is_unmarked known.objects ((if is_text then (literal_alone bytes >> (settle node (broken_if bad_initialiser (is_too_long_for run.type bytes)) >> gives (filled_by filling (letters_of run.offset run.type bytes) runs))) else value_initialiser node is_static filling e) known)
of_text_or_value node true is_static filling e bytes run runs known i = of_letters node filling bytes run runs known i
of_text_or_value node false is_static filling e bytes run runs known i = of_value node is_static filling e known i

of_fill_text : (node : ℕ) (is_static : Bool) (filling : Filling) (e : c.Expression) (bytes : List ℕ) (runs : List Run) (known : Known) → FillingAt known.is_unmarked known.objects filling
    → Good FillingAt known.is_unmarked known.objects (fill_text node is_static filling e bytes runs known)
of_fill_text node is_static filling e bytes [] known i = of_value node is_static filling e known i
of_fill_text node is_static filling e bytes (run ∷ runs) known i = of_text_or_value node (is_character_array run.type) is_static filling e bytes run runs known i

of_unbraced : (node : ℕ) (is_static : Bool) (filling : Filling) (e : c.Expression) (found : Option (List ℕ)) (known : Known) → FillingAt known.is_unmarked known.objects filling
    → Good FillingAt known.is_unmarked known.objects (initialiser_without_braces node is_static filling e found known)
of_unbraced node is_static filling e None known i = of_value node is_static filling e known i
of_unbraced node is_static filling e (Some bytes) known i = of_fill_text node is_static filling e bytes (opened known is_character_array filling.left) known i

mutual
  of_initialiser : (it : c.Initialiser) (is_static : Bool) (filling : Filling) (known : Known) → FillingAt known.is_unmarked known.objects filling → Good FillingAt known.is_unmarked known.objects (initialiser it is_static filling known)
  of_initialiser (c.Value e) is_static filling known i = of_unbraced known.next is_static filling e (text_in e) (entered known) i
  of_initialiser (c.Braces list) is_static filling known i =
      bind (of_initialisers list is_static (filling_for (entered known) list filling.left) (entered known) (λ clean. nothing_filled known.objects (entered known) list filling.left))
      (λ inner k kept h. judges known.next (faults_of_list list inner filling.left) k _
      (went same (λ clean. filled_behind k.objects (entered known) filling inner filling.left (parts_still filling.parts kept i clean) (h clean))))

  of_initialisers : (them : c.Initialisers) (is_static : Bool) (filling : Filling) (known : Known) → FillingAt known.is_unmarked known.objects filling → Good FillingAt known.is_unmarked known.objects (initialisers them is_static filling known)
  of_initialisers c.no_initialisers is_static filling known i = went same i
  of_initialisers (c.an_initialiser first rest) is_static filling known i = bind (of_initialiser first is_static filling known i) (λ next k kept h. of_initialisers rest is_static next k h)

-- ---- initialisers of objects

of_whole_value : (node : ℕ) (is_static : Bool) (t : CType) (judge : Judges) (e : c.Expression) (known : Known) → Good StartedAt known.is_unmarked known.objects (whole_value node is_static t judge e known)
of_whole_value node is_static t judge e known =
    bind (of_expression e as_value known) (λ x k kept h. judges node ((if is_array t then bad_initialiser ∷ [] else value_faults k is_static t x) ++ judge k t) k _
    (went same (λ clean. (value_part_rests k is_static 0 t (h clean), tt))))

of_whole_text : (node : ℕ) (t : CType) (judge : Judges) (bytes : List ℕ) (known : Known) → Good StartedAt known.is_unmarked known.objects (whole_text node t judge bytes known)
of_whole_text node t judge bytes known =
    bind (of_literal bytes known) (λ u k kept h. judges node (broken_if bad_initialiser (is_too_long_for t bytes) ++ judge k (with_length t (suc (length bytes)))) k _ (went same (λ clean. (tt, tt))))

of_text_or_whole : (node : ℕ) (is_text is_static : Bool) (t : CType) (judge : Judges) (e : c.Expression) (bytes : List ℕ) (known : Known)
    → Good StartedAt known.is_unmarked known.objects ((if is_text then whole_text node t judge bytes else whole_value node is_static t judge e) known)
of_text_or_whole node true is_static t judge e bytes known = of_whole_text node t judge bytes known
of_text_or_whole node false is_static t judge e bytes known = of_whole_value node is_static t judge e known

of_whole : (node : ℕ) (is_static : Bool) (t : CType) (judge : Judges) (e : c.Expression) (found : Option (List ℕ)) (known : Known) → Good StartedAt known.is_unmarked known.objects (whole_without_braces node is_static t judge e found known)
of_whole node is_static t judge e None known = of_whole_value node is_static t judge e known
of_whole node is_static t judge e (Some bytes) known = of_text_or_whole node (is_character_array t) is_static t judge e bytes known

pub of_object_initialiser : (it : c.Initialiser) (is_static : Bool) (t : CType) (judge : Judges) (known : Known) → Good StartedAt known.is_unmarked known.objects (object_initialiser is_static t judge it known)
of_object_initialiser (c.Value e) is_static t judge known = of_whole known.next is_static t judge e (text_in e) (entered known)
of_object_initialiser (c.Braces list) is_static t judge known =
    bind (of_initialisers list is_static (filling_of (entered known) 0 t list) (entered known) (λ clean. tt))
    (λ filled k kept h. judges known.next (list_faults t list filled ++ judge k (with_length t (listed_length k t list filled))) k _ (went same h))

pub of_initialiser_of_none : (it : c.Initialiser) (known : Known) → Kept known (initialiser_of_none it known)
of_initialiser_of_none (c.Value e) known = bind (of_expression e as_value (entered known)) (λ x k kept h. judged known.next (bad_initialiser ∷ []) k)
of_initialiser_of_none (c.Braces list) known = bind (of_initialisers list false nothing_to_fill (entered known) (λ clean. tt)) (λ filled k kept h. judged known.next (bad_initialiser ∷ []) k)
