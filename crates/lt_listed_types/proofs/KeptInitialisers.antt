-- Typing of initialisers keeps the types of what is known, and what it stores in a part is of a type that is named, if that of the object is.
use Rattle.std.proofs.Common.{◌≡◌, refl, subst, ℕ, suc, Bool, true, false, List, [], ◌∷◌, ◌++◌, length, Option, Some, None}
use Rattle.std.specs.Prelude.{if◌then◌else◌, ◌&&◌, ◌==◌}
use Rattle.lt_tree.specs.Tree as c
use Rattle.lt_tree.specs.Typing.Types.{CType, Array, Qualified, struct_of, unqualified, is_array}
use Rattle.lt_tree.specs.Typing.Extents.{has_too_many_cells}
use Rattle.lt_tree.specs.Typing.Constants.{Constancy}
use Rattle.lt_tree.specs.Typing.Rules.{Rule, broken_if, unless, bad_length, bad_assignment, bad_initialiser}
use Rattle.lt_tree.specs.Typing.TypedTree.{StartPart, type_of}
use Rattle.lt_tree.specs.Typing.Entities.{Known}
use Rattle.lt_tree.specs.Typing.Steps.{◌>>◌, gives, settle}
use Rattle.lt_tree.specs.Typing.Operands.{holds, is_assignable}
use Rattle.lt_tree.specs.Typing.Expressions.{Form, a_value, a_place, a_designator, Typed, as_value, own_type, value_in}
use Rattle.lt_tree.specs.Typing.Operations.{text_type, counts_as_null, fits}
use Rattle.lt_tree.specs.Typing.Filling.{Run, Filling, one_object, opened, parts_of, behind_first, is_struct_of, is_character_array, is_too_long_for, letters_of, value_faults, value_part, text_in, only_text, filling_of, nothing_to_fill, list_faults}
use Rattle.lt_tree.specs.Typing.InitialiserTyping.{Judges, literal_alone, filled_by, fill_value, value_initialiser, fill_text, initialiser_without_braces, filling_for, faults_of_list, behind_list, initialiser, initialisers, Started, with_length, whole_value, whole_text, whole_without_braces, listed_length, object_initialiser, initialiser_of_none}
use Rattle.lt_type_laws.specs.Accesses.{is_named_in, AccessesPart, AccessesParts}
use Rattle.lt_type_laws.proofs.Lists.{all_both}
use Rattle.lt_listed_types.proofs.Named.{IsNamed, inmost, stored_named}
use Rattle.lt_listed_types.proofs.Keeping.{Lists, lists_of, Names, Once, Good, Kept, went, same, bind, judges, judges_clean, judged, entered}
use Rattle.lt_listed_types.proofs.Growth.{noted}
use Rattle.lt_listed_types.proofs.Reaching.{IsAsUsed, Reaches, converted_accesses}
use Rattle.lt_listed_types.proofs.KeptExpressions.{of_expression}
use Rattle.lt_listed_types.proofs.NamedParts.{RunNamed, RunsNamed, behind_named, parts_named, opened_named}

-- ---- what is stored in a part

-- the type of an expression that is used as a value is that of its value
used_type : (form : Form) (is_register is_after : Bool) (constancy erased : Constancy) → IsAsUsed form as_value
    → own_type (record { form = form; is_register = is_register; is_after = is_after; constancy = constancy; erased = erased })
    ≡ type_of (value_in (record { form = form; is_register = is_register; is_after = is_after; constancy = constancy; erased = erased }))
used_type (a_value v) r a c d h = refl
used_type (a_place place) r a c d h = absurd h
used_type (a_designator name t) r a c d h = absurd h

no_rule : (rule : Rule) (b : Bool) (rules : List Rule) → unless b rule ++ rules ≡ [] → b ≡ true
no_rule rule true rules h = refl
no_rule rule false rules h = absurd cc

module _ (types : List CType) where
  unqualified_inside : (t : CType) → IsNamed types t → IsNamed types (unqualified t)
  unqualified_inside (Qualified q t) h = h
  unqualified_inside _ h = h

  value_stored : (known : Known) (is_static : Bool) (offset : ℕ) (t : CType) (x : Typed) → value_faults known is_static t x ≡ [] → IsNamed types t → Reaches types as_value x
      → AccessesPart (is_named_in types) (value_part known is_static offset t x)
  value_stored known true offset t x clean named h = tt
  value_stored known false offset t x clean named h = (
    stored_named types (unqualified t) (value_in x) (counts_as_null x)
        (subst (λ u. is_assignable (unqualified t) u (counts_as_null x) ≡ true) (used_type x.form x.is_register x.is_after x.constancy x.erased h.as_used) (no_rule bad_assignment (fits (unqualified t) x) _ clean)) (unqualified_inside t named),
    converted_accesses (is_named_in types) (unqualified t) (value_in x) h.value,
  )

  joined : (xs ys : List StartPart) → AccessesParts (is_named_in types) xs → AccessesParts (is_named_in types) ys → AccessesParts (is_named_in types) (xs ++ ys)
  joined [] ys h i = i
  joined (x ∷ xs) ys h i = (h.0, joined xs ys h.1 i)

-- ---- lists in braces

-- what is left to be filled has types that are named, and so has what was stored
record Fills (types : List CType) (filling : Filling) : Type 0 where
  pub left : RunsNamed types filling.left
  pub parts : AccessesParts (is_named_in types) filling.parts

module _ {types : List CType} where
  nothing_filled : Fills types nothing_to_fill
  nothing_filled = record { left = tt; parts = tt }

  filled : (known : Known) (offset : ℕ) (t : CType) (list : c.Initialisers) → Names types (lists_of known) → IsNamed types t → Fills types (filling_of known offset t list)
  filled known offset t list named h = record { left = by (is_character_array t && holds (λ bytes. true) (only_text list)); parts = tt }
    where
      by : (b : Bool) → RunsNamed types (if b then one_object offset t ∷ [] else parts_of known offset t)
      by true = (h, tt)
      by false = parts_named types known offset t named h

  filled_for : (known : Known) (list : c.Initialisers) (runs : List Run) → Names types (lists_of known) → RunsNamed types runs → Fills types (filling_for known list runs)
  filled_for known list [] named h = nothing_filled
  filled_for known list (run ∷ runs) named h = filled known run.offset run.type list named h.0

  filled_behind : (known : Known) (outer inner : Filling) (runs : List Run) → RunsNamed types runs → Fills types outer → Fills types inner → Fills types (behind_list known outer inner runs)
  filled_behind known outer inner [] h i j = record { left = i.left; parts = i.parts }
  filled_behind known outer inner (run ∷ runs) h i j = record {
    left = all_both (RunNamed types) (behind_first known run) runs (behind_named types known run h.0) h.1;
    parts = joined types outer.parts inner.parts i.parts j.parts;
  }

  part_filled : (filling : Filling) (part : StartPart) (runs : List Run) → Fills types filling → AccessesPart (is_named_in types) part → RunsNamed types runs → Fills types (filled_by filling part runs)
  part_filled filling part runs h i j = record { left = j; parts = joined types filling.parts (part ∷ []) h.parts (i, tt) }

  -- ---- string literals

  of_literal : (bytes : List ℕ) (known : Known) → Kept types known (literal_alone bytes known)
  of_literal bytes known = judges known.next (broken_if bad_length (has_too_many_cells known.structs (text_type bytes))) (entered known) _ (went (noted _ (entered known)) tt)

  -- ---- initialisers in lists

  of_fill_value : (node : ℕ) (is_static : Bool) (filling : Filling) (x : Typed) (runs : List Run) (known : Known) → (Names types (lists_of known) → Reaches types as_value x)
      → (Names types (lists_of known) → Fills types filling) → (Names types (lists_of known) → RunsNamed types runs) → Good types (Once types (Fills types)) (lists_of known) (fill_value node is_static filling x known runs known)
  of_fill_value node is_static filling x [] known h i j = went same (λ named. record { left = (i named).left; parts = (i named).parts })
  of_fill_value node is_static filling x (run ∷ runs) known h i j =
      judges_clean node (value_faults known is_static run.type x) known _
      (λ clean. went same (λ named. part_filled filling (value_part known is_static run.offset run.type x) runs (i named) (value_stored types known is_static run.offset run.type x clean (j named).0 (h named)) (j named).1))

  of_value : (node : ℕ) (is_static : Bool) (filling : Filling) (e : c.Expression) (known : Known) → (Names types (lists_of known) → Fills types filling)
      → Good types (Once types (Fills types)) (lists_of known) (value_initialiser node is_static filling e known)
  of_value node is_static filling e known i =
      bind (of_expression e as_value known) (λ x k kept h.
      let whole = is_struct_of (struct_of (own_type x)) in
      of_fill_value node is_static filling x (opened k whole filling.left) k h (λ named. i (kept.names named)) (λ named. opened_named types k whole filling.left named (i (kept.names named)).left))

  of_letters : (node : ℕ) (filling : Filling) (bytes : List ℕ) (run : Run) (runs : List Run) (known : Known) → (Names types (lists_of known) → Fills types filling) → (Names types (lists_of known) → RunsNamed types runs)
      → Good types (Once types (Fills types)) (lists_of known) ((literal_alone bytes >> (settle node (broken_if bad_initialiser (is_too_long_for run.type bytes)) >> gives (filled_by filling (letters_of run.offset run.type bytes) runs))) known)
  of_letters node filling bytes run runs known i j =
      bind (of_literal bytes known) (λ u k kept h. judges node (broken_if bad_initialiser (is_too_long_for run.type bytes)) k _
      (went same (λ named. part_filled filling (letters_of run.offset run.type bytes) runs (i (kept.names named)) tt (j (kept.names named)))))

  of_text_or_value : (node : ℕ) (is_text is_static : Bool) (filling : Filling) (e : c.Expression) (bytes : List ℕ) (run : Run) (runs : List Run) (known : Known)
      → (Names types (lists_of known) → Fills types filling) → (Names types (lists_of known) → RunsNamed types runs)
      → Good types (Once types (Fills types)) (lists_of known) ((if is_text then (literal_alone bytes >> (settle node (broken_if bad_initialiser (is_too_long_for run.type bytes)) >> gives (filled_by filling (letters_of run.offset run.type bytes) runs))) else value_initialiser node is_static filling e) known)
  of_text_or_value node true is_static filling e bytes run runs known i j = of_letters node filling bytes run runs known i j
  of_text_or_value node false is_static filling e bytes run runs known i j = of_value node is_static filling e known i

  of_fill_text : (node : ℕ) (is_static : Bool) (filling : Filling) (e : c.Expression) (bytes : List ℕ) (runs : List Run) (known : Known) → (Names types (lists_of known) → Fills types filling)
      → (Names types (lists_of known) → RunsNamed types runs) → Good types (Once types (Fills types)) (lists_of known) (fill_text node is_static filling e bytes runs known)
  of_fill_text node is_static filling e bytes [] known i j = of_value node is_static filling e known i
  of_fill_text node is_static filling e bytes (run ∷ runs) known i j = of_text_or_value node (is_character_array run.type) is_static filling e bytes run runs known i (λ named. (j named).1)

  of_unbraced : (node : ℕ) (is_static : Bool) (filling : Filling) (e : c.Expression) (found : Option (List ℕ)) (known : Known) → (Names types (lists_of known) → Fills types filling)
      → Good types (Once types (Fills types)) (lists_of known) (initialiser_without_braces node is_static filling e found known)
  of_unbraced node is_static filling e None known i = of_value node is_static filling e known i
  of_unbraced node is_static filling e (Some bytes) known i =
      of_fill_text node is_static filling e bytes (opened known is_character_array filling.left) known i (λ named. opened_named types known is_character_array filling.left named (i named).left)

  mutual
    of_initialiser : (it : c.Initialiser) (is_static : Bool) (filling : Filling) (known : Known) → (Names types (lists_of known) → Fills types filling) → Good types (Once types (Fills types)) (lists_of known) (initialiser it is_static filling known)
    of_initialiser (c.Value e) is_static filling known i = of_unbraced known.next is_static filling e (text_in e) (entered known) i
    of_initialiser (c.Braces list) is_static filling known i =
        bind (of_initialisers list is_static (filling_for (entered known) list filling.left) (entered known) (λ named. filled_for (entered known) list filling.left named (i named).left))
        (λ inner k kept h. judges known.next (faults_of_list list inner filling.left) k _
        (went same (λ named. let outer : Fills types filling = i (kept.names named) in filled_behind (entered known) filling inner filling.left outer.left outer (h named))))

    of_initialisers : (them : c.Initialisers) (is_static : Bool) (filling : Filling) (known : Known) → (Names types (lists_of known) → Fills types filling) → Good types (Once types (Fills types)) (lists_of known) (initialisers them is_static filling known)
    of_initialisers c.no_initialisers is_static filling known i = went same i
    of_initialisers (c.an_initialiser first rest) is_static filling known i = bind (of_initialiser first is_static filling known i) (λ next k kept h. of_initialisers rest is_static next k h)

-- ---- initialisers of objects

-- how an object of this type starts: the type stays but for a length
pub record Begins (types : List CType) (t : CType) (lists : Lists) (it : Started) : Type 0 where
  pub parts : Names types lists → AccessesParts (is_named_in types) it.start.parts
  pub inside : inmost it.type ≡ inmost t

with_length_inside : (t : CType) (k : ℕ) → inmost (with_length t k) ≡ inmost t
with_length_inside (Array t n) k = elim (n == 0) as (λ b. inmost (if b then Array t k else Array t n) ≡ inmost t) [ true ↦ refl | false ↦ refl ]
with_length_inside _ k = refl

no_faults : (is_array : Bool) (rules others : List Rule) → (if is_array then bad_initialiser ∷ [] else rules) ++ others ≡ [] → rules ≡ []
no_faults true rules others h = absurd cc
no_faults false [] others h = refl
no_faults false (rule ∷ rules) others h = absurd cc

module _ {types : List CType} where
  of_whole_value : (node : ℕ) (is_static : Bool) (t : CType) (judge : Judges) (e : c.Expression) (known : Known) → (Names types (lists_of known) → IsNamed types t)
      → Good types (Begins types t) (lists_of known) (whole_value node is_static t judge e known)
  of_whole_value node is_static t judge e known i =
      bind (of_expression e as_value known) (λ x k kept h. judges_clean node ((if is_array t then bad_initialiser ∷ [] else value_faults k is_static t x) ++ judge k t) k _
      (λ clean. went same (record { parts = λ named. (value_stored types k is_static 0 t x (no_faults (is_array t) (value_faults k is_static t x) (judge k t) clean) (i (kept.names named)) (h named), tt); inside = refl })))

  of_whole_text : (node : ℕ) (t : CType) (judge : Judges) (bytes : List ℕ) (known : Known) → Good types (Begins types t) (lists_of known) (whole_text node t judge bytes known)
  of_whole_text node t judge bytes known =
      bind (of_literal bytes known) (λ u k kept h. judges node (broken_if bad_initialiser (is_too_long_for t bytes) ++ judge k (with_length t (suc (length bytes)))) k _
      (went same (record { parts = λ named. (tt, tt); inside = with_length_inside t (suc (length bytes)) })))

  of_text_or_whole : (node : ℕ) (is_text is_static : Bool) (t : CType) (judge : Judges) (e : c.Expression) (bytes : List ℕ) (known : Known) → (Names types (lists_of known) → IsNamed types t)
      → Good types (Begins types t) (lists_of known) ((if is_text then whole_text node t judge bytes else whole_value node is_static t judge e) known)
  of_text_or_whole node true is_static t judge e bytes known i = of_whole_text node t judge bytes known
  of_text_or_whole node false is_static t judge e bytes known i = of_whole_value node is_static t judge e known i

  of_whole : (node : ℕ) (is_static : Bool) (t : CType) (judge : Judges) (e : c.Expression) (found : Option (List ℕ)) (known : Known) → (Names types (lists_of known) → IsNamed types t)
      → Good types (Begins types t) (lists_of known) (whole_without_braces node is_static t judge e found known)
  of_whole node is_static t judge e None known i = of_whole_value node is_static t judge e known i
  of_whole node is_static t judge e (Some bytes) known i = of_text_or_whole node (is_character_array t) is_static t judge e bytes known i

  pub of_object_initialiser : (it : c.Initialiser) (is_static : Bool) (t : CType) (judge : Judges) (known : Known) → (Names types (lists_of known) → IsNamed types t)
      → Good types (Begins types t) (lists_of known) (object_initialiser is_static t judge it known)
  of_object_initialiser (c.Value e) is_static t judge known i = of_whole known.next is_static t judge e (text_in e) (entered known) i
  of_object_initialiser (c.Braces list) is_static t judge known i =
      bind (of_initialisers list is_static (filling_of (entered known) 0 t list) (entered known) (λ named. filled (entered known) 0 t list named (i named)))
      (λ filled k kept h. judges known.next (list_faults t list filled ++ judge k (with_length t (listed_length k t list filled))) k _
      (went same (record { parts = λ named. (h named).parts; inside = with_length_inside t (listed_length k t list filled) })))

  pub of_initialiser_of_none : (it : c.Initialiser) (known : Known) → Kept types known (initialiser_of_none it known)
  of_initialiser_of_none (c.Value e) known = bind (of_expression e as_value (entered known)) (λ x k kept h. judged known.next (bad_initialiser ∷ []) k)
  of_initialiser_of_none (c.Braces list) known = bind (of_initialisers list false nothing_to_fill (entered known) (λ named. nothing_filled)) (λ filled k kept h. judged known.next (bad_initialiser ∷ []) k)
