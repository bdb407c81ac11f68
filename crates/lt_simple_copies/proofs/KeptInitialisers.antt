-- Typing of initialisers keeps the tags that are in scope.
use Rattle.std.proofs.Common.{ℕ, suc, Bool, true, false, List, [], ◌∷◌, ◌++◌, length, Option, Some, None}
use Rattle.std.specs.Prelude.{if◌then◌else◌}
use Rattle.lt_tree.specs.Tree as c
use Rattle.lt_tree.specs.Typing.Types.{CType, struct_of, is_array}
use Rattle.lt_tree.specs.Typing.Extents.{has_too_many_cells}
use Rattle.lt_tree.specs.Typing.Rules.{broken_if, bad_length, bad_initialiser}
use Rattle.lt_tree.specs.Typing.Entities.{Known}
use Rattle.lt_tree.specs.Typing.Steps.{◌>>◌, gives, settle}
use Rattle.lt_tree.specs.Typing.Expressions.{Typed, as_value, own_type}
use Rattle.lt_tree.specs.Typing.Operations.{text_type}
use Rattle.lt_tree.specs.Typing.Filling.{Run, opened, is_character_array, is_struct_of, is_too_long_for, letters_of, value_faults, Filling, text_in, filling_of, nothing_to_fill, list_faults}
use Rattle.lt_tree.specs.Typing.InitialiserTyping.{literal_alone, filled_by, fill_value, value_initialiser, fill_text, initialiser_without_braces, filling_for, faults_of_list, initialiser, initialisers, Judges, with_length, whole_value, whole_text, whole_without_braces, listed_length, object_initialiser, initialiser_of_none}
use Rattle.lt_simple_copies.proofs.KeptScopes.{same, Kept, went, bind, judges, judged, entered}
use Rattle.lt_simple_copies.proofs.KeptExpressions.{of_expression}

of_literal : (bytes : List ℕ) (known : Known) → Kept known (literal_alone bytes known)
of_literal bytes known = judges known.next (broken_if bad_length (has_too_many_cells known.structs (text_type bytes))) (entered known) _ (went same tt)

-- ---- initialisers in lists

of_fill_value : (node : ℕ) (is_static : Bool) (filling : Filling) (x : Typed) (runs : List Run) (known : Known) → Kept known (fill_value node is_static filling x known runs known)
of_fill_value node is_static filling x [] known = went same tt
of_fill_value node is_static filling x (run ∷ runs) known = judges node (value_faults known is_static run.type x) known _ (went same tt)

of_value : (node : ℕ) (is_static : Bool) (filling : Filling) (e : c.Expression) (known : Known) → Kept known (value_initialiser node is_static filling e known)
of_value node is_static filling e known =
    bind (of_expression e as_value known) (λ x k kept h. of_fill_value node is_static filling x (opened k (is_struct_of (struct_of (own_type x))) filling.left) k)

of_letters : (node : ℕ) (filling : Filling) (bytes : List ℕ) (run : Run) (runs : List Run) (known : Known)
    → Kept known ((literal_alone bytes >> (settle node (broken_if bad_initialiser (is_too_long_for run.type bytes)) >> gives (filled_by filling (letters_of run.offset run.type bytes) runs))) known)
of_letters node filling bytes run runs known = bind (of_literal bytes known) (λ u k kept h. judges node (broken_if bad_initialiser (is_too_long_for run.type bytes)) k _ (went same tt))

of_text_or_value : (node : ℕ) (is_text is_static : Bool) (filling : Filling) (e : c.Expression) (bytes : List ℕ) (run : Run) (runs : List Run) (known : Known)
    → Kept known ((if is_text then (literal_alone bytes >> (settle node (broken_if bad_initialiser (is_too_long_for run.type bytes)) >> gives (filled_by filling (letters_of run.offset run.type bytes) runs))) else value_initialiser node is_static filling e) known)
of_text_or_value node true is_static filling e bytes run runs known = of_letters node filling bytes run runs known
of_text_or_value node false is_static filling e bytes run runs known = of_value node is_static filling e known

of_fill_text : (node : ℕ) (is_static : Bool) (filling : Filling) (e : c.Expression) (bytes : List ℕ) (runs : List Run) (known : Known) → Kept known (fill_text node is_static filling e bytes runs known)
of_fill_text node is_static filling e bytes [] known = of_value node is_static filling e known
of_fill_text node is_static filling e bytes (run ∷ runs) known = of_text_or_value node (is_character_array run.type) is_static filling e bytes run runs known

of_unbraced : (node : ℕ) (is_static : Bool) (filling : Filling) (e : c.Expression) (found : Option (List ℕ)) (known : Known) → Kept known (initialiser_without_braces node is_static filling e found known)
of_unbraced node is_static filling e None known = of_value node is_static filling e known
of_unbraced node is_static filling e (Some bytes) known = of_fill_text node is_static filling e bytes (opened known is_character_array filling.left) known

mutual
  pub of_initialiser : (it : c.Initialiser) (is_static : Bool) (filling : Filling) (known : Known) → Kept known (initialiser it is_static filling known)
  of_initialiser (c.Value e) is_static filling known = of_unbraced known.next is_static filling e (text_in e) (entered known)
  of_initialiser (c.Braces list) is_static filling known =
      bind (of_initialisers list is_static (filling_for (entered known) list filling.left) (entered known))
      (λ inner k kept h. judges known.next (faults_of_list list inner filling.left) k _ (went same tt))

  of_initialisers : (them : c.Initialisers) (is_static : Bool) (filling : Filling) (known : Known) → Kept known (initialisers them is_static filling known)
  of_initialisers c.no_initialisers is_static filling known = went same tt
  of_initialisers (c.an_initialiser first rest) is_static filling known = bind (of_initialiser first is_static filling known) (λ next k kept h. of_initialisers rest is_static next k)

-- ---- initialisers of objects

of_whole_value : (node : ℕ) (is_static : Bool) (t : CType) (judge : Judges) (e : c.Expression) (known : Known) → Kept known (whole_value node is_static t judge e known)
of_whole_value node is_static t judge e known =
    bind (of_expression e as_value known) (λ x k kept h. judges node ((if is_array t then bad_initialiser ∷ [] else value_faults k is_static t x) ++ judge k t) k _ (went same tt))

of_whole_text : (node : ℕ) (t : CType) (judge : Judges) (bytes : List ℕ) (known : Known) → Kept known (whole_text node t judge bytes known)
of_whole_text node t judge bytes known =
    bind (of_literal bytes known) (λ u k kept h. judges node (broken_if bad_initialiser (is_too_long_for t bytes) ++ judge k (with_length t (suc (length bytes)))) k _ (went same tt))

of_text_or_whole : (node : ℕ) (is_text is_static : Bool) (t : CType) (judge : Judges) (e : c.Expression) (bytes : List ℕ) (known : Known)
    → Kept known ((if is_text then whole_text node t judge bytes else whole_value node is_static t judge e) known)
of_text_or_whole node true is_static t judge e bytes known = of_whole_text node t judge bytes known
of_text_or_whole node false is_static t judge e bytes known = of_whole_value node is_static t judge e known

of_whole : (node : ℕ) (is_static : Bool) (t : CType) (judge : Judges) (e : c.Expression) (found : Option (List ℕ)) (known : Known) → Kept known (whole_without_braces node is_static t judge e found known)
of_whole node is_static t judge e None known = of_whole_value node is_static t judge e known
of_whole node is_static t judge e (Some bytes) known = of_text_or_whole node (is_character_array t) is_static t judge e bytes known

pub of_object_initialiser : (it : c.Initialiser) (is_static : Bool) (t : CType) (judge : Judges) (known : Known) → Kept known (object_initialiser is_static t judge it known)
of_object_initialiser (c.Value e) is_static t judge known = of_whole known.next is_static t judge e (text_in e) (entered known)
of_object_initialiser (c.Braces list) is_static t judge known =
    bind (of_initialisers list is_static (filling_of (entered known) 0 t list) (entered known))
    (λ filled k kept h. judges known.next (list_faults t list filled ++ judge k (with_length t (listed_length k t list filled))) k _ (went same tt))

pub of_initialiser_of_none : (it : c.Initialiser) (known : Known) → Kept known (initialiser_of_none it known)
of_initialiser_of_none (c.Value e) known = bind (of_expression e as_value (entered known)) (λ x k kept h. judged known.next (bad_initialiser ∷ []) k)
of_initialiser_of_none (c.Braces list) known = bind (of_initialisers list false nothing_to_fill (entered known)) (λ filled k kept h. judged known.next (bad_initialiser ∷ []) k)
