-- The typing of initialisers and declarations stays in range.
use Rattle.std.proofs.Common.{◌≡◌, refl, ℕ, suc, ◌<◌, Bool, true, false, if◌then◌else◌, List, [], ◌∷◌, ◌++◌, length, Option, Some, None, arith}
use Rattle.std.specs.Prelude.{is_some, not, ◌&&◌, ◌||◌}
use Rattle.std.specs.List.{flat_map}
use Rattle.lt_tree.specs.declared.specifier.Storage.{Storage}
use Rattle.lt_tree.specs.declared.specifier.Storage.TheVariants as storage
use Rattle.lt_tree.specs.Tree as c
use Rattle.lt_tree.specs.Typing.Types.{CType, struct_of, is_array, is_function}
use Rattle.lt_tree.specs.Typing.Extents.{has_too_many_cells}
use Rattle.lt_tree.specs.Typing.Constants.{varying}
use Rattle.lt_tree.specs.Typing.Rules.{broken_if, bad_length, bad_initialiser}
use Rattle.lt_tree.specs.Typing.TypedTree.{Start, Local}
use Rattle.lt_tree.specs.Typing.Entities.{Known, Object, Fact, Life, linked, local_static, literal, automatic, parameter, unmade, an_object, a_typedef, a_function, is_linked, is_static, is_file_scope, linked_object, bind_name, type_of_object}
use Rattle.lt_tree.specs.Typing.Steps.{Walk, ◌>>◌, gives, settle}
use Rattle.lt_tree.specs.Typing.Expressions.{Typed, as_value, own_type}
use Rattle.lt_tree.specs.Typing.Operations.{text_type}
use Rattle.lt_tree.specs.Typing.Specifying.{Specified, is_class, alone, elsewhere}
use Rattle.lt_tree.specs.Typing.Declarators.{Declares}
use Rattle.lt_tree.specs.Typing.Filling.{Run, Filling, opened, is_struct_of, is_character_array, is_too_long_for, letters_of, value_faults, value_part, text_in, filling_of, nothing_to_fill, list_faults}
use Rattle.lt_tree.specs.Typing.InitialiserTyping.{Judges, literal_alone, filled_by, fill_value, value_initialiser, fill_text, initialiser_without_braces, filling_for, faults_of_list, initialiser, initialisers, Started, with_length, whole_value, whole_text, whole_without_braces, listed_length, object_initialiser, initialiser_of_none}
use Rattle.lt_tree.specs.Typing.Declaring.{Kind, a_type_name, a_function_name, an_object_of, life_of, kind_of, declaration_faults, with_declared, new_object, object_for, declare_object, length_faults}
use Rattle.lt_tree.specs.Typing.DeclarationTyping.{no_object, created, started_object, declare, init_declarators, has_no_declarator, DeclaredLocals, declaration_by}
use Rattle.lt_tree.specs.Typing.Ranges.{Lists, to_object, to_local, lives, is_automatic, in_start, in_local, in_option}
use Rattle.lt_ranges.proofs.References.{Has, none, one, cons, both, front, back, Kept, same, then_kept, later, appended}
use Rattle.lt_ranges.proofs.Steps.{Sound, lists_of, Good, went, bind, onward, done, Any, judged, entered}
use Rattle.lt_ranges.proofs.TypesInRange.{T}
use Rattle.lt_ranges.proofs.TypedInRange.{TypedIn}
use Rattle.lt_ranges.proofs.Lookups.{object_type_in, linked_in}
use Rattle.lt_ranges.proofs.Growth.{bound, noted, object_kept, object_lives, object_there, object_added, start_in, declared_in}
use Rattle.lt_ranges.proofs.Specified.{SpecifiedIn, DeclaresIn}
use Rattle.lt_ranges.proofs.FillingsInRange.{in_run, RunsIn, FillingIn, later_filling, opened_in, value_part_in, filled_in, filling_in, nothing_in_filling, filling_for_in, behind_list_in, with_length_in}
use Rattle.lt_ranges.proofs.RangedExpressions.{of_expression, of_specifiers, of_declarator}

-- ---- string literals

of_literal : (bytes : List ℕ) (known : Known) → Sound known → Good Any (lists_of known) (literal_alone bytes known)
of_literal bytes known s =
    let fact : Fact = record { node = known.next; type = text_type bytes; is_place = true; constancy = varying; object = None } in
    bind (judged known.next (broken_if bad_length (has_too_many_cells known.structs (text_type bytes))) (entered known) s) (λ u k kept s h. went same (noted fact k none s) tt)

-- ---- initialisers in lists

of_fill_value : (node : ℕ) (is_static : Bool) (filling : Filling) (x : Typed) (runs : List Run) (known : Known) → Sound known → FillingIn (lists_of known) filling → TypedIn (lists_of known) x
    → RunsIn (lists_of known) runs → Good FillingIn (lists_of known) (fill_value node is_static filling x known runs known)
of_fill_value node is_static filling x [] known s h i j = done known s (record { left = h.left; parts = h.parts })
of_fill_value node is_static filling x (run ∷ runs) known s h i j =
    bind (judged node (value_faults known is_static run.type x) known s) (λ u k kept s r. done k s (later_filling kept
    (filled_in filling (value_part known is_static run.offset run.type x) runs h (value_part_in known is_static run.offset run.type (front {rs = in_run run} _ j) i) (back (in_run run) j))))

of_value : (node : ℕ) (is_static : Bool) (filling : Filling) (e : c.Expression) (known : Known) → Sound known → FillingIn (lists_of known) filling
    → Good FillingIn (lists_of known) (value_initialiser node is_static filling e known)
of_value node is_static filling e known s h =
    bind (of_expression e as_value known s) (λ x k kept s x_in. of_fill_value node is_static filling x (opened k (is_struct_of (struct_of (own_type x))) filling.left) k s (later_filling kept h) x_in
    (opened_in k (is_struct_of (struct_of (own_type x))) filling.left s (later kept h.left)))

of_letters : (node : ℕ) (filling : Filling) (bytes : List ℕ) (run : Run) (runs : List Run) (known : Known) → Sound known → FillingIn (lists_of known) filling → RunsIn (lists_of known) runs
    → Good FillingIn (lists_of known) ((literal_alone bytes >> (settle node (broken_if bad_initialiser (is_too_long_for run.type bytes)) >> gives (filled_by filling (letters_of run.offset run.type bytes) runs))) known)
of_letters node filling bytes run runs known s h i =
    bind (of_literal bytes known s) (λ u k kept_l s r. bind (judged node (broken_if bad_initialiser (is_too_long_for run.type bytes)) k s)
    (λ u k kept s r. done k s (later_filling (then_kept kept_l kept) (filled_in filling (letters_of run.offset run.type bytes) runs h none i))))

of_text_or_value : (node : ℕ) (is_text is_static : Bool) (filling : Filling) (e : c.Expression) (bytes : List ℕ) (run : Run) (runs : List Run) (known : Known)
    → Sound known → FillingIn (lists_of known) filling → RunsIn (lists_of known) runs
    → Good FillingIn (lists_of known) ((if is_text then (literal_alone bytes >> (settle node (broken_if bad_initialiser (is_too_long_for run.type bytes)) >> gives (filled_by filling (letters_of run.offset run.type bytes) runs))) else value_initialiser node is_static filling e) known)
of_text_or_value node true is_static filling e bytes run runs known s h i = of_letters node filling bytes run runs known s h i
of_text_or_value node false is_static filling e bytes run runs known s h i = of_value node is_static filling e known s h

of_fill_text : (node : ℕ) (is_static : Bool) (filling : Filling) (e : c.Expression) (bytes : List ℕ) (runs : List Run) (known : Known)
    → Sound known → FillingIn (lists_of known) filling → RunsIn (lists_of known) runs → Good FillingIn (lists_of known) (fill_text node is_static filling e bytes runs known)
of_fill_text node is_static filling e bytes [] known s h i = of_value node is_static filling e known s h
of_fill_text node is_static filling e bytes (run ∷ runs) known s h i = of_text_or_value node (is_character_array run.type) is_static filling e bytes run runs known s h (back (in_run run) i)

of_unbraced : (node : ℕ) (is_static : Bool) (filling : Filling) (e : c.Expression) (found : Option (List ℕ)) (known : Known)
    → Sound known → FillingIn (lists_of known) filling → Good FillingIn (lists_of known) (initialiser_without_braces node is_static filling e found known)
of_unbraced node is_static filling e None known s h = of_value node is_static filling e known s h
of_unbraced node is_static filling e (Some bytes) known s h =
    of_fill_text node is_static filling e bytes (opened known is_character_array filling.left) known s h (opened_in known is_character_array filling.left s h.left)

mutual
  of_initialiser : (it : c.Initialiser) (is_static : Bool) (filling : Filling) (known : Known) → Sound known → FillingIn (lists_of known) filling
      → Good FillingIn (lists_of known) (initialiser it is_static filling known)
  of_initialiser (c.Value e) is_static filling known s h = of_unbraced known.next is_static filling e (text_in e) (entered known) s h
  of_initialiser (c.Braces list) is_static filling known s h =
      bind (of_initialisers list is_static (filling_for (entered known) list filling.left) (entered known) s (filling_for_in (entered known) list filling.left s h.left))
      (λ inner k kept_i s i. bind (judged known.next (faults_of_list list inner filling.left) k s)
      (λ u k kept s r. done k s (behind_list_in (entered known) filling inner filling.left (later_filling (then_kept kept_i kept) h) (later_filling kept i) (later (then_kept kept_i kept) h.left))))

  of_initialisers : (them : c.Initialisers) (is_static : Bool) (filling : Filling) (known : Known) → Sound known → FillingIn (lists_of known) filling
      → Good FillingIn (lists_of known) (initialisers them is_static filling known)
  of_initialisers c.no_initialisers is_static filling known s h = done known s h
  of_initialisers (c.an_initialiser first rest) is_static filling known s h = bind (of_initialiser first is_static filling known s h) (λ next k kept s i. of_initialisers rest is_static next k s i)

-- ---- initialisers of objects

pub record StartedIn (b : Lists) (it : Started) : Type 0 where
  pub start : Has b (in_start it.start)
  pub type : T b it.type

of_whole_value : (node : ℕ) (is_static : Bool) (t : CType) (judge : Judges) (e : c.Expression) (known : Known) → Sound known → T (lists_of known) t
    → Good StartedIn (lists_of known) (whole_value node is_static t judge e known)
of_whole_value node is_static t judge e known s h =
    bind (of_expression e as_value known s) (λ x k kept_x s x_in. bind (judged node ((if is_array t then bad_initialiser ∷ [] else value_faults k is_static t x) ++ judge k t) k s)
    (λ u k2 kept s r. done k2 s (record { start = both (later kept (value_part_in k is_static 0 t (later kept_x h) x_in)) none; type = later (then_kept kept_x kept) h })))

of_whole_text : (node : ℕ) (t : CType) (judge : Judges) (bytes : List ℕ) (known : Known) → Sound known → T (lists_of known) t → Good StartedIn (lists_of known) (whole_text node t judge bytes known)
of_whole_text node t judge bytes known s h =
    bind (of_literal bytes known s) (λ u k kept_l s r. bind (judged node (broken_if bad_initialiser (is_too_long_for t bytes) ++ judge k (with_length t (suc (length bytes)))) k s)
    (λ u k kept s r. done k s (record { start = none; type = with_length_in t (suc (length bytes)) (later (then_kept kept_l kept) h) })))

of_text_or_whole : (node : ℕ) (is_text is_static : Bool) (t : CType) (judge : Judges) (e : c.Expression) (bytes : List ℕ) (known : Known) → Sound known → T (lists_of known) t
    → Good StartedIn (lists_of known) ((if is_text then whole_text node t judge bytes else whole_value node is_static t judge e) known)
of_text_or_whole node true is_static t judge e bytes known s h = of_whole_text node t judge bytes known s h
of_text_or_whole node false is_static t judge e bytes known s h = of_whole_value node is_static t judge e known s h

of_whole : (node : ℕ) (is_static : Bool) (t : CType) (judge : Judges) (e : c.Expression) (found : Option (List ℕ)) (known : Known) → Sound known → T (lists_of known) t
    → Good StartedIn (lists_of known) (whole_without_braces node is_static t judge e found known)
of_whole node is_static t judge e None known s h = of_whole_value node is_static t judge e known s h
of_whole node is_static t judge e (Some bytes) known s h = of_text_or_whole node (is_character_array t) is_static t judge e bytes known s h

of_object_initialiser : (it : c.Initialiser) (is_static : Bool) (t : CType) (judge : Judges) (known : Known) → Sound known → T (lists_of known) t
    → Good StartedIn (lists_of known) (object_initialiser is_static t judge it known)
of_object_initialiser (c.Value e) is_static t judge known s h = of_whole known.next is_static t judge e (text_in e) (entered known) s h
of_object_initialiser (c.Braces list) is_static t judge known s h =
    bind (of_initialisers list is_static (filling_of (entered known) 0 t list) (entered known) s (filling_in (entered known) 0 t list s h))
    (λ filled k kept_f s i. bind (judged known.next (list_faults t list filled ++ judge k (with_length t (listed_length k t list filled))) k s)
    (λ u k2 kept s r. done k2 s (record { start = later kept i.parts; type = with_length_in t (listed_length k t list filled) (later (then_kept kept_f kept) h) })))

of_initialiser_of_none : (it : c.Initialiser) (known : Known) → Sound known → Good Any (lists_of known) (initialiser_of_none it known)
of_initialiser_of_none (c.Value e) known s = bind (of_expression e as_value (entered known) s) (λ x k kept s x_in. judged known.next (bad_initialiser ∷ []) k s)
of_initialiser_of_none (c.Braces list) known s =
    bind (of_initialisers list false nothing_to_fill (entered known) s nothing_in_filling) (λ filled k kept s h. judged known.next (bad_initialiser ∷ []) k s)

-- ---- declarations

abbrev pub LocalsIn : Lists → List Local → Type 0
LocalsIn b locals = Has b (flat_map in_local locals)

of_no_object : (i : Option c.Initialiser) (known : Known) → Sound known → Good LocalsIn (lists_of known) (no_object i known)
of_no_object None known s = done known s none
of_no_object (Some i) known s = bind (of_initialiser_of_none i known s) (λ u k kept s h. done k s none)

created_in : {b : Lists} (is_there : Bool) (n : ℕ) (start : Option Start) → (is_there ≡ false → lives is_automatic b.objects n ≡ true) → Has b (in_option in_start start)
    → LocalsIn b (created is_there n start)
created_in true n start h i = none
created_in false n start h i = both (cons {r = to_local n} (h refl) i) none

start_if : {b : Lists} (is_static : Bool) (start : Start) → Has b (in_start start) → Has b (in_option in_start (if is_static then Some start else None))
start_if true start h = h
start_if false start h = none

-- what isn't there from the start is automatic
abbrev LivesInBlocks : Life → Type 0
LivesInBlocks life = is_static life ≡ false → is_automatic life ≡ true

-- the number of an object that lives so
abbrev ObjectIn : Life → Lists → ℕ → Type 0
ObjectIn life b n = (n < length b.objects) × (is_static life ≡ false → lives is_automatic b.objects n ≡ true)

later_object : (life : Life) {b b' : Lists} (n : ℕ) → Kept b b' → ObjectIn life b n → ObjectIn life b' n
later_object life {b = b} {b' = b'} n kept h = let le = kept.objects in let lt = h.0 in (omega arith, λ is. kept.lives_on is_automatic n (h.1 is))

of_started_object : (life : Life) (n : ℕ) (i : Option c.Initialiser) (known : Known) → Sound known → ObjectIn life (lists_of known) n → Good LocalsIn (lists_of known) (started_object life n i known)
of_started_object life n None known s h = done known s (created_in (is_static life) n None h.1 none)
of_started_object life n (Some i) known s h =
    bind (of_object_initialiser i (is_static life) (type_of_object known n) length_faults known s (object_type_in known n s)) (λ it k kept s it_in.
    let end = start_in n (if is_static life then Some it.start else None) it.type k it_in.type (start_if (is_static life) it.start it_in.start) s in
    let there = later_object life n (then_kept kept end.0) h in
    went end.0 end.1 (created_in (is_static life) n (Some it.start) there.1 (later end.0 it_in.start)))

of_new_object : (life : Life) (node : ℕ) (name : List ℕ) (t : CType) (known : Known) → LivesInBlocks life → Sound known → T (lists_of known) t
    → Good (ObjectIn life) (lists_of known) (new_object life node name t known)
of_new_object life node name t known so s h =
    let object : Object = record { node = node; name = name; type = t; life = life; start = None } in
    went (object_kept object known) (object_added object known (both h none) s) (object_there object known, λ is. object_lives is_automatic object known (so is))

linked_is_static : (life : Life) → is_linked life ≡ true → is_static life ≡ true
linked_is_static linked h = refl
linked_is_static local_static h = refl
linked_is_static literal h = refl
linked_is_static automatic h = absurd cc
linked_is_static parameter h = absurd cc
linked_is_static unmade h = absurd cc

linked_is_none : (life : Life) (n : ℕ) (known : Known) → is_linked life ≡ true → n < length known.objects → ObjectIn life (lists_of known) n
linked_is_none life n known is there = let static = linked_is_static life is in (there, λ other. absurd cc)

of_linked_or_new : (is_one : Bool) (life : Life) (node : ℕ) (name : List ℕ) (t : CType) (n : ℕ) (known : Known) → is_linked life ≡ is_one → LivesInBlocks life → Sound known → T (lists_of known) t
    → n < length known.objects → Good (ObjectIn life) (lists_of known) ((if is_one then gives n else new_object life node name t) known)
of_linked_or_new true life node name t n known is so s h there = done known s (linked_is_none life n known is there)
of_linked_or_new false life node name t n known is so s h there = of_new_object life node name t known so s h

of_object_for : (life : Life) (node : ℕ) (name : List ℕ) (t : CType) (found : Option ℕ) (known : Known) → LivesInBlocks life → Sound known → T (lists_of known) t
    → ((n : ℕ) → found ≡ Some n → n < length known.objects) → Good (ObjectIn life) (lists_of known) (object_for life node name t found known)
of_object_for life node name t None known so s h there = of_new_object life node name t known so s h
of_object_for life node name t (Some n) known so s h there = of_linked_or_new (is_linked life) life node name t n known refl so s h (there n refl)

of_declare_object : (life : Life) (is_register : Bool) (node : ℕ) (name : List ℕ) (t : CType) (known : Known) → LivesInBlocks life → Sound known → T (lists_of known) t
    → Good (ObjectIn life) (lists_of known) (declare_object life is_register node name t known)
of_declare_object life is_register node name t known so s h =
    bind (of_object_for life node name t (linked_object name known) known so s h (λ n is. linked_in name known.objects n is))
    (λ n k kept s there. went same (bound name (an_object n is_register) k (one {r = to_object n} there.0) s) there)

-- a declaration makes no other objects
abbrev DeclaresSo : Kind → Type 0
DeclaresSo (an_object_of life is_register) = LivesInBlocks life
DeclaresSo kind = Unit {0}

declared_life : (is_extern is_in_block : Bool) → LivesInBlocks (if is_extern then linked else (if is_in_block then local_static else automatic))
declared_life true is_in_block h = absurd cc
declared_life false true h = absurd cc
declared_life false false h = refl

declared_kind : (is_type is_function is_register : Bool) (life : Life) → LivesInBlocks life
    → DeclaresSo (if is_type then a_type_name else (if is_function then a_function_name else an_object_of life is_register))
declared_kind true is_function is_register life h = tt
declared_kind false true is_register life h = tt
declared_kind false false is_register life h = h

kind_is_so : (known : Known) (class : Option Storage) (t : CType) → DeclaresSo (kind_of known class t)
kind_is_so known class t =
    declared_kind (is_class storage.Typedef class) (is_function t) (not (is_file_scope known) && is_class storage.Register class) (life_of known class)
    (declared_life (is_file_scope known || is_class storage.Extern class) (is_class storage.Static class))

of_declare : (kind : Kind) (node : ℕ) (name : List ℕ) (t : CType) (i : Option c.Initialiser) (known : Known) → DeclaresSo kind → Sound known → T (lists_of known) t
    → Good LocalsIn (lists_of known) (declare kind node name t i known)
of_declare a_type_name node name t i known so s h = of_no_object i (bind_name name (a_typedef t) known) (bound name (a_typedef t) known h s)
of_declare a_function_name node name t i known so s h =
    let it = declared_in name t known h s in
    onward it.kept (of_no_object i (bind_name name a_function (with_declared name t known)) (bound name a_function (with_declared name t known) it.there it.sound))
of_declare (an_object_of life is_register) node name t i known so s h = bind (of_declare_object life is_register node name t known so s h) (λ n k kept s there. of_started_object life n i k s there)

abbrev declare_if_named : Specified → Declares → Option c.Initialiser → Known → Option (List ℕ) → Walk (List Local)
declare_if_named it declared i known None = no_object i
declare_if_named it declared i known (Some name) = declare (kind_of known it.storage declared.type) declared.node name declared.type i

of_declare_if_named : (it : Specified) (declared : Declares) (name : Option (List ℕ)) (i : Option c.Initialiser) (known : Known) → Sound known → DeclaresIn false (lists_of known) declared
    → Good LocalsIn (lists_of known) (declare_if_named it declared i known name known)
of_declare_if_named it declared None i known s h = of_no_object i known s
of_declare_if_named it declared (Some name) i known s h = of_declare (kind_of known it.storage declared.type) declared.node name declared.type i known (kind_is_so known it.storage declared.type) s h.type

of_init_declarators : (it : Specified) (them : List c.InitDeclarator) (known : Known) → Sound known → SpecifiedIn (lists_of known) it → Good LocalsIn (lists_of known) (init_declarators it them known)
of_init_declarators it [] known s h = done known s none
of_init_declarators it (d ∷ ds) known s h =
    bind (bind (of_declarator d.declarator it false (declaration_faults it.storage (is_some d.initialiser)) known s h) (λ declared k kept s d_in. of_declare_if_named it declared declared.name d.initialiser k s d_in))
    (λ first k kept s f_in. bind (of_init_declarators it ds k s (later kept h)) (λ rest k kept s r_in. done k s (appended in_local first rest (later kept f_in) r_in)))

abbrev pub DeclaredLocalsIn : Lists → DeclaredLocals → Type 0
DeclaredLocalsIn b it = LocalsIn b it.locals

pub of_declaration_by : (effective : Option Storage → Option Storage) (d : c.Declaration) (known : Known) → Sound known → Good DeclaredLocalsIn (lists_of known) (declaration_by effective d known)
of_declaration_by effective d known s =
    bind (of_specifiers d.specifiers (if has_no_declarator d.declarators then alone else elsewhere) known s)
    (λ it k kept s it_in. bind (of_init_declarators (record it { storage = effective it.storage }) d.declarators k s it_in) (λ locals k kept s h. done k s h))
