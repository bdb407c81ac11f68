-- The numbers of nodes behind type names, declarators, initialisers and labels, by those behind expressions.
use Rattle.std.proofs.Common.{◌≡◌, refl, sym, subst, ℕ, suc, ◌+◌, ℤ, pos, Bool, true, false, if◌then◌else◌, List, [], ◌∷◌, ◌++◌, length, slice_get, Option, Some, None, append_assoc, length-append, arith}
use Rattle.std.proofs.lemmas.List.{append-nil}
use Rattle.std.specs.Prelude.{is_some}
use Rattle.std.specs.List.{flat_map}
use Rattle.lt_model.specs.declared.scalar.Scalar.{Scalar}
use Rattle.lt_tree.specs.Tree as c
use Rattle.lt_tree.specs.Nodes as n
use Rattle.lt_tree.specs.Nodes.{Node, in_expression, in_mark, in_maybe, in_specifiers, in_types, in_type, in_members, in_member_declarators, in_enumerators, in_declarator, in_parts, in_parameters, in_parameter_list, in_initialiser, in_initialisers, in_optional_initialiser, in_init_declarator, in_declaration, in_label, in_optional, in_start, in_statement, in_external}
use Rattle.lt_tree.specs.Typing.Types.{CType, adjusted, struct_of}
use Rattle.lt_tree.specs.Typing.Extents.{Member, has_too_many_cells}
use Rattle.lt_tree.specs.Typing.Rules.{Rule, least, broken_if, unless, incomplete_type, bad_length, bad_initialiser, bad_case}
use Rattle.lt_tree.specs.Typing.TypedTree.{Start}
use Rattle.lt_tree.specs.Typing.Entities.{Known, Frame, no_names, Object, Life, a_typedef, a_function, is_linked, is_static, linked_object, bind_name, type_of_object, declared_among, Tagged, a_struct, an_enum, tag_here, tagged_in}
use Rattle.lt_tree.specs.Typing.Steps.{Outcome, Goes, Breaks, goes_on, ◌>>◌, gives, settle, unless_broken, left, marked_again}
use Rattle.lt_tree.specs.Typing.Expressions.{Typed, Use, as_value, as_truth, own_type}
use Rattle.lt_tree.specs.Typing.Operations.{text_type}
use Rattle.lt_tree.specs.Typing.Specifying.{OpenStruct, Specified, is_register, is_complete_struct, struct_tagged, Setting, is_alone, alone, elsewhere, beside_words, open_tagged, open_struct, open_enum, close_enum, with_members, close_struct, value_given, enumerator_faults}
use Rattle.lt_tree.specs.Typing.Declarators.{Built, Declares, all_faults, parameter_faults, binds_parameter, member_faults, with_member, has_width}
use Rattle.lt_tree.specs.Typing.NodeEnds.{is_no_declarator, alone_faults}
use Rattle.lt_tree.specs.Typing.ExpressionTyping.{expression, mark, maybe, specifiers, type_specifiers, type_specifier, members, member_declarators, enumerators, declarator, parts, parameters, parameter_list}
use Rattle.lt_tree.specs.Typing.Filling.{Run, Filling, opened, is_struct_of, is_character_array, is_too_long_for, letters_of, value_faults, text_in, nothing_to_fill}
use Rattle.lt_tree.specs.Typing.InitialiserTyping.{Judges, object_initialiser, initialiser_of_none, literal_alone, filled_by, fill_value, value_initialiser, fill_text, initialiser_without_braces, filling_for, faults_of_list, initialiser, initialisers}
use Rattle.lt_tree.specs.Typing.StatementTyping.{Around, optional_expression, optional_test, for_start, statement, Seen, is_new_case, with_case, case_value, labels}
use Rattle.lt_tree.specs.Typing.UnitTyping.{external}
use Rattle.lt_tree_laws.specs.Typing.NodeNumbers.{GoesOver, PartsAreNumbered}
use Rattle.lt_tree.specs.declared.specifier.Storage.{Storage}
use Rattle.lt_tree.specs.Typing.Declaring.{Kind, a_type_name, a_function_name, an_object_of, kind_of, declaration_faults, with_declared, new_object, object_for, declare_object, length_faults}
use Rattle.lt_tree.specs.Typing.DeclarationTyping.{no_object, started_object, declare, init_declarator, init_declarators, has_no_declarator, declaration_by, effective_in_for}
use Rattle.lt_mark_typing.specs.Placed.{entered}
use Rattle.lt_objective_marks.proofs.KeepingUnits.{starting, declared_of, declare_if_named}

-- Where a walk goes on, it has gone over these nodes from a number on.
pub data Counts {A : Type 0} (start : ℕ) (xs : List Node) : Outcome A → Type 0 where
  went : {a : A} {known : Known} → known.next ≡ start + length xs → Counts start xs (Goes a known)
  broke : {rule : Rule} {node : ℕ} → Counts start xs (Breaks rule node)

abbrev pub Whole : {A : Type 0} → Known → List Node → Outcome A → Type 0
Whole known xs o = Counts known.next xs o

-- the number behind a part
pub behind : {A : Type 0} {start : ℕ} {xs : List Node} {o : Outcome A} (a : A) (known : Known) → Counts start xs o → o ≡ Goes a known → known.next ≡ start + length xs
behind {A} {start} {xs} a known counts is = by (subst (λ o. Counts start xs o) is counts)
  where
    by : Counts start xs (Goes a known) → known.next ≡ start + length xs
    by (went e) = e

pub done : {A : Type 0} {a : A} (known : Known) → Whole known [] (Goes a known)
done known = went (omega arith)

done_at : {A : Type 0} {a : A} (known behind : Known) → behind.next ≡ known.next → Whole known [] (Goes a behind)
done_at known behind same = went (omega arith)

moved : {B : Type 0} {start k : ℕ} (xs ys : List Node) {o : Outcome B} → k ≡ start + length xs → Counts k ys o → Counts start (xs ++ ys) o
moved {B} {start} xs ys is (went e) = went (let both : length (xs ++ ys) ≡ length xs + length ys = length-append xs ys in omega arith)
moved xs ys is broke = broke

pub joined : {A B : Type 0} {start : ℕ} {xs ys : List Node} {o : Outcome A} {rest : A → Known → Outcome B}
    → Counts start xs o → ((a : A) (k : Known) → Whole k ys (rest a k)) → Counts start (xs ++ ys) (goes_on o rest)
joined {xs = xs} {ys} (went {a} {known} e) f = moved xs ys e (f a known)
joined broke f = broke

pub after : {A B : Type 0} {start : ℕ} {xs : List Node} {o : Outcome A} {rest : A → Known → Outcome B}
    → Counts start xs o → ((a : A) (k : Known) → Whole k [] (rest a k)) → Counts start xs (goes_on o rest)
after {start = start} {xs} {o} {rest} counts f = subst (λ ys. Counts start ys (goes_on o rest)) (append-nil xs) (joined counts f)

pub quiet : {A B : Type 0} (known : Known) {xs : List Node} {o : Outcome A} {rest : A → Known → Outcome B}
    → Whole known [] o → ((a : A) (k : Known) → Whole k xs (rest a k)) → Whole known xs (goes_on o rest)
quiet known counts f = joined counts f

grouped : {A : Type 0} {start : ℕ} (xs ys zs : List Node) {o : Outcome A} → Counts start (xs ++ (ys ++ zs)) o → Counts start (xs ++ ys ++ zs) o
grouped {start = start} xs ys zs {o} counts = subst (λ list. Counts start list o) (sym (append_assoc xs ys zs)) counts

pub node : {A : Type 0} (known : Known) {x : Node} {xs : List Node} {o : Outcome A} → Whole (entered known) xs o → Whole known (x ∷ xs) o
node known (went e) = went (omega arith)
node known broke = broke

judged_by : (node : ℕ) (rule : Option Rule) (known : Known) → Whole known [] (unless_broken rule node known)
judged_by node None known = done known
judged_by node (Some rule) known = broke

pub judges : (node : ℕ) (rules : List Rule) (known : Known) → Whole known [] (settle node rules known)
judges node rules known = judged_by node (least rules) known

unmarked : {A : Type 0} {start : ℕ} {xs : List Node} {o : Outcome A} (was : Bool) → Counts start xs o → Counts start xs (marked_again was o)
unmarked was (went e) = went e
unmarked was broke = broke

pub scoped : {A : Type 0} {start : ℕ} {xs : List Node} {o : Outcome A} (frames : List Frame) → Counts start xs o → Counts start xs (goes_on (left frames o) (λ r. gives r.0))
scoped frames (went e) = went e
scoped frames broke = broke

as_many : {A : Type 0} {start : ℕ} {xs ys : List Node} {o : Outcome A} → length xs ≡ length ys → Counts start xs o → Counts start ys o
as_many same (went e) = went (omega arith)
as_many same broke = broke

as_said : {A : Type 0} {xs : List Node} (known : Known) (o : Outcome A) → GoesOver xs known o → Whole known xs o
as_said known (Goes a k) is = went is
as_said known (Breaks rule node) is = broke

-- ---- what has no nodes

of_struct_tag : (tag : List ℕ) (found : Option Tagged) (known : Known) → Whole known [] (struct_tagged tag found known)
of_struct_tag tag None known = done _
of_struct_tag tag (Some (a_struct k)) known = done _
of_struct_tag tag (Some (an_enum is_complete)) known = done _

of_open_tag : (tag : List ℕ) (found : Option Tagged) (known : Known) → Whole known [] (open_tagged tag found known)
of_open_tag tag None known = done _
of_open_tag tag (Some (a_struct k)) known = done _
of_open_tag tag (Some (an_enum is_complete)) known = done _

of_open_struct : (tag : Option (List ℕ)) (known : Known) → Whole known [] (open_struct tag known)
of_open_struct None known = done _
of_open_struct (Some tag) known = of_open_tag tag (tag_here tag known) known

closed : (is_complete : Bool) (opened : OpenStruct) (list : List Member) (known : Known)
    → ((if is_complete then (λ it. it) else with_members opened.number list) known).next ≡ known.next
closed true opened list known = refl
closed false opened list known = refl

of_close : (opened : OpenStruct) (list : List Member) (known : Known) → Whole known [] (close_struct opened list known)
of_close opened list known = done_at known _ (closed (is_complete_struct known.structs opened.number) opened list known)

of_open_enum : (tag : Option (List ℕ)) (known : Known) → Whole known [] (open_enum tag known)
of_open_enum None known = done _
of_open_enum (Some tag) known = done _

of_close_enum : (tag : Option (List ℕ)) (faults : List Rule) (known : Known) → Whole known [] (close_enum tag faults known)
of_close_enum None faults known = done _
of_close_enum (Some tag) faults known = done _

of_binding_parameter : (is_definition is_register : Bool) (at : ℕ) (name : Option (List ℕ)) (t : CType) (known : Known) → Whole known [] (binds_parameter is_definition is_register at name t known)
of_binding_parameter is_definition is_register at None t known = done _
of_binding_parameter is_definition is_register at (Some name) t known = done _

-- A declarator is a node where it has a name or parts.
written_or_not : (name : Option (List ℕ)) (ps : c.Parts) (s : Specified) (is_definition : Bool) (judge : Option (List ℕ) → Known → Built → List Rule) (known : Known)
    → ((k : Known) → Whole k (in_parts ps) (parts ps s.type is_definition true k))
    → Whole known (in_declarator (c.declarator name ps)) (declarator (c.declarator name ps) s is_definition judge known)
written_or_not None c.no_parts s is_definition judge known w = done known
written_or_not None (c.Pointer q rest) s is_definition judge known w = node known (after (w (entered known)) (λ b k. after (judges _ (all_faults s b (judge None k b)) k) (λ u k. done k)))
written_or_not None (c.Array size rest) s is_definition judge known w = node known (after (w (entered known)) (λ b k. after (judges _ (all_faults s b (judge None k b)) k) (λ u k. done k)))
written_or_not None (c.Function them rest) s is_definition judge known w = node known (after (w (entered known)) (λ b k. after (judges _ (all_faults s b (judge None k b)) k) (λ u k. done k)))
written_or_not (Some name) ps s is_definition judge known w = node known (after (w (entered known)) (λ b k. after (judges _ (all_faults s b (judge (Some name) k b)) k) (λ u k. done k)))

module _ (numbered : PartsAreNumbered) where
  pub of_expression : (it : c.Expression) (role : Use) (known : Known) → Whole known (in_expression it) (expression it role known)
  of_expression it role known = as_said known (expression it role known) (numbered.0 it role known)

  of_maybe : (it : c.Maybe) (known : Known) → Whole known (in_maybe it) (maybe it known)
  of_maybe c.absent known = done known
  of_maybe (c.present e) known = after (unmarked known.is_unmarked (of_expression e as_value (record known { is_unmarked = true }))) (λ x k. done k)

  mutual
    pub of_specifiers : (it : c.Specifiers) (setting : Setting) (known : Known) → Whole known (in_specifiers it) (specifiers it setting known)
    of_specifiers (c.specifiers words types) setting known = after (of_types types (beside_words words setting) known) (λ namings k. done k)

    of_types : (them : c.TypeSpecifiers) (setting : Setting) (known : Known) → Whole known (in_types them) (type_specifiers them setting known)
    of_types c.no_types setting known = done known
    of_types (c.a_type first rest) setting known = joined (of_type first setting known) (λ it k. after (of_types rest setting k) (λ others k. done k))

    of_type : (it : c.TypeSpecifier) (setting : Setting) (known : Known) → Whole known (in_type it) (type_specifier it setting known)
    of_type (c.Basic type) setting known = done known
    of_type (c.Word word) setting known = done known
    of_type (c.StructTag tag) setting known = of_struct_tag tag (if is_alone setting then tag_here tag known else tagged_in tag known.frames) known
    of_type (c.Struct tag list) setting known = quiet known (of_open_struct tag known) (λ opened k. after (of_members list [] k) (λ found k. of_close opened found k))
    of_type (c.EnumTag tag) setting known = done known
    of_type (c.Enum tag list) setting known = quiet known (of_open_enum tag known) (λ faults k. after (of_enumerators list (pos 0) k) (λ u k. of_close_enum tag faults k))
    of_type (c.Named name) setting known = done known

    of_members : (them : c.Members) (list : List Member) (known : Known) → Whole known (in_members them) (members them list known)
    of_members c.no_members list known = done known
    of_members (c.a_member (c.member s ds) rest) list known =
        joined (node known {x = n.a_member (c.member s ds)} (joined (of_specifiers s elsewhere (entered known)) (λ it k. after (of_member_declarators ds it list k)
        (λ found k. after (judges _ (broken_if incomplete_type (is_no_declarator ds) ++ alone_faults (is_no_declarator ds) it ++ found.faults) k) (λ u k. done k)))))
        (λ longer k. of_members rest longer k)

    of_member_declarators : (them : c.MemberDeclarators) (it : Specified) (list : List Member) (known : Known) → Whole known (in_member_declarators them) (member_declarators them it list known)
    of_member_declarators c.no_declarators it list known = done known
    of_member_declarators (c.a_declarator d width rest) it list known =
        grouped (in_declarator d) (in_maybe width) (in_member_declarators rest) (joined (of_declarator d it false (member_faults list (has_width width)) known) (λ declared k. joined
        (of_maybe width k) (λ written k. after (of_member_declarators rest it (with_member list declared) k) (λ found k. done k))))

    of_enumerators : (them : c.Enumerators) (counted : ℤ) (known : Known) → Whole known (in_enumerators them) (enumerators them counted known)
    of_enumerators c.no_enumerators counted known = done known
    of_enumerators (c.an_enumerator name value rest) counted known =
        node known (joined (of_maybe value (entered known))
        (λ x k. quiet k (after (judges _ (enumerator_faults k name (value_given counted x)) k) (λ u k. done _)) (λ next k. of_enumerators rest next k)))

    pub of_declarator : (it : c.Declarator) (s : Specified) (is_definition : Bool) (judge : Option (List ℕ) → Known → Built → List Rule) (known : Known)
        → Whole known (in_declarator it) (declarator it s is_definition judge known)
    of_declarator (c.declarator name ps) s is_definition judge known = written_or_not name ps s is_definition judge known (λ k. of_parts ps s.type is_definition true k)

    of_parts : (them : c.Parts) (t : CType) (is_definition is_outermost : Bool) (known : Known) → Whole known (in_parts them) (parts them t is_definition is_outermost known)
    of_parts c.no_parts t is_definition is_outermost known = done known
    of_parts (c.Pointer q rest) t is_definition is_outermost known = after (of_parts rest t false false known) (λ inner k. done k)
    of_parts (c.Array length rest) t is_definition is_outermost known =
        joined (of_maybe length known) (λ count k. after (of_parts rest t false false k) (λ inner k. done k))
    of_parts (c.Function them rest) t is_definition is_outermost known =
        joined (scoped known.frames (of_parameters them is_definition (record known { frames = no_names ∷ known.frames }))) (λ found k. after (of_parts rest t false false k) (λ inner k. done k))

    of_parameters : (them : c.Parameters) (is_definition : Bool) (known : Known) → Whole known (in_parameters them) (parameters them is_definition known)
    of_parameters c.Unstated is_definition known = done known
    of_parameters c.Void is_definition known = done known
    of_parameters (c.Listed list) is_definition known = of_parameter_list list is_definition known
    of_parameters (c.Open list) is_definition known = after (of_parameter_list list is_definition known) (λ them k. done k)

    of_parameter_list : (them : c.ParameterList) (is_definition : Bool) (known : Known) → Whole known (in_parameter_list them) (parameter_list them is_definition known)
    of_parameter_list c.no_parameters is_definition known = done known
    of_parameter_list (c.a_parameter s d rest) is_definition known =
        grouped (in_specifiers s) (in_declarator d) (in_parameter_list rest) (joined (of_specifiers s elsewhere known) (λ it k. joined (of_declarator d it false (parameter_faults is_definition) k)
        (λ declared k. quiet k (of_binding_parameter is_definition (is_register it) declared.node declared.name (adjusted declared.type) k)
        (λ objects k. after (of_parameter_list rest is_definition k) (λ others k. done k)))))

  -- ---- initialisers in lists

  -- what is a string literal is one node
  single : (e : c.Expression) (bytes : List ℕ) → text_in e ≡ Some bytes → suc 0 ≡ length (in_expression e)
  single (c.Text text) bytes same = refl
  single _ bytes same = absurd cc

  of_literal : (bytes : List ℕ) (known : Known) → Whole known (n.an_expression (c.Text bytes) ∷ []) (literal_alone bytes known)
  of_literal bytes known = node known (after (judges _ (broken_if bad_length (has_too_many_cells known.structs (text_type bytes))) (entered known)) (λ u k. done _))

  of_fill_value : (at : ℕ) (is_static : Bool) (filling : Filling) (x : Typed) (runs : List Run) (known : Known) → Whole known [] (fill_value at is_static filling x known runs known)
  of_fill_value at is_static filling x [] known = done known
  of_fill_value at is_static filling x (run ∷ runs) known = after (judges _ (value_faults known is_static run.type x) known) (λ u k. done k)

  of_value : (at : ℕ) (is_static : Bool) (filling : Filling) (e : c.Expression) (known : Known) → Whole known (in_expression e) (value_initialiser at is_static filling e known)
  of_value at is_static filling e known = after (of_expression e as_value known) (λ x k. of_fill_value at is_static filling x (opened k (is_struct_of (struct_of (own_type x))) filling.left) k)

  of_letters : (at : ℕ) {A : Type 0} (a : A) (bytes : List ℕ) (run : Run) (known : Known)
      → Whole known (n.an_expression (c.Text bytes) ∷ []) ((literal_alone bytes >> (settle at (broken_if bad_initialiser (is_too_long_for run.type bytes)) >> gives a)) known)
  of_letters at a bytes run known = after (of_literal bytes known) (λ u k. after (judges _ (broken_if bad_initialiser (is_too_long_for run.type bytes)) k) (λ u k. done k))

  of_text_or_value : (at : ℕ) (is_text is_static : Bool) (filling : Filling) (e : c.Expression) (bytes : List ℕ) (run : Run) (runs : List Run) (known : Known) → text_in e ≡ Some bytes
      → Whole known (in_expression e) ((if is_text then (literal_alone bytes >> (settle at (broken_if bad_initialiser (is_too_long_for run.type bytes)) >> gives (filled_by filling (letters_of run.offset run.type bytes) runs))) else value_initialiser at is_static filling e) known)
  of_text_or_value at true is_static filling e bytes run runs known is = as_many (single e bytes is) (of_letters at (filled_by filling (letters_of run.offset run.type bytes) runs) bytes run known)
  of_text_or_value at false is_static filling e bytes run runs known is = of_value at is_static filling e known

  of_fill_text : (at : ℕ) (is_static : Bool) (filling : Filling) (e : c.Expression) (bytes : List ℕ) (runs : List Run) (known : Known)
      → text_in e ≡ Some bytes → Whole known (in_expression e) (fill_text at is_static filling e bytes runs known)
  of_fill_text at is_static filling e bytes [] known is = of_value at is_static filling e known
  of_fill_text at is_static filling e bytes (run ∷ runs) known is = of_text_or_value at (is_character_array run.type) is_static filling e bytes run runs known is

  of_unbraced : (at : ℕ) (is_static : Bool) (filling : Filling) (e : c.Expression) (found : Option (List ℕ)) (known : Known)
      → text_in e ≡ found → Whole known (in_expression e) (initialiser_without_braces at is_static filling e found known)
  of_unbraced at is_static filling e None known is = of_value at is_static filling e known
  of_unbraced at is_static filling e (Some bytes) known is = of_fill_text at is_static filling e bytes (opened known is_character_array filling.left) known is

  mutual
    pub of_initialiser : (it : c.Initialiser) (is_static : Bool) (filling : Filling) (known : Known) → Whole known (in_initialiser it) (initialiser it is_static filling known)
    of_initialiser (c.Value e) is_static filling known = node known (of_unbraced known.next is_static filling e (text_in e) (entered known) refl)
    of_initialiser (c.Braces list) is_static filling known =
        node known (after (of_initialisers list is_static (filling_for (entered known) list filling.left) (entered known))
        (λ inner k. after (judges _ (faults_of_list list inner filling.left) k) (λ u k. done k)))

    of_initialisers : (them : c.Initialisers) (is_static : Bool) (filling : Filling) (known : Known) → Whole known (in_initialisers them) (initialisers them is_static filling known)
    of_initialisers c.no_initialisers is_static filling known = done known
    of_initialisers (c.an_initialiser first rest) is_static filling known = joined (of_initialiser first is_static filling known) (λ next k. of_initialisers rest is_static next k)

  -- ---- labels

  pub of_labels : (them : List c.Label) (s : Option Scalar) (seen : Seen) (known : Known) → Whole known (flat_map in_label them) (labels them s seen known)
  of_labels [] s seen known = done known
  of_labels (c.Case it ∷ rest) s seen known =
      node known (joined (unmarked known.is_unmarked (of_expression it as_value (record (entered known) { is_unmarked = true })))
      (λ x k. quiet k (after (judges _ (unless (is_new_case seen (case_value k.model s x)) bad_case) k) (λ u k. done k))
      (λ z k. after (of_labels rest s (with_case seen z) k) (λ others k. done k))))
  of_labels (c.Default ∷ rest) s seen known =
      node known (quiet (entered known) (judges _ (broken_if bad_case seen.has_default) (entered known))
      (λ u k. after (of_labels rest s (record seen { has_default = true }) k) (λ others k. done k)))

  -- ---- declarations

  of_object_initialiser : (it : c.Initialiser) (is_static : Bool) (t : CType) (judge : Judges) (known : Known) → Whole known (in_initialiser it) (object_initialiser is_static t judge it known)
  of_object_initialiser it is_static t judge known = as_said known (object_initialiser is_static t judge it known) (numbered.2 it is_static t judge known)

  of_initialiser_of_none : (it : c.Initialiser) (known : Known) → Whole known (in_initialiser it) (initialiser_of_none it known)
  of_initialiser_of_none (c.Value e) known = node known (after (of_expression e as_value (entered known)) (λ x k. judges _ (bad_initialiser ∷ []) k))
  of_initialiser_of_none (c.Braces list) known = node known (after (of_initialisers list false nothing_to_fill (entered known)) (λ filled k. judges _ (bad_initialiser ∷ []) k))

  of_no_object : (i : Option c.Initialiser) (known : Known) → Whole known (in_optional_initialiser i) (no_object i known)
  of_no_object None known = done known
  of_no_object (Some i) known = after (of_initialiser_of_none i known) (λ u k. done k)

  -- an object, a function and a name leave the number of the next node
  start_leaves : (n : ℕ) (start : Option Start) (t : CType) (known : Known) (found : Option Object) → (starting n start t known found).next ≡ known.next
  start_leaves n start t known None = refl
  start_leaves n start t known (Some object) = refl

  declared_leaves : (name : List ℕ) (t : CType) (known : Known) (found : Option CType) → (declared_of name t known found).next ≡ known.next
  declared_leaves name t known None = refl
  declared_leaves name t known (Some u) = refl

  pub function_leaves : (name : List ℕ) (t : CType) (known : Known) → (with_declared name t known).next ≡ known.next
  function_leaves name t known = declared_leaves name t known (declared_among name known.declared)

  of_started_object : (life : Life) (n : ℕ) (i : Option c.Initialiser) (known : Known) → Whole known (in_optional_initialiser i) (started_object life n i known)
  of_started_object life n None known = done known
  of_started_object life n (Some i) known =
      after (of_object_initialiser i (is_static life) (type_of_object known n) length_faults known) (λ it k. done_at k _ (start_leaves n (if is_static life then Some it.start else None) it.type k (slice_get k.objects n)))

  of_linked_or_new : (is_one : Bool) (life : Life) (at : ℕ) (name : List ℕ) (t : CType) (n : ℕ) (known : Known) → Whole known [] ((if is_one then gives n else new_object life at name t) known)
  of_linked_or_new true life at name t n known = done known
  of_linked_or_new false life at name t n known = done _

  of_object_for : (life : Life) (at : ℕ) (name : List ℕ) (t : CType) (found : Option ℕ) (known : Known) → Whole known [] (object_for life at name t found known)
  of_object_for life at name t None known = done _
  of_object_for life at name t (Some n) known = of_linked_or_new (is_linked life) life at name t n known

  pub of_declare_object : (life : Life) (is_register : Bool) (at : ℕ) (name : List ℕ) (t : CType) (known : Known) → Whole known [] (declare_object life is_register at name t known)
  of_declare_object life is_register at name t known = after (of_object_for life at name t (linked_object name known) known) (λ n k. done _)

  of_declare : (kind : Kind) (at : ℕ) (name : List ℕ) (t : CType) (i : Option c.Initialiser) (known : Known) → Whole known (in_optional_initialiser i) (declare kind at name t i known)
  of_declare a_type_name at name t i known = of_no_object i (bind_name name (a_typedef t) known)
  of_declare a_function_name at name t i known =
      subst (λ start. Counts start (in_optional_initialiser i) (no_object i (bind_name name a_function (with_declared name t known)))) (function_leaves name t known)
      (of_no_object i (bind_name name a_function (with_declared name t known)))
  of_declare (an_object_of life is_register) at name t i known = quiet known (of_declare_object life is_register at name t known) (λ n k. of_started_object life n i k)

  of_declare_if_named : (s : Specified) (declared : Declares) (name : Option (List ℕ)) (i : Option c.Initialiser) (known : Known)
      → Whole known (in_optional_initialiser i) (declare_if_named s declared i known name known)
  of_declare_if_named s declared None i known = of_no_object i known
  of_declare_if_named s declared (Some name) i known = of_declare (kind_of known s.storage declared.type) declared.node name declared.type i known

  pub of_init_declarator : (s : Specified) (d : c.InitDeclarator) (known : Known) → Whole known (in_init_declarator d) (init_declarator s d known)
  of_init_declarator s d known =
      joined (of_declarator d.declarator s false (declaration_faults s.storage (is_some d.initialiser)) known) (λ declared k. of_declare_if_named s declared declared.name d.initialiser k)

  of_init_declarators : (s : Specified) (them : List c.InitDeclarator) (known : Known) → Whole known (flat_map in_init_declarator them) (init_declarators s them known)
  of_init_declarators s [] known = done known
  of_init_declarators s (d ∷ ds) known = joined (of_init_declarator s d known) (λ first k. after (of_init_declarators s ds k) (λ rest k. done k))

  pub of_declaration_by : (effective : Option Storage → Option Storage) (d : c.Declaration) (known : Known) → Whole known (in_declaration d) (declaration_by effective d known)
  of_declaration_by effective d known =
      joined (of_specifiers d.specifiers (if has_no_declarator d.declarators then alone else elsewhere) known)
      (λ it k. after (of_init_declarators (record it { storage = effective it.storage }) d.declarators k) (λ locals k. done k))

  -- ---- statements

  pub of_mark : (it : c.Mark) (known : Known) → Whole known (in_mark it) (mark it known)
  of_mark it known = as_said known (mark it known) (numbered.1 it known)

  pub of_statement : (it : c.Statement) (around : Around) (known : Known) → Whole known (in_statement it) (statement it around known)
  of_statement it around known = as_said known (statement it around known) (numbered.4 it around known)

  pub of_optional : (it : Option c.Expression) (known : Known) → Whole known (in_optional it) (optional_expression it known)
  of_optional None known = done known
  of_optional (Some it) known = after (of_expression it as_value known) (λ x k. done k)

  pub of_optional_test : (it : Option c.Expression) (known : Known) → Whole known (in_optional it) (optional_test it known)
  of_optional_test None known = done known
  of_optional_test (Some it) known = after (of_expression it as_truth known) (λ x k. done k)

  pub of_start : (start : c.ForStart) (known : Known) → Whole known (in_start start) (for_start start known)
  of_start c.Nothing known = done known
  of_start (c.First it) known = after (of_expression it as_value known) (λ x k. done k)
  of_start (c.Declares d) known = after (of_declaration_by effective_in_for d known) (λ it k. done k)

  pub of_external : (it : c.External) (known : Known) → Whole known (in_external it) (external it known)
  of_external it known = as_said known (external it known) (numbered.5 it known)
