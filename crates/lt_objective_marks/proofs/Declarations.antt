-- The marks of objectives are added to declarations in blocks.
use Rattle.std.proofs.Common.{◌≡◌, ◌⊎◌, refl, sym, ap, ◌∙◌, subst, ℕ, suc, ◌+◌, Bool, true, false, ◌||◌, ◌&&◌, not, if◌then◌else◌, List, [], ◌∷◌, ◌++◌, inl, inr, length, Option, Some, None, arith}
use Rattle.std.proofs.lemmas.Bool.Decides.{nat_tests}
use Rattle.std.specs.List.{flat_map, list_any}
use Rattle.lt_tree.specs.declared.specifier.Storage.{Storage}
use Rattle.lt_tree.specs.declared.specifier.Storage.TheVariants as storage
use Rattle.lt_tree.specs.Tree as c
use Rattle.lt_tree.specs.Nodes.{in_specifiers, in_declarator, in_initialiser, in_optional_initialiser, in_init_declarator, in_declaration}
use Rattle.lt_tree.specs.Typing.Types.{is_function}
use Rattle.lt_tree.specs.Typing.TypedTree.{Local}
use Rattle.lt_tree.specs.Typing.Rules.{bad_initialiser}
use Rattle.lt_tree.specs.Typing.Entities.{Known, Life, linked, local_static, automatic, is_file_scope, type_of_object}
use Rattle.lt_tree.specs.Typing.Steps.{Outcome, Goes, Breaks, goes_on, settle}
use Rattle.lt_tree.specs.Typing.Expressions.{as_value}
use Rattle.lt_tree.specs.Typing.Programs.{Program}
use Rattle.lt_tree.specs.Typing.Specifying.{Specified, Setting as TypeSetting, alone, elsewhere, beside_words, specified, is_class, first_class}
use Rattle.lt_tree.specs.Typing.Declarators.{Declares}
use Rattle.lt_tree.specs.Typing.Declaring.{Kind, a_type_name, a_function_name, an_object_of, kind_of, life_of, declaration_faults, declare_object, length_faults}
use Rattle.lt_tree.specs.Typing.ExpressionTyping.{expression, specifiers, type_specifiers, declarator}
use Rattle.lt_tree.specs.Typing.Filling.{text_in, nothing_to_fill}
use Rattle.lt_tree.specs.Typing.InitialiserTyping.{initialisers, initialiser_of_none}
use Rattle.lt_tree.specs.Typing.DeclarationTyping.{no_object, started_object, declare, declare_named, init_declarator, init_declarators, has_no_declarator, declaration_by, effective_in_for}
use Rattle.lt_tree_laws.specs.Typing.NodeNumbers.{PartsAreNumbered}
use Rattle.lt_objectives.specs.declared.criteria.Criterion.{Criterion}
use Rattle.lt_objectives.specs.Places.{makes_static, makes_static_in_for, storage_of}
use Rattle.lt_objectives.specs.Objectives.{objectives}
use Rattle.lt_objectives.specs.Marked.{initialiser_with_marks, start_with_marks, declarators_with_marks, declaration_with_marks}
use Rattle.lt_objective_places.specs.Pieces.{an_initialiser, a_declaration, declarators, at, optional_initialiser, IsIn, a_piece}
use Rattle.lt_objective_places.proofs.Among.{in_second}
use Rattle.lt_objective_places.proofs.Going.{all_stand}
use Rattle.lt_mark_typing.specs.Placed.{AreOld, entered}
use Rattle.lt_mark_typing.specs.PlacedInitialisers as adds
use Rattle.lt_mark_typing.specs.PlacedInitialisers.{AddsToObject, AddsToStartOf, AddsToDeclarators, AddsToDeclaration}
use Rattle.lt_mark_typing.proofs.Nodes.{old_first, old_second}
use Rattle.lt_typed_nodes.specs.Coming.{ComesTo}
use Rattle.lt_typed_nodes.specs.Reaching as place
use Rattle.lt_typed_nodes.specs.Reaching.{IsReached, a_part, its_declarators, its_start, more_declarators}
use Rattle.lt_typed_nodes.proofs.ComingToItems.{declarations_are_come_to}
use Rattle.lt_objective_marks.specs.Settings.{marks_of, Setting, AreUnused, IsAdded}
use Rattle.lt_objective_marks.specs.Laws.{ObjectivesAreAddedToExpressions}
use Rattle.lt_objective_marks.proofs.Keeping as kept
use Rattle.lt_objective_marks.proofs.Keeping.{Lies}
use Rattle.lt_objective_marks.proofs.KeepingUnits as keeping
use Rattle.lt_objective_marks.proofs.KeepingUnits.{declare_if_named}
use Rattle.lt_objective_marks.proofs.Numbering as numbering
use Rattle.lt_objective_marks.proofs.Together.{nothing, second_alone, two}
use Rattle.lt_objective_marks.proofs.Ways.{only_way, went_on, found_only, lies_behind}
use Rattle.lt_objective_marks.proofs.Pieces.{old_there, text_alone}
use Rattle.lt_objective_marks.proofs.Initialisers.{of_object}

-- ---- what an initialiser is of

-- only objects have initialisers
never_goes : {A B : Type 0} (o : Outcome A) (rest : A → Known → Outcome B) (b : B) (k : Known) → ((a : A) (j : Known) → rest a j ≡ Goes b k → ⊥) → goes_on o rest ≡ Goes b k → ⊥
never_goes (Goes a j) rest b k f is = f a j is
never_goes (Breaks rule node) rest b k f is = cc

none_breaks : (i : c.Initialiser) (known : Known) (u : Unit {0}) (k : Known) → initialiser_of_none i known ≡ Goes u k → ⊥
none_breaks (c.Value e) known u k is = never_goes (expression e as_value (entered known)) (λ x. settle known.next (bad_initialiser ∷ [])) u k (λ x j e. cc) is
none_breaks (c.Braces list) known u k is = never_goes (initialisers list false nothing_to_fill (entered known)) (λ filled. settle known.next (bad_initialiser ∷ [])) u k (λ x j e. cc) is

no_object_breaks : (i : c.Initialiser) (known : Known) (locals : List Local) (k : Known) → no_object (Some i) known ≡ Goes locals k → ⊥
no_object_breaks i known locals k is = let it = went_on (initialiser_of_none i known) _ is in none_breaks i known it.0 it.1 it.2

-- a storage class that leaves an object of a block automatic
abbrev pub IsAutomatic : Option Storage → Type 0
IsAutomatic class = (is_class storage.Extern class ≡ false) × (is_class storage.Static class ≡ false)

automatic_by : (file extern static : Bool) → file ≡ false → extern ≡ false → static ≡ false → (if file || extern then linked else (if static then local_static else automatic)) ≡ automatic
automatic_by false false false f e s = refl
automatic_by true extern static f e s = absurd cc
automatic_by false true static f e s = absurd cc
automatic_by false false true f e s = absurd cc

in_a_block : {deep : ℕ} (known : Known) → Lies false (suc (suc deep)) known → is_file_scope known ≡ false
in_a_block {deep} known lies = let n : length known.frames ≡ suc (suc deep) = lies.1 in grind (arith, nat_tests)

life_here : {deep : ℕ} (known : Known) (class : Option Storage) → Lies false (suc (suc deep)) known → IsAutomatic class → life_of known class ≡ automatic
life_here known class lies it = automatic_by (is_file_scope known) (is_class storage.Extern class) (is_class storage.Static class) (in_a_block known lies) it.0 it.1

-- the kinds of what is declared
kind_by : (a b : Bool) (life : Life) (is_register : Bool) → let kind : Kind = if a then a_type_name else (if b then a_function_name else an_object_of life is_register) in
    (kind ≡ a_type_name) ⊎ ((kind ≡ a_function_name) ⊎ (kind ≡ an_object_of life is_register))
kind_by true b life is_register = inl refl
kind_by false true life is_register = inr (inl refl)
kind_by false false life is_register = inr (inr refl)

-- what has an initialiser and a name in a block is an automatic object
record Automatic (it : Specified) (declared : Declares) (known : Known) : Type 0 where
  name : List ℕ
  is_register : Bool
  named : declared.name ≡ Some name
  kind : kind_of known it.storage declared.type ≡ an_object_of automatic is_register

automatic_of : {deep : ℕ} (it : Specified) (declared : Declares) (i : c.Initialiser) (known : Known) (locals : List Local) (k : Known) → Lies false (suc (suc deep)) known → IsAutomatic it.storage
    → declare_named it declared (Some i) known ≡ Goes locals k → Automatic it declared known
automatic_of it declared i known locals k lies is_automatic is = by declared.name refl
  where
    by : (found : Option (List ℕ)) → declared.name ≡ found → Automatic it declared known
    by None none = absurd (no_object_breaks i known locals k (sym (ap (λ found. declare_if_named it declared (Some i) known found known) none) ∙ is))
    by (Some name) some =
        let named : declare (kind_of known it.storage declared.type) declared.node name declared.type (Some i) known ≡ Goes locals k =
        sym (ap (λ found. declare_if_named it declared (Some i) known found known) some) ∙ is in
        let as_kind : (kind : Kind) → kind_of known it.storage declared.type ≡ kind → declare kind declared.node name declared.type (Some i) known ≡ Goes locals k =
        λ kind e. sym (ap (λ kind. declare kind declared.node name declared.type (Some i) known) e) ∙ named in
        elim (kind_by (is_class storage.Typedef it.storage) (is_function declared.type) (life_of known it.storage) (not (is_file_scope known) && is_class storage.Register it.storage)) [
          | inl e ↦ absurd (no_object_breaks i _ locals k (as_kind a_type_name e))
          | inr (inl e) ↦ absurd (no_object_breaks i _ locals k (as_kind a_function_name e))
          | inr (inr e) ↦ record {
            name = name;
            is_register = not (is_file_scope known) && is_class storage.Register it.storage;
            named = some;
            kind = e ∙ ap (λ life. an_object_of life (not (is_file_scope known) && is_class storage.Register it.storage)) (life_here known it.storage lies is_automatic);
          }
        ]

-- ---- storage classes

first_automatic : (classes : List Storage) → list_any makes_static classes ≡ false → IsAutomatic (first_class classes)
first_automatic [] h = (refl, refl)
first_automatic (storage.Static ∷ rest) h = absurd cc
first_automatic (storage.Extern ∷ rest) h = absurd cc
first_automatic (storage.Typedef ∷ rest) h = (refl, refl)
first_automatic (storage.Auto ∷ rest) h = (refl, refl)
first_automatic (storage.Register ∷ rest) h = (refl, refl)

first_automatic_in_for : (classes : List Storage) → list_any makes_static_in_for classes ≡ false → IsAutomatic (effective_in_for (first_class classes))
first_automatic_in_for [] h = (refl, refl)
first_automatic_in_for (storage.Static ∷ rest) h = absurd cc
first_automatic_in_for (storage.Extern ∷ rest) h = (refl, refl)
first_automatic_in_for (storage.Typedef ∷ rest) h = (refl, refl)
first_automatic_in_for (storage.Auto ∷ rest) h = (refl, refl)
first_automatic_in_for (storage.Register ∷ rest) h = (refl, refl)

specified_class : (s : c.Specifiers) (place : TypeSetting) (known : Known) (it : Specified) (k : Known) → specifiers s place known ≡ Goes it k → it.storage ≡ first_class (storage_of s)
specified_class (c.specifiers words types) place known it k is = by (type_specifiers types (beside_words words place) known) is
  where
    by : (o : _) → goes_on o (λ namings. λ j. Goes (specified words namings) j) ≡ Goes it k → it.storage ≡ first_class words.storage
    by (Goes namings j) is = let same : specified words namings ≡ it = cc in sym (ap (λ (x : Specified). x.storage) same)
    by (Breaks rule node) is = absurd cc

pub class_in_block : (s : c.Specifiers) (place : TypeSetting) (known : Known) (it : Specified) (k : Known) → list_any makes_static (storage_of s) ≡ false → specifiers s place known ≡ Goes it k → IsAutomatic it.storage
class_in_block s place known it k h is = subst IsAutomatic (sym (specified_class s place known it k is)) (first_automatic (storage_of s) h)

pub class_in_for : (s : c.Specifiers) (place : TypeSetting) (known : Known) (it : Specified) (k : Known) → list_any makes_static_in_for (storage_of s) ≡ false → specifiers s place known ≡ Goes it k
    → IsAutomatic (effective_in_for it.storage)
class_in_for s place known it k h is = subst (λ class. IsAutomatic (effective_in_for class)) (sym (specified_class s place known it k is)) (first_automatic_in_for (storage_of s) h)

-- ---- a declaration in which nothing is added

closed_declarators : (new : ℕ → Bool) (used : List ℕ) (it : Specified) (known : Known) (ds : List c.InitDeclarator) → AreOld new (flat_map in_init_declarator ds) → AddsToDeclarators new used used it known ds ds
closed_declarators new used it known [] old = adds.no_declarators
closed_declarators new used it known (d ∷ ds) old =
    adds.a_declarator (old_first new (in_init_declarator d) (flat_map in_init_declarator ds) old)
    (λ locals next is. closed_declarators new used it next ds (old_second new (in_init_declarator d) (flat_map in_init_declarator ds) old))

pub closed_declaration : (new : ℕ → Bool) (effective : Option Storage → Option Storage) (used : List ℕ) (known : Known) (d : c.Declaration) → AreOld new (in_declaration d) → AddsToDeclaration new effective used used known d d
closed_declaration new effective used known d old =
    adds.a_declaration (old_first new (in_specifiers d.specifiers) (flat_map in_init_declarator d.declarators) old) refl
    (λ it next is. closed_declarators new used (record it { storage = effective it.storage }) next d.declarators (old_second new (in_specifiers d.specifiers) (flat_map in_init_declarator d.declarators) old))

-- ---- declarations

-- a lone string literal, or not
data Literal : c.Initialiser → Type 0 where
  literal : (bytes : List ℕ) → Literal (c.Value (c.Text bytes))
  no_literal : {i : c.Initialiser} → ((e : c.Expression) → i ≡ c.Value e → text_in e ≡ None) → Literal i

is_literal : (i : c.Initialiser) → Literal i
is_literal (c.Braces list) = no_literal (λ e is. absurd cc)
is_literal (c.Value e) = by (text_in e) refl
  where
    text_is : (it : c.Expression) (bytes : List ℕ) → text_in it ≡ Some bytes → c.Text bytes ≡ it
    text_is (c.Text text) bytes e = cc
    text_is _ bytes e = absurd cc

    value_is : (x y : c.Expression) → c.Value x ≡ c.Value y → x ≡ y
    value_is x y e = cc

    by : (found : Option (List ℕ)) → text_in e ≡ found → Literal (c.Value e)
    by None none = no_literal (λ x is. ap text_in (sym (value_is e x is)) ∙ none)
    by (Some bytes) some = subst (λ e. Literal (c.Value e)) (text_is e bytes some) (literal bytes)

-- a declarator with its initialiser, in front of others
abbrev AddsToOne : (ℕ → Bool) → (used between : List ℕ) → Specified → Known → c.Declarator → (i j : Option c.Initialiser) → Type 0
AddsToOne new used between it known d i j =
    (ds es : List c.InitDeclarator) (after : List ℕ)
    → ((locals : List Local) (next : Known) → init_declarator it (record { declarator = d; initialiser = i }) known ≡ Goes locals next → AddsToDeclarators new between after it next ds es)
    → AddsToDeclarators new used after it known (record { declarator = d; initialiser = i } ∷ ds) (record { declarator = d; initialiser = j } ∷ es)

module _ {new : ℕ → Bool} {unit : c.Unit} {program : Program} {criterion : Criterion} {id : ℕ} (setting : Setting new unit program criterion id)
    (numbered : PartsAreNumbered) (added : ObjectivesAreAddedToExpressions) where
  abbrev DeclaredOne : List ℕ → Known → Specified → c.Declarator → Option c.Initialiser → ℕ → Type 0
  DeclaredOne used known it d i k =
      IsAdded (marks_of unit program criterion id) used k (length (in_declarator d ++ in_optional_initialiser i))
      (λ between. AddsToOne new used between it known d i (start_with_marks (marks_of unit program criterion id) (k + length (in_declarator d)) i))

  -- the initialiser of an automatic object, behind its declarator
  starts : {deep : ℕ} (used : List ℕ) (it : Specified) (declared : Declares) (known : Known) (i : c.Initialiser) (k : ℕ) → known.next ≡ k → IsIn unit k (an_initialiser i)
      → Lies false (suc (suc deep)) known → IsAutomatic it.storage → ((e : c.Expression) → i ≡ c.Value e → text_in e ≡ None) → ComesTo program.facts known (declare_named it declared (Some i) known)
      → (before : Known) (d : c.Declarator) (ds : List c.InitDeclarator) → declarator d it false (declaration_faults it.storage true) before ≡ Goes declared known
      → IsReached setting.greatest setting.model unit (place.declarators it (record { declarator = d; initialiser = Some i } ∷ ds)) before
      → AreUnused (marks_of unit program criterion id) used k (length (in_initialiser i))
      → IsAdded (marks_of unit program criterion id) used k (length (in_initialiser i)) (λ after. AddsToStartOf new used after it declared known i (initialiser_with_marks (marks_of unit program criterion id) k i))
  starts used it declared known i k at is lies is_automatic none comes before d ds here reached unused =
      let object = automatic_of it declared i known comes.found comes.behind lies is_automatic comes.goes in
      let there = declarations_are_come_to.3 program.facts known it declared i comes object.name automatic object.is_register object.named object.kind in
      let goes = went_on (declare_object automatic object.is_register declared.node object.name declared.type known) (λ n. started_object automatic n (Some i)) (declared_goes object) in
      let next : Known = goes.1 in
      let made = of_object setting numbered added used next (type_of_object next goes.0) length_faults i k
      (numbering.behind goes.0 next (numbering.of_declare_object numbered automatic object.is_register declared.node object.name declared.type known) goes.2 ∙ no_more known.next ∙ at) is
      (lies_behind (keeping.of_declare_object automatic object.is_register declared.node object.name declared.type known lies) goes.2) none (there goes.0 next goes.2)
      (a_part reached (its_start here object.named object.kind goes.2)) unused in
      record {
        after = made.after;
        added = (
          object.name,
          object.is_register,
          object.named,
          object.kind,
          only_way (λ n next. AddsToObject new used made.after next (type_of_object next n) i (initialiser_with_marks (marks_of unit program criterion id) k i)) goes.2 made.added,
        );
        ids = made.ids;
      }
    where
      declared_goes : (object : Automatic it declared known) → declare (an_object_of automatic object.is_register) declared.node object.name declared.type (Some i) known ≡ Goes comes.found comes.behind
      declared_goes object =
          sym (ap (λ kind. declare kind declared.node object.name declared.type (Some i) known) object.kind) ∙ sym (ap (λ found. declare_if_named it declared (Some i) known found known) object.named) ∙ comes.goes

      no_more : (n : ℕ) → n + 0 ≡ n
      no_more n = omega arith

  -- nothing is added to a declarator whose initialiser stays
  as_it_is : (used : List ℕ) (known : Known) (it : Specified) (d : c.Declarator) (i : Option c.Initialiser) (k : ℕ) → AreOld new (in_declarator d ++ in_optional_initialiser i)
      → start_with_marks (marks_of unit program criterion id) (k + length (in_declarator d)) i ≡ i → DeclaredOne used known it d i k
  as_it_is used known it d i k old same =
      nothing id (objectives unit program criterion) used k (length (in_declarator d ++ in_optional_initialiser i))
      (subst (λ j. AddsToOne new used used it known d i j) (sym same) (λ ds es after f. adds.a_declarator old f))

  of_initialised : {deep : ℕ} (used : List ℕ) (known : Known) (it : Specified) (d : c.Declarator) (i : c.Initialiser) (ds : List c.InitDeclarator) (k : ℕ) → known.next ≡ k
      → IsIn unit (k + length (in_declarator d)) (an_initialiser i) → AreOld new (in_declarator d ++ in_initialiser i) → Lies false (suc (suc deep)) known → IsAutomatic it.storage
      → ComesTo program.facts known (init_declarator it (record { declarator = d; initialiser = Some i }) known)
      → IsReached setting.greatest setting.model unit (place.declarators it (record { declarator = d; initialiser = Some i } ∷ ds)) known
      → AreUnused (marks_of unit program criterion id) used k (length (in_declarator d ++ in_initialiser i)) → Literal i → DeclaredOne used known it d (Some i) k
  of_initialised used known it d _ ds k at is old lies is_automatic comes reached unused (literal bytes) =
      as_it_is used known it d (Some (c.Value (c.Text bytes))) k old (ap (λ e. Some (c.Value e)) (text_alone unit program criterion id (k + length (in_declarator d) + 1) bytes (a_piece is (inl refl))))
  of_initialised used known it d i ds k at is old lies is_automatic comes reached unused (no_literal none) =
      let o = declarator d it false (declaration_faults it.storage true) known in
      let goes = went_on o (λ declared. declare_named it declared (Some i)) comes.goes in
      let there = declarations_are_come_to.2 program.facts known it (record { declarator = d; initialiser = Some i }) comes goes.0 goes.1 goes.2 in
      second_alone id (objectives unit program criterion) used k (in_declarator d) (in_initialiser i) unused
      (starts used it goes.0 goes.1 i (k + length (in_declarator d))
      (numbering.behind goes.0 goes.1 (numbering.of_declarator numbered d it false (declaration_faults it.storage true) known) goes.2 ∙ ap (λ n. n + length (in_declarator d)) at) is
      (lies_behind (kept.of_declarator d it false (declaration_faults it.storage true) known lies) goes.2) is_automatic none there known d ds goes.2 reached)
      (λ between p ds es after f. adds.an_initialised (old_first new (in_declarator d) (in_initialiser i) old)
      (only_way (λ declared next. AddsToStartOf new used between it declared next i (initialiser_with_marks (marks_of unit program criterion id) (k + length (in_declarator d)) i)) goes.2 p) f)

  of_declarator : {deep : ℕ} (used : List ℕ) (known : Known) (it : Specified) (d : c.Declarator) (i : Option c.Initialiser) (ds : List c.InitDeclarator) (k : ℕ) → known.next ≡ k
      → IsIn unit k (declarators (record { declarator = d; initialiser = i } ∷ ds)) → AreOld new (in_declarator d ++ in_optional_initialiser i) → Lies false (suc (suc deep)) known → IsAutomatic it.storage
      → ComesTo program.facts known (init_declarator it (record { declarator = d; initialiser = i }) known)
      → IsReached setting.greatest setting.model unit (place.declarators it (record { declarator = d; initialiser = i } ∷ ds)) known
      → AreUnused (marks_of unit program criterion id) used k (length (in_declarator d ++ in_optional_initialiser i)) → DeclaredOne used known it d i k
  of_declarator used known it d None ds k at is old lies is_automatic comes reached unused = as_it_is used known it d None k old refl
  of_declarator used known it d (Some i) ds k at is old lies is_automatic comes reached unused =
      of_initialised used known it d i ds k at (a_piece is (inl refl)) old lies is_automatic comes reached unused (is_literal i)

  of_declarators : {deep : ℕ} (used : List ℕ) (known : Known) (it : Specified) (ds : List c.InitDeclarator) (k : ℕ) → known.next ≡ k → IsIn unit k (declarators ds) → Lies false (suc (suc deep)) known
      → IsAutomatic it.storage → ComesTo program.facts known (init_declarators it ds known) → IsReached setting.greatest setting.model unit (place.declarators it ds) known
      → AreUnused (marks_of unit program criterion id) used k (length (flat_map in_init_declarator ds))
      → IsAdded (marks_of unit program criterion id) used k (length (flat_map in_init_declarator ds))
      (λ after. AddsToDeclarators new used after it known ds (declarators_with_marks (marks_of unit program criterion id) k ds))
  of_declarators used known it [] k at is lies is_automatic comes reached unused = nothing id (objectives unit program criterion) used k 0 adds.no_declarators
  of_declarators used known it (d ∷ ds) k at is lies is_automatic comes reached unused =
      let old = old_there new (flat_map in_init_declarator (d ∷ ds)) setting.old (all_stand unit k (declarators (d ∷ ds)) is).there in
      let parts = declarations_are_come_to.1 program.facts known it (d ∷ ds) comes in
      let first = parts.0 in
      let rest = declarators_with_marks (marks_of unit program criterion id) (k + length (in_init_declarator d)) ds in
      two id (objectives unit program criterion) used k (in_init_declarator d) (flat_map in_init_declarator ds) unused
      (of_declarator used known it d.declarator d.initialiser ds k at is (old_first new (in_init_declarator d) (flat_map in_init_declarator ds) old) lies is_automatic first reached)
      (λ between p unused. of_declarators between first.behind it ds (k + length (in_init_declarator d))
      (numbering.behind first.found first.behind (numbering.of_init_declarator numbered it d known) first.goes ∙ ap (λ n. n + length (in_init_declarator d)) at)
      (a_piece is (in_second _ (optional_initialiser (k + length (in_declarator d.declarator)) d.initialiser) _ (inl refl)))
      (lies_behind (keeping.of_init_declarator it d known lies) first.goes) is_automatic (parts.1 first.found first.behind first.goes)
      (a_part reached (more_declarators first.goes)) unused)
      (λ between after p q. p ds rest after (found_only first (λ locals next. AddsToDeclarators new between after it next ds rest) q))

  same_emptiness : (k : ℕ) (ds : List c.InitDeclarator) → has_no_declarator (declarators_with_marks (marks_of unit program criterion id) k ds) ≡ has_no_declarator ds
  same_emptiness k [] = refl
  same_emptiness k (d ∷ ds) = refl

  pub of_declaration : {deep : ℕ} (effective : Option Storage → Option Storage) (used : List ℕ) (known : Known) (d : c.Declaration) (k : ℕ) → known.next ≡ k → IsIn unit k (a_declaration d)
      → Lies false (suc (suc deep)) known
      → ((it : Specified) (next : Known) → specifiers d.specifiers (if has_no_declarator d.declarators then alone else elsewhere) known ≡ Goes it next → IsAutomatic (effective it.storage))
      → ComesTo program.facts known (declaration_by effective d known) → IsReached setting.greatest setting.model unit (place.a_declaration effective d) known
      → AreUnused (marks_of unit program criterion id) used k (length (in_declaration d))
      → IsAdded (marks_of unit program criterion id) used k (length (in_declaration d)) (λ after. AddsToDeclaration new effective used after known d (declaration_with_marks (marks_of unit program criterion id) k d))
  of_declaration effective used known d k at is lies are_automatic comes reached unused =
      let place : TypeSetting = if has_no_declarator d.declarators then alone else elsewhere in
      let old = old_there new (in_declaration d) setting.old (all_stand unit k (a_declaration d) is).there in
      let goes = went_on (specifiers d.specifiers place known) _ comes.goes in
      let there = declarations_are_come_to.0 program.facts known effective d comes goes.0 goes.1 goes.2 in
      let j : ℕ = k + length (in_specifiers d.specifiers) in
      second_alone id (objectives unit program criterion) used k (in_specifiers d.specifiers) (flat_map in_init_declarator d.declarators) unused
      (of_declarators used goes.1 (record (goes.0) { storage = effective goes.0.storage }) d.declarators j
      (numbering.behind goes.0 goes.1 (numbering.of_specifiers numbered d.specifiers place known) goes.2 ∙ ap (λ n. n + length (in_specifiers d.specifiers)) at) (a_piece is (inl refl))
      (lies_behind (kept.of_specifiers d.specifiers place known lies) goes.2) (are_automatic goes.0 goes.1 goes.2) there (a_part reached (its_declarators goes.2)))
      (λ after p. adds.a_declaration (old_first new (in_specifiers d.specifiers) (flat_map in_init_declarator d.declarators) old) (same_emptiness j d.declarators)
      (only_way (λ (it : Specified) next. AddsToDeclarators new used after (record it { storage = effective it.storage }) next d.declarators (declarators_with_marks (marks_of unit program criterion id) j d.declarators)) goes.2 p))
