-- The domains of parameters that are named in a body have predicates at its start.
use Rattle.std.proofs.Common.{◌≡◌, ◌⊎◌, inl, inr, refl, sym, ap, ◌∙◌, subst, ℕ, ◌<◌, ◌≤◌, Bool, true, false, if◌then◌else◌, List, [], ◌∷◌, ◌++◌, length, slice_get, Option, Some, None, append_assoc, eqb, arith}
use Rattle.std.proofs.lemmas.List.{append-nil}
use Rattle.std.proofs.lemmas.Bool.{false≢true, eqb-true, eq-eqb}
use Rattle.std.specs.Prelude.{unwrap_or, nat_lt, filter_map}
use Rattle.std.specs.List.{AllByRecursion, flat_map}
use Rattle.lt_model.specs.declared.scalar.DataModel.{DataModel}
use Rattle.lt_model.specs.Layout.{then_some}
use Rattle.lt_tree.specs.Tree as c
use Rattle.lt_tree.specs.Typing.Types.{CType, Void, Num, Pointer, Qualified, is_integer, is_pointer, is_floating, own_qualifiers}
use Rattle.lt_tree.specs.Typing.Extents.{has_too_many_cells, type_cells, struct_cells}
use Rattle.lt_tree.specs.Typing.Rules.{broken_if, floating_type, bad_length, function_as_value, volatile_access}
use Rattle.lt_tree.specs.Typing.Entities.{Known, Frame, Object, Function, parameter, an_object, meaning_of, type_of_object, starting}
use Rattle.lt_tree.specs.Typing.Steps.{Outcome, Goes, Breaks, goes_on, left}
use Rattle.lt_tree.specs.Typing.Expressions.{as_value, has_floating, has_pointer_to_function, faults_of_any}
use Rattle.lt_tree.specs.Typing.Operations.{object_named}
use Rattle.lt_tree.specs.Typing.Specifying.{Specified, elsewhere}
use Rattle.lt_tree.specs.Typing.Declarators.{Declares}
use Rattle.lt_tree.specs.Typing.Declaring.{definition_faults}
use Rattle.lt_tree.specs.Typing.ExpressionTyping.{specifiers, declarator}
use Rattle.lt_tree.specs.Typing.TypedTree.{Items}
use Rattle.lt_tree.specs.Typing.StatementTyping.{items}
use Rattle.lt_tree.specs.Typing.UnitTyping.{around_body, adds_function, defines, objects_of, external, externals, defined_in, answer, typing_to, IsProgramTo}
use Rattle.lt_tree.specs.Typing.Programs.{Program, program_of, typed}
use Rattle.lt_tree.specs.Nodes.{in_external}
use Rattle.lt_tree.specs.Typing.Types.{is_scalar}
use Rattle.lt_tree_laws.specs.Typing.NodeNumbers.{PartsAreNumbered}
use Rattle.lt_typed_nodes.proofs.FactSteps.{all_joined}
use Rattle.lt_objective_marks.proofs.Numbering as numbering
use Rattle.lt_objectives.specs.Places.{corresponding, unmarked_numbers}
use Rattle.lt_objectives.specs.Objectives.{domains, domains_of_object, parameters_among, parameters_at}
use Rattle.lt_objective_places.specs.Stands.{IsAmong}
use Rattle.lt_mark_typing.specs.Placed.{IsThere, entered}
use Rattle.lt_mark_typing.specs.PlacedUnits.{in_body}
use Rattle.lt_mark_typing.proofs.Predicates.{name_there}
use Rattle.lt_objective_typing.specs.Laws.{ArePredicates, DomainsGivePredicates}
use Rattle.lt_typed_nodes.specs.Reaching as place
use Rattle.lt_typed_nodes.specs.Reaching.{IsReached, the_unit, a_part, more_externals}
use Rattle.lt_typed_nodes.proofs.ReadTypes.{values_have_their_types}
use Rattle.lt_objective_marks.specs.Bodies.{IsBehindMarks, no_mark, a_mark, ParametersAreNamed, DomainsAreThere}
use Rattle.lt_objective_marks.proofs.Lasting.{AreAt, Lasts, Stays, went, broke}
use Rattle.lt_objective_marks.proofs.Lasting as lasting
use Rattle.lt_objective_marks.proofs.LastingUnits as lasting_units
use Rattle.lt_objective_marks.proofs.Ways.{went_on, through}

-- ---- names of scalars

no_float : (t : CType) → (is_integer t ≡ true) ⊎ (is_pointer t ≡ true) → is_floating t ≡ false
no_float (Num s) h = refl
no_float (Pointer t) h = refl
no_float (Qualified q t) h = no_float t h
no_float _ (inl h) = absurd (false≢true h)
no_float _ (inr h) = absurd (false≢true h)

one_cell : (known : ℕ → ℕ) (t : CType) → (is_integer t ≡ true) ⊎ (is_pointer t ≡ true) → type_cells known t ≡ 1
one_cell known (Num s) h = refl
one_cell known (Pointer t) h = refl
one_cell known (Qualified q t) h = one_cell known t h
one_cell known _ (inl h) = absurd (false≢true h)
one_cell known _ (inr h) = absurd (false≢true h)

no_floating : (t : CType) → (is_integer t ≡ true) ⊎ (is_pointer t ≡ true) → has_floating t ≡ false
no_floating (Num s) h = refl
no_floating (Pointer t) h = refl
no_floating (Qualified q t) h = no_float t h
no_floating _ (inl h) = absurd (false≢true h)
no_floating _ (inr h) = absurd (false≢true h)

no_faults : (a b d v : Bool) → a ≡ false → b ≡ false → d ≡ false → v ≡ false
    → broken_if floating_type a ++ broken_if bad_length b ++ broken_if function_as_value d ++ broken_if volatile_access v ≡ []
no_faults false false false false p q r s = refl
no_faults true b d v p q r s = absurd cc
no_faults false true d v p q r s = absurd cc
no_faults false false true v p q r s = absurd cc
no_faults false false false true p q r s = absurd cc

module _ (known : Known) (n : ℕ) (is_register : Bool) (o : Object) (there : slice_get known.objects n ≡ Some o) (named : meaning_of o.name known ≡ Some (an_object n is_register))
    (no_function : has_pointer_to_function o.type ≡ false) (still : (own_qualifiers o.type).volatile ≡ false) where
  type_is : type_of_object known n ≡ o.type
  type_is = ap (λ (found : Option Object). unwrap_or (then_some found (λ object. Some object.type)) Void) there

  good : (is_integer o.type ≡ true) ⊎ (is_pointer o.type ≡ true) → faults_of_any known.structs as_value (object_named known n is_register) ≡ []
  good h =
      subst (λ t. broken_if floating_type (has_floating t) ++ broken_if bad_length (has_too_many_cells known.structs t) ++ broken_if function_as_value (has_pointer_to_function t) ++ broken_if volatile_access ((own_qualifiers t).volatile) ≡ []) (sym type_is)
      (no_faults (has_floating o.type) (has_too_many_cells known.structs o.type) (has_pointer_to_function o.type) (own_qualifiers o.type).volatile (no_floating o.type h)
      (ap (λ cells. nat_lt 1048576 cells) (one_cell (struct_cells known.structs (length known.structs)) o.type h)) no_function still)

  pub integer_named : {new : ℕ → Bool} {used : List ℕ} → is_integer o.type ≡ true → IsThere is_integer new used known (c.Name o.name)
  integer_named h =
      name_there is_integer o.name n is_register named (good (inl h))
      ((values_have_their_types (object_named known n is_register)).integer ∙ ap is_integer type_is ∙ h)

  pub pointer_named : {new : ℕ → Bool} {used : List ℕ} → is_pointer o.type ≡ true → IsThere is_pointer new used known (c.Name o.name)
  pointer_named h = name_there is_pointer o.name n is_register named (good (inr h)) ((values_have_their_types (object_named known n is_register)).pointer (ap is_pointer type_is ∙ h))

none_chosen : {X : Type 0} (v : Bool) (xs : List X) → v ≡ true → (if v then [] else xs) ≡ []
none_chosen true xs is = refl
none_chosen false xs is = absurd (false≢true is)

no_domain : (model : DataModel) (t : CType) (e : c.Expression) → (own_qualifiers t).volatile ≡ true → domains model t e ≡ []
no_domain model t e is = none_chosen (own_qualifiers t).volatile _ is

-- a domain, of which a volatile object has none
one_domain : DomainsGivePredicates → (new : ℕ → Bool) (used : List ℕ) (known : Known) (model : DataModel) (n : ℕ) (is_register : Bool) (o : Object) → slice_get known.objects n ≡ Some o
    → meaning_of o.name known ≡ Some (an_object n is_register) → has_pointer_to_function o.type ≡ false → ArePredicates new used known (domains model o.type (c.Name o.name))
one_domain law new used known model n is_register o there named no_function = by (own_qualifiers o.type).volatile refl
  where
    by : (v : Bool) → (own_qualifiers o.type).volatile ≡ v → ArePredicates new used known (domains model o.type (c.Name o.name))
    by true is = subst (ArePredicates new used known) (sym (no_domain model o.type (c.Name o.name) is)) tt
    by false is =
        law new used known model o.type (c.Name o.name) (integer_named known n is_register o there named no_function is)
        (pointer_named known n is_register o there named no_function is)

-- ---- the end of a unit

program_end : (unit : c.Unit) (o : Outcome (Unit {0})) (program : Program) → answer unit o ≡ typed program → (u : Unit {0}) × (end : Known) × (o ≡ Goes u end) × (program_of unit end ≡ program)
program_end unit (Goes u end) program e = (u, end, refl, same e)
  where
    same : typed (program_of unit end) ≡ typed program → program_of unit end ≡ program
    same e = cc
program_end unit (Breaks rule node) program e = absurd cc

unit_end : (greatest : ℕ) (model : DataModel) (unit : c.Unit) (program : Program) → IsProgramTo greatest model unit program
    → (u : Unit {0}) × (end : Known) × (externals unit (starting greatest model (filter_map defined_in unit)) ≡ Goes u end) × (program_of unit end ≡ program)
unfolding typing_to
unit_end greatest model unit program is = program_end unit (externals unit (starting greatest model (filter_map defined_in unit))) program is

goes_from : {greatest : ℕ} {model : DataModel} {unit : c.Unit} {u : Unit {0}} {end known : Known} (ys : List c.External) → externals unit (starting greatest model (filter_map defined_in unit)) ≡ Goes u end
    → IsReached greatest model unit (place.externals ys) known → externals ys known ≡ Goes u end
goes_from ys goes the_unit = goes
goes_from ys goes (a_part before (more_externals {x = x} {xs = xs} here)) = through (λ u. externals xs) (goes_from (x ∷ xs) goes before) here

-- ---- functions that are defined

-- a definition that goes on has gone over its items, and has found a function of its own number behind those before
record Defined (fs : List Function) (Was : ℕ → Object → Type 0) (node : ℕ) (parameters : List ℕ) (k : Known) : Type 0 where
  function : Function
  own_node : function.node ≡ node
  own_parameters : function.parameters ≡ parameters
  functions : k.functions ≡ fs ++ function ∷ []
  objects : AreAt Was k.objects

module _ {Was : ℕ → Object → Type 0} (parameters : (n : ℕ) (o : Object) → Was n o → o.life ≡ parameter) where
  ended : (fs : List Function) (frames : List Frame) (node : ℕ) (name : List ℕ) (declared : Declares) (o : Outcome Items) (u : Unit {0}) (k : Known) → Stays fs Was o
      → goes_on (left frames o) (λ inside. adds_function node name declared inside.0) ≡ Goes u k → Defined fs Was node (objects_of declared.parameters) k
  ended fs frames node name declared (Goes it l) u k (went h) goes =
      let f : Function = record { node = node; name = name; type = declared.type; parameters = objects_of declared.parameters; body = it } in
      let same : record l { frames = frames; functions = l.functions ++ f ∷ [] } ≡ k = cc in record {
        function = f;
        own_node = refl;
        own_parameters = refl;
        functions = sym (ap (λ (k : Known). k.functions) same) ∙ ap (λ list. list ++ f ∷ []) h.0;
        objects = subst (λ (k : Known). AreAt Was k.objects) same h.1;
      }
  ended fs frames node name declared (Breaks rule at) u k stays goes = absurd cc

  stays_behind : {A : Type 0} {fs : List Function} {o : Outcome A} {a : A} {k : Known} → Stays fs Was o → o ≡ Goes a k → Lasts fs Was k
  stays_behind {A} {fs} {o} {a} {k} stays is = by (subst (λ o. Stays fs Was o) is stays)
    where
      by : Stays fs Was (Goes a k) → Lasts fs Was k
      by (went h) = h

  pub body_lasts : {fs : List Function} (declared : Declares) (last : Known) → Lasts fs Was last → Lasts fs Was (in_body declared last)
  body_lasts declared last h = let g = lasting_units.declared_stays parameters (unwrap_or declared.name []) declared.type last h in (g.0, g.1)

  definition : (s : c.Specifiers) (d : c.Declarator) (body : c.Items) (known : Known) (it : Specified) (next : Known) (declared : Declares) (last : Known) (u : Unit {0}) (k : Known)
      → specifiers s elsewhere (entered known) ≡ Goes it next → declarator d it true (definition_faults it.storage) next ≡ Goes declared last → external (c.Defines s d body) known ≡ Goes u k
      → last.functions ≡ known.functions → AreAt Was last.objects → Defined known.functions Was known.next (objects_of declared.parameters) k
  definition s d body known it next declared last u k e f goes functions are =
      let first = through (λ it k. goes_on (declarator d it true (definition_faults it.storage) k) (λ declared. defines known.next (unwrap_or declared.name []) declared body)) goes e in
      let second = through (λ declared. defines known.next (unwrap_or declared.name []) declared body) first f in
      let h = body_lasts declared last (functions, are) in
      ended known.functions _ known.next (unwrap_or declared.name []) declared (items body (around_body declared.type) (in_body declared last)) u k
      (lasting_units.of_items parameters body (around_body declared.type) (in_body declared last) h) second

  -- functions are added at each external, and parameters last
  pub external_lasts : (x : c.External) (known : Known) (u : Unit {0}) (k : Known) → AreAt Was known.objects → external x known ≡ Goes u k
      → (more : List Function) × (k.functions ≡ known.functions ++ more) × AllByRecursion (λ (f : Function). f.node ≡ known.next) more × AreAt Was k.objects
  external_lasts (c.Defines s d body) known u k are goes =
      let first = went_on (specifiers s elsewhere (entered known)) _ goes in
      let h = stays_behind (lasting.of_specifiers s elsewhere (entered known) (refl, are)) first.2 in
      let second = went_on (declarator d first.0 true (definition_faults first.0.storage) first.1) _
      (through (λ it k. goes_on (declarator d it true (definition_faults it.storage) k) (λ declared. defines known.next (unwrap_or declared.name []) declared body)) goes first.2) in
      let g = stays_behind (lasting.of_declarator d first.0 true (definition_faults first.0.storage) first.1 h) second.2 in
      let it = definition s d body known first.0 first.1 second.0 second.1 u k first.2 second.2 goes g.0 g.1 in
      (it.function ∷ [], it.functions, (it.own_node, tt), it.objects)
  external_lasts (c.Declared d) known u k are goes =
      let stays = lasting.bind (lasting_units.of_declaration_by parameters (λ class. class) d (entered known) (refl, are)) (λ it k h. lasting.judged known.next it.faults k h) in
      let h = stays_behind stays goes in
      ([], h.0 ∙ sym (append-nil known.functions), tt, h.1)

  pub rest_lasts : (xs : List c.External) (known : Known) (u : Unit {0}) (end : Known) → AreAt Was known.objects → externals xs known ≡ Goes u end
      → (more : List Function) × (end.functions ≡ known.functions ++ more) × AreAt Was end.objects
  rest_lasts [] known u end are goes = let same : known ≡ end = cc in ([], sym (ap (λ (k : Known). k.functions) same) ∙ sym (append-nil known.functions), subst (λ (k : Known). AreAt Was k.objects) same are)
  rest_lasts (x ∷ xs) known u end are goes =
      let first = went_on (external x known) (λ u. externals xs) goes in
      let here = external_lasts x known first.0 first.1 are first.2 in
      let rest = rest_lasts xs first.1 u end here.3 (through (λ u. externals xs) goes first.2) in
      (here.0 ++ rest.0, rest.1 ∙ ap (λ list. list ++ rest.0) here.1 ∙ append_assoc known.functions here.0 rest.0, rest.2)

  -- so they do behind the marks with which a body begins
  marks_last : {fs : List Function} {list : c.Items} {known behind : Known} → IsBehindMarks list known behind → Lasts fs Was known → Lasts fs Was behind
  marks_last (no_mark none) h = h
  marks_last (a_mark {m = m} {known = known} goes rest) h = marks_last rest (stays_behind (lasting.of_mark m (entered known) h) goes)

-- ---- the parameters of a function by its number

abbrev None_was : ℕ → Object → Type 0
None_was n o = ⊥

no_parameters : (n : ℕ) (o : Object) → None_was n o → o.life ≡ parameter
no_parameters n o was = absurd was

below_more : (before more : List Function) (k j : ℕ) → AllByRecursion (λ (f : Function). f.node < k) before → AllByRecursion (λ (f : Function). f.node ≡ k) more → k < j
    → AllByRecursion (λ (f : Function). f.node < j) (before ++ more)
below_more [] [] k j b m l = tt
below_more [] (f ∷ more) k j b m l = (let same : f.node ≡ k = m.0 in omega arith, below_more [] more k j b m.1 l)
below_more (f ∷ before) more k j b m l = (let low : f.node < k = b.0 in omega arith, below_more before more k j b.1 m l)

external_is_a_node : (x : c.External) → 1 ≤ length (in_external x)
external_is_a_node (c.Defines s d body) = omega arith
external_is_a_node (c.Declared d) = omega arith

reached_below : PartsAreNumbered → {greatest : ℕ} {model : DataModel} {unit : c.Unit} {ys : List c.External} {known : Known} → IsReached greatest model unit (place.externals ys) known → AllByRecursion (λ (f : Function). f.node < known.next) known.functions
reached_below numbered the_unit = tt
reached_below numbered (a_part before (more_externals {x = x} {known = known} {k = behind} {u = u} goes)) =
    let it = external_lasts {Was = None_was} no_parameters x known u behind (λ n o was. absurd was) goes in
    let at = numbering.behind u behind (numbering.of_external numbered x known) goes in
    let more = external_is_a_node x in
    subst (AllByRecursion (λ (f : Function). f.node < behind.next)) (sym it.1) (below_more known.functions it.0 known.next behind.next (reached_below numbered before) it.2 (omega (arith, at, more)))

found_function : (before : List Function) (f : Function) (more : List Function) (k : ℕ) → AllByRecursion (λ (f : Function). f.node < k) before → f.node ≡ k → parameters_among ((before ++ f ∷ []) ++ more) k ≡ f.parameters
found_function [] f more k below is = ap (λ b. if b then f.parameters else parameters_among more k) (eq-eqb f.node k is)
found_function (g ∷ before) f more k below is =
    ap (λ b. if b then g.parameters else parameters_among ((before ++ f ∷ []) ++ more) k) (differs (eqb g.node k) refl) ∙ found_function before f more k below.1 is
  where
    differs : (b : Bool) → eqb g.node k ≡ b → b ≡ false
    differs true e = let low : g.node < k = below.0 in let same : g.node ≡ k = eqb-true g.node k e in absurd (omega arith)
    differs false e = refl

same_number : (k : ℕ) (list : List ℕ) (n : ℕ) → corresponding k list list ≡ Some n → n ≡ k
same_number k [] n is = absurd cc
same_number k (m ∷ rest) n is = by (eqb m k) refl is (same_number k rest n)
  where
    by : (b : Bool) → eqb m k ≡ b → (if b then Some m else corresponding k rest rest) ≡ Some n → (corresponding k rest rest ≡ Some n → n ≡ k) → n ≡ k
    by true e is f = let same : m ≡ n = cc in sym same ∙ eqb-true m k e
    by false e is f = f is

-- ---- all domains

pub domains_there : PartsAreNumbered → DomainsGivePredicates → ParametersAreNamed → DomainsAreThere
domains_there numbered law names new unit program id setting s d body xs known reached is comes it next declared last e f behind there used = subst Goal whole.3 (by (corresponding known.next (unmarked_numbers unit) (unmarked_numbers unit)) refl)
  where
    Goal : Program → Type 0
    Goal program = ArePredicates new used behind (flat_map (domains_of_object program) (parameters_at unit program known.next))

    whole : (u : Unit {0}) × (end : Known) × (externals unit (starting setting.greatest setting.model (filter_map defined_in unit)) ≡ Goes u end) × (program_of unit end ≡ program)
    whole = unit_end setting.greatest setting.model unit program setting.typed

    Was : ℕ → Object → Type 0
    Was n o = IsAmong n (objects_of declared.parameters) × (slice_get last.objects n ≡ Some o) × (o.life ≡ parameter)

    are_parameters : (n : ℕ) (o : Object) → Was n o → o.life ≡ parameter
    are_parameters n o was = was.2

    functions : last.functions ≡ known.functions
    functions =
        (stays_behind {Was = None_was} no_parameters (lasting.of_declarator d it true (definition_faults it.storage) next
        (stays_behind {Was = None_was} no_parameters (lasting.of_specifiers s elsewhere (entered known) (refl, λ n o was. absurd was)) e)) f).0

    goes : externals (c.Defines s d body ∷ xs) known ≡ Goes whole.0 whole.1
    goes = goes_from (c.Defines s d body ∷ xs) whole.2 reached

    first : (u : Unit {0}) × (k : Known) × (external (c.Defines s d body) known ≡ Goes u k)
    first = went_on (external (c.Defines s d body) known) (λ u. externals xs) goes

    defined : Defined known.functions Was known.next (objects_of declared.parameters) first.1
    defined = definition are_parameters s d body known it next declared last first.0 first.1 e f first.2 functions (λ n o was. was.1)

    rest : (more : List Function) × (whole.1.functions ≡ first.1.functions ++ more) × AreAt Was whole.1.objects
    rest = rest_lasts are_parameters xs first.1 whole.0 whole.1 defined.objects (through (λ u. externals xs) goes first.2)

    found : parameters_among whole.1.functions known.next ≡ objects_of declared.parameters
    found =
        ap (λ list. parameters_among list known.next) (rest.1 ∙ ap (λ list. list ++ rest.0) defined.functions)
        ∙ found_function known.functions defined.function rest.0 known.next (reached_below numbered reached) defined.own_node ∙ defined.own_parameters

    behind_get : (n : ℕ) (o : Object) → Was n o → slice_get behind.objects n ≡ Some o
    behind_get n o was = (marks_last are_parameters there (body_lasts are_parameters {fs = known.functions} declared last (functions, λ n o was. was.1))).1 n o was

    one : (n : ℕ) → IsAmong n (objects_of declared.parameters) → ArePredicates new used behind (domains_of_object (program_of unit whole.1) n)
    one n among =
        let (o, is_register, get, life, no_function, named) = names d it body next declared last f n among in
        subst (λ found. ArePredicates new used behind (elim (found) [ None ↦ [] | Some object ↦ domains whole.1.model object.type (c.Name object.name) ])) (sym (rest.2 n o (among, get, life)))
        (one_domain law new used behind whole.1.model n is_register o (behind_get n o (among, get, life)) (named behind there) no_function)

    each : (list : List ℕ) → ((n : ℕ) → IsAmong n list → IsAmong n (objects_of declared.parameters)) → ArePredicates new used behind (flat_map (domains_of_object (program_of unit whole.1)) list)
    each [] all = tt
    each (n ∷ ns) all =
        all_joined (IsThere is_scalar new used behind) (domains_of_object (program_of unit whole.1) n) (flat_map (domains_of_object (program_of unit whole.1)) ns) (one n (all n (inl refl))) (each ns (λ m among. all m (inr among)))

    by : (number : Option ℕ) → corresponding known.next (unmarked_numbers unit) (unmarked_numbers unit) ≡ number → Goal (program_of unit whole.1)
    by None none = subst (λ number. ArePredicates new used behind (flat_map (domains_of_object (program_of unit whole.1)) (elim (number) [ None ↦ [] | Some n ↦ parameters_among whole.1.functions n ]))) (sym none) tt
    by (Some n) some =
        let same : n ≡ known.next = same_number known.next (unmarked_numbers unit) n some in
        subst (λ number. ArePredicates new used behind (flat_map (domains_of_object (program_of unit whole.1)) (elim (number) [ None ↦ [] | Some n ↦ parameters_among whole.1.functions n ]))) (sym some)
        (subst (λ list. ArePredicates new used behind (flat_map (domains_of_object (program_of unit whole.1)) list)) (sym (ap (parameters_among whole.1.functions) same ∙ found))
        (each (objects_of declared.parameters) (λ n among. among)))
