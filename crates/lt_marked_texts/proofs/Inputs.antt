-- The names of a function's parameters are good at the start of its body.
use Rattle.std.proofs.Common.{◌≡◌, ℕ, zero, suc, Bool, true, false, eqb, List, [], ◌∷◌, ◌++◌, map, Option, Some, None, refl, sym, ap, ◌∙◌, subst, inl, inr}
use Rattle.std.specs.Prelude.{if◌then◌else◌, slice_get}
use Rattle.std.specs.Str.{bytes_eq}
use Rattle.std.specs.List.{flat_map}
use Rattle.std.proofs.lemmas.Bool.{eqb-true}
use Rattle.std.proofs.lemmas.Slice.Eq.{bytes_eq-Decides}
use Rattle.lt_model.specs.declared.operator.Op.{Op}
use Rattle.lt_model.specs.declared.operator.Op.TheVariants as O
use Rattle.lt_model.specs.declared.scalar.DataModel.{DataModel}
use Rattle.lt_tree.specs.Tree as c
use Rattle.lt_tree.specs.Nodes.{Node, an_external, nodes}
use Rattle.lt_tree.specs.Scope.{Scope, is_type, hiding, enumerators_in_specifiers, enumerators_in_declarator, declaring, after_specifiers, after_inside, after_declarator, after_parameter, after_list, after_parameters, after_first_part, in_body, makes_types}
use Rattle.lt_tree.specs.Typing.Types.{CType, own_qualifiers, is_integer, is_pointer}
use Rattle.lt_tree.specs.Typing.Entities.{Object, Function}
use Rattle.lt_tree.specs.Typing.Programs.{Program}
use Rattle.lt_objectives.specs.declared.criteria.Criterion.TheVariants as C
use Rattle.lt_objectives.specs.Places.{unmarked_numbers, corresponding, corresponding_node}
use Rattle.lt_objectives.specs.Decisions.{zero_constant}
use Rattle.lt_objectives.specs.Mutants.{is_signed_integer}
use Rattle.lt_objectives.specs.Objectives.{parameters_among, domains, domains_of_object}
use Rattle.lt_print.proofs.Clean.{IsIdentifier}
use Rattle.lt_print.proofs.Spelt.{NameIf, SpeltDeclarator, SpeltParts, SpeltParameters, SpeltList}
use Rattle.lt_marked_texts.proofs.Fitting.{MadeAtStart}
use Rattle.lt_marked_texts.proofs.Predicates.{Each}
use Rattle.lt_marked_texts.proofs.Objectives.{zero_constant_good}
use Rattle.lt_marked_texts.proofs.Rounds.{BodiesBegin}
use Rattle.lt_marked_texts.proofs.Parameters.{Named, IsNamed, IsListed, IsIn, IsInFirst, IsParameter}
use Rattle.lt_marked_texts.proofs.TypedUnits.{Defined, AllDefined, TypedUnit}
use Rattle.lt_marked_texts.proofs.Inserted.{head, Pair}

-- ---- names that aren't types

declared_by : (b other : Bool) → other ≡ false → (if b then false else other) ≡ false
declared_by true other h = refl
declared_by false other h = h

still_hidden : (names : List (List ℕ)) (scope : Scope) (w : List ℕ) → is_type scope w ≡ false → is_type (hiding names scope) w ≡ false
still_hidden [] scope w h = h
still_hidden (v ∷ vs) scope w h = still_hidden vs (record { name = v; is_type = false } ∷ scope) w (declared_by (bytes_eq v w) (is_type scope w) h)

now_hidden : (w : List ℕ) (scope : Scope) → is_type (record { name = w; is_type = false } ∷ scope) w ≡ false
now_hidden w scope = ap (λ b. if b then false else is_type scope w) ((bytes_eq-Decides w w).1 refl)

declaring_hides : (name : Option (List ℕ)) (scope : Scope) (w : List ℕ) → is_type scope w ≡ false → is_type (declaring false name scope) w ≡ false
declaring_hides None scope w h = h
declaring_hides (Some v) scope w h = declared_by (bytes_eq v w) (is_type scope w) h

declares_it : (name : Option (List ℕ)) (scope : Scope) (w : List ℕ) → name ≡ Some w → is_type (declaring false name scope) w ≡ false
declares_it name scope w e = subst (λ (o : Option (List ℕ)). is_type (declaring false o scope) w ≡ false) (sym e) (now_hidden w scope)

behind_parameter : (s : c.Specifiers) (d : c.Declarator) (scope : Scope) (w : List ℕ) → is_type scope w ≡ false → is_type (after_parameter s d scope) w ≡ false
behind_parameter s (c.declarator name ps) scope w h =
    declaring_hides name (after_inside (c.declarator name ps) (after_specifiers s scope)) w
    (still_hidden (enumerators_in_declarator (c.declarator name ps)) (after_specifiers s scope) w (still_hidden (enumerators_in_specifiers s) scope w h))

behind_list : (list : c.ParameterList) (scope : Scope) (w : List ℕ) → is_type scope w ≡ false → is_type (after_list list scope) w ≡ false
behind_list c.no_parameters scope w h = h
behind_list (c.a_parameter s d rest) scope w h = behind_list rest (after_parameter s d scope) w (behind_parameter s d scope w h)

named_hidden : (s : c.Specifiers) (d : c.Declarator) (scope : Scope) (w : List ℕ) → IsNamed w d → is_type (after_parameter s d scope) w ≡ false
named_hidden s (c.declarator name ps) scope w e = declares_it name (after_inside (c.declarator name ps) (after_specifiers s scope)) w e

listed_hidden : (list : c.ParameterList) (scope : Scope) (w : List ℕ) → IsListed w list → is_type (after_list list scope) w ≡ false
listed_hidden c.no_parameters scope w is = absurd is
listed_hidden (c.a_parameter s d rest) scope w (inl e) = behind_list rest (after_parameter s d scope) w (named_hidden s d scope w e)
listed_hidden (c.a_parameter s d rest) scope w (inr e) = listed_hidden rest (after_parameter s d scope) w e

in_hidden : (ps : c.Parameters) (scope : Scope) (w : List ℕ) → IsIn w ps → is_type (after_parameters ps scope) w ≡ false
in_hidden c.Unstated scope w is = absurd is
in_hidden c.Void scope w is = absurd is
in_hidden (c.Listed list) scope w is = listed_hidden list scope w is
in_hidden (c.Open list) scope w is = listed_hidden list scope w is

first_hidden : (parts : c.Parts) (scope : Scope) (w : List ℕ) → IsInFirst w parts → is_type (after_first_part parts scope) w ≡ false
first_hidden c.no_parts scope w is = absurd is
first_hidden (c.Pointer q rest) scope w is = absurd is
first_hidden (c.Array length rest) scope w is = absurd is
first_hidden (c.Function ps rest) scope w is = in_hidden ps scope w is

parameter_hidden : (s : c.Specifiers) (d : c.Declarator) (scope : Scope) (w : List ℕ) → IsParameter w d → is_type (in_body s d scope) w ≡ false
parameter_hidden s (c.declarator name parts) scope w is = first_hidden parts (after_declarator (makes_types s) (c.declarator name parts) (after_specifiers s scope)) w is

-- ---- names that are spelt well

name_spelt : (name : Option (List ℕ)) (w : List ℕ) → name ≡ Some w → NameIf name → IsIdentifier w
name_spelt name w e = subst NameIf e

named_spelt : (d : c.Declarator) (w : List ℕ) → IsNamed w d → SpeltDeclarator d → IsIdentifier w
named_spelt (c.declarator name parts) w e spelt = name_spelt name w e spelt.0

listed_spelt : (list : c.ParameterList) (w : List ℕ) → IsListed w list → SpeltList list → IsIdentifier w
listed_spelt c.no_parameters w is spelt = absurd is
listed_spelt (c.a_parameter s d rest) w (inl e) spelt = named_spelt d w e spelt.1
listed_spelt (c.a_parameter s d rest) w (inr e) spelt = listed_spelt rest w e spelt.2

in_spelt : (ps : c.Parameters) (w : List ℕ) → IsIn w ps → SpeltParameters ps → IsIdentifier w
in_spelt c.Unstated w is spelt = absurd is
in_spelt c.Void w is spelt = absurd is
in_spelt (c.Listed list) w is spelt = listed_spelt list w is spelt
in_spelt (c.Open list) w is spelt = listed_spelt list w is spelt

first_spelt : (parts : c.Parts) (w : List ℕ) → IsInFirst w parts → SpeltParts parts → IsIdentifier w
first_spelt c.no_parts w is spelt = absurd is
first_spelt (c.Pointer q rest) w is spelt = absurd is
first_spelt (c.Array length rest) w is spelt = absurd is
first_spelt (c.Function ps rest) w is spelt = in_spelt ps w is spelt.0

parameter_spelt : (d : c.Declarator) (w : List ℕ) → IsParameter w d → SpeltDeclarator d → IsIdentifier w
parameter_spelt (c.declarator name parts) w is spelt = first_spelt parts w is spelt.1

-- ---- domains

module _ (s : c.Specifiers) (d : c.Declarator) where
  compared : (op : Op) (w : List ℕ) → IsParameter w d → MadeAtStart s d (c.Binary op (c.Name w) zero_constant)
  compared op w is = record {
    good = λ scope names spelt. ((still_hidden names (in_body s d scope) w (parameter_hidden s d scope w is), parameter_spelt d w is spelt), zero_constant_good);
    quiet = refl;
  }

  chosen : (b : Bool) (xs ys : List c.Expression) → Each (MadeAtStart s d) xs → Each (MadeAtStart s d) ys → Each (MadeAtStart s d) (if b then xs else ys)
  chosen true xs ys a b = a
  chosen false xs ys a b = b

  domains_begin : (m : DataModel) (t : CType) (w : List ℕ) → IsParameter w d → Each (MadeAtStart s d) (domains m t (c.Name w))
  domains_begin m t w is =
      let e = c.Name w in
      let positive : Each (MadeAtStart s d) (c.Binary O.Eq e zero_constant ∷ c.Binary O.Gt e zero_constant ∷ []) = (compared O.Eq w is, (compared O.Gt w is, tt)) in
      let signed : Each (MadeAtStart s d) (c.Binary O.Lt e zero_constant ∷ c.Binary O.Eq e zero_constant ∷ c.Binary O.Gt e zero_constant ∷ []) = (compared O.Lt w is, positive) in
      let null : Each (MadeAtStart s d) (c.Binary O.Eq e zero_constant ∷ c.Binary O.Ne e zero_constant ∷ []) = (compared O.Eq w is, (compared O.Ne w is, tt)) in
      let of_integer = chosen (is_integer t) (c.Binary O.Eq e zero_constant ∷ c.Binary O.Gt e zero_constant ∷ []) [] positive tt in
      let of_signed =
      chosen (is_signed_integer m t) (c.Binary O.Lt e zero_constant ∷ c.Binary O.Eq e zero_constant ∷ c.Binary O.Gt e zero_constant ∷ [])
      (if is_integer t then c.Binary O.Eq e zero_constant ∷ c.Binary O.Gt e zero_constant ∷ [] else []) signed of_integer in
      let of_pointer =
      chosen (is_pointer t) (c.Binary O.Eq e zero_constant ∷ c.Binary O.Ne e zero_constant ∷ [])
      (if is_signed_integer m t then c.Binary O.Lt e zero_constant ∷ c.Binary O.Eq e zero_constant ∷ c.Binary O.Gt e zero_constant ∷ []
      else (if is_integer t then c.Binary O.Eq e zero_constant ∷ c.Binary O.Gt e zero_constant ∷ [] else [])) null of_signed in
      chosen (own_qualifiers t).volatile []
      (if is_pointer t then c.Binary O.Eq e zero_constant ∷ c.Binary O.Ne e zero_constant ∷ []
      else (if is_signed_integer m t then c.Binary O.Lt e zero_constant ∷ c.Binary O.Eq e zero_constant ∷ c.Binary O.Gt e zero_constant ∷ []
      else (if is_integer t then c.Binary O.Eq e zero_constant ∷ c.Binary O.Gt e zero_constant ∷ [] else []))) tt of_pointer

  each_joined : (xs ys : List c.Expression) → Each (MadeAtStart s d) xs → Each (MadeAtStart s d) ys → Each (MadeAtStart s d) (xs ++ ys)
  each_joined [] ys a b = b
  each_joined (x ∷ xs) ys a b = (a.0, each_joined xs ys a.1 b)

  name_got : (objects : List Object) (n : ℕ) (object : Object) → slice_get objects n ≡ Some object → slice_get (map (λ (o : Object). o.name) objects) n ≡ Some object.name
  name_got [] n object h = absurd cc
  name_got (x ∷ objects) zero object h = let it : x ≡ object = cc in ap (λ (o : Object). Some o.name) it
  name_got (x ∷ objects) (suc n) object h = name_got objects n object h

  same_name : (v w : List ℕ) (o : Option (List ℕ)) → o ≡ Some v → o ≡ Some w → v ≡ w
  same_name v w o a b = cc

  object_begins : (program : Program) (n : ℕ) (w : List ℕ) → slice_get (map (λ (o : Object). o.name) program.objects) n ≡ Some w → IsParameter w d → (found : Option Object) → slice_get program.objects n ≡ found
      → Each (MadeAtStart s d) (elim found [ None ↦ [] | Some object ↦ domains program.model object.type (c.Name object.name) ])
  object_begins program n w h is None e = tt
  object_begins program n w h is (Some object) e =
      domains_begin program.model object.type object.name
      (subst (λ (v : List ℕ). IsParameter v d) (same_name w object.name (slice_get (map (λ (o : Object). o.name) program.objects) n) h (name_got program.objects n object e)) is)

  objects_begin : (program : Program) (ns : List ℕ) → Named (λ w. IsParameter w d) ns (map (λ (o : Object). o.name) program.objects) → Each (MadeAtStart s d) (flat_map (domains_of_object program) ns)
  objects_begin program [] named = tt
  objects_begin program (n ∷ ns) named =
      each_joined (domains_of_object program n) (flat_map (domains_of_object program) ns) (object_begins program n named.0.0 named.0.1 named.0.2 (slice_get program.objects n) refl) (objects_begin program ns named.1)

  -- ---- the function at a node

  same_pair : (x y : c.Specifiers × c.Declarator) → Some x ≡ Some y → x ≡ y
  same_pair x y e = cc

  same_declarator : (x : c.Specifiers × c.Declarator) → ◌≡◌ {A = Option (c.Specifiers × c.Declarator)} (Some x) (Some (s, d)) → x.1 ≡ d
  same_declarator x e = ap (λ (p : c.Specifiers × c.Declarator). p.1) (same_pair x (s, d) e)

  among_if : (whole : List Node) (all : List (List ℕ)) (f : Function) (fs : List Function) (n : ℕ) (b : Bool) → eqb f.node n ≡ b → Defined whole all f
      → ((x : Node) → slice_get whole n ≡ Some x → head x ≡ Some (s, d)) → Named (λ w. IsParameter w d) (parameters_among fs n) all
      → Named (λ w. IsParameter w d) (if b then f.parameters else parameters_among fs n) all
  among_if whole all f fs n true e it heads others =
      let at : slice_get whole n ≡ Some (an_external (c.Defines it.specifiers it.declarator it.body)) = ap (slice_get whole) (sym (eqb-true f.node n e)) ∙ it.at in
      subst (λ (x : c.Declarator). Named (λ w. IsParameter w x) f.parameters all) (same_declarator (it.specifiers, it.declarator) (heads (an_external (c.Defines it.specifiers it.declarator it.body)) at)) it.parameters
  among_if whole all f fs n false e it heads others = others

  among_named : (whole : List Node) (all : List (List ℕ)) (fs : List Function) (n : ℕ) → AllDefined whole all fs → ((x : Node) → slice_get whole n ≡ Some x → head x ≡ Some (s, d))
      → Named (λ w. IsParameter w d) (parameters_among fs n) all
  among_named whole all [] n defined heads = tt
  among_named whole all (f ∷ fs) n defined heads = among_if whole all f fs n (eqb f.node n) refl defined.0 heads (among_named whole all fs n defined.1 heads)

one_node : (x y : Node) (o : Option Node) → o ≡ Some x → o ≡ Some y → x ≡ y
one_node x y o a b = cc

-- In a unit whose nodes correspond to those of the typed one, what is asked of parameters is good at the starts of bodies.
pub inputs_begin : (own unit : c.Unit) (program : Program) → TypedUnit own program → ((k n : ℕ) → corresponding k (unmarked_numbers unit) (unmarked_numbers own) ≡ Some n → Pair (nodes unit) (nodes own) k n)
    → BodiesBegin unit program C.InputDomain
inputs_begin own unit program known pairs k node is s d body same =
    at_number (corresponding_node unit program k) (ap (λ (u : c.Unit). corresponding k (unmarked_numbers unit) (unmarked_numbers u)) known.own)
  where
    heads : (n : ℕ) → Pair (nodes unit) (nodes own) k n → (x : Node) → slice_get (nodes own) n ≡ Some x → head x ≡ Some (s, d)
    heads n pair x h =
        let second : x ≡ pair.second = one_node x pair.second (slice_get (nodes own) n) h pair.at_second in
        let first : pair.first ≡ an_external (c.Defines s d body) = one_node pair.first node (slice_get (nodes unit) k) pair.at_first is ∙ same in
        ap head second ∙ sym pair.alike ∙ ap head first

    at_number : (found : Option ℕ) → found ≡ corresponding k (unmarked_numbers unit) (unmarked_numbers own)
        → Each (MadeAtStart s d) (flat_map (domains_of_object program) (elim found [ None ↦ [] | Some n ↦ parameters_among program.functions n ]))
    at_number None e = tt
    at_number (Some n) e =
        objects_begin s d program (parameters_among program.functions n)
        (among_named s d (nodes own) (map (λ (o : Object). o.name) program.objects) program.functions n known.defined (heads n (pairs k n (sym e))))
