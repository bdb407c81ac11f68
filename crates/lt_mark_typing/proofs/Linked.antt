-- What declarations ask of names and objects has the same answer where further objects stand among the others.
use Rattle.std.proofs.Common.{◌≡◌, ℕ, zero, suc, List, [], Option, Some, None, Bool, true, false, refl, sym, ap, ◌∙◌, subst}
use Rattle.std.specs.Prelude.{◌++◌, ◌||◌, ◌&&◌, not, option_map, slice_get, slice_set, is_some, if◌then◌else◌}
use Rattle.lt_tree.specs.declared.specifier.Storage.{Storage}
use Rattle.lt_tree.specs.declared.specifier.Storage.TheVariants as storage
use Rattle.lt_tree.specs.Typing.Types.{CType, same, is_function}
use Rattle.lt_tree.specs.Typing.Rules.{broken_if, declared_twice, function_disagrees}
use Rattle.lt_tree.specs.Typing.TypedTree.{Start}
use Rattle.lt_tree.specs.Typing.Entities.{Known, Object, linked, local_static, automatic, is_linked, linked_object, Entity, an_object, a_function, a_typedef, an_enumerator, type_of_object, declared_here, declared_among}
use Rattle.lt_tree.specs.Typing.Operands.{holds}
use Rattle.lt_tree.specs.Typing.Specifying.{is_class}
use Rattle.lt_tree.specs.Typing.Declarators.{Built}
use Rattle.lt_tree.specs.Typing.Declaring.{Kind, a_type_name, a_function_name, an_object_of, kind_of, is_compatible, is_same_typedef, agrees_with_object, is_linked_object, is_initialised, is_declared_twice, is_same_function, is_function_elsewhere, kind_faults, object_faults, named_faults, declaration_faults}
use Rattle.lt_object_laws.specs.Renamed.{renumbered, object_with, start_with}
use Rattle.lt_mark_typing.specs.Renumbered.{entity_with}
use Rattle.lt_mark_typing.specs.Further.{Agrees, HasObjects, no_objects, an_object as one_object, a_further_object}
use Rattle.lt_mark_typing.specs.Beside.{IsBeside}
use Rattle.lt_mark_typing.proofs.Going.{same_of}
use Rattle.lt_mark_typing.proofs.Names.{declared_here_known, file_scope_known}
use Rattle.lt_mark_typing.proofs.ObjectsThere.{number_in, type_known, linked_known}

-- ---- objects by their numbers

-- both objects are there and the same but for their nodes and the numbers in how they start, or neither is there
abbrev pub GotSame : (ℕ → ℕ) → Option Object → Option Object → Type 0
GotSame r None None = Unit {0}
GotSame r (Some x) (Some y) = y ≡ record (object_with r x) { node = y.node }
GotSame r _ _ = ⊥

got_by : {r : ℕ → ℕ} {further : List Bool} {xs ys : List Object} (more : List Bool) → HasObjects r further xs ys → (n : ℕ) → GotSame r (slice_get xs n) (slice_get ys (renumbered (further ++ more) n))
got_by more no_objects n = tt
got_by more (one_object object node d) zero = refl
got_by more (one_object object node d) (suc n) = got_by more d n
got_by more (a_further_object object h d) n = got_by more d n

pub got : {r : ℕ → ℕ} {further : List Bool} {xs ys : List Object} → Agrees r further → HasObjects r further xs ys → (n : ℕ) → GotSame r (slice_get xs n) (slice_get ys (r n))
got {r} {xs = xs} {ys} a d n = subst (λ i. GotSame r (slice_get xs n) (slice_get ys i)) (sym (number_in a n)) (got_by a.extends.more d n)

set_by : {r : ℕ → ℕ} {further : List Bool} {xs ys : List Object} (more : List Bool) → HasObjects r further xs ys → (n : ℕ) (v : Object) (node : ℕ)
    → HasObjects r further (slice_set xs n v) (slice_set ys (renumbered (further ++ more) n) (record (object_with r v) { node = node }))
set_by more no_objects n v node = no_objects
set_by more (one_object object m d) zero v node = one_object v node d
set_by more (one_object object m d) (suc n) v node = one_object object m (set_by more d n v node)
set_by more (a_further_object object h d) n v node = a_further_object object h (set_by more d n v node)

pub set : {r : ℕ → ℕ} {further : List Bool} {xs ys : List Object} → Agrees r further → HasObjects r further xs ys → (n : ℕ) (v : Object) (node : ℕ)
    → HasObjects r further (slice_set xs n v) (slice_set ys (r n) (record (object_with r v) { node = node }))
set {r} {further = further} {xs} {ys} a d n v node =
    subst (λ i. HasObjects r further (slice_set xs n v) (slice_set ys i (record (object_with r v) { node = node }))) (sym (number_in a n)) (set_by a.extends.more d n v node)

-- what is asked of an object, apart from its node and such numbers
holds_same : (r : ℕ → ℕ) (test : Object → Bool) → ((x : Object) (n : ℕ) → test (record (object_with r x) { node = n }) ≡ test x) → (x y : Option Object) → GotSame r x y → holds test y ≡ holds test x
holds_same r test k None None h = refl
holds_same r test k (Some x) (Some y) h = ap test h ∙ k x y.node
holds_same r test k None (Some y) h = absurd h
holds_same r test k (Some x) None h = absurd h

some_same : {A : Type 0} (f : A → A) (found : Option A) → is_some (option_map f found) ≡ is_some found
some_same f None = refl
some_same f (Some it) = refl

module _ {new : ℕ → Bool} {used : List ℕ} {further : List Bool} {k j : Known} (b : IsBeside new used further k j) (r : ℕ → ℕ) (a : Agrees r further) where
  functions_same : j.declared ≡ k.declared
  functions_same = same_of (λ (it : Known). it.declared) b (λ r n os fs ls facts h. refl)

  -- ---- linked objects

  some_linked : (name : List ℕ) → is_some (linked_object name j) ≡ is_some (linked_object name k)
  some_linked name = ap is_some (linked_known b r a name) ∙ some_same r (linked_object name k)

  agrees_by : (t : CType) (found : Option ℕ)
      → elim (option_map r found) as (λ _. Bool) [ None ↦ true | Some n ↦ is_compatible t (type_of_object j n) ] ≡ elim (found) as (λ _. Bool) [ None ↦ true | Some n ↦ is_compatible t (type_of_object k n) ]
  agrees_by t None = refl
  agrees_by t (Some n) = ap (is_compatible t) (type_known b r a n)

  agrees_there : (name : List ℕ) (t : CType) → agrees_with_object j name t ≡ agrees_with_object k name t
  agrees_there name t =
      ap (λ (found : Option ℕ). elim (found) as (λ _. Bool) [ None ↦ true | Some n ↦ is_compatible t (type_of_object j n) ]) (linked_known b r a name) ∙ agrees_by t (linked_object name k)

  start_there : (start : Option Start) → is_some (start_with r start) ≡ is_some start
  start_there None = refl
  start_there (Some start) = refl

  initialised_by : (found : Option ℕ) → holds (λ n. holds (λ object. is_some object.start) (slice_get j.objects n)) (option_map r found) ≡ holds (λ n. holds (λ object. is_some object.start) (slice_get k.objects n)) found
  initialised_by None = refl
  initialised_by (Some n) = holds_same r (λ object. is_some object.start) (λ x m. start_there x.start) (slice_get k.objects n) (slice_get j.objects (r n)) (got a (b.objects r a) n)

  initialised_there : (name : List ℕ) → is_initialised j name ≡ is_initialised k name
  initialised_there name = ap (λ found. holds (λ n. holds (λ object. is_some object.start) (slice_get j.objects n)) found) (linked_known b r a name) ∙ initialised_by (linked_object name k)

  -- ---- what a name is declared as

  entity_there : (entity : Entity) → is_linked_object j (entity_with r entity) ≡ is_linked_object k entity
  entity_there (an_object n is_register) = holds_same r (λ object. is_linked object.life) (λ x m. refl) (slice_get k.objects n) (slice_get j.objects (r n)) (got a (b.objects r a) n)
  entity_there a_function = refl
  entity_there (a_typedef t) = refl
  entity_there (an_enumerator z) = refl

  typedef_there : (t : CType) (entity : Entity) → is_same_typedef t (entity_with r entity) ≡ is_same_typedef t entity
  typedef_there t (an_object n is_register) = refl
  typedef_there t a_function = refl
  typedef_there t (a_typedef u) = refl
  typedef_there t (an_enumerator z) = refl

  function_there : (name : List ℕ) (t : CType) (entity : Entity) → is_same_function j name t (entity_with r entity) ≡ is_same_function k name t entity
  function_there name t (an_object n is_register) = refl
  function_there name t a_function = ap (λ them. holds (same t) (declared_among name them)) functions_same
  function_there name t (a_typedef u) = refl
  function_there name t (an_enumerator z) = refl

  asked : (test there : Entity → Bool) → ((entity : Entity) → there (entity_with r entity) ≡ test entity) → (name : List ℕ) → holds there (declared_here name j) ≡ holds test (declared_here name k)
  asked test there q name = ap (holds there) (declared_here_known b r a name) ∙ by (declared_here name k)
    where
      by : (found : Option Entity) → holds there (option_map (entity_with r) found) ≡ holds test found
      by None = refl
      by (Some entity) = q entity

  some_here : (name : List ℕ) → is_some (declared_here name j) ≡ is_some (declared_here name k)
  some_here name = ap is_some (declared_here_known b r a name) ∙ some_same (entity_with r) (declared_here name k)

  -- ---- two declarations

  object_twice_by : (linkage has_initialiser : Bool) (name : List ℕ) (t : CType)
      → (if linkage then
      not (agrees_with_object j name t) || holds (λ entity. not (is_linked_object j entity)) (declared_here name j) || is_function_elsewhere j name || (has_initialiser && is_initialised j name)
      else is_some (declared_here name j))
      ≡ (if linkage then
      not (agrees_with_object k name t) || holds (λ entity. not (is_linked_object k entity)) (declared_here name k) || is_function_elsewhere k name || (has_initialiser && is_initialised k name)
      else is_some (declared_here name k))
  object_twice_by true has_initialiser name t =
      ap (λ t. not t || holds (λ entity. not (is_linked_object j entity)) (declared_here name j) || is_function_elsewhere j name || (has_initialiser && is_initialised j name)) (agrees_there name t)
      ∙ ap (λ u. not (agrees_with_object k name t) || u || is_function_elsewhere j name || (has_initialiser && is_initialised j name))
      (asked (λ entity. not (is_linked_object k entity)) (λ entity. not (is_linked_object j entity)) (λ entity. ap not (entity_there entity)) name)
      ∙ ap (λ them. not (agrees_with_object k name t) || holds (λ entity. not (is_linked_object k entity)) (declared_here name k) || is_some (declared_among name them) || (has_initialiser && is_initialised j name)) functions_same
      ∙ ap (λ u. not (agrees_with_object k name t) || holds (λ entity. not (is_linked_object k entity)) (declared_here name k) || is_function_elsewhere k name || (has_initialiser && u)) (initialised_there name)
  object_twice_by false has_initialiser name t = some_here name

  twice_there : (kind : Kind) (name : List ℕ) (t : CType) (has_initialiser : Bool) → is_declared_twice j kind name t has_initialiser ≡ is_declared_twice k kind name t has_initialiser
  twice_there a_type_name name t has_initialiser = asked (λ entity. not (is_same_typedef t entity)) (λ entity. not (is_same_typedef t entity)) (λ entity. ap not (typedef_there t entity)) name
  twice_there a_function_name name t has_initialiser =
      ap (λ u. u || is_some (linked_object name j)) (asked (λ entity. not (is_same_function k name t entity)) (λ entity. not (is_same_function j name t entity)) (λ entity. ap not (function_there name t entity)) name)
      ∙ ap (λ u. holds (λ entity. not (is_same_function k name t entity)) (declared_here name k) || u) (some_linked name)
  twice_there (an_object_of life is_register) name t has_initialiser = object_twice_by (is_linked life) has_initialiser name t

  -- ---- the rules of a declarator

  faults_there : (kind : Kind) (name : List ℕ) (t : CType) (has_initialiser : Bool) → kind_faults j kind name t has_initialiser ≡ kind_faults k kind name t has_initialiser
  faults_there a_type_name name t has_initialiser = refl
  faults_there a_function_name name t has_initialiser =
      ap (λ u. broken_if function_disagrees (not u && holds (λ v. not (same t v)) (declared_among name j.declared))) (some_here name)
      ∙ ap (λ them. broken_if function_disagrees (not (is_some (declared_here name k)) && holds (λ v. not (same t v)) (declared_among name them))) functions_same
  faults_there (an_object_of life is_register) name t has_initialiser = same_of (λ (it : Known). object_faults it t has_initialiser) b (λ r n os fs ls facts h. refl)

  named_there : (name : Option (List ℕ)) (kind : Kind) (t : CType) (has_initialiser : Bool) → named_faults j name kind t has_initialiser ≡ named_faults k name kind t has_initialiser
  named_there None kind t has_initialiser = faults_there kind [] t has_initialiser
  named_there (Some name) kind t has_initialiser =
      ap (λ u. broken_if declared_twice u ++ kind_faults j kind name t has_initialiser) (twice_there kind name t has_initialiser)
      ∙ ap (λ l. broken_if declared_twice (is_declared_twice k kind name t has_initialiser) ++ l) (faults_there kind name t has_initialiser)

  pub kind_known : (class : Option Storage) (t : CType) → kind_of j class t ≡ kind_of k class t
  kind_known class t = ap kind_by (file_scope_known b r a)
    where
      kind_by : Bool → Kind
      kind_by in_file =
          if is_class storage.Typedef class then a_type_name
          else (if is_function t then a_function_name
          else an_object_of (if in_file || is_class storage.Extern class then linked else (if is_class storage.Static class then local_static else automatic)) (not in_file && is_class storage.Register class))

  pub declaration_known : (class : Option Storage) (has_initialiser : Bool) (name : Option (List ℕ)) (it : Built) → declaration_faults class has_initialiser name j it ≡ declaration_faults class has_initialiser name k it
  declaration_known class has_initialiser name it =
      ap (λ kind. named_faults j name kind it.type has_initialiser) (kind_known class it.type) ∙ named_there name (kind_of k class it.type) it.type has_initialiser
