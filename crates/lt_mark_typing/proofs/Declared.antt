-- What is declared is the same in both texts, but for the numbers of objects.
use Rattle.std.proofs.Common.{◌≡◌, ℕ, List, [], ◌∷◌, Option, Some, None, Bool, true, false, refl, sym, ap, ◌∙◌, subst}
use Rattle.std.specs.Prelude.{◌++◌, option_map, slice_get, slice_set, unwrap_or, if◌then◌else◌}
use Rattle.lt_tree.specs.Typing.Types.{CType}
use Rattle.lt_tree.specs.Typing.TypedTree.{Start, Local}
use Rattle.lt_tree.specs.Typing.Entities.{Known, Object, Function, Label, Fact, Life, is_linked, linked_object, an_object, a_function, declared_among, bind_name}
use Rattle.lt_tree.specs.Typing.Steps.{gives}
use Rattle.lt_tree.specs.Typing.DeclarationTyping.{created}
use Rattle.lt_tree.specs.Typing.Declaring.{with_declared, declare_function, new_object, object_for, declare_object, with_start}
use Rattle.lt_object_laws.specs.Renamed.{renumbered, start_with, locals_with}
use Rattle.lt_mark_typing.specs.Further.{Agrees, HasObjects}
use Rattle.lt_mark_typing.specs.Beside.{IsBeside, Follows, goes}
use Rattle.lt_mark_typing.proofs.Numbers.{extends_with, agrees_so_far}
use Rattle.lt_mark_typing.proofs.Going.{with_others, bind, goes_here}
use Rattle.lt_mark_typing.proofs.Ends.{at_other}
use Rattle.lt_mark_typing.proofs.ObjectNumbers.{object_beside, object_number}
use Rattle.lt_mark_typing.proofs.Steps.{Same, bound_beside}
use Rattle.lt_mark_typing.proofs.ObjectsThere.{linked_known}
use Rattle.lt_mark_typing.proofs.Linked.{GotSame, got, set}

-- the number of an object
abbrev pub SameNumber : (ℕ → ℕ) → ℕ → ℕ → Type 0
SameNumber r n m = m ≡ r n

abbrev pub SameLocals : (ℕ → ℕ) → List Local → List Local → Type 0
SameLocals r xs ys = ys ≡ locals_with r xs

-- an object of this number, as it was found, with its start
abbrev starting : ℕ → Option Start → CType → Option Object → Known → Known
starting n start t found known = elim (found) [ None ↦ known | Some object ↦ record known { objects = slice_set known.objects n (record object { type = t; start = start }) } ]

-- a function in the list of those that are declared, once
abbrev declared_by : List ℕ → CType → Option CType → Known → Known
declared_by name t found known = elim (found) [ None ↦ record known { declared = known.declared ++ record { name = name; type = t } ∷ [] } | Some u ↦ known ]

number_in : {n m : ℕ} → Some n ≡ Some m → n ≡ m
number_in e = ap (λ found. unwrap_or found 0) e

pub created_with : (r : ℕ → ℕ) (is_there : Bool) (n m : ℕ) (start other : Option Start) → SameNumber r n m → other ≡ start_with r start → SameLocals r (created is_there n start) (created is_there m other)
created_with r true n m start other h g = refl
created_with r false n m start other h g = ap (λ i. record { object = i; start = other } ∷ []) h ∙ ap (λ start. record { object = r n; start = start } ∷ []) g

module _ {new : ℕ → Bool} {used : List ℕ} {further : List Bool} where
  -- ---- functions

  declared_beside : (name : List ℕ) (t : CType) {k j : Known} → IsBeside new used further k j → IsBeside new used further (with_declared name t k) (with_declared name t j)
  declared_beside name t {k} b =
      at_other (λ j. IsBeside new used further (with_declared name t k) (with_declared name t j)) (renumbered further) (agrees_so_far further) b
      (λ n os fs ls facts b. by n os fs ls facts b (declared_among name k.declared))
    where
      by : (n : ℕ) (os : List Object) (fs : List Function) (ls : List Label) (facts : List Fact) → IsBeside new used further k (with_others (renumbered further) k n os fs ls facts) → (found : Option CType)
          → IsBeside new used further (declared_by name t found k) (declared_by name t found (with_others (renumbered further) k n os fs ls facts))
      by n os fs ls facts b (Some u) = b
      by n os fs ls facts b None = record {
        same = λ r a. ap (λ (it : Known). record it { declared = k.declared ++ record { name = name; type = t } ∷ [] }) (b.same r a);
        objects = b.objects;
        functions = b.functions;
        labels = b.labels;
      }

  pub function_beside : (name : List ℕ) (t : CType) {k j : Known} → IsBeside new used further k j → IsBeside new used further (bind_name name a_function (with_declared name t k)) (bind_name name a_function (with_declared name t j))
  function_beside name t b = bound_beside name a_function a_function (λ r a. refl) (declared_beside name t b)

  pub function_declared : (name : List ℕ) (t : CType) {k j : Known} → IsBeside new used further k j → Follows new used further (Same {A = Unit {0}}) (declare_function name t k) (declare_function name t j)
  function_declared name t b = goes_here (λ r a. refl) (function_beside name t b)

  -- ---- objects

  object_made : (life : Life) (n m : ℕ) (name : List ℕ) (t : CType) {k j : Known} → IsBeside new used further k j → Follows new used further SameNumber (new_object life n name t k) (new_object life m name t j)
  object_made life n m name t b =
      goes (further ++ false ∷ []) (extends_with further (false ∷ [])) (object_number b)
      (object_beside (record { node = n; name = name; type = t; life = life; start = None }) (record { node = m; name = name; type = t; life = life; start = None }) (λ r a. refl) b)

  object_found_by : (linkage : Bool) (life : Life) (n m i i' : ℕ) (name : List ℕ) (t : CType) {k j : Known} → ((r : ℕ → ℕ) → Agrees r further → SameNumber r i i') → IsBeside new used further k j
      → Follows new used further SameNumber ((if linkage then gives i else new_object life n name t) k) ((if linkage then gives i' else new_object life m name t) j)
  object_found_by true life n m i i' name t h b = goes_here h b
  object_found_by false life n m i i' name t h b = object_made life n m name t b

  object_found : (found other : Option ℕ) (life : Life) (n m : ℕ) (name : List ℕ) (t : CType) {k j : Known} → ((r : ℕ → ℕ) → Agrees r further → other ≡ option_map r found) → IsBeside new used further k j
      → Follows new used further SameNumber (object_for life n name t found k) (object_for life m name t other j)
  object_found None None life n m name t h b = object_made life n m name t b
  object_found (Some i) (Some i') life n m name t h b = object_found_by (is_linked life) life n m i i' name t (λ r a. number_in (h r a)) b
  object_found None (Some i) life n m name t h b = absurd (none_is (h (renumbered further) (agrees_so_far further)))
    where
      none_is : Some i ≡ None → ⊥
      none_is e = cc
  object_found (Some i) None life n m name t h b = absurd (none_is (h (renumbered further) (agrees_so_far further)))
    where
      none_is : None ≡ Some (renumbered further i) → ⊥
      none_is e = cc

  pub object_declared : (life : Life) (is_register : Bool) (n m : ℕ) (name : List ℕ) (t : CType) {k j : Known} → IsBeside new used further k j
      → Follows new used further SameNumber (declare_object life is_register n name t k) (declare_object life is_register m name t j)
  object_declared life is_register n m name t {k} {j} b =
      bind (object_found (linked_object name k) (linked_object name j) life n m name t (λ r a. linked_known b r a name) b)
      (λ i i' k j behind e s b. goes_here s (bound_beside name (an_object i is_register) (an_object i' is_register) (λ r a. ap (λ n. an_object n is_register) (s r a)) b))

  -- ---- how objects start

  started_by : (n m : ℕ) (start other : Option Start) (t : CType) (x y : Option Object) {k j : Known} → GotSame (renumbered further) x y
      → ((r : ℕ → ℕ) → Agrees r further → SameNumber r n m) → ((r : ℕ → ℕ) → Agrees r further → other ≡ start_with r start) → IsBeside new used further k j
      → IsBeside new used further (starting n start t x k) (starting m other t y j)
  started_by n m start other t None None e h g b = b
  started_by n m start other t (Some x) (Some y) {k} {j} e h g b = record {
    same = λ r a. ap (λ (it : Known). record it { objects = slice_set j.objects m (record y { type = t; start = other }) }) (b.same r a);
    objects = λ r a. subst (λ i. HasObjects r further (slice_set k.objects n (record x { type = t; start = start })) (slice_set j.objects i (record y { type = t; start = other }))) (sym (h r a))
        (subst (λ (o : Object). HasObjects r further (slice_set k.objects n (record x { type = t; start = start })) (slice_set j.objects (r n) o))
        (ap (λ it. record { node = y.node; name = x.name; type = t; life = x.life; start = it }) (sym (g r a)) ∙ sym (ap (λ (o : Object). record o { type = t; start = other }) e))
        (set a (b.objects r a) n (record x { type = t; start = start }) y.node));
    functions = b.functions;
    labels = b.labels;
  }
  started_by n m start other t None (Some y) e h g b = absurd e
  started_by n m start other t (Some x) None e h g b = absurd e

  pub start_beside : (n m : ℕ) (start other : Option Start) (t : CType) {k j : Known} → ((r : ℕ → ℕ) → Agrees r further → SameNumber r n m) → ((r : ℕ → ℕ) → Agrees r further → other ≡ start_with r start)
      → IsBeside new used further k j → IsBeside new used further (with_start n start t k) (with_start m other t j)
  start_beside n m start other t {k} {j} h g b =
      let r = renumbered further in
      let a = agrees_so_far further in
      started_by n m start other t (slice_get k.objects n) (slice_get j.objects m)
      (subst (λ i. GotSame r (slice_get k.objects n) (slice_get j.objects i)) (sym (h r a)) (got a (b.objects r a) n)) h g b
