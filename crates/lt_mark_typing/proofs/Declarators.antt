-- Declarators and marks end alike in both texts, and parameters are bound alike but for their numbers.
use Rattle.std.proofs.Common.{◌≡◌, ℕ, List, [], ◌∷◌, Option, Some, None, Bool, true, false, refl, sym, ap, ◌∙◌, subst}
use Rattle.std.specs.Prelude.{◌++◌, length, map, if◌then◌else◌, option_map}
use Rattle.lt_tree.specs.Tree as c
use Rattle.lt_tree.specs.Typing.Types.{CType}
use Rattle.lt_tree.specs.Typing.Rules.{Rule, unless, bad_mark}
use Rattle.lt_tree.specs.Typing.TypedTree as e
use Rattle.lt_tree.specs.Typing.Entities.{Known, an_object, unmade, parameter}
use Rattle.lt_tree.specs.Typing.Steps.{gives, adds_label, ◌>>◌}
use Rattle.lt_tree.specs.Typing.Expressions.{Typed, value_in}
use Rattle.lt_tree.specs.Typing.MarkRules.{TypedBinding, names_of, number_of_id, is_good_mark, label_of, bindings_of}
use Rattle.lt_tree.specs.Typing.Declarators.{Built, declares, no_parameters_yet, binds_parameter}
use Rattle.lt_tree.specs.Typing.NodeEnds.{end_of_mark, end_of_declarator, enter_if, without_parameters}
use Rattle.lt_object_laws.specs.Renamed.{renumbered, value_with, mark_with}
use Rattle.lt_mark_typing.specs.Renumbered.{typed_with, parameters_with}
use Rattle.lt_mark_typing.specs.Further.{Agrees}
use Rattle.lt_mark_typing.specs.Beside.{IsBeside, Follows, goes}
use Rattle.lt_mark_typing.proofs.Numbers.{extends_with, agrees_so_far}
use Rattle.lt_mark_typing.proofs.Going.{goes_here, settled, entered_beside}
use Rattle.lt_mark_typing.proofs.Operators.{unless_more}
use Rattle.lt_mark_typing.proofs.Renumbering.{value_in_with}
use Rattle.lt_mark_typing.proofs.Names.{innermost_known}
use Rattle.lt_mark_typing.proofs.ObjectNumbers.{object_beside, object_number}
use Rattle.lt_mark_typing.proofs.OneOperand.{typed_binding_with, bindings_of_with}
use Rattle.lt_mark_typing.proofs.Labels.{good_mark, good_mark_with, names_with}
use Rattle.lt_mark_typing.proofs.Steps.{SameDeclares, bound_beside, label_beside}

-- what a declarator's parts make, where objects have the numbers that r gives
abbrev pub built_with : (ℕ → ℕ) → Built → Built
built_with r it = record it { parameters = option_map (parameters_with r) it.parameters }

-- both are nodes, or neither is
abbrev pub BothNodes : Option ℕ → Option ℕ → Type 0
BothNodes None None = Unit {0}
BothNodes (Some n) (Some m) = Unit {0}
BothNodes _ _ = ⊥

module _ {new : ℕ → Bool} {used : List ℕ} {further : List Bool} where
  -- ---- declarators

  pub may_enter : (written : Bool) {k j : Known} → IsBeside new used further k j → Follows new used further (λ r x y. BothNodes x y) (enter_if written k) (enter_if written j)
  may_enter true b = goes_here (λ r a. tt) (entered_beside b)
  may_enter false b = goes_here (λ r a. tt) b

  pub declarator_ended : (x y : Option ℕ) (name : Option (List ℕ)) (it other : Built) (xs ys : List Rule) {k j : Known} → BothNodes x y → ((r : ℕ → ℕ) → Agrees r further → other ≡ built_with r it) → ys ≡ xs
      → IsBeside new used further k j → Follows new used further SameDeclares (end_of_declarator x name it xs k) (end_of_declarator y name other ys j)
  declarator_ended None None name it other xs ys n h q b = goes_here (λ r a. ap (declares 0 name other) q ∙ ap (λ (built : Built). declares 0 name built xs) (h r a)) b
  declarator_ended (Some n) (Some m) name it other xs ys u h q b = settled (λ u. gives (declares n name it [])) (λ u. gives (declares m name other [])) n m xs ys (λ r. q ∙ r)
      (goes_here (λ r a. ap (λ (built : Built). declares m name built []) (h r a)) b)
  declarator_ended None (Some m) name it other xs ys n h q b = absurd n
  declarator_ended (Some n) None name it other xs ys u h q b = absurd u

  -- ---- parameters

  pub parameter_bound : (is_definition is_register : Bool) (n m : ℕ) (name : Option (List ℕ)) (t : CType) {k j : Known} → IsBeside new used further k j
      → Follows new used further (λ r xs ys. ys ≡ map r xs) (binds_parameter is_definition is_register n name t k) (binds_parameter is_definition is_register m name t j)
  parameter_bound is_definition is_register n m None t b = goes_here (λ r a. refl) b
  parameter_bound is_definition is_register n m (Some name) t {k} {j} b =
      goes (further ++ false ∷ []) (extends_with further (false ∷ [])) (λ r a. ap (λ i. i ∷ []) (object_number b r a))
      (bound_beside name (an_object (length k.objects) is_register) (an_object (length j.objects) is_register) (λ r a. ap (λ i. an_object i is_register) (object_number b r a))
      (object_beside (record { node = n; name = name; type = t; life = if is_definition then parameter else unmade; start = None }) (record { node = m; name = name; type = t; life = if is_definition then parameter else unmade; start = None }) (λ r a. refl) b))

  pub no_more_parameters : {k j : Known} → IsBeside new used further k j → Follows new used further (λ r xs ys. ys ≡ parameters_with r xs) (without_parameters k) (without_parameters j)
  no_more_parameters b = goes_here (λ r a. ap no_parameters_yet (innermost_known b r a)) b

  -- ---- marks

  pub mark_ended : (n m : ℕ) (written : c.Expression) (x y : Typed) (id tag : List ℕ) (xs ys : List TypedBinding) {k j : Known} → new (number_of_id id) ≡ false
      → ((r : ℕ → ℕ) → Agrees r further → y ≡ typed_with r x) → ((r : ℕ → ℕ) → Agrees r further → ys ≡ map (typed_binding_with r) xs) → IsBeside new used further k j
      → Follows new used further (λ r v w. w ≡ mark_with r v) (end_of_mark n written x id tag xs k) (end_of_mark m written y id tag ys j)
  mark_ended n m written x y id tag xs ys {k} {j} h p q b =
      settled (λ u. adds_label (label_of id tag (names_of xs)) >> gives (e.mark (value_in x) (number_of_id id) (bindings_of xs))) (λ u. adds_label (label_of id tag (names_of ys)) >> gives (e.mark (value_in y) (number_of_id id) (bindings_of ys)))
      n m (unless (is_good_mark k written x id tag xs) bad_mark) (unless (is_good_mark j written y id tag ys) bad_mark)
      (unless_more bad_mark (is_good_mark k written x id tag xs) (is_good_mark j written y id tag ys) (λ good. good_mark b written y id tag ys h (same_mark ∙ good)))
      (goes_here made (subst (λ names. IsBeside new used further (record k { labels = k.labels ++ label_of id tag (names_of xs) ∷ [] }) (record j { labels = j.labels ++ label_of id tag names ∷ [] })) (sym same_names)
      (label_beside (label_of id tag (names_of xs)) h b)))
    where
      same_mark : is_good_mark k written y id tag ys ≡ is_good_mark k written x id tag xs
      same_mark = ap (λ it. is_good_mark k written it id tag ys) (p (renumbered further) (agrees_so_far further))
          ∙ ap (is_good_mark k written (typed_with (renumbered further) x) id tag) (q (renumbered further) (agrees_so_far further)) ∙ good_mark_with (renumbered further) k written x id tag xs

      same_names : names_of ys ≡ names_of xs
      same_names = ap names_of (q (renumbered further) (agrees_so_far further)) ∙ names_with (renumbered further) xs

      made : (r : ℕ → ℕ) → Agrees r further → e.mark (value_in y) (number_of_id id) (bindings_of ys) ≡ mark_with r (e.mark (value_in x) (number_of_id id) (bindings_of xs))
      made r a = ap (λ v. e.mark v (number_of_id id) (bindings_of ys)) (ap value_in (p r a) ∙ value_in_with r x)
          ∙ ap (e.mark (value_with r (value_in x)) (number_of_id id)) (ap bindings_of (q r a) ∙ bindings_of_with r xs)
