-- From a declaration with marks added to its parts: they stand beside those of the unit.
use Rattle.std.proofs.Common.{◌≡◌, ℕ, List, [], ◌∷◌, Option, Some, Bool, true, false, refl, sym, ap, ◌∙◌, subst}
use Rattle.std.specs.Prelude.{if◌then◌else◌, unwrap_or}
use Rattle.std.specs.List.{flat_map}
use Rattle.lt_model.specs.declared.scalar.DataModel.{DataModel}
use Rattle.lt_tree.specs.declared.specifier.Storage.{Storage}
use Rattle.lt_tree.specs.Tree as c
use Rattle.lt_tree.specs.Nodes.{in_specifiers, in_declarator, in_initialiser, in_init_declarator, in_declaration}
use Rattle.lt_tree.specs.Typing.Entities.{Known, Life, is_static, type_of_object}
use Rattle.lt_tree.specs.Typing.Steps.{Goes, goes_on}
use Rattle.lt_tree.specs.Typing.Specifying.{Specified, alone, elsewhere}
use Rattle.lt_tree.specs.Typing.Declarators.{Declares}
use Rattle.lt_tree.specs.Typing.Declaring.{Kind, an_object_of, kind_of, declaration_faults, declare_object}
use Rattle.lt_tree.specs.Typing.ExpressionTyping.{specifiers, declarator}
use Rattle.lt_tree.specs.Typing.DeclarationTyping.{started_object, declare, declare_named, init_declarator, init_declarators, has_no_declarator, left_over}
use Rattle.lt_tree.specs.Typing.Programs.{Program}
use Rattle.lt_typed_nodes.specs.Coming.{ComesTo}
use Rattle.lt_typed_nodes.specs.ComingItems.{DeclarationsAreComeTo}
use Rattle.lt_typed_nodes.specs.Reaching as place
use Rattle.lt_typed_nodes.specs.Reaching.{Piece, IsPart, IsReached, a_part, its_declarators, its_start, more_declarators}
use Rattle.lt_object_laws.specs.Renamed.{renumbered}
use Rattle.lt_mark_typing.specs.Further.{Agrees}
use Rattle.lt_mark_typing.specs.Beside.{IsBeside, Follows}
use Rattle.lt_mark_typing.specs.Placed.{AreOld}
use Rattle.lt_mark_typing.specs.PlacedInitialisers as p
use Rattle.lt_mark_typing.specs.PlacedInitialisers.{AddsToObject, AddsToStartOf, AddsToDeclarators, AddsToDeclaration}
use Rattle.lt_mark_typing.proofs.Numbers.{agrees_so_far}
use Rattle.lt_mark_typing.proofs.Nodes.{old_first, old_second}
use Rattle.lt_mark_typing.proofs.Steps.{Same, SameDeclares, bind_declares_at}
use Rattle.lt_mark_typing.proofs.Unchanged.{of_specifiers, of_declarator}
use Rattle.lt_mark_typing.proofs.ObjectsThere.{type_known}
use Rattle.lt_mark_typing.proofs.Linked.{kind_known, declaration_known}
use Rattle.lt_mark_typing.proofs.Declared.{SameNumber, object_declared}
use Rattle.lt_mark_typing.proofs.Declarations.{declare_if_named, of_init}
use Rattle.lt_mark_typing.proofs.DeclaredAgain.{AddsLocalsWith, of_start_of}
use Rattle.lt_marked_places.proofs.Coming.{ComesToPiece}
use Rattle.lt_marked_places.proofs.Standing as stands
use Rattle.lt_marked_places.proofs.Standing.{Stands}
use Rattle.lt_marked_places.proofs.Both.{IsGone, gone, first_gone, BothGo, both}

-- ---- declarations without new marks

declarators_as_they_are : (new : ℕ → Bool) (used : List ℕ) (it : Specified) (known : Known) (ds : List c.InitDeclarator) → AreOld new (flat_map in_init_declarator ds) → AddsToDeclarators new used used it known ds ds
declarators_as_they_are new used it known [] h = p.no_declarators
declarators_as_they_are new used it known (d ∷ ds) h =
    p.a_declarator (old_first new (in_init_declarator d) (flat_map in_init_declarator ds) h)
    (λ locals next q. declarators_as_they_are new used it next ds (old_second new (in_init_declarator d) (flat_map in_init_declarator ds) h))

pub declaration_as_it_is : {new : ℕ → Bool} {effective : Option Storage → Option Storage} {used : List ℕ} {known : Known} (d : c.Declaration) → AreOld new (in_declaration d) → AddsToDeclaration new effective used used known d d
declaration_as_it_is {new} {effective} {used} d h =
    p.a_declaration (old_first new (in_specifiers d.specifiers) (flat_map in_init_declarator d.declarators) h) refl
    (λ it next q. declarators_as_they_are new used (record it { storage = effective it.storage }) next d.declarators (old_second new (in_specifiers d.specifiers) (flat_map in_init_declarator d.declarators) h))

-- ---- what a declarator declares

abbrev life_in : Life → Kind → Life
life_in life kind = elim (kind) [ an_object_of l is_register ↦ l | _ ↦ life ]

abbrev register_in : Bool → Kind → Bool
register_in is_register kind = elim (kind) [ an_object_of life r ↦ r | _ ↦ is_register ]

name_in : {name other : List ℕ} → Some name ≡ Some other → name ≡ other
name_in {name} e = ap (λ found. unwrap_or found name) e

module _ {new : ℕ → Bool} where
  declarator_again : {used : List ℕ} {further : List Bool} (it : Specified) (has_initialiser : Bool) (d : c.Declarator) {k j : Known} → AreOld new (in_declarator d) → IsBeside new used further k j
      → Follows new used further SameDeclares (declarator d it false (declaration_faults it.storage has_initialiser) k) (declarator d it false (declaration_faults it.storage has_initialiser) j)
  declarator_again it has_initialiser d h b =
      of_declarator d it false (declaration_faults it.storage has_initialiser) (λ name further k j r a b built. declaration_known b r a it.storage has_initialiser name built) h b

  initialised_again : {used between : List ℕ} {further : List Bool} (it : Specified) (d : c.Declarator) (i other : c.Initialiser) {k j : Known} → AreOld new (in_declarator d)
      → ((declared : Declares) (next : Known) → declarator d it false (declaration_faults it.storage true) k ≡ Goes declared next → AddsToStartOf new used between it declared next i other) → IsBeside new used further k j
      → Follows new between further (AddsLocalsWith new) (init_declarator it (record { declarator = d; initialiser = Some i }) k) (init_declarator it (record { declarator = d; initialiser = Some other }) j)
  initialised_again it d i other h f b =
      bind_declares_at (λ declared known. declare_if_named it declared.node declared.type (Some other) known declared.name known) (declarator_again it true d h b)
      (λ declared n parameters m o behind q e s b. of_start_of n it declared i other (f declared m q) b)

  -- the object that a declarator declares
  object_goes : {used : List ℕ} {further : List Bool} (it : Specified) (i : c.Initialiser) (found declared : Declares) {name : List ℕ} {life : Life} {is_register : Bool} {n : ℕ} {k j there : Known}
      → IsGone (declare_named it found (Some i) k) → found.name ≡ Some name → kind_of k it.storage found.type ≡ an_object_of life is_register → declared.type ≡ found.type → IsBeside new used further k j
      → declare_object life is_register declared.node name declared.type j ≡ Goes n there → BothGo new used SameNumber (declare_object life is_register found.node name found.type k) n there
  object_goes it i found declared {name} {life} {is_register} {n} {k} {j} {there} h named kind same b is =
      both (object_declared life is_register found.node declared.node name found.type b)
      (first_gone (declare_object life is_register found.node name found.type k) (λ n. started_object life n (Some i))
      (subst (λ what. IsGone (declare what found.node name found.type (Some i) k)) kind (subst (λ name. IsGone (declare_if_named it found.node found.type (Some i) k name k)) named h)))
      (subst (λ t. declare_object life is_register declared.node name t j ≡ Goes n there) same is)

  object_type : {used : List ℕ} {behind : List Bool} (found n : ℕ) {known there : Known} → ((r : ℕ → ℕ) → Agrees r behind → SameNumber r found n) → IsBeside new used behind known there
      → type_of_object there n ≡ type_of_object known found
  object_type {behind = behind} found n {there = there} s b =
      ap (type_of_object there) (s (renumbered behind) (agrees_so_far behind)) ∙ type_known b (renumbered behind) (agrees_so_far behind) found

module _ (declarations_laws : DeclarationsAreComeTo) (new : ℕ → Bool) (greatest : ℕ) (model : DataModel) (unit : c.Unit) (program : Program)
    (all_come : (it : Piece) (known : Known) → IsReached greatest model unit it known → ComesToPiece program.facts it known) where
  come : {it : Piece} {known : Known} → IsReached greatest model unit it known → ComesToPiece program.facts it known
  come {it} {known} reached = all_come it known reached

  pub declaration_part : {effective : Option Storage → Option Storage} {marked : c.Declaration} {there k : Known} {part : Piece}
      → Stands new greatest model unit (place.a_declaration effective marked) there → IsPart (place.a_declaration effective marked) there part k → Stands new greatest model unit part k
  declaration_part {effective = effective} (stands.a_declaration {used = used} {further = further} {known = known} {there = there} reached (p.a_declaration {s = s} {ds = ds} {es = es} h e f) b) (its_declarators {k = k} is) =
      let first = both (subst (λ t. Follows new used further (Same {A = Specified}) (specifiers s (if has_no_declarator ds then alone else elsewhere) known) (specifiers s (if t then alone else elsewhere) there)) (sym e)
      (of_specifiers s (if has_no_declarator ds then alone else elsewhere) h b))
      (first_gone (specifiers s (if has_no_declarator ds then alone else elsewhere) known)
      (λ it k. goes_on (init_declarators (record it { storage = effective it.storage }) ds k) (λ locals k. Goes (record { locals = locals; faults = left_over ds it }) k)) (gone (come reached))) is in
      subst (λ (it : Specified). Stands new greatest model unit (place.declarators (record it { storage = effective it.storage }) es) k) (sym (first.related (renumbered first.behind) (agrees_so_far first.behind)))
      (stands.declarators (a_part reached (its_declarators first.goes)) (f first.found first.known first.goes) first.beside)

  -- ---- declarators

  declarator_gone : {it : Specified} {d : c.InitDeclarator} {ds : List c.InitDeclarator} {known : Known} → IsReached greatest model unit (place.declarators it (d ∷ ds)) known → ComesTo program.facts known (init_declarator it d known)
  declarator_gone {it} {d} {ds} {known} reached = (declarations_laws.1 program.facts known it (d ∷ ds) (come reached)).0

  -- the object that is declared with this initialiser, in the unit
  declared_there : {it : Specified} {d : c.Declarator} {i : c.Initialiser} {ds : List c.InitDeclarator} {used : List ℕ} {further : List Bool} {known there k j : Known} {declared : Declares} {name : List ℕ} {life : Life} {is_register : Bool} {n : ℕ}
      → IsReached greatest model unit (place.declarators it (record { declarator = d; initialiser = Some i } ∷ ds)) known → AreOld new (in_declarator d) → IsBeside new used further known there
      → declarator d it false (declaration_faults it.storage true) there ≡ Goes declared k → declared.name ≡ Some name → kind_of k it.storage declared.type ≡ an_object_of life is_register
      → declare_object life is_register declared.node name declared.type k ≡ Goes n j
      → (found : Declares) × (next : Known) × (declarator d it false (declaration_faults it.storage true) known ≡ Goes found next) × (found.name ≡ Some name)
      × (kind_of next it.storage found.type ≡ an_object_of life is_register) × BothGo new used SameNumber (declare_object life is_register found.node name found.type next) n j
  declared_there {it} {d} {i} {known = known} {k = k} {declared = declared} reached h b is named kind made =
      let declares = first_gone (declarator d it false (declaration_faults it.storage true) known) (λ declared. declare_named it declared (Some i)) (gone (declarator_gone reached)) in
      let first = both (declarator_again it true d h b) declares is in
      let r = renumbered first.behind in
      let same = first.related r (agrees_so_far first.behind) in
      let name_is = ap (λ (it : Declares). it.name) (sym same) ∙ named in
      let kind_is = sym (kind_known first.beside r (agrees_so_far first.behind) it.storage first.found.type) ∙ ap (λ (other : Declares). kind_of k it.storage other.type) (sym same) ∙ kind in
      let rest = gone (declarations_laws.2 program.facts known it (record { declarator = d; initialiser = Some i }) (declarator_gone reached) first.found first.known first.goes) in
      (first.found, first.known, first.goes, name_is, kind_is, object_goes it i first.found declared rest name_is kind_is (ap (λ (it : Declares). it.type) same) first.beside made)

  -- its initialiser has no new marks, or the object is created where its declaration is reached
  old_start_stands : {it : Specified} {d : c.Declarator} {i : c.Initialiser} {ds : List c.InitDeclarator} {used : List ℕ} {further : List Bool} {known there k j : Known} {declared : Declares} {name : List ℕ} {life : Life} {is_register : Bool} {n : ℕ}
      → IsReached greatest model unit (place.declarators it (record { declarator = d; initialiser = Some i } ∷ ds)) known → AreOld new (in_declarator d) → AreOld new (in_initialiser i) → IsBeside new used further known there
      → declarator d it false (declaration_faults it.storage true) there ≡ Goes declared k → declared.name ≡ Some name → kind_of k it.storage declared.type ≡ an_object_of life is_register
      → declare_object life is_register declared.node name declared.type k ≡ Goes n j → Stands new greatest model unit (place.a_start (is_static life) (type_of_object j n) i) j
  old_start_stands {i = i} {j = j} {life = life} {n = n} reached h old b is named kind made =
      let it = declared_there reached h b is named kind made in
      let object = it.5 in
      subst (λ t. Stands new greatest model unit (place.a_start (is_static life) t i) j) (sym (object_type {behind = object.behind} object.found n {known = object.known} object.related object.beside))
      (stands.an_old_start {further = object.behind} (a_part reached (its_start it.2 it.3 it.4 object.goes)) old object.beside)

  start_stands : {it : Specified} {d : c.Declarator} {i other : c.Initialiser} {ds : List c.InitDeclarator} {used between : List ℕ} {further : List Bool} {known there k j : Known} {declared : Declares} {name : List ℕ} {life : Life} {is_register : Bool} {n : ℕ}
      → IsReached greatest model unit (place.declarators it (record { declarator = d; initialiser = Some i } ∷ ds)) known → AreOld new (in_declarator d)
      → ((declared : Declares) (next : Known) → declarator d it false (declaration_faults it.storage true) known ≡ Goes declared next → AddsToStartOf new used between it declared next i other) → IsBeside new used further known there
      → declarator d it false (declaration_faults it.storage true) there ≡ Goes declared k → declared.name ≡ Some name → kind_of k it.storage declared.type ≡ an_object_of life is_register
      → declare_object life is_register declared.node name declared.type k ≡ Goes n j → Stands new greatest model unit (place.a_start (is_static life) (type_of_object j n) other) j
  start_stands {i = i} {other = other} {j = j} {name = name} {life = life} {is_register = is_register} {n = n} reached h f b is named kind made =
      let it = declared_there reached h b is named kind made in
      let object = it.5 in
      let start = f it.0 it.1 it.2 in
      let what = sym it.4 ∙ start.3 in
      let life_is = ap (life_in life) what in
      let declares = subst (λ l. declare_object l start.1 it.0.node start.0 it.0.type it.1 ≡ Goes object.found object.known) life_is
      (subst (λ u. declare_object life u it.0.node start.0 it.0.type it.1 ≡ Goes object.found object.known) (ap (register_in is_register) what)
      (subst (λ w. declare_object life is_register it.0.node w it.0.type it.1 ≡ Goes object.found object.known) (name_in (sym it.3 ∙ start.2)) object.goes)) in
      subst (λ t. Stands new greatest model unit (place.a_start (is_static life) t other) j) (sym (object_type {behind = object.behind} object.found n {known = object.known} object.related object.beside))
      (subst (λ l. Stands new greatest model unit (place.a_start (is_static l) (type_of_object object.known object.found) other) j) (sym life_is)
      (stands.a_start {further = object.behind} (subst (λ l. IsReached greatest model unit (place.a_start (is_static l) (type_of_object object.known object.found) i) object.known) life_is (a_part reached (its_start it.2 it.3 it.4 object.goes)))
      (start.4 object.found object.known declares) object.beside))

  pub declarators_part : {it : Specified} {marked : List c.InitDeclarator} {there k : Known} {part : Piece}
      → Stands new greatest model unit (place.declarators it marked) there → IsPart (place.declarators it marked) there part k → Stands new greatest model unit part k
  declarators_part (stands.declarators reached (p.a_declarator h f) b) (its_start {d = d} {i = i} is named kind made) =
      old_start_stands reached (old_first new (in_declarator d) (in_initialiser i) h) (old_second new (in_declarator d) (in_initialiser i) h) b is named kind made
  declarators_part (stands.declarators reached (p.an_initialised h f z) b) (its_start is named kind made) = start_stands reached h f b is named kind made
  declarators_part (stands.declarators reached (p.a_declarator {it = it} {d = d} h f) b) (more_declarators is) =
      let first = both (of_init it d h b) (gone (declarator_gone reached)) is in
      stands.declarators (a_part reached (more_declarators first.goes)) (f first.found first.known first.goes) first.beside
  declarators_part (stands.declarators reached (p.an_initialised {it = it} {d = d} {i = i} {j = other} h f z) b) (more_declarators is) =
      let first = both (initialised_again it d i other h f b) (gone (declarator_gone reached)) is in
      stands.declarators (a_part reached (more_declarators first.goes)) (z first.found first.known first.goes) first.beside
  declarators_part (stands.declarators reached p.no_declarators b) part = elim part [ ]
