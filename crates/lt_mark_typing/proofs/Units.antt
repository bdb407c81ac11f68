-- Units with marks added are typed again.
use Rattle.std.proofs.Common.{◌≡◌, ℕ, List, [], ◌∷◌, Option, Some, None, Bool, true, false, refl, sym, ap, ◌∙◌, subst}
use Rattle.std.specs.Prelude.{◌++◌, ◌||◌, map, option_map, filter_map, unwrap_or}
use Rattle.std.specs.List.{list_any}
use Rattle.std.specs.Str.{bytes_eq}
use Rattle.lt_tree.specs.declared.specifier.Storage.{Storage}
use Rattle.lt_tree.specs.declared.specifier.Storage.TheVariants as storage
use Rattle.lt_tree.specs.Tree as c
use Rattle.lt_tree.specs.Typing.Types.{CType}
use Rattle.lt_tree.specs.Typing.Rules.{broken_if, function_disagrees}
use Rattle.lt_tree.specs.Typing.TypedTree.{Items}
use Rattle.lt_tree.specs.Typing.Entities.{Known, Frame, Function, a_function, bind_name, greatest_label_id, starting}
use Rattle.lt_tree.specs.Typing.Steps.{Outcome, Goes, Breaks, left}
use Rattle.lt_tree.specs.Typing.Specifying.{elsewhere, is_class}
use Rattle.lt_tree.specs.Typing.Declarators.{Built, Declares, Parameters}
use Rattle.lt_tree.specs.Typing.Declaring.{declaration_faults, definition_shape_faults, definition_faults, has_body_already, with_declared}
use Rattle.lt_tree.specs.Typing.DeclarationTyping.{DeclaredLocals}
use Rattle.lt_tree.specs.Typing.UnitTyping.{around_body, frame_of, objects_of, defines, external, externals, defined_in, answer, typing_to}
use Rattle.lt_tree.specs.Typing.Programs.{Program, typed, program_of}
use Rattle.lt_mark_laws.specs.Added.{AddsFunctions}
use Rattle.lt_object_laws.specs.Renamed.{renumbered, function_with}
use Rattle.lt_mark_typing.specs.Renumbered.{frame_with, frames_with, parameters_with}
use Rattle.lt_mark_typing.specs.Further.{Agrees, no_objects}
use Rattle.lt_mark_typing.specs.Beside.{no_labels, IsBeside, Follows, goes, breaks}
use Rattle.lt_mark_typing.specs.MarkedPrograms.{AddsBeside}
use Rattle.lt_mark_typing.specs.PlacedItems.{AddsToItems}
use Rattle.lt_mark_typing.specs.PlacedUnits as p
use Rattle.lt_mark_typing.specs.PlacedUnits.{in_body, AddsToExternal, AddsToUnit}
use Rattle.lt_mark_typing.specs.Laws.{UnitsAreTypedAgain}
use Rattle.lt_mark_typing.proofs.Numbers.{agrees_before, agrees_so_far, later}
use Rattle.lt_mark_typing.proofs.Going.{bind, bind_at, goes_here, entered_beside, same_of}
use Rattle.lt_mark_typing.proofs.Names.{frames_known}
use Rattle.lt_mark_typing.proofs.Steps.{Same, bind_same_at, bind_declares_at, judged_same, frames_beside}
use Rattle.lt_mark_typing.proofs.Declarators.{built_with}
use Rattle.lt_mark_typing.proofs.Unchanged.{of_specifiers, of_declarator}
use Rattle.lt_mark_typing.proofs.Linked.{declaration_known}
use Rattle.lt_mark_typing.proofs.Declared.{function_beside}
use Rattle.lt_mark_typing.proofs.Declarations.{of_declaration}
use Rattle.lt_mark_typing.proofs.Statements.{AddsItemsWith, of_items}

-- ---- functions with bodies

module _ (new : ℕ → Bool) (r : ℕ → ℕ) where
  bodies_same : (name : List ℕ) (fs gs : List Function) → AddsFunctions new (map (function_with r) fs) gs → list_any (λ f. bytes_eq f.name name) gs ≡ list_any (λ f. bytes_eq f.name name) fs
  bodies_same name [] [] h = refl
  bodies_same name (f ∷ fs) (g ∷ gs) h = ap (λ n. bytes_eq n name || list_any (λ f. bytes_eq f.name name) gs) (sym h.0.name) ∙ ap (λ b. bytes_eq f.name name || b) (bodies_same name fs gs h.1)
  bodies_same name [] (g ∷ gs) h = absurd h
  bodies_same name (f ∷ fs) [] h = absurd h

  one_more_function : (f g : Function) (fs gs : List Function) → AddsFunctions new (function_with r f ∷ []) (g ∷ []) → AddsFunctions new (map (function_with r) fs) gs
      → AddsFunctions new (map (function_with r) (fs ++ f ∷ [])) (gs ++ g ∷ [])
  one_more_function f g [] [] d h = d
  one_more_function f g (x ∷ fs) (y ∷ gs) d h = (h.0, one_more_function f g fs gs d h.1)
  one_more_function f g [] (y ∷ gs) d h = absurd h
  one_more_function f g (x ∷ fs) [] d h = absurd h

pub frame_there : (r : ℕ → ℕ) (parameters : Option Parameters) → frame_of (option_map (parameters_with r) parameters) ≡ frame_with r (frame_of parameters)
frame_there r None = refl
frame_there r (Some them) = refl

objects_there : (r : ℕ → ℕ) (parameters : Option Parameters) → objects_of (option_map (parameters_with r) parameters) ≡ map r (objects_of parameters)
objects_there r None = refl
objects_there r (Some them) = refl

shape_there : (r : ℕ → ℕ) (it : Built) → definition_shape_faults (built_with r it) ≡ definition_shape_faults it
shape_there r it = by it.parameters
  where
    by : (parameters : Option Parameters) → definition_shape_faults (built_with r (record it { parameters = parameters })) ≡ definition_shape_faults (record it { parameters = parameters })
    by None = refl
    by (Some them) = refl

module _ {new : ℕ → Bool} {used : List ℕ} {further : List Bool} {k j : Known} (b : IsBeside new used further k j) (r : ℕ → ℕ) (g : Agrees r further) where
  body_known : (name : Option (List ℕ)) → has_body_already j name ≡ has_body_already k name
  body_known None = refl
  body_known (Some name) = bodies_same new r name k.functions j.functions (b.functions r g)

  pub definition_known : (class : Option Storage) (name : Option (List ℕ)) (it : Built) → definition_faults class name j (built_with r it) ≡ definition_faults class name k it
  definition_known class name it =
      ap (λ l. l ++ definition_shape_faults (built_with r it) ++ broken_if function_disagrees (is_class storage.Typedef class || has_body_already j name)) (declaration_known b r g class false name it)
      ∙ ap (λ l. declaration_faults class false name k it ++ l ++ broken_if function_disagrees (is_class storage.Typedef class || has_body_already j name)) (shape_there r it)
      ∙ ap (λ t. declaration_faults class false name k it ++ definition_shape_faults it ++ broken_if function_disagrees (is_class storage.Typedef class || t)) (body_known name)

module _ {new : ℕ → Bool} where
  framed : {A : Type 0} {used : List ℕ} {further : List Bool} {R : (ℕ → ℕ) → A → A → Type 0} {o p : Outcome A} (F G : List Frame) → ((r : ℕ → ℕ) → Agrees r further → G ≡ frames_with r F) → Follows new used further R o p
      → Follows new used further (λ r (x y : A × Frame). R r x.0 y.0) (left F o) (left G p)
  framed F G e (goes behind i t b) = goes behind i t (frames_beside F G (λ r g. e r (agrees_before i g)) b)
  framed F G e breaks = breaks

  body_beside : {used : List ℕ} {further : List Bool} (n m : ℕ) (name : List ℕ) (t : CType) (parameters others : List ℕ) (is js : Items) {k j : Known} → ((r : ℕ → ℕ) → Agrees r further → others ≡ map r parameters)
      → ((r : ℕ → ℕ) → Agrees r further → AddsItemsWith new r is js) → IsBeside new used further k j
      → IsBeside new used further (record k { functions = k.functions ++ record { node = n; name = name; type = t; parameters = parameters; body = is } ∷ [] })
      (record j { functions = j.functions ++ record { node = m; name = name; type = t; parameters = others; body = js } ∷ [] })
  body_beside n m name t parameters others is js {k} {j} e d b = record {
    same = λ r g. ap (λ (it : Known). record it { functions = j.functions ++ record { node = m; name = name; type = t; parameters = others; body = js } ∷ [] }) (b.same r g);
    objects = b.objects;
    functions = λ r g. one_more_function new r (record { node = n; name = name; type = t; parameters = parameters; body = is }) (record { node = m; name = name; type = t; parameters = others; body = js }) k.functions j.functions
        (record { name = refl; type = refl; parameters = sym (e r g); body = d r g }, tt) (b.functions r g);
    labels = b.labels;
  }

  pub of_definition : {used after : List ℕ} {further : List Bool} (n m i : ℕ) (it : Declares) (parameters : Option Parameters) (is js : c.Items) {k j : Known} → AddsToItems new used after (around_body it.type) (in_body it k) is js
      → ((r : ℕ → ℕ) → Agrees r further → parameters ≡ option_map (parameters_with r) it.parameters) → IsBeside new used further k j
      → Follows new after further (Same {A = Unit {0}}) (defines n (unwrap_or it.name []) it is k) (defines m (unwrap_or it.name []) (record it { node = i; parameters = parameters }) js j)
  of_definition {used} n m i it parameters is js {k} {j} d e b =
      let name = unwrap_or it.name [] in
      let first : Known = bind_name name a_function (with_declared name it.type k) in
      let second : Known = bind_name name a_function (with_declared name it.type j) in
      let declared = function_beside name it.type b in
      bind (framed first.frames second.frames (λ r g. frames_known declared r g)
      (of_items d (frames_beside (frame_of it.parameters ∷ first.frames) (frame_of parameters ∷ second.frames)
      (λ r g. ap (λ frames. frame_of parameters ∷ frames) (frames_known declared r g) ∙ ap (λ them. frame_of them ∷ frames_with r first.frames) (e r g) ∙ ap (λ frame. frame ∷ frames_with r first.frames) (frame_there r it.parameters)) declared)))
      (λ x y k j behind z t b. goes_here (λ r g. refl)
      (body_beside n m name it.type (objects_of it.parameters) (objects_of parameters) x.0 y.0 (λ r g. ap objects_of (later z e r g) ∙ objects_there r it.parameters) t b))

  -- ---- units

  pub of_external : {used after : List ℕ} {further : List Bool} {k : Known} {x y : c.External} → AddsToExternal new used after k x y → {j : Known} → IsBeside new used further k j
      → Follows new after further (Same {A = Unit {0}}) (external x k) (external y j)
  of_external (p.Defines {known = k} {s} {d} {is} {js} u h f) {j} b =
      bind_same_at (of_specifiers s elsewhere u (entered_beside b)) (λ it m n behind q i b.
      bind_declares_at (λ declared n. defines j.next (unwrap_or declared.name []) declared js n)
      (of_declarator d it true (definition_faults it.storage) (λ name further k j r g b built. definition_known b r g it.storage name built) h b)
      (λ declared i parameters m' n last t l e b. of_definition k.next j.next i declared parameters is js (f it m declared m' q t) e b))
  of_external (p.Declared {known = k} {d} h) {j} b =
      bind (of_declaration (λ class. class) d h (entered_beside b)) (λ it other m n behind i s b.
      judged_same k.next j.next it.faults other.faults (ap (λ (declared : DeclaredLocals). declared.faults) (s (renumbered behind) (agrees_so_far behind))) b)

  of_externals : {used after : List ℕ} {further : List Bool} {k : Known} {xs ys : List c.External} → AddsToUnit new used after k xs ys → {j : Known} → IsBeside new used further k j
      → Follows new after further (Same {A = Unit {0}}) (externals xs k) (externals ys j)
  of_externals p.no_externals b = goes_here (λ r g. refl) b
  of_externals (p.an_external d f) b = bind_at (of_external d b) (λ u v m n behind q i s b. of_externals (f u m q) b)

  -- ---- programs

  answered : {after : List ℕ} (unit marked : c.Unit) (o p : Outcome (Unit {0})) (program : Program) → Follows new after [] (Same {A = Unit {0}}) o p → answer unit o ≡ typed program
      → (other : Program) × (further : List Bool) × (answer marked p ≡ typed other) × AddsBeside new further program other
  answered unit marked (Goes u k) (Goes v j) program (goes behind i s b) h = (
    program_of marked j,
    behind,
    refl,
    subst (λ (it : Program). AddsBeside new behind it (program_of marked j)) (program_is h) (record {
      model = sym (same_of (λ (it : Known). it.model) b (λ r n os fs ls facts h. refl));
      structs = sym (same_of (λ (it : Known). it.structs) b (λ r n os fs ls facts h. refl));
      objects = b.objects (renumbered behind) (agrees_so_far behind);
      functions = b.functions (renumbered behind) (agrees_so_far behind);
    }),
  )
    where
      program_is : typed (program_of unit k) ≡ typed program → program_of unit k ≡ program
      program_is h = cc
  answered unit marked (Goes u k) (Breaks rule node) program d h = elim d [ ]
  answered unit marked (Breaks rule node) p program d h = absurd cc

pub units_again : UnitsAreTypedAgain
unfolding typing_to
units_again new greatest model unit marked after program d e h =
    answered unit marked (externals unit (starting greatest model (filter_map defined_in unit))) (externals marked (starting greatest_label_id model (filter_map defined_in marked))) program
    (subst (λ names. Follows new after [] (Same {A = Unit {0}}) (externals unit (starting greatest model (filter_map defined_in unit))) (externals marked (starting greatest_label_id model names))) (sym e)
    (of_externals d (record { same = λ r g. refl; objects = λ r g. no_objects; functions = λ r g. tt; labels = no_labels }))) h
