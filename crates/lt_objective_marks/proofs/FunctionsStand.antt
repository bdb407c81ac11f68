-- The functions of a typed unit have the numbers of their definitions.
use Rattle.std.proofs.Common.{◌≡◌, refl, sym, ap, ◌∙◌, subst, ℕ, ◌+◌, true, List, [], ◌∷◌, ◌++◌, length, append_assoc}
use Rattle.std.specs.Prelude.{filter_map, unwrap_or}
use Rattle.std.proofs.lemmas.List.{append-nil}
use Rattle.lt_model.specs.declared.scalar.DataModel.{DataModel}
use Rattle.lt_tree.specs.Tree as c
use Rattle.lt_tree.specs.Nodes.{in_external}
use Rattle.lt_tree.specs.Typing.TypedTree.{Items}
use Rattle.lt_tree.specs.Typing.Entities.{Known, Frame, Object, Function, parameter, starting}
use Rattle.lt_tree.specs.Typing.Steps.{Outcome, Goes, Breaks, goes_on, left}
use Rattle.lt_tree.specs.Typing.Specifying.{elsewhere}
use Rattle.lt_tree.specs.Typing.Declarators.{Declares}
use Rattle.lt_tree.specs.Typing.Declaring.{definition_faults}
use Rattle.lt_tree.specs.Typing.ExpressionTyping.{specifiers, declarator}
use Rattle.lt_tree.specs.Typing.StatementTyping.{items}
use Rattle.lt_tree.specs.Typing.UnitTyping.{around_body, objects_of, adds_function, defines, external, externals, defined_in, answer, typing_to, IsProgramTo}
use Rattle.lt_tree.specs.Typing.Programs.{Program, typed, program_of}
use Rattle.lt_tree_laws.specs.Typing.NodeNumbers.{GoesOver, PartsAreNumbered}
use Rattle.lt_mark_typing.specs.Placed.{entered}
use Rattle.lt_mark_typing.specs.PlacedUnits.{in_body}
use Rattle.lt_objective_marks.proofs.Ways.{went_on, through}
use Rattle.lt_objective_marks.proofs.Lasting.{Lasts, Stays, went, broke}
use Rattle.lt_objective_marks.proofs.Lasting as lasting
use Rattle.lt_objective_marks.proofs.LastingUnits as lasting_units
use Rattle.lt_kept_facts.specs.Known.{StandAt}

abbrev None_was : ℕ → Object → Type 0
None_was n o = ⊥

no_parameters : (n : ℕ) (o : Object) → None_was n o → o.life ≡ parameter
no_parameters n o was = absurd was

-- ---- one external

functions_behind : {A : Type 0} {fs : List Function} {o : Outcome A} {a : A} {k : Known} → Stays fs None_was o → o ≡ Goes a k → k.functions ≡ fs
functions_behind {A} {fs} {o} {a} {k} stays is = by (subst (λ o. Stays fs None_was o) is stays)
  where
    by : Stays fs None_was (Goes a k) → k.functions ≡ fs
    by (went h) = h.0

function_added : (fs : List Function) (frames : List Frame) (node : ℕ) (name : List ℕ) (declared : Declares) (o : Outcome Items) (u : Unit {0}) (k : Known) → Stays fs None_was o
    → goes_on (left frames o) (λ inside. adds_function node name declared inside.0) ≡ Goes u k → (f : Function) × (f.node ≡ node) × (k.functions ≡ fs ++ f ∷ [])
function_added fs frames node name declared (Goes it l) u k (went h) goes =
    let f : Function = record { node = node; name = name; type = declared.type; parameters = objects_of declared.parameters; body = it } in
    let same : record l { frames = frames; functions = l.functions ++ f ∷ [] } ≡ k = cc in
    (f, refl, sym (ap (λ (k : Known). k.functions) same) ∙ ap (λ list. list ++ f ∷ []) h.0)
function_added fs frames node name declared (Breaks rule at) u k stays goes = absurd cc

-- a definition adds one function, of its own number
one_defined : (s : c.Specifiers) (d : c.Declarator) (body : c.Items) (known : Known) (u : Unit {0}) (k : Known) → external (c.Defines s d body) known ≡ Goes u k
    → (f : Function) × (f.node ≡ known.next) × (k.functions ≡ known.functions ++ f ∷ [])
one_defined s d body known u k goes =
    let first = went_on (specifiers s elsewhere (entered known)) _ goes in
    let here = functions_behind (lasting.of_specifiers s elsewhere (entered known) (refl, λ n o was. absurd was)) first.2 in
    let behind = through (λ it k. goes_on (declarator d it true (definition_faults it.storage) k) (λ declared. defines known.next (unwrap_or declared.name []) declared body)) goes first.2 in
    let second = went_on (declarator d first.0 true (definition_faults first.0.storage) first.1) _ behind in
    let there = functions_behind (lasting.of_declarator d first.0 true (definition_faults first.0.storage) first.1 (here, λ n o was. absurd was)) second.2 in
    let last = through (λ declared. defines known.next (unwrap_or declared.name []) declared body) behind second.2 in
    let inside = lasting_units.declared_stays no_parameters (unwrap_or second.0.name []) second.0.type second.1 (there, λ n o was. absurd was) in
    function_added known.functions _ known.next (unwrap_or second.0.name []) second.0 (items body (around_body second.0.type) (in_body second.0 second.1)) u k
    (lasting_units.of_items no_parameters body (around_body second.0.type) (in_body second.0 second.1) (inside.0, inside.1)) last

-- a declaration adds none
none_declared : (d : c.Declaration) (known : Known) (u : Unit {0}) (k : Known) → external (c.Declared d) known ≡ Goes u k → k.functions ≡ known.functions
none_declared d known u k goes =
    functions_behind (lasting.bind (lasting_units.of_declaration_by no_parameters (λ class. class) d (entered known) (refl, λ n o was. absurd was)) (λ it k h. lasting.judged known.next it.faults k h)) goes

-- ---- units

module _ (numbered : PartsAreNumbered) where
  next_behind : (x : c.External) (known : Known) (u : Unit {0}) (k : Known) → external x known ≡ Goes u k → k.next ≡ known.next + length (in_external x)
  next_behind x known u k goes = subst (λ o. GoesOver (in_external x) known o) goes (numbered.5 x known)

  found_behind : (xs : List c.External) (known : Known) (u : Unit {0}) (end : Known) → externals xs known ≡ Goes u end → (fs : List Function) × (end.functions ≡ known.functions ++ fs) × StandAt xs known.next fs
  found_behind [] known u end goes = let same : known ≡ end = cc in ([], sym (ap (λ (k : Known). k.functions) same) ∙ sym (append-nil known.functions), tt)
  found_behind (c.Declared d ∷ xs) known u end goes =
      let first = went_on (external (c.Declared d) known) (λ u. externals xs) goes in
      let rest = found_behind xs first.1 u end (through (λ u. externals xs) goes first.2) in
      let same = none_declared d known first.0 first.1 first.2 in
      (rest.0, rest.1 ∙ ap (λ list. list ++ rest.0) same, subst (λ n. StandAt xs n rest.0) (next_behind (c.Declared d) known first.0 first.1 first.2) rest.2)
  found_behind (c.Defines s d body ∷ xs) known u end goes =
      let first = went_on (external (c.Defines s d body) known) (λ u. externals xs) goes in
      let rest = found_behind xs first.1 u end (through (λ u. externals xs) goes first.2) in
      let it = one_defined s d body known first.0 first.1 first.2 in (
        it.0 ∷ rest.0,
        rest.1 ∙ ap (λ list. list ++ rest.0) it.2 ∙ append_assoc known.functions (it.0 ∷ []) rest.0,
        (it.1, subst (λ n. StandAt xs n rest.0) (next_behind (c.Defines s d body) known first.0 first.1 first.2) rest.2),
      )

  functions_at : (unit : c.Unit) (known : Known) (o : Outcome (Unit {0})) (program : Program) → externals unit known ≡ o → known.next ≡ 0 → known.functions ≡ [] → answer unit o ≡ typed program → StandAt unit 0 program.functions
  functions_at unit known (Goes u end) program goes zero none h =
      let it = found_behind unit known u end goes in
      let same : program_of unit end ≡ program = cc in
      let found : it.0 ≡ program.functions = sym (it.1 ∙ ap (λ list. list ++ it.0) none) ∙ ap (λ (p : Program). p.functions) same in
      subst (λ list. StandAt unit 0 list) found (subst (λ n. StandAt unit n it.0) zero it.2)
  functions_at unit known (Breaks rule node) program goes zero none h = absurd cc

  pub functions_stand : (greatest : ℕ) (model : DataModel) (unit : c.Unit) (program : Program) → IsProgramTo greatest model unit program → StandAt unit 0 program.functions
  unfolding typing_to
  functions_stand greatest model unit program is =
      functions_at unit (starting greatest model (filter_map defined_in unit)) (externals unit (starting greatest model (filter_map defined_in unit))) program refl refl refl is
