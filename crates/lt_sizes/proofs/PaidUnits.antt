-- Functions cost no more than their definitions pay, and so lowered code is within its bounds.
use Rattle.std.proofs.Common.{◌≡◌, refl, sym, ap, ◌∙◌, subst, ℕ, zero, suc, ◌*◌, ◌≤◌, Bool, true, false, List, [], ◌∷◌, ◌++◌, length, Option, Some, None, arith, append_assoc, append-nil, length-append, le_trans}
use Rattle.std.specs.Prelude.{slice_get, filter_map, unwrap_or}
use Rattle.std.specs.List.{filter}
use Rattle.lt_tree.specs.Tree as c
use Rattle.lt_tree.specs.Nodes.{Node, an_external, in_specifiers, in_declarator, in_parts, in_parameters, in_parameter_list, in_items, in_external, if_written}
use Rattle.lt_tree.specs.Typing.Types.{CType, adjusted}
use Rattle.lt_tree.specs.Typing.Rules.{Rule}
use Rattle.lt_tree.specs.Typing.Entities.{Known, Function, at_start}
use Rattle.lt_tree.specs.Typing.Steps.{Outcome, Goes, Breaks, goes_on, settle}
use Rattle.lt_tree.specs.Typing.Specifying.{Specified, is_register, elsewhere}
use Rattle.lt_tree.specs.Typing.Declarators.{Built, all_faults, is_written, parameter_faults, binds_parameter}
use Rattle.lt_tree.specs.Typing.NodeEnds.{end_of_declarator, enter_if}
use Rattle.lt_tree.specs.Typing.ExpressionTyping.{specifiers, declarator, parts, parameters, parameter_list, maybe}
use Rattle.lt_tree.specs.Typing.Declaring.{definition_faults}
use Rattle.lt_tree.specs.Typing.Programs.{Program, typed, program_of}
use Rattle.lt_tree.specs.Typing.UnitTyping.{around_body, objects_of, external, externals, defined_in, answer, typing_to}
use Rattle.lt_ir.specs.declared.code.Code.{Code}
use Rattle.lt_code.specs.Sizes.{is_definition, definitions, letters_in_items}
use Rattle.lt_code.specs.Bounds.{HasLoopHeads}
use Rattle.lt_code.specs.Costs.{alone, of_items, of_function}
use Rattle.lt_sizes.specs.Laws.{FrugalGraphsAreBounded}
use Rattle.lt_sizes.proofs.Among as among
use Rattle.lt_sizes.proofs.Texts.{count, IsWhole, count_both}
use Rattle.lt_sizes.proofs.WholeTexts.{specifiers_whole, declarator_whole, parameters_whole, parts_whole}
use Rattle.lt_sizes.proofs.WholeTexts as whole
use Rattle.lt_sizes.proofs.Walks.{Gives, bind, skip, so}
use Rattle.lt_sizes.proofs.Walks as walks
use Rattle.lt_sizes.proofs.Payments.{IsPaidBy, side_by_side, behind_text, node_pays, same_cost}
use Rattle.lt_sizes.proofs.PaidDeclarations.{of_declarator}
use Rattle.lt_sizes.proofs.PaidStatements.{of_items_of}
use Rattle.lt_sizes.proofs.FunctionsStay.{Stays, judged, framed}
use Rattle.lt_sizes.proofs.FunctionsStay as stay
use Rattle.lt_sizes.proofs.FunctionsStayInBodies.{declared_stays}
use Rattle.lt_sizes.proofs.FunctionsStayInBodies as bodies

-- ---- parameters: each has a declarator

of_binding : (is_definition is_register : Bool) (node : ℕ) (name : Option (List ℕ)) (t : CType) (ns : List Node) (known : Known) → ((w : List ℕ) → name ≡ Some w → 1 ≤ count ns)
    → Gives (λ objects. length objects ≤ count ns) (binds_parameter is_definition is_register node name t known)
of_binding is_definition is_register node None t ns known h = walks.went (omega arith)
of_binding is_definition is_register node (Some w) t ns known h = walks.went (omega (arith, h w refl))

parameter_before : (xs ys : List ℕ) (s d rest : List Node) → IsWhole s → IsWhole d → length xs ≤ count d → length ys ≤ count rest → length (xs ++ ys) ≤ count (s ++ d ++ rest)
parameter_before xs ys s d rest v w h i =
    rw (count_both (s ++ d) rest (whole.two s d v w), count_both s d v, length-append) (omega arith)

of_list : (list : c.ParameterList) (is_definition : Bool) (known : Known) → Gives (λ them. length them.objects ≤ count (in_parameter_list list)) (parameter_list list is_definition known)
of_list c.no_parameters is_definition known = walks.went (omega arith)
of_list (c.a_parameter s d rest) is_definition known =
    skip (specifiers s elsewhere known) (λ it k. bind (of_declarator d it false (parameter_faults is_definition) k)
    (λ declared k h. bind (of_binding is_definition (is_register it) declared.node declared.name (adjusted declared.type) (in_declarator d) k h.has_node)
    (λ objects k i. bind (of_list rest is_definition k)
    (λ others k j. walks.went (parameter_before objects others.objects (in_specifiers s) (in_declarator d) (in_parameter_list rest) (specifiers_whole s) (declarator_whole d) i j)))))

of_parameters : (them : c.Parameters) (is_definition : Bool) (known : Known) → Gives (λ it. length it.objects ≤ count (in_parameters them)) (parameters them is_definition known)
of_parameters c.Unstated is_definition known = walks.went (omega arith)
of_parameters c.Void is_definition known = walks.went (omega arith)
of_parameters (c.Listed list) is_definition known = of_list list is_definition known
of_parameters (c.Open list) is_definition known = bind (of_list list is_definition known) (λ them k h. walks.went h)

of_parts : (them : c.Parts) (t : CType) (is_definition is_outermost : Bool) (known : Known) → Gives (λ b. length (objects_of b.parameters) ≤ count (in_parts them)) (parts them t is_definition is_outermost known)
of_parts c.no_parts t is_definition is_outermost known = walks.went (omega arith)
of_parts (c.Pointer q rest) t is_definition is_outermost known = skip (parts rest t false false known) (λ inner k. walks.went (omega arith))
of_parts (c.Array length rest) t is_definition is_outermost known = skip (maybe length known) (λ n k. skip (parts rest t false false k) (λ inner k. walks.went (omega arith)))
of_parts (c.Function them rest) t is_definition is_outermost known =
    bind (walks.scoped _ (of_parameters them is_definition _)) (λ found k h. skip (parts rest t false false k)
    (λ inner k. walks.went (rw (count_both (in_parameters them) (in_parts rest) (parameters_whole them)) (omega arith))))

ended : (d : List Node) (node : Option ℕ) (name : Option (List ℕ)) (b : Built) (faults : List Rule) (known : Known) → length (objects_of b.parameters) ≤ count d
    → Gives (λ it. length (objects_of it.parameters) ≤ count d) (end_of_declarator node name b faults known)
ended d None name b faults known h = walks.went h
ended d (Some node) name b faults known h = skip (settle node faults known) (λ u k. walks.went h)

of_definition : (d : c.Declarator) (it : Specified) (judge : Option (List ℕ) → Known → Built → List Rule) (known : Known)
    → Gives (λ declared. length (objects_of declared.parameters) ≤ count (in_declarator d)) (declarator d it true judge known)
of_definition (c.declarator name ps) it judge known =
    skip (enter_if (is_written name ps) known) (λ node k. bind (of_parts ps it.type true true k)
    (λ b k h. ended _ node name b (all_faults it b (judge name k b)) k (rw (count_both (if_written name ps) (in_parts ps) (whole.written_whole name ps)) (omega arith))))

-- ---- functions and their definitions, one behind the other

abbrev IsPaidFunction : List Function → c.External → Function → Type 0
IsPaidFunction all d f = IsPaidBy all (in_external d) (letters_in_items f.body) (of_function all f)

data AreAligned (all : List Function) : List c.External → List Function → Type 0 where
  none : AreAligned all [] []
  one : {d : c.External} {ds : List c.External} {f : Function} {fs : List Function} → IsPaidFunction all d f → AreAligned all ds fs → AreAligned all (d ∷ ds) (f ∷ fs)

at_place : {all : List Function} {ds : List c.External} {fs : List Function} (k : ℕ) (d : c.External) (f : Function) → AreAligned all ds fs → slice_get ds k ≡ Some d → slice_get fs k ≡ Some f
    → IsPaidFunction all d f
at_place {all} k d f none h i = absurd cc
at_place {all} zero d f (one {d = d'} {f = f'} p ps) h i = let j : d' ≡ d = cc in let k : f' ≡ f = cc in subst (λ x. IsPaidFunction all d x) k (subst (λ x. IsPaidFunction all x f') j p)
at_place {all} (suc k) d f (one p ps) h i = at_place k d f ps h i

-- the functions behind a walk: those before, and others of these definitions
data Adds {A : Type 0} (all fs : List Function) (ds : List c.External) : Outcome A → Type 0 where
  went : {a : A} {known : Known} (more : List Function) → known.functions ≡ fs ++ more → AreAligned all ds more → Adds all fs ds (Goes a known)
  broke : {rule : Rule} {node : ℕ} → Adds all fs ds (Breaks rule node)

module _ (all : List Function) where
  after_stays : {A B : Type 0} {fs : List Function} {ds : List c.External} {o : Outcome A} {rest : A → Known → Outcome B} → Stays fs o
      → ((a : A) (known : Known) → known.functions ≡ fs → Adds all fs ds (rest a known)) → Adds all fs ds (goes_on o rest)
  after_stays (stay.went {a} {known} h) f = f a known h
  after_stays stay.broke f = broke

  after_both : {A B : Type 0} {P : A → Type 0} {fs : List Function} {ds : List c.External} {o : Outcome A} {rest : A → Known → Outcome B} → Gives P o → Stays fs o
      → ((a : A) (known : Known) → P a → known.functions ≡ fs → Adds all fs ds (rest a known)) → Adds all fs ds (goes_on o rest)
  after_both (walks.went {a} {known} p) (stay.went h) f = f a known p h
  after_both walks.broke stay.broke f = broke

  none_added : {A : Type 0} {fs : List Function} {o : Outcome A} → Stays fs o → Adds all fs [] o
  none_added {fs = fs} (stay.went h) = went [] (h ∙ sym (append-nil fs)) none
  none_added stay.broke = broke

  parameters_pay : {n : ℕ} (ns : List Node) → n ≤ count ns → IsPaidBy all ns 0 (alone (3 * n))
  parameters_pay ns h = record { nodes = omega arith; registers = omega arith; loops = omega arith; among = among.nothing _ }

  -- the definition of a function pays for its parameters, its two returns and its body
  definition_pays : (s : c.Specifiers) (d : c.Declarator) (body : c.Items) (f : Function) → length f.parameters ≤ count (in_declarator d) → IsPaidBy all (in_items body) (letters_in_items f.body) (of_items all f.body)
      → IsPaidFunction all (c.Defines s d body) f
  definition_pays s d body f h p =
      let front = behind_text (in_specifiers s) (in_declarator d) (specifiers_whole s) (parameters_pay (in_declarator d) h) in
      let all_text = side_by_side (in_specifiers s ++ in_declarator d) (in_items body) (whole.two _ _ (specifiers_whole s) (declarator_whole d)) front p in
      same_cost {a = of_function all f} refl refl refl refl (omega arith)
      (node_pays (an_external (c.Defines s d body)) _ refl all_text (record { nodes = omega arith; registers = omega arith; loops = omega arith; calls = refl }))

  one_added : {fs : List Function} {ds : List c.External} (f : Function) (known : Known) → known.functions ≡ fs → AreAligned all ds (f ∷ [])
      → Adds {A = Unit {0}} all fs ds (Goes tt (record known { functions = known.functions ++ f ∷ [] }))
  one_added f known h p = went (f ∷ []) (ap (λ gs. gs ++ f ∷ []) h) p

  of_external : (x : c.External) (fs : List Function) (known : Known) → known.functions ≡ fs → Adds all fs (filter is_definition (x ∷ [])) (external x known)
  of_external (c.Declared d) fs known h =
      none_added (stay.bind (bodies.of_declaration_by (λ class. class) d _ h) (λ it k h. judged known.next it.faults k h))
  of_external (c.Defines s d body) fs known h =
      after_stays (stay.of_specifiers s elsewhere _ h) (λ it k h. after_both (of_definition d it (definition_faults it.storage) k) (stay.of_declarator d it true (definition_faults it.storage) k h)
      (λ declared k i h. let name : List ℕ = unwrap_or declared.name [] in
      after_both (walks.framed _ (of_items_of all body (around_body declared.type) _)) (framed _ (bodies.of_items body (around_body declared.type) _ (declared_stays name declared.type k h)))
      (λ found k p h. let f : Function = record { node = known.next; name = name; type = declared.type; parameters = objects_of declared.parameters; body = found.0 } in
      one_added f k h (one (definition_pays s d body f i p) none))))

  aligned_both : {ds es : List c.External} {fs gs : List Function} → AreAligned all ds fs → AreAligned all es gs → AreAligned all (ds ++ es) (fs ++ gs)
  aligned_both none q = q
  aligned_both (one p ps) q = one p (aligned_both ps q)

  then_adds : {A : Type 0} {fs : List Function} {ds es : List c.External} {o : Outcome A} (more : List Function) → AreAligned all ds more → Adds all (fs ++ more) es o → Adds all fs (ds ++ es) o
  then_adds {fs = fs} more p (went others h q) = went (more ++ others) (h ∙ append_assoc fs more others) (aligned_both p q)
  then_adds more p broke = broke

  and_then : {A B : Type 0} {fs : List Function} {ds es : List c.External} {o : Outcome A} {rest : A → Known → Outcome B} → Adds all fs ds o
      → ((a : A) (known : Known) (more : List Function) → known.functions ≡ fs ++ more → Adds all (fs ++ more) es (rest a known)) → Adds all fs (ds ++ es) (goes_on o rest)
  and_then (went {a} {known} more h p) f = then_adds more p (f a known more h)
  and_then broke f = broke

  of_externals : (xs : List c.External) (fs : List Function) (known : Known) → known.functions ≡ fs → Adds all fs (definitions xs) (externals xs known)
  of_externals [] fs known h = went [] (h ∙ sym (append-nil fs)) none
  of_externals (c.Defines s d body ∷ xs) fs known h = and_then (of_external (c.Defines s d body) fs known h) (λ u k more i. of_externals xs (fs ++ more) k i)
  of_externals (c.Declared d ∷ xs) fs known h = and_then (of_external (c.Declared d) fs known h) (λ u k more i. of_externals xs (fs ++ more) k i)

-- ---- programs

behind : (unit : c.Unit) (known : Known) {a : Unit {0}} → Adds known.functions [] (definitions unit) (Goes a known) → AreAligned known.functions (definitions unit) known.functions
behind unit known (went more h p) = subst (λ fs. AreAligned known.functions (definitions unit) fs) (sym h) p

heads_within : {few most : ℕ} (code : Code) → HasLoopHeads code few → few ≤ most → HasLoopHeads code most
heads_within code h i = record { heads = h.heads; few = le_trans h.few i; each = h.each }

answered : (unit : c.Unit) (o : Outcome (Unit {0})) (program : Program) → ((all : List Function) → Adds all [] (definitions unit) o) → answer unit o ≡ typed program → AreAligned program.functions (definitions unit) program.functions
answered unit (Goes a known) program adds is =
    let it : program_of unit known ≡ program = cc in
    subst (λ p. AreAligned p.functions (definitions unit) p.functions) it (behind unit known (adds known.functions))
answered unit (Breaks rule node) program adds is = absurd cc

pub frugal_graphs_are_bounded : FrugalGraphsAreBounded
unfolding typing_to
frugal_graphs_are_bounded program graph frugal is k definition f code h i j =
    let aligned = answered program.unit (externals program.unit (at_start program.model (filter_map defined_in program.unit))) program
    (λ all. of_externals all program.unit [] (at_start program.model (filter_map defined_in program.unit)) refl) is in
    let paid = at_place k definition f aligned h i in
    let cost = frugal k f code i j in
    record { nodes = omega arith; registers = omega arith; calls = among.no_more_calls code _ (λ g. le_trans (cost.calls g) (among.times_within g paid.among)); start = cost.start; entered_once = cost.entered_once; heads = heads_within code cost.heads paid.loops }
