-- Runs are the same where types have other numbers.
use Rattle.std.proofs.Common.{◌≡◌, ℕ, zero, suc, List, [], ◌∷◌, map, Option, Some, None, Bool, true, false, refl, sym, subst}
use Rattle.std.specs.Prelude.{◌&&◌, not, if◌then◌else◌}
use Rattle.std.specs.List.{AllByRecursion}
use Rattle.std.specs.Str.{bytes_eq}
use Rattle.lt_model.specs.declared.cell.Content.{Content}
use Rattle.lt_model.specs.declared.cell.Content.TheVariants as content
use Rattle.lt_model.specs.declared.cell.Shape.{Shape}
use Rattle.lt_model.specs.declared.input.Input.{Input}
use Rattle.lt_model.specs.declared.run.End.TheVariants.{Stopped, Steps}
use Rattle.lt_tree.specs.Typing.Types.{CType, is_void}
use Rattle.lt_tree.specs.Typing.Entities.{Function}
use Rattle.lt_tree.specs.Typing.Programs.{Program}
use Rattle.lt_ir.specs.declared.variable.Variable.TheVariants.{Parameter}
use Rattle.lt_ir.specs.declared.code.Static.{Static}
use Rattle.lt_ir.specs.Running.{At, Answer, Step, ◌>>◌, gives, seals, statics_of, begin_parameters, end_parameters}
use Rattle.lt_ir.specs.Evaluation.{store_parameters}
use Rattle.lt_ir.specs.Starting.{started, nowhere}
use Rattle.lt_meaning.specs.Expressions.{Calls}
use Rattle.lt_meaning.specs.Statements.{Flow, is_sealed_object}
use Rattle.lt_meaning.specs.Runs.{run, variable_of, initials, stops, without_body, shapes_of, seal_parameters, back, value_of_call, body_of, with_body, function_among, invoke, name_of_object, over_by, begun}
use Rattle.lt_type_laws.specs.Accesses.{AccessesItems}
use Rattle.lt_type_laws.specs.Renumbered.{shape_with, input_with, over_with}
use Rattle.lt_type_laws.specs.TypeLists.{AreOf}
use Rattle.lt_type_laws.proofs.Memory.{Comparison}
use Rattle.lt_type_laws.proofs.Alike.{other, Alike, both_give, both_end, Same, then_same, gives_same, over_same, if_same}
use Rattle.lt_type_laws.proofs.Machine.{tick_same, deeper_same, scope_same, begin_parameters_same, end_parameters_same, store_parameters_same, seals_same, stub_same}
use Rattle.lt_type_laws.proofs.Programs.{IsAlike, shapes_same, shapes_fit}
use Rattle.lt_type_laws.proofs.Statements.{items_same}
use Rattle.lt_type_laws.proofs.Objects.{initials_same, initials_fit}
use Rattle.lt_type_laws.proofs.Roots.{static_with}
use Rattle.lt_type_laws.proofs.Starting.{started_same}

module _ (seen : Comparison) (test : CType → Bool) (P : Program) (ts : List CType) (program_alike : IsAlike seen test P ts) where
  abbrev S : {A : Type 0} → Step A → Step A → Type 0
  S s t = Same seen s t

  abbrev Q : Program
  Q = record P { types = ts }

  abbrev others : List ℕ → List Shape
  others ns = map (shape_with seen.numbers) (shapes_of P ns)

  -- ---- functions

  without_body_same : (name : List ℕ) (t : CType) (b : Bool) → S (without_body name t b) (without_body name t b)
  without_body_same name t b = if_same seen (stops name) _ _ _ _ (over_same seen _ Stopped) (if_same seen (b && not (is_void t)) _ _ _ _ (stub_same seen name) (gives_same seen content.Unset))

  seal_one : (b : Bool) (k : ℕ) → S (if b then seals (Parameter k) else gives (tt {0})) (if b then seals (Parameter k) else gives (tt {0}))
  seal_one b k = if_same seen b (seals (Parameter k)) (gives (tt {0})) (seals (Parameter k)) (gives (tt {0})) (seals_same seen (Parameter k)) (gives_same seen tt)

  seal_same : (k : ℕ) (ns : List ℕ) → S (seal_parameters P k ns) (seal_parameters Q k ns)
  seal_same k [] = gives_same seen tt
  seal_same k (n ∷ ns) = then_same seen _ _ _ _ (seal_one (is_sealed_object P n) k) (λ _. seal_same (suc k) ns)

  -- two calls that do the same
  abbrev AreSame : Calls → Calls → Type 0
  AreSame calls calls' = (f : List ℕ) (t : CType) (cs : List Content) (b : Bool) → Same seen (calls f t cs b) (calls' f t cs b)

  body_same : (calls calls' : Calls) → AreSame calls calls' → (f : Function) → AccessesItems test f.body → S (body_of P calls f) (body_of Q calls' f)
  body_same calls calls' h f of =
      then_same seen _ _ _ _ (seal_same 0 f.parameters) (λ _. then_same seen _ _ _ _ (items_same seen test P ts program_alike (variable_of P f) calls calls' h true f.body of) (λ flow.
      then_same seen _ _ _ _
      (subst (λ shapes. S (end_parameters 0 (shapes_of P f.parameters)) (end_parameters 0 shapes)) (sym (shapes_same seen test P ts program_alike f.parameters)) (end_parameters_same seen 0 (shapes_of P f.parameters)))
      (λ _. gives_same seen flow)))

  back_same : (before : At) → S (back before) (back (other seen before))
  back_same before = record { alike = λ at fits. both_give fits }

  parameters_same : (ns : List ℕ) → S (begin_parameters 0 (shapes_of P ns)) (begin_parameters 0 (shapes_of Q ns))
  parameters_same ns =
      subst (λ shapes. S (begin_parameters 0 (shapes_of P ns)) (begin_parameters 0 shapes)) (sym (shapes_same seen test P ts program_alike ns)) (begin_parameters_same seen 0 (shapes_of P ns) (shapes_fit seen test P ts program_alike ns))

  stores_same : (ns : List ℕ) (cs : List Content) → S (store_parameters P.model 0 (shapes_of P ns) cs) (store_parameters P.model 0 (shapes_of Q ns) cs)
  stores_same ns cs =
      subst (λ shapes. S (store_parameters P.model 0 (shapes_of P ns) cs) (store_parameters P.model 0 shapes cs)) (sym (shapes_same seen test P ts program_alike ns))
      (store_parameters_same seen P.model 0 (shapes_of P ns) cs (shapes_fit seen test P ts program_alike ns))

  with_body_same : (calls calls' : Calls) → AreSame calls calls' → (f : Function) (cs : List Content) → AccessesItems test f.body → S (with_body P calls f cs) (with_body Q calls' f cs)
  with_body_same calls calls' h f cs of = record {
    alike = λ at fits.
        (then_same seen _ _ _ _ (deeper_same seen) (λ _. then_same seen _ _ _ _ (scope_same seen (statics_of at.scope)) (λ _. then_same seen _ _ _ _ (parameters_same f.parameters) (λ _.
        then_same seen _ _ _ _ (stores_same f.parameters cs) (λ _. then_same seen _ _ _ _ (body_same calls calls' h f of) (λ flow. then_same seen _ _ _ _ (back_same at) (λ _. gives_same seen (value_of_call f flow)))))))).alike at fits;
  }

  -- a function that is found gets at memory by types that pass the test
  abbrev FoundAccesses : Option Function → Type 0
  FoundAccesses None = Unit {0}
  FoundAccesses (Some f) = AccessesItems test f.body

  found_access : (name : List ℕ) (fs : List Function) → AllByRecursion (λ (f : Function). AccessesItems test f.body) fs → FoundAccesses (function_among name fs)
  found_access name [] h = tt
  found_access name (f ∷ fs) h = by (bytes_eq f.name name) (found_access name fs h.1)
    where
      by : (b : Bool) → FoundAccesses (function_among name fs) → FoundAccesses (if b then Some f else function_among name fs)
      by true g = h.0
      by false g = g

  found_same : (calls calls' : Calls) → AreSame calls calls' → (name : List ℕ) (t : CType) (cs : List Content) (b : Bool) (found : Option Function) → FoundAccesses found
      → S (elim (found) as (λ _. Step Content) [ None ↦ without_body name t b | Some f ↦ with_body P calls f cs ]) (elim (found) as (λ _. Step Content) [ None ↦ without_body name t b | Some f ↦ with_body Q calls' f cs ])
  found_same calls calls' h name t cs b None of = without_body_same name t b
  found_same calls calls' h name t cs b (Some f) of = with_body_same calls calls' h f cs of

  invoke_same : (n : ℕ) (f : List ℕ) (t : CType) (cs : List Content) (b : Bool) → S (invoke P n f t cs b) (invoke Q n f t cs b)
  invoke_same zero f t cs b = over_same seen _ Steps
  invoke_same (suc n) f t cs b = then_same seen _ _ _ _ (tick_same seen) (λ _. found_same (invoke P n) (invoke Q n) (invoke_same n) f t cs b (function_among f P.functions) (found_access f P.functions program_alike.functions))

  -- ---- runs

  begun_same : (f : Function) (input : Input) → AreOf seen.held input.blocks → S (begun P f input) (begun Q f (input_with seen.numbers input))
  begun_same f input h =
      subst (λ (statics : List Static). S (begun P f input) (started P.model statics (map (name_of_object P) f.parameters) (shapes_of Q f.parameters) (input_with seen.numbers input))) (sym (initials_same seen P ts P.objects program_alike.objects))
      (subst (λ (shapes : List Shape). S (begun P f input) (started P.model (map (static_with seen.numbers) (initials P P.objects)) (map (name_of_object P) f.parameters) shapes (input_with seen.numbers input))) (sym (shapes_same seen test P ts program_alike f.parameters))
      (started_same seen P.model (initials P P.objects) (map (name_of_object P) f.parameters) (shapes_of P f.parameters) input (initials_fit seen P ts P.objects program_alike.objects) (shapes_fit seen test P ts program_alike f.parameters) h))

  over_same_by : (m n : Answer Flow) → Alike seen m n → over_by n ≡ over_with seen.numbers (over_by m)
  over_same_by m n (both_give fits) = refl
  over_same_by m n both_end = refl

  pub run_same : (f : Function) (input : Input) (ticks : ℕ) → AccessesItems test f.body → AreOf seen.held input.blocks → run Q f (input_with seen.numbers input) ticks ≡ over_with seen.numbers (run P f input ticks)
  run_same f input ticks of h =
      over_same_by ((begun P f input >> body_of P (invoke P (suc ticks)) f) (nowhere input ticks)) ((begun Q f (input_with seen.numbers input) >> body_of Q (invoke Q (suc ticks)) f) (nowhere (input_with seen.numbers input) ticks))
      ((then_same seen (begun P f input) (begun Q f (input_with seen.numbers input)) _ _ (begun_same f input h) (λ _. body_same (invoke P (suc ticks)) (invoke Q (suc ticks)) (invoke_same (suc ticks)) f of)).alike (nowhere input ticks) tt)
