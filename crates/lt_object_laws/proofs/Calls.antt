-- Calls do the same beside further objects.
use Rattle.std.proofs.Common.{◌≡◌, ℕ, zero, suc, List, [], ◌∷◌, map, length, Option, Some, None, Bool, true, false, refl, sym, ap, ◌∙◌, subst}
use Rattle.std.proofs.Math.Nat.{le_refl}
use Rattle.std.specs.Prelude.{◌&&◌, not, if◌then◌else◌, codes}
use Rattle.std.specs.Str.{bytes_eq}
use Rattle.lt_model.specs.declared.cell.Content.{Content}
use Rattle.lt_model.specs.declared.cell.Content.TheVariants as content
use Rattle.lt_model.specs.declared.run.End.TheVariants.{Stopped, Steps}
use Rattle.lt_model.specs.Memory.{Memory}
use Rattle.lt_tree.specs.Tree.{Unit as SourceUnit}
use Rattle.lt_tree.specs.Typing.Types.{CType, Void, Num, Pointer, Array, Struct, Function as FunctionType, Floating, Qualified, is_void}
use Rattle.lt_tree.specs.Typing.Entities.{Function, Label, Fact, Declared, Frame, Object}
use Rattle.lt_tree.specs.Typing.Programs.{Program}
use Rattle.lt_ir.specs.declared.variable.Variable.{Variable}
use Rattle.lt_ir.specs.declared.variable.Variable.TheVariants.{Parameter, Local, Static as StaticObject}
use Rattle.lt_ir.specs.Running.{Bound, At, Step, ◌>>=◌, ◌>>◌, gives, one_deeper, seals, with_scope, statics_of, begin_parameters, end_parameters}
use Rattle.lt_ir.specs.Evaluation.{store_parameters}
use Rattle.lt_meaning.specs.Expressions.{Calls}
use Rattle.lt_meaning.specs.Statements.{Flow, Next, Breaks, Continues, Returns, is_sealed_object}
use Rattle.lt_meaning.specs.Runs.{variable_of, stops, without_body, shapes_of, seal_parameters, back, zero_in, zero_of_result, value_at_end, value_of_call, body_of, with_body, function_among, call_of, invoke}
use Rattle.lt_object_laws.specs.Renamed.{renumbered, function_with}
use Rattle.lt_object_laws.specs.Beside.{content_with}
use Rattle.lt_object_laws.specs.Further.{HasFurther, further_statics}
use Rattle.lt_object_laws.proofs.Memory.{option_with}
use Rattle.lt_object_laws.proofs.Blocks.{Grows, then_grows, gives_grows, deeper_grows}
use Rattle.lt_object_laws.proofs.Alike.{Other, Comparison, as_it_is, content_in, contents_in, variable_in, beside, Stands, all_give, Same, then_same, gives_same, gives_as, over_same, if_same}
use Rattle.lt_object_laws.proofs.Machine.{tick_same, deeper_same, scope_same, statics_in, there_statics, begin_parameters_same, end_parameters_same, store_parameters_same, seals_same, stub_same}
use Rattle.lt_object_laws.proofs.Objects as objects
use Rattle.lt_object_laws.proofs.Objects.{types_same, seals_as, shapes_same, variable_same}
use Rattle.lt_object_laws.proofs.Statements.{flow_in, items_same}

-- ---- values at the end of a call

zero_as : (r : ℕ → ℕ) (t : CType) → zero_in t ≡ content_with r (zero_in t)
zero_as r Void = refl
zero_as r (Num s) = refl
zero_as r (Pointer t) = refl
zero_as r (Array t n) = refl
zero_as r (Struct k) = refl
zero_as r (FunctionType t ts dots) = refl
zero_as r Floating = refl
zero_as r (Qualified q t) = zero_as r t

result_as : (r : ℕ → ℕ) (t : CType) → zero_of_result t ≡ content_with r (zero_of_result t)
result_as r (FunctionType t ts dots) = zero_as r t
result_as r t = refl

at_end_as : (r : ℕ → ℕ) (f : Function) → value_at_end f ≡ content_with r (value_at_end f)
at_end_as r f = by (bytes_eq f.name (codes "main"))
  where
    by : (b : Bool) → (if b then zero_of_result f.type else content.Unset) ≡ content_with r (if b then zero_of_result f.type else content.Unset)
    by true = result_as r f.type
    by false = refl

call_as : (o : Other) (s : ℕ → ℕ) (f : Function) (flow : Flow) → value_of_call (function_with s f) (flow_in o flow) ≡ content_in o (value_of_call f flow)
call_as o s f Next = at_end_as (renumbered o.blocks) f
call_as o s f Breaks = at_end_as (renumbered o.blocks) f
call_as o s f Continues = at_end_as (renumbered o.blocks) f
call_as o s f (Returns None) = at_end_as (renumbered o.blocks) f
call_as o s f (Returns (Some c)) = refl

call_as_it_is : (o : Other) (f : Function) (flow : Flow) → value_of_call f (flow_in o flow) ≡ content_in o (value_of_call f flow)
call_as_it_is o f Next = at_end_as (renumbered o.blocks) f
call_as_it_is o f Breaks = at_end_as (renumbered o.blocks) f
call_as_it_is o f Continues = at_end_as (renumbered o.blocks) f
call_as_it_is o f (Returns None) = at_end_as (renumbered o.blocks) f
call_as_it_is o f (Returns (Some c)) = refl

found_function : (r : ℕ → ℕ) (name : List ℕ) (fs : List Function) → function_among name (map (function_with r) fs) ≡ option_with (function_with r) (function_among name fs)
found_function r name [] = refl
found_function r name (f ∷ fs) = by (bytes_eq f.name name) (found_function r name fs)
  where
    by : (b : Bool) → function_among name (map (function_with r) fs) ≡ option_with (function_with r) (function_among name fs)
        → (if b then Some (function_with r f) else function_among name (map (function_with r) fs)) ≡ option_with (function_with r) (if b then Some f else function_among name fs)
    by true h = refl
    by false h = h

module _ (P : Program) (u : SourceUnit) (ds : List Declared) (fs : List Function) (fr : Frame) (ls : List Label) (xs : List Fact) (os : List Object) (further : List Bool) (objects_with : HasFurther (renumbered further) further P.objects os)
    (functions_with : fs ≡ map (function_with (renumbered further)) P.functions) (blocks : List Bool) (cells : ℕ) where
  abbrev Q : Program
  Q = record P { unit = u; declared = ds; functions = fs; file = fr; labels = ls; facts = xs; objects = os }

  abbrev r : ℕ → ℕ
  r = renumbered further

  -- the program with further objects, and itself with further blocks
  abbrev pub seen : Comparison
  seen = record { one = record { blocks = further_statics further os; statics = further_statics further os }; two = record { blocks = blocks; statics = [] }; cells = cells }

  abbrev S : {A : Type 0} → (Other → A → A) → Step A → Step A → Step A → Type 0
  S with s r1 r2 = Same seen with s r1 r2

  abbrev CallsSame : Calls → Calls → Calls → Type 0
  CallsSame calls calls1 calls2 = (f : List ℕ) (t : CType) (cs : List Content) (b : Bool) → S content_in (calls f t cs b) (calls1 f t (contents_in seen.one cs) b) (calls2 f t (contents_in seen.two cs) b)

  as_one : (f : Function) (n : ℕ) → variable_of Q (function_with r f) (r n) ≡ variable_in seen.one (variable_of P f n)
  as_one f n = variable_same P u ds fs fr ls xs os further objects_with f n ∙ by (variable_of P f n)
    where
      by : (v : Variable) → objects.renamed_variable P u ds fs fr ls xs os further objects_with v ≡ variable_in seen.one v
      by (Parameter k) = refl
      by (Local k) = refl
      by (StaticObject k) = refl

  as_two : (v : Variable) → v ≡ variable_in seen.two v
  as_two (Parameter k) = refl
  as_two (Local k) = refl
  as_two (StaticObject k) = refl

  seal_same : (k : ℕ) (ns : List ℕ) → S as_it_is (seal_parameters P k ns) (seal_parameters Q k (map r ns)) (seal_parameters P k ns)
  seal_same k [] = gives_same seen as_it_is tt
  seal_same k (n ∷ ns) =
      then_same seen _ _ _ _ _ _
      (subst (λ b. S as_it_is (if is_sealed_object P n then seals (Parameter k) else gives (tt {0})) (if b then seals (Parameter k) else gives (tt {0})) (if is_sealed_object P n then seals (Parameter k) else gives (tt {0}))) (sym (seals_as P u ds fs fr ls xs os further objects_with n))
      (if_same seen (is_sealed_object P n) _ _ _ _ _ _ (seals_same seen (Parameter k)) (gives_same seen as_it_is tt))) (λ _. seal_same (suc k) ns)

  without_body_same : (name : List ℕ) (t : CType) (b : Bool) → S content_in (without_body name t b) (without_body name t b) (without_body name t b)
  without_body_same name t b = if_same seen (stops name) _ _ _ _ _ _ (over_same seen _ Stopped) (if_same seen (b && not (is_void t)) _ _ _ _ _ _ (stub_same seen name) (gives_same seen content_in content.Unset))

  pub body_same : (calls calls1 calls2 : Calls) → CallsSame calls calls1 calls2 → (f : Function) → S flow_in (body_of P calls f) (body_of Q calls1 (function_with r f)) (body_of P calls2 f)
  body_same calls calls1 calls2 calls_same f =
      then_same seen _ _ _ _ _ _ (seal_same 0 f.parameters) (λ _. then_same seen _ _ _ _ _ _
      (items_same seen P u ds fs fr ls xs os r (types_same P u ds fs fr ls xs os further objects_with) (seals_as P u ds fs fr ls xs os further objects_with) (variable_of P f) (variable_of Q (function_with r f)) (as_one f) (λ n. as_two (variable_of P f n)) calls calls1 calls2 calls_same true f.body)
      (λ flow. then_same seen _ _ _ _ _ _
      (subst (λ shapes. S as_it_is (end_parameters 0 (shapes_of P f.parameters)) (end_parameters 0 shapes) (end_parameters 0 (shapes_of P f.parameters))) (sym (shapes_same P u ds fs fr ls xs os further objects_with f.parameters)) (end_parameters_same seen 0 (shapes_of P f.parameters)))
      (λ _. gives_same seen flow_in flow)))

  back_same : (before : At) (s1 s2 : List Bound) (m1 m2 : Memory) → Stands seen.one seen.cells before s1 m1 → Stands seen.two seen.cells before s2 m2 → S as_it_is (back before) (back (beside before s1 m1)) (back (beside before s2 m2))
  back_same before s1 s2 m1 m2 g1 g2 = record {
    alike = λ at t1 t2 n1 n2 h1 h2. all_give (record { bounds = g1.bounds; there = g1.there; blocks = h1.blocks }) (record { bounds = g2.bounds; there = g2.there; blocks = h2.blocks });
    grows = λ at. le_refl (length at.memory);
  }

  with_body_grows : (calls calls1 calls2 : Calls) → CallsSame calls calls1 calls2 → (f : Function) (cs : List Content) → Grows (with_body P calls f cs)
  with_body_grows calls calls1 calls2 calls_same f cs before =
      then_grows one_deeper (λ _. with_scope (statics_of before.scope) >> with_parameters) deeper_grows
      (λ _. then_grows (with_scope (statics_of before.scope)) (λ _. with_parameters) (λ at. le_refl (length at.memory))
      (λ _. then_grows (begin_parameters 0 (shapes_of P f.parameters)) (λ _. stored >> ending) (begin_parameters_same seen 0 (shapes_of P f.parameters)).grows
      (λ _. then_grows stored (λ _. ending) (store_parameters_same seen P.model 0 (shapes_of P f.parameters) cs).grows
      (λ _. then_grows (body_of P calls f) (λ flow. back before >> gives (value_of_call f flow)) (body_same calls calls1 calls2 calls_same f).grows
      (λ flow. then_grows (back before) (λ _. gives (value_of_call f flow)) (λ at. le_refl (length at.memory)) (λ _. gives_grows (value_of_call f flow))))))) before
    where
      stored : Step (Unit {0})
      stored = store_parameters P.model 0 (shapes_of P f.parameters) cs

      ending : Step Content
      ending = body_of P calls f >>= (λ flow. back before >> gives (value_of_call f flow))

      with_parameters : Step Content
      with_parameters = begin_parameters 0 (shapes_of P f.parameters) >> (stored >> ending)

  with_body_same : (calls calls1 calls2 : Calls) → CallsSame calls calls1 calls2 → (f : Function) (cs : List Content)
      → S content_in (with_body P calls f cs) (with_body Q calls1 (function_with r f) (contents_in seen.one cs)) (with_body P calls2 f (contents_in seen.two cs))
  with_body_same calls calls1 calls2 calls_same f cs = record {
    alike = λ at s1 s2 m1 m2 h1 h2.
        (then_same seen _ _ _ _ _ _ (deeper_same seen) (λ _. then_same seen _ _ _ _ _ _
        (scope_same seen (statics_of at.scope) (statics_of s1) (statics_of s2) (statics_in seen.one h1.bounds) (statics_in seen.two h2.bounds) (there_statics seen.one s1 h1.there) (there_statics seen.two s2 h2.there))
        (λ _. then_same seen _ _ _ _ _ _
        (subst (λ shapes. S as_it_is (begin_parameters 0 (shapes_of P f.parameters)) (begin_parameters 0 shapes) (begin_parameters 0 (shapes_of P f.parameters))) (sym (shapes_same P u ds fs fr ls xs os further objects_with f.parameters)) (begin_parameters_same seen 0 (shapes_of P f.parameters)))
        (λ _. then_same seen _ _ _ _ _ _
        (subst (λ shapes. S as_it_is (store_parameters P.model 0 (shapes_of P f.parameters) cs) (store_parameters P.model 0 shapes (contents_in seen.one cs)) (store_parameters P.model 0 (shapes_of P f.parameters) (contents_in seen.two cs))) (sym (shapes_same P u ds fs fr ls xs os further objects_with f.parameters)) (store_parameters_same seen P.model 0 (shapes_of P f.parameters) cs))
        (λ _. then_same seen _ _ _ _ (λ flow. back (beside at s1 m1) >> gives (value_of_call (function_with r f) flow)) (λ flow. back (beside at s2 m2) >> gives (value_of_call f flow)) (body_same calls calls1 calls2 calls_same f) (λ flow. then_same seen _ _ _ _ _ _ (back_same at s1 s2 m1 m2 h1 h2)
        (λ _. gives_as seen content_in (value_of_call f flow) _ _ (call_as seen.one r f flow) (call_as_it_is seen.two f flow)))))))).alike at s1 s2 m1 m2 h1 h2;
    grows = with_body_grows calls calls1 calls2 calls_same f cs;
  }

  found_same : (calls calls1 calls2 : Calls) → CallsSame calls calls1 calls2 → (name : List ℕ) (t : CType) (cs : List Content) (b : Bool) (x : Option Function)
      → S content_in (elim (x) as (λ _. Step Content) [ None ↦ without_body name t b | Some f ↦ with_body P calls f cs ])
      (elim (option_with (function_with r) x) as (λ _. Step Content) [ None ↦ without_body name t b | Some f ↦ with_body Q calls1 f (contents_in seen.one cs) ]) (elim (x) as (λ _. Step Content) [ None ↦ without_body name t b | Some f ↦ with_body P calls2 f (contents_in seen.two cs) ])
  found_same calls calls1 calls2 calls_same name t cs b None = without_body_same name t b
  found_same calls calls1 calls2 calls_same name t cs b (Some f) = with_body_same calls calls1 calls2 calls_same f cs

  pub invoke_same : (n : ℕ) → CallsSame (invoke P n) (invoke Q n) (invoke P n)
  invoke_same zero f t cs b = over_same seen _ Steps
  invoke_same (suc n) f t cs b =
      then_same seen _ _ _ _ _ _ (tick_same seen) (λ _.
      subst (λ found. S content_in (call_of P (invoke P n) f t cs b) (elim (found) as (λ _. Step Content) [ None ↦ without_body f t b | Some g ↦ with_body Q (invoke Q n) g (contents_in seen.one cs) ]) (call_of P (invoke P n) f t (contents_in seen.two cs) b))
      (sym (ap (function_among f) functions_with ∙ found_function r f P.functions))
      (found_same (invoke P n) (invoke Q n) (invoke P n) (invoke_same n) f t cs b (function_among f P.functions)))
