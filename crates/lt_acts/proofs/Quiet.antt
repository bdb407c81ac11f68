-- What marks bind.
use Rattle.std.proofs.Common.{◌≡◌, ℕ, suc, ◌<◌, ◌≤◌, ◌⊎◌, inl, inr, List, [], ◌∷◌, ◌++◌, length, map, get_or, drop, drop-cons, drop_of_length-le, Option, Some, None, Result, Ok, Err, refl, sym, ap, ap₂, ◌∙◌, append_assoc, append-nil, min, arith}
use Rattle.std.proofs.lemmas.Bool.Decides.{nat_tests}
use Rattle.std.proofs.lemmas.List.{map-append}
use Rattle.std.specs.Result.{result_ok}
use Rattle.lt_model.specs.declared.run.Binding.{Binding as HeldBinding}
use Rattle.lt_model.specs.declared.cell.Content.{Content}
use Rattle.lt_model.specs.declared.scalar.DataModel.{DataModel}
use Rattle.lt_model.specs.Memory.{Memory}
use Rattle.lt_model.specs.State.{Binding, Gives, Ends}
use Rattle.lt_ir.specs.declared.pure.Pure.{Pure as Held}
use Rattle.lt_ir.specs.Running.{At, Answer, Bound, Step, one_more, quietly, ◌>>=◌}
use Rattle.lt_ir.specs.Pure.{Pure, looked_at}
use Rattle.lt_ir.specs.PureView.{pure_of}
use Rattle.lt_acts.specs.declared.flow.Fault.{Fault}
use Rattle.lt_acts.specs.Acts.{answered, Reads}
use Rattle.lt_acts.specs.Placing.{standing, ReadsIn}
use Rattle.lt_acts.specs.Looking.{binding_in, number_looked, Quietly}
use Rattle.lt_acts.proofs.Answering.{then_on}

quiet_answer : {A : Type 0} (r : Result A Fault) (at : At) → (elim (answered r at) as (λ _. Option A) [ Gives a at1 ↦ Some a | Ends end at1 ↦ None ]) ≡ result_ok r
quiet_answer (Ok a) at = refl
quiet_answer (Err why) at = refl

-- a value that is asked for something
pub quiet_then : {A : Type 0} (step : Step Content) (go : Content → Step A) (scope : List Bound) (m : Memory) (c : Content) (r : Result A Fault) → ReadsIn step scope m (Ok c) → Reads (go c) m r → Quietly (step >>= go) scope m (result_ok r)
quiet_then {A} step go scope m c r h i = λ at.
    ap (λ (x : Answer A). elim x as (λ _. Option A) [ Gives a at1 ↦ Some a | Ends end at1 ↦ None ]) (then_on step go (standing scope m at) (standing scope m at) c (h at) ∙ i (standing scope m at)) ∙ quiet_answer r (standing scope m at)

abbrev pub prefixed : List HeldBinding → Option (List Binding) → Option (List Binding)
prefixed bound None = None
prefixed bound (Some more) = Some (map binding_in bound ++ more)

-- what is bound, with what the rest of the names and expressions bind
abbrev pub bound_so_far : DataModel → List Bound → Memory → List HeldBinding → List (List ℕ) → List Held → At → Option (List Binding)
bound_so_far model scope m bound names values at = prefixed bound (looked_at model names (map pure_of values) (standing scope m at))

one_bound : (bound : List HeldBinding) (it : HeldBinding) (rest : Option (List Binding)) → prefixed bound (one_more it.name (Some it.value) rest) ≡ prefixed (bound ++ it ∷ []) rest
one_bound bound it None = refl
one_bound bound it (Some more) = ap Some (sym (ap (λ bs. bs ++ more) (map-append binding_in bound (it ∷ [])) ∙ append_assoc (map binding_in bound) (binding_in it ∷ []) more))

module _ (model : DataModel) (scope : List Bound) (m : Memory) where
  ahead : (bound : List HeldBinding) (names : List (List ℕ)) (values : List Held) (i : ℕ) (d : List ℕ) (e : Held) (at : At) → i < length names → i < length values
      → bound_so_far model scope m bound (drop i names) (drop i values) at
      ≡ prefixed bound (one_more (get_or names i d) (quietly (number_looked model (pure_of (get_or values i e))) (standing scope m at)) (looked_at model (drop (suc i) names) (map pure_of (drop (suc i) values)) (standing scope m at)))
  ahead bound names values i d e at h k = ap₂ (λ names values. bound_so_far model scope m bound names values at) (drop-cons names i d h) (drop-cons values i e k)

  pub bound_more : (bound : List HeldBinding) (names : List (List ℕ)) (values : List Held) (i : ℕ) (d : List ℕ) (e : Held) (it : HeldBinding) (at : At) → i < length names → i < length values
      → it.name ≡ get_or names i d → Quietly (number_looked model (pure_of (get_or values i e))) scope m (Some it.value)
      → bound_so_far model scope m bound (drop i names) (drop i values) at ≡ bound_so_far model scope m (bound ++ it ∷ []) (drop (suc i) names) (drop (suc i) values) at
  bound_more bound names values i d e it at h k named looks =
      ahead bound names values i d e at h k
      ∙ ap₂ (λ name o. prefixed bound (one_more name o (looked_at model (drop (suc i) names) (map pure_of (drop (suc i) values)) (standing scope m at)))) (sym named) (looks at)
      ∙ one_bound bound it (looked_at model (drop (suc i) names) (map pure_of (drop (suc i) values)) (standing scope m at))

  pub none_bound : (bound : List HeldBinding) (names : List (List ℕ)) (values : List Held) (i : ℕ) (d : List ℕ) (e : Held) (at : At) → i < length names → i < length values
      → Quietly (number_looked model (pure_of (get_or values i e))) scope m None → bound_so_far model scope m bound (drop i names) (drop i values) at ≡ None
  none_bound bound names values i d e at h k looks =
      ahead bound names values i d e at h k ∙ ap (λ o. prefixed bound (one_more (get_or names i d) o (looked_at model (drop (suc i) names) (map pure_of (drop (suc i) values)) (standing scope m at)))) (looks at)

  nothing_named : (values : List Pure) (at : At) → looked_at model [] values at ≡ Some []
  nothing_named values at = refl

  nothing_valued : (names : List (List ℕ)) (at : At) → looked_at model names [] at ≡ Some []
  nothing_valued [] at = refl
  nothing_valued (name ∷ names) at = refl

  pub all_bound : (bound : List HeldBinding) (names : List (List ℕ)) (values : List Held) (i : ℕ) (at : At) → (length names ≤ i) ⊎ (length values ≤ i) → bound_so_far model scope m bound (drop i names) (drop i values) at ≡ Some (map binding_in bound)
  all_bound bound names values i at (inl h) = ap (λ names. bound_so_far model scope m bound names (drop i values) at) (drop_of_length-le names h) ∙ ap Some (append-nil (map binding_in bound))
  all_bound bound names values i at (inr h) =
      ap (λ values. bound_so_far model scope m bound (drop i names) values at) (drop_of_length-le values h) ∙ ap (prefixed bound) (nothing_valued (drop i names) (standing scope m at)) ∙ ap Some (append-nil (map binding_in bound))

within : (a i : ℕ) → (a ≤ i) ⊎ (i < a)
within a i = grind (arith, nat_tests)

pub shorter : (a b n i : ℕ) → n ≡ min a b → n ≤ i → (a ≤ i) ⊎ (b ≤ i)
shorter a b n i e h = elim (within a i) [ inl l ↦ inl l | inr g ↦ inr (omega arith) ]
