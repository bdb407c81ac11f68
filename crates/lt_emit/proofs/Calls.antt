-- Calls, by what is known of the function that is called.
use Rattle.std.specs.Option.{option_to_list}
use Rattle.std.proofs.Common.{◌≡◌, ℕ, ◌+◌, ◌≤◌, max, Bool, true, false, arith, List, Option, Some, None, slice_get, sym, ap, subst, ◌∙◌}
use Rattle.lt_model.specs.declared.cell.Content.TheVariants as content
use Rattle.lt_tree.specs.Typing.Types.{CType, is_void}
use Rattle.lt_ir.specs.declared.node.Node.TheVariants as node
use Rattle.lt_meaning.specs.Runs.{stops}
use Rattle.lt_code.specs.Pieces.{Stands, one, when, either}
use Rattle.lt_code.specs.Code.{call, call_by_number, taken_into, stub, next_for}
use Rattle.lt_tables.specs.Lookups.{function_number}
use Rattle.lt_emit.specs.Spending.{IsWithin, of_node, call_needs, called}
use Rattle.lt_emit.specs.Emission.{Here, Finished, site_in}
use Rattle.lt_emit.specs.Calling.{call_cost}
use Rattle.lt_emit.proofs.Found.{function_is}

-- a function with a body
pub called_inside :
    (here : Here) (it : Finished) (is_taken : Bool) (name : List ℕ) (t : CType) (r n k from to : ℕ) (target : Option ℕ)
    → Some k ≡ function_number here.program name → target ≡ taken_into is_taken r
    → slice_get it.nodes (it.point from) ≡ Some (node.Call k target r n (it.point to))
    → call (site_in here it).stands here.stubs here.program.functions is_taken name t r n (it.point from) (it.point to)
called_inside here it is_taken name t r n k from to target is aimed code =
    let Is : Option ℕ → Type 0 =
    λ number. call_by_number (site_in here it).stands here.stubs is_taken name t r n number (it.point from) (it.point to) in
    let Aims : Option ℕ → Type 0 = λ x. slice_get it.nodes (it.point from) ≡ Some (node.Call k x r n (it.point to)) in
    subst Is (is ∙ sym (function_is 0 name here.program.functions)) (subst Aims aimed code)

-- and what its call costs
pub call_fits :
    (here : Here) (is_taken : Bool) (name : List ℕ) (r n k to : ℕ) (target : Option ℕ) → Some k ≡ function_number here.program name
    → target ≡ taken_into is_taken r → IsWithin (of_node (node.Call k target r n to)) (call_cost name r n here)
call_fits here is_taken name r n k to target is aimed = record {
  nodes = omega arith;
  registers = omega (arith, ap (λ t. call_needs t r n) aimed, needed is_taken);
  loops = omega arith;
  calls = λ f. omega (arith, ap (λ number. called f (option_to_list number)) (is ∙ sym (function_is 0 name here.program.functions)));
}
  where
    needed : (b : Bool) → call_needs (taken_into b r) r n ≤ max (r + 1) (r + n)
    needed true = omega arith
    needed false = omega arith

-- a function without one
pub called_outside :
    (here : Here) (it : Finished) (is_taken : Bool) (name : List ℕ) (t : CType) (r n from to : ℕ)
    → None ≡ function_number here.program name
    → call_by_number (site_in here it).stands here.stubs is_taken name t r 0 None (it.point from) (it.point to)
    → call (site_in here it).stands here.stubs here.program.functions is_taken name t r n (it.point from) (it.point to)
called_outside here it is_taken name t r n from to is code =
    let Is : Option ℕ → Type 0 =
    λ number. call_by_number (site_in here it).stands here.stubs is_taken name t r n number (it.point from) (it.point to) in
    subst Is (is ∙ sym (function_is 0 name here.program.functions)) code

-- whether it ends the run, whether its value is taken, and whether it has one
pub outside_is :
    (P : Stands) (stubs : List (List ℕ)) (is_taken : Bool) (name : List ℕ) (t : CType) (r from to : ℕ) (ends takes none : Bool)
    → ends ≡ stops name → takes ≡ is_taken → none ≡ is_void t
    → either ends (λ i j. P i node.Stop) (when takes (either none (one P (node.Constant r content.Unset true)) (next_for P stubs name r))) from to
    → call_by_number P stubs is_taken name t r 0 None from to
outside_is P stubs is_taken name t r from to ends takes none is_end is_so is_none code =
    let Ends : Bool → Type 0 = λ b. either b (λ i j. P i node.Stop) (when is_taken (stub P stubs name t r)) from to in
    let Takes : Bool → Type 0 = λ b. either ends (λ i j. P i node.Stop) (when b (stub P stubs name t r)) from to in
    let Nothing : Bool → Type 0 =
    λ b. either ends (λ i j. P i node.Stop) (when takes (either b (one P (node.Constant r content.Unset true)) (next_for P stubs name r))) from to in
    subst Ends is_end (subst Takes is_so (subst Nothing is_none code))
