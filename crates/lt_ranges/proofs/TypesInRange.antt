-- Types and constants that are made of types and constants in range.
use Rattle.std.proofs.Common.{ℕ, ℤ, Bool, true, false, Result, Ok, Err}
use Rattle.std.specs.Prelude.{if◌then◌else◌, unwrap_or, ◌||◌, ◌&&◌, nat_le, negsuc, pos, ◌+ℤ◌, ◌*ℤ◌}
use Rattle.lt_model.specs.declared.scalar.DataModel.{DataModel}
use Rattle.lt_model.specs.declared.scalar.Scalar.{Scalar}
use Rattle.lt_model.specs.declared.scalar.Scalar.TheVariants as S
use Rattle.lt_model.specs.declared.operator.Op.{Op}
use Rattle.lt_model.specs.declared.operator.Ub.{Ub}
use Rattle.lt_model.specs.Operators.{value_of}
use Rattle.lt_tree.specs.Tree.{Qualifiers}
use Rattle.lt_tree.specs.Typing.Types.{CType, Void, Num, Pointer, Array, Struct, Function, Floating, Qualified, add_qualifiers, qualified, unqualified, target_of, value_type, adjusted, same}
use Rattle.lt_tree.specs.Typing.Constants.{Constancy, varying, faulty, number, null_constant, null_address, address, value_or_fault, converted, applied, operated, negated, truth_of, connected, chosen, moved_to, moved_by, is_form, is_true, is_zero}
use Rattle.lt_tree.specs.Typing.Expressions.{null_of, constancy_as_pointer, truth_of_address, constancy_as_number, constancy_to}
use Rattle.lt_tree.specs.Typing.Operations.{constant_address}
use Rattle.lt_tree.specs.Typing.Ranges.{Lists, in_type, in_constancy}
use Rattle.lt_ranges.proofs.References.{Has, none}

abbrev pub T : Lists → CType → Type 0
T b t = Has b (in_type t)

abbrev pub C : Lists → Constancy → Type 0
C b c = Has b (in_constancy c)

-- ---- types

pub unqualified_in : {b : Lists} (t : CType) → T b t → T b (unqualified t)
unqualified_in (Qualified q t) h = h
unqualified_in _ h = h

added_in : {b : Lists} (q : Qualifiers) (t : CType) → T b t → T b (add_qualifiers q t)
added_in {b} q t h = elim (q.constant || q.volatile) as (λ c. T b (if c then Qualified q t else t)) [ true ↦ h | false ↦ h ]

pub qualified_in : {b : Lists} (q : Qualifiers) (t : CType) → T b t → T b (qualified q t)
qualified_in q (Array t n) h = qualified_in q t h
qualified_in q (Qualified p t) h = h
qualified_in q (Function t ts dots) h = h
qualified_in q Void h = added_in q Void h
qualified_in q (Num s) h = added_in q (Num s) h
qualified_in q (Pointer t) h = added_in q (Pointer t) h
qualified_in q (Struct k) h = added_in q (Struct k) h
qualified_in q Floating h = added_in q Floating h

pub value_type_in : {b : Lists} (t : CType) → T b t → T b (value_type t)
value_type_in (Array t n) h = h
value_type_in (Qualified q t) h = h
value_type_in _ h = h

pub adjusted_in : {b : Lists} (t : CType) → T b t → T b (adjusted t)
adjusted_in (Array t n) h = h
adjusted_in (Function t ts dots) h = h
adjusted_in _ h = h

-- what a pointer points to, or a type in range
pub target_in : {b : Lists} (t d : CType) → T b t → T b d → T b (unwrap_or (target_of t) d)
target_in (Pointer t) d h i = h
target_in (Qualified q t) d h i = target_in t d h i
target_in _ d h i = i

-- ---- constants

pub converted_in : {b : Lists} (m : DataModel) (s : Scalar) (c : Constancy) → C b (converted m s c)
converted_in m s (number z) = none
converted_in m s _ = none

fault_in : {b : Lists} (r : Result ℤ Ub) → C b (value_or_fault r)
fault_in (Ok z) = none
fault_in (Err kind) = none

faulty_or_varying : {b : Lists} (test : Bool) → C b (if test then faulty else varying)
faulty_or_varying {b} test = elim test as (λ v. C b (if v then faulty else varying)) [ true ↦ none | false ↦ none ]

pub applied_in : {b : Lists} (m : DataModel) (op : Op) (s : Scalar) (c d : Constancy) → C b (applied m op s c d)
applied_in m op s (number x) (number y) = fault_in (value_of m op s x y)
applied_in m op s c d = faulty_or_varying (is_form c && is_form d)

pub operated_in : {b : Lists} (m : DataModel) (op : Op) (s r : Scalar) (c d : Constancy) → C b (operated m op s r c d)
operated_in m op s r c d = applied_in m op s (converted m s c) (converted m r d)

pub negated_in : {b : Lists} (c : Constancy) → C b (negated c)
negated_in (number z) = none
negated_in _ = none

chosen_truth_in : {b : Lists} (form settled : Bool) (z : ℤ) (c : Constancy) → C b (if form then (if settled then truth_of (number z) else truth_of c) else varying)
chosen_truth_in true true z c = none
chosen_truth_in true false z c = negated_in (negated c)
chosen_truth_in false settled z c = none

pub connected_in : {b : Lists} (settles : ℤ → Bool) (c d : Constancy) → C b (connected settles c d)
connected_in settles (number z) d = chosen_truth_in (is_form d) (settles z) z d
connected_in settles faulty d = faulty_or_varying (is_form d)
connected_in settles _ d = none

either_in : {b : Lists} (form truth : Bool) (c d : Constancy) → C b c → C b d → C b (if form then (if truth then c else d) else varying)
either_in true true c d h i = h
either_in true false c d h i = i
either_in false truth c d h i = none

pub chosen_in : {b : Lists} (test c d : Constancy) → C b c → C b d → C b (chosen test c d)
chosen_in (number z) c d h i = either_in (is_form c && is_form d) (is_true z) c d h i
chosen_in faulty c d h i = faulty_or_varying (is_form c && is_form d)
chosen_in _ c d h i = none

moved_to_in : {b : Lists} (object size : ℕ) (z : ℤ) → C b (address object 0) → C b (moved_to object size z)
moved_to_in object size (negsuc n) h = none
moved_to_in {b} object size (pos n) h = elim (nat_le n size) as (λ v. C b (if v then address object n else varying)) [ true ↦ h | false ↦ none ]

pub moved_by_in : {b : Lists} (sizes : ℕ → ℕ) (size : ℕ) (c d : Constancy) → C b c → C b (moved_by sizes size c d)
moved_by_in sizes size (address object offset) (number z) h = moved_to_in object (sizes object) (pos offset +ℤ (z *ℤ pos size)) h
moved_by_in sizes size _ _ h = none

pub constant_address_in : {b : Lists} (c : Constancy) → C b c → C b (constant_address c)
constant_address_in (address object offset) h = h
constant_address_in _ h = none

null_in : {b : Lists} (t : CType) (zero : Bool) → C b (if zero then null_of t else varying)
null_in {b} t true = elim (same t (Pointer Void)) as (λ v. C b (if v then null_constant else null_address)) [ true ↦ none | false ↦ none ]
null_in t false = none

as_pointer_in : {b : Lists} (t : CType) (c : Constancy) → C b c → C b (constancy_as_pointer t c)
as_pointer_in t (number z) h = null_in t (is_zero (number z))
as_pointer_in t (address object offset) h = h
as_pointer_in t _ h = none

truth_in : {b : Lists} (c : Constancy) → C b (truth_of_address c)
truth_in null_constant = none
truth_in _ = none

as_number_in : {b : Lists} (m : DataModel) (s : Scalar) (c : Constancy) → C b (constancy_as_number m s c)
as_number_in m s (number z) = none
as_number_in m s faulty = none
as_number_in m S.Bool c = truth_in c
as_number_in m s c = none

pub constancy_to_in : {b : Lists} (m : DataModel) (t : CType) (c : Constancy) → C b c → C b (constancy_to m t c)
constancy_to_in m (Num s) c h = as_number_in m s c
constancy_to_in m (Pointer t) c h = as_pointer_in (Pointer t) c h
constancy_to_in m _ c h = none
