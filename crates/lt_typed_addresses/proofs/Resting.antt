-- Constants that are addresses of objects which are there from the start, where they are addresses.
use Rattle.std.proofs.Common.{◌≡◌, ℕ, ℤ, pos, negsuc, List, Bool, true, false}
use Rattle.std.specs.Prelude.{◌&&◌, ◌+ℤ◌, ◌*ℤ◌, nat_le, if◌then◌else◌, slice_get, Result, Ok, Err}
use Rattle.std.specs.List.{AllByRecursion}
use Rattle.lt_model.specs.declared.scalar.DataModel.{DataModel}
use Rattle.lt_model.specs.declared.scalar.Scalar.{Scalar}
use Rattle.lt_model.specs.declared.scalar.Scalar.TheVariants as S
use Rattle.lt_model.specs.declared.operator.Op.{Op}
use Rattle.lt_model.specs.declared.operator.Ub.{Ub}
use Rattle.lt_model.specs.Operators.{value_of}
use Rattle.lt_tree.specs.Typing.Types.{CType, Void, Num, Pointer, same}
use Rattle.lt_tree.specs.Typing.Constants.{Constancy, varying, faulty, number, null_constant, null_address, address, is_form, is_zero, value_or_fault, converted, applied, operated, negated, connected, truth_of, is_true, chosen, moved_to, moved_by}
use Rattle.lt_tree.specs.Typing.TypedTree as e
use Rattle.lt_tree.specs.Typing.TypedTree.{StartPart}
use Rattle.lt_tree.specs.Typing.Entities.{Object, is_static}
use Rattle.lt_tree.specs.Typing.Operands.{holds}
use Rattle.lt_tree.specs.Typing.Expressions.{Typed, null_of, constancy_as_pointer, truth_of_address, constancy_as_number, constancy_to}
use Rattle.lt_meaning.specs.Statements.{parts_in}

-- an object of this number is there from the start
abbrev pub LivesFirst : List Object → ℕ → Type 0
LivesFirst objects n = holds (λ object. is_static object.life) (slice_get objects n) ≡ true

abbrev pub RestsOn : List Object → Constancy → Type 0
RestsOn objects (address n offset) = LivesFirst objects n
RestsOn objects _ = Unit {0}

pub record Rests (objects : List Object) (c : Constancy) : Type 0 where
  pub so : RestsOn objects c

-- an expression, with its erasure
pub record TypedRests (objects : List Object) (x : Typed) : Type 0 where
  pub constancy : Rests objects x.constancy
  pub erased : Rests objects x.erased

-- what an object holds from the start
abbrev pub PartRests : List Object → StartPart → Type 0
PartRests objects (e.fixed offset t c) = Rests objects c
PartRests objects _ = Unit {0}

abbrev pub PartsRest : List Object → List StartPart → Type 0
PartsRest objects parts = AllByRecursion (PartRests objects) parts

abbrev pub ObjectRests : List Object → Object → Type 0
ObjectRests objects object = PartsRest objects (parts_in object.start)

abbrev pub AllRest : List Object → Type 0
AllRest objects = AllByRecursion (ObjectRests objects) objects

-- ---- what operators make of constants

module _ {objects : List Object} where
  pub varying_rests : Rests objects varying
  varying_rests = record { so = tt }

  pub number_rests : {z : ℤ} → Rests objects (number z)
  number_rests = record { so = tt }

  faulty_rests : Rests objects faulty
  faulty_rests = record { so = tt }

  faulty_or_varying : (b : Bool) → Rests objects (if b then faulty else varying)
  faulty_or_varying true = record { so = tt }
  faulty_or_varying false = record { so = tt }

  value_rests : (r : Result ℤ Ub) → Rests objects (value_or_fault r)
  value_rests (Ok z) = record { so = tt }
  value_rests (Err kind) = record { so = tt }

  pub converted_rests : (m : DataModel) (s : Scalar) (c : Constancy) → Rests objects (converted m s c)
  converted_rests m s (number z) = record { so = tt }
  converted_rests m s faulty = record { so = tt }
  converted_rests m s _ = record { so = tt }

  pub applied_rests : (m : DataModel) (op : Op) (s : Scalar) (a b : Constancy) → Rests objects (applied m op s a b)
  applied_rests m op s (number a) (number b) = value_rests (value_of m op s a b)
  applied_rests m op s a b = faulty_or_varying (is_form a && is_form b)

  pub operated_rests : (m : DataModel) (op : Op) (s r : Scalar) (a b : Constancy) → Rests objects (operated m op s r a b)
  operated_rests m op s r a b = applied_rests m op s (converted m s a) (converted m r b)

  pub negated_rests : (c : Constancy) → Rests objects (negated c)
  negated_rests (number z) = record { so = tt }
  negated_rests faulty = record { so = tt }
  negated_rests _ = record { so = tt }

  truth_or_truth : (b : Bool) (c d : Constancy) → Rests objects (if b then truth_of c else truth_of d)
  truth_or_truth true c d = negated_rests (negated c)
  truth_or_truth false c d = negated_rests (negated d)

  connected_or_varying : (b : Bool) (c : Constancy) → Rests objects c → Rests objects (if b then c else varying)
  connected_or_varying true c h = h
  connected_or_varying false c h = varying_rests

  pub connected_rests : (settles : ℤ → Bool) (a b : Constancy) → Rests objects (connected settles a b)
  connected_rests settles (number z) b = connected_or_varying (is_form b) (if settles z then truth_of (number z) else truth_of b) (truth_or_truth (settles z) (number z) b)
  connected_rests settles faulty b = faulty_or_varying (is_form b)
  connected_rests settles _ b = record { so = tt }

  one_of : (b : Bool) (c d : Constancy) → Rests objects c → Rests objects d → Rests objects (if b then c else d)
  one_of true c d h i = h
  one_of false c d h i = i

  pub chosen_rests : (test b c : Constancy) → Rests objects b → Rests objects c → Rests objects (chosen test b c)
  chosen_rests (number z) b c h i = connected_or_varying (is_form b && is_form c) (if is_true z then b else c) (one_of (is_true z) b c h i)
  chosen_rests faulty b c h i = faulty_or_varying (is_form b && is_form c)
  chosen_rests _ b c h i = record { so = tt }

  -- ---- addresses

  moved_to_rests : (n size : ℕ) (z : ℤ) → LivesFirst objects n → Rests objects (moved_to n size z)
  moved_to_rests n size (negsuc k) h = record { so = tt }
  moved_to_rests n size (pos k) h = connected_or_varying (nat_le k size) (address n k) (record { so = h })

  pub moved_by_rests : (sizes : ℕ → ℕ) (size : ℕ) (c d : Constancy) → Rests objects c → Rests objects (moved_by sizes size c d)
  moved_by_rests sizes size (address n offset) (number z) h = moved_to_rests n (sizes n) (pos offset +ℤ (z *ℤ pos size)) h.so
  moved_by_rests sizes size _ _ h = record { so = tt }

  null_rests : (t : CType) → Rests objects (null_of t)
  null_rests t = elim (same t (Pointer Void)) as (λ v. Rests objects (if v then null_constant else null_address)) [ true ↦ record { so = tt } | false ↦ record { so = tt } ]

  pointer_rests : (t : CType) (c : Constancy) → Rests objects c → Rests objects (constancy_as_pointer t c)
  pointer_rests t (number z) h = connected_or_varying (is_zero (number z)) (null_of t) (null_rests t)
  pointer_rests t null_constant h = record { so = tt }
  pointer_rests t null_address h = record { so = tt }
  pointer_rests t (address n offset) h = h
  pointer_rests t varying h = record { so = tt }
  pointer_rests t faulty h = record { so = tt }

  truth_rests : (c : Constancy) → Rests objects (truth_of_address c)
  truth_rests null_constant = record { so = tt }
  truth_rests null_address = record { so = tt }
  truth_rests (address n offset) = record { so = tt }
  truth_rests _ = record { so = tt }

  as_number_rests : (m : DataModel) (s : Scalar) (c : Constancy) → Rests objects (constancy_as_number m s c)
  as_number_rests m s (number z) = record { so = tt }
  as_number_rests m s faulty = record { so = tt }
  as_number_rests m S.Bool c = truth_rests c
  as_number_rests m s _ = record { so = tt }

  pub constancy_to_rests : (m : DataModel) (t : CType) (c : Constancy) → Rests objects c → Rests objects (constancy_to m t c)
  constancy_to_rests m (Num s) c h = as_number_rests m s c
  constancy_to_rests m (Pointer t) c h = pointer_rests (Pointer t) c h
  constancy_to_rests m _ c h = record { so = tt }
