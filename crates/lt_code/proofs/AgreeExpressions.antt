-- The code of an expression does what the expression does.
use Rattle.lt_tree.specs.Typing.TypedTree as e
use Rattle.lt_tree.specs.Typing.TypedTree.{Value, Values, Place, no_values, a_value}
use Rattle.lt_code.proofs.Nodes.{Scene, program_at}
use Rattle.lt_code.proofs.Operands.{Expr, Tests, PlaceOf, Arguments, constant_runs, load_runs, address_runs, converted_runs, to_void_runs, minus_runs, complement_runs, arithmetic_runs, move_runs, distance_runs, compare_runs, object_runs, pointed_runs, element_runs, part_runs, plain_test}
use Rattle.lt_code.proofs.Tests.{not_runs, not_tests, logical_runs, logical_tests, conditional_runs, decide_runs, decide_tests, after_runs}
use Rattle.lt_code.proofs.MarksRun.{marked_runs, marked_tests}
use Rattle.lt_code.proofs.Sequences.{CallsRun, PartsRun, no_arguments_run, more_arguments_run, call_runs, last_part_runs, more_parts_run, no_comma_runs, comma_runs}
use Rattle.lt_code.proofs.Stores.{assign_runs, update_runs, update_pointer_runs, step_runs, step_pointer_runs}

-- an expression's code as a value and as a test
record Both (z : Scene) (v : Value) : Type 0 where
  expr : Expr z v
  test : Tests z v

module _ (z : Scene) (ok : CallsRun z.graph (program_at z) z.calls z.most) where
  mutual
    both_run : (v : Value) → Both z v
    both_run (e.Constant t i) = let x = constant_runs z t i in record { expr = x; test = λ r from on off has. plain_test z (e.Constant t i) x r from on off has }
    both_run (e.Load t p) = let x = load_runs z t p (place_run p) in record { expr = x; test = λ r from on off has. plain_test z (e.Load t p) x r from on off has }
    both_run (e.Whole t p) = let x : Expr z (e.Whole t p) = address_runs z p (place_run p) in record { expr = x; test = λ r from on off has. plain_test z (e.Whole t p) x r from on off has }
    both_run (e.Decay t p) = let x : Expr z (e.Decay t p) = address_runs z p (place_run p) in record { expr = x; test = λ r from on off has. plain_test z (e.Decay t p) x r from on off has }
    both_run (e.AddressOf t p) = let x : Expr z (e.AddressOf t p) = address_runs z p (place_run p) in record { expr = x; test = λ r from on off has. plain_test z (e.AddressOf t p) x r from on off has }
    both_run (e.Convert e.to_integer t v) = let x : Expr z (e.Convert e.to_integer t v) = converted_runs z e.to_integer t v (both_run v).expr in record { expr = x; test = λ r from on off has. plain_test z (e.Convert e.to_integer t v) x r from on off has }
    both_run (e.Convert e.to_truth t v) = let x : Expr z (e.Convert e.to_truth t v) = converted_runs z e.to_truth t v (both_run v).expr in record { expr = x; test = λ r from on off has. plain_test z (e.Convert e.to_truth t v) x r from on off has }
    both_run (e.Convert e.to_null t v) = let x : Expr z (e.Convert e.to_null t v) = converted_runs z e.to_null t v (both_run v).expr in record { expr = x; test = λ r from on off has. plain_test z (e.Convert e.to_null t v) x r from on off has }
    both_run (e.Convert e.to_pointer t v) = let x : Expr z (e.Convert e.to_pointer t v) = converted_runs z e.to_pointer t v (both_run v).expr in record { expr = x; test = λ r from on off has. plain_test z (e.Convert e.to_pointer t v) x r from on off has }
    both_run (e.Convert e.to_void t v) = let x = to_void_runs z t v (both_run v).expr in record { expr = x; test = λ r from on off has. plain_test z (e.Convert e.to_void t v) x r from on off has }
    both_run (e.Minus t v) = let x = minus_runs z t v (both_run v).expr in record { expr = x; test = λ r from on off has. plain_test z (e.Minus t v) x r from on off has }
    both_run (e.Complement t v) = let x = complement_runs z t v (both_run v).expr in record { expr = x; test = λ r from on off has. plain_test z (e.Complement t v) x r from on off has }
    both_run (e.Not t v) = record { expr = not_runs z t v (both_run v).test; test = not_tests z t v (both_run v).test }
    both_run (e.Arithmetic t op s a b) = let x = arithmetic_runs z t op s a b (both_run a).expr (both_run b).expr in record { expr = x; test = λ r from on off has. plain_test z (e.Arithmetic t op s a b) x r from on off has }
    both_run (e.Move t op size side a b) = let x = move_runs z t op size side a b (both_run a).expr (both_run b).expr in record { expr = x; test = λ r from on off has. plain_test z (e.Move t op size side a b) x r from on off has }
    both_run (e.Distance t size a b) = let x = distance_runs z t size a b (both_run a).expr (both_run b).expr in record { expr = x; test = λ r from on off has. plain_test z (e.Distance t size a b) x r from on off has }
    both_run (e.Compare t op a b) = let x = compare_runs z t op a b (both_run a).expr (both_run b).expr in record { expr = x; test = λ r from on off has. plain_test z (e.Compare t op a b) x r from on off has }
    both_run (e.Logical t op a b) = record { expr = logical_runs z t op a b (both_run a).test (both_run b).test; test = logical_tests z t op a b (both_run a).test (both_run b).test }
    both_run (e.Conditional t c a b) = let x = conditional_runs z t c a b (both_run c).test (both_run a).expr (both_run b).expr in record { expr = x; test = λ r from on off has. plain_test z (e.Conditional t c a b) x r from on off has }
    both_run (e.Assign t p v) = let x = assign_runs z t p v (place_run p) (both_run v).expr in record { expr = x; test = λ r from on off has. plain_test z (e.Assign t p v) x r from on off has }
    both_run (e.Update t op s p v) = let x = update_runs z t op s p v (place_run p) (both_run v).expr in record { expr = x; test = λ r from on off has. plain_test z (e.Update t op s p v) x r from on off has }
    both_run (e.UpdatePointer t op size p v) = let x = update_pointer_runs z t op size p v (place_run p) (both_run v).expr in record { expr = x; test = λ r from on off has. plain_test z (e.UpdatePointer t op size p v) x r from on off has }
    both_run (e.Step t when op s p) = let x = step_runs z t when op s p (place_run p) in record { expr = x; test = λ r from on off has. plain_test z (e.Step t when op s p) x r from on off has }
    both_run (e.StepPointer t when op size p) = let x = step_pointer_runs z t when op size p (place_run p) in record { expr = x; test = λ r from on off has. plain_test z (e.StepPointer t when op size p) x r from on off has }
    both_run (e.Call t name vs) = let x = call_runs z ok t name vs (arguments_runs vs) in record { expr = x; test = λ r from on off has. plain_test z (e.Call t name vs) x r from on off has }
    both_run (e.Comma t no_values) = let x = no_comma_runs z t in record { expr = x; test = λ r from on off has. plain_test z (e.Comma t no_values) x r from on off has }
    both_run (e.Comma t (a_value v vs)) = let x = comma_runs z t v vs (both_run v).expr (parts_run vs) in record { expr = x; test = λ r from on off has. plain_test z (e.Comma t (a_value v vs)) x r from on off has }
    both_run (e.Marked t ms v) = record { expr = marked_runs z t ms v (both_run v).expr; test = marked_tests z t ms v (both_run v).test }
    both_run (e.Decide t v when_true when_false) = record { expr = decide_runs z t v when_true when_false (both_run v).test; test = decide_tests z t v when_true when_false (both_run v).test }
    both_run (e.After t v id) = let x = after_runs z t v id (both_run v).expr in record { expr = x; test = λ r from on off has. plain_test z (e.After t v id) x r from on off has }

    place_run : (p : Place) → PlaceOf z p
    place_run (e.Object t i) = object_runs z t i
    place_run (e.Pointed t v) = pointed_runs z v (both_run v).expr
    place_run (e.Element t size side a b) = element_runs z t size side a b (both_run a).expr (both_run b).expr
    place_run (e.Part t offset p) = part_runs z t offset p (place_run p)
    place_run (e.Held t v) = pointed_runs z v (both_run v).expr

    arguments_runs : (vs : Values) → Arguments z vs
    arguments_runs no_values = no_arguments_run z
    arguments_runs (a_value v vs) = more_arguments_run z v vs (both_run v).expr (arguments_runs vs)

    parts_run : (vs : Values) → PartsRun z vs
    parts_run no_values = last_part_runs z
    parts_run (a_value v vs) = more_parts_run z v vs (both_run v).expr (parts_run vs)

pub expr_runs : (z : Scene) → CallsRun z.graph (program_at z) z.calls z.most → (v : Value) → Expr z v
expr_runs z ok v = (both_run z ok v).expr

pub test_runs : (z : Scene) → CallsRun z.graph (program_at z) z.calls z.most → (v : Value) → Tests z v
test_runs z ok v = (both_run z ok v).test
