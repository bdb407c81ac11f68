-- The names of parameters in definitions are no more than the nodes of a unit need.
use Rattle.std.proofs.Common.{◌≡◌, ◌≤◌, ℕ, zero, suc, List, [], ◌∷◌, ◌++◌, Some, None, ap, append_assoc, subst, arith}
use Rattle.std.proofs.lemmas.List.{append-nil}
use Rattle.lt_tree.specs.Tree as c
use Rattle.lt_tree.specs.Nodes.{Node, in_specifiers, in_declarator, in_parts, in_parameters, in_parameter_list, in_items, in_external, nodes}
use Rattle.lt_places.proofs.Parts.{AreWhole, unit_whole}
use Rattle.lt_label_counts.specs.Needs.{in_mark_behind, needs}
use Rattle.lt_label_counts.proofs.Beside.{beside, specifiers_whole, declarator_whole}
use Rattle.lt_label_counts.proofs.KeptInExpressions.{if_named, name_of, named_in_list, named_in, named_in_declarator}
use Rattle.lt_label_counts.proofs.KeptInUnits.{named_in_external, named_in_unit}

more_needs : (n : ℕ) (xs ys : List Node) → needs n xs ≤ needs n (xs ++ ys)
more_needs n [] ys = omega arith
more_needs zero (x ∷ xs) ys = let more = more_needs (in_mark_behind x) xs ys in omega (arith, more)
more_needs (suc n) (x ∷ xs) ys = more_needs n xs ys

name_needs : (d : c.Declarator) → if_named (name_of d) ≤ needs 0 (in_declarator d)
name_needs (c.declarator None ps) = omega arith
name_needs (c.declarator (Some w) ps) = omega arith

list_needs : (list : c.ParameterList) → named_in_list list ≤ needs 0 (in_parameter_list list)
list_needs c.no_parameters = omega arith
list_needs (c.a_parameter s d rest) =
    let more = list_needs rest in
    let name = name_needs d in
    let grouped : needs 0 (in_specifiers s ++ in_declarator d ++ in_parameter_list rest) ≡ needs 0 (in_specifiers s ++ (in_declarator d ++ in_parameter_list rest)) =
    ap (needs 0) (append_assoc (in_specifiers s) (in_declarator d) (in_parameter_list rest)) in
    let first = beside (in_specifiers s) (in_declarator d ++ in_parameter_list rest) (specifiers_whole s) in
    let second = beside (in_declarator d) (in_parameter_list rest) (declarator_whole d) in
    omega (arith, more, name, grouped, first, second)

parameters_need : (them : c.Parameters) → named_in them ≤ needs 0 (in_parameters them)
parameters_need c.Unstated = omega arith
parameters_need c.Void = omega arith
parameters_need (c.Listed list) = list_needs list
parameters_need (c.Open list) = list_needs list

declarator_needs : (d : c.Declarator) → named_in_declarator d ≤ needs 0 (in_declarator d)
declarator_needs (c.declarator None (c.Function them rest)) = let more = more_needs 0 (in_parameters them) (in_parts rest) in let few = parameters_need them in omega (arith, more, few)
declarator_needs (c.declarator (Some w) (c.Function them rest)) = let more = more_needs 0 (in_parameters them) (in_parts rest) in let few = parameters_need them in omega (arith, more, few)
declarator_needs (c.declarator name c.no_parts) = omega arith
declarator_needs (c.declarator name (c.Pointer q rest)) = omega arith
declarator_needs (c.declarator name (c.Array length rest)) = omega arith

external_needs : (x : c.External) → named_in_external x ≤ needs 0 (in_external x)
external_needs (c.Defines s d body) =
    let name = declarator_needs d in
    let grouped : needs 0 (in_specifiers s ++ in_declarator d ++ in_items body) ≡ needs 0 (in_specifiers s ++ (in_declarator d ++ in_items body)) =
    ap (needs 0) (append_assoc (in_specifiers s) (in_declarator d) (in_items body)) in
    let first = beside (in_specifiers s) (in_declarator d ++ in_items body) (specifiers_whole s) in
    let second = beside (in_declarator d) (in_items body) (declarator_whole d) in
    omega (arith, name, grouped, first, second)
external_needs (c.Declared d) = omega arith

pub named_needs : (unit : c.Unit) → named_in_unit unit ≤ needs 0 (nodes unit)
named_needs [] = omega arith
named_needs (x ∷ xs) =
    let more = named_needs xs in
    let here = external_needs x in
    let whole : AreWhole (in_external x) = subst AreWhole (append-nil (in_external x)) (unit_whole (x ∷ [])) in
    let two = beside (in_external x) (nodes xs) whole in
    omega (arith, more, here, two)
