-- Objects that a function's statements begin.
use Rattle.std.proofs.Common.{◌≡◌, ℕ, false, Some, None, List, map, slice_get, refl, ap, ◌∙◌}
use Rattle.std.specs.Prelude.{option_map}
use Rattle.std.proofs.lemmas.Option.{slice_get-map}
use Rattle.lt_model.specs.declared.cell.Shape.{Shape}
use Rattle.lt_tree.specs.Typing.Entities.{Function}
use Rattle.lt_tree.specs.Typing.Programs.{Program}
use Rattle.lt_ir.specs.declared.variable.Variable.TheVariants as variable
use Rattle.lt_ir.specs.Graph.{shape_at}
use Rattle.lt_meaning.specs.Expressions.{shape}
use Rattle.lt_meaning.specs.Statements.{type_of_object}
use Rattle.lt_meaning.specs.Runs.{variable_of, other_variable, locals_of, is_there_first}
use Rattle.lt_tables.specs.Lookups.{parameter_number, local_number}
use Rattle.lt_emit.specs.Emission.{local_shapes}
use Rattle.lt_emit.proofs.Found.{number_there, in_front}

pub own_is_local :
    (program : Program) (f : Function) (n k : ℕ) → local_number f n ≡ Some k → parameter_number f n ≡ None
    → is_there_first program n ≡ false → variable_of program f n ≡ variable.Local k
own_is_local program f n k is none later = rw (none, variable_of) (rw (later, other_variable) (rw (is, other_variable) refl))

shape_of_place : (shapes : List Shape) (k : ℕ) (it : Shape) → slice_get shapes k ≡ Some it → shape_at shapes k ≡ it
shape_of_place shapes k it is = rw (is, shape_at) refl

pub own_shape : (program : Program) (f : Function) (n k : ℕ) → local_number f n ≡ Some k
    → shape_at (local_shapes program f) k ≡ shape program (type_of_object program n)
own_shape program f n k is =
    shape_of_place (local_shapes program f) k (shape program (type_of_object program n))
    (in_front (map (λ n. shape program (type_of_object program n)) (locals_of f.body)) _ k (shape program (type_of_object program n))
    (slice_get-map (λ n. shape program (type_of_object program n)) (locals_of f.body) k
    ∙ ap (option_map (λ n. shape program (type_of_object program n))) (number_there (locals_of f.body) n k is)))

pub same_local : {k l : ℕ} → variable.Local k ≡ variable.Local l → k ≡ l
same_local is = cc
