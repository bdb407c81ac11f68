-- What parts of declarators make.
use Rattle.std.proofs.Common.{◌≡◌, Bool, true, false, if◌then◌else◌, Some, None, option_map, refl}
use Rattle.lt_tree.specs.Typing.Types.{is_integer}
use Rattle.lt_tree.specs.Typing.Constants as k
use Rattle.lt_tree.specs.Typing.Constants.{Constancy}
use Rattle.lt_tree.specs.Typing.Expressions.{Typed, own_type}
use Rattle.lt_tree.specs.Typing.Declarators.{length_from, length_in}
use Rattle.lt_declare.specs.Declaring.{integer_in}

length_by : (c : Constancy) (integer : Bool)
    → option_map length_from (elim c [ k.number z ↦ (if integer then Some z else None) | _ ↦ None ]) ≡ elim c [ k.number z ↦ (if integer then Some (length_from z) else None) | _ ↦ None ]
length_by (k.number z) true = refl
length_by (k.number z) false = refl
length_by k.null_constant integer = refl
length_by k.null_address integer = refl
length_by (k.address object offset) integer = refl
length_by k.varying integer = refl
length_by k.faulty integer = refl

pub length_in_is : (x : Typed) → option_map length_from (integer_in x) ≡ length_in x
length_in_is x = length_by x.constancy (is_integer (own_type x))
