-- What one argument of a call is asked, and what is passed for it: it has a parameter, or it stands behind the parameters.
use Rattle.std.specs.Prelude.{Bool, not, Option, Some, None}
use Rattle.lt_model.specs.declared.scalar.DataModel.{DataModel}
use Rattle.lt_tree.specs.Typing.Types.{CType, is_void}
use Rattle.lt_tree.specs.Typing.TypedTree.{Value}
use Rattle.lt_tree.specs.Typing.Expressions.{Typed, own_type, value_in, converted_to}
use Rattle.lt_tree.specs.Typing.Operations.{fits, promoted_argument}

abbrev pub fits_at : Option CType → Typed → Bool
fits_at None x = not (is_void (own_type x))
fits_at (Some t) x = fits t x

abbrev pub passed_at : DataModel → Option CType → Typed → Value
passed_at m None x = promoted_argument m x
passed_at m (Some t) x = converted_to t (value_in x)
