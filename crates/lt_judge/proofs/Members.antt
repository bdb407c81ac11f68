-- Members of structs as expressions, and the sizes of objects.
use Rattle.std.proofs.Common.{◌≡◌, ℕ, Bool, List, map}
use Rattle.lt_tree.specs.Typing.Types.{CType, qualified, qualifiers_of}
use Rattle.lt_tree.specs.Typing.Constants.{Constancy, varying, faulty, number, null_constant, null_address, address}
use Rattle.lt_tree.specs.Typing.TypedTree as e
use Rattle.lt_tree.specs.Typing.Extents.{Placed}
use Rattle.lt_tree.specs.Typing.Expressions.{Typed, a_place, own_type, place_in}
use Rattle.lt_tree.specs.Typing.Operations.{part_of, object_size}
use Rattle.lt_tree.specs.Typing.Entities.{Known}
use Rattle.lt_tree.specs.Typing.EntityView.{object_of}
use Rattle.lt_tree.specs.declared.typed.entity.Object.{Object}
use Rattle.lt_table.specs.ConstantViews.{IsExtent}
use Rattle.lt_table.specs.TypesValue.{TypesValue, structs_at}
use Rattle.lt_judge.specs.Knowing.{known_with}

pub part_is : (x : Typed) (member : Placed) {p : e.Place} {t : CType} {o : ℕ} {d : Constancy} {r a : Bool} → p ≡ e.Part (qualified (qualifiers_of (own_type x)) t) o (place_in x) → member.type ≡ t → member.offset ≡ o
    → d ≡ (part_of x member).constancy → r ≡ x.is_register → a ≡ x.is_after → record { form = a_place p; is_register = r; is_after = a; constancy = d; erased = d } ≡ part_of x member
part_is x member place type offset d r a = rw (place, ← type, ← offset, d, r, a)

-- the size of an object is known by the types and objects alone
pub extent_as : (longer : List CType) (types : TypesValue) (objects : List Object) (known : Known) (extent : ℕ) (c : Constancy) → known.model ≡ types.model → known.structs ≡ structs_at longer types
    → known.objects ≡ map (object_of longer) objects → IsExtent (object_size (known_with longer types objects)) extent c → IsExtent (object_size known) extent c
extent_as longer types objects known extent (address object offset) model structs placed is = rw (model, structs, placed) is
extent_as longer types objects known extent varying model structs placed is = tt
extent_as longer types objects known extent faulty model structs placed is = tt
extent_as longer types objects known extent (number z) model structs placed is = tt
extent_as longer types objects known extent null_constant model structs placed is = tt
extent_as longer types objects known extent null_address model structs placed is = tt
