-- The values of rules, objects, functions, names and facts that lie in memory, where types stand in a table.
use Rattle.std.specs.Prelude.{List, map, option_map}
use Rattle.lt_tree.specs.declared.typed.rule.Rule.{Rule}
use Rattle.lt_tree.specs.declared.typed.rule.Rule.TheVariants as broken
use Rattle.lt_tree.specs.declared.typed.entity.Member.{Member}
use Rattle.lt_tree.specs.declared.typed.entity.StructType.{StructType}
use Rattle.lt_tree.specs.declared.typed.entity.Life.{Life}
use Rattle.lt_tree.specs.declared.typed.entity.Life.TheVariants as life
use Rattle.lt_tree.specs.declared.typed.entity.Object.{Object}
use Rattle.lt_tree.specs.declared.typed.entity.Declared.{Declared}
use Rattle.lt_tree.specs.declared.typed.entity.Function.{Function}
use Rattle.lt_tree.specs.declared.typed.entity.Entity.{Entity}
use Rattle.lt_tree.specs.declared.typed.entity.Entity.TheVariants as stands
use Rattle.lt_tree.specs.declared.typed.entity.Bound.{Bound}
use Rattle.lt_tree.specs.declared.typed.entity.Tagged.{Tagged}
use Rattle.lt_tree.specs.declared.typed.entity.Tagged.TheVariants as tagged
use Rattle.lt_tree.specs.declared.typed.entity.Tag.{Tag}
use Rattle.lt_tree.specs.declared.typed.entity.Frame.{Frame}
use Rattle.lt_tree.specs.declared.typed.entity.LabelInfo.{LabelInfo}
use Rattle.lt_tree.specs.declared.typed.entity.Fact.{Fact}
use Rattle.lt_tree.specs.Typing.Types.{CType}
use Rattle.lt_tree.specs.Typing.TypeRows.{type_in}
use Rattle.lt_tree.specs.Typing.ConstancyView.{constancy_of}
use Rattle.lt_tree.specs.Typing.StatementView.{start_of, items_in}
use Rattle.lt_tree.specs.Typing.Extents as x
use Rattle.lt_tree.specs.Typing.Rules as r
use Rattle.lt_tree.specs.Typing.Entities as k

abbrev pub rule_of : Rule → r.Rule
rule_of broken.UndeclaredName = r.undeclared_name
rule_of broken.DeclaredTwice = r.declared_twice
rule_of broken.NoType = r.no_type
rule_of broken.IncompleteType = r.incomplete_type
rule_of broken.FloatingType = r.floating_type
rule_of broken.BadLength = r.bad_length
rule_of broken.BitField = r.bit_field
rule_of broken.FunctionAsValue = r.function_as_value
rule_of broken.VolatileAccess = r.volatile_access
rule_of broken.BadDefinition = r.bad_definition
rule_of broken.FunctionDisagrees = r.function_disagrees
rule_of broken.OperandNotInteger = r.operand_not_integer
rule_of broken.BadSum = r.bad_sum
rule_of broken.BadComparison = r.bad_comparison
rule_of broken.NotScalar = r.not_scalar
rule_of broken.BadChoice = r.bad_choice
rule_of broken.BadAssignment = r.bad_assignment
rule_of broken.NotModifiable = r.not_modifiable
rule_of broken.BadAddress = r.bad_address
rule_of broken.NoMember = r.no_member
rule_of broken.BadCall = r.bad_call
rule_of broken.BadCast = r.bad_cast
rule_of broken.NoSize = r.no_size
rule_of broken.ConstantTooLarge = r.constant_too_large
rule_of broken.BadCase = r.bad_case
rule_of broken.StrayJump = r.stray_jump
rule_of broken.BadReturn = r.bad_return
rule_of broken.BadInitialiser = r.bad_initialiser
rule_of broken.NoBody = r.no_body
rule_of broken.BadMark = r.bad_mark

-- ---- structs

abbrev pub member_of : List CType → Member → x.Member
member_of types m = record { name = m.name; type = type_in types m.ty }

abbrev pub struct_of : List CType → StructType → x.StructType
struct_of types s = record { members = option_map (λ members. map (member_of types) members.items) s.members }

abbrev pub structs_of : List CType → List StructType → x.Structs
structs_of types list = map (struct_of types) list

-- ---- objects and functions

abbrev pub life_of : Life → k.Life
life_of life.Linked = k.linked
life_of life.LocalStatic = k.local_static
life_of life.Literal = k.literal
life_of life.Automatic = k.automatic
life_of life.Parameter = k.parameter
life_of life.Unmade = k.unmade

abbrev pub object_of : List CType → Object → k.Object
object_of types o = record { node = o.node; name = o.name; type = type_in types o.ty; life = life_of o.life; start = option_map (start_of types) o.start }

abbrev pub declared_of : List CType → Declared → k.Declared
declared_of types d = record { name = d.name; type = type_in types d.ty }

abbrev pub function_of : List CType → Function → k.Function
function_of types f = record { node = f.node; name = f.name; type = type_in types f.ty; parameters = f.parameters.items; body = items_in types f.body.items }

-- ---- names and tags

abbrev pub entity_of : List CType → Entity → k.Entity
entity_of types (stands.Object number is_register) = k.an_object number is_register
entity_of types stands.Function = k.a_function
entity_of types (stands.Typedef ty) = k.a_typedef (type_in types ty)
entity_of types (stands.Enumerator z) = k.an_enumerator z

abbrev pub bound_of : List CType → Bound → k.Bound
bound_of types b = record { name = b.name; entity = entity_of types b.entity }

abbrev pub tagged_of : Tagged → k.Tagged
tagged_of (tagged.Struct number) = k.a_struct number
tagged_of (tagged.Enum is_complete) = k.an_enum is_complete

abbrev pub tag_of : Tag → k.Tag
tag_of t = record { name = t.name; tagged = tagged_of t.tagged }

abbrev pub frame_of : List CType → Frame → k.Frame
frame_of types f = record { names = map (bound_of types) f.names.items; tags = map tag_of f.tags.items }

-- ---- labels and facts

abbrev pub label_of : LabelInfo → k.Label
label_of l = record { id = l.id; tag = l.tag; bound = l.bound.items }

abbrev pub fact_of : List CType → Fact → k.Fact
fact_of types f = record { node = f.node; type = type_in types f.ty; is_place = f.is_place; constancy = constancy_of f.constancy; object = f.object }
