-- Declarations that lie in memory, where types stand in a table.
use Rattle.std.specs.Prelude.{ℕ, Bool, ◌||◌, List, ◌++◌, map, Option, option_map}
use Rattle.std.specs.Global.{Box}
use Rattle.lt_tree.specs.declared.typed.entity.Member.{Member}
use Rattle.lt_tree.specs.Typing.Types.{CType, is_function}
use Rattle.lt_tree.specs.Typing.TypeRows.{type_in, all_in}
use Rattle.lt_tree.specs.Typing.EntityView.{member_of}
use Rattle.lt_tree.specs.Typing.Entities.{Known}
use Rattle.lt_tree.specs.Typing.Rules as r
use Rattle.lt_tree.specs.Typing.Extents as extents
use Rattle.lt_tree.specs.Typing.Expressions as x
use Rattle.lt_tree.specs.Typing.Specifying as s
use Rattle.lt_tree.specs.Typing.Declarators as d
use Rattle.lt_tree.specs.Typing.Declaring as declaring
use Rattle.lt_env.specs.NamesValue.{frame_at}
use Rattle.lt_declare.specs.declared.made.Naming.{Naming}
use Rattle.lt_declare.specs.declared.made.Setting.{Setting}
use Rattle.lt_declare.specs.declared.made.Setting.TheVariants as setting
use Rattle.lt_declare.specs.declared.made.Specified.{Specified}
use Rattle.lt_declare.specs.declared.made.Parameters.{Parameters}
use Rattle.lt_declare.specs.declared.made.Built.{Built}
use Rattle.lt_declare.specs.declared.made.Declares.{Declares}
use Rattle.lt_declare.specs.declared.made.OpenStruct.{OpenStruct}
use Rattle.lt_declare.specs.declared.made.Judging.{Judging}
use Rattle.lt_declare.specs.declared.made.Judging.TheVariants as judging

abbrev pub members_in : List CType → List Member → List extents.Member
members_in types members = map (member_of types) members

abbrev pub naming_of : List CType → Naming → s.Naming
naming_of types n = record { type = option_map (type_in types) n.ty; faults = n.faults }

abbrev pub setting_of : Setting → s.Setting
setting_of setting.Alone = s.alone
setting_of setting.InSizeof = s.in_sizeof
setting_of setting.Elsewhere = s.elsewhere

abbrev pub specified_of : List CType → Specified → s.Specified
specified_of types it = record { type = type_in types it.ty; storage = it.storage; faults = it.faults }

abbrev pub parameters_of : List CType → Parameters → d.Parameters
parameters_of types p = record {
  types = all_in types p.types.items;
  dots = p.dots;
  objects = p.objects.items;
  are_named = p.are_named;
  frame = frame_at types p.frame;
  faults = p.faults;
}

-- those that lie in a box
abbrev pub parameters_in : List CType → Box Parameters → d.Parameters
parameters_in types p = parameters_of types p.value

abbrev pub built_of : List CType → Built → d.Built
built_of types b = record { type = type_in types b.ty; faults = b.faults; parameters = option_map (parameters_in types) b.parameters }

abbrev pub declares_of : List CType → Declares → d.Declares
declares_of types it = record {
  node = it.node;
  name = it.name;
  type = type_in types it.ty;
  parameters = option_map (parameters_in types) it.parameters;
  faults = it.faults;
}

abbrev pub open_struct_of : List CType → OpenStruct → s.OpenStruct
open_struct_of types it = record { number = it.number; faults = it.faults }

-- the rules of a member, whether or not its name is declared
abbrev pub member_faults : Bool → Bool → Known → d.Built → List r.Rule
member_faults is_declared has_width known it =
    r.broken_if r.declared_twice is_declared
    ++ r.broken_if r.incomplete_type (d.is_incomplete known.structs it.type)
    ++ r.broken_if r.floating_type (x.has_floating it.type)
    ++ r.broken_if r.bad_length (d.lacks_length it.type)
    ++ r.broken_if r.bit_field has_width
    ++ r.broken_if r.function_as_value (is_function it.type || x.has_pointer_to_function it.type)

-- what is judged of what a declarator declares
abbrev pub judging_of : Judging → Option (List ℕ) → Known → d.Built → List r.Rule
judging_of judging.TypeName name known it = d.type_name_faults it
judging_of (judging.Parameter is_definition) name known it = d.parameter_faults is_definition name known it
judging_of (judging.Member is_declared has_width) name known it = member_faults is_declared has_width known it
judging_of (judging.Declaration class has_initialiser) name known it = declaring.declaration_faults class has_initialiser name known it
judging_of (judging.Definition class) name known it = declaring.definition_faults class name known it
