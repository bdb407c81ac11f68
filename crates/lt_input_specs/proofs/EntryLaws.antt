-- The parameters of an entry, and their default blocks.
use Rattle.std.proofs.Common.{◌≡◌, ℕ, Bool, true, false, cond, List, [], ◌∷◌, map, slice_get, Option, Some, None, refl, sym, ap, ◌∙◌, subst}
use Rattle.std.specs.Prelude.{option_map, option_to_list, ◌&&◌, not}
use Rattle.std.specs.List.{filter_map, list_all, cons_option}
use Rattle.lt_tree.specs.declared.typed.entity.Object as memory
use Rattle.lt_tree.specs.declared.typed.entity.Function as function
use Rattle.lt_tree.specs.declared.typed.types.TypeId.{TypeId}
use Rattle.lt_tree.specs.declared.typed.program.Program as typed
use Rattle.lt_tree.specs.Typing.Types.{target_of}
use Rattle.lt_tree.specs.Typing.TypeRows.{type_in}
use Rattle.lt_tree.specs.Typing.EntityView.{object_of, function_of, structs_of}
use Rattle.lt_tree.specs.Typing.Extents.{has_size}
use Rattle.lt_tree.specs.Typing.ProgramView.{program_of}
use Rattle.lt_entry.specs.Naming.{Root, object_root, parameters_of, default_block}
use Rattle.lt_input_names.specs.Blocks.{program_types}
use Rattle.lt_input_specs.specs.Defaults.{root_of, roots_at, block_to}
use Rattle.lt_input_specs.proofs.Lists.{slice_get-map}

-- the objects with these numbers, of the program's value
root_there : (program : typed.Program) (n : ℕ) → option_map object_root (slice_get (program_of program).objects n) ≡ option_map (root_of program) (slice_get program.objects.items n)
root_there program n = ap (option_map object_root) (slice_get-map (object_of (program_types program)) program.objects.items n) ∙ twice (slice_get program.objects.items n)
  where
    twice : (o : Option memory.Object) → option_map object_root (option_map (object_of (program_types program)) o) ≡ option_map (root_of program) o
    twice None = refl
    twice (Some object) = refl

roots_there : (program : typed.Program) (numbers : List ℕ) → filter_map (λ n. option_map object_root (slice_get (program_of program).objects n)) numbers ≡ roots_at program numbers
roots_there program [] = refl
roots_there program (n ∷ numbers) = ap (λ o. cons_option o (filter_map (λ n. option_map object_root (slice_get (program_of program).objects n)) numbers)) (root_there program n) ∙ ap (cons_option (option_map (root_of program) (slice_get program.objects.items n))) (roots_there program numbers)

-- the parameters of no function
pub no_parameters : (program : typed.Program) (k : ℕ) → slice_get program.functions.items k ≡ None → parameters_of (program_of program) k ≡ []
no_parameters program k none =
    let e : slice_get (map (function_of (program_types program)) program.functions.items) k ≡ None = slice_get-map (function_of (program_types program)) program.functions.items k ∙ ap (option_map (function_of (program_types program))) none in
    rw (e, parameters_of) refl

pub some_parameters : (program : typed.Program) (k : ℕ) (f : function.Function) → slice_get program.functions.items k ≡ Some f → parameters_of (program_of program) k ≡ roots_at program f.parameters.items
some_parameters program k f some =
    let e : slice_get (map (function_of (program_types program)) program.functions.items) k ≡ Some (function_of (program_types program) f) =
    slice_get-map (function_of (program_types program)) program.functions.items k ∙ ap (option_map (function_of (program_types program))) some in
    rw (e, parameters_of) (roots_there program f.parameters.items)

-- the object with a number
pub root_one : (program : typed.Program) (n : ℕ) (o : Option memory.Object) → o ≡ slice_get program.objects.items n → roots_at program (n ∷ []) ≡ option_to_list (option_map (root_of program) o)
root_one program n o is = rw (← is) (to_list o)
  where
    to_list : (o : Option memory.Object) → cons_option (option_map (root_of program) o) [] ≡ option_to_list (option_map (root_of program) o)
    to_list None = refl
    to_list (Some object) = refl

-- ---- default blocks

pub block_none : (program : typed.Program) (object : memory.Object) → None ≡ target_of (type_in (program_types program) object.ty) → default_block (program_of program) (root_of program object) ≡ None
block_none program object none =
    let e : target_of (type_in (program_types program) object.ty) ≡ None = sym none in
    rw (e, default_block) refl

pub block_some : (program : typed.Program) (object : memory.Object) (t : TypeId) (b : Bool) → Some (type_in (program_types program) t) ≡ target_of (type_in (program_types program) object.ty)
    → b ≡ has_size (structs_of (program_types program) program.structs.items) (type_in (program_types program) t) → default_block (program_of program) (root_of program object) ≡ cond b (Some (block_to program object t)) None
block_some program object t b some size =
    let e : target_of (type_in (program_types program) object.ty) ≡ Some (type_in (program_types program) t) = sym some in
    let f : has_size (structs_of (program_types program) program.structs.items) (type_in (program_types program) t) ≡ b = sym size in
    rw (e, f, default_block) refl
