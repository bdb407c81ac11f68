-- What is known of an object that lies in memory.
use Rattle.std.proofs.Common.{◌≡◌, ℕ, ◌<◌, Bool, List, [], ◌∷◌, length, get_or, slice_get, Option, Some, None, refl, sym, ap, ◌∙◌}
use Rattle.std.specs.Prelude.{option_map}
use Rattle.std.proofs.lemmas.Option.{slice_get-map, slice_get_read}
use Rattle.lt_model.specs.declared.scalar.DataModel.{DataModel}
use Rattle.lt_tree.specs.declared.typed.entity.Object.{Object}
use Rattle.lt_tree.specs.declared.typed.program.Program.{Program}
use Rattle.lt_tree.specs.Typing.Entities as k
use Rattle.lt_tree.specs.Typing.TypeRows.{type_in, types_of_rows}
use Rattle.lt_tree.specs.Typing.EntityView.{object_of}
use Rattle.lt_tree.specs.Typing.ProgramView.{program_of}
use Rattle.lt_facts.specs.declared.types.Family.{Family}
use Rattle.lt_facts.specs.Families.{family}
use Rattle.lt_facts.specs.Parameters.{Known, is_volatile, known_of}

abbrev known : List ℕ → Family → Bool → List Known
known name family volatile = record { name = name; family = family; is_volatile = volatile } ∷ []

abbrev known_object : DataModel → Option k.Object → List Known
known_object m found = elim found as (λ _. List Known) [ None ↦ [] | Some object ↦ known object.name (family m object.type) (is_volatile object.type) ]

pub object_known : (p : Program) (objects : List Object) (n : ℕ) (object : Object) (of : Family) (volatile : Bool) → objects ≡ p.objects.items → n < length objects → object ≡ get_or objects n object
    → of ≡ family p.model (type_in (types_of_rows p.table.items) object.ty) → volatile ≡ is_volatile (type_in (types_of_rows p.table.items) object.ty)
    → record { name = object.name; family = of; is_volatile = volatile } ∷ [] ≡ known_of (program_of p) n
object_known p objects n object of volatile list within is has_family has_volatile =
    let view = object_of (types_of_rows p.table.items) in
    ap (λ f. known object.name f volatile) has_family
    ∙ ap (known object.name (family p.model (type_in (types_of_rows p.table.items) object.ty))) has_volatile
    ∙ ap (λ found. known_object p.model (option_map view found)) (sym (slice_get_read objects (length objects) n object refl within is) ∙ ap (λ l. slice_get l n) list)
    ∙ ap (known_object p.model) (sym (slice_get-map view p.objects.items n))
