-- The domains of objects by what is known of them.
use Rattle.std.proofs.Common.{◌≡◌, Bool, true, false, cond, List, [], ◌∷◌, ◌++◌, Option, Some, None, slice_get, refl, sym, ap, ◌∙◌}
use Rattle.std.specs.List.{flat_map}
use Rattle.std.proofs.lemmas.List.Concat.{flat_map-append}
use Rattle.lt_model.specs.declared.operator.Op.TheVariants as O
use Rattle.lt_tree.specs.Tree as c
use Rattle.lt_tree.specs.Typing.Types.{CType, is_pointer}
use Rattle.lt_tree.specs.Typing.Entities.{Object}
use Rattle.lt_tree.specs.Typing.Programs.{Program}
use Rattle.lt_objectives.specs.Decisions.{zero_constant}
use Rattle.lt_objectives.specs.Mutants.{is_signed_integer}
use Rattle.lt_objectives.specs.Objectives.{domains, domains_of_object}
use Rattle.lt_facts.specs.declared.types.Family.{Family}
use Rattle.lt_facts.specs.declared.types.Family.TheVariants as F
use Rattle.lt_facts.specs.Families.{family, is_integer_family, is_pointer_family, is_signed_family}
use Rattle.lt_facts.specs.Parameters.{Known, is_volatile, known_of, known_domains, family_domains, DomainsAreKnown}
use Rattle.lt_facts.proofs.TypeFamilies.{kinds}

-- the domains by what a type is
abbrev by_kind : (volatile pointer signed integer : Bool) → c.Expression → List c.Expression
by_kind volatile pointer signed integer e =
    cond volatile []
    (cond pointer (c.Binary O.Eq e zero_constant ∷ c.Binary O.Ne e zero_constant ∷ [])
    (cond signed (c.Binary O.Lt e zero_constant ∷ c.Binary O.Eq e zero_constant ∷ c.Binary O.Gt e zero_constant ∷ [])
    (cond integer (c.Binary O.Eq e zero_constant ∷ c.Binary O.Gt e zero_constant ∷ []) [])))

by_family : (volatile : Bool) (f : Family) (e : c.Expression) → cond volatile [] (family_domains f e) ++ [] ≡ by_kind volatile (is_pointer_family f) (is_signed_family f) (is_integer_family f) e
by_family true f e = refl
by_family false F.Signed e = refl
by_family false F.Unsigned e = refl
by_family false F.Pointer e = refl
by_family false F.Other e = refl

of_type : (program : Program) (t : CType) (e : c.Expression) → cond (is_volatile t) [] (family_domains (family program.model t) e) ++ [] ≡ domains program.model t e
of_type program t e =
    by_family (is_volatile t) (family program.model t) e
    ∙ ap (λ b. by_kind (is_volatile t) b (is_signed_family (family program.model t)) (is_integer_family (family program.model t)) e) (sym (kinds program.model t).pointer)
    ∙ ap (λ b. by_kind (is_volatile t) (is_pointer t) b (is_integer_family (family program.model t)) e) (sym (kinds program.model t).signed)
    ∙ ap (λ b. by_kind (is_volatile t) (is_pointer t) (is_signed_integer program.model t) b e) (sym (kinds program.model t).integer)

of_object : (program : Program) (found : Option Object)
    → flat_map known_domains (elim found as (λ _. List Known) [
      | None ↦ []
      | Some object ↦ record { name = object.name; family = family program.model object.type; is_volatile = is_volatile object.type } ∷ []
    ])
    ≡ elim found as (λ _. List c.Expression) [ None ↦ [] | Some object ↦ domains program.model object.type (c.Name object.name) ]
of_object program None = refl
of_object program (Some object) = of_type program object.type (c.Name object.name)

pub domains_known : DomainsAreKnown
domains_known program [] = refl
domains_known program (n ∷ numbers) =
    flat_map-append known_domains (known_of program n) (flat_map (known_of program) numbers)
    ∙ ap (λ es. es ++ flat_map known_domains (flat_map (known_of program) numbers)) (of_object program (slice_get program.objects n))
    ∙ ap (λ es. domains_of_object program n ++ es) (domains_known program numbers)
