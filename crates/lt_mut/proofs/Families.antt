-- What the families of a survey say of types.
use Rattle.std.proofs.Common.{◌≡◌, refl, sym, ap, ◌∙◌, ℕ, ◌<◌, Bool, ◌&&◌, List, length, Some}
use Rattle.std.specs.List.{slice_get}
use Rattle.lt_tree.specs.Tree as c
use Rattle.lt_tree.specs.Nodes.{an_expression, nodes}
use Rattle.lt_tree.specs.Typing.Types.{is_integer}
use Rattle.lt_tree.specs.Typing.Programs.{Program}
use Rattle.lt_objectives.specs.Places.{type_at}
use Rattle.lt_objectives.specs.Mutants.{is_signed_integer}
use Rattle.lt_objectives.specs.Objectives.{left_type, right_type}
use Rattle.lt_facts.specs.declared.types.Family.{Family}
use Rattle.lt_facts.specs.declared.types.Family.TheVariants as F
use Rattle.lt_facts.specs.Facts.{families}
use Rattle.lt_facts.specs.Families.{family, is_integer_family, is_signed_family}
use Rattle.lt_facts.proofs.TypeFamilies.{kinds}
use Rattle.lt_places.proofs.Numbered.{node_at}
use Rattle.lt_survey.proofs.Sites.{read_by_number}
use Rattle.lt_mut.specs.Operands.{left_number, right_number, family_at}
use Rattle.lt_mut.proofs.ValueParts.{left_within, right_within}

family_there : (unit : c.Unit) (program : Program) (list : List Family) (k : ℕ) → list ≡ families unit program → k < length (nodes unit) → family_at list k ≡ family program.model (type_at unit program k)
family_there unit program list k are within =
    let there = node_at (nodes unit) k within in read_by_number unit (λ n. family program.model (type_at unit program n)) list k there.0 F.Other are there.1

pub signed_known : (unit : c.Unit) (program : Program) (list : List Family) (k : ℕ) → list ≡ families unit program → k < length (nodes unit)
    → is_signed_integer program.model (type_at unit program k) ≡ is_signed_family (family_at list k)
signed_known unit program list k are within =
    (kinds program.model (type_at unit program k)).signed ∙ ap is_signed_family (sym (family_there unit program list k are within))

integer_known : (unit : c.Unit) (program : Program) (list : List Family) (k : ℕ) → list ≡ families unit program → k < length (nodes unit)
    → is_integer (type_at unit program k) ≡ is_integer_family (family_at list k)
integer_known unit program list k are within =
    (kinds program.model (type_at unit program k)).integer ∙ ap is_integer_family (sym (family_there unit program list k are within))

left_type_is : (unit : c.Unit) (program : Program) (k : ℕ) (e : c.Expression) → left_type unit program k e ≡ type_at unit program (left_number k e)
left_type_is unit program k (c.Binary op left right) = refl
left_type_is unit program k e = refl

right_type_is : (unit : c.Unit) (program : Program) (k : ℕ) (e : c.Expression) → right_type unit program k e ≡ type_at unit program (right_number k e)
right_type_is unit program k (c.Binary op left right) = refl
right_type_is unit program k e = refl

both : {a b x y : Bool} → a ≡ x → b ≡ y → (a && b) ≡ (x && y)
both {a} {b} {x} {y} p q = ap (λ z. z && b) p ∙ ap (λ z. x && z) q

pub integers_known : (unit : c.Unit) (program : Program) (list : List Family) (k : ℕ) (e : c.Expression) (left right : ℕ) → list ≡ families unit program
    → slice_get (nodes unit) k ≡ Some (an_expression e) → left ≡ left_number k e → right ≡ right_number k e
    → (is_integer (left_type unit program k e) && is_integer (right_type unit program k e)) ≡ (is_integer_family (family_at list left) && is_integer_family (family_at list right))
integers_known unit program list k e left right are at l r =
    both
    (ap is_integer (left_type_is unit program k e) ∙ integer_known unit program list (left_number k e) are (left_within unit k e at) ∙ ap (λ n. is_integer_family (family_at list n)) (sym l))
    (ap is_integer (right_type_is unit program k e) ∙ integer_known unit program list (right_number k e) are (right_within unit k e at) ∙ ap (λ n. is_integer_family (family_at list n)) (sym r))
