-- Exact copies of parts, of the copies of their own parts.
use Rattle.std.proofs.Common.{◌≡◌, refl, sym, ap, ap₂, ◌∙◌, subst, ℕ, ◌+◌, List, ◌++◌, length, length-append, Option, Some, None, arith}
use Rattle.std.specs.Prelude.{Result}
use Rattle.lt_tree.specs.declared.declarator.Declarator.{Declarator}
use Rattle.std.specs.Global.{Box}
use Rattle.lt_tree.specs.declared.declarator.DeclaratorPart.{DeclaratorPart}
use Rattle.lt_tree.specs.declared.declarator.DeclaratorPart.TheVariants as part
use Rattle.lt_tree.specs.declared.expression.Expr.{Expr}
use Rattle.lt_tree.specs.declared.specifier.Specifiers.{Specifiers}
use Rattle.lt_tree.specs.declared.specifier.TypeSpecifier.{TypeSpecifier}
use Rattle.lt_tree.specs.Tree as t
use Rattle.lt_tree.specs.View.{type_of, part_before}
use Rattle.lt_tree.specs.Records.{specifiers_of, declarator_of, maybe_in, types_in, parts_in}
use Rattle.lt_tree.specs.Nodes.{Node, if_written, in_specifiers, in_declarator, in_types, in_type, in_maybe, in_parts}
use Rattle.lt_placing.specs.declared.walk.Walk.{Walk}
use Rattle.lt_placing.specs.Walks.{GoesOn, Passes, Copies, in_first_part}
use Rattle.lt_placing.proofs.Standing.{stands}
use Rattle.lt_placing.proofs.Sequences.{becomes, then_passed}

pub pair_copied : {A B : Type 0} {before mid now : Walk} (x a : A) (y b : B) (xs ys : List Node) → Passes before mid (λ new k. x ≡ a) xs → Passes mid now (λ new k. y ≡ b) ys →
    Passes before now (λ new k. (x ≡ a) × (y ≡ b)) (xs ++ ys)
pair_copied x a y b xs ys p q =
    becomes (λ new k. (x ≡ a) × (y ≡ b)) (λ new k. (x ≡ a) × (y ≡ b)) (length xs + length ys) (length (xs ++ ys)) (sym (length-append xs ys)) (λ new k so. so)
    (then_passed (λ new k. x ≡ a) (λ new k. y ≡ b) (length xs) (length ys) p q)

pub specifiers_copied : {before now : Walk} (made s : Specifiers) (list : List TypeSpecifier) → made.storage.items ≡ s.storage.items → made.inline ≡ s.inline → made.noreturn ≡ s.noreturn →
    made.quals ≡ s.quals → list ≡ s.types.items → Passes before now (λ new k. types_in made.types.items ≡ types_in list) (in_types (types_in list)) →
    Passes before now (λ new k. specifiers_of made ≡ specifiers_of s) (in_specifiers (specifiers_of s))
specifiers_copied {before} {now} made s list storage inline noreturn quals same p new k at =
    let q : Passes before now (λ new k. types_in made.types.items ≡ types_in s.types.items) (in_types (types_in s.types.items)) =
    subst (λ xs. Passes before now (λ new k. types_in made.types.items ≡ types_in xs) (in_types (types_in xs))) same p in
    let so = q new k at in
    let types : types_in made.types.items ≡ types_in s.types.items = so.0 in
    (cc, so.1)

-- its own node first, if it is one
pub declarator_copied : {before mid now : Walk} (made d : Declarator) (list : List DeclaratorPart) → made.name ≡ d.name → list ≡ d.parts.items →
    GoesOn before mid (length (if_written d.name (parts_in d.parts.items))) → Passes mid now (λ new k. parts_in made.parts.items ≡ parts_in list) (in_parts (parts_in list)) →
    Passes before now (λ new k. declarator_of made ≡ declarator_of d) (in_declarator (declarator_of d))
declarator_copied {before} {mid} {now} made d list name same s p new k at =
    let own : ℕ = length (if_written d.name (parts_in d.parts.items)) in
    let q : Passes mid now (λ new k. parts_in made.parts.items ≡ parts_in d.parts.items) (in_parts (parts_in d.parts.items)) =
    subst (λ xs. Passes mid now (λ new k. parts_in made.parts.items ≡ parts_in xs) (in_parts (parts_in xs))) same p in
    let so = q new (k + own) (s new k at) in
    let sum : length (if_written d.name (parts_in d.parts.items) ++ in_parts (parts_in d.parts.items)) ≡ own + length (in_parts (parts_in d.parts.items)) =
    length-append (if_written d.name (parts_in d.parts.items)) (in_parts (parts_in d.parts.items)) in
    (ap₂ t.declarator name so.0, stands (k + length (in_declarator (declarator_of d))) so.1 (omega (arith, sum)))

-- a type that another call gives
pub type_given : {E : Type 0} (r : Result TypeSpecifier E) (before now : Walk) (e same : t.TypeSpecifier) → e ≡ same → Copies before now r type_of same (in_type same) →
    Copies before now r type_of e (in_type e)
type_given r before now e same is h = subst (λ x. Copies before now r type_of x (in_type x)) (sym is) h

-- that a part of a declarator is copied, whatever parts follow
abbrev pub PartCopied : Walk → Walk → DeclaratorPart → DeclaratorPart → Type 0
PartCopied before now made p = Passes before now (λ new k. (rest : t.Parts) → part_before made rest ≡ part_before p rest) (in_first_part (part_before p t.no_parts))

array_is : (given : Option (Box Expr)) (rest : t.Parts) → part_before (part.Array given) rest ≡ t.Array (maybe_in given) rest
array_is None rest = refl
array_is (Some e) rest = refl

-- an array's length, if it is given
pub array_copied : (before now : Walk) (made given : Option (Box Expr)) → Passes before now (λ new k. maybe_in made ≡ maybe_in given) (in_maybe (maybe_in given)) →
    PartCopied before now (part.Array made) (part.Array given)
array_copied before now made given p new k at =
    let so = p new k at in (
      λ rest. array_is made rest ∙ ap (λ m. t.Array m rest) so.0 ∙ sym (array_is given rest),
      stands (k + length (in_first_part (part_before (part.Array given) t.no_parts))) so.1 (ap (λ p. k + length (in_first_part p)) (sym (array_is given t.no_parts))),
    )
