-- How declarations are gone over, part by part.
use Rattle.std.proofs.Common.{◌≡◌, Bool, false, List, [], ◌∷◌, ◌++◌, map, Option, Some, None, refl, sym, ap, ◌∙◌}
use Rattle.std.specs.Prelude.{is_some, option_map, ℕ}
use Rattle.std.proofs.lemmas.List.{append_assoc}
use Rattle.lt_tree.specs.declared.specifier.Storage.{Storage}
use Rattle.lt_tree.specs.declared.declaration.Initialiser.{Initialiser}
use Rattle.lt_tree.specs.declared.typed.statement.Local.{Local}
use Rattle.lt_tree.specs.Tree as c
use Rattle.lt_tree.specs.UnitView as source
use Rattle.lt_tree.specs.Typing.Types.{CType}
use Rattle.lt_tree.specs.Typing.StatementView.{local_of}
use Rattle.lt_tree.specs.Typing.TypedTree as e
use Rattle.lt_tree.specs.Typing.Entities.{Known}
use Rattle.lt_tree.specs.Typing.Steps.{Walk}
use Rattle.lt_tree.specs.Typing.Specifying.{Specified}
use Rattle.lt_tree.specs.Typing.Declarators.{Declares}
use Rattle.lt_tree.specs.Typing.Declaring.{Kind, declaration_faults}
use Rattle.lt_tree.specs.Typing.ExpressionTyping as expressions
use Rattle.lt_tree.specs.Typing.DeclarationTyping as typing
use Rattle.lt_declare.specs.declared.made.Judging.TheVariants as judging
use Rattle.lt_declare.specs.DeclaredViews.{judging_of}
use Rattle.lt_unit.specs.UnitViews.{with_storage}
use Rattle.lt_unit.specs.Inside.{declare_as}

there : (i : Option Initialiser) → is_some i ≡ is_some (option_map source.initialiser_of i)
there None = refl
there (Some i) = refl

-- of specifiers a declarator needs no storage class: what is judged says which one there is
pub declarator_judged : (d : c.Declarator) (it : Specified) (class : Option Storage) (has_initialiser : Bool) (i : Option Initialiser) (k : Known) → has_initialiser ≡ is_some i
    → expressions.declarator d it false (judging_of (judging.Declaration class has_initialiser)) k
    ≡ expressions.declarator d (with_storage class it) false (declaration_faults class (is_some (option_map source.initialiser_of i))) k
declarator_judged (c.declarator name parts) it class has_initialiser i k e =
    ap (λ b. expressions.declarator (c.declarator name parts) it false (declaration_faults class b) k) (e ∙ there i)

pub without_name : (kind : Kind) (declared : Declares) (i : Option c.Initialiser) (k : Known) → declared.name ≡ None → typing.no_object i k ≡ declare_as kind declared i k
without_name kind declared i k is =
    let as_named : Option (List ℕ) → Walk (List e.Local) = λ n. elim n [ None ↦ typing.no_object i | Some name ↦ typing.declare kind declared.node name declared.type i ] in
    ap (λ n. as_named n k) (sym is)

pub with_name : (kind : Kind) (declared : Declares) (name : List ℕ) (i : Option c.Initialiser) (k : Known) → declared.name ≡ Some name
    → typing.declare kind declared.node name declared.type i k ≡ declare_as kind declared i k
with_name kind declared name i k is =
    let as_named : Option (List ℕ) → Walk (List e.Local) = λ n. elim n [ None ↦ typing.no_object i | Some name ↦ typing.declare kind declared.node name declared.type i ] in
    ap (λ n. as_named n k) (sym is)

-- local objects behind others
pub locals_more : (old one new rest : List e.Local) → new ≡ old ++ one → new ++ rest ≡ old ++ (one ++ rest)
locals_more old one new rest e = ap (λ l. l ++ rest) e ∙ append_assoc old one rest
