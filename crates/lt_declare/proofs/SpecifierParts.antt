-- What specifiers say together.
use Rattle.std.proofs.Common.{◌≡◌, ◌&&◌, nat_le, List, [], ◌∷◌, ◌++◌, length, map, Option, is_some, option_map, unwrap_or, refl, ap, ◌∙◌}
use Rattle.lt_model.specs.declared.scalar.Scalar.TheVariants as S
use Rattle.lt_tree.specs.declared.specifier.Storage.{Storage}
use Rattle.lt_tree.specs.declared.typed.types.TypeId.{TypeId}
use Rattle.lt_tree.specs.Tree as c
use Rattle.lt_tree.specs.Typing.Types.{CType, Num, qualified}
use Rattle.lt_tree.specs.Typing.TypeRows.{type_in}
use Rattle.lt_tree.specs.Typing.Rules.{Rule, unless, no_type}
use Rattle.lt_tree.specs.Typing.Specifying as typing
use Rattle.lt_declare.specs.declared.made.Naming as held
use Rattle.lt_declare.specs.DeclaredViews.{naming_of, specified_of}
use Rattle.lt_declare.specs.Declaring.{all_faults}
use Rattle.lt_declare.proofs.Steps.{some_mapped}

faults_same : (types : List CType) (namings : List held.Naming) → all_faults namings ≡ typing.faults_among (map (naming_of types) namings)
faults_same types [] = refl
faults_same types (naming ∷ namings) = ap (λ l. naming.faults ++ l) (faults_same types namings)

pub specified_is : (types : List CType) (words : c.Words) (namings : List held.Naming) (named : Option TypeId) (ty : TypeId) (storage : Option Storage) (faults : List Rule)
    → option_map (type_in types) named ≡ typing.only_type (map (naming_of types) namings)
    → type_in types ty ≡ qualified words.qualifiers (unwrap_or (option_map (type_in types) named) (Num S.Int))
    → storage ≡ typing.first_class words.storage
    → faults ≡ unless (is_some named && nat_le (length words.storage) 1) no_type ++ all_faults namings
    → specified_of types (record { ty = ty; storage = storage; faults = faults }) ≡ typing.specified words (map (naming_of types) namings)
specified_is types words namings named ty storage faults one made first broken =
    let ns : List typing.Naming = map (naming_of types) namings in
    let t : CType = qualified words.qualifiers (unwrap_or (typing.only_type ns) (Num S.Int)) in
    let s : Option Storage = typing.first_class words.storage in
    let all = broken ∙ ap (λ b. unless (b && nat_le (length words.storage) 1) no_type ++ all_faults namings) (some_mapped (type_in types) named (typing.only_type ns) one)
    ∙ ap (λ l. unless (is_some (typing.only_type ns) && nat_le (length words.storage) 1) no_type ++ l) (faults_same types namings) in
    ap (λ u. record { type = u; storage = storage; faults = faults }) (made ∙ ap (λ o. qualified words.qualifiers (unwrap_or o (Num S.Int))) one)
    ∙ ap (λ x. record { type = t; storage = x; faults = faults }) first
    ∙ ap (λ f. record { type = t; storage = s; faults = f }) all
