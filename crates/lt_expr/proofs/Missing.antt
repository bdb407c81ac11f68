-- A declarator with parts is one.
use Rattle.std.proofs.Common.{◌≡◌, ℕ, Bool, false, List, ◌∷◌, Option, Some, None, refl, ap, ◌∙◌, sym}
use Rattle.lt_tree.specs.declared.declarator.DeclaratorPart.{DeclaratorPart}
use Rattle.lt_tree.specs.declared.declarator.DeclaratorPart.TheBlock as block
use Rattle.lt_tree.specs.Tree as c
use Rattle.lt_tree.specs.View.{part_before}
use Rattle.lt_tree.specs.Records.{parts_in}
use Rattle.lt_tree.specs.Grammar.{is_missing}

one_part : (name : Option (List ℕ)) (first : DeclaratorPart) (rest : c.Parts) → is_missing name (part_before first rest) ≡ false
one_part (Some w) first rest = refl
one_part None (block.Pointer quals) rest = refl
one_part None (block.Array' length) rest = refl
one_part None (block.Function parameters) rest = refl

pub has_parts : (name : Option (List ℕ)) (parts : List DeclaratorPart) (first : DeclaratorPart) (rest : List DeclaratorPart) → parts ≡ first ∷ rest → is_missing name (parts_in parts) ≡ false
has_parts name parts first rest e = ap (λ ps. is_missing name (parts_in ps)) e ∙ one_part name first (parts_in rest)
