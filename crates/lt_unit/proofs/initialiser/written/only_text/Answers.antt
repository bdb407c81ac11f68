use Rattle.std.proofs.Common.{◌≡◌, List, [], ◌∷◌, length, None, refl, sym, ap, ◌∙◌, arith}
use Rattle.std.proofs.lemmas.Bool.Decides.{nat_tests}
use Rattle.lt_tree.specs.declared.declaration.Initialiser.{Initialiser}
use Rattle.lt_tree.specs.declared.declaration.Initialiser.TheBlock as init
use Rattle.lt_tree.specs.UnitView.{initialisers_in}
use Rattle.lt_tree.specs.Typing.Filling.{only_text}
use Rattle.lt_unit.proofs.initialiser.written.only_text.Goals as goal

not_alone : (first : Initialiser) (rest : List Initialiser) → (length rest ≡ 0 → ⊥) → None ≡ only_text (initialisers_in (first ∷ rest))
not_alone first [] n = absurd (n refl)
not_alone (init.Expression e) (second ∷ rest) n = refl
not_alone (init.List' shape parts) (second ∷ rest) n = refl

pub returns-then-not-is_empty : goal.returns-then-not-is_empty
returns-then-not-is_empty c =
    let more : length c.in_ok-first.rest.now ≡ 0 → ⊥ = grind (arith, nat_tests) in
    not_alone c.in_ok-first.first.now c.in_ok-first.rest.now more ∙ ap (λ list. only_text (initialisers_in list)) (sym c.in_ok-first.ensures.cases.0)
