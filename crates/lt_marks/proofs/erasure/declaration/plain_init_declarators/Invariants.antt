use Rattle.std.proofs.Common.{◌≡◌, drop, ◌∷◌}
use Rattle.std.specs.Prelude.{map}
use Rattle.lt_tree.specs.UnitView.{init_declarator_of}
use Rattle.lt_tree.specs.Erasure.{erased_init_declarator}
use Rattle.lt_marks.proofs.Made.{before}
use Rattle.lt_marks.proofs.erasure.declaration.plain_init_declarators.Given as goal

abbrev pub invariant-list : goal.invariant-list
invariant-list l =
    before (λ x xs. init_declarator_of x ∷ xs) l.all.items (map erased_init_declarator (map init_declarator_of (drop l.d-index l.list))) ≡ map erased_init_declarator (map init_declarator_of l.list)
