-- Pure expressions in rows, as lists.
use Rattle.std.proofs.Common.{◌≡◌, ◌∙◌, ap, refl}
use Rattle.std.specs.Global.{Vec}
use Rattle.lt_ir.specs.declared.pure.Pure.{Pure}
use Rattle.lt_ir.specs.declared.pure.Pure as pure
use Rattle.lt_ir.specs.declared.pure.Pure.TheVariants as variant
use Rattle.lt_ir.specs.declared.pure.Pure.TheBlock as at
use Rattle.lt_ir.specs.PureView.{pure_of, pures_of}
use Rattle.lt_ir.specs.Pure.{a_pure, Comma}
use Rattle.lt_acts.specs.Looking.{pures_in}

pures_row : {n : _} → (row : at.Row_of-Pure n) → pures_of row ≡ pures_in (at.items-the_row-Pure n row)
pures_row at.end_of-Pure = refl
pures_row (at.more_of-Pure first rest) = ap (a_pure (pure_of first)) (pures_row rest)

pub comma_is : (all : Vec Pure) → pure_of (variant.Comma all) ≡ Comma (pures_in all.items)
comma_is all = ap Comma (pures_row (at.hidden-the_row-Pure-0 all) ∙ ap pures_in (pure.items_hidden-the_row-Pure-0 all))
