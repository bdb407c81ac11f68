use Rattle.std.proofs.Common.{◌++◌, ℕ, List, map, refl, ap, ◌∙◌, arith}
use Rattle.std.specs.List.{flat_map}
use Rattle.lt_tree.specs.declared.unit.External.{External}
use Rattle.lt_tree.specs.Pieces.{text_of}
use Rattle.lt_tree.specs.UnitView.{external_of}
use Rattle.lt_tree.specs.CanonUnits.{external}
use Rattle.lt_print.proofs.Rows.{next, ended}
use Rattle.lt_print.proofs.unit.canonical_text.Goals as goal

pub loop-external-init : goal.loop-external-init
loop-external-init c = ap (λ (x : List ℕ). x ++ text_of (flat_map external (map external_of c.deref-external-items.result.now))) c.new-out.ensures.items

pub loop-external-preserved : goal.loop-external-preserved
loop-external-preserved c =
    next (λ (l : List External). flat_map external (map external_of l)) (λ (l : List External). flat_map external (map external_of l)) _ c.deref-external-items.result.now c.loop-external.external-index c.external-item.result c.loop-external.out.items _ _
    c.loop-external-test.true c.external-item.is c.in_ok-put_external.ensures refl c.loop-external.invariant

pub returns : goal.returns
returns c =
    ended (λ (l : List External). flat_map external (map external_of l)) c.deref-external-items.result.now c.loop-external.external-index _ _ (omega arith) refl c.loop-external.invariant
    ∙ ap (λ (l : List External). text_of (flat_map external (map external_of l))) c.deref-external-items.ensures.value
