use Rattle.std.proofs.Common.{◌≡◌, ◌∙◌, sym}
use Rattle.std.specs.Ordering.{nat_cmp}
use Rattle.std.specs.Cmp.Lexicographic.{slice_cmp}
use Rattle.std.specs.declared.cmp.Ordering.TheVariants.{Less, Equal, Greater}
use Rattle.lt_merge.proofs.NameWalks.{names_start, names_left, names_right, names_both, names_alone, names_rise, names_of_both}
use Rattle.lt_merge.proofs.union.names_of_either.Goals as goal

pub walk-init : goal.walk-init
walk-init c = names_start _ _ _ c.requires.first c.requires.second c.new-names.ensures.items

pub walk-preserved-in_default-split_first : goal.walk-preserved-in_default-split_first
walk-preserved-in_default-split_first c = names_alone _ _ _ _ _ _ _ _ c.walk.invariant c.in-Some.ensures.cases.0 c.in_default-split_first.ensures.cases c.in_ok-add_name.ensures

pub walk-preserved-in-Less : goal.walk-preserved-in-Less
walk-preserved-in-Less c =
    let order : slice_cmp nat_cmp c.in-Some.x.now c.in-Some-split_first.y.now ≡ Less = rw (← c.as_slice.ensures, ← c.as_slice-in-Some.ensures) (sym c.cmp.ensures ∙ c.in-Less.is) in
    names_left _ _ _ _ _ _ _ _ _ _ c.walk.invariant c.in-Some.ensures.cases.0 c.in-Some-split_first.ensures.cases.0 c.in_ok-add_name-in-Less.ensures order

pub walk-preserved-in-Equal : goal.walk-preserved-in-Equal
walk-preserved-in-Equal c =
    let order : slice_cmp nat_cmp c.in-Some.x.now c.in-Some-split_first.y.now ≡ Equal = rw (← c.as_slice.ensures, ← c.as_slice-in-Some.ensures) (sym c.cmp.ensures ∙ c.in-Equal.is) in
    names_both _ _ _ _ _ _ _ _ _ _ c.walk.invariant c.in-Some.ensures.cases.0 c.in-Some-split_first.ensures.cases.0 c.in_ok-add_name-in-Equal.ensures order

pub walk-preserved : goal.walk-preserved
walk-preserved c =
    let order : slice_cmp nat_cmp c.in-Some.x.now c.in-Some-split_first.y.now ≡ Greater = rw (← c.as_slice.ensures, ← c.as_slice-in-Some.ensures) (sym c.cmp.ensures ∙ c.in-Greater.is) in
    names_right _ _ _ _ _ _ _ _ _ _ c.walk.invariant c.in-Some.ensures.cases.0 c.in-Some-split_first.ensures.cases.0 c.in_ok-add_name-in-Greater.ensures order

pub returns-clause-rise : goal.returns-clause-rise
returns-clause-rise c = names_rise _ _ _ _ _ _ c.walk.invariant c.in_ok-add_names.ensures

pub returns-clause-names : goal.returns-clause-names
returns-clause-names c = names_of_both _ _ _ _ _ _ c.walk.invariant c.in_default.ensures.cases c.in_ok-add_names.ensures
