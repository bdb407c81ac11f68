use Rattle.std.proofs.Common.{◌∙◌, sym, ap, Some}
use Rattle.std.specs.Str.{bytes_eq}
use Rattle.lt_input_values.specs.Finding.{is_within}
use Rattle.lt_input_values.proofs.Narrowing.{narrowed_more, kept_more}
use Rattle.lt_input_values.proofs.bounds.bounds_for.Goals as goal
use Rattle.lt_input_values.proofs.bounds.bounds_for.Goals.{then-eq, else-eq}

pub loop-range-preserved : goal.loop-range-preserved
loop-range-preserved c = λ z.
    let same = c.eq.ensures ∙ ap (bytes_eq c.args.name.now) c.as_slice.ensures in
    elim c.if-eq.branch [
      | then-eq w ↦
          ap (λ o. is_within o z) w.bounds-is
          ∙ narrowed_more c.args.ranges.now c.loop-range.range-index c.range-item.result c.args.name.now z (is_within c.loop-range.bounds z) (is_within (Some w.narrowed.result) z) c.loop-range-test.true c.range-item.is (sym same ∙ w.if-eq.true) (w.narrowed.ensures z) (c.loop-range.invariant z)
      | else-eq w ↦
          ap (λ o. is_within o z) w.bounds-is
          ∙ kept_more c.args.ranges.now c.loop-range.range-index c.range-item.result c.args.name.now z (is_within c.loop-range.bounds z) c.loop-range-test.true c.range-item.is (sym same ∙ w.if-eq.false) (c.loop-range.invariant z)
    ]
