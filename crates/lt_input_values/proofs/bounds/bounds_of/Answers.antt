use Rattle.std.proofs.Common.{take, refl, ap, ◌∙◌}
use Rattle.std.specs.Str.{bytes_eq}
use Rattle.lt_input_values.specs.Finding.{is_within, may_give}
use Rattle.lt_input_values.proofs.MapLaws.{bounds_more}
use Rattle.lt_input_values.proofs.Narrowing.{put_more}
use Rattle.lt_input_values.proofs.bounds.bounds_of.Goals as goal

pub loop-range-preserved : goal.loop-range-preserved
loop-range-preserved c = λ name z.
    let range = c.range-item.result in
    let there = ap (λ o. is_within o z) (c.copied.ensures ∙ c.get.ensures.value) ∙ c.loop-range.invariant c.as_slice-name.result.now z
    ∙ ap (λ named. may_give (take c.loop-range.range-index c.args.ranges.now) named z) c.as_slice-name.ensures in
    put_more c.args.ranges.now c.loop-range.range-index range name z _ _ c.copied.result c.narrowed-narrower.result (bytes_eq range.name name) c.loop-range-test.true c.range-item.is refl
    (bounds_more c.loop-range.bounds c.insert.new.self c.as_slice-name.result c.narrowed-narrower.result range.name c.as_slice-name.ensures c.in_ok-insert.ensures.updates.0 name)
    (c.narrowed-narrower.ensures z) there (c.loop-range.invariant name z)
