use Rattle.std.proofs.Common.{sym, ◌∙◌, map}
use Rattle.std.proofs.lemmas.Bool.{false≢true}
use Rattle.std.specs.Ordering.{nat_cmp}
use Rattle.std.specs.Cmp.Lexicographic.{slice_cmp}
use Rattle.lt_cover.proofs.Rising.{rise_start, names_rise_more, names_rise_before, less_told, less_missed}
use Rattle.lt_cover.proofs.covering.rise.Goals as goal

pub loop-i-init : goal.loop-i-init
loop-i-init c = rise_start (slice_cmp nat_cmp) (map (λ n. n.now) c.args.names.now)

pub returns-then-ne : goal.returns-then-ne
returns-then-ne c =
    (λ bad. absurd (false≢true bad), λ h. absurd (less_missed c.cmp.result c.ne.result c.ne.ensures c.if-ne.true (c.cmp.ensures ∙ names_rise_before c.args.names.now c.loop-i.i c.loop-i.auto.i c.loop-i-test.true h)))

pub loop-i-preserved : goal.loop-i-preserved
loop-i-preserved c = names_rise_more c.args.names.now c.loop-i.i c.loop-i.auto.i c.loop-i-test.true (sym c.cmp.ensures ∙ less_told c.cmp.result c.ne.result c.ne.ensures c.if-ne.false) c.loop-i.invariant
