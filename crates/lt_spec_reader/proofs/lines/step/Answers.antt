use Rattle.std.proofs.Common.{Bor, List, ℕ, map, refl, sym, subst}
use Rattle.lt_entry.specs.Views.{numeral_view}
use Rattle.lt_entry.specs.LineViews.{line_view, range_view, points_view, require_view}
use Rattle.lt_spec_reader.specs.declared.state.State.{State}
use Rattle.lt_spec_reader.specs.States.{IsStep}
use Rattle.lt_spec_reader.proofs.Loops.{ok_map}
use Rattle.lt_spec_reader.proofs.StateLaws.{block_step, said_step, stub_step, require_step}
use Rattle.lt_spec_reader.proofs.lines.step.Goals as goal

pub returns-in-Block-clause-step : goal.returns-in-Block-clause-step
returns-in-Block-clause-step c = λ program rows entry before is.
    let state : State = c.args.state.now in
    let new : State = record { names = c.block.new.names; types = state.types; blocks = c.block.new.blocks; wants = state.wants; ranges = state.ranges } in
    ok_map _ _ c.block.result
    (λ it was. subst (λ l. IsStep program rows entry before (line_view l) new it) (sym c.in-Block.is) (block_step program rows entry before state new c.in-Block.it.name.now (map (λ (word : Bor (List ℕ)). word.now) c.in-Block.it.ty.items) (numeral_view c.in-Block.it.count) it is was refl refl refl))
    c.block.ensures

pub returns-in-Range-clause-step : goal.returns-in-Range-clause-step
returns-in-Range-clause-step c = λ program rows entry before is.
    let state : State = c.args.state.now in
    let new : State = record { names = state.names; types = state.types; blocks = state.blocks; wants = c.range.new.wants; ranges = state.ranges } in
    ok_map _ _ c.range.result
    (λ it was. subst (λ l. IsStep program rows entry before (line_view l) new it) (sym c.in-Range.is) (said_step program rows entry before state new (range_view c.in-Range.it) it is refl (λ name. refl) was refl refl refl refl))
    c.range.ensures

pub returns-in-Points-clause-step : goal.returns-in-Points-clause-step
returns-in-Points-clause-step c = λ program rows entry before is.
    let state : State = c.args.state.now in
    let new : State = record { names = state.names; types = state.types; blocks = state.blocks; wants = c.points.new.wants; ranges = state.ranges } in
    ok_map _ _ c.points.result
    (λ it was. subst (λ l. IsStep program rows entry before (line_view l) new it) (sym c.in-Points.is) (said_step program rows entry before state new (points_view c.in-Points.it) it is refl (λ name. refl) was refl refl refl refl))
    c.points.ensures

pub returns-in-Stub-clause-step : goal.returns-in-Stub-clause-step
returns-in-Stub-clause-step c = λ program rows entry before is.
    let state : State = c.args.state.now in
    let new : State = record { names = state.names; types = state.types; blocks = state.blocks; wants = state.wants; ranges = c.stub.new.ranges } in
    ok_map _ _ c.stub.result
    (λ it was. subst (λ l. IsStep program rows entry before (line_view l) new it) (sym c.in-Stub.is) (stub_step program rows entry before state new c.in-Stub.it.name.now (numeral_view c.in-Stub.it.low) (numeral_view c.in-Stub.it.high) it is was refl refl refl refl))
    c.stub.ensures

pub returns-in-Require-clause-step : goal.returns-in-Require-clause-step
returns-in-Require-clause-step c = λ program rows entry before is.
    let state : State = c.args.state.now in
    ok_map _ _ c.require.result
    (λ it was. subst (λ l. IsStep program rows entry before (line_view l) state it) (sym c.in-Require.is) (require_step program rows entry before state (require_view c.in-Require.it) it is refl refl (λ place. refl) (λ name. refl) was))
    c.require.ensures
