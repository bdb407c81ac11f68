use Rattle.std.proofs.Common.{◌≡◌, true, false, refl, sym, ap, ◌∙◌, rules}
use Rattle.std.specs.Prelude.{◌&&◌, not}
use Rattle.lt_entry.specs.Conditions.{is_range}
use Rattle.lt_entry.specs.Views.{numeral_view}
use Rattle.lt_input_names.specs.Views.{scope_of}
use Rattle.lt_spec_reader.proofs.Bools.{both, not_false}
use Rattle.lt_spec_reader.proofs.MapLaws.{put_in}
use Rattle.lt_spec_reader.proofs.SaidLaws.{stub_fits, stub_says}
use Rattle.lt_spec_reader.proofs.stubs.stub.Goals as goal

pub returns-then-not-may_stand : goal.returns-then-not-may_stand
returns-then-not-may_stand c =
    let line = c.args.line.now in
    let fails : (c.is_range-fits.result && not c.contains_key.result) ≡ false = search rules in
    record {
      fits = λ before has.
          sym fails
          ∙ stub_fits (scope_of c.args.names.now) line c.args.ranges.now before c.is_range-fits.result c.contains_key.result c.stub.result
          (c.is_range-fits.ensures ∙ ap (λ m. is_range m (numeral_view line.low) (numeral_view line.high) c.stub.result) c.model.ensures) c.stub.ensures c.contains_key.ensures has;
      says = λ h. absurd (cc);
      stays = λ h. refl;
    }

pub returns : goal.returns
returns c =
    let line = c.args.line.now in
    let holds : (c.is_range-fits.result && not c.contains_key.result) ≡ true = search rules in
    record {
      fits = λ before has.
          sym holds
          ∙ stub_fits (scope_of c.args.names.now) line c.args.ranges.now before c.is_range-fits.result c.contains_key.result c.stub.result
          (c.is_range-fits.ensures ∙ ap (λ m. is_range m (numeral_view line.low) (numeral_view line.high) c.stub.result) c.model.ensures) c.stub.ensures c.contains_key.ensures has;
      says = λ h.
          stub_says line c.args.ranges.now c.insert.new.self
          (put_in c.args.ranges.now c.insert.new.self line.name line (sym c.contains_key.ensures ∙ not_false c.contains_key.result (both c.is_range-fits.result (not c.contains_key.result) holds).1) c.in_ok-insert.ensures.updates.0);
      stays = λ h. absurd (cc);
    }
