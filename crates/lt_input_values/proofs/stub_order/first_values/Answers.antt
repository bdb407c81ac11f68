use Rattle.std.proofs.Common.{◌≡◌, ◌∙◌, sym, ap, None, Some, cond}
use Rattle.std.specs.Prelude.{is_some}
use Rattle.std.specs.Option.{option_or}
use Rattle.std.specs.Str.{bytes_eq}
use Rattle.std.proofs.lemmas.Slice.Eq.{bytes_eq-Decides}
use Rattle.lt_model.specs.declared.input.StubSet.{StubSet}
use Rattle.lt_input_values.specs.Maps.{values_for}
use Rattle.lt_input_values.proofs.Steps.{first_more, first_put, first_kept, some_mapped, none_from_some}
use Rattle.lt_input_values.proofs.MapLaws.{values_for_more}
use Rattle.lt_input_values.proofs.stub_order.first_values.Goals as goal
use Rattle.lt_input_values.proofs.stub_order.first_values.Goals.{then-not-contains_key+in_ok-insert, else-not-contains_key}

pub loop-it-preserved : goal.loop-it-preserved
loop-it-preserved c = λ name.
    let it = c.it-item.result in
    let more = first_more (λ (it : StubSet). bytes_eq it.name name) c.args.sets.now c.loop-it.it-index it c.loop-it-test.true c.it-item.is
    ∙ ap (λ o. option_or o (cond (bytes_eq it.name name) (Some it) None)) (sym (c.loop-it.invariant name)) in
    let has : c.contains_key.result ≡ is_some (values_for c.loop-it.first it.name) =
    c.contains_key.ensures ∙ sym (some_mapped (λ it. it.now) _) ∙ ap (λ bytes. is_some (values_for c.loop-it.first bytes)) c.as_slice-name.ensures in
    elim c.if-not-contains_key.branch [
      | then-not-contains_key+in_ok-insert w ↦
          let none : values_for c.loop-it.first it.name ≡ None = none_from_some (values_for c.loop-it.first it.name) (sym has ∙ w.if-not-contains_key.true) in
          rw w.first-is
          (values_for_more c.loop-it.first w.insert.new.self c.as_slice-name.result _ it.name c.as_slice-name.ensures w.in_ok-insert.ensures.updates.0 name
          ∙ first_put (values_for c.loop-it.first name) (bytes_eq it.name name) it (λ h. ap (values_for c.loop-it.first) (sym ((bytes_eq-Decides it.name name).0 h)) ∙ none)
          ∙ sym more)
      | else-not-contains_key w ↦
          rw w.first-is
          (first_kept (values_for c.loop-it.first name) (bytes_eq it.name name) it (λ h. ap (λ bytes. is_some (values_for c.loop-it.first bytes)) (sym ((bytes_eq-Decides it.name name).0 h)) ∙ sym has ∙ w.if-not-contains_key.false)
          ∙ sym more)
    ]
