use Rattle.std.proofs.Common.{◌+◌, ◌≤◌, ◌∙◌, sym, subst, Bool, false, length, arith}
use Rattle.std.specs.Global.{Vec}
use Rattle.std.proofs.lemmas.List.{set_past}
use Rattle.lt_places.proofs.ValuePositions.{AreValues, no_operand_more, operand_more, past_end, all_values}
use Rattle.lt_places.proofs.value.value_positions.Goals as goal
use Rattle.lt_places.proofs.value.value_positions.Goals.{then-has_place_operand+in-Some, then-has_place_operand+in_default, else-has_place_operand}

pub sites-preserved : goal.sites-preserved
sites-preserved c unit are =
    elim c.if-has_place_operand.branch [
      | then-has_place_operand+in-Some w ↦
          subst (λ (v : Vec Bool). AreValues unit (c.sites.k + 1) v.items) (sym w.values-is)
          (operand_more unit c.args.sites.now c.sites.k c.index-sites-k.result c.sites.values.items w.core_number-place.result are c.sites-test.true c.index-sites-k.is
          (sym c.has_place_operand.ensures ∙ w.if-has_place_operand.true) w.core_number-place.ensures (c.sites.invariant unit are))
      | then-has_place_operand+in_default w ↦
          let past : length c.sites.values.items ≤ w.core_number-place.result = past_end w.core_number-place.result c.sites.values.len c.sites.values.items c.sites.values.ok.0 w.in_default.ensures.variant.1 in
          subst (λ (v : Vec Bool). AreValues unit (c.sites.k + 1) v.items) (sym w.values-is)
          (subst (AreValues unit (c.sites.k + 1)) (set_past c.sites.values.items w.core_number-place.result false past)
          (operand_more unit c.args.sites.now c.sites.k c.index-sites-k.result c.sites.values.items w.core_number-place.result are c.sites-test.true c.index-sites-k.is
          (sym c.has_place_operand.ensures ∙ w.if-has_place_operand.true) w.core_number-place.ensures (c.sites.invariant unit are)))
      | else-has_place_operand w ↦
          subst (λ (v : Vec Bool). AreValues unit (c.sites.k + 1) v.items) (sym w.values-is)
          (no_operand_more unit c.args.sites.now c.sites.k c.index-sites-k.result c.sites.values.items are c.sites-test.true c.index-sites-k.is
          (sym c.has_place_operand.ensures ∙ w.if-has_place_operand.false) (c.sites.invariant unit are))
    ]

pub returns : goal.returns
returns c unit are = all_values unit c.args.sites.now c.sites.k c.sites.values.items are (omega arith) (c.sites.invariant unit are)
