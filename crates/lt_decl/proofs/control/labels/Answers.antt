use Rattle.std.proofs.Common.{◌++◌, map, refl, sym, ap, ◌∙◌}
use Rattle.lt_tree.specs.UnitView.{label_of}
use Rattle.lt_tree.specs.Scope.{after_labels}
use Rattle.lt_expr.specs.Parsing.{scope_of}
use Rattle.lt_decl.specs.Singles.{after_label}
use Rattle.lt_decl.specs.Reading as reading
use Rattle.lt_expr.proofs.Scopes.{within_declares, declares}
use Rattle.lt_expr.proofs.Loops.{turned, stopped}
use Rattle.lt_decl.proofs.Turns.{labels_more, labels_end, after_label_more}
use Rattle.lt_decl.proofs.control.labels.Goals as goal

pub returns-then-not-begins_label : goal.returns-then-not-begins_label
returns-then-not-begins_label c = (
  stopped (λ xs rest. map label_of xs ++ rest) reading.labels (λ xs. map label_of xs) c.more.labels.items _ _ _ _ _ _ _ refl c.in_ok-depth.ensures
      (labels_end c.more.labels.items _ _ _ (sym c.begins_label.ensures ∙ c.if-not-begins_label.true)) c.more.invariant.read,
  declares _ _ _ c.more.invariant.within c.more.invariant.scope,
)

pub more-preserved : goal.more-preserved
more-preserved c =
    let x = c.in_ok-one.one in
    let one = c.in_ok-one.ensures in
    record {
      read =
          turned (λ xs rest. map label_of xs ++ rest) reading.labels reading.labels c.more.labels.items c.push.new.self.items x _ _ _ _ _ _ _ _ _ c.in_ok-push.ensures.items
          one.1.scope refl c.in_ok-depth.ensures
          (labels_more c.more.labels.items x _ _ _ _ (sym c.begins_label.ensures ∙ c.if-not-begins_label.false) one.0) c.more.invariant.read;
      scope =
          one.1.scope ∙ ap (after_label (label_of x)) c.more.invariant.scope
          ∙ sym (after_label_more c.more.labels.items x (scope_of c.args.parser.now))
          ∙ ap (λ xs. after_labels (map label_of xs) (scope_of c.args.parser.now)) (sym c.in_ok-push.ensures.items);
      within = within_declares _ _ _ _ c.more.invariant.within one.1;
    }
