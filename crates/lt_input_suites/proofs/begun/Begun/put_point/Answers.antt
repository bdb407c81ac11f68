use Rattle.std.proofs.Common.{true, false, refl, subst}
use Rattle.lt_entry.specs.Suites.{point_line}
use Rattle.lt_entry.specs.Views.{place_view, target_view}
use Rattle.lt_input_names.specs.Views.{scope_of, named_at}
use Rattle.lt_input_suites.specs.Parts.{IsPart, IsTarget}
use Rattle.lt_input_suites.proofs.Singles.{name_of_part}
use Rattle.lt_input_suites.proofs.Puts.{single_point, single_target, not_put, point_nothing, point_bad, point_twice, point_put, marked_at}
use Rattle.lt_input_suites.proofs.begun.Begun.put_point.Goals as goal

pub returns-in_default : goal.returns-in_default
returns-in_default c = λ lines form has.
    let scope = scope_of c.args.names.now in
    let place = place_view c.args.line.now.place in
    let target = target_view c.args.line.now.target in
    not_put scope lines (point_line place target) c.args.self.now c.args.self.now
    (point_nothing scope lines place target (subst (IsPart c.args.names.now place) c.in_default.is c.in_ok-part.ensures (single_point place target form)))

pub returns-in_default-2 : goal.returns-in_default-2
returns-in_default-2 c = λ lines form has.
    let scope = scope_of c.args.names.now in
    let place = place_view c.args.line.now.place in
    let target = target_view c.args.line.now.target in
    let part = subst (IsPart c.args.names.now place) c.in-Some.is c.in_ok-part.ensures (single_point place target form) in
    not_put scope lines (point_line place target) c.args.self.now c.args.self.now
    (point_bad scope lines c.args.self.now place target (named_at c.args.names.now c.in-Some.part) part has
    (subst (IsTarget c.args.names.now c.in-Some.part.ty target) c.in_default-2.is c.in_ok-target.ensures (single_target place target form)))

pub returns-then-not-branch : goal.returns-then-not-branch
returns-then-not-branch c = λ lines form has.
    let scope = scope_of c.args.names.now in
    let place = place_view c.args.line.now.place in
    let target = target_view c.args.line.now.target in
    let part = subst (IsPart c.args.names.now place) c.in-Some.is c.in_ok-part.ensures (single_point place target form) in
    let it = named_at c.args.names.now c.in-Some.part in
    not_put scope lines (point_line place target) c.args.self.now _
    (point_twice scope lines c.args.self.now c.mark.new.self place target it part has
    (marked_at c.in-Some.part.place place.name c.args.self.now.places c.mark.new.self c.in_ok-mark.field-0 false (name_of_part scope place it part) c.if-not-branch.true c.in_ok-mark.ensures))

pub returns : goal.returns
returns c = λ lines form has.
    let scope = scope_of c.args.names.now in
    let place = place_view c.args.line.now.place in
    let target = target_view c.args.line.now.target in
    let part = subst (IsPart c.args.names.now place) c.in-Some.is c.in_ok-part.ensures (single_point place target form) in
    let it = named_at c.args.names.now c.in-Some.part in
    point_put scope lines place target c.in-Some-2.target it c.args.self.now _ part
    (subst (IsTarget c.args.names.now c.in-Some.part.ty target) c.in-Some-2.is c.in_ok-target.ensures (single_target place target form))
    (marked_at c.in-Some.part.place place.name c.args.self.now.places c.mark.new.self c.in_ok-mark.field-0 true (name_of_part scope place it part) c.if-not-branch.false c.in_ok-mark.ensures)
    has refl refl refl c.in_ok-push.ensures.items
