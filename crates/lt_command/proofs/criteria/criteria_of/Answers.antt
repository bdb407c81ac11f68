use Rattle.std.proofs.Common.{◌≡◌, ◌∙◌, ◌==◌, ℕ, length, drop, sym, ap, lit<, Some, None, arith}
use Rattle.std.specs.Prelude.{option_map}
use Rattle.std.specs.List.{slice_split}
use Rattle.std.proofs.lemmas.Iterator.Consumers.{YieldsList-at, YieldsList-end, YieldsList-turn}
use Rattle.std.proofs.lemmas.Iterator.Splits.{YieldsList-from_str_split}
use Rattle.std.proofs.lemmas.List.{at_drop_all, length_push}
use Rattle.lt_objectives.specs.declared.criteria.Criteria.{Criteria}
use Rattle.lt_command.specs.Plan.{with_name, with_names}
use Rattle.lt_command.proofs.CriteriaRead.{name_refused, name_taken}
use Rattle.lt_command.proofs.criteria.criteria_of.Goals as goal

pub returns-in_err-set : goal.returns-in_err-set
returns-in_err-set c =
    let names = slice_split (λ b. b == 44) c.args.list.now in
    let list = YieldsList-at c.into_iter-name-iterator.ensures.into_iter_gives
    (YieldsList-from_str_split 44 c.args.list.now (lit< tt) c.split-name-items.ensures.text c.split-name-items.ensures.has_more c.split-name-items.ensures.pattern) in
    let turn = YieldsList-turn list c.loop-name.yielded _ c.loop-name.yielded_by _ _ c.in-Some.name c.in-Some.is c.next.ensures.steps in
    let none : with_name c.loop-name.set.0 c.in-Some.name.now ≡ None = sym c.with_name.ensures ∙ ap (option_map (λ (s : Criteria). s.0)) c.in_err-set.was in
    let ends = name_refused c.loop-name.set.0 (length c.loop-name.yielded) names c.in-Some.name.now turn none in
    ap (option_map (λ (s : Criteria). s.0)) c.from_residual.ensures ∙ sym ends ∙ c.loop-name.invariant

pub loop-name-preserved : goal.loop-name-preserved
loop-name-preserved c =
    let names = slice_split (λ b. b == 44) c.args.list.now in
    let list = YieldsList-at c.into_iter-name-iterator.ensures.into_iter_gives
    (YieldsList-from_str_split 44 c.args.list.now (lit< tt) c.split-name-items.ensures.text c.split-name-items.ensures.has_more c.split-name-items.ensures.pattern) in
    let turn = YieldsList-turn list c.loop-name.yielded _ c.loop-name.yielded_by _ _ c.in-Some.name c.in-Some.is c.next.ensures.steps in
    let some : with_name c.loop-name.set.0 c.in-Some.name.now ≡ Some c.in_ok-set.set.0 = sym c.with_name.ensures ∙ ap (option_map (λ (s : Criteria). s.0)) c.in_ok-set.was in
    let goes = name_taken c.loop-name.set.0 (length c.loop-name.yielded) c.in_ok-set.set.0 names c.in-Some.name.now turn some in
    ap (λ (n : ℕ). with_names c.in_ok-set.set.0 (drop n names)) (length_push c.loop-name.yielded c.in-Some.name) ∙ sym goes ∙ c.loop-name.invariant

pub returns : goal.returns
returns c =
    let names = slice_split (λ b. b == 44) c.args.list.now in
    let list = YieldsList-at c.into_iter-name-iterator.ensures.into_iter_gives
    (YieldsList-from_str_split 44 c.args.list.now (lit< tt) c.split-name-items.ensures.text c.split-name-items.ensures.has_more c.split-name-items.ensures.pattern) in
    let end = YieldsList-end list c.loop-name.yielded _ c.loop-name.yielded_by _ _ c.in-None.is c.next.ensures.steps in
    sym (at_drop_all (with_names c.loop-name.set.0) names (length c.loop-name.yielded) (omega (arith, end.1))) ∙ c.loop-name.invariant
