use Rattle.std.proofs.Common.{arith, rules, ap, ◌+◌, ◌∙◌, sym, subst, refl, drop, length, List, ℕ, ℤ}
use Rattle.std.proofs.lemmas.Result.{err_from_is_err_and}
use Rattle.lt_lin.specs.Refutation.{CanSplit}
use Rattle.lt_lin.specs.Room.{places}
use mir.Val.{SFits}
use mir.Syntax.{w128}
use Rattle.std.proofs.lemmas.Int.{to_z-of_z}
use Rattle.lt_lin.specs.Lines.{before_lines, lines_of}
use Rattle.lt_lin.proofs.Taking.{contradiction_more, low_followed, high_followed, low_failed, low_stands, high_failed, high_stands, split_taken, MadeRoom}
use Rattle.lt_lin.proofs.Following.{follow_step, lines_left, weight, weight_of, weight_left, weight_split, split_lines, taken_alike}
use Rattle.lt_lin.proofs.lines.+lines.Goals as goal

pub check_side-follow-requires : goal.check_side-follow-requires
check_side-follow-requires t c =
    let fc = c.ranges.constant in
    let n = simp to_z-of_z at c.contradicts-contradiction.ensures in
    let rows = simp to_z-of_z at c.keep.ensures.rows in
    (omega (arith, c.decreases), contradiction_more _ _ _ _ _ _ _ c.requires.told c.terms.ensures.same refl n rows)

pub follow-take-requires : goal.follow-take-requires
follow-take-requires t c =
    let w = weight_left c.args.lines.now c.lines.line-index c.line-item.result c.lines-test.true in
    (omega (arith, c.decreases, w, ap weight_of c.line-item.is, c.lines.invariant.left), c.lines.invariant.following.told)

pub follow-lines-preserved : goal.follow-lines-preserved
follow-lines-preserved t c =
    let w = weight_left c.args.lines.now c.lines.line-index c.line-item.result c.lines-test.true in
    let e = lines_left c.args.lines.now c.lines.line-index c.line-item.result c.lines-test.true ∙ ap (λ l. before_lines l (lines_of (drop (c.lines.line-index + 1) c.args.lines.now))) (sym c.line-item.is) in
    let f = rw e at c.lines.invariant.following in
    let k = rw c.in-Some.is at c.in_ok-take.ensures in
    record {
      following = follow_step _ _ _ (before_lines c.line-item.result) _ _ _ _ _ _ _ f k;
      left = omega (arith, w, c.lines.invariant.left);
    }

pub take-take_split-requires : goal.take-take_split-requires
take-take_split-requires t c =
    let w = weight_split c.in-Split.terms c.in-Split.bound c.in-Split.low c.in-Split.high in
    (omega (arith, c.decreases, ap weight_of c.in-Split.is, w, ap (λ k. weight (lines_of k)) c.deref-in-Split.ensures.value, ap (λ k. weight (lines_of k)) c.deref-in-Split-2.ensures.value), c.requires)

pub take-returns-in-Combine : goal.take-returns-in-Combine
take-returns-in-Combine t c =
    let k = rw c.deref.ensures.value at c.take_combination.ensures in
    rw c.in-Combine.is k

pub take-returns-in-Divide : goal.take-returns-in-Divide
take-returns-in-Divide t c =
    let f : SFits w128 c.in-Divide.divisor = search rules in
    let k = simp to_z-of_z at c.take_division.ensures in
    rw c.in-Divide.is k

pub take-returns-in-Split : goal.take-returns-in-Split
take-returns-in-Split t c =
    let f : SFits w128 c.in-Split.bound = search rules in
    let k = simp to_z-of_z at c.take_split.ensures in
    let l = rw (c.deref-in-Split.ensures.value, c.deref-in-Split-2.ensures.value) at k in
    rw c.in-Split.is (taken_alike _ _ _ _ _ _ _ _ (split_lines c.in-Split.terms c.in-Split.bound c.in-Split.low c.in-Split.high) l)

pub take_split-returns-in_err-check_side : goal.take_split-returns-in_err-check_side
take_split-returns-in_err-check_side t c =
    let fb = c.ranges.bound in
    let fh : SFits w128 c.in-Some.high_constant = search rules in
    let i = simp to_z-of_z at (c.in-Some.ensures {u = tt}) in
    let can = subst (λ (ts : List (ℕ × ℤ)). CanSplit ts c.args.bound) c.as_slice-terms.ensures.same i.0 in
    let m : MadeRoom (places c.args.desk.now.known.rows + 1 + length c.args.terms.now) c.args.desk.now.limit c.make_room.new.self.limit = record {
      grows = c.make_room.ensures.grows;
      ok = omega (arith, c.in_ok-make_room.ensures.ok, ap length c.as_slice-terms.ensures.same);
      same = λ h. c.make_room.ensures.same (omega (arith, ap length c.as_slice-terms.ensures.same, h));
    } in
    let low = low_followed (lines_of c.args.low.now) c.args.terms.now _ _ c.args.bound c.args.bound c.args.desk.now.known.rows _ _ _ _ _ c.make_room.ensures.rows c.set_negated.ensures.terms c.as_slice-terms.ensures.same refl (simp to_z-of_z at c.in_err-check_side.ensures.followed) in
    let p = err_from_is_err_and c.from_residual-in_err-check_side.result c.from_residual-in_err-check_side.ensures.1 in
    rw p.1 (low_failed _ _ _ (lines_of c.args.high.now) _ _ _ _ _ _ _ _ _ can m low)

pub take_split-returns-then-not-branch : goal.take_split-returns-then-not-branch
take_split-returns-then-not-branch t c =
    let fb = c.ranges.bound in
    let fh : SFits w128 c.in-Some.high_constant = search rules in
    let i = simp to_z-of_z at (c.in-Some.ensures {u = tt}) in
    let can = subst (λ (ts : List (ℕ × ℤ)). CanSplit ts c.args.bound) c.as_slice-terms.ensures.same i.0 in
    let m : MadeRoom (places c.args.desk.now.known.rows + 1 + length c.args.terms.now) c.args.desk.now.limit c.make_room.new.self.limit = record {
      grows = c.make_room.ensures.grows;
      ok = omega (arith, c.in_ok-make_room.ensures.ok, ap length c.as_slice-terms.ensures.same);
      same = λ h. c.make_room.ensures.same (omega (arith, ap length c.as_slice-terms.ensures.same, h));
    } in
    let low = low_followed (lines_of c.args.low.now) c.args.terms.now _ _ c.args.bound c.args.bound c.args.desk.now.known.rows _ _ _ _ _ c.make_room.ensures.rows c.set_negated.ensures.terms c.as_slice-terms.ensures.same refl (simp to_z-of_z at c.in_ok-check_side.ensures.followed) in
    let low_false = rw c.if-not-branch.true at low in
    low_stands _ _ _ (lines_of c.args.high.now) _ _ _ _ _ _ _ can m low_false (c.in_ok-check_side.ensures.rows ∙ c.make_room.ensures.rows)

pub take_split-returns-in_err-check_side-2 : goal.take_split-returns-in_err-check_side-2
take_split-returns-in_err-check_side-2 t c =
    let fb = c.ranges.bound in
    let fh : SFits w128 c.in-Some.high_constant = search rules in
    let i = simp to_z-of_z at (c.in-Some.ensures {u = tt}) in
    let can = subst (λ (ts : List (ℕ × ℤ)). CanSplit ts c.args.bound) c.as_slice-terms.ensures.same i.0 in
    let m : MadeRoom (places c.args.desk.now.known.rows + 1 + length c.args.terms.now) c.args.desk.now.limit c.make_room.new.self.limit = record {
      grows = c.make_room.ensures.grows;
      ok = omega (arith, c.in_ok-make_room.ensures.ok, ap length c.as_slice-terms.ensures.same);
      same = λ h. c.make_room.ensures.same (omega (arith, ap length c.as_slice-terms.ensures.same, h));
    } in
    let low = low_followed (lines_of c.args.low.now) c.args.terms.now _ _ c.args.bound c.args.bound c.args.desk.now.known.rows _ _ _ _ _ c.make_room.ensures.rows c.set_negated.ensures.terms c.as_slice-terms.ensures.same refl (simp to_z-of_z at c.in_ok-check_side.ensures.followed) in
    let low_true = rw c.if-not-branch.false at low in
    let high = high_followed (lines_of c.args.high.now) c.args.terms.now _ _ c.args.bound _ c.args.desk.now.known.rows _ _ _ _ _ (c.in_ok-check_side.ensures.rows ∙ c.make_room.ensures.rows) c.set.ensures.terms c.as_slice-terms.ensures.same i.1 (simp to_z-of_z at c.in_err-check_side-2.ensures.followed) in
    let p = err_from_is_err_and c.from_residual-in_err-check_side-2.result c.from_residual-in_err-check_side-2.ensures.1 in
    rw p.1 (high_failed _ _ _ _ _ _ _ _ _ _ _ _ _ _ _ can m low_true high)

pub take_split-returns-then-not-branch-2 : goal.take_split-returns-then-not-branch-2
take_split-returns-then-not-branch-2 t c =
    let fb = c.ranges.bound in
    let fh : SFits w128 c.in-Some.high_constant = search rules in
    let i = simp to_z-of_z at (c.in-Some.ensures {u = tt}) in
    let can = subst (λ (ts : List (ℕ × ℤ)). CanSplit ts c.args.bound) c.as_slice-terms.ensures.same i.0 in
    let m : MadeRoom (places c.args.desk.now.known.rows + 1 + length c.args.terms.now) c.args.desk.now.limit c.make_room.new.self.limit = record {
      grows = c.make_room.ensures.grows;
      ok = omega (arith, c.in_ok-make_room.ensures.ok, ap length c.as_slice-terms.ensures.same);
      same = λ h. c.make_room.ensures.same (omega (arith, ap length c.as_slice-terms.ensures.same, h));
    } in
    let low = low_followed (lines_of c.args.low.now) c.args.terms.now _ _ c.args.bound c.args.bound c.args.desk.now.known.rows _ _ _ _ _ c.make_room.ensures.rows c.set_negated.ensures.terms c.as_slice-terms.ensures.same refl (simp to_z-of_z at c.in_ok-check_side.ensures.followed) in
    let low_true = rw c.if-not-branch.false at low in
    let high = high_followed (lines_of c.args.high.now) c.args.terms.now _ _ c.args.bound _ c.args.desk.now.known.rows _ _ _ _ _ (c.in_ok-check_side.ensures.rows ∙ c.make_room.ensures.rows) c.set.ensures.terms c.as_slice-terms.ensures.same i.1 (simp to_z-of_z at c.in_ok-check_side-2.ensures.followed) in
    let high_false = rw c.if-not-branch-2.true at high in
    high_stands _ _ _ _ _ _ _ _ _ _ _ _ _ can m low_true high_false (c.in_ok-check_side-2.ensures.rows ∙ c.in_ok-check_side.ensures.rows ∙ c.make_room.ensures.rows)

pub take_split-returns : goal.take_split-returns
take_split-returns t c =
    let fb = c.ranges.bound in
    let fh : SFits w128 c.in-Some.high_constant = search rules in
    let i = simp to_z-of_z at (c.in-Some.ensures {u = tt}) in
    let can = subst (λ (ts : List (ℕ × ℤ)). CanSplit ts c.args.bound) c.as_slice-terms.ensures.same i.0 in
    let m : MadeRoom (places c.args.desk.now.known.rows + 1 + length c.args.terms.now) c.args.desk.now.limit c.make_room.new.self.limit = record {
      grows = c.make_room.ensures.grows;
      ok = omega (arith, c.in_ok-make_room.ensures.ok, ap length c.as_slice-terms.ensures.same);
      same = λ h. c.make_room.ensures.same (omega (arith, ap length c.as_slice-terms.ensures.same, h));
    } in
    let low = low_followed (lines_of c.args.low.now) c.args.terms.now _ _ c.args.bound c.args.bound c.args.desk.now.known.rows _ _ _ _ _ c.make_room.ensures.rows c.set_negated.ensures.terms c.as_slice-terms.ensures.same refl (simp to_z-of_z at c.in_ok-check_side.ensures.followed) in
    let low_true = rw c.if-not-branch.false at low in
    let high = high_followed (lines_of c.args.high.now) c.args.terms.now _ _ c.args.bound _ c.args.desk.now.known.rows _ _ _ _ _ (c.in_ok-check_side.ensures.rows ∙ c.make_room.ensures.rows) c.set.ensures.terms c.as_slice-terms.ensures.same i.1 (simp to_z-of_z at c.in_ok-check_side-2.ensures.followed) in
    let high_true = rw c.if-not-branch-2.false at high in
    split_taken _ _ _ _ _ _ _ _ _ _ _ _ _ _ can m low_true high_true (c.in_ok-check_side-2.ensures.rows ∙ c.in_ok-check_side.ensures.rows ∙ c.make_room.ensures.rows) refl refl c.requires
