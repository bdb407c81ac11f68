use Rattle.lt_value.proofs.Cuts.{if_some_as, if_none_as}
use Rattle.lt_value.proofs.Relations.{refined_as, unrelated_as, lt_by_one, one_by_lt, le_by_none, none_by_le}
use Rattle.lt_value.proofs.relation.refine.Goals as goal

pub returns-in-Lt-clause-some : goal.returns-in-Lt-clause-some
returns-in-Lt-clause-some c =
    rw c.in-Lt.is (if_some_as _ _ (λ p. refined_as _ _ c.args.a.now c.args.b.now p.0 p.1 lt_by_one one_by_lt) c.less.result c.less.ensures.some)

pub returns-in-Lt-clause-none : goal.returns-in-Lt-clause-none
returns-in-Lt-clause-none c =
    rw c.in-Lt.is (if_none_as _ _ (unrelated_as _ _ c.args.a.now c.args.b.now one_by_lt) c.less.result c.less.ensures.none)

pub returns-in-Le-clause-some : goal.returns-in-Le-clause-some
returns-in-Le-clause-some c =
    rw c.in-Le.is (if_some_as _ _ (λ p. refined_as _ _ c.args.a.now c.args.b.now p.0 p.1 le_by_none none_by_le) c.less-in-Le.result c.less-in-Le.ensures.some)

pub returns-in-Le-clause-none : goal.returns-in-Le-clause-none
returns-in-Le-clause-none c =
    rw c.in-Le.is (if_none_as _ _ (unrelated_as _ _ c.args.a.now c.args.b.now none_by_le) c.less-in-Le.result c.less-in-Le.ensures.none)

pub returns-in-Gt-clause-some : goal.returns-in-Gt-clause-some
returns-in-Gt-clause-some c =
    rw c.in-Gt.is (if_some_as _ _ (λ p. refined_as _ _ c.args.a.now c.args.b.now p.0 p.1 (λ x y. lt_by_one y x) (λ x y. one_by_lt y x)) c.more.result c.more.ensures.some)

pub returns-in-Gt-clause-none : goal.returns-in-Gt-clause-none
returns-in-Gt-clause-none c =
    rw c.in-Gt.is (if_none_as _ _ (unrelated_as _ _ c.args.a.now c.args.b.now (λ x y. one_by_lt y x)) c.more.result c.more.ensures.none)

pub returns-in-Ge-clause-some : goal.returns-in-Ge-clause-some
returns-in-Ge-clause-some c =
    rw c.in-Ge.is (if_some_as _ _ (λ p. refined_as _ _ c.args.a.now c.args.b.now p.0 p.1 (λ x y. le_by_none y x) (λ x y. none_by_le y x)) c.more-in-Ge.result c.more-in-Ge.ensures.some)

pub returns-in-Ge-clause-none : goal.returns-in-Ge-clause-none
returns-in-Ge-clause-none c =
    rw c.in-Ge.is (if_none_as _ _ (unrelated_as _ _ c.args.a.now c.args.b.now (λ x y. none_by_le y x)) c.more-in-Ge.result c.more-in-Ge.ensures.none)

pub returns-in-Eq-clause-some : goal.returns-in-Eq-clause-some
returns-in-Eq-clause-some c = rw c.in-Eq.is c.same.ensures.some

pub returns-in-Ne-clause-some : goal.returns-in-Ne-clause-some
returns-in-Ne-clause-some c = rw c.in-Ne.is c.different.ensures.some

pub returns-in-Ne-clause-none : goal.returns-in-Ne-clause-none
returns-in-Ne-clause-none c = rw c.in-Ne.is c.different.ensures.none
