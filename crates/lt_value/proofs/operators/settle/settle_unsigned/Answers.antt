use Rattle.std.proofs.Common.{pos, refl}
use Rattle.lt_value.specs.Entry.{entry_of, IsSettled}
use Rattle.lt_value.proofs.Operands.{greatest_code}
use Rattle.lt_value.proofs.Settling.{some_as, none_as}
use Rattle.lt_value.proofs.MadeSettled.{fit_settled, unfit_settled, passed_code, fit_code}
use Rattle.lt_value.proofs.operators.settle.settle_unsigned.Goals as goal

pub returns-then-hi-greatest-clause-some : goal.returns-then-hi-greatest-clause-some
returns-then-hi-greatest-clause-some c =
    let le = fit_code c.args.model c.args.ty c.args.hi _ (greatest_code c.args.model c.args.ty c.greatest.result c.greatest.ensures) c.if-hi-greatest.true in
    fit_settled c.args.model c.args.ty c.stepped.result c.args.lo c.args.hi _ _ c.args.step c.requires.unsigned c.requires.ordered le refl refl c.stepped.ensures

pub returns-else-hi-greatest-clause-some : goal.returns-else-hi-greatest-clause-some
returns-else-hi-greatest-clause-some c =
    let less = passed_code c.args.model c.args.ty c.args.hi _ (greatest_code c.args.model c.args.ty c.greatest.result c.greatest.ensures) c.if-hi-greatest.false in
    some_as _ (IsSettled c.args.model c.args.ty (entry_of (pos c.args.lo) (pos c.args.hi) c.args.step (pos c.args.lo))) c.reduced.result
    (unfit_settled c.args.model c.args.ty c.args.lo c.args.hi c.args.step c.width.result _ c.requires.unsigned less c.width.ensures refl) c.reduced.ensures.some

pub returns-else-hi-greatest-clause-none : goal.returns-else-hi-greatest-clause-none
returns-else-hi-greatest-clause-none c =
    let less = passed_code c.args.model c.args.ty c.args.hi _ (greatest_code c.args.model c.args.ty c.greatest.result c.greatest.ensures) c.if-hi-greatest.false in
    none_as _ (IsSettled c.args.model c.args.ty (entry_of (pos c.args.lo) (pos c.args.hi) c.args.step (pos c.args.lo))) c.reduced.result
    (unfit_settled c.args.model c.args.ty c.args.lo c.args.hi c.args.step c.width.result _ c.requires.unsigned less c.width.ensures refl) c.reduced.ensures.none
