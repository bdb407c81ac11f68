use Rattle.std.proofs.Common.{List, Option, Some, refl, sym, subst}
use Rattle.std.specs.Prelude.{option_map}
use Rattle.lt_tree.specs.declared.typed.statement.Start.{Start}
use Rattle.lt_tree.specs.declared.typed.statement.StartPart.{StartPart}
use Rattle.lt_tree.specs.Typing.StatementView.{start_of}
use Rattle.lt_meaning.specs.Statements.{parts_in}
use Rattle.lt_code.specs.Bodies as code
use Rattle.lt_emit.specs.Emission.{Here, site_in}
use Rattle.lt_emit.specs.Known.{IsOwn}
use Rattle.lt_emit.proofs.Adding.{grows_both}
use Rattle.lt_code.specs.Costs.{◌⊕◌}
use Rattle.lt_emit.specs.Spending.{IsWithin, piece}
use Rattle.lt_emit.proofs.Spent.{then1, then2, fitting}
use Rattle.lt_lower.specs.Known.{AreKnownParts}
use Rattle.lt_lower.specs.Stands.{PartsStand, parts_cost, opened}
use Rattle.lt_lower.proofs.object.opening.Goals as goal

pub returns-in-None-clause-code : goal.returns-in-None-clause-code
returns-in-None-clause-code c =
    then1 c.in_ok-sealed.ensures c.create.ensures.code (λ from here it p q.
    let object = c.args.it.now.object in
    let Is : Option Start → Type 0 = λ start.
    IsOwn here object × AreKnownParts here (parts_in (option_map (start_of here.types) start))
    → code.opening (site_in here it) (record { object = object; start = option_map (start_of here.types) start }) (it.point from) (it.point c.args.to) in
    subst Is (sym c.in-None.is) (λ known. (_, q known.0, (_, refl, p))))
    (λ here.
    let Fits : Option Start → Type 0 = λ start.
    IsWithin (piece 1 0 ⊕ piece 1 0) (opened here.program.functions (record { object = c.args.it.now.object; start = option_map (start_of here.types) start })) in
    subst Fits (sym c.in-None.is) (grind fitting))

pub returns-in_ok-filled-in-Some-clause-code : goal.returns-in_ok-filled-in-Some-clause-code
returns-in_ok-filled-in-Some-clause-code c =
    then2 c.in_ok-sealed.ensures c.in_ok-filled-in-Some.ensures c.create-in-Some.ensures.code (λ from here it p q r.
    let object = c.args.it.now.object in
    let Is : Option Start → Type 0 = λ start.
    IsOwn here object × AreKnownParts here (parts_in (option_map (start_of here.types) start))
    → code.opening (site_in here it) (record { object = object; start = option_map (start_of here.types) start }) (it.point from) (it.point c.args.to) in
    let Parts : List StartPart → Type 0 = λ row. PartsStand object row c.in_ok-sealed.sealed c.in_ok-filled-in-Some.filled here it in
    subst Is (sym c.in-Some.is) (λ known. (_, r known.0, (_, subst Parts c.as_slice.ensures.value q known.1, p))))
    (λ here.
    let Fits : Option Start → Type 0 = λ start.
    IsWithin ((piece 1 0 ⊕ parts_cost c.as_slice.result.now here) ⊕ piece 1 0)
    (opened here.program.functions (record { object = c.args.it.now.object; start = option_map (start_of here.types) start })) in
    let Parts : List StartPart → Type 0 = λ row.
    IsWithin ((piece 1 0 ⊕ parts_cost row here) ⊕ piece 1 0)
    (opened here.program.functions (record { object = c.args.it.now.object; start = option_map (start_of here.types) (Some c.in-Some.start) })) in
    subst Fits (sym c.in-Some.is) (subst Parts (sym c.as_slice.ensures.value) (grind fitting)))

pub returns-in-None-clause-enters : goal.returns-in-None-clause-enters
returns-in-None-clause-enters c known sound =
    let grows = c.in_ok-sealed.ensures.gives.code.adds.grows in
    let Is : Here → Type 0 = λ here. IsOwn here c.args.it.now.object in
    c.create.ensures.enters (subst Is (sym grows.same) known.0) (grows.sound sound)

pub returns-in_ok-filled-in-Some-clause-enters : goal.returns-in_ok-filled-in-Some-clause-enters
returns-in_ok-filled-in-Some-clause-enters c known sound =
    let grows = grows_both c.in_ok-sealed.ensures.gives.code.adds.grows c.in_ok-filled-in-Some.ensures.gives.code.adds.grows in
    let Is : Here → Type 0 = λ here. IsOwn here c.args.it.now.object in
    c.create-in-Some.ensures.enters (subst Is (sym grows.same) known.0) (grows.sound sound)
