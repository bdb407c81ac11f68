use Rattle.std.proofs.Common.{map, refl, sym, ap, ◌∙◌}
use Rattle.std.proofs.lemmas.List.{nil_from_length}
use Rattle.lt_tree.specs.Typing.Steps.{Goes}
use Rattle.lt_type.specs.Found.{found_of}
use Rattle.lt_declare.specs.DeclaredViews.{parameters_in}
use Rattle.lt_type.proofs.Sequences.{stopped}
use Rattle.lt_type.proofs.Turns.{turns_from, turns_on, turns_stop, turns_end}
use Rattle.lt_type.proofs.ParameterTurns.{all_behind, forwards}
use Rattle.lt_type.proofs.walk.parameters.with_found.Goals as goal

pub all-init : goal.all-init
all-init c =
    turns_on (λ types v known. Goes (all_behind v (map (found_of types) c.args.all.items)) known) (turns_from (λ types k. refl))
    (λ types k. ap (λ b. Goes b k) (forwards k (map (found_of types) c.args.all.items)))
    c.in_ok-made.ensures
    (λ types k. ap (λ l. Goes (all_behind (parameters_in types c.in_ok-made.made) (map (found_of types) l)) k) (sym c.into_iter-p-iterator.ensures.into_iter_gives.0))

pub returns-in_err-made-2 : goal.returns-in_err-made-2
returns-in_err-made-2 c =
    turns_stop (λ types v known. Goes (all_behind v (map (found_of types) c.next.new.self.rest.items)) known) c.all.invariant
    (λ types k. ap (λ l. Goes (all_behind (parameters_in types c.all.made) (map (found_of types) l)) k) c.in-Some.ensures.steps.0)
    c.in_err-made-2.ensures (stopped c.from_residual-in_err-made-2.ensures)

pub all-preserved : goal.all-preserved
all-preserved c =
    turns_on (λ types v known. Goes (all_behind v (map (found_of types) c.next.new.self.rest.items)) known) c.all.invariant
    (λ types k. ap (λ l. Goes (all_behind (parameters_in types c.all.made) (map (found_of types) l)) k) c.in-Some.ensures.steps.0)
    c.in_ok-made-2.ensures (λ types k. refl)

pub returns : goal.returns
returns c =
    let none = nil_from_length c.all.p-iterator.rest.items (sym c.all.p-iterator.rest.ok.0 ∙ c.in-None.ensures.steps.0) in
    turns_end c.all.invariant (λ types k. ap (λ l. Goes (all_behind (parameters_in types c.all.made) (map (found_of types) l)) k) none)
