use Rattle.std.specs.List.{list_all}
use Rattle.std.proofs.Common.{◌≡◌, ℕ, true, List, Option, None, Some, slice_get, sym, ap, subst, ◌∙◌}
use Rattle.std.proofs.lemmas.Option.{slice_get-map}
use Rattle.std.specs.Prelude.{option_map}
use Rattle.lt_ir.specs.declared.pure.Pure.{Pure}
use Rattle.lt_ir.specs.declared.node.Node.TheVariants as node
use Rattle.lt_code.specs.Bodies.{label_of}
use Rattle.lt_ir.specs.PureView.{pure_of}
use Rattle.lt_ir.specs.Ranges.{is_lookable}
use Rattle.lt_tables.specs.Lookups.{label_number}
use Rattle.lt_emit.specs.Emission.{here_of, counts_at}
use Rattle.lt_emit.proofs.Spent.{nothing_within, within_here, fitting}
use Rattle.lt_emit.proofs.Variables.{label_in}
use Rattle.lt_emit.proofs.builder.Builder.label_mark.Goals as goal

abbrev place_or_none : Option ℕ → ℕ
place_or_none None = 0
place_or_none (Some k) = k

nothing_there : {k : ℕ} → Some k ≡ None → ⊥
nothing_there is = absurd (cc)

pub returns-in-None-clause-enters : goal.returns-in-None-clause-enters
returns-in-None-clause-enters c known = absurd (nothing_there (sym known.1.2 ∙ sym c.label.ensures ∙ c.in-None.is))

pub returns-in-Some-clause-enters : goal.returns-in-Some-clause-enters
returns-in-Some-clause-enters c known = c.emit.ensures.enters

pub returns-in-None-clause-code : goal.returns-in-None-clause-code
returns-in-None-clause-code c =
    nothing_within c.args.to c.requires.point (λ it names known. absurd (nothing_there (sym known.2 ∙ sym c.label.ensures ∙ c.in-None.is)))

pub returns-in-Some-clause-code : goal.returns-in-Some-clause-code
returns-in-Some-clause-code c =
    within_here c.emit.ensures.code (λ from it p names known.
    let same = ap place_or_none (sym c.in-Some.is ∙ c.label.ensures ∙ known.2) in
    let Is : ℕ → List Pure → Type 0 =
    λ k qs. slice_get it.nodes (it.point from) ≡ Some (node.Mark k c.args.predicate qs (it.point c.args.to)) in (
      known.0,
      (label_of known.1, slice_get-map label_of _ known.0 ∙ ap (option_map label_of) known.3, known.4, known.5),
      subst (λ k. Is k c.args.bound.items) same (subst (Is c.in-Some.label) c.new.ensures p.0),
    )) (grind fitting)

-- the label is there
pub emit-requires-clause-names : goal.emit-requires-clause-names
emit-requires-clause-names c =
    let b = c.args.self.now in
    let is : label_number (here_of b).program c.args.id ≡ Some c.in-Some.label = sym c.label.ensures ∙ c.in-Some.is in
    let Are : List Pure → Type 0 = λ qs. list_all (λ q. is_lookable (counts_at b) (pure_of q)) qs ≡ true in
    (label_in (here_of b).program c.args.id c.in-Some.label is, c.requires.there.0, subst Are (sym c.new.ensures) c.requires.there.1)
