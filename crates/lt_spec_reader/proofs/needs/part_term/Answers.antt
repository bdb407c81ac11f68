use Rattle.std.proofs.Common.{List, ℕ, ℤ, ap, ◌∙◌, rules}
use Rattle.std.proofs.lemmas.Int.{to_z-of_z}
use mir.Syntax.{w128}
use mir.Val.{SFits}
use Rattle.lt_model.specs.declared.input.NeedTerm.{NeedTerm}
use Rattle.lt_entry.specs.Meaning.{factor_of}
use Rattle.lt_entry.specs.LineViews.{term_view}
use Rattle.lt_spec_reader.proofs.needs.part_term.Goals as goal

pub returns : goal.returns
returns c =
    let term : List ℕ → ℤ → NeedTerm = λ root factor. record { at = record { root = root; offset = c.args.part.now.place.offset }; factor = factor } in
    let fits : SFits w128 c.factor_of.result = search rules in
    ap (term c.in_ok-root.root) (to_z-of_z w128 c.factor_of.result fits ∙ c.factor_of.ensures)
    ∙ ap (λ root. term root (factor_of (record { is_minus = c.args.is_minus; term = term_view c.args.term.now }))) (c.in_ok-root.ensures ∙ c.as_slice.ensures)
