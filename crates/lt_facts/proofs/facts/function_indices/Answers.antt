use Rattle.std.proofs.Common.{◌∙◌, sym, ap, map}
use Rattle.std.proofs.lemmas.Result.{IfOk-weaker}
use Rattle.std.proofs.lemmas.Simd.{map-map}
use Rattle.lt_tree.specs.Typing.TypeRows.{types_of_rows}
use Rattle.lt_tree.specs.Typing.ProgramView.{program_of}
use Rattle.lt_tree.specs.Typing.EntityView.{function_of}
use Rattle.lt_facts.specs.Indices.{place_among}
use Rattle.lt_facts.proofs.FactIndices.{function_indices_are, indices_below}
use Rattle.lt_facts.proofs.facts.function_indices.Goals as goal

pub returns-clause-functions : goal.returns-clause-functions
returns-clause-functions c = λ unit number.
    let program = c.args.program.now in
    let nodes = c.in_ok-nodes.nodes.items in
    let of = function_of (types_of_rows program.table.items) in
    IfOk-weaker c.places_among.result _ _
    (λ v index.
    function_indices_are unit (program_of program) nodes c.args.numbers.now v.items
    (c.in_ok-nodes.ensures ∙ ap (map (λ it. it.node)) c.deref.ensures.value ∙ sym (map-map (λ it. it.node) of program.functions.items))
    (index ∙ ap (λ ns. map (place_among ns) c.args.numbers.now) c.deref-2.ensures.value) number)
    c.places_among.ensures

pub returns-clause-within : goal.returns-clause-within
returns-clause-within c =
    let program = c.args.program.now in
    let nodes = c.in_ok-nodes.nodes.items in
    IfOk-weaker c.places_among.result _ _
    (λ v index.
    indices_below program.functions.items (λ it. it.node) nodes c.args.numbers.now v.items (c.in_ok-nodes.ensures ∙ ap (map (λ it. it.node)) c.deref.ensures.value)
    (index ∙ ap (λ ns. map (place_among ns) c.args.numbers.now) c.deref-2.ensures.value))
    c.places_among.ensures
