use Rattle.std.proofs.Common.{ap, sym, ◌∙◌}
use Rattle.lt_sites.specs.Sites.{node_of}
use Rattle.lt_places.specs.Walks.{before}
use Rattle.lt_places.proofs.Wrappings.{before_marked, before_comma}
use Rattle.lt_places.proofs.walk.parts_before.Goals as goal

pub returns-in-Marked : goal.returns-in-Marked
returns-in-Marked c =
    before_marked c.args.wrapping (node_of c.args.site.now.node) c.in-Expression.e.now c.in-Marked.marks c.in-Marked.field-1 c.len.result (ap node_of c.in-Expression.is) c.in-Marked.is (c.len.ensures ∙ c.in-Marked.marks.ok.0)

pub returns-in-MarksAndCommas : goal.returns-in-MarksAndCommas
returns-in-MarksAndCommas c =
    before_comma (node_of c.args.site.now.node) c.in-Expression.e.now c.in-Comma.parts c.len-in-MarksAndCommas.result c.checked_sub.result (ap node_of c.in-Expression.is) c.in-Comma.is (c.len-in-MarksAndCommas.ensures ∙ c.in-Comma.parts.ok.0) c.checked_sub.ensures
    ∙ ap (λ what. before what (node_of c.args.site.now.node)) (sym c.in-MarksAndCommas.is)
