use Rattle.std.proofs.Common.{rules, arith, sym, ◌∙◌, ap, Bor, List, ℕ, true, false}
use Rattle.std.specs.Prelude.{map}
use Rattle.lt_entry.specs.Lines.{lines_among}
use Rattle.lt_entry.proofs.RowsRead.{among_empty, among_full, is_empty_by_length}
use Rattle.lt_entry.proofs.row.lines_among.Goals as goal

pub returns-then-is_empty : goal.returns-then-is_empty
returns-then-is_empty c =
    sym (ap (λ (ps : List (Bor (List ℕ))). lines_among (map (λ (w : Bor (List ℕ)). w.now) ps)) c.in-Some.ensures.cases.0 ∙ among_empty c.in-Some.others.now c.in-Some.last.now (is_empty_by_length c.in-Some.last.now.now true (search rules)))

pub returns-else-is_empty : goal.returns-else-is_empty
returns-else-is_empty c =
    sym (ap (λ (ps : List (Bor (List ℕ))). lines_among (map (λ (w : Bor (List ℕ)). w.now) ps)) c.in-Some.ensures.cases.0 ∙ among_full c.in-Some.others.now c.in-Some.last.now (is_empty_by_length c.in-Some.last.now.now false (search rules)) ∙ omega (arith, c.in-Some.ensures.cases.1))
