use Rattle.std.proofs.Common.{◌≡◌, ℕ, [], ◌∷◌, map, length}
use Rattle.lt_tree.specs.declared.typed.program.Program as typed
use Rattle.lt_tree.specs.Typing.ProgramView.{program_of}
use Rattle.lt_entry.specs.LineViews.{row_view, line_view}
use Rattle.lt_spec_reader.specs.Fronts.{AreFirst}
use Rattle.lt_spec_reader.specs.States.{IsReady, IsBehind}
use Rattle.lt_spec_reader.proofs.lines.lines_of.Given as goal

abbrev pub invariant-loop-i : goal.invariant-loop-i
invariant-loop-i l = record {
  ready : IsReady l.state;
  count : length l.lines.items ≡ l.i;
  behind : (program : typed.Program) (entry : ℕ) → IsBehind program (map row_view l.rows) entry (line_view l.fn.first ∷ []) l.initial.state → AreFirst (program_of program) (map row_view l.rows) (line_view l.fn.first ∷ [])
      → IsBehind program (map row_view l.rows) entry (map line_view l.lines.items) l.state;
  first : (program : typed.Program) (entry : ℕ) → IsBehind program (map row_view l.rows) entry (line_view l.fn.first ∷ []) l.initial.state → AreFirst (program_of program) (map row_view l.rows) (line_view l.fn.first ∷ [])
      → AreFirst (program_of program) (map row_view l.rows) (map line_view l.lines.items);
}
