use Rattle.std.proofs.Common.{ℕ, List, Bor, map, sym, ap, ◌∙◌}
use Rattle.std.specs.Prelude.{option_map}
use Rattle.std.proofs.lemmas.Result.{IfOk-weaker}
use Rattle.lt_entry.specs.LineViews.{suite_line_view}
use Rattle.lt_input_names.specs.Views.{scope_of}
use Rattle.lt_input_suites.specs.Drafts.{Takes}
use Rattle.lt_input_suites.proofs.Drafted.{none_read, one_read}
use Rattle.lt_input_suites.proofs.draft.Draft.read.Goals as goal

pub returns-in-None : goal.returns-in-None
returns-in-None c = λ lines is.
    none_read (scope_of c.args.names.now) lines (map (λ (word : Bor (List ℕ)). word.now) c.args.words.now) c.args.self.now
    (sym c.in_ok-suite_line_of.ensures ∙ ap (option_map suite_line_view) c.in-None.is)

pub returns-in-Some : goal.returns-in-Some
returns-in-Some c =
    let scope = scope_of c.args.names.now in
    let line = suite_line_view c.in-Some.line in
    IfOk-weaker c.put.result (Takes scope line c.args.self.now c.put.new.self) _
    (λ taken takes lines is. one_read scope lines (map (λ (word : Bor (List ℕ)). word.now) c.args.words.now) line c.args.self.now c.put.new.self taken
    (sym c.in_ok-suite_line_of.ensures ∙ ap (option_map suite_line_view) c.in-Some.is) takes is)
    c.put.ensures
