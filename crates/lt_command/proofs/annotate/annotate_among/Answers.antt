use Rattle.std.proofs.Common.{◌≡◌, ◌∙◌, ap, ap₂, sym, List, ℕ, Option, Some, codes}
use Rattle.std.specs.Prelude.{option_map}
use Rattle.std.specs.Borrow.{Bor}
use Rattle.clap.specs.Words.{first_of, found_of, rows_of}
use Rattle.lt_command.specs.Plan.{annotate_with}
use Rattle.lt_command.specs.Reading.{annotate_between}
use Rattle.lt_command.proofs.Matches.{first_read}
use Rattle.lt_command.proofs.annotate.annotate_among.Goals as goal

pub returns : goal.returns
returns c =
    let found = found_of c.args.matches.now in
    let file_is : first_of (codes "FILE") (rows_of found) ≡ Some c.in_ok-file.file.now =
    sym (first_read found (codes "FILE")) ∙ sym c.get_str.ensures ∙ ap (option_map (λ (s : Bor (List ℕ)). s.now)) c.in_ok-file.was in
    let list_is : first_of (codes "criteria") (rows_of found) ≡ Some c.in_ok-list.list.now =
    sym (first_read found (codes "criteria")) ∙ sym c.get_str-2.ensures ∙ ap (option_map (λ (s : Bor (List ℕ)). s.now)) c.in_ok-list.was in
    let model_is = c.get_str-3.ensures ∙ first_read found (codes "model") in
    let char_is = c.get_str-4.ensures ∙ first_read found (codes "char") in
    c.annotate_with.ensures ∙ ap₂ (annotate_with c.in_ok-file.file.now c.in_ok-list.list.now) model_is char_is
    ∙ sym (ap₂ (λ (f : Option (List ℕ)) (list : Option (List ℕ)). annotate_between f list (first_of (codes "model") (rows_of found)) (first_of (codes "char") (rows_of found))) file_is list_is)
