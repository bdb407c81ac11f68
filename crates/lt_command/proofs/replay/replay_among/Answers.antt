use Rattle.std.proofs.Common.{◌≡◌, ◌∙◌, ap, ap₂, sym, List, ℕ, Option, Some, codes}
use Rattle.std.specs.Prelude.{option_map}
use Rattle.std.specs.Borrow.{Bor}
use Rattle.clap.specs.Words.{first_of, found_of, rows_of}
use Rattle.lt_command.specs.Plan.{replay_with}
use Rattle.lt_command.specs.Reading.{replay_between, said_among}
use Rattle.lt_command.proofs.Matches.{first_read}
use Rattle.lt_command.proofs.replay.replay_among.Goals as goal

pub returns : goal.returns
returns c =
    let found = found_of c.args.matches.now in
    let file_is : first_of (codes "FILE") (rows_of found) ≡ Some c.in_ok-file.file.now =
    sym (first_read found (codes "FILE")) ∙ sym c.get_str.ensures ∙ ap (option_map (λ (s : Bor (List ℕ)). s.now)) c.in_ok-file.was in
    let suite_is : first_of (codes "SUITE") (rows_of found) ≡ Some c.in_ok-suite.suite.now =
    sym (first_read found (codes "SUITE")) ∙ sym c.get_str-2.ensures ∙ ap (option_map (λ (s : Bor (List ℕ)). s.now)) c.in_ok-suite.was in
    c.replay_with.ensures ∙ ap (replay_with c.in_ok-file.file.now c.in_ok-suite.suite.now) c.said_by.ensures
    ∙ sym (ap₂ (λ (f : Option (List ℕ)) (s : Option (List ℕ)). replay_between f s (said_among (rows_of found))) file_is suite_is)
