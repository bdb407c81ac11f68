use Rattle.std.proofs.Common.{◌≡◌, ◌∙◌, ap, sym, length, true, map}
use Rattle.clap.specs.Words.{App, matches_of, takes}
use Rattle.lt_command.specs.Answers.{words_of}
use Rattle.lt_command.specs.Parts.{stand_once}
use Rattle.lt_command.specs.Plan.{annotate_options}
use Rattle.lt_command.specs.Reading.{annotate_among}
use Rattle.lt_command.specs.Views.{parts_in, setting_in}
use Rattle.lt_command.proofs.Matches.{as_many}
use Rattle.lt_command.proofs.AnnotateRead.{annotate_read, annotate_taken, not_once, not_one}
use Rattle.lt_command.proofs.annotate.annotate_of.Goals.{then-positionals-ne1-via-then-positionals-ne1, then-positionals-ne1-via-else-positionals-ne1+then-not-stand_once}
use Rattle.lt_command.proofs.annotate.annotate_of.Goals as goal

pub read-requires : goal.read-requires
read-requires c =
    let count = as_many c.args.parts.now.positionals.items ∙ ap length (sym c.as_slice-positionals.ensures.value) ∙ c.if-positionals-ne1.false in
    let once : stand_once annotate_options (parts_in c.args.parts.now).options ≡ true =
    ap (λ os. stand_once annotate_options (map setting_in os)) (sym c.as_slice-options.ensures.value) ∙ sym c.stand_once.ensures ∙ c.if-not-stand_once.false in
    ap (λ (a : App). takes a (words_of c.args.words.now)) c.in_ok-command_line.ensures
    ∙ annotate_taken (words_of c.args.words.now) (parts_in c.args.parts.now) c.requires count once

pub returns-in-Some : goal.returns-in-Some
returns-in-Some c =
    let count = as_many c.args.parts.now.positionals.items ∙ ap length (sym c.as_slice-positionals.ensures.value) ∙ c.if-positionals-ne1.false in
    let once : stand_once annotate_options (parts_in c.args.parts.now).options ≡ true =
    ap (λ os. stand_once annotate_options (map setting_in os)) (sym c.as_slice-options.ensures.value) ∙ sym c.stand_once.ensures ∙ c.if-not-stand_once.false in
    let rows = c.in_ok-matches.ensures ∙ ap (λ (a : App). matches_of a (words_of c.args.words.now)) c.in_ok-command_line.ensures in
    sym (annotate_read (words_of c.args.words.now) (parts_in c.args.parts.now) c.requires count once) ∙ ap annotate_among (sym rows) ∙ sym c.in-Some.ensures

pub returns : goal.returns
returns c =
    let count = as_many c.args.parts.now.positionals.items ∙ ap length (sym c.as_slice-positionals.ensures.value) ∙ c.if-positionals-ne1.false in
    let once : stand_once annotate_options (parts_in c.args.parts.now).options ≡ true =
    ap (λ os. stand_once annotate_options (map setting_in os)) (sym c.as_slice-options.ensures.value) ∙ sym c.stand_once.ensures ∙ c.if-not-stand_once.false in
    let rows = c.in_ok-matches.ensures ∙ ap (λ (a : App). matches_of a (words_of c.args.words.now)) c.in_ok-command_line.ensures in
    sym (annotate_read (words_of c.args.words.now) (parts_in c.args.parts.now) c.requires count once) ∙ ap annotate_among (sym rows) ∙ sym c.in-None.ensures

pub returns-then-positionals-ne1 : goal.returns-then-positionals-ne1
returns-then-positionals-ne1 c =
    let positionals = (parts_in c.args.parts.now).positionals in
    let options = (parts_in c.args.parts.now).options in
    elim c.then-positionals-ne1.branch [
      | then-positionals-ne1-via-then-positionals-ne1 w ↦ not_one positionals options
          (λ one. w.if-positionals-ne1.true (ap length c.as_slice-positionals.ensures.value ∙ sym (as_many c.args.parts.now.positionals.items) ∙ one))
      | then-positionals-ne1-via-else-positionals-ne1+then-not-stand_once w ↦ not_once positionals options
          (ap (λ os. stand_once annotate_options (map setting_in os)) (sym c.as_slice-options.ensures.value) ∙ sym w.stand_once.ensures ∙ w.if-not-stand_once.true)
    ]
