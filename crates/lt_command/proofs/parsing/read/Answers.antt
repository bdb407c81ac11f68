use Rattle.std.proofs.Common.{◌≡◌, ◌∙◌, sym, rules, true}
use Rattle.std.proofs.lemmas.Bool.{false≢true}
use Rattle.clap.specs.Words.{app_of}
use Rattle.lt_command.specs.Answers.{words_of}
use Rattle.lt_command.proofs.Simple.{simple_where_taken}
use Rattle.lt_command.proofs.parsing.read.Goals as goal

pub prove-unreachable-requires : goal.prove-unreachable-requires
prove-unreachable-requires c =
    let lacks = c.in-Err.ensures.passes c.requires in
    let is_lack : c.eq-lacks_memory.result ≡ true = search (rules, lacks) in
    false≢true (sym c.if-prove.true ∙ is_lack)

pub returns-in-Ok : goal.returns-in-Ok
returns-in-Ok c = (c.in-Ok.ensures.matches (simple_where_taken (app_of c.args.command) (words_of c.args.words.now) c.requires)).0
