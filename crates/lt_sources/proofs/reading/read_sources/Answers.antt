use Rattle.std.proofs.lemmas.Result.{err_from_is_err_and}
use Rattle.lt_command.specs.Answers.{replay_in}
use Rattle.lt_sources.proofs.Steps.{ends_at_file, ends_at_suite, ends_at_entry, ends_at_cover, names_suite, names_entry, names_cover}
use Rattle.lt_sources.proofs.reading.read_sources.Goals as goal

pub returns-in_err-file-clause-ends : goal.returns-in_err-file-clause-ends
returns-in_err-file-clause-ends g c =
    let p = err_from_is_err_and c.from_residual.result c.from_residual.ensures.1 in
    rw (p.1, p.2) (ends_at_file _ (replay_in c.args.asked.now) _ c.in_err-file.ensures.ends)

pub returns-in_err-suite-clause-ends : goal.returns-in_err-suite-clause-ends
returns-in_err-suite-clause-ends g c =
    let p = err_from_is_err_and c.from_residual-in_err-suite.result c.from_residual-in_err-suite.ensures.1 in
    rw (p.1, p.2) (ends_at_suite _ (replay_in c.args.asked.now) c.in_ok-file.file.items _ c.in_ok-file.ensures.gives
    (rw c.read_file.ensures.stays at c.in_err-suite.ensures.ends))

pub returns-in_err-suite-clause-names : goal.returns-in_err-suite-clause-names
returns-in_err-suite-clause-names g c =
    let p = err_from_is_err_and c.from_residual-in_err-suite.result c.from_residual-in_err-suite.ensures.1 in
    rw (p.1, p.2) (names_suite (replay_in c.args.asked.now) _ c.in_err-suite.ensures.names)

pub returns-in_err-entry-clause-ends : goal.returns-in_err-entry-clause-ends
returns-in_err-entry-clause-ends g c =
    let p = err_from_is_err_and c.from_residual-in_err-entry.result c.from_residual-in_err-entry.ensures.1 in
    rw (p.1, p.2) (ends_at_entry _ (replay_in c.args.asked.now) c.in_ok-file.file.items c.in_ok-suite.suite.items _ c.in_ok-file.ensures.gives
    (rw c.read_file.ensures.stays at c.in_ok-suite.ensures.gives)
    (rw (c.read_file-2.ensures.stays, c.read_file.ensures.stays) at c.in_err-entry.ensures.ends))

pub returns-in_err-entry-clause-names : goal.returns-in_err-entry-clause-names
returns-in_err-entry-clause-names g c =
    let p = err_from_is_err_and c.from_residual-in_err-entry.result c.from_residual-in_err-entry.ensures.1 in
    rw (p.1, p.2) (names_entry (replay_in c.args.asked.now) _ c.in_err-entry.ensures.names)

pub returns-in_err-cover-clause-ends : goal.returns-in_err-cover-clause-ends
returns-in_err-cover-clause-ends g c =
    let p = err_from_is_err_and c.from_residual-in_err-cover.result c.from_residual-in_err-cover.ensures.1 in
    rw (p.1, p.2) (ends_at_cover _ (replay_in c.args.asked.now) c.in_ok-file.file.items c.in_ok-suite.suite.items _ _ c.in_ok-file.ensures.gives
    (rw c.read_file.ensures.stays at c.in_ok-suite.ensures.gives)
    (rw (c.read_file-2.ensures.stays, c.read_file.ensures.stays) at c.in_ok-entry.ensures.gives)
    (rw (c.read_option.ensures.stays, c.read_file-2.ensures.stays, c.read_file.ensures.stays) at c.in_err-cover.ensures.ends))

pub returns-in_err-cover-clause-names : goal.returns-in_err-cover-clause-names
returns-in_err-cover-clause-names g c =
    let p = err_from_is_err_and c.from_residual-in_err-cover.result c.from_residual-in_err-cover.ensures.1 in
    rw (p.1, p.2) (names_cover (replay_in c.args.asked.now) _ c.in_err-cover.ensures.names)
