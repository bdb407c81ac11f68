use Rattle.std.proofs.Common.{refl, sym, ap, ◌∙◌}
use Rattle.lt_input_names.specs.Stubs.{has_name}
use Rattle.lt_input_suites.proofs.Sets.{has_name_more, not_false, not_true}
use Rattle.lt_input_suites.proofs.Drafted.{begins, begun_before}
use Rattle.lt_input_suites.proofs.draft.Draft.begin.Goals as goal

pub returns-then-not-branch : goal.returns-then-not-branch
returns-then-not-branch c = λ scope lines form is.
    begun_before scope lines c.args.name.now c.args.self.now _ form is
    (not_false (has_name c.args.self.now.names c.args.name.now) (sym c.in_ok-insert.ensures.added ∙ c.if-not-branch.true))

pub returns : goal.returns
returns c = λ scope lines form is.
    begins scope lines c.args.name.now c.args.self.now c.end.new.self _ c.new.result form is
    (not_true (has_name c.args.self.now.names c.args.name.now) (sym c.in_ok-insert.ensures.added ∙ c.if-not-branch.false))
    c.in_ok-end.ensures.tests
    (λ other. ap (λ set. has_name set other) c.in_ok-end.ensures.names ∙ has_name_more c.args.self.now.names c.insert.new.self c.args.name c.in_ok-insert.ensures.updates.0 other)
    c.new.ensures.said (c.new.ensures.set scope) refl refl
