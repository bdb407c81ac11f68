use Rattle.std.proofs.Common.{rules}
use Rattle.lt_cover.proofs.Lines.{name_put, names_are}
use Rattle.lt_cover.proofs.words.names_text.Goals as goal

pub returns : goal.returns
returns c =
    names_are c.args.names.now c.in-Some.first.now c.in-Some.rest.now c.names.name-index c.new-text.result.items c.extend_from_slice.new.self.items c.names.text.items
    (search rules) c.names-test.false c.new-text.ensures.items (search rules) c.names.invariant

pub names-preserved : goal.names-preserved
names-preserved c =
    name_put c.extend_from_slice.new.self.items c.names.text.items c.push.new.self.items c.extend_from_slice-in-names.new.self.items c.name-item.result c.as_slice-in-names.result.now c.in-Some.rest.now c.names.name-index
    c.names-test.true c.name-item.is c.as_slice-in-names.ensures c.names.invariant c.in_ok-push.ensures.items c.in_ok-extend_from_slice-2.ensures.items
