use Rattle.std.proofs.Common.{refl}
use Rattle.lt_table.proofs.StructTables.{known_same, known_wider, known_longer, shared_same, shared_wider, shared_longer}
use Rattle.lt_table.proofs.structs.StructTable.add.Goals as goal

pub returns-in_err-push-clause-suits : goal.returns-in_err-push-clause-suits
returns-in_err-push-clause-suits c = λ rows suits longer more.
    known_same c.args.self.now.model longer c.args.self.now.structs.items c.args.self.now.structs.items c.args.self.now.known.items c.push.new.self.items (suits longer more) refl c.in_err-push.ensures.items

pub returns-in_err-push-2-clause-suits : goal.returns-in_err-push-2-clause-suits
returns-in_err-push-2-clause-suits c = λ rows suits longer more.
    known_wider c.args.self.now.model longer c.args.self.now.structs.items c.push-2.new.self.items c.args.self.now.known.items c.push.new.self.items (suits longer more) c.in_err-push-2.ensures.items c.in_ok-push.ensures.items

pub returns-clause-suits : goal.returns-clause-suits
returns-clause-suits c = λ rows suits longer more.
    known_longer c.args.self.now.model longer c.args.self.now.structs.items c.push-2.new.self.items c.args.self.now.known.items c.push.new.self.items (suits longer more) c.in_ok-push-2.ensures.items c.in_ok-push.ensures.items

pub returns-in_err-push-clause-shared : goal.returns-in_err-push-clause-shared
returns-in_err-push-clause-shared c = λ shared.
    shared_same c.args.self.now.structs.items c.args.self.now.structs.items c.args.self.now.known.items c.push.new.self.items shared refl c.in_err-push.ensures.items

pub returns-in_err-push-2-clause-shared : goal.returns-in_err-push-2-clause-shared
returns-in_err-push-2-clause-shared c = λ shared.
    shared_wider c.args.self.now.structs.items c.push-2.new.self.items c.args.self.now.known.items c.push.new.self.items shared c.in_err-push-2.ensures.items c.in_ok-push.ensures.items

pub returns-clause-shared : goal.returns-clause-shared
returns-clause-shared c = λ shared.
    shared_longer c.args.self.now.structs.items c.push-2.new.self.items c.args.self.now.known.items c.push.new.self.items shared c.in_ok-push-2.ensures.items c.in_ok-push.ensures.items
