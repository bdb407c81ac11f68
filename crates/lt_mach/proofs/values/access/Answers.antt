use Rattle.lt_mach.proofs.values.access.Goals as goal

pub returns-in-Load-clause-acts : goal.returns-in-Load-clause-acts
returns-in-Load-clause-acts c = λ g code e h. rw c.in-Load.is (c.load.ensures g code c.in-Load.next e)

pub returns-in-Store-clause-acts : goal.returns-in-Store-clause-acts
returns-in-Store-clause-acts c = λ g code e h. rw c.in-Store.is (c.store.ensures.acts g code c.in-Store.next e)

pub returns-in-Clash-clause-acts : goal.returns-in-Clash-clause-acts
returns-in-Clash-clause-acts c = λ g code e h. rw c.in-Clash.is (c.part.ensures g code c.in-Clash.next h)
