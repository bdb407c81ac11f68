use Rattle.lt_mach.proofs.objects.object.Goals as goal

pub returns-in-Address-clause-places : goal.returns-in-Address-clause-places
returns-in-Address-clause-places c = λ g code h. rw c.in-Address.is (c.address_of.ensures g code c.in-Address.next)

pub returns-in-Create-clause-places : goal.returns-in-Create-clause-places
returns-in-Create-clause-places c = λ g code h. rw c.in-Create.is (c.create.ensures.acts g code c.in-Create.next c.args.registers.now h)

pub returns-in-End-clause-places : goal.returns-in-End-clause-places
returns-in-End-clause-places c = λ g code h. rw c.in-End.is (c.end.ensures.acts g code c.in-End.next c.args.registers.now)
