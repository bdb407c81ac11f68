use Rattle.std.proofs.Common.{sym, ◌∙◌, ap, refl}
use Rattle.lt_mem.specs.Image.{Body}
use Rattle.lt_mem.proofs.Becoming.{refused_by, done_by}
use Rattle.lt_mem.proofs.Contents.{length-cells_with}
use Rattle.lt_mem.proofs.Meeting.{with_none, with_some}
use Rattle.lt_mem.proofs.object.Object.store.Goals as goal

pub returns-in_default-clause-becomes : goal.returns-in_default-clause-becomes
returns-in_default-clause-becomes c = rw (with_none _ _ c.args.model c.args.value _ c.in_default.ensures) (refl, refl)

pub returns-then-not-self-clause-becomes : goal.returns-then-not-self-clause-becomes
returns-then-not-self-clause-becomes c = rw (with_some _ _ c.args.model c.args.value _ _ c.in-Some.ensures) (refused_by _ _ _ _ (ap (λ (b : Body). b.writable) (sym c.self.view_is) ∙ c.if-not-self.true))

pub returns-clause-becomes : goal.returns-clause-becomes
returns-clause-becomes c = rw (with_some _ _ c.args.model c.args.value _ _ c.in-Some.ensures) (done_by _ _ _ _ _ (ap (λ (b : Body). b.writable) (sym c.self.view_is) ∙ c.if-not-self.false) c.put.ensures)

pub returns-clause-length : goal.returns-clause-length
returns-clause-length c = rw c.put.ensures (length-cells_with c.args.model c.args.value c.args.self.now.cells c.in-Some.place)
