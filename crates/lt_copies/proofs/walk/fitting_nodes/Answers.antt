use Rattle.std.proofs.Common.{ap, ◌∙◌, ◌+◌, ◌++◌, length, map, drop}
use Rattle.std.proofs.lemmas.List.{length-map}
use Rattle.lt_sites.specs.Sites.{entry_of}
use Rattle.lt_copies.specs.Judged.{judged}
use Rattle.lt_copies.proofs.Parts.{next_judged, all_judged}
use Rattle.lt_copies.proofs.Units.{at_file, unit_judged, as_many}
use Rattle.lt_copies.proofs.walk.fitting_nodes.Goals as goal

pub sites-preserved : goal.sites-preserved
sites-preserved c =
    let list = c.args.sites.now in
    let k = c.sites.number in
    ap (λ zs. zs ++ judged (map entry_of (drop (k + 1) list)) c.go_to.new.self) c.in_ok-push.ensures.items
    ∙ next_judged list k c.index-sites-number.result c.sites.blocks c.go_to.new.self c.sites.fitting.items c.fits.result c.sites-test.true c.index-sites-number.is c.in_ok-go_to.ensures c.fits.ensures
    ∙ c.sites.invariant

pub returns-clause-nodes : goal.returns-clause-nodes
returns-clause-nodes c unit are =
    let list = c.args.sites.now in
    all_judged list c.sites.number c.sites.blocks c.sites.fitting.items c.sites-test.false c.sites.auto.number-end ∙ c.sites.invariant ∙ unit_judged list unit are

pub returns-clause-count : goal.returns-clause-count
returns-clause-count c =
    let list = c.args.sites.now in
    ap length (all_judged list c.sites.number c.sites.blocks c.sites.fitting.items c.sites-test.false c.sites.auto.number-end ∙ c.sites.invariant)
    ∙ as_many (map entry_of list) at_file ∙ length-map list entry_of
