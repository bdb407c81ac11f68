use Rattle.std.proofs.lemmas.Int.{to_z-of_z}
use Rattle.lt_tree.specs.Typing.NodeEnds.{end_of_enumerator}
use Rattle.lt_type.proofs.Sequences.{gives_then}
use Rattle.lt_type.proofs.walk.naming.end_enumerator.Goals as goal

pub returns : goal.returns
returns c =
    let fits = c.ranges.counted in
    gives_then (λ types z. end_of_enumerator c.args.node c.args.name.now z) (simp to_z-of_z at c.in_ok-z.ensures) c.end_of_enumerator.ensures
