use Rattle.std.proofs.Common.{◌≡◌, ℕ, ◌<◌, length, refl, ◌∙◌}
use Rattle.std.proofs.lemmas.List.{length-set}
use Rattle.std.proofs.lemmas.Option.{slice_get_within}
use Rattle.std.specs.Vec.{with_item}
use Rattle.lt_ir.specs.declared.node.Node.TheVariants as node
use Rattle.lt_emit.proofs.Emitted.{patched_sound, set_other, set_same}
use Rattle.lt_emit.proofs.Counted.{patched_spends}
use Rattle.lt_emit.proofs.builder.Builder.patch.Goals as goal

pub returns-in-Some : goal.returns-in-Some
returns-in-Some c =
    let a = c.args.self.now in
    let hole = c.args.hole in
    let tick = node.Tick c.args.to in
    let after = record a { nodes = with_item a.nodes hole tick } in
    let there : hole < length a.nodes.items = slice_get_within a.nodes.items hole (node.Tick c.requires.tick.0) c.requires.tick.1 in
    let long = length-set a.nodes.items hole tick in
    let others = λ (e : ℕ) (other : e ≡ hole → ⊥). set_other a.nodes.items hole e tick other in
    let at = set_same a.nodes.items hole tick there in
    record {
      same = refl;
      longer = long;
      nodes = λ e n other is. others e other ∙ is;
      tick = at;
      structs = refl;
      registers = refl;
      sound = patched_sound a after hole c.args.to refl long others at refl refl c.requires.point;
      spends = patched_spends a after hole c.args.to refl refl;
    }
