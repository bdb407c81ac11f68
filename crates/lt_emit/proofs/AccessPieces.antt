-- Shapes that are put into a function's table.
use Rattle.std.proofs.Common.{◌≡◌, ℕ, ◌+◌, List, [], ◌∷◌, ◌++◌, length, Option, Some, None, slice_get, sym, ap, ◌∙◌, arith}
use Rattle.std.proofs.lemmas.Option.{slice_get_within}
use Rattle.lt_model.specs.declared.cell.Shape.{Shape}
use Rattle.lt_tree.specs.declared.typed.types.TypeId.{TypeId}
use Rattle.lt_tree.specs.Typing.TypeRows.{type_in}
use Rattle.lt_ir.specs.Graph.{shape_at}
use Rattle.lt_meaning.specs.Expressions.{shape}
use Rattle.lt_code.specs.Costs.{callees}
use Rattle.lt_emit.specs.declared.builder.Builder.{Builder}
use Rattle.lt_emit.specs.Spending.{loop_heads, called}
use Rattle.lt_emit.specs.Emission.{here_of, counts_at}
use Rattle.lt_emit.specs.Accesses.{PutsShape}
use Rattle.lt_emit.proofs.Sound.{sound_more}
use Rattle.lt_emit.proofs.Emitted.{longer, front_of, last_of, are_more}

pub shape_put :
    (a b : Builder) (ty : TypeId) (it : Shape) → here_of b ≡ here_of a → b.nodes ≡ a.nodes
    → b.structs.items ≡ a.structs.items ++ it ∷ [] → b.registers ≡ a.registers
    → it ≡ shape (here_of a).program (type_in (here_of a).types ty) → PutsShape a b ty (length a.structs.items)
shape_put a b ty it same nodes structs registers is = record {
  adds = record {
    grows = record {
      same = same;
      longer = omega (arith, nodes_long);
      nodes = λ e n at. ap (λ v. slice_get v.items e) nodes ∙ at;
      structs = λ k s at.
          ap (λ row. slice_get row k) structs ∙ front_of a.structs.items it k (slice_get_within a.structs.items k s at) ∙ at;
      registers = omega (arith, registers);
      sound = λ before e n at.
          sound_more (counts_at a) (counts_at b)
          (are_more a b same (omega (arith, nodes_long)) (omega (arith, long)) (omega (arith, registers))) e n
          (before e n (sym (ap (λ v. slice_get v.items e) nodes) ∙ at));
    };
    stands = λ fin kept.
        let at = kept.structs (length a.structs.items) it last in
        shape_found fin.structs (length a.structs.items) it at ∙ is;
  };
  there = omega (arith, long);
  spends = record {
    nodes = omega (arith, nodes_long);
    registers = omega (arith, registers);
    loops = omega (arith, ap (λ v. length (loop_heads 0 v.items)) nodes);
    calls = λ f. omega (arith, ap (λ v. called f (callees v.items)) nodes);
  };
}
  where
    long : length b.structs.items ≡ length a.structs.items + 1
    long = ap length structs ∙ longer a.structs.items it

    nodes_long : length b.nodes.items ≡ length a.nodes.items
    nodes_long = ap (λ v. length v.items) nodes

    last : slice_get b.structs.items (length a.structs.items) ≡ Some it
    last = ap (λ row. slice_get row (length a.structs.items)) structs ∙ last_of a.structs.items it

    shape_found : (row : List Shape) (k : ℕ) (s : Shape) → slice_get row k ≡ Some s → shape_at row k ≡ s
    shape_found row k s at =
        let of : Option Shape → Shape = λ found. elim found [ None ↦ record { cells = []; size = 0 } | Some it ↦ it ] in
        ap of at
