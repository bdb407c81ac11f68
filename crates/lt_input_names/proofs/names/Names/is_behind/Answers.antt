use Rattle.std.proofs.Common.{◌≡◌, ◌+◌, ◌-◌, sym, ap, ◌∙◌, arith}
use Rattle.lt_entry.specs.Naming.{is_pointed}
use Rattle.lt_input_names.specs.Blocks.{base_of, pointers}
use Rattle.lt_input_names.specs.Views.{types_at}
use Rattle.lt_input_names.proofs.TypeLaws.{one_pointer, points_to}
use Rattle.lt_input_names.proofs.names.Names.is_behind.Goals as goal

pub turns-init : goal.turns-init
turns-init c =
    let types = types_at c.args.self.now in
    let e : c.args.depth ≡ c.args.depth - 0 = omega arith in
    ap (λ n. is_pointed (base_of types c.args.it) (pointers n (base_of types c.args.base))) e

pub turns-preserved : goal.turns-preserved
turns-preserved c =
    let types = types_at c.args.self.now in
    let base = base_of types c.args.base in
    c.turns.invariant ∙ one_pointer (base_of types c.turns.inner) base c.args.depth c.turns._turn (omega arith) ∙ ap (λ o. points_to o (pointers (c.args.depth - (c.turns._turn + 1)) base)) (sym c.in-Some.ensures)

pub returns-in-None : goal.returns-in-None
returns-in-None c =
    let types = types_at c.args.self.now in
    let base = base_of types c.args.base in
    sym (c.turns.invariant ∙ one_pointer (base_of types c.turns.inner) base c.args.depth c.turns._turn (omega arith) ∙ ap (λ o. points_to o (pointers (c.args.depth - (c.turns._turn + 1)) base)) (sym c.in-None.ensures))

pub returns : goal.returns
returns c =
    let types = types_at c.args.self.now in
    let e : 0 ≡ c.args.depth - c.turns._turn = omega arith in
    c.is_base.ensures ∙ ap (λ n. is_pointed (base_of types c.turns.inner) (pointers n (base_of types c.args.base))) e ∙ sym c.turns.invariant
