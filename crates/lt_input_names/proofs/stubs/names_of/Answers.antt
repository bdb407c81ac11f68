use Rattle.std.proofs.Common.{◌∙◌, sym, ap}
use Rattle.std.specs.Prelude.{◌||◌}
use Rattle.std.specs.Str.{bytes_eq}
use Rattle.lt_tree.specs.declared.typed.entity.Function.{Function}
use Rattle.lt_input_names.proofs.NameSets.{any_more, has_name_more}
use Rattle.lt_input_names.proofs.stubs.names_of.Goals as goal

pub loop-function-preserved : goal.loop-function-preserved
loop-function-preserved c = λ name.
    let f = c.function-item.result in
    has_name_more c.loop-function.names c.insert.new.self c.as_slice.result f.name c.as_slice.ensures c.in_ok-insert.ensures.updates.0 name
    ∙ ap (λ known. bytes_eq f.name name || known) (c.loop-function.invariant name)
    ∙ sym (any_more (λ (f : Function). bytes_eq f.name name) c.args.functions.now c.loop-function.function-index f c.loop-function-test.true c.function-item.is)
