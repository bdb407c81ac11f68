use Rattle.std.proofs.Common.{[], ◌∷◌, ◌++◌, ◌≡◌, ◌+◌, ◌-◌, drop, sym, ap, ◌∙◌, arith}
use Rattle.std.specs.Prelude.{◌&&◌, not}
use Rattle.lt_tree.specs.Typing.Operations.{is_among}
use Rattle.lt_tree.specs.Typing.MarkRules.{is_new_name, are_new_names}
use Rattle.lt_env.specs.Going.{known_of}
use Rattle.lt_judge.proofs.JudgedMarks.{among_later, dropped}
use Rattle.lt_judge.proofs.marks.bindings.are_new_names.Goals as goal

pub names-preserved : goal.names-preserved
names-preserved c =
    let names = c.args.names.now in
    let left = c.names.left - 1 in
    let name = c.as_slice-name.result.now in
    let next : left + 1 ≡ c.names.left = omega arith in
    let rest : drop left names ≡ name ∷ drop c.names.left names =
    dropped names left name c.index-names-left.result (omega arith) (c.as_slice-name.ensures ∙ c.index-names-left.is) ∙ ap (λ k. name ∷ drop k names) next in
    record {
      left = omega arith;
      later = λ n.
          ap (is_among n) (c.in_ok-add.ensures ∙ ap (λ m. c.names.later ++ m ∷ []) c.in_ok-new.ensures)
          ∙ among_later n c.names.later (drop c.names.left names) name (c.names.invariant.later n) ∙ ap (is_among n) (sym rest);
      new = λ types.
          c.is_new_name-new.ensures types
          ∙ ap (λ b. is_new_name (known_of types c.args.walker.now) name && not b && c.names.new) (c.names.invariant.later name)
          ∙ ap (λ b. is_new_name (known_of types c.args.walker.now) name && not (is_among name (drop c.names.left names)) && b) (c.names.invariant.new types)
          ∙ ap (are_new_names (known_of types c.args.walker.now)) (sym rest);
    }

pub returns : goal.returns
returns c = λ types.
    let none : c.names.left ≡ 0 = omega arith in
    c.names.invariant.new types ∙ ap (λ k. are_new_names (known_of types c.args.walker.now) (drop k c.args.names.now)) none
