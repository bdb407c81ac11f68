use Rattle.lt_tree.specs.Canon.{word_if}
use Rattle.std.proofs.Common.{Bool, ◌∙◌, ap, sym, ◌||◌}
use Rattle.lt_tree.specs.declared.terminal.Terminal.TheVariants as t
use Rattle.lt_print.proofs.Words.{behind_two, stands_word}
use Rattle.lt_print.proofs.word.put_qualifiers.Goals as goal

pub returns-clause-text : goal.returns-clause-text
returns-clause-text c =
    behind_two c.args.out.now.items c.put_word_if.new.out.items _ c.args.before c.in_ok-now.now (word_if c.args.quals.constant t.Const) (word_if c.args.quals.volatile t.Volatile)
    c.in_ok-now.ensures.text (c.in_ok-now.ensures.stands ∙ ap (λ (b : Bool). c.args.before || b) (sym (stands_word c.args.quals.constant t.Const))) c.in_ok-now-2.ensures.text
