use Rattle.std.proofs.Common.{map}
use Rattle.lt_tree.specs.declared.terminal.Terminal.TheVariants as t
use Rattle.lt_tree.specs.View.{qualifiers_of}
use Rattle.lt_tree.specs.Canon.{sign_of_storage, signs_apart, qualifiers_pieces}
use Rattle.lt_print.proofs.Words.{four_words}
use Rattle.lt_print.proofs.word.put_words.Goals as goal

pub returns-clause-text : goal.returns-clause-text
returns-clause-text c =
    rw (← c.deref.ensures.value) (four_words c.args.out.now.items c.put_classes.new.out.items c.put_word_if.new.out.items c.put_word_if-2.new.out.items _
    (signs_apart (map sign_of_storage c.deref.result.now)) c.args.specifiers.now.inline c.args.specifiers.now.noreturn t.Inline t.Noreturn (qualifiers_pieces (qualifiers_of c.args.specifiers.now.quals))
    c.in_ok-now.now c.in_ok-now-2.now c.in_ok-now-3.now
    c.in_ok-now.ensures.text c.in_ok-now.ensures.stands c.in_ok-now-2.ensures.text c.in_ok-now-2.ensures.stands c.in_ok-now-3.ensures.text c.in_ok-now-3.ensures.stands c.in_ok-now-4.ensures.text)
