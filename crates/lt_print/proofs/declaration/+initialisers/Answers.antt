use Rattle.std.proofs.Common.{◌++◌, List, eqb, map, refl, ap, sym, ◌∙◌, arith}
use Rattle.lt_tree.specs.declared.declaration.Initialiser.{Initialiser}
use Rattle.lt_tree.specs.Tree as tree
use Rattle.lt_tree.specs.Pieces.{text_of}
use Rattle.lt_tree.specs.UnitView.{initialiser_of, initialisers_in}
use Rattle.lt_tree.specs.Canon.{Pieces, comma_gap}
use Rattle.lt_tree.specs.CanonUnits.{initialiser}
use Rattle.lt_print.specs.Lists.{separated}
use Rattle.lt_print.proofs.Texts.{on_ok}
use Rattle.lt_print.proofs.Words.{joined}
use Rattle.lt_print.proofs.Lists.{one_more}
use Rattle.lt_print.proofs.Rows.{ended}
use Rattle.lt_print.proofs.Units.{initialiser_at, initialisers_are, braces_is}
use Rattle.lt_print.proofs.declaration.+initialisers.Goals as goal

pub put_initialisers-loop-at-init : goal.put_initialisers-loop-at-init
put_initialisers-loop-at-init t c = ap (λ (x : Pieces). c.args.out.now.items ++ text_of x) (sym (initialisers_are c.args.line c.args.parts.now))

pub put_initialisers-loop-at-preserved : goal.put_initialisers-loop-at-preserved
put_initialisers-loop-at-preserved t c =
    one_more (initialiser_at c.args.line) comma_gap c.args.parts.now c.loop-at.at c.index-parts-at.result c.loop-at.out.items _ _ _ c.loop-at-test.true c.index-parts-at.is c.in_ok-put_comma_unless.ensures c.in_ok-put_initialiser.ensures c.loop-at.invariant

pub put_initialisers-returns : goal.put_initialisers-returns
put_initialisers-returns t c =
    ended (λ (l : List Initialiser). separated comma_gap (eqb c.loop-at.at 0) (map (initialiser_at c.args.line) l)) c.args.parts.now c.loop-at.at _ _ (omega arith) refl c.loop-at.invariant

pub put_initialiser-returns-in_ok-put_initialisers-in-List : goal.put_initialiser-returns-in_ok-put_initialisers-in-List
put_initialiser-returns-in_ok-put_initialisers-in-List t c =
    on_ok c.put_sign-in-List.result
    (λ e. joined _ _ _ _ _ (joined _ _ _ _ _ c.in_ok-put_sign-in-List.ensures c.in_ok-put_initialisers-in-List.ensures) e ∙ ap (λ (x : tree.Initialiser). c.args.out.now.items ++ text_of (initialiser c.args.line x))
    (sym (ap initialiser_of c.in-List.is ∙ braces_is c.in-List.parts ∙ ap (λ (x : List Initialiser). tree.Braces (initialisers_in x)) (sym c.deref.ensures.value))))
    c.put_sign-in-List.ensures
