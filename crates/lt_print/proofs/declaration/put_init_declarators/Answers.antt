use Rattle.std.proofs.Common.{◌++◌, List, eqb, map, refl, ap, sym, arith}
use Rattle.lt_tree.specs.declared.declaration.InitDeclarator.{InitDeclarator}
use Rattle.lt_tree.specs.Pieces.{text_of}
use Rattle.lt_tree.specs.Canon.{Pieces, comma_gap}
use Rattle.lt_print.specs.Lists.{separated}
use Rattle.lt_print.proofs.Lists.{one_more}
use Rattle.lt_print.proofs.Rows.{ended}
use Rattle.lt_print.proofs.Units.{init_declarator_at, init_declarators_are}
use Rattle.lt_print.proofs.declaration.put_init_declarators.Goals as goal

pub loop-at-init : goal.loop-at-init
loop-at-init c = ap (λ (x : Pieces). c.args.out.now.items ++ text_of x) (sym (init_declarators_are c.args.line c.args.declarators.now))

pub loop-at-preserved : goal.loop-at-preserved
loop-at-preserved c =
    one_more (init_declarator_at c.args.line) comma_gap c.args.declarators.now c.loop-at.at c.index-declarators-at.result c.loop-at.out.items _ _ _ c.loop-at-test.true c.index-declarators-at.is c.in_ok-put_comma_unless.ensures c.in_ok-put_init_declarator.ensures c.loop-at.invariant

pub returns : goal.returns
returns c =
    ended (λ (l : List InitDeclarator). separated comma_gap (eqb c.loop-at.at 0) (map (init_declarator_at c.args.line) l)) c.args.declarators.now c.loop-at.at _ _ (omega arith) refl c.loop-at.invariant
