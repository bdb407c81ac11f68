use Rattle.std.proofs.Common.{◌≡◌, ◌+◌, ◌∙◌, List, [], ◌∷◌, length, drop, get_or, Ok, refl, ap, ap₂, sym, subst, add-one, arith, rules}
use Rattle.std.proofs.Math.Seq.{drop-cons}
use Rattle.std.proofs.lemmas.List.{drop_all}
use Rattle.lt_model.specs.declared.input.BlockIn.{BlockIn}
use Rattle.lt_ir.specs.Starting.{start_blocks}
use Rattle.lt_acts.specs.Acts.{on}
use Rattle.lt_mach.specs.Blocks.{Made}
use Rattle.lt_mach.proofs.Naming.{one_named, first_named}
use Rattle.lt_mach.proofs.blocks.start_blocks.Goals as goal
use Rattle.lt_mach.proofs.blocks.start_blocks.Goals.{then-k-eq0, else-k-eq0}

pub loop-k-preserved : goal.loop-k-preserved
loop-k-preserved c = record {
  completes = λ result m at h.
      let its = c.args.blocks.now in
      let i = c.loop-k.k in
      let before = c.loop-k.memory.blocks in
      let it = c.index-blocks-k.result in
      let g : get_or its i it ≡ it = search rules in
      let e : drop i its ≡ it ∷ drop (i + 1) its = drop-cons its i it c.loop-k-test.true ∙ ap₂ (λ x l. x ∷ l) g (ap (λ j. drop j its) (sym (add-one i))) in
      c.loop-k.invariant.completes result m at
      (subst (λ (l : List BlockIn). Made l result (length before) (on m at) (start_blocks l (on before at))) (sym e)
      (one_named it (drop (i + 1) its) before c.create.new.self.blocks m result at c.in_ok-block.ensures.made h));
  unmade = λ none. absurd (omega arith);
  first = λ more.
      elim c.if-k-eq0.branch [
        | then-k-eq0 w ↦ w.first-is ∙ c.in_ok-block.ensures.number ∙ ap length (c.loop-k.invariant.unmade w.if-k-eq0.true)
        | else-k-eq0 w ↦ w.first-is ∙ c.loop-k.invariant.first (omega (arith, w.if-k-eq0.false))
      ];
  model = c.create.ensures.model ∙ c.loop-k.invariant.model;
}

pub returns-clause-starts : goal.returns-clause-starts
returns-clause-starts c = λ at.
    let now = c.loop-k.memory.blocks in
    let e : drop c.loop-k.k c.args.blocks.now ≡ [] = drop_all c.loop-k.k c.args.blocks.now c.loop-k-test.false in
    c.loop-k.invariant.completes (Ok c.loop-k.first) now at
    (subst (λ (l : List BlockIn). Made l (Ok c.loop-k.first) (length now) (on now at) (start_blocks l (on now at))) (sym e) refl)

pub returns-clause-first : goal.returns-clause-first
returns-clause-first c = first_named c.args.blocks.now c.loop-k.first (length c.args.memory.now.blocks) (λ some. c.loop-k.invariant.first (omega (arith, c.loop-k-test.false)))
