use Rattle.std.proofs.Common.{rules, ◌≡◌, sym, ◌∙◌, ap, subst, ℕ, ℤ, List, [], ◌∷◌, ◌++◌}
use Rattle.std.proofs.lemmas.Int.{to_z-of_z}
use mir.Val.{SFits}
use mir.Syntax.{w128}
use Rattle.lt_lin.specs.declared.line.Line.{Combine}
use Rattle.lt_lin.specs.Refutation.{IsCombination}
use Rattle.lt_elim.proofs.Combining.{if_ok_more}
use Rattle.lt_elim.proofs.Tracing.{gained}
use Rattle.lt_elim.proofs.log.log_sum.Goals as goal

two_items : (a b c : List (ℕ × ℤ)) (x y : ℕ × ℤ) → a ≡ [] → b ≡ a ++ x ∷ [] → c ≡ b ++ y ∷ [] → x ∷ y ∷ [] ≡ c
two_items a b c x y e f g = sym (g ∙ ap (λ (l : List (ℕ × ℤ)). l ++ y ∷ []) f ∙ ap (λ (l : List (ℕ × ℤ)). (l ++ x ∷ []) ++ y ∷ []) e)

pub returns : goal.returns
returns c =
    let k : SFits w128 c.args.pair.of_raising = search rules in
    let l : SFits w128 c.args.pair.of_lowering = search rules in
    let items = two_items c.new-pairs.result.items c.push.new.self.items c.push-2.new.self.items (c.args.pair.raising, c.args.pair.of_raising) (c.args.pair.lowering, c.args.pair.of_lowering) c.new-pairs.ensures.items (simp to_z-of_z at c.in_ok-push.ensures.items) (simp to_z-of_z at c.in_ok-push-2.ensures.items) in
    if_ok_more c.push-3.result (λ n p rows known r d i. gained rows known r c.args.log.now c.push-3.new.log (Combine c.push-2.new.self) n d (λ rest h. (r, subst (λ (ps : List (ℕ × ℤ)). IsCombination known ps r) items i, h)) p) c.push-3.ensures
