use Rattle.std.proofs.Common.{arith, ◌≡◌, ◌*◌, ◌^◌, min, ap, refl, sym, ◌∙◌}
use Rattle.std.proofs.Math.Nat.{mul_assoc}
use Rattle.lt_model.specs.Types.{unqualified, element}
use Rattle.lt_model.specs.TypeView.{type_of}
use Rattle.lt_model.specs.Layout.{elements}
use Rattle.lt_model.proofs.Counting.{capped_product}
use Rattle.lt_model.proofs.sizes.elements.Goals as goal

pub loop-at-preserved-in-Array-1 : goal.loop-at-preserved-in-Array-1
loop-at-preserved-in-Array-1 c =
    let n = c.counted-count.result in
    let inner = type_of c.deref-at.result.now in
    let e : unqualified (element inner) ≡ unqualified (element (type_of c.loop-at.at.now)) = rw (c.deref-at.ensures, c.in-Array.is) refl in
    let k : elements (type_of c.loop-at.at.now) ≡ c.in-Array.length * elements inner = rw (c.deref-at.ensures, c.in-Array.is) refl in
    let capped = capped_product (2 ^ 64) (c.loop-at.count * c.in-Array.length) (elements inner) in
    record {
      same_element = e ∙ c.loop-at.invariant.same_element;
      same_count = ap (λ x. min (x * elements inner) (2 ^ 64)) c.counted-count.ensures.is ∙ capped ∙ ap (λ x. min x (2 ^ 64)) (mul_assoc _ _ _ ∙ ap (λ x. c.loop-at.count * x) (sym k)) ∙ c.loop-at.invariant.same_count;
      small = omega (arith, c.counted-count.ensures.is);
    }
