use Rattle.std.proofs.Common.{[], ◌∷◌, ◌++◌, ap, ◌∙◌, None}
use Rattle.lt_model.specs.declared.cell.Content.TheVariants as content
use Rattle.lt_ir.specs.declared.pure.Pure.TheVariants as pure
use Rattle.lt_ir.specs.Pure.{Comma, Fixed, a_pure, no_pures}
use Rattle.lt_ir.specs.PureView.{pure_of}
use Rattle.lt_emit.proofs.PureRows.{null_is}
use Rattle.lt_emit.proofs.pure.parts.null.Goals as goal

pub returns : goal.returns
returns c =
    null_is c.push-2.new.self c.into_inner.result (pure.Fixed (content.Address None))
    (c.in_ok-push-2.ensures.items ∙ ap (λ xs. xs ++ (pure.Fixed (content.Address None) ∷ []))
    (c.in_ok-push.ensures.items ∙ ap (λ xs. xs ++ (c.into_inner.result ∷ [])) c.new-parts.ensures.items))
    ∙ ap (λ q. Comma (a_pure (pure_of q) (a_pure (Fixed (content.Address None)) no_pures))) c.into_inner.ensures
