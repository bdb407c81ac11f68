use Rattle.std.proofs.Common.{◌∙◌, ap, Result, Ok, Err, OnOk, IfOk}
use Rattle.lt_tree.specs.Typing.EntityView.{entity_of, tagged_of}
use Rattle.lt_tree.specs.Typing.Entities.{tagging}
use Rattle.lt_env.specs.NamesValue.{frames_at}
use Rattle.lt_env.proofs.ScopeFrames.{tag_bound}
use Rattle.lt_env.proofs.symbols.names.Names.bind_tag.Goals as goal

on_ok : {A E : Type 0} (r : Result A E) {P Q : Type 0} → (P → Q) → IfOk r (λ _. P) → OnOk r Q
on_ok (Ok x) f p = f p
on_ok (Err e) f p = tt

pub returns-clause-bound : goal.returns-clause-bound
returns-clause-bound c =
    on_ok c.bind.result
    (λ e types. ap (λ tags. frames_at types (record { names = c.self.inside.names; tags = tags })) e
    ∙ tag_bound (entity_of types) tagged_of c.args.tag.now c.args.tagged c.self.inside.names c.self.inside.tags c.self.invariant
    ∙ ap (λ value. tagging c.args.tag.now (tagged_of c.args.tagged) (frames_at types value)) c.self.view_is)
    c.bind.ensures.bound
