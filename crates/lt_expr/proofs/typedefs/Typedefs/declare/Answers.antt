use Rattle.std.proofs.Common.{◌≡◌, length, sym, ap, ◌∙◌, arith}
use Rattle.lt_expr.specs.Binders.{place_in}
use Rattle.lt_expr.proofs.Names.{agree_push}
use Rattle.lt_expr.proofs.typedefs.Typedefs.declare.Goals as goal

pub invariant_of-self-in-Ok : goal.invariant_of-self-in-Ok
invariant_of-self-in-Ok c =
    let same = c.in_ok-key.ensures.items ∙ c.as_slice.ensures ∙ sym c.as_slice-2.ensures ∙ sym c.in_ok-name.ensures in
    let hides = c.copied-hidden.ensures ∙ c.get.ensures.value ∙ ap (place_in c.self.inside.newest) c.as_slice-3.ensures.value in
    let last : c.len-place.result ≡ length c.self.inside.binders.items = omega arith in
    agree_push c.self.inside.binders.items c.push.new.self.items _ c.self.inside.newest c.insert.new.self c.in_ok-key.key.items c.len-place.result c.self.invariant c.in_ok-push.ensures.items same last hides c.in-Ok.ensures.updates
