use Rattle.std.proofs.Common.{◌≡◌, None, Some, ◌∙◌, rules}
use Rattle.lt_scope.proofs.Standings.{agree_forget, is_there}
use Rattle.lt_scope.proofs.scopes.forget.Goals as goal

pub returns-in-None : goal.returns-in-None
returns-in-None g c = λ bs outer. agree_forget c.args.binder.now bs outer _ _ _ None c.as_slice.ensures c.in-None.is c.swap_remove-gone.ensures.updates

pub returns-in-Some-get_mut : goal.returns-in-Some-get_mut
returns-in-Some-get_mut g c = λ bs outer. agree_forget c.args.binder.now bs outer _ _ _ (Some c.in-Some.before) c.as_slice-in-Some.ensures c.in-Some.is ((c.get_mut.follows.holds c.in-Some.before).3 (search rules))

pub returns-in_default : goal.returns-in_default
returns-in_default g c = λ bs outer a.
    (let there = is_there c.args.binder.now bs outer _ _ c.as_slice-in-Some.ensures a in
    let clash : None ≡ Some _ = c.in_default.ensures.value ∙ there in
    absurd cc)
