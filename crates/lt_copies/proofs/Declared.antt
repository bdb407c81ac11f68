-- How blocks grow by the tags of rows, from the end to the front.
use Rattle.std.proofs.Common.{◌≡◌, refl, sym, ap, ◌∙◌, ℕ, suc, ◌-◌, ◌<◌, ◌≤◌, List, [], ◌∷◌, ◌++◌, length, drop, get_or, drop-cons, Result, subst, arith}
use Rattle.std.specs.Result.{IfOk}
use Rattle.std.proofs.Math.Seq.{drop-length}
use Rattle.lt_objectives.specs.Tags.{Tags}
use Rattle.lt_copies.specs.Blocks.{BlocksValue, declares, declares_all}

-- tags before others, which are declared first
pub both : (tags others : Tags) (blocks : BlocksValue) → declares_all (tags ++ others) blocks ≡ declares_all tags (declares_all others blocks)
both [] others blocks = refl
both (tag ∷ tags) others blocks = ap (declares tag) (both tags others blocks)

-- the answer of a call that ensures the same
pub ok_then : {A E : Type 0} (r : Result A E) (now : BlocksValue) {a b : BlocksValue} → IfOk r (λ _. now ≡ a) → a ≡ b → IfOk r (λ _. now ≡ b)
ok_then r now h e = subst (λ (y : BlocksValue). IfOk r (λ _. now ≡ y)) e h

pub at_end : {X : Type 0} (tags : List X → Tags) (list : List X) (at : ℕ) (before : BlocksValue) → at ≡ length list → tags [] ≡ [] → before ≡ declares_all (tags (drop at list)) before
at_end tags list at before last none =
    sym (ap (λ n. declares_all (tags (drop n list)) before) last ∙ ap (λ xs. declares_all (tags xs) before) (drop-length list) ∙ ap (λ ts. declares_all ts before) none)

pub whole : {X : Type 0} (tags : List X → Tags) (list : List X) (at : ℕ) (before now : BlocksValue) → at ≤ 0 → now ≡ declares_all (tags (drop at list)) before → now ≡ declares_all (tags list) before
whole tags list at before now none then =
    let first : at ≡ 0 = omega arith in
    then ∙ ap (λ n. declares_all (tags (drop n list)) before) first

pub one_more : {X : Type 0} (tags : List X → Tags) (here : Tags) (list : List X) (at : ℕ) (x : X) (before now next : BlocksValue) → 0 < at → at ≤ length list → x ≡ get_or list (at - 1) x
    → ((rest : List X) → tags (x ∷ rest) ≡ here ++ tags rest) → now ≡ declares_all (tags (drop at list)) before → next ≡ declares_all here now → next ≡ declares_all (tags (drop (at - 1) list)) before
one_more tags here list at x before now next some within is step then one =
    let k = at - 1 in
    let more : suc k ≡ at = omega arith in
    let there : k < length list = omega arith in
    let split : drop k list ≡ x ∷ drop at list = drop-cons list k x there ∙ ap (λ y. y ∷ drop (suc k) list) (sym is) ∙ ap (λ n. x ∷ drop n list) more in
    one ∙ ap (declares_all here) then ∙ sym (both here (tags (drop at list)) before) ∙ ap (λ ts. declares_all ts before) (sym (step (drop at list)) ∙ sym (ap tags split))
