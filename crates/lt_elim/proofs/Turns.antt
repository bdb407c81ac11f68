-- Variables are eliminated one after another.
use Rattle.std.proofs.Common.{◌≡◌, refl, sym, ◌∙◌, ap, subst, ℕ, zero, suc, ◌+◌, ◌-◌, ◌<◌, List, [], ◌∷◌, ◌++◌, length, Bool, true, false, Option, Some, None, arith, append_assoc, append-nil}
use Rattle.lt_lin.specs.declared.row.Row.{Row}
use Rattle.lt_elim.specs.declared.event.Event as code
use Rattle.lt_elim.specs.declared.stage.Stage.{Stage}
use Rattle.lt_elim.specs.Elimination.{Event, Kept, keeps, eliminated, raising, lowering}
use Rattle.lt_elim.specs.Decision.{Verdict, stops, point, least_allowed, value_of, with_value, and_value, unless_ended, decided}
use Rattle.std.specs.Prelude.{is_some, MatchOption, Result, Ok, Err, IfOk}
use Rattle.lt_elim.specs.Progress.{outcome, event_of, AllInOrder}
use Rattle.lt_elim.specs.Summing.{CombineAll}
use Rattle.lt_elim.specs.Stages.{CanEliminate, AreStages, staged, under}
use Rattle.lt_elim.specs.Tracing.{bare}

pub under_more : (b : Bool) (n v : ℕ) (ss : List Stage) (s : Stage) (w : Verdict) → length ss + suc v ≡ n → under b n (ss ++ s ∷ []) w ≡ under b n ss (staged b v s w)
under_more b zero v [] s w e = absurd (omega arith)
under_more b (suc n) v [] s w e = let is : n ≡ v = omega arith in ap (λ (k : ℕ). staged b k s w) is
under_more b zero v (t ∷ ss) s w e = absurd (omega arith)
under_more b (suc n) v (t ∷ ss) s w e = ap (staged b n t) (under_more b n v ss s w (omega arith))

pub under_stops : (b : Bool) (n : ℕ) (ss : List Stage) (e : Event) → under b n ss (stops e) ≡ stops e
under_stops b n [] e = refl
under_stops b zero (s ∷ ss) e = refl
under_stops b (suc n) (s ∷ ss) e = ap (staged b n s) (under_stops b n ss e)

staged_is : (b : Bool) (v : ℕ) (rows : List Row) (s : Stage) (w : Verdict) → (bare s.raising.items) ≡ raising v rows → (bare s.lowering.items) ≡ lowering v rows → and_value b v rows w ≡ staged b v s w
unfolding value_of
staged_is b v rows s (stops e) r l = refl
staged_is b v rows s (point values) r l =
    ap (λ (ps : List Row). with_value v values (least_allowed b v values ps (lowering v rows))) (sym r)
    ∙ ap (λ (ns : List Row). with_value v values (least_allowed b v values (bare s.raising.items) ns)) (sym l)

-- an event ends the elimination
pub turn_ends : (b : Bool) (n v : ℕ) (first rows next : List Row) (ss : List Stage) (e : code.Event) → decided b n first ≡ under b n ss (decided b (suc v) rows) → eliminated b v rows ≡ outcome (Some e) next → decided b n first ≡ stops (event_of e)
turn_ends b n v first rows next ss e d k =
    d ∙ ap (λ (z : Kept). under b n ss (unless_ended z (λ kept. and_value b v rows (decided b v kept)))) k ∙ under_stops b n ss (event_of e)

-- the next variable
pub turn_goes : (b : Bool) (n v : ℕ) (first rows next : List Row) (ss : List Stage) (s : Stage) → decided b n first ≡ under b n ss (decided b (suc v) rows) → eliminated b v rows ≡ outcome None next → (bare s.raising.items) ≡ raising v rows → (bare s.lowering.items) ≡ lowering v rows → length ss + suc v ≡ n → decided b n first ≡ under b n (ss ++ s ∷ []) (decided b v next)
turn_goes b n v first rows next ss s d k r l e =
    d ∙ ap (λ (z : Kept). under b n ss (unless_ended z (λ kept. and_value b v rows (decided b v kept)))) k
    ∙ ap (under b n ss) (staged_is b v rows s (decided b v next) r l) ∙ sym (under_more b n v ss s (decided b v next) e)

pub can_now : (b : Bool) (k : ℕ) (rows : List Row) → 0 < k → CanEliminate b k rows → AllInOrder rows × CombineAll b (k - 1) (raising (k - 1) rows) (lowering (k - 1) rows) × ((next : List Row) → eliminated b (k - 1) rows ≡ keeps next → CanEliminate b (k - 1) next)
can_now b zero rows h c = absurd (omega arith)
can_now b (suc v) rows h c =
    let is : v ≡ suc v - 1 = omega arith in
    subst (λ (z : ℕ). AllInOrder rows × CombineAll b z (raising z rows) (lowering z rows) × ((next : List Row) → eliminated b z rows ≡ keeps next → CanEliminate b z next)) is c

pub some_event : (P : Type 0) (Q : code.Event → Type 0) (o : Option code.Event) → is_some o ≡ true → ((e : code.Event) → o ≡ Some e → Q e) → MatchOption o P Q
some_event P Q None h f = absurd (cc)
some_event P Q (Some e) h f = f e refl

pub no_event : (o : Option code.Event) → is_some o ≡ false → o ≡ None
no_event None h = refl
no_event (Some e) h = absurd (cc)

-- one stage more
pub stages_more : (b : Bool) (n k v : ℕ) (first rows next : List Row) (ss : List Stage) (s : Stage) → k ≡ suc v → ((rest : List Stage) → AreStages b k rows rest → AreStages b n first (ss ++ rest)) → eliminated b v rows ≡ outcome None next → (bare s.raising.items) ≡ raising v rows → (bare s.lowering.items) ≡ lowering v rows → (all : List Stage) → all ≡ ss ++ s ∷ [] → (rest : List Stage) → AreStages b v next rest → AreStages b n first (all ++ rest)
stages_more b n k v first rows next ss s is h e r l all a rest t =
    subst (AreStages b n first) (sym (ap (λ (x : List Stage). x ++ rest) a ∙ append_assoc ss (s ∷ []) rest)) (h (s ∷ rest) (subst (λ (m : ℕ). AreStages b m rows (s ∷ rest)) (sym is) (r, l, (next, e, t))))

pub stages_all : (b : Bool) (n k : ℕ) (first rows : List Row) (ss : List Stage) → k ≡ 0 → ((rest : List Stage) → AreStages b k rows rest → AreStages b n first (ss ++ rest)) → AreStages b n first ss
stages_all b n k first rows ss is h = subst (AreStages b n first) (append-nil ss) (h [] tt)

-- ---- answers that say more
pub match_more : {T P A : Type 0} {Q B : T → Type 0} (o : Option T) → (P → A) → ((x : T) → Q x → B x) → MatchOption o P Q → MatchOption o A B
match_more None f g h = f h
match_more (Some x) f g h = g x h

pub match_two : {T P A C : Type 0} {Q B D : T → Type 0} (o : Option T) → (P → A → C) → ((x : T) → Q x → B x → D x) → MatchOption o P Q → MatchOption o A B → MatchOption o C D
match_two None f g h k = f h k
match_two (Some x) f g h k = g x h k

pub if_ok_two : {T E : Type 0} {P Q R : T → Type 0} (r : Result T E) → ((x : T) → P x → Q x → R x) → IfOk r P → IfOk r Q → IfOk r R
if_ok_two (Ok x) f h k = f x h k
if_ok_two (Err e) f h k = tt

pub always : {T E : Type 0} {P : T → Type 0} (r : Result T E) → ((x : T) → P x) → IfOk r P
always (Ok x) f = f x
always (Err e) f = tt
