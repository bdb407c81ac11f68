-- Calls that fail, and what is read then.
use Rattle.std.proofs.Common.{◌≡◌, ℕ, suc, List, Option, Some, None, Result, Ok, Err, sym, ap, subst, ◌∙◌}
use Rattle.std.specs.Result.{IsErr, IsErrAnd}
use Rattle.lt_tree.specs.declared.stop.Stop.{Stop}
use Rattle.lt_tree.specs.declared.stop.Stop.TheVariants.{NotOfForm, NoMemory}
use Rattle.lt_tree.specs.Scope.{Scope}
use Rattle.lt_expr.specs.Front.{Rest, Reader}
use Rattle.lt_expr.specs.Fronts.{after}
use Rattle.lt_expr.specs.Parsing.{Parsing, scope_of, GoesOn, Fails, Gives, GivesNames}
use Rattle.lt_expr.proofs.Scopes.{Within, same_scope, within_here, within_on, within_declares, declares}

pub fails_as : {A B : Type 0} (stop : Stop) (a : Option A) (b : Option B) → (a ≡ None → b ≡ None) → Fails stop a → Fails stop b
fails_as NotOfForm a b goes h = goes h
fails_as NoMemory a b goes h = tt

pub names_fail : {X Y : Type 0} (view : X → Y) (names : Y → Scope) (before later : Parsing) (result : Result X Stop) (stop : Stop) (read : Option (Y × Rest))
    → IsErr result → IsErrAnd result (λ e. e ≡ stop) → Fails stop read → GivesNames view names before later result read
names_fail view names before later (Ok x) stop read no_ok same h = absurd cc
names_fail view names before later (Err e) stop read is same h = let P : Stop → Type 0 = λ s. Fails s read in subst P (sym same) h

pub gives_fail : {X Y : Type 0} (view : X → Y) (before later : Parsing) (result : Result X Stop) (stop : Stop) (read : Option (Y × Rest))
    → IsErr result → IsErrAnd result (λ e. e ≡ stop) → Fails stop read → Gives view before later result read
gives_fail view before later (Ok x) stop read no_ok same h = absurd cc
gives_fail view before later (Err e) stop read is same h = let P : Stop → Type 0 = λ s. Fails s read in subst P (sym same) h

-- a call's answer, where something was read before it
pub names_on : {X Y : Type 0} (view : X → Y) (names : Y → Scope → Scope) (a b d : Parsing) (result : Result X Stop) (whole read : Option (Y × Rest)) → GoesOn a b → whole ≡ read
    → GivesNames view (λ y. names y (scope_of b)) b d result read → GivesNames view (λ y. names y (scope_of a)) a d result whole
names_on view names a b d (Ok x) whole read on is h =
    (is ∙ h.0, declares a d (names (view x) (scope_of a)) (within_declares a b d _ (within_on a a b (within_here a) on) h.1) (h.1.scope ∙ ap (names (view x)) (same_scope a b on)))
names_on view names a b d (Err e) whole read on is h = let P : Option _ → Type 0 = λ v. Fails e v in subst P (sym is) h

-- the same where names were declared before it, if they are those that its answer says
pub names_through : {X Y : Type 0} (view : X → Y) (inner outer : Y → Scope) (a b d : Parsing) (result : Result X Stop) (whole read : Option (Y × Rest)) → Within a b → whole ≡ read
    → ((y : Y) (u : Rest) → read ≡ Some (y, u) → inner y ≡ outer y) → GivesNames view inner b d result read → GivesNames view outer a d result whole
names_through view inner outer a b d (Ok x) whole read within is same h =
    (is ∙ h.0, declares a d (outer (view x)) (within_declares a b d _ within h.1) (h.1.scope ∙ same (view x) _ h.0))
names_through view inner outer a b d (Err e) whole read within is same h = let P : Option _ → Type 0 = λ v. Fails e v in subst P (sym is) h

-- the reading of a list fails where that of its rest does
pub failed : {X A : Type 0} (put : List X → A → A) (reads : ℕ → Scope → Reader A) (front : List X) (depth n : ℕ) (s : Scope) (r : Rest) (whole : Option (A × Rest))
    → depth ≡ suc n → reads (suc n) s r ≡ None → after (put front) (reads depth s r) ≡ whole → whole ≡ None
failed put reads front depth n s r whole deep none before =
    sym before ∙ ap (λ k. after (put front) (reads k s r)) deep ∙ ap (after (put front)) none
