-- Turns of a loop that reads a list: what was read is put before what is read still.
use Rattle.std.proofs.Common.{◌≡◌, ℕ, suc, List, [], ◌∷◌, ◌++◌, Option, Some, sym, ap, ◌∙◌}
use Rattle.lt_tree.specs.Scope.{Scope}
use Rattle.lt_expr.specs.Front.{Rest, Reader}
use Rattle.lt_expr.specs.Fronts.{after}

-- one more was read, and the rest is read from another place and in another scope
pub turned : {X A : Type 0} (put : List X → A → A) (next reads : ℕ → Scope → Reader A) (front all : List X) (x : X) (depth n : ℕ) (s t t' : Scope) (r u u' : Rest) (whole : Option (A × Rest))
    → all ≡ front ++ x ∷ [] → t' ≡ t → u' ≡ u → depth ≡ suc n
    → after (put (front ++ x ∷ [])) (next n t u) ≡ after (put front) (reads (suc n) s r)
    → after (put front) (reads depth s r) ≡ whole
    → after (put all) (next n t' u') ≡ whole
turned put next reads front all x depth n s t t' r u u' whole is scope rest deep turn before =
    ap (λ xs. after (put xs) (next n t' u')) is
    ∙ ap (λ v. after (put (front ++ x ∷ [])) (next n v u')) scope
    ∙ ap (λ v. after (put (front ++ x ∷ [])) (next n t v)) rest
    ∙ turn
    ∙ ap (λ k. after (put front) (reads k s r)) (sym deep)
    ∙ before

-- the same where nothing more was read
pub skipped : {X A : Type 0} (put : List X → A → A) (reads : ℕ → Scope → Reader A) (front : List X) (depth n : ℕ) (s t' : Scope) (r u u' : Rest) (whole : Option (A × Rest))
    → t' ≡ s → u' ≡ u → depth ≡ suc n → reads n s u ≡ reads (suc n) s r
    → after (put front) (reads depth s r) ≡ whole
    → after (put front) (reads n t' u') ≡ whole
skipped put reads front depth n s t' r u u' whole scope rest deep turn before =
    ap (λ v. after (put front) (reads n v u')) scope
    ∙ ap (λ v. after (put front) (reads n s v)) rest
    ∙ ap (after (put front)) turn
    ∙ ap (λ k. after (put front) (reads k s r)) (sym deep)
    ∙ before

-- the list ends behind one more
pub finished : {X A : Type 0} (put : List X → A → A) (reads : ℕ → Scope → Reader A) (view : List X → A) (front all : List X) (x : X) (depth n : ℕ) (s : Scope) (r u u' : Rest) (whole : Option (A × Rest))
    → all ≡ front ++ x ∷ [] → u' ≡ u → depth ≡ suc n
    → after (put front) (reads (suc n) s r) ≡ Some (view (front ++ x ∷ []), u)
    → after (put front) (reads depth s r) ≡ whole
    → whole ≡ Some (view all, u')
finished put reads view front all x depth n s r u u' whole is rest deep end before =
    sym before
    ∙ ap (λ k. after (put front) (reads k s r)) deep
    ∙ end
    ∙ ap (λ xs. Some (view xs, u)) (sym is)
    ∙ ap (λ v. Some (view all, v)) (sym rest)

-- the list ends with what was read
pub stopped : {X A : Type 0} (put : List X → A → A) (reads : ℕ → Scope → Reader A) (view : List X → A) (front : List X) (depth n : ℕ) (s : Scope) (r u u' : Rest) (whole : Option (A × Rest))
    → u' ≡ u → depth ≡ suc n
    → after (put front) (reads (suc n) s r) ≡ Some (view front, u)
    → after (put front) (reads depth s r) ≡ whole
    → whole ≡ Some (view front, u')
stopped put reads view front depth n s r u u' whole rest deep end before =
    sym before
    ∙ ap (λ k. after (put front) (reads k s r)) deep
    ∙ end
    ∙ ap (λ v. Some (view front, v)) (sym rest)
