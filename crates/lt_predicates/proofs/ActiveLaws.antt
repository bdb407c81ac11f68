-- The steps of a loop over the clauses of a decision that determine it.
use Rattle.std.proofs.Common.{◌≡◌, ℕ, ◌+◌, ◌<◌, ◌≤◌, List, [], ◌∷◌, ◌++◌, length, map, get_or, drop, sym, ap, ◌∙◌, append_assoc, add-one}
use Rattle.std.proofs.lemmas.List.{append-nil, at_drop_more, drop_all, map_push}
use Rattle.lt_tree.specs.Tree as t
use Rattle.lt_objectives.specs.Decisions.{conjunction, negation, determination, active_from}

abbrev pub active_rest : {A : Type 0} (f : A → t.Expression) → t.Expression → ℕ → List A → List t.Expression
active_rest f d n clauses = active_from d n (map f clauses)

two_more : {A B : Type 0} (g : B → A) (list one both : List B) (x y : B) → one ≡ list ++ x ∷ [] → both ≡ one ++ y ∷ [] → (rest : List A) → map g both ++ rest ≡ map g list ++ g x ∷ g y ∷ rest
two_more g list one both x y first second rest =
    ap (λ l. map g l ++ rest) second ∙ ap (λ l. l ++ rest) (map_push g one y) ∙ append_assoc (map g one) (g y ∷ []) rest
    ∙ ap (λ l. map g l ++ g y ∷ rest) first ∙ ap (λ l. l ++ g y ∷ rest) (map_push g list x) ∙ append_assoc (map g list) (g x ∷ []) (g y ∷ rest)

pub active_step : {A B : Type 0} (f : A → t.Expression) (g : B → t.Expression) (d : t.Expression) (clauses : List A) (n : ℕ) (clause : A) (list one both : List B) (x y : B) →
    n < length clauses → clause ≡ get_or clauses n clause → one ≡ list ++ x ∷ [] → both ≡ one ++ y ∷ [] →
    g x ≡ conjunction (f clause) (determination n d) → g y ≡ conjunction (negation (f clause)) (determination n d) →
    map g both ++ active_rest f d (n + 1) (drop (n + 1) clauses) ≡ map g list ++ active_rest f d n (drop n clauses)
active_step f g d clauses n clause list one both x y less is first second x_is y_is =
    two_more g list one both x y first second (active_rest f d (n + 1) (drop (n + 1) clauses))
    ∙ ap (λ e. map g list ++ e ∷ g y ∷ active_rest f d (n + 1) (drop (n + 1) clauses)) x_is
    ∙ ap (λ e. map g list ++ conjunction (f clause) (determination n d) ∷ e ∷ active_rest f d (n + 1) (drop (n + 1) clauses)) y_is
    ∙ ap (λ k. map g list ++ conjunction (f clause) (determination n d) ∷ conjunction (negation (f clause)) (determination n d) ∷ active_rest f d k (drop (n + 1) clauses)) (add-one n)
    ∙ ap (λ c. map g list ++ active_rest f d n (c ∷ drop (n + 1) clauses)) is
    ∙ ap (λ l. map g list ++ l) (sym (at_drop_more (active_rest f d n) clauses n clause less))

pub active_end : {A : Type 0} (f : A → t.Expression) (d : t.Expression) (clauses : List A) (n : ℕ) (list : List t.Expression) → length clauses ≤ n → list ++ active_rest f d n (drop n clauses) ≡ list
active_end f d clauses n list over = ap (λ l. list ++ active_rest f d n l) (drop_all n clauses over) ∙ append-nil list
