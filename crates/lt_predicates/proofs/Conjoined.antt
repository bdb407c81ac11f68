-- Conjunctions, joined clause by clause.
use Rattle.std.proofs.Common.{◌≡◌, ℕ, ◌+◌, ◌<◌, ◌≤◌, List, [], ◌∷◌, ◌++◌, length, map, get_or, drop, refl, sym, ap, ◌∙◌, append_assoc}
use Rattle.std.specs.List.{flat_map}
use Rattle.std.proofs.lemmas.List.{at_drop_more, drop_all}
use Rattle.lt_tree.specs.Tree as t
use Rattle.lt_objectives.specs.Decisions.{conjunction, negation, conjunctions_from}
use Rattle.lt_predicates.specs.Conjunctions.{extensions}

-- ---- one more clause

joined_more : (ms : List t.Expression) (e : t.Expression) (es : List t.Expression) →
    flat_map (λ m. conjunctions_from m es) (flat_map (λ m. extensions m e) ms) ≡ flat_map (λ m. conjunctions_from m (e ∷ es)) ms
joined_more [] e es = refl
joined_more (m ∷ ms) e es =
    sym (append_assoc (conjunctions_from (conjunction m e) es) (conjunctions_from (conjunction m (negation e)) es) (flat_map (λ m. conjunctions_from m es) (flat_map (λ m. extensions m e) ms)))
    ∙ ap (λ l. (conjunctions_from (conjunction m e) es ++ conjunctions_from (conjunction m (negation e)) es) ++ l) (joined_more ms e es)

joined_none : (ms : List t.Expression) → flat_map (λ m. conjunctions_from m []) ms ≡ ms
joined_none [] = refl
joined_none (m ∷ ms) = ap (λ l. m ∷ l) (joined_none ms)

-- of what lies in memory
same_extensions : {A : Type 0} (f : A → t.Expression) (xs : List A) (e : t.Expression) → flat_map (λ x. extensions (f x) e) xs ≡ flat_map (λ m. extensions m e) (map f xs)
same_extensions f [] e = refl
same_extensions f (x ∷ xs) e = ap (λ l. extensions (f x) e ++ l) (same_extensions f xs e)

-- ---- the steps of the loop

abbrev pub joined : {A : Type 0} (f : A → t.Expression) → List t.Expression → List A → List t.Expression
joined f ms rest = flat_map (λ m. conjunctions_from m (map f rest)) ms

pub join_step : {A B : Type 0} (f : A → t.Expression) (g : B → t.Expression) (clauses : List A) (i : ℕ) (clause : A) (slice made : List B) (ms : List t.Expression) →
    i < length clauses → clause ≡ get_or clauses i clause → slice ≡ made → ms ≡ flat_map (λ m. extensions (g m) (f clause)) slice →
    joined f ms (drop (i + 1) clauses) ≡ joined f (map g made) (drop i clauses)
join_step f g clauses i clause slice made ms less is same made_is =
    ap (λ l. joined f l (drop (i + 1) clauses)) (made_is ∙ ap (flat_map (λ m. extensions (g m) (f clause))) same ∙ same_extensions g made (f clause))
    ∙ joined_more (map g made) (f clause) (map f (drop (i + 1) clauses))
    ∙ ap (λ x. joined f (map g made) (x ∷ drop (i + 1) clauses)) is
    ∙ sym (at_drop_more (joined f (map g made)) clauses i clause less)

pub join_end : {A : Type 0} (f : A → t.Expression) (ms : List t.Expression) (clauses : List A) (i : ℕ) → length clauses ≤ i → joined f ms (drop i clauses) ≡ ms
join_end f ms clauses i over = ap (joined f ms) (drop_all i clauses over) ∙ joined_none ms
