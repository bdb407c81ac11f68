-- Laws of merging.
use Rattle.std.proofs.Common.{◌≡◌, List, [], ◌∷◌, refl, sym, ap, ◌∙◌, inl, inr}
use Rattle.std.specs.Prelude.{◌⊎◌, ◌↔◌}
use Rattle.lt_cover.specs.declared.rows.LabelRow.{LabelRow}
use Rattle.lt_cover.specs.declared.rows.HyperRow.{HyperRow}
use Rattle.lt_cover.specs.declared.rows.HyperState.{HyperState}
use Rattle.lt_cover.specs.declared.rows.HyperState.TheVariants.{Uncovered, TooWide, Covered}
use Rattle.lt_cover.specs.Coverage.Table.{Table, IsOrdered}
use Rattle.lt_cover.specs.Coverage.Merge.{EachMerged, IsMerge, IsMergedHyper, IsMergedLabel, greater}

other : {A B : Type 0} → A ⊎ B → B ⊎ A
other (inl a) = inr a
other (inr b) = inl b

either : {A : Type 0} → A ⊎ A → A
either (inl a) = a
either (inr a) = a

greater_other : (a b : HyperState) → greater a b ≡ greater b a
greater_other Uncovered Uncovered = refl
greater_other Uncovered TooWide = refl
greater_other Uncovered Covered = refl
greater_other TooWide Uncovered = refl
greater_other TooWide TooWide = refl
greater_other TooWide Covered = refl
greater_other Covered Uncovered = refl
greater_other Covered TooWide = refl
greater_other Covered Covered = refl

greater_self : (a : HyperState) → a ≡ greater a a
greater_self Uncovered = refl
greater_self TooWide = refl
greater_self Covered = refl

each_other : {X : Type 0} (R : X → X → X → Type 0) → ((x y z : X) → R x y z → R y x z) → (a b m : List X) → EachMerged R a b m → EachMerged R b a m
each_other R s [] [] [] h = tt
each_other R s (x ∷ a) (y ∷ b) (z ∷ m) h = (s x y z h.0, each_other R s a b m h.1)
each_other R s [] [] (z ∷ m) h = absurd h
each_other R s [] (y ∷ b) [] h = absurd h
each_other R s [] (y ∷ b) (z ∷ m) h = absurd h
each_other R s (x ∷ a) [] [] h = absurd h
each_other R s (x ∷ a) [] (z ∷ m) h = absurd h
each_other R s (x ∷ a) (y ∷ b) [] h = absurd h

each_self : {X : Type 0} (R : X → X → X → Type 0) → ((x : X) → R x x x) → (a : List X) → EachMerged R a a a
each_self R s [] = tt
each_self R s (x ∷ a) = (s x, each_self R s a)

label_other : (x y z : LabelRow) → IsMergedLabel x y z → IsMergedLabel y x z
label_other x y z h = record { left = h.right; right = h.left; by = λ name. (λ k. other ((h.by name).0 k), λ k. (h.by name).1 (other k)) }

hyper_other : (x y z : HyperRow) → IsMergedHyper x y z → IsMergedHyper y x z
hyper_other x y z h = record { left = h.right; right = h.left; state = h.state ∙ greater_other x.state y.state }

pub commutative : (a b m : Table) → IsMerge a b m → IsMerge b a m
commutative a b m h = record {
  ordered = h.ordered;
  tests = λ x. (λ k. other ((h.tests x).0 k), λ k. (h.tests x).1 (other k));
  labels = each_other IsMergedLabel label_other a.labels b.labels m.labels h.labels;
  hypers = each_other IsMergedHyper hyper_other a.hypers b.hypers m.hypers h.hypers;
}

pub idempotent : (a : Table) → IsOrdered a → IsMerge a a a
idempotent a h = record {
  ordered = h;
  tests = λ x. (λ k. inl k, λ k. either k);
  labels = each_self IsMergedLabel (λ x. record { left = (refl, refl); right = (refl, refl); by = λ name. (λ k. inl k, λ k. either k) }) a.labels;
  hypers = each_self IsMergedHyper (λ x. record { left = (refl, refl); right = (refl, refl); state = greater_self x.state }) a.hypers;
}

greater_grouped : (a b c : HyperState) → greater (greater a b) c ≡ greater a (greater b c)
greater_grouped Covered b c = refl
greater_grouped Uncovered b c = refl
greater_grouped TooWide Uncovered c = refl
greater_grouped TooWide TooWide Uncovered = refl
greater_grouped TooWide TooWide TooWide = refl
greater_grouped TooWide TooWide Covered = refl
greater_grouped TooWide Covered c = refl

-- in the first, or in the second or third
regroup : {A B C M N X : Type 0} → M ↔ (A ⊎ B) → N ↔ (B ⊎ C) → X ↔ (M ⊎ C) → X ↔ (A ⊎ N)
regroup {A} {B} {C} {M} {N} {X} m n x = (λ k. there (x.0 k), λ k. back k)
  where
    split : A ⊎ B → A ⊎ N
    split (inl a) = inl a
    split (inr b) = inr (n.1 (inl b))

    there : M ⊎ C → A ⊎ N
    there (inl k) = split (m.0 k)
    there (inr c) = inr (n.1 (inr c))

    join : B ⊎ C → X
    join (inl b) = x.1 (inl (m.1 (inr b)))
    join (inr c) = x.1 (inr c)

    back : A ⊎ N → X
    back (inl a) = x.1 (inl (m.1 (inl a)))
    back (inr k) = join (n.0 k)

each_grouped : {X : Type 0} (R : X → X → X → Type 0) → ((a b c m n x : X) → R a b m → R b c n → R m c x → R a n x) → (a b c m n x : List X) → EachMerged R a b m → EachMerged R b c n → EachMerged R m c x → EachMerged R a n x
each_grouped R s [] [] [] [] [] [] h k l = tt
each_grouped R s (a ∷ ar) (b ∷ br) (c ∷ cr) (m ∷ mr) (n ∷ nr) (x ∷ xr) h k l = (s a b c m n x h.0 k.0 l.0, each_grouped R s ar br cr mr nr xr h.1 k.1 l.1)
each_grouped R s [] [] [] [] [] (x ∷ xr) h k l = absurd l
each_grouped R s [] [] [] [] (n ∷ nr) x h k l = absurd k
each_grouped R s [] [] [] (m ∷ mr) n x h k l = absurd h
each_grouped R s [] [] (c ∷ cr) m n x h k l = absurd k
each_grouped R s [] (b ∷ br) c m n x h k l = absurd h
each_grouped R s (a ∷ ar) [] c m n x h k l = absurd h
each_grouped R s (a ∷ ar) (b ∷ br) c [] n x h k l = absurd h
each_grouped R s (a ∷ ar) (b ∷ br) [] (m ∷ mr) n x h k l = absurd k
each_grouped R s (a ∷ ar) (b ∷ br) (c ∷ cr) (m ∷ mr) [] x h k l = absurd k
each_grouped R s (a ∷ ar) (b ∷ br) (c ∷ cr) (m ∷ mr) (n ∷ nr) [] h k l = absurd l

label_grouped : (a b c m n x : LabelRow) → IsMergedLabel a b m → IsMergedLabel b c n → IsMergedLabel m c x → IsMergedLabel a n x
label_grouped a b c m n x h k l = record {
  left = (l.left.0 ∙ h.left.0, l.left.1 ∙ h.left.1);
  right = (l.right.0 ∙ sym k.right.0, l.right.1 ∙ sym k.right.1);
  by = λ name. regroup (h.by name) (k.by name) (l.by name);
}

hyper_grouped : (a b c m n x : HyperRow) → IsMergedHyper a b m → IsMergedHyper b c n → IsMergedHyper m c x → IsMergedHyper a n x
hyper_grouped a b c m n x h k l = record {
  left = (l.left.0 ∙ h.left.0, l.left.1 ∙ h.left.1);
  right = (l.right.0 ∙ sym k.right.0, l.right.1 ∙ sym k.right.1);
  state = l.state ∙ (ap (λ s. greater s c.state) h.state ∙ (greater_grouped a.state b.state c.state ∙ ap (greater a.state) (sym k.state)));
}

pub associative : (a b c m n x : Table) → IsMerge a b m → IsMerge b c n → IsMerge m c x → IsMerge a n x
associative a b c m n x h k l = record {
  ordered = l.ordered;
  tests = λ t. regroup (h.tests t) (k.tests t) (l.tests t);
  labels = each_grouped IsMergedLabel label_grouped a.labels b.labels c.labels m.labels n.labels x.labels h.labels k.labels l.labels;
  hypers = each_grouped IsMergedHyper hyper_grouped a.hypers b.hypers c.hypers m.hypers n.hypers x.hypers h.hypers k.hypers l.hypers;
}
