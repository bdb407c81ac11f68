-- What is kept of rows that come in turn.
use Rattle.std.proofs.Common.{arith, ◌≡◌, refl, sym, ◌∙◌, ap, subst, ℕ, ℤ, pos, ◌≤ℤ◌, List, [], ◌∷◌, ◌++◌, length, ◌⊎◌, inl, inr, Bool, true, false, ◌&&◌, cond}
use Rattle.std.specs.Prelude.{int_lt, nat_lt, ◌==◌, if◌then◌else◌, map}
use Rattle.std.specs.Ordering.{int_eq}
use Rattle.std.specs.List.{filter}
use Rattle.std.proofs.lemmas.Int.{ints}
use Rattle.std.proofs.lemmas.Bool.{eq-eqb}
use Rattle.std.proofs.lemmas.Bool.Decides.{Decides-int_eq}
use Rattle.lt_lin.specs.declared.row.Row.{Row}
use Rattle.lt_lin.specs.Terms.{Term}
use Rattle.lt_elim.specs.Combination.{normalised, combination, is_wide}
use Rattle.lt_elim.specs.Elimination.{Kept, keeps, ends, refuted, coeff, many_rows, row_limit, within_limit, and_next, same_terms, is_constant, tighter, with_row, keep, keep_normalised, keep_all, combine_with, combine_all}

abbrev pub In : Row → List Row → Type 0
In r [] = ⊥
In r (q ∷ qs) = (q ≡ r) ⊎ In r qs

pub in_append_left : (r : Row) (a b : List Row) → In r a → In r (a ++ b)
in_append_left r [] b h = absurd h
in_append_left r (q ∷ a) b (inl e) = inl e
in_append_left r (q ∷ a) b (inr h) = inr (in_append_left r a b h)

pub in_append_right : (r : Row) (a b : List Row) → In r b → In r (a ++ b)
in_append_right r [] b h = h
in_append_right r (q ∷ a) b h = inr (in_append_right r a b h)

pub in_append : (r : Row) (a b : List Row) → In r (a ++ b) → In r a ⊎ In r b
in_append r [] b h = inr h
in_append r (q ∷ a) b (inl e) = inl (inl e)
in_append r (q ∷ a) b (inr h) = elim (in_append r a b h) [ inl x ↦ inl (inr x) | inr x ↦ inr x ]

pub in_map : (f : Row → Row) (r : Row) (rows : List Row) → In r rows → In (f r) (map f rows)
in_map f r [] h = h
in_map f r (q ∷ qs) (inl e) = inl (ap f e)
in_map f r (q ∷ qs) (inr h) = inr (in_map f r qs h)

pub map_in : (f : Row → Row) (r : Row) (rows : List Row) → In r (map f rows) → (q : Row) × In q rows × (r ≡ f q)
map_in f r [] h = absurd h
map_in f r (q ∷ qs) (inl e) = (q, inl refl, sym e)
map_in f r (q ∷ qs) (inr h) = let m = map_in f r qs h in (m.0, inr m.1, m.2)

pub in_filter : (test : Row → Bool) (r : Row) (rows : List Row) → In r rows → test r ≡ true → In r (filter test rows)
in_filter test r [] h e = h
in_filter test r (q ∷ qs) h e = by_test (test q) refl h (λ x. in_filter test r qs x e)
  where
    by_test : (b : Bool) → test q ≡ b → In r (q ∷ qs) → (In r qs → In r (filter test qs)) → In r (cond b (q ∷ filter test qs) (filter test qs))
    by_test true f (inl x) rest = inl x
    by_test true f (inr x) rest = inr (rest x)
    by_test false f (inl x) rest = absurd (let g : test r ≡ false = ap test (sym x) ∙ f in cc)
    by_test false f (inr x) rest = rest x

pub filter_in : (test : Row → Bool) (r : Row) (rows : List Row) → In r (filter test rows) → In r rows × (test r ≡ true)
filter_in test r [] h = absurd h
filter_in test r (q ∷ qs) h = by_test (test q) refl h (λ x. filter_in test r qs x)
  where
    by_test : (b : Bool) → test q ≡ b → In r (cond b (q ∷ filter test qs) (filter test qs)) → (In r (filter test qs) → In r qs × (test r ≡ true)) → In r (q ∷ qs) × (test r ≡ true)
    by_test true f (inl x) rest = (inl x, ap test (sym x) ∙ f)
    by_test true f (inr x) rest = let y = rest x in (inr y.0, y.1)
    by_test false f x rest = let y = rest x in (inr y.0, y.1)

-- ---- equal terms
pub same_terms_are : (a b : List Term) → same_terms a b ≡ true → a ≡ b
same_terms_are [] [] e = refl
same_terms_are [] (t ∷ b) e = absurd (cc)
same_terms_are (s ∷ a) [] e = absurd (cc)
same_terms_are (s ∷ a) (t ∷ b) e = by_tests (s.0 == t.0) (int_eq s.1 t.1) (same_terms a b) refl refl refl e (same_terms_are a b)
  where
    join : s.0 ≡ t.0 → s.1 ≡ t.1 → a ≡ b → s ∷ a ≡ t ∷ b
    join ev ec ih =
        let et : s ≡ t = ap (λ (x : ℕ). (x, s.1)) ev ∙ ap (λ (c : ℤ). (t.0, c)) ec in
        ap (λ (x : Term). x ∷ a) et ∙ ap (λ (x : List Term). t ∷ x) ih

    by_tests : (x y z : Bool) → (s.0 == t.0) ≡ x → int_eq s.1 t.1 ≡ y → same_terms a b ≡ z → (x && y && z) ≡ true → (same_terms a b ≡ true → a ≡ b) → s ∷ a ≡ t ∷ b
    by_tests true true true f g h e rest = join (grind arith) ((Decides-int_eq s.1 t.1).0 g) (rest h)
    by_tests true true false f g h e rest = absurd (cc)
    by_tests true false z f g h e rest = absurd (cc)
    by_tests false y z f g h e rest = absurd (cc)

pub same_terms_self : (a : List Term) → same_terms a a ≡ true
same_terms_self [] = refl
same_terms_self (t ∷ a) = by_tests (t.0 == t.0) (int_eq t.1 t.1) (same_terms a a) (eq-eqb t.0 t.0 refl) ((Decides-int_eq t.1 t.1).1 refl) (same_terms_self a)
  where
    by_tests : (x y z : Bool) → x ≡ true → y ≡ true → z ≡ true → (x && y && z) ≡ true
    by_tests true true true f g h = refl
    by_tests true true false f g h = h
    by_tests true false z f g h = g
    by_tests false y z f g h = f

pub constant_terms : (r : Row) → is_constant r ≡ true → r.terms ≡ []
constant_terms r e = same_terms_are r.terms [] e

pub terms_constant : (r : Row) → r.terms ≡ [] → is_constant r ≡ true
terms_constant r e = ap (λ ts. same_terms ts []) e

-- ---- a row that is at least as tight
pub record Has (rows : List Row) (ts : List Term) (c : ℤ) : Type 0 where
  pub row : Row
  pub is_in : In row rows
  pub terms : row.terms ≡ ts
  pub constant : row.constant ≤ℤ c

has_further : (q : Row) (qs : List Row) (ts : List Term) (c : ℤ) → Has qs ts c → Has (q ∷ qs) ts c
has_further q qs ts c h = record { row = h.row; is_in = inr h.is_in; terms = h.terms; constant = h.constant }

has_itself : (rows : List Row) (q : Row) → In q rows → Has rows q.terms q.constant
has_itself rows q h = record { row = q; is_in = h; terms = refl; constant = let p : (z : ℤ) → z ≤ℤ z = same in p q.constant }
  where
    same : (z : ℤ) → z ≤ℤ z
    same z = omega (arith, ints)

pub has_after : (rows next : List Row) (ts : List Term) (c : ℤ) → ((q : Row) → In q rows → Has next q.terms q.constant) → Has rows ts c → Has next ts c
has_after rows next ts c old h =
    let k = old h.row h.is_in in
    record { row = k.row; is_in = k.is_in; terms = k.terms ∙ h.terms; constant = lower k.row.constant h.row.constant k.constant h.constant }
  where
    lower : (a b : ℤ) → a ≤ℤ b → b ≤ℤ c → a ≤ℤ c
    lower a b p q = omega (arith, ints)

-- no row has these terms
abbrev pub NoneLike : List Term → List Row → Type 0
NoneLike ts [] = Unit {0}
NoneLike ts (q ∷ qs) = (ts ≡ q.terms → ⊥) × NoneLike ts qs

abbrev pub Different : List Row → Type 0
Different [] = Unit {0}
Different (q ∷ qs) = NoneLike q.terms qs × Different qs

none_in : (ts : List Term) (rows : List Row) (r : Row) → NoneLike ts rows → In r rows → ts ≡ r.terms → ⊥
none_in ts [] r n h e = h
none_in ts (q ∷ qs) r n (inl x) e = n.0 (e ∙ ap (λ (z : Row). z.terms) (sym x))
none_in ts (q ∷ qs) r n (inr h) e = none_in ts qs r n.1 h e

pub one_of : (rows : List Row) (q r : Row) → Different rows → In q rows → In r rows → q.terms ≡ r.terms → q ≡ r
one_of [] q r d h k e = absurd h
one_of (x ∷ xs) q r d (inl h) (inl k) e = sym h ∙ k
one_of (x ∷ xs) q r d (inl h) (inr k) e = absurd (none_in x.terms xs r d.0 k (ap (λ (z : Row). z.terms) h ∙ e))
one_of (x ∷ xs) q r d (inr h) (inl k) e = absurd (none_in x.terms xs q d.0 h (ap (λ (z : Row). z.terms) k ∙ sym e))
one_of (x ∷ xs) q r d (inr h) (inr k) e = one_of xs q r d.1 h k e

-- ---- one row
record Tighter (q r t : Row) : Type 0 where
  is : (t ≡ q) ⊎ (t ≡ r)
  left : t.constant ≤ℤ q.constant
  right : t.constant ≤ℤ r.constant

tighter_of : (q r : Row) → Tighter q r (tighter q r)
tighter_of q r = by_test (int_lt r.constant q.constant) refl
  where
    same : (z : ℤ) → z ≤ℤ z
    same z = omega (arith, ints)

    less : (a b : ℤ) → int_lt a b ≡ true → a ≤ℤ b
    less a b e = grind (arith, ints)

    not_less : (a b : ℤ) → int_lt a b ≡ false → b ≤ℤ a
    not_less a b e = grind (arith, ints)

    by_test : (b : Bool) → int_lt r.constant q.constant ≡ b → Tighter q r (if b then r else q)
    by_test true e = record { is = inr refl; left = less r.constant q.constant e; right = same r.constant }
    by_test false e = record { is = inl refl; left = same q.constant; right = not_less r.constant q.constant e }

pub record Joined (rows : List Row) (r : Row) (next : List Row) : Type 0 where
  pub from : (q : Row) → In q next → In q rows ⊎ (q ≡ r)
  pub old : (q : Row) → In q rows → Has next q.terms q.constant
  pub new : Has next r.terms r.constant
  pub none : (ts : List Term) → NoneLike ts rows → (ts ≡ r.terms → ⊥) → NoneLike ts next
  pub different : Different rows → Different next

joined_here : (q : Row) (qs : List Row) (r : Row) → q.terms ≡ r.terms → Joined (q ∷ qs) r (tighter q r ∷ qs)
joined_here q qs r e = by_tighter (tighter q r) (tighter_of q r)
  where
    terms_q : (t : Row) → Tighter q r t → t.terms ≡ q.terms
    terms_q t h = elim h.is [ inl x ↦ ap (λ (z : Row). z.terms) x | inr x ↦ ap (λ (z : Row). z.terms) x ∙ sym e ]

    by_tighter : (t : Row) → Tighter q r t → Joined (q ∷ qs) r (t ∷ qs)
    by_tighter t h = record {
      from = from;
      old = old;
      new = record { row = t; is_in = inl refl; terms = terms_q t h ∙ e; constant = h.right };
      none = λ ts n o. ((λ x. n.0 (x ∙ terms_q t h)), n.1);
      different = λ d. (subst (λ (ts : List Term). NoneLike ts qs) (sym (terms_q t h)) d.0, d.1);
    }
      where
        from : (x : Row) → In x (t ∷ qs) → In x (q ∷ qs) ⊎ (x ≡ r)
        from x (inl k) = elim h.is [ inl y ↦ inl (inl (sym y ∙ k)) | inr y ↦ inr (sym k ∙ y) ]
        from x (inr k) = inl (inr k)

        old : (x : Row) → In x (q ∷ qs) → Has (t ∷ qs) x.terms x.constant
        old x (inl k) = subst (λ (z : Row). Has (t ∷ qs) z.terms z.constant) k (record { row = t; is_in = inl refl; terms = terms_q t h; constant = h.left })
        old x (inr k) = has_itself (t ∷ qs) x (inr k)

joined_further : (q : Row) (qs : List Row) (r : Row) (next : List Row) → (q.terms ≡ r.terms → ⊥) → Joined qs r next → Joined (q ∷ qs) r (q ∷ next)
joined_further q qs r next o j = record {
  from = from;
  old = old;
  new = has_further q next r.terms r.constant j.new;
  none = λ ts n x. (n.0, j.none ts n.1 x);
  different = λ d. (j.none q.terms d.0 o, j.different d.1);
}
  where
    from : (x : Row) → In x (q ∷ next) → In x (q ∷ qs) ⊎ (x ≡ r)
    from x (inl k) = inl (inl k)
    from x (inr k) = elim (j.from x k) [ inl y ↦ inl (inr y) | inr y ↦ inr y ]

    old : (x : Row) → In x (q ∷ qs) → Has (q ∷ next) x.terms x.constant
    old x (inl k) = has_itself (q ∷ next) x (inl k)
    old x (inr k) = has_further q next x.terms x.constant (j.old x k)

pub joined_of : (rows : List Row) (r : Row) → Joined rows r (with_row rows r)
joined_of [] r = record {
  from = λ q h. elim h [ inl e ↦ inr (sym e) | inr x ↦ absurd x ];
  old = λ q h. absurd h;
  new = has_itself (r ∷ []) r (inl refl);
  none = λ ts n o. (o, tt);
  different = λ d. (tt, tt);
}
joined_of (q ∷ qs) r = by_test (same_terms q.terms r.terms) refl (joined_of qs r)
  where
    by_test : (b : Bool) → same_terms q.terms r.terms ≡ b → Joined qs r (with_row qs r) → Joined (q ∷ qs) r (if b then tighter q r ∷ qs else q ∷ with_row qs r)
    by_test true e j = joined_here q qs r (same_terms_are q.terms r.terms e)
    by_test false e j = joined_further q qs r (with_row qs r) (λ x. let y : same_terms q.terms r.terms ≡ true = ap (λ (ts : List Term). same_terms q.terms ts) (sym x) ∙ same_terms_self q.terms in absurd (cc)) j

-- ---- rows in turn
-- Where no event came, a normalised row without variables is not negative and nothing is kept of it; another one is kept.
pub data KeptOne (kept : List Row) (r : Row) (next : List Row) : Type 0 where
  dropped : is_constant r ≡ true → pos 0 ≤ℤ r.constant → next ≡ kept → KeptOne kept r next
  stays : is_constant r ≡ false → next ≡ with_row kept r → KeptOne kept r next

within_is : (b : Bool) (v : ℕ) (rows next : List Row) → within_limit b v rows ≡ keeps next → next ≡ rows
within_is b v rows next e = by_test (b && nat_lt row_limit (length rows)) e
  where
    by_test : (t : Bool) → (if t then ends (many_rows v) else keeps rows) ≡ keeps next → next ≡ rows
    by_test true e = absurd (cc)
    by_test false e = cc

kept_one : (b : Bool) (v : ℕ) (kept : List Row) (r : Row) (next : List Row) → keep_normalised b v kept r ≡ keeps next → KeptOne kept r next
kept_one b v kept r next e = by_tests (is_constant r) (int_lt r.constant (pos 0)) refl refl e
  where
    not_less : (z : ℤ) → int_lt z (pos 0) ≡ false → pos 0 ≤ℤ z
    not_less z e = grind (arith, ints)

    by_tests : (c l : Bool) → is_constant r ≡ c → int_lt r.constant (pos 0) ≡ l → (if c && l then ends refuted else (if c then keeps kept else within_limit b v (with_row kept r))) ≡ keeps next → KeptOne kept r next
    by_tests true true f g e = absurd (cc)
    by_tests true false f g e = dropped f (not_less r.constant g) (cc)
    by_tests false l f g e = stays f (within_is b v (with_row kept r) next e)

pub record Offered (kept offered next : List Row) : Type 0 where
  pub from : (q : Row) → In q next → In q kept ⊎ ((r : Row) × In r offered × (q ≡ normalised r) × (is_constant q ≡ false))
  pub old : (q : Row) → In q kept → Has next q.terms q.constant
  pub new : (r : Row) → In r offered → ((is_constant (normalised r) ≡ true) × (pos 0 ≤ℤ (normalised r).constant)) ⊎ Has next (normalised r).terms (normalised r).constant
  pub different : Different kept → Different next

offered_more : (kept : List Row) (r : Row) (mid rs next : List Row) → KeptOne kept (normalised r) mid → Offered mid rs next → Offered kept (r ∷ rs) next
offered_more kept r mid rs next (dropped c p e) o = record {
  from = λ q h. elim (o.from q h) [ inl x ↦ inl (subst (In q) e x) | inr x ↦ inr (x.0, inr x.1, x.2, x.3) ];
  old = λ q h. o.old q (subst (In q) (sym e) h);
  new = new;
  different = λ d. o.different (subst Different (sym e) d);
}
  where
    new : (q : Row) → In q (r ∷ rs) → ((is_constant (normalised q) ≡ true) × (pos 0 ≤ℤ (normalised q).constant)) ⊎ Has next (normalised q).terms (normalised q).constant
    new q (inl x) = inl (subst (λ (z : Row). (is_constant (normalised z) ≡ true) × (pos 0 ≤ℤ (normalised z).constant)) x (c, p))
    new q (inr h) = o.new q h
offered_more kept r mid rs next (stays c e) o = record {
  from = from;
  old = λ q h. has_after mid next q.terms q.constant o.old (j.old q h);
  new = new;
  different = λ d. o.different (j.different d);
}
  where
    j : Joined kept (normalised r) mid
    j = subst (Joined kept (normalised r)) (sym e) (joined_of kept (normalised r))

    from : (q : Row) → In q next → In q kept ⊎ ((p : Row) × In p (r ∷ rs) × (q ≡ normalised p) × (is_constant q ≡ false))
    from q h = elim (o.from q h) [ inl x ↦ from_mid (j.from q x) | inr x ↦ inr (x.0, inr x.1, x.2, x.3) ]
      where
        from_mid : In q kept ⊎ (q ≡ normalised r) → In q kept ⊎ ((p : Row) × In p (r ∷ rs) × (q ≡ normalised p) × (is_constant q ≡ false))
        from_mid (inl x) = inl x
        from_mid (inr x) = inr (r, inl refl, x, subst (λ (z : Row). is_constant z ≡ false) (sym x) c)

    new : (q : Row) → In q (r ∷ rs) → ((is_constant (normalised q) ≡ true) × (pos 0 ≤ℤ (normalised q).constant)) ⊎ Has next (normalised q).terms (normalised q).constant
    new q (inl x) = inr (subst (λ (z : Row). Has next (normalised z).terms (normalised z).constant) x (has_after mid next (normalised r).terms (normalised r).constant o.old j.new))
    new q (inr h) = o.new q h

pub offered_of : (b : Bool) (v : ℕ) (kept offered next : List Row) → keep_all b v kept offered ≡ keeps next → Offered kept offered next
offered_of b v kept [] next e = record {
  from = λ q h. inl (subst (In q) (sym is) h);
  old = λ q h. subst (λ (z : List Row). Has z q.terms q.constant) is (has_itself kept q h);
  new = λ r h. absurd h;
  different = λ d. subst Different is d;
}
  where
    is : kept ≡ next
    is = cc
offered_of b v kept (r ∷ rs) next e = by_kept (keep b v kept r) refl e (λ mid. offered_of b v mid rs next)
  where
    by_kept : (k : Kept) → keep b v kept r ≡ k → and_next k (λ more. keep_all b v more rs) ≡ keeps next → ((mid : List Row) → keep_all b v mid rs ≡ keeps next → Offered mid rs next) → Offered kept (r ∷ rs) next
    by_kept (keeps mid) f e rest = offered_more kept r mid rs next (kept_one b v kept (normalised r) mid f) (rest mid e)
    by_kept (ends event) f e rest = absurd (cc)

-- ---- combinations in turn
pub keep_both : (b : Bool) (v : ℕ) (kept a mid c next : List Row) → keep_all b v kept a ≡ keeps mid → keep_all b v mid c ≡ keeps next → keep_all b v kept (a ++ c) ≡ keeps next
keep_both b v kept [] mid c next e f = let is : kept ≡ mid = cc in subst (λ (z : List Row). keep_all b v z c ≡ keeps next) (sym is) f
keep_both b v kept (r ∷ a) mid c next e f = by_kept (keep b v kept r) e (λ more g. keep_both b v more a mid c next g f)
  where
    by_kept : (k : Kept) → and_next k (λ more. keep_all b v more a) ≡ keeps mid → ((more : List Row) → keep_all b v more a ≡ keeps mid → keep_all b v more (a ++ c) ≡ keeps next) → and_next k (λ more. keep_all b v more (a ++ c)) ≡ keeps next
    by_kept (keeps more) e rest = rest more e
    by_kept (ends event) e rest = absurd (cc)

combined_with : (b : Bool) (v : ℕ) (p : Row) (kept ns next : List Row) → combine_with b v p kept ns ≡ keeps next → keep_all b v kept (map (λ n. combination v p n) ns) ≡ keeps next
combined_with b v p kept [] next e = e
combined_with b v p kept (n ∷ ns) next e = by_test (b && is_wide v p n) e (λ more. combined_with b v p more ns next)
  where
    by_kept : (k : Kept) → and_next k (λ more. combine_with b v p more ns) ≡ keeps next → ((more : List Row) → combine_with b v p more ns ≡ keeps next → keep_all b v more (map (λ n. combination v p n) ns) ≡ keeps next) → and_next k (λ more. keep_all b v more (map (λ n. combination v p n) ns)) ≡ keeps next
    by_kept (keeps more) e rest = rest more e
    by_kept (ends event) e rest = absurd (cc)

    by_test : (t : Bool) → and_next (if t then ends (coeff v) else keep b v kept (combination v p n)) (λ more. combine_with b v p more ns) ≡ keeps next → ((more : List Row) → combine_with b v p more ns ≡ keeps next → keep_all b v more (map (λ n. combination v p n) ns) ≡ keeps next) → keep_all b v kept (map (λ n. combination v p n) (n ∷ ns)) ≡ keeps next
    by_test true e rest = absurd (cc)
    by_test false e rest = by_kept (keep b v kept (combination v p n)) e rest

-- each row of the first list with each of the second
abbrev pub combinations : ℕ → List Row → List Row → List Row
combinations v [] ns = []
combinations v (p ∷ ps) ns = map (λ n. combination v p n) ns ++ combinations v ps ns

pub combined_all : (b : Bool) (v : ℕ) (kept ps ns next : List Row) → combine_all b v kept ps ns ≡ keeps next → keep_all b v kept (combinations v ps ns) ≡ keeps next
combined_all b v kept [] ns next e = e
combined_all b v kept (p ∷ ps) ns next e = by_kept (combine_with b v p kept ns) refl e (λ mid. combined_all b v mid ps ns next)
  where
    by_kept : (k : Kept) → combine_with b v p kept ns ≡ k → and_next k (λ more. combine_all b v more ps ns) ≡ keeps next → ((mid : List Row) → combine_all b v mid ps ns ≡ keeps next → keep_all b v mid (combinations v ps ns) ≡ keeps next) → keep_all b v kept (map (λ n. combination v p n) ns ++ combinations v ps ns) ≡ keeps next
    by_kept (keeps mid) f e rest = keep_both b v kept (map (λ n. combination v p n) ns) mid (combinations v ps ns) next (combined_with b v p kept ns mid f) (rest mid e)
    by_kept (ends event) f e rest = absurd (cc)

pub in_combinations : (v : ℕ) (ps ns : List Row) (p n : Row) → In p ps → In n ns → In (combination v p n) (combinations v ps ns)
in_combinations v [] ns p n h k = absurd h
in_combinations v (q ∷ ps) ns p n (inl e) k =
    in_append_left (combination v p n) (map (λ x. combination v q x) ns) (combinations v ps ns)
    (subst (λ (z : Row). In (combination v p n) (map (λ x. combination v z x) ns)) (sym e) (in_map (λ x. combination v p x) n ns k))
in_combinations v (q ∷ ps) ns p n (inr h) k =
    in_append_right (combination v p n) (map (λ x. combination v q x) ns) (combinations v ps ns) (in_combinations v ps ns p n h k)

pub combinations_in : (v : ℕ) (ps ns : List Row) (r : Row) → In r (combinations v ps ns) → (p : Row) × (n : Row) × In p ps × In n ns × (r ≡ combination v p n)
combinations_in v [] ns r h = absurd h
combinations_in v (q ∷ ps) ns r h =
    elim (in_append r (map (λ x. combination v q x) ns) (combinations v ps ns) h) [
      | inl x ↦ (let m = map_in (λ x. combination v q x) r ns x in (q, m.0, inl refl, m.1, m.2))
      | inr x ↦ (let m = combinations_in v ps ns r x in (m.0, m.1, inr m.2, m.3, m.4))
    ]
