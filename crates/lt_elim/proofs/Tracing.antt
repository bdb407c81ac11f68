-- Lines that are added to a log.
use Rattle.std.proofs.Common.{arith, ◌≡◌, refl, sym, ◌∙◌, ap, subst, ℕ, suc, zero, ℤ, pos, ◌+ℤ◌, ◌*ℤ◌, ◌≤ℤ◌, ◌<ℤ◌, ◌+◌, ◌<◌, List, [], ◌∷◌, ◌++◌, drop, length, get_or, false, Option, Some, None, inr, append_assoc, append-nil, length-append}
use Rattle.std.specs.Prelude.{slice_get}
use Rattle.std.proofs.Math.Seq.{drop-cons}
use Rattle.std.proofs.lemmas.Int.{ints}
use Rattle.lt_lin.specs.declared.row.Row.{Row}
use Rattle.lt_lin.specs.declared.line.Line.{Line}
use Rattle.lt_lin.specs.Terms.{Term, scaled}
use Rattle.lt_lin.specs.Lines.{Lines, last, before_lines}
use Rattle.lt_lin.specs.Refutation.{IsQuotient, RefutesAfter, Refutes}
use Rattle.lt_elim.specs.declared.log.Log.{Log}
use Rattle.lt_elim.specs.Tracing.{lines_then, Derives, IsPushed, Gained, IsKnownAs, AreKnown, Traces, Traced, TracedOn, Refuting}
use Rattle.lt_elim.specs.declared.event.Event as code
use Rattle.lt_elim.specs.declared.event.Event.TheVariants as event
use Rattle.lt_elim.specs.declared.numbered.Numbered.{Numbered}
use Rattle.lt_elim.proofs.Refuting.{known_last, known_contradiction}

then_snoc : (ls : List Line) (l : Line) (rest : Lines) → lines_then (ls ++ l ∷ []) rest ≡ lines_then ls (before_lines l rest)
then_snoc [] l rest = refl
then_snoc (k ∷ ls) l rest = ap (before_lines k) (then_snoc ls l rest)

pub nothing_derived : (rows : List Row) (log : Log) → log.lines.items ≡ [] → log.count ≡ length rows → Derives rows log rows
nothing_derived rows log e c = record { leads = λ rest h. subst (λ (ls : List Line). Refutes rows (lines_then ls rest)) (sym e) h; count = sym c }

-- one more line gives one more row
pub gained : (rows known : List Row) (r : Row) (old new : Log) (l : Line) (n : ℕ) → Derives rows old known → ((rest : Lines) → RefutesAfter false (known ++ r ∷ []) rest → RefutesAfter false known (before_lines l rest)) → IsPushed old l new n → Gained rows known r new n
gained rows known r old new l n d step p = record {
  more = r ∷ [];
  derives = record {
    leads = λ rest h. subst (Refutes rows) (sym (ap (λ (x : List Line). lines_then x rest) p.lines ∙ then_snoc old.lines.items l rest)) (d.leads (before_lines l rest) (step rest h));
    count = (let k : length (known ++ r ∷ []) ≡ length known + 1 = length-append known (r ∷ []) in let c : length known ≡ old.count = d.count in let e : new.count ≡ old.count + 1 = p.count in omega arith);
  };
  is_known = ap (slice_get (known ++ r ∷ [])) (p.number_is ∙ sym d.count) ∙ known_last known r;
}

pub gained_nothing : (rows known : List Row) (r : Row) (log : Log) (n : ℕ) → Derives rows log known → IsKnownAs known n r → Gained rows known r log n
gained_nothing rows known r log n d k = record { more = []; derives = subst (Derives rows log) (sym (append-nil known)) d; is_known = subst (λ (ks : List Row). IsKnownAs ks n r) (sym (append-nil known)) k }

-- ---- divided by 1
scaled_one : (ts : List Term) → scaled (pos 1) ts ≡ ts
scaled_one [] = refl
scaled_one (t ∷ ts) = ap (λ (z : ℤ). (t.0, z) ∷ scaled (pos 1) ts) (once t.1) ∙ ap (λ (x : List Term). t ∷ x) (scaled_one ts)
  where
    once : (z : ℤ) → pos 1 *ℤ z ≡ z
    once z = omega (arith, ints)

pub undivided_is : (q r : Row) → IsQuotient q (pos 1) r → q ≡ r
undivided_is q r h =
    ap (λ (ts : List Term). record { terms = ts; constant = q.constant }) (h.terms ∙ scaled_one r.terms)
    ∙ ap (λ (z : ℤ). record { terms = r.terms; constant = z }) (same q.constant r.constant h.at_most h.above)
  where
    same : (a b : ℤ) → (pos 1 *ℤ b) ≤ℤ a → a <ℤ (pos 1 *ℤ b +ℤ pos 1) → a ≡ b
    same a b l k = omega (arith, ints)

pub itself_quotient : (q : Row) → IsQuotient q (pos 1) q
itself_quotient q = record { positive = omega (arith, ints); terms = sym (scaled_one q.terms); at_most = low q.constant; above = high q.constant }
  where
    low : (z : ℤ) → (pos 1 *ℤ z) ≤ℤ z
    low z = omega (arith, ints)

    high : (z : ℤ) → z <ℤ (pos 1 *ℤ z +ℤ pos 1)
    high z = omega (arith, ints)

-- ---- more rows are known
pub known_as_more : (known more : List Row) (n : ℕ) (r : Row) → IsKnownAs known n r → IsKnownAs (known ++ more) n r
known_as_more [] more n r k = absurd (cc)
known_as_more (q ∷ known) more zero r k = k
known_as_more (q ∷ known) more (suc n) r k = known_as_more known more n r k

pub known_more : (known more : List Row) (ns : List Numbered) → AreKnown known ns → AreKnown (known ++ more) ns
known_more known more [] a = tt
known_more known more (n ∷ ns) a = (known_as_more known more n.number n.row a.0, known_more known more ns a.1)

pub known_append : (known : List Row) (a b : List Numbered) → AreKnown known (a ++ b) → AreKnown known a × AreKnown known b
known_append known [] b h = (tt, h)
known_append known (n ∷ a) b h = let k = known_append known a b h.1 in ((h.0, k.0), k.1)

pub known_both : (known : List Row) (a b : List Numbered) → AreKnown known a → AreKnown known b → AreKnown known (a ++ b)
known_both known [] b h k = k
known_both known (n ∷ a) b h k = (h.0, known_both known a b h.1 k)

-- what is known after one step and another
pub traced_from : (rows known more : List Row) (m : Log) (next : List Numbered) (e : Option code.Event) → Traced rows (known ++ more) e m next → Traced rows known e m next
traced_from rows known more m next None x = (more ++ x.0, subst (λ (ks : List Row). Traces rows ks m next) (append_assoc known more x.0) x.1)
traced_from rows known more m next (Some (event.Coeff v)) x = tt
traced_from rows known more m next (Some event.Refuted) x = x
traced_from rows known more m next (Some (event.Rows v)) x = tt

pub traced_then : (first : Log) (none given more : List Numbered) (l m : Log) (k next : List Numbered) (e : Option code.Event) → TracedOn first none given None l k → TracedOn l k more e m next → ((known : List Row) → AreKnown known given → AreKnown known more) → TracedOn first none given e m next
traced_then first none given more l m k next e t h w rows known s a =
    let x = t rows known s a in
    traced_from rows known x.0 m next e (h rows (known ++ x.0) x.1 (w (known ++ x.0) (known_more known x.0 given a)))

pub traced_nothing : (l : Log) (k given : List Numbered) → TracedOn l k given None l k
traced_nothing l k given rows known t a = ([], subst (λ (ks : List Row). Traces rows ks l k) (sym (append-nil known)) t)

pub known_drop : (known : List Row) (ns : List Numbered) (i : ℕ) → AreKnown known ns → AreKnown known (drop i ns)
known_drop known ns zero a = a
known_drop known [] (suc i) a = tt
known_drop known (n ∷ ns) (suc i) a = known_drop known ns i a.1

pub item_at : {A : Type 0} (xs : List A) (i : ℕ) (x : A) → i < length xs → x ≡ get_or xs i x → drop i xs ≡ x ∷ drop (i + 1) xs
item_at xs i x l e = drop-cons xs i x l ∙ ap (λ y. y ∷ drop (suc i) xs) (sym e) ∙ (let q : suc i ≡ i + 1 = omega arith in ap (λ (m : ℕ). x ∷ drop m xs) q)

pub known_item : (known : List Row) (xs rest : List Numbered) (i : ℕ) (x : Numbered) → drop i xs ≡ x ∷ rest → AreKnown known xs → IsKnownAs known x.number x.row
known_item known xs rest i x e a = (subst (AreKnown known) e (known_drop known xs i a)).0

-- a kept row is a contradiction
pub traced_refuted : (rows known : List Row) (r : Row) (log : Log) (n : ℕ) → Gained rows known r log n → r.terms ≡ [] → r.constant <ℤ pos 0 → Refutes rows (lines_then log.lines.items last)
traced_refuted rows known r log n g e l = g.derives.leads last (inr (known_contradiction (known ++ g.more) n r g.is_known (e, l)))

pub traced_dropped : (rows known : List Row) (r : Row) (log : Log) (n : ℕ) (kept : List Numbered) → Gained rows known r log n → AreKnown known kept → Traced rows known None log kept
traced_dropped rows known r log n kept g a = (g.more, record { derives = g.derives; are_known = known_more known g.more kept a })

pub traced_kept : (rows known : List Row) (r : Row) (log : Log) (n : ℕ) (kept next : List Numbered) → Gained rows known r log n → AreKnown known kept → ((ks : List Row) → AreKnown ks kept → IsKnownAs ks n r → AreKnown ks next) → Traced rows known None log next
traced_kept rows known r log n kept next g a h = (g.more, record { derives = g.derives; are_known = h (known ++ g.more) (known_more known g.more kept a) g.is_known })

-- ---- refutations
pub refuting : (rows known : List Row) (e : Option code.Event) (log : Log) (kept : List Numbered) → Traced rows known e log kept → Refuting rows e log
refuting rows known None log kept t = tt
refuting rows known (Some (event.Coeff v)) log kept t = tt
refuting rows known (Some event.Refuted) log kept t = t
refuting rows known (Some (event.Rows v)) log kept t = tt

-- no rows are kept yet
pub first_traces : (rows : List Row) (log : Log) (kept : List Numbered) → Derives rows log rows → kept ≡ [] → Traces rows rows log kept
first_traces rows log kept d e = record { derives = d; are_known = subst (AreKnown rows) (sym e) tt }

-- the system's row of a number is known
pub own_known : (rows more : List Row) (i : ℕ) (r : Row) → i < length rows → r ≡ get_or rows i r → IsKnownAs (rows ++ more) i r
own_known rows more i r l e = known_as_more rows more i r (own rows i l e)
  where
    own : (rows : List Row) (i : ℕ) → i < length rows → r ≡ get_or rows i r → slice_get rows i ≡ Some r
    own [] i l e = absurd (omega arith)
    own (q ∷ rows) zero l e = ap Some (sym e)
    own (q ∷ rows) (suc i) l e = own rows i (omega arith) e
