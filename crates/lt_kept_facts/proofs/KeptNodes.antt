-- The ends of expressions in both texts, and nodes that only the second has.
use Rattle.std.proofs.Common.{◌≡◌, refl, sym, ap, ◌∙◌, subst, ℕ, ◌+◌, ◌<◌, ◌≤◌, eq-eqb, Bool, if◌then◌else◌, List, [], ◌∷◌, ◌++◌, length, Option, Some, None, append_assoc, length-append, arith}
use Rattle.std.proofs.lemmas.Bool.{ne_eqb}
use Rattle.std.proofs.lemmas.List.{append-nil}
use Rattle.lt_tree.specs.Nodes.{Node}
use Rattle.lt_tree.specs.Typing.Types.{CType}
use Rattle.lt_tree.specs.Typing.Constants.{is_number}
use Rattle.lt_tree.specs.Typing.Rules.{Rule}
use Rattle.lt_tree.specs.Typing.Entities.{Known, Fact, Label}
use Rattle.lt_tree.specs.Typing.Steps.{Outcome, Goes, Breaks, goes_on, settle, notes, gives, ◌>>◌}
use Rattle.lt_tree.specs.Typing.Expressions.{Typed, Use, Judged, own_type, used, fact_of, faults_of_any, finish}
use Rattle.lt_objectives.specs.Places.{fact_among}
use Rattle.lt_sites.specs.Sites.{part_of}
use Rattle.lt_facts.specs.Outside.{mark_size}
use Rattle.lt_typed_nodes.specs.Laws.{AreOfNodes}
use Rattle.lt_typed_nodes.proofs.FactSteps.{all_joined, among}
use Rattle.lt_mark_typing.specs.Further.{Extends}
use Rattle.lt_mark_typing.specs.Beside.{IsBeside}
use Rattle.lt_mark_typing.proofs.Numbers.{extends_itself, extends_on}
use Rattle.lt_mark_typing.proofs.Ends.{noted_beside}
use Rattle.lt_kept_facts.proofs.MarksEnd.{Ends, both_end}
use Rattle.lt_kept_facts.specs.Asked.{asked, seen}
use Rattle.lt_kept_facts.proofs.SeenAlike.{SeenAlike, same_type, same_number}
use Rattle.lt_kept_facts.proofs.KeptSteps.{found_first, found_second, others_before, Part, HasFacts, part_then, first_agrees, second_agrees, seen_then, Keeps, went, first_broke, second_broke}

-- From a node of this number on these nodes have been gone over, and the end of the node that is around them, of which a fact is noted.
pub record Ending (node k : ℕ) (facts : List Fact) (xs : List Node) (behind : Known) (y : Typed) : Type 0 where
  pub more : List Fact
  pub counts : behind.next ≡ k + length xs
  pub noted : behind.facts ≡ facts ++ more ++ fact_of node y ∷ []
  pub within : AreOfNodes k behind.next more
  pub ends : Ends xs

-- Where the rest of the node of an expression goes on in both texts, the same is asked of the nodes among these; what is noted of the node is related, and what comes.
pub data Rest (F G : List Fact) (new : ℕ → Bool) (used : List ℕ) (further : List Bool) (same relation : Typed → Typed → Type 0) (node k : ℕ) (facts : List Fact) (xs : List Node) (at j : ℕ) (others : List Fact) (ys : List Node) : Outcome Typed → Outcome Typed → Type 0 where
  ended : {x z : Typed} {m n : Known} {behind : List Bool} (y w : Typed) → Extends further behind → relation x z → same y w → IsBeside new used behind m n → (p : Ending node k facts xs m y) → (q : Ending at j others ys n w)
      → (HasFacts F k m.next p.more → HasFacts G j n.next q.more → seen F k xs ≡ seen G j ys) → Rest F G new used further same relation node k facts xs at j others ys (Goes x m) (Goes z n)
  first_off : {rule : Rule} {broken : ℕ} {o : Outcome Typed} → Rest F G new used further same relation node k facts xs at j others ys (Breaks rule broken) o
  second_off : {rule : Rule} {broken : ℕ} {o : Outcome Typed} → Rest F G new used further same relation node k facts xs at j others ys o (Breaks rule broken)

abbrev ending_then : {node k : ℕ} {facts : List Fact} {xs ys : List Node} {m n : Known} {y : Typed} → Part k facts xs m → Ending node m.next m.facts ys n y → Ending node k facts (xs ++ ys) n y
ending_then {node} {k} {facts} {xs} {ys} {m} {n} {y} p q =
    let first : k ≤ m.next = omega (arith, p.counts) in
    let second : m.next ≤ n.next = omega (arith, q.counts) in
    record {
      more = p.more ++ q.more;
      counts = (let both : length (xs ++ ys) ≡ length xs + length ys = length-append xs ys in omega (arith, p.counts, q.counts));
      noted = q.noted ∙ ap (λ l. l ++ q.more ++ fact_of node y ∷ []) p.noted ∙ ap (λ l. l ++ fact_of node y ∷ []) (append_assoc facts p.more q.more);
      within = all_joined (λ (fact : Fact). (k ≤ fact.node) × (fact.node < n.next)) p.more q.more (among k n.next p.more (omega arith) second p.within) (among k n.next q.more first (omega arith) q.within);
      ends = both_end xs ys p.ends q.ends;
    }

-- the node with its end
abbrev ending_part : {k : ℕ} {facts : List Fact} {xs : List Node} {m : Known} {y : Typed} (x : Node) → mark_size (part_of x) ≡ 0 → Ending k (k + 1) facts xs m y → Part k facts (x ∷ xs) m
ending_part {k} {facts} {xs} {m} {y} x e p =
    let inside : k < m.next = omega (arith, p.counts) in
    record {
      more = p.more ++ fact_of k y ∷ [];
      counts = omega (arith, p.counts);
      noted = p.noted ∙ append_assoc facts p.more (fact_of k y ∷ []);
      within = all_joined (λ (fact : Fact). (k ≤ fact.node) × (fact.node < m.next)) p.more (fact_of k y ∷ []) (among k m.next p.more (omega arith) (omega arith) p.within) ((omega arith, inside), tt);
      ends = (omega (arith, e), p.ends);
    }

-- what is asked of a node is what is noted of it
asked_there : (whole : List Fact) {k : ℕ} {facts : List Fact} {xs : List Node} {m : Known} {y : Typed} (p : Ending k (k + 1) facts xs m y) → HasFacts whole k m.next (p.more ++ fact_of k y ∷ [])
    → asked whole k ≡ Some (own_type y, is_number y.erased)
asked_there whole {k} {m = m} {y} p f =
    ap (λ (found : Option Fact). elim (found) as (λ _. Option (CType × Bool)) [ None ↦ None | Some fact ↦ Some (fact.type, is_number fact.constancy) ])
    (f k (omega arith) (omega (arith, p.counts)) ∙ found_second p.more (fact_of k y ∷ []) k (others_before (k + 1) m.next k p.more p.within (omega arith))
    ∙ ap (λ b. if b then Some (fact_of k y) else None) (eq-eqb k k refl))

inner_agrees : (whole : List Fact) {k : ℕ} {facts : List Fact} {xs : List Node} {m : Known} {y : Typed} (p : Ending k (k + 1) facts xs m y) → HasFacts whole k m.next (p.more ++ fact_of k y ∷ []) → HasFacts whole (k + 1) m.next p.more
inner_agrees whole {k} {m = m} {y} p f = λ i low high. f i (omega (arith, low)) high ∙ found_before i low
  where
    found_before : (i : ℕ) → k + 1 ≤ i → fact_among (p.more ++ fact_of k y ∷ []) i ≡ fact_among p.more i
    found_before i low = found_first p.more (fact_of k y ∷ []) i (ne_eqb k i (λ same. omega (arith, low, same)), tt)

left_empty : (xs ys : List Rule) → xs ++ ys ≡ [] → xs ≡ []
left_empty [] ys h = refl
left_empty (x ∷ xs) ys h = absurd cc

-- The end of a node that only the second text has.
pub data EndsAlone (new : ℕ → Bool) (used : List ℕ) (further : List Bool) (holds : Typed → Type 0) (at : ℕ) (m n : Known) : Outcome Typed → Type 0 where
  ended_alone : {z : Typed} {n' : Known} (w : Typed) → holds z → n'.next ≡ n.next → n'.facts ≡ n.facts ++ fact_of at w ∷ [] → IsBeside new used further m n' → EndsAlone new used further holds at m n (Goes z n')
  alone_off : {rule : Rule} {broken : ℕ} → EndsAlone new used further holds at m n (Breaks rule broken)

module _ {F G : List Fact} {new : ℕ → Bool} where
  rest_moved : {after : List ℕ} {further behind : List Bool} {S Q : Typed → Typed → Type 0} {node at k j : ℕ} {facts others : List Fact} {xs ys xs' ys' : List Node} {m n : Known} {o r : Outcome Typed}
      → Extends further behind → (p : Part k facts xs m) → (q : Part j others ys n) → (HasFacts F k m.next p.more → HasFacts G j n.next q.more → seen F k xs ≡ seen G j ys)
      → Rest F G new after behind S Q node m.next m.facts xs' at n.next n.facts ys' o r → Rest F G new after further S Q node k facts (xs ++ xs') at j others (ys ++ ys') o r
  rest_moved {k = k} {j = j} {xs = xs} {ys = ys} {xs' = xs'} {ys' = ys'} {m = m} {n = n} e p q h (ended {m = m'} {n = n'} y w g r s b p' q' h') = ended y w (extends_on e g) r s b (ending_then p p') (ending_then q q') (λ f g.
      seen_then F xs' p
      ∙ ap (λ l. l ++ seen F m.next xs') (h (first_agrees F k m.next m'.next p.more p'.more (omega (arith, p'.counts)) p'.within f) (first_agrees G j n.next n'.next q.more q'.more (omega (arith, q'.counts)) q'.within g))
      ∙ ap (λ l. seen G j ys ++ l) (h' (second_agrees F k m.next m'.next p.more p'.more (omega (arith, p.counts)) p.within f) (second_agrees G j n.next n'.next q.more q'.more (omega (arith, q.counts)) q.within g))
      ∙ sym (seen_then G ys' q))
  rest_moved e p q h first_off = first_off
  rest_moved e p q h second_off = second_off

  behind_by : {A B : Type 0} {used after : List ℕ} {further : List Bool} {R : A → B → Type 0} {S Q : Typed → Typed → Type 0} {node at k j : ℕ} {facts others : List Fact} {xs ys xs' ys' : List Node} {f : A → Known → Outcome Typed} {g : B → Known → Outcome Typed}
      (o o' : Outcome A) (p p' : Outcome B) → o ≡ o' → p ≡ p' → Keeps F G new used further R k facts xs j others ys o' p'
      → ((a : A) (b : B) (m n : Known) → o ≡ Goes a m → p ≡ Goes b n → R a b → (behind : List Bool) → IsBeside new used behind m n → Rest F G new after behind S Q node m.next m.facts xs' at n.next n.facts ys' (f a m) (g b n))
      → Rest F G new after further S Q node k facts (xs ++ xs') at j others (ys ++ ys') (goes_on o' f) (goes_on p' g)
  behind_by o (Goes a m) p (Goes b n) e i (went {behind = behind} g r s p' q' h) t = rest_moved g p' q' h (t a b m n e i r behind s)
  behind_by o (Breaks rule node) p p' e i d t = first_off
  behind_by o o' p (Breaks rule node) e i d t = second_off

  -- a part of a node, and what goes on behind it
  pub behind : {A B : Type 0} {used after : List ℕ} {further : List Bool} {R : A → B → Type 0} {S Q : Typed → Typed → Type 0} {node at k j : ℕ} {facts others : List Fact} {xs ys xs' ys' : List Node} {o : Outcome A} {p : Outcome B} {f : A → Known → Outcome Typed} {g : B → Known → Outcome Typed}
      → Keeps F G new used further R k facts xs j others ys o p
      → ((a : A) (b : B) (m n : Known) → o ≡ Goes a m → p ≡ Goes b n → R a b → (behind : List Bool) → IsBeside new used behind m n → Rest F G new after behind S Q node m.next m.facts xs' at n.next n.facts ys' (f a m) (g b n))
      → Rest F G new after further S Q node k facts (xs ++ xs') at j others (ys ++ ys') (goes_on o f) (goes_on p g)
  behind {o = o} {p = p} d t = behind_by o o p p refl refl d t

  -- the last part of a node
  pub last : {A B : Type 0} {used after : List ℕ} {further : List Bool} {R : A → B → Type 0} {S Q : Typed → Typed → Type 0} {node at k j : ℕ} {facts others : List Fact} {xs ys : List Node} {o : Outcome A} {p : Outcome B} {f : A → Known → Outcome Typed} {g : B → Known → Outcome Typed}
      → Keeps F G new used further R k facts xs j others ys o p
      → ((a : A) (b : B) (m n : Known) → o ≡ Goes a m → p ≡ Goes b n → R a b → (behind : List Bool) → IsBeside new used behind m n → Rest F G new after behind S Q node m.next m.facts [] at n.next n.facts [] (f a m) (g b n))
      → Rest F G new after further S Q node k facts xs at j others ys (goes_on o f) (goes_on p g)
  last {after = after} {further} {S = S} {Q} {node} {at} {k} {j} {facts} {others} {xs} {ys} {o = o} {p = p} {f = f} {g = g} d t =
      subst (λ list. Rest F G new after further S Q node k facts list at j others ys (goes_on o f) (goes_on p g)) (append-nil xs)
      (subst (λ list. Rest F G new after further S Q node k facts (xs ++ []) at j others list (goes_on o f) (goes_on p g)) (append-nil ys) (behind d t))

  -- with flags of objects behind others
  pub rest_since : {used : List ℕ} {further flags : List Bool} {S Q : Typed → Typed → Type 0} {node at k j : ℕ} {facts others : List Fact} {xs ys : List Node} {o p : Outcome Typed} → Extends further flags
      → Rest F G new used flags S Q node k facts xs at j others ys o p → Rest F G new used further S Q node k facts xs at j others ys o p
  rest_since e (ended y w g r s b p q h) = ended y w (extends_on e g) r s b p q h
  rest_since e first_off = first_off
  rest_since e second_off = second_off

  -- grouped as nodes are
  pub in_groups : {used : List ℕ} {further : List Bool} {S Q : Typed → Typed → Type 0} {node at k j : ℕ} {facts others : List Fact} (xs ys zs xs' ys' zs' : List Node) {o p : Outcome Typed}
      → Rest F G new used further S Q node k facts (xs ++ (ys ++ zs)) at j others (xs' ++ (ys' ++ zs')) o p → Rest F G new used further S Q node k facts (xs ++ ys ++ zs) at j others (xs' ++ ys' ++ zs') o p
  in_groups {used = used} {further} {S} {Q} {node} {at} {k} {j} {facts} {others} xs ys zs xs' ys' zs' {o} {p} d =
      subst (λ list. Rest F G new used further S Q node k facts list at j others (xs' ++ ys' ++ zs') o p) (sym (append_assoc xs ys zs))
      (subst (λ list. Rest F G new used further S Q node k facts (xs ++ (ys ++ zs)) at j others list o p) (sym (append_assoc xs' ys' zs')) d)

  -- ---- the end of a node

  ended_here : {ids : List ℕ} {further : List Bool} {S Q : Typed → Typed → Type 0} {m n : Known} (node at : ℕ) (role other : Use) (j i : Judged) (rs qs : List Rule) → (rs ≡ [] → S j.typed i.typed × Q (used role j.typed) (used other i.typed)) → IsBeside new ids further m n
      → Rest F G new ids further S Q node m.next m.facts [] at n.next n.facts []
      (goes_on (settle node rs m) (λ u. notes (fact_of node j.typed) >> gives (used role j.typed))) (goes_on (settle at qs n) (λ u. notes (fact_of at i.typed) >> gives (used other i.typed)))
  ended_here {further = further} {m = m} {n} node at role other j i [] [] h b = ended j.typed i.typed (extends_itself further) (h refl).1 (h refl).0 (noted_beside (fact_of node j.typed) (fact_of at i.typed) b)
      (record { more = []; counts = omega arith; noted = ap (λ l. l ++ fact_of node j.typed ∷ []) (sym (append-nil m.facts)); within = tt; ends = tt })
      (record { more = []; counts = omega arith; noted = ap (λ l. l ++ fact_of at i.typed ∷ []) (sym (append-nil n.facts)); within = tt; ends = tt }) (λ f g. refl)
  ended_here node at role other j i (r ∷ rs) qs h b = first_off
  ended_here node at role other j i [] (q ∷ qs) h b = second_off

  -- a node of both texts ends, where no rule is broken in the first
  pub finished : {ids : List ℕ} {further : List Bool} {S Q : Typed → Typed → Type 0} {m n : Known} (node at : ℕ) (role other : Use) (j i : Judged) → (j.faults ≡ [] → S j.typed i.typed × Q (used role j.typed) (used other i.typed)) → IsBeside new ids further m n
      → Rest F G new ids further S Q node m.next m.facts [] at n.next n.facts [] (finish node role j m) (finish at other i n)
  unfolding finish
  finished {m = m} {n} node at role other j i h b =
      ended_here node at role other j i (j.faults ++ faults_of_any m.structs role j.typed) (i.faults ++ faults_of_any n.structs other i.typed) (λ q. h (left_empty j.faults (faults_of_any m.structs role j.typed) q)) b

  -- labels are added behind it
  pub with_labels : {ids after : List ℕ} {further : List Bool} {S Q : Typed → Typed → Type 0} {node at k j : ℕ} {facts others : List Fact} {xs ys : List Node} (labels : Known → List Label) {o p : Outcome Typed}
      → ((m n : Known) (behind : List Bool) → IsBeside new ids behind m n → IsBeside new after behind (record m { labels = labels m }) (record n { labels = labels n }))
      → Rest F G new ids further S Q node k facts xs at j others ys o p
      → Rest F G new after further S Q node k facts xs at j others ys (goes_on o (λ x m. Goes x (record m { labels = labels m }))) (goes_on p (λ x n. Goes x (record n { labels = labels n })))
  with_labels labels h (ended {m = m} {n = n} {behind = behind} y w e r s b p q t) =
      ended y w e r s (h m n behind b) (record { more = p.more; counts = p.counts; noted = p.noted; within = p.within; ends = p.ends })
      (record { more = q.more; counts = q.counts; noted = q.noted; within = q.within; ends = q.ends }) t
  with_labels labels h first_off = first_off
  with_labels labels h second_off = second_off

  -- the node with what is asked of it
  pub noted_node : {used : List ℕ} {further : List Bool} {Q : Typed → Typed → Type 0} {k j : ℕ} {facts others : List Fact} {xs ys : List Node} (x y : Node) {o p : Outcome Typed} → mark_size (part_of x) ≡ 0 → mark_size (part_of y) ≡ 0
      → ((whole : List Fact) (n : ℕ) (zs : List Node) → seen whole n (x ∷ zs) ≡ asked whole n ∷ seen whole (n + 1) zs) → ((whole : List Fact) (n : ℕ) (zs : List Node) → seen whole n (y ∷ zs) ≡ asked whole n ∷ seen whole (n + 1) zs)
      → Rest F G new used further SeenAlike Q k (k + 1) facts xs j (j + 1) others ys o p → Keeps F G new used further Q k facts (x ∷ xs) j others (y ∷ ys) o p
  noted_node {k = k} {j} {xs = xs} {ys} x y e i stays there (ended v w g r s b p q h) = went g r b (ending_part x e p) (ending_part y i q) (λ f g.
      stays F k xs
      ∙ ap (λ it. it ∷ seen F (k + 1) xs) (asked_there F p f)
      ∙ ap (λ l. Some (own_type v, is_number v.erased) ∷ l) (h (inner_agrees F p f) (inner_agrees G q g))
      ∙ ap (λ it. it ∷ seen G (j + 1) ys) (ap (λ t. Some (t, is_number v.erased)) (sym (same_type v w s.kind)) ∙ ap (λ c. Some (own_type w, c)) (sym (same_number s.erased)) ∙ sym (asked_there G q g))
      ∙ sym (there G j ys))
  noted_node x y e i stays there first_off = first_broke
  noted_node x y e i stays there second_off = second_broke

  -- a node that doesn't stay without marks
  pub hidden_node : {used : List ℕ} {further : List Bool} {S Q : Typed → Typed → Type 0} {k j : ℕ} {facts others : List Fact} {xs ys : List Node} (x y : Node) {o p : Outcome Typed} → mark_size (part_of x) ≡ 0 → mark_size (part_of y) ≡ 0
      → ((whole : List Fact) (n : ℕ) (zs : List Node) → seen whole n (x ∷ zs) ≡ seen whole (n + 1) zs) → ((whole : List Fact) (n : ℕ) (zs : List Node) → seen whole n (y ∷ zs) ≡ seen whole (n + 1) zs)
      → Rest F G new used further S Q k (k + 1) facts xs j (j + 1) others ys o p → Keeps F G new used further Q k facts (x ∷ xs) j others (y ∷ ys) o p
  hidden_node {k = k} {j} {xs = xs} {ys} x y e i stays there (ended v w g r s b p q h) = went g r b (ending_part x e p) (ending_part y i q) (λ f g.
      stays F k xs ∙ h (inner_agrees F p f) (inner_agrees G q g) ∙ sym (there G j ys))
  hidden_node x y e i stays there first_off = first_broke
  hidden_node x y e i stays there second_off = second_broke

  -- ---- nodes of the second text alone

  alone_by : {A : Type 0} {used : List ℕ} {further behind : List Bool} {Q : A → Typed → Type 0} {k j : ℕ} {facts others : List Fact} {xs ys : List Node} {a : A} {m n : Known} (y : Node) {o : Outcome Typed} → mark_size (part_of y) ≡ 0
      → ((whole : List Fact) (n : ℕ) (zs : List Node) → seen whole n (y ∷ zs) ≡ seen whole (n + 1) zs)
      → Extends further behind → (p : Part k facts xs m) → (q : Part (j + 1) others ys n) → (HasFacts F k m.next p.more → HasFacts G (j + 1) n.next q.more → seen F k xs ≡ seen G (j + 1) ys)
      → EndsAlone new used behind (Q a) j m n o → Keeps F G new used further Q k facts xs j others (y ∷ ys) (Goes a m) o
  alone_by {k = k} {j} {others = others} {xs = xs} {ys} {m = m} {n} y e there g p q h (ended_alone {n' = n'} w r c d b) =
      let ending : Ending j (j + 1) others ys n' w = record {
        more = q.more;
        counts = c ∙ q.counts;
        noted = d ∙ ap (λ l. l ++ fact_of j w ∷ []) q.noted;
        within = among (j + 1) n'.next q.more (omega arith) (omega (arith, c)) q.within;
        ends = q.ends;
      } in
      went g r b p (ending_part y e ending) (λ f g. h f (λ i low high. inner_agrees G ending g i low (omega (arith, c, high))) ∙ sym (there G j ys))
  alone_by y e there g p q h alone_off = second_broke

  around_by : {A : Type 0} {used after : List ℕ} {further : List Bool} {R Q : A → Typed → Type 0} {k j : ℕ} {facts others : List Fact} {xs ys : List Node} (y : Node) {g : Typed → Known → Outcome Typed} (o o' : Outcome A) (p p' : Outcome Typed) → o ≡ o' → p ≡ p'
      → mark_size (part_of y) ≡ 0 → ((whole : List Fact) (n : ℕ) (zs : List Node) → seen whole n (y ∷ zs) ≡ seen whole (n + 1) zs)
      → Keeps F G new used further R k facts xs (j + 1) others ys o' p' → ((a : A) (b : Typed) (m n : Known) → o ≡ Goes a m → p ≡ Goes b n → R a b → (behind : List Bool) → IsBeside new used behind m n → EndsAlone new after behind (Q a) j m n (g b n))
      → Keeps F G new after further Q k facts xs j others (y ∷ ys) o' (goes_on p' g)
  around_by y o (Goes a m) p (Goes b n) e i z there (went {behind = behind} v r s p' q' h) t = alone_by y z there v p' q' h (t a b m n e i r behind s)
  around_by y o (Breaks rule node) p p' e i z there d t = first_broke
  around_by y o o' p (Breaks rule node) e i z there d t = second_broke

  -- a node that only the second text has, around a piece
  pub around_piece : {A : Type 0} {used after : List ℕ} {further : List Bool} {R Q : A → Typed → Type 0} {k j : ℕ} {facts others : List Fact} {xs ys : List Node} (y : Node) {g : Typed → Known → Outcome Typed} {o : Outcome A} {p : Outcome Typed}
      → mark_size (part_of y) ≡ 0 → ((whole : List Fact) (n : ℕ) (zs : List Node) → seen whole n (y ∷ zs) ≡ seen whole (n + 1) zs)
      → Keeps F G new used further R k facts xs (j + 1) others ys o p → ((a : A) (b : Typed) (m n : Known) → o ≡ Goes a m → p ≡ Goes b n → R a b → (behind : List Bool) → IsBeside new used behind m n → EndsAlone new after behind (Q a) j m n (g b n))
      → Keeps F G new after further Q k facts xs j others (y ∷ ys) o (goes_on p g)
  around_piece y {o = o} {p = p} z there d t = around_by y o o p p refl refl z there d t

  -- nodes that only the second text has, of which nothing is asked, in front of a piece
  pub front : {A B : Type 0} {used : List ℕ} {further : List Bool} {R : A → B → Type 0} {k j : ℕ} {facts others : List Fact} {xs ys zs : List Node} {l : Known} {o : Outcome A} {p : Outcome B} → Part j others zs l → seen G j zs ≡ []
      → Keeps F G new used further R k facts xs l.next l.facts ys o p → Keeps F G new used further R k facts xs j others (zs ++ ys) o p
  front {j = j} {ys = ys} {l = l} v none (went {n = n} e r b p q h) = went e r b p (part_then v q) (λ f g.
      h f (second_agrees G j l.next n.next v.more q.more (omega (arith, v.counts)) v.within g) ∙ ap (λ list. list ++ seen G l.next ys) (sym none) ∙ sym (seen_then G ys v))
  front v none first_broke = first_broke
  front v none second_broke = second_broke

-- the end of a node of the second text alone, and labels behind it
alone_here : {new : ℕ → Bool} {after : List ℕ} {further : List Bool} {holds : Typed → Type 0} (at : ℕ) (role : Use) (i : Judged) (labels : Known → List Label) (qs : List Rule) (m n : Known) → holds (used role i.typed)
    → IsBeside new after further m (record n { facts = n.facts ++ fact_of at i.typed ∷ []; labels = labels (record n { facts = n.facts ++ fact_of at i.typed ∷ [] }) })
    → EndsAlone new after further holds at m n (goes_on (goes_on (settle at qs n) (λ u. notes (fact_of at i.typed) >> gives (used role i.typed))) (λ x n. Goes x (record n { labels = labels n })))
alone_here at role i labels [] m n h b = ended_alone i.typed h refl refl b
alone_here at role i labels (q ∷ qs) m n h b = alone_off

pub finished_with : {new : ℕ → Bool} {after : List ℕ} {further : List Bool} {holds : Typed → Type 0} (at : ℕ) (role : Use) (i : Judged) (labels : Known → List Label) (m n : Known) → holds (used role i.typed)
    → IsBeside new after further m (record n { facts = n.facts ++ fact_of at i.typed ∷ []; labels = labels (record n { facts = n.facts ++ fact_of at i.typed ∷ [] }) })
    → EndsAlone new after further holds at m n (goes_on (finish at role i n) (λ x n. Goes x (record n { labels = labels n })))
unfolding finish
finished_with at role i labels m n h b = alone_here at role i labels (i.faults ++ faults_of_any n.structs role i.typed) m n h b

alone_plain : {new : ℕ → Bool} {after : List ℕ} {further : List Bool} {holds : Typed → Type 0} (at : ℕ) (role : Use) (i : Judged) (qs : List Rule) (m n : Known) → holds (used role i.typed) → IsBeside new after further m (record n { facts = n.facts ++ fact_of at i.typed ∷ [] })
    → EndsAlone new after further holds at m n (goes_on (settle at qs n) (λ u. notes (fact_of at i.typed) >> gives (used role i.typed)))
alone_plain at role i [] m n h b = ended_alone i.typed h refl refl b
alone_plain at role i (q ∷ qs) m n h b = alone_off

pub finished_alone : {new : ℕ → Bool} {after : List ℕ} {further : List Bool} {holds : Typed → Type 0} (at : ℕ) (role : Use) (i : Judged) (m n : Known) → holds (used role i.typed) → IsBeside new after further m (record n { facts = n.facts ++ fact_of at i.typed ∷ [] })
    → EndsAlone new after further holds at m n (finish at role i n)
unfolding finish
finished_alone at role i m n h b = alone_plain at role i (i.faults ++ faults_of_any n.structs role i.typed) m n h b
