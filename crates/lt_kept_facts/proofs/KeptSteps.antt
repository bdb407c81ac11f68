-- Two texts are gone over side by side, and the same is noted of the nodes outside of marks.
use Rattle.std.proofs.Common.{◌≡◌, refl, sym, ap, ◌∙◌, subst, ℕ, ◌+◌, ◌<◌, ◌≤◌, eqb, Bool, false, if◌then◌else◌, List, [], ◌∷◌, ◌++◌, length, Option, Some, None, append_assoc, length-append, arith}
use Rattle.std.proofs.lemmas.Bool.{ne_eqb}
use Rattle.std.proofs.lemmas.List.{append-nil}
use Rattle.std.specs.List.{AllByRecursion}
use Rattle.lt_tree.specs.Nodes.{Node}
use Rattle.lt_tree.specs.Typing.Types.{CType}
use Rattle.lt_tree.specs.Typing.Constants.{is_number}
use Rattle.lt_tree.specs.Typing.Rules.{Rule, least}
use Rattle.lt_tree.specs.Typing.Entities.{Known, Fact}
use Rattle.lt_tree.specs.Typing.Steps.{Outcome, Goes, Breaks, goes_on, unless_broken, settle}
use Rattle.lt_objectives.specs.Places.{fact_among}
use Rattle.lt_sites.specs.Sites.{part_of}
use Rattle.lt_typed_nodes.specs.Laws.{AreOfNodes}
use Rattle.lt_typed_nodes.proofs.FactSteps.{all_joined, all_weaker, among}
use Rattle.lt_mark_typing.specs.Further.{Extends}
use Rattle.lt_mark_typing.specs.Beside.{IsBeside}
use Rattle.lt_mark_typing.proofs.Numbers.{extends_itself, extends_on}
use Rattle.lt_facts.specs.Outside.{mark_size}
use Rattle.lt_kept_facts.proofs.MarksEnd.{Ends, both_end}
use Rattle.lt_kept_facts.specs.Asked.{asked, seen}
use Rattle.lt_kept_facts.proofs.SeenNodes.{seen_both}

-- ---- facts by their numbers

pub found_none : (xs : List Fact) (n : ℕ) → AllByRecursion (λ (it : Fact). eqb it.node n ≡ false) xs → fact_among xs n ≡ None
found_none [] n h = refl
found_none (x ∷ xs) n h = ap (λ b. if b then Some x else fact_among xs n) h.0 ∙ found_none xs n h.1

pub found_first : (xs ys : List Fact) (n : ℕ) → AllByRecursion (λ (it : Fact). eqb it.node n ≡ false) ys → fact_among (xs ++ ys) n ≡ fact_among xs n
found_first [] ys n h = found_none ys n h
found_first (x ∷ xs) ys n h = ap (λ found. if eqb x.node n then Some x else found) (found_first xs ys n h)

pub found_second : (xs ys : List Fact) (n : ℕ) → AllByRecursion (λ (it : Fact). eqb it.node n ≡ false) xs → fact_among (xs ++ ys) n ≡ fact_among ys n
found_second [] ys n h = refl
found_second (x ∷ xs) ys n h = ap (λ b. if b then Some x else fact_among (xs ++ ys) n) h.0 ∙ found_second xs ys n h.1

-- none of them is of a node outside of these
pub others_before : (first behind n : ℕ) (facts : List Fact) → AreOfNodes first behind facts → n < first → AllByRecursion (λ (it : Fact). eqb it.node n ≡ false) facts
others_before first behind n facts h less =
    all_weaker (λ (fact : Fact). (first ≤ fact.node) × (fact.node < behind)) (λ (it : Fact). eqb it.node n ≡ false) (λ it p. ne_eqb it.node n (λ same. omega (arith, less, p.0, same))) facts h

pub others_behind : (first behind n : ℕ) (facts : List Fact) → AreOfNodes first behind facts → behind ≤ n → AllByRecursion (λ (it : Fact). eqb it.node n ≡ false) facts
others_behind first behind n facts h more =
    all_weaker (λ (fact : Fact). (first ≤ fact.node) × (fact.node < behind)) (λ (it : Fact). eqb it.node n ≡ false) (λ it p. ne_eqb it.node n (λ same. omega (arith, more, p.1, same))) facts h

-- ---- a part of one text

-- From a node of this number on, with these facts noted before, these nodes have been gone over.
pub record Part (k : ℕ) (facts : List Fact) (xs : List Node) (behind : Known) : Type 0 where
  pub more : List Fact
  pub counts : behind.next ≡ k + length xs
  pub noted : behind.facts ≡ facts ++ more
  pub within : AreOfNodes k behind.next more
  pub ends : Ends xs

-- the facts of nodes in a run are these
abbrev pub HasFacts : List Fact → (first behind : ℕ) → List Fact → Type 0
HasFacts whole first behind facts = (n : ℕ) → first ≤ n → n < behind → fact_among whole n ≡ fact_among facts n

pub nothing_more : (known : Known) → Part known.next known.facts [] known
nothing_more known = record { more = []; counts = omega arith; noted = sym (append-nil known.facts); within = tt; ends = tt }

abbrev pub part_then : {k : ℕ} {facts : List Fact} {xs ys : List Node} {m n : Known} → Part k facts xs m → Part m.next m.facts ys n → Part k facts (xs ++ ys) n
part_then {k} {facts} {xs} {ys} {m} {n} p q =
    let first : k ≤ m.next = omega (arith, p.counts) in
    let second : m.next ≤ n.next = omega (arith, q.counts) in
    record {
      more = p.more ++ q.more;
      counts = (let both : length (xs ++ ys) ≡ length xs + length ys = length-append xs ys in omega (arith, p.counts, q.counts));
      noted = q.noted ∙ ap (λ l. l ++ q.more) p.noted ∙ append_assoc facts p.more q.more;
      within = all_joined (λ (fact : Fact). (k ≤ fact.node) × (fact.node < n.next)) p.more q.more (among k n.next p.more (omega arith) second p.within) (among k n.next q.more first (omega arith) q.within);
      ends = both_end xs ys p.ends q.ends;
    }

pub first_agrees : (whole : List Fact) (k b behind : ℕ) (xs ys : List Fact) → b ≤ behind → AreOfNodes b behind ys → HasFacts whole k behind (xs ++ ys) → HasFacts whole k b xs
first_agrees whole k b behind xs ys le within h = λ i low high. h i low (omega (arith, high, le)) ∙ found_first xs ys i (others_before b behind i ys within high)

pub second_agrees : (whole : List Fact) (k b behind : ℕ) (xs ys : List Fact) → k ≤ b → AreOfNodes k b xs → HasFacts whole k behind (xs ++ ys) → HasFacts whole b behind ys
second_agrees whole k b behind xs ys le within h = λ i low high. h i (omega (arith, low, le)) high ∙ found_second xs ys i (others_behind k b i xs within low)

agrees_first : {k : ℕ} {facts : List Fact} {xs ys : List Node} {m n : Known} (whole : List Fact) (p : Part k facts xs m) (q : Part m.next m.facts ys n) → HasFacts whole k n.next (p.more ++ q.more) → HasFacts whole k m.next p.more
agrees_first {k} {m = m} {n} whole p q h = first_agrees whole k m.next n.next p.more q.more (omega (arith, q.counts)) q.within h

agrees_second : {k : ℕ} {facts : List Fact} {xs ys : List Node} {m n : Known} (whole : List Fact) (p : Part k facts xs m) (q : Part m.next m.facts ys n) → HasFacts whole k n.next (p.more ++ q.more) → HasFacts whole m.next n.next q.more
agrees_second {k} {m = m} {n} whole p q h = second_agrees whole k m.next n.next p.more q.more (omega (arith, p.counts)) p.within h

pub seen_then : {k : ℕ} {facts : List Fact} {xs : List Node} {m : Known} (whole : List Fact) (ys : List Node) → Part k facts xs m → seen whole k (xs ++ ys) ≡ seen whole k xs ++ seen whole m.next ys
seen_then {k} {xs = xs} whole ys p = seen_both whole k xs ys p.ends ∙ ap (λ n. seen whole k xs ++ seen whole n ys) (sym p.counts)

-- the same is asked of the nodes of two parts, if it is of those of each
pub both_seen : (F G : List Fact) {k j : ℕ} {facts others : List Fact} {xs ys xs' ys' : List Node} {m n m' n' : Known} (p : Part k facts xs m) (q : Part j others ys n) (p' : Part m.next m.facts xs' m') (q' : Part n.next n.facts ys' n')
    → (HasFacts F k m.next p.more → HasFacts G j n.next q.more → seen F k xs ≡ seen G j ys)
    → (HasFacts F m.next m'.next p'.more → HasFacts G n.next n'.next q'.more → seen F m.next xs' ≡ seen G n.next ys')
    → HasFacts F k m'.next (p.more ++ p'.more) → HasFacts G j n'.next (q.more ++ q'.more) → seen F k (xs ++ xs') ≡ seen G j (ys ++ ys')
both_seen F G {j = j} {ys = ys} {xs'} {ys'} {m} p q p' q' h h' f g =
    seen_then F xs' p ∙ ap (λ l. l ++ seen F m.next xs') (h (agrees_first F p p' f) (agrees_first G q q' g)) ∙ ap (λ l. seen G j ys ++ l) (h' (agrees_second F p p' f) (agrees_second G q q' g)) ∙ sym (seen_then G ys' q)

-- ---- both texts

-- the very same comes
abbrev pub Same : {A : Type 0} → A → A → Type 0
Same a b = b ≡ a

-- Where both go on, the same is asked of the nodes outside of marks among these: what comes is related, and the same is known behind it, with flags of objects
-- behind those that were there.
pub data Keeps {A B : Type 0} (F G : List Fact) (new : ℕ → Bool) (used : List ℕ) (further : List Bool) (relation : A → B → Type 0) (k : ℕ) (facts : List Fact) (xs : List Node) (j : ℕ) (others : List Fact) (ys : List Node) : Outcome A → Outcome B → Type 0 where
  went : {a : A} {b : B} {m n : Known} {behind : List Bool} → Extends further behind → relation a b → IsBeside new used behind m n → (p : Part k facts xs m) → (q : Part j others ys n)
      → (HasFacts F k m.next p.more → HasFacts G j n.next q.more → seen F k xs ≡ seen G j ys) → Keeps F G new used further relation k facts xs j others ys (Goes a m) (Goes b n)
  first_broke : {rule : Rule} {node : ℕ} {o : Outcome B} → Keeps F G new used further relation k facts xs j others ys (Breaks rule node) o
  second_broke : {rule : Rule} {node : ℕ} {o : Outcome A} → Keeps F G new used further relation k facts xs j others ys o (Breaks rule node)

-- a whole piece, with these nodes
abbrev pub Piece : {A B : Type 0} → (F G : List Fact) → (ℕ → Bool) → List ℕ → List Bool → (A → B → Type 0) → Known → List Node → Known → List Node → Outcome A → Outcome B → Type 0
Piece F G new used further relation k xs l ys o p = Keeps F G new used further relation k.next k.facts xs l.next l.facts ys o p

-- a node of which no fact is noted, in front of a part
abbrev pub node_part : {k : ℕ} {facts : List Fact} {xs : List Node} {m : Known} (x : Node) → mark_size (part_of x) ≡ 0 → Part (k + 1) facts xs m → Part k facts (x ∷ xs) m
node_part {k} {facts} {xs} {m} x e p = record {
  more = p.more;
  counts = omega (arith, p.counts);
  noted = p.noted;
  within = among k m.next p.more (omega arith) (omega arith) p.within;
  ends = (omega (arith, e), p.ends);
}

module _ {F G : List Fact} {new : ℕ → Bool} where
  pub done : {A B : Type 0} {used : List ℕ} {further : List Bool} {R : A → B → Type 0} {a : A} {b : B} {m n : Known} → R a b → IsBeside new used further m n → Piece F G new used further R m [] n [] (Goes a m) (Goes b n)
  done {further = further} {m = m} {n = n} r b = went (extends_itself further) r b (nothing_more m) (nothing_more n) (λ f g. refl)

  -- what has been gone over in both texts, in front of a piece
  pub moved : {C D : Type 0} {after : List ℕ} {further behind : List Bool} {Q : C → D → Type 0} {k j : ℕ} {facts others : List Fact} {xs ys xs' ys' : List Node} {m n : Known} {o : Outcome C} {r : Outcome D}
      → Extends further behind → (p : Part k facts xs m) → (q : Part j others ys n) → (HasFacts F k m.next p.more → HasFacts G j n.next q.more → seen F k xs ≡ seen G j ys)
      → Keeps F G new after behind Q m.next m.facts xs' n.next n.facts ys' o r → Keeps F G new after further Q k facts (xs ++ xs') j others (ys ++ ys') o r
  moved e p q h (went g r b p' q' h') = went (extends_on e g) r b (part_then p p') (part_then q q') (both_seen F G p q p' q' h h')
  moved e p q h first_broke = first_broke
  moved e p q h second_broke = second_broke

  joined_by : {A B C D : Type 0} {used after : List ℕ} {further : List Bool} {R : A → B → Type 0} {Q : C → D → Type 0} {k j : ℕ} {facts others : List Fact} {xs ys xs' ys' : List Node} {f : A → Known → Outcome C} {g : B → Known → Outcome D}
      (o o' : Outcome A) (p p' : Outcome B) → o ≡ o' → p ≡ p' → Keeps F G new used further R k facts xs j others ys o' p'
      → ((a : A) (b : B) (m n : Known) → o ≡ Goes a m → p ≡ Goes b n → R a b → (behind : List Bool) → Extends further behind → IsBeside new used behind m n
      → Keeps F G new after behind Q m.next m.facts xs' n.next n.facts ys' (f a m) (g b n))
      → Keeps F G new after further Q k facts (xs ++ xs') j others (ys ++ ys') (goes_on o' f) (goes_on p' g)
  joined_by o (Goes a m) p (Goes b n) e i (went {behind = behind} g r s p' q' h) t = moved g p' q' h (t a b m n e i r behind g s)
  joined_by o (Breaks rule node) p p' e i d t = first_broke
  joined_by o o' p (Breaks rule node) e i d t = second_broke

  -- a piece, and one behind it
  pub joined : {A B C D : Type 0} {used after : List ℕ} {further : List Bool} {R : A → B → Type 0} {Q : C → D → Type 0} {k j : ℕ} {facts others : List Fact} {xs ys xs' ys' : List Node} {o : Outcome A} {p : Outcome B} {f : A → Known → Outcome C} {g : B → Known → Outcome D}
      → Keeps F G new used further R k facts xs j others ys o p
      → ((a : A) (b : B) (m n : Known) → o ≡ Goes a m → p ≡ Goes b n → R a b → (behind : List Bool) → IsBeside new used behind m n → Keeps F G new after behind Q m.next m.facts xs' n.next n.facts ys' (f a m) (g b n))
      → Keeps F G new after further Q k facts (xs ++ xs') j others (ys ++ ys') (goes_on o f) (goes_on p g)
  joined {o = o} {p = p} d t = joined_by o o p p refl refl d (λ a b m n e i r behind g s. t a b m n e i r behind s)

  -- a piece behind which nothing more is gone over, with more flags of objects
  pub after_more : {A B C D : Type 0} {used after : List ℕ} {further : List Bool} {R : A → B → Type 0} {Q : C → D → Type 0} {k j : ℕ} {facts others : List Fact} {xs ys : List Node} {o : Outcome A} {p : Outcome B} {f : A → Known → Outcome C} {g : B → Known → Outcome D}
      → Keeps F G new used further R k facts xs j others ys o p
      → ((a : A) (b : B) (m n : Known) → o ≡ Goes a m → p ≡ Goes b n → R a b → (behind : List Bool) → Extends further behind → IsBeside new used behind m n
      → Keeps F G new after behind Q m.next m.facts [] n.next n.facts [] (f a m) (g b n))
      → Keeps F G new after further Q k facts xs j others ys (goes_on o f) (goes_on p g)
  after_more {after = last} {further} {Q = Q} {k} {j} {facts} {others} {xs} {ys} {o = o} {p = p} {f = f} {g = g} d t =
      subst (λ list. Keeps F G new last further Q k facts list j others ys (goes_on o f) (goes_on p g)) (append-nil xs)
      (subst (λ list. Keeps F G new last further Q k facts (xs ++ []) j others list (goes_on o f) (goes_on p g)) (append-nil ys) (joined_by o o p p refl refl d t))

  pub after : {A B C D : Type 0} {used after : List ℕ} {further : List Bool} {R : A → B → Type 0} {Q : C → D → Type 0} {k j : ℕ} {facts others : List Fact} {xs ys : List Node} {o : Outcome A} {p : Outcome B} {f : A → Known → Outcome C} {g : B → Known → Outcome D}
      → Keeps F G new used further R k facts xs j others ys o p
      → ((a : A) (b : B) (m n : Known) → o ≡ Goes a m → p ≡ Goes b n → R a b → (behind : List Bool) → IsBeside new used behind m n → Keeps F G new after behind Q m.next m.facts [] n.next n.facts [] (f a m) (g b n))
      → Keeps F G new after further Q k facts xs j others ys (goes_on o f) (goes_on p g)
  after d t = after_more d (λ a b m n e i r behind g s. t a b m n e i r behind s)

  -- grouped as nodes are
  pub grouped : {A B : Type 0} {used : List ℕ} {further : List Bool} {R : A → B → Type 0} {k j : ℕ} {facts others : List Fact} (xs ys zs xs' ys' zs' : List Node) {o : Outcome A} {p : Outcome B}
      → Keeps F G new used further R k facts (xs ++ (ys ++ zs)) j others (xs' ++ (ys' ++ zs')) o p → Keeps F G new used further R k facts (xs ++ ys ++ zs) j others (xs' ++ ys' ++ zs') o p
  grouped {used = used} {further} {R} {k} {j} {facts} {others} xs ys zs xs' ys' zs' {o} {p} d =
      subst (λ list. Keeps F G new used further R k facts list j others (xs' ++ ys' ++ zs') o p) (sym (append_assoc xs ys zs))
      (subst (λ list. Keeps F G new used further R k facts (xs ++ (ys ++ zs)) j others list o p) (sym (append_assoc xs' ys' zs')) d)

  -- what comes is related in another way too
  pub so : {A B : Type 0} {used : List ℕ} {further : List Bool} {R Q : A → B → Type 0} {k j : ℕ} {facts others : List Fact} {xs ys : List Node} {o : Outcome A} {p : Outcome B} → ((a : A) (b : B) → R a b → Q a b)
      → Keeps F G new used further R k facts xs j others ys o p → Keeps F G new used further Q k facts xs j others ys o p
  so f (went {a} {b} e r s p q h) = went e (f a b r) s p q h
  so f first_broke = first_broke
  so f second_broke = second_broke

  -- with flags of objects behind others
  pub since : {A B : Type 0} {used : List ℕ} {further behind : List Bool} {R : A → B → Type 0} {k j : ℕ} {facts others : List Fact} {xs ys : List Node} {o : Outcome A} {p : Outcome B} → Extends further behind
      → Keeps F G new used behind R k facts xs j others ys o p → Keeps F G new used further R k facts xs j others ys o p
  since e (went g r s p q h) = went (extends_on e g) r s p q h
  since e first_broke = first_broke
  since e second_broke = second_broke

  judged_by : {used : List ℕ} {further : List Bool} (n m : ℕ) (r r' : Option Rule) {k l : Known} → IsBeside new used further k l → Piece F G new used further (λ (u v : Unit {0}). Unit {0}) k [] l [] (unless_broken r n k) (unless_broken r' m l)
  judged_by n m None None b = done tt b
  judged_by n m (Some rule) r' b = first_broke
  judged_by n m None (Some rule) b = second_broke

  -- a node is judged
  pub judges : {used : List ℕ} {further : List Bool} (n m : ℕ) (rules rules' : List Rule) {k l : Known} → IsBeside new used further k l → Piece F G new used further (λ (u v : Unit {0}). Unit {0}) k [] l [] (settle n rules k) (settle m rules' l)
  judges n m rules rules' b = judged_by n m (least rules) (least rules') b

  -- ---- nodes

  -- a node of which no fact is noted, and which stays without marks
  pub unnoted : {A B : Type 0} {used : List ℕ} {further : List Bool} {R : A → B → Type 0} {k j : ℕ} {facts others : List Fact} {xs ys : List Node} (x y : Node) {o : Outcome A} {p : Outcome B}
      → mark_size (part_of x) ≡ 0 → mark_size (part_of y) ≡ 0
      → ((whole : List Fact) (n : ℕ) (zs : List Node) → seen whole n (x ∷ zs) ≡ asked whole n ∷ seen whole (n + 1) zs) → ((whole : List Fact) (n : ℕ) (zs : List Node) → seen whole n (y ∷ zs) ≡ asked whole n ∷ seen whole (n + 1) zs)
      → Keeps F G new used further R (k + 1) facts xs (j + 1) others ys o p → Keeps F G new used further R k facts (x ∷ xs) j others (y ∷ ys) o p
  unnoted {k = k} {j} {xs = xs} {ys} x y e i stays there (went {m = m} {n} g r b p q h) = went g r b (node_part x e p) (node_part y i q) (λ f g.
      stays F k xs
      ∙ ap (λ it. it ∷ seen F (k + 1) xs) (none_there F k m.next p.more (omega (arith, p.counts)) f p.within)
      ∙ ap (λ l. None ∷ l) (h (λ a low high. f a (omega (arith, low)) high) (λ a low high. g a (omega (arith, low)) high))
      ∙ ap (λ it. it ∷ seen G (j + 1) ys) (sym (none_there G j n.next q.more (omega (arith, q.counts)) g q.within))
      ∙ sym (there G j ys))
    where
      none_there : (whole : List Fact) (k behind : ℕ) (more : List Fact) → k < behind → HasFacts whole k behind more → AreOfNodes (k + 1) behind more → asked whole k ≡ None
      none_there whole k behind more low f within =
          ap (λ (found : Option Fact). elim (found) as (λ _. Option (CType × Bool)) [ None ↦ None | Some fact ↦ Some (fact.type, is_number fact.constancy) ])
          (f k (omega arith) low ∙ found_none more k (others_before (k + 1) behind k more within (omega arith)))
  unnoted x y e i stays there first_broke = first_broke
  unnoted x y e i stays there second_broke = second_broke

  -- a node of both texts that doesn't stay
  pub hidden : {A B : Type 0} {used : List ℕ} {further : List Bool} {R : A → B → Type 0} {k j : ℕ} {facts others : List Fact} {xs ys : List Node} (x y : Node) {o : Outcome A} {p : Outcome B}
      → mark_size (part_of x) ≡ 0 → mark_size (part_of y) ≡ 0
      → ((whole : List Fact) (n : ℕ) (zs : List Node) → seen whole n (x ∷ zs) ≡ seen whole (n + 1) zs) → ((whole : List Fact) (n : ℕ) (zs : List Node) → seen whole n (y ∷ zs) ≡ seen whole (n + 1) zs)
      → Keeps F G new used further R (k + 1) facts xs (j + 1) others ys o p → Keeps F G new used further R k facts (x ∷ xs) j others (y ∷ ys) o p
  hidden {k = k} {j} {xs = xs} {ys} x y e i goes there (went g r b p q h) = went g r b (node_part x e p) (node_part y i q) (λ f g.
      goes F k xs ∙ h (λ a low high. f a (omega (arith, low)) high) (λ a low high. g a (omega (arith, low)) high) ∙ sym (there G j ys))
  hidden x y e i goes there first_broke = first_broke
  hidden x y e i goes there second_broke = second_broke
