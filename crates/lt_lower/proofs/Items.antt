-- The items of a block, and the exits of those from each on.
use Rattle.std.proofs.Common.{◌≡◌, ℕ, zero, suc, ◌+◌, ◌*◌, ◌-◌, ◌<◌, ◌≤◌, Ok, take, List, [], ◌∷◌, ◌++◌, length, drop, get_or, Some, slice_get, refl, sym, subst, ap, ◌∙◌, inl, inr, arith}
use Rattle.std.proofs.lemmas.List.{drop_all, take_more}
use Rattle.std.proofs.lemmas.Option.{slice_get-get_or, slice_get_within, slice_get_read}
use Rattle.lt_tree.specs.declared.typed.statement.Item.{Item}
use Rattle.lt_tree.specs.declared.typed.statement.Item.TheVariants as item
use Rattle.lt_tree.specs.Typing.TypedTree as e
use Rattle.lt_tree.specs.Typing.StatementView.{local_of, statement_of, item_before, items_in}
use Rattle.lt_meaning.specs.Statements.{parts_in}
use Rattle.lt_code.specs.Costs.{Cost, alone, ◌⊕◌, of_parts, of_items}
use Rattle.lt_code.specs.Bodies as code
use Rattle.lt_emit.specs.declared.builder.Builder.{Builder}
use Rattle.std.proofs.Math.Seq.{take-length}
use Rattle.lt_emit.specs.Spending.{IsWithin, Spends}
use Rattle.lt_emit.specs.Emission.{IsSound, IsEntrance, Here, here_of, Finished, site_in, Grows, Adds, EmitsWithin, GivesWithin, HasPoint}
use Rattle.lt_emit.proofs.Adding.{both}
use Rattle.lt_emit.proofs.Spent.{spends_none, spends_both, spends_more, spends_within, fitting}
use Rattle.lt_emit.proofs.Emitted.{longer, below_or_not, front_of, last_of, one_value}
use Rattle.lt_lower.specs.declared.flow.Exits.{Exits as HeldExits}
use Rattle.lt_lower.specs.Known.{AreKnownItems}
use Rattle.lt_lower.specs.Opening.{IsKnownItem, ItemOpens}
use Rattle.lt_lower.specs.Stands.{HasExits, exits_in, statement_cost, opening_cost, items_opened, opened_cost, items_cost, item_cost, declared_by, declared_along, ItemStands, ItemsStand, EndsBehind, EndsAlong}
use Rattle.lt_lower.proofs.Flows.{nothing_added, row_from, exits_after}

-- ---- the exits

-- one item more whose exits are there
pub along_more :
    {a b c : Builder} (its : List Item) (exits : List HeldExits) (k : ℕ) (it : Item) (outer inner : HeldExits)
    → length exits ≡ k + 1 → k < length its → it ≡ get_or its k it → slice_get exits k ≡ Some outer
    → Adds a b (EndsAlong its exits) → Adds b c (EndsBehind it inner outer)
    → Adds a c (EndsAlong its (exits ++ inner ∷ []))
along_more its exits k it outer inner long there is at before one =
    both before one (λ here fin p q i x y z is_item is_outer is_inner. more here fin p q i x y z is_item is_outer is_inner)
  where
    more : (here : Here) (fin : Finished) → EndsAlong its exits here fin → EndsBehind it inner outer here fin
        → (i : ℕ) (x : Item) (y z : HeldExits) → slice_get its i ≡ Some x → slice_get (exits ++ inner ∷ []) i ≡ Some y
        → slice_get (exits ++ inner ∷ []) (suc i) ≡ Some z → EndsBehind x z y here fin
    more here fin p q i x y z is_item is_outer is_inner =
        let fits : suc i < length exits + 1 = omega (arith, slice_get_within (exits ++ inner ∷ []) (suc i) z is_inner, longer exits inner) in
        let near : i < length exits = omega arith in
        elim (below_or_not (suc i) (length exits)) [
          | inl lt ↦ p i x y z is_item (sym (front_of exits inner i near) ∙ is_outer) (sym (front_of exits inner (suc i) lt) ∙ is_inner)
          | inr le ↦
              let end : suc i ≡ length exits = omega arith in
              let here_it : i ≡ k = omega arith in
              let same_item : it ≡ x = one_value (sym (slice_get_read its (length its) k it refl there is) ∙ ap (slice_get its) (sym here_it) ∙ is_item) in
              let same_outer : outer ≡ y = one_value (sym at ∙ ap (slice_get exits) (sym here_it) ∙ sym (front_of exits inner i near) ∙ is_outer) in
              let same_inner : inner ≡ z = one_value (sym (last_of exits inner) ∙ ap (slice_get (exits ++ inner ∷ [])) (sym end) ∙ is_inner) in
              subst (λ v. EndsBehind v z y here fin) same_item (subst (λ v. EndsBehind it v y here fin) same_inner (subst (λ v. EndsBehind it inner v here fin) same_outer q))
        ]

pub declared_next : (its : List Item) (k : ℕ) (it : Item) → k < length its → it ≡ get_or its k it
    → declared_along (take (k + 1) its) ≡ declared_along (take k its) + declared_by it
declared_next its k it there is =
    ap declared_along (take_more its k it there) ∙ declared_last (take k its) (get_or its k it)
    ∙ ap (λ x. declared_along (take k its) + declared_by x) (sym is)
  where
    declared_last : (row : List Item) (x : Item) → declared_along (row ++ x ∷ []) ≡ declared_along row + declared_by x
    declared_last [] x = omega arith
    declared_last (first ∷ row) x = omega (arith, declared_last row x)

-- and what it costs
pub along_spends :
    {a b c : Builder} (its : List Item) (k : ℕ) (it : Item) → k < length its → it ≡ get_or its k it
    → Spends (alone (5 * declared_along (take k its))) a b → Spends (alone (5 * declared_by it)) b c
    → Spends (alone (5 * declared_along (take (k + 1) its))) a c
along_spends its k it there is before one =
    spends_within (spends_both before one) record {
      nodes = omega (arith, declared_next its k it there is);
      registers = omega arith;
      loops = omega arith;
      calls = λ f. omega arith;
    }

-- and all of them are there
pub along_within :
    {b c : Builder} (exits : List HeldExits) (inner : HeldExits) → Grows b c
    → ((k : ℕ) (y : HeldExits) → slice_get exits k ≡ Some y → HasExits b y) → HasExits c inner
    → (k : ℕ) (y : HeldExits) → slice_get (exits ++ inner ∷ []) k ≡ Some y → HasExits c y
along_within {b} {c} exits inner g before one k y is =
    let fits : k < length exits + 1 = omega (arith, slice_get_within (exits ++ inner ∷ []) k y is, longer exits inner) in
    elim (below_or_not k (length exits)) [
      | inl lt ↦ exits_after y g (before k y (sym (front_of exits inner k lt) ∙ is))
      | inr le ↦
          let end : k ≡ length exits = omega arith in
          subst (HasExits c) (one_value (sym (last_of exits inner) ∙ ap (slice_get (exits ++ inner ∷ [])) (sym end) ∙ is)) one
    ]

-- ---- items

turned_sum : (p q : Cost) → IsWithin (p ⊕ q) (q ⊕ p)
turned_sum p q = grind fitting

one_object :
    (parts all most : Cost) (n : ℕ) → IsWithin (alone (5 * n) ⊕ all) most
    → IsWithin (alone (5 * (1 + n)) ⊕ ((alone 2 ⊕ parts) ⊕ all)) ((alone 7 ⊕ parts) ⊕ most)
one_object parts all most n rest = record {
  nodes = omega (arith, rest.nodes);
  registers = omega (arith, rest.registers);
  loops = omega (arith, rest.loops);
  calls = λ f. grind (fitting, rest.calls f);
}

no_object :
    (first all most : Cost) (n : ℕ) → IsWithin (alone (5 * n) ⊕ all) most → IsWithin (alone (5 * (0 + n)) ⊕ (first ⊕ all)) (first ⊕ most)
no_object first all most n rest = record {
  nodes = omega (arith, rest.nodes);
  registers = omega (arith, rest.registers);
  loops = omega (arith, rest.loops);
  calls = λ f. grind (fitting, rest.calls f);
}

-- none are left
pub items_none :
    {a : Builder} (its : List Item) (exits : List HeldExits) (k : ℕ) (x : HeldExits) → length its ≤ k
    → slice_get exits k ≡ Some x → HasPoint a x.next
    → EmitsWithin a a x.next (opened_cost (drop k its)) (λ here it. EndsAlong its exits here it → (y : HeldExits) → slice_get exits k ≡ Some y
    → ItemsStand (drop k its) y x.next here it)
items_none {a} its exits k x all at has = record {
  emits = record {
    adds = nothing_added (λ it along y is known.
        let same : x ≡ y = one_value (sym at ∙ is) in
        let Are : List Item → Type 0 = λ row. ItemsStand row y x.next (here_of a) it in
        subst Are (sym (drop_all k its all)) (λ knows. ap (λ z. it.point z.next) same) known);
    within = has;
  };
  spends = spends_none (opened_cost (drop k its) (here_of a));
}

-- what an item costs, in front of others
item_fits : (here : Here) (it : Item) (rest : e.Items)
    → IsWithin (items_opened here.program.functions rest ⊕ item_cost it here) (items_opened here.program.functions (item_before here.types it rest))
item_fits here (item.Local local) rest = turned_sum (items_opened here.program.functions rest) (opening_cost local here)
item_fits here (item.Statement s) rest =
    turned_sum (items_opened here.program.functions rest) (statement_cost (λ types. statement_of types s) here)
item_fits here (item.Label m) rest = turned_sum (items_opened here.program.functions rest) (alone 1)

-- and all of them, with the ends of their objects
items_fit : (here : Here) (its : List Item)
    → IsWithin (alone (5 * declared_along its) ⊕ items_opened here.program.functions (items_in here.types its))
    (of_items here.program.functions (items_in here.types its))
items_fit here [] = grind fitting
items_fit here (item.Local local ∷ its) =
    one_object (of_parts here.program.functions (parts_in (local_of here.types local).start)) _ _ (declared_along its) (items_fit here its)
items_fit here (item.Statement s ∷ its) =
    no_object (statement_cost (λ types. statement_of types s) here) _ _ (declared_along its) (items_fit here its)
items_fit here (item.Label m ∷ its) = no_object (alone 1) _ _ (declared_along its) (items_fit here its)

-- an item in front of those that stand
item_stands :
    (here : Here) (fin : Finished) (it : Item) (rest : e.Items) (inner outer : HeldExits) (to from : ℕ)
    → ItemStands it outer to from here fin → EndsBehind it inner outer here fin
    → (AreKnownItems here rest → code.items (site_in here fin) rest (fin.point to) (exits_in fin inner))
    → AreKnownItems here (item_before here.types it rest)
    → code.items (site_in here fin) (item_before here.types it rest) (fin.point from) (exits_in fin outer)
item_stands here fin (item.Local local) rest inner outer to from one ended stands known =
    (_, _, one known.0, stands known.1, ended)
item_stands here fin (item.Statement s) rest inner outer to from one ended stands known =
    let Out : HeldExits → Type 0 = λ x. code.items (site_in here fin) rest (fin.point to) (exits_in fin x) in
    (_, one known.0, subst Out ended (stands known.1))
item_stands here fin (item.Label m) rest inner outer to from one ended stands known =
    let Out : HeldExits → Type 0 = λ x. code.items (site_in here fin) rest (fin.point to) (exits_in fin x) in
    (_, one known.0, subst Out ended (stands known.1))

pub items_more :
    {a b c : Builder} (its : List Item) (exits : List HeldExits) (k from : ℕ) (it : Item) (outer : HeldExits) (m : ℕ)
    → 0 < k → k ≤ length its → length exits ≡ length its + 1 → it ≡ get_or its (k - 1) it → slice_get exits (k - 1) ≡ Some outer
    → EmitsWithin a b from (opened_cost (drop k its)) (λ here fin. EndsAlong its exits here fin → (y : HeldExits) → slice_get exits k ≡ Some y
    → ItemsStand (drop k its) y from here fin)
    → GivesWithin b c (Ok m) (item_cost it) (ItemStands it outer from)
    → EmitsWithin a c m (opened_cost (drop (k - 1) its)) (λ here fin. EndsAlong its exits here fin → (y : HeldExits)
    → slice_get exits (k - 1) ≡ Some y → ItemsStand (drop (k - 1) its) y m here fin)
items_more {a} {b} {c} its exits k from it outer m some fits long is at before one = record {
  emits = record {
    adds = both before.emits.adds one.gives.code.adds (λ here fin p q along y is_y.
        let there : k < length exits = omega arith in
        let less : k - 1 < length its = omega arith in
        let next : suc (k - 1) ≡ k = omega arith in
        let inner = get_or exits k outer in
        let at_inner : slice_get exits k ≡ Some inner = slice_get-get_or exits k outer there in
        let Are : List Item → Type 0 = λ row. ItemsStand row y m here fin in
        let Out : HeldExits → Type 0 = λ x. ItemsStand (it ∷ drop k its) x m here fin in
        subst Are (sym (row_from its k it some fits is))
        (subst Out (one_value (sym at ∙ is_y))
        (λ known. item_stands here fin it (items_in here.types (drop k its)) inner outer from m q
        (along (k - 1) it outer inner (slice_get_read its (length its) (k - 1) it refl less is) at (ap (slice_get exits) next ∙ at_inner)) (p along inner at_inner) known)));
    within = one.gives.code.within;
  };
  spends =
      let Costs : List Item → Type 0 = λ row. Spends (opened_cost row (here_of a)) a c in
      subst Costs (sym (row_from its k it some fits is))
      (spends_within (spends_more (opened_cost (drop k its)) (item_cost it) before.emits.adds.grows before.spends one.spends)
      (item_fits (here_of a) it (items_in (here_of a).types (drop k its))));
}

-- all of them stand
pub items_all :
    {a b c : Builder} (its : List Item) (exits : List HeldExits) (k from : ℕ) (x : HeldExits) → k ≤ 0
    → slice_get exits 0 ≡ Some x → Adds a b (EndsAlong its exits) → Spends (alone (5 * declared_along its)) a b
    → EmitsWithin b c from (opened_cost (drop k its)) (λ here fin. EndsAlong its exits here fin → (y : HeldExits) → slice_get exits k ≡ Some y
    → ItemsStand (drop k its) y from here fin)
    → EmitsWithin a c from (items_cost its) (ItemsStand its x from)
items_all {a} {b} {c} its exits k from x first at along ends code =
    let none : k ≡ 0 = omega arith in
    let From : ℕ → Type 0 = λ n. EmitsWithin b c from (opened_cost (drop n its)) (λ here fin. EndsAlong its exits here fin → (y : HeldExits)
    → slice_get exits n ≡ Some y → ItemsStand (drop n its) y from here fin) in
    let whole = subst From none code in
    record {
      emits = record { adds = both along whole.emits.adds (λ here fin p q. q p x at); within = whole.emits.within };
      spends = spends_within (spends_more (λ here. alone (5 * declared_along its)) (opened_cost its) along.grows ends whole.spends)
          (items_fit (here_of a) its);
    }

-- ---- entrances

-- Code that was added so far begins with a node to which no edge leads, where no object is declared before.
abbrev pub OpenFrom : (before now : Builder) → HeldExits → List Item → (k from : ℕ) → Type 0
OpenFrom before now x its k from =
    AreKnownItems (here_of before) (items_in (here_of before).types its) → IsSound before → IsEntrance before x.next
    → declared_along (take k its) ≡ 0 → IsEntrance now from

-- no node was added
same_entrance : {a b : Builder} {e : ℕ} → Grows a b → length b.nodes.items ≤ length a.nodes.items → IsEntrance a e → IsEntrance b e
same_entrance {a} {b} g le entrance = record {
  last = omega (arith, entrance.last, le, g.longer);
  free = λ k n at.
      let there : k < length a.nodes.items = omega (arith, le, slice_get_within b.nodes.items k n at) in
      let was : slice_get a.nodes.items k ≡ Some (get_or a.nodes.items k n) = slice_get-get_or a.nodes.items k n there in
      let this : get_or a.nodes.items k n ≡ n = one_value (sym (g.nodes k (get_or a.nodes.items k n) was) ∙ at) in
      entrance.free k n (was ∙ ap Some this);
}

pub opens_none :
    (a b : Builder) (its : List Item) (exits : List HeldExits) (x y : HeldExits) → Grows a b → Spends (alone (5 * declared_along its)) a b
    → (declared_along its ≡ 0 → slice_get exits (length its) ≡ Some x) → slice_get exits (length its) ≡ Some y
    → OpenFrom a b x its (length its) y.next
opens_none a b its exits x y grows spends unchanged at known sound entrance none =
    let none_at_all : declared_along its ≡ 0 = sym (ap declared_along (take-length its)) ∙ none in
    let same : x ≡ y = one_value (sym (unchanged none_at_all) ∙ at) in
    let At : HeldExits → Type 0 = λ z. IsEntrance b z.next in
    subst At same (same_entrance grows (omega (arith, spends.nodes, none_at_all)) entrance)

-- what an item among them names is known
item_known : (here : Here) (its : List Item) (k : ℕ) (it : Item) → slice_get its k ≡ Some it
    → AreKnownItems here (items_in here.types its) → IsKnownItem it here
item_known here [] k it at known = absurd (cc)
item_known here (first ∷ its) zero it at known =
    let this : first ≡ it = cc in
    let Is : Item → Type 0 = λ x. IsKnownItem x here in
    subst Is this (first_known here first (items_in here.types its) known)
  where
    first_known : (here : Here) (first : Item) (rest : e.Items) → AreKnownItems here (item_before here.types first rest) → IsKnownItem first here
    first_known here (item.Local local) rest known = known.0
    first_known here (item.Statement s) rest known = known.0
    first_known here (item.Label m) rest known = known.0
item_known here (first ∷ its) (suc k) it at known = item_known here its k it at (rest_known here first (items_in here.types its) known)
  where
    rest_known : (here : Here) (first : Item) (rest : e.Items) → AreKnownItems here (item_before here.types first rest) → AreKnownItems here rest
    rest_known here (item.Local local) rest known = known.1
    rest_known here (item.Statement s) rest known = known.1
    rest_known here (item.Label m) rest known = known.1

pub opens_more :
    {a b c : Builder} (its : List Item) (x : HeldExits) (k from : ℕ) (it : Item) (m : ℕ) → 0 < k → k ≤ length its
    → it ≡ get_or its (k - 1) it → Grows a b → OpenFrom a b x its k from → ItemOpens it b c from (Ok m) → OpenFrom a c x its (k - 1) m
opens_more {a} {b} {c} its x k from it m some fits is grows so_far opens known sound entrance none =
    let less : k - 1 < length its = omega (arith, some, fits) in
    let next : (k - 1) + 1 ≡ k = omega (arith, some) in
    let at : slice_get its (k - 1) ≡ Some it = slice_get_read its (length its) (k - 1) it refl less is in
    let Is : Here → Type 0 = λ here. IsKnownItem it here in
    let split : declared_along (take k its) ≡ declared_along (take (k - 1) its) + declared_by it =
    ap (λ n. declared_along (take n its)) (sym next) ∙ declared_next its (k - 1) it less is in
    opens (subst Is (sym grows.same) (item_known (here_of a) its (k - 1) it at known)) (grows.sound sound)
    (λ none_here. so_far known sound entrance (omega (arith, split, none, none_here)))
