-- A node that is emitted, or that is set at last: what was there stays as it is, and all nodes are sound.
use Rattle.std.proofs.Common.{◌≡◌, ℕ, zero, suc, ◌+◌, ◌≤◌, ◌<◌, List, [], ◌∷◌, ◌++◌, length, max, Some, slice_get, refl, sym, ap, subst, ◌∙◌, ◌⊎◌, inl, inr, arith, set}
use Rattle.std.proofs.Common.{Bool, true, false, nat_lt, ◌&&◌}
use Rattle.std.proofs.lemmas.Bool.{ltb-true, lt-ltb}
use Rattle.std.proofs.lemmas.Grind.{common_steps}
use Rattle.std.proofs.lemmas.List.{get_or_append_left}
use Rattle.std.proofs.Math.Seq.{get_or-append_seam}
use Rattle.std.proofs.lemmas.Option.{slice_get-get_or, slice_get_within}
use Rattle.std.specs.Global.{Vec}
use Rattle.lt_model.specs.declared.cell.Shape.{Shape}
use Rattle.lt_ir.specs.declared.node.Node.{Node}
use Rattle.lt_ir.specs.declared.node.Node.TheVariants as node
use Rattle.lt_emit.specs.declared.builder.Builder.{Builder}
use Rattle.lt_ir.specs.Edges.{successors}
use Rattle.lt_emit.specs.Turning.{are_below, UsesBelow, NamesIn, LeadsBelow, IsTickWithin, IsSoundNode}
use Rattle.lt_emit.specs.Emission.{Here, here_of, counts_of, counts_at, IsSound, IsEntrance, Grows, Emits, IsPlaced}
use Rattle.lt_emit.proofs.Sound.{AreMore, sound_more, uses_more, names_more}

-- ---- lists that grow

pub longer : {X : Type 0} (xs : List X) (y : X) → length (xs ++ y ∷ []) ≡ length xs + 1
longer xs y = grind (arith, common_steps)

pub below_or_not : (i n : ℕ) → (i < n) ⊎ (n ≤ i)
below_or_not i n = grind arith

pub front_of : {X : Type 0} (xs : List X) (y : X) (k : ℕ) → k < length xs → slice_get (xs ++ y ∷ []) k ≡ slice_get xs k
front_of xs y k there =
    let more : k < length (xs ++ y ∷ []) = omega (arith, longer xs y) in
    slice_get-get_or (xs ++ y ∷ []) k y more ∙ ap Some (get_or_append_left xs (y ∷ []) y k there) ∙ sym (slice_get-get_or xs k y there)

pub last_of : {X : Type 0} (xs : List X) (y : X) → slice_get (xs ++ y ∷ []) (length xs) ≡ Some y
last_of xs y =
    let there : length xs < length (xs ++ y ∷ []) = omega (arith, longer xs y) in
    slice_get-get_or (xs ++ y ∷ []) (length xs) y there ∙ ap Some (get_or-append_seam xs y [] y)

pub one_value : {X : Type 0} {x y : X} → Some x ≡ Some y → x ≡ y
one_value is = cc

-- ---- what is there

pub are_more :
    (a b : Builder) → here_of b ≡ here_of a → length a.nodes.items ≤ length b.nodes.items
    → length a.structs.items ≤ length b.structs.items → a.registers ≤ b.registers → AreMore (counts_at a) (counts_at b)
are_more a b same nodes structs registers =
    let Are : Here → Type 0 = λ here. AreMore (counts_of here (length a.nodes.items) (length a.structs.items) a.registers)
    (counts_at b) in
    subst Are same (record {
      nodes = nodes;
      registers = registers;
      params = refl;
      locals = refl;
      structs = structs;
      statics = refl;
      labels = refl;
      stubs = refl;
      functions = refl;
    })

-- ---- a node more

pub grown :
    (a b : Builder) (it : Node) → here_of b ≡ here_of a → b.nodes.items ≡ a.nodes.items ++ it ∷ [] → b.structs ≡ a.structs
    → a.registers ≤ b.registers → LeadsBelow (length a.nodes.items) it ⊎ IsTickWithin (length a.nodes.items + 1) it
    → UsesBelow b.registers it → NamesIn (counts_at a) it → Grows a b
grown a b it same nodes structs registers leads uses names = record {
  same = same;
  longer = omega (arith, long);
  nodes = λ e n is.
      ap (λ row. slice_get row e) nodes ∙ front_of a.nodes.items it e (slice_get_within a.nodes.items e n is) ∙ is;
  structs = λ k s is.
      let Is : Vec Shape → Type 0 = λ v. slice_get v.items k ≡ Some s in
      subst Is (sym structs) is;
  registers = registers;
  sound = λ before e n is. sound before e n (sym (ap (λ row. slice_get row e) nodes) ∙ is);
}
  where
    long : length b.nodes.items ≡ length a.nodes.items + 1
    long = ap length nodes ∙ longer a.nodes.items it

    are : AreMore (counts_at a) (counts_at b)
    are = are_more a b same (omega (arith, long)) (omega (arith, ap (λ v. length v.items) structs)) registers

    leads_there : LeadsBelow (length a.nodes.items) it ⊎ IsTickWithin (length a.nodes.items + 1) it
        → LeadsBelow (length a.nodes.items) it ⊎ IsTickWithin (length b.nodes.items) it
    leads_there (inl below) = inl below
    leads_there (inr tick) = inr (tick.0, tick.1, omega (arith, tick.2, long))

    sound : IsSound a → (e : ℕ) (n : Node) → slice_get (a.nodes.items ++ it ∷ []) e ≡ Some n → IsSoundNode (counts_at b) e n
    sound before e n is = elim (below_or_not e (length a.nodes.items)) [
      | inl lt ↦
          sound_more (counts_at a) (counts_at b) are e n (before e n (sym (front_of a.nodes.items it e lt) ∙ is))
      | inr le ↦
          let fits = slice_get_within (a.nodes.items ++ it ∷ []) e n is in
          let end : e ≡ length a.nodes.items = omega (arith, fits, longer a.nodes.items it) in
          let this : it ≡ n = one_value (sym (last_of a.nodes.items it) ∙ ap (slice_get (a.nodes.items ++ it ∷ [])) (sym end) ∙ is) in
          let Is : ℕ → Node → Type 0 = λ e n. IsSoundNode (counts_at b) e n in
          subst (λ n. Is e n) this (subst (λ e. Is e it) (sym end) (record {
            leads = leads_there leads;
            uses = uses;
            names = names_more (counts_at a) (counts_at b) are it names;
          }))
    ]

pub emitted :
    (a b : Builder) (it : Node) (used : ℕ) → here_of b ≡ here_of a → b.nodes.items ≡ a.nodes.items ++ it ∷ []
    → b.structs ≡ a.structs → b.registers ≡ max a.registers used → LeadsBelow (length a.nodes.items) it → UsesBelow used it
    → NamesIn (counts_at a) it → Emits a b (length a.nodes.items) (IsPlaced it (length a.nodes.items))
emitted a b it used same nodes structs registers leads uses names =
    let here : UsesBelow b.registers it = uses_more it (omega (arith, registers)) uses in
    let at : slice_get b.nodes.items (length a.nodes.items) ≡ Some it =
    ap (λ row. slice_get row (length a.nodes.items)) nodes ∙ last_of a.nodes.items it in
    record {
      adds = record {
        grows = grown a b it same nodes structs (omega (arith, registers)) (inl leads) here names;
        stands = λ fin kept. (kept.nodes (length a.nodes.items) it (omega arith) at, uses_more it kept.registers here);
      };
      within = slice_get_within b.nodes.items (length a.nodes.items) it at;
    }

-- ---- a node to which no edge leads

pub still_below : (n more : ℕ) (points : List ℕ) → n ≤ more → are_below n points ≡ true → are_below more points ≡ true
still_below n more [] le below = refl
still_below n more (p ∷ points) le below =
    let both_hold = and_both (nat_lt p n) (are_below n points) below in
    let there : p < more = omega (arith, le, ltb-true p n both_hold.0) in
    ap (λ b. b && are_below more points) (lt-ltb p more there) ∙ still_below n more points le both_hold.1
  where
    and_both : (a b : Bool) → (a && b) ≡ true → (a ≡ true) × (b ≡ true)
    and_both true b is = (refl, is)
    and_both false b is = absurd (cc)

pub emitted_enters :
    (a b : Builder) (it : Node) → b.nodes.items ≡ a.nodes.items ++ it ∷ [] → LeadsBelow (length a.nodes.items) it → IsSound a
    → IsEntrance b (length a.nodes.items)
emitted_enters a b it nodes leads sound = record {
  last = ap length nodes ∙ longer a.nodes.items it;
  free = λ k n at. free k n (sym (ap (λ row. slice_get row k) nodes) ∙ at);
}
  where
    old : (k : ℕ) (n : Node) → k < length a.nodes.items → LeadsBelow k n ⊎ IsTickWithin (length a.nodes.items) n
        → LeadsBelow (length a.nodes.items) n
    old k n lt (inl below) = still_below k (length a.nodes.items) (successors n) (omega (arith, lt)) below
    old k n lt (inr tick) =
        subst (λ n. LeadsBelow (length a.nodes.items) n) (sym tick.1) (ap (λ b. b && true) (lt-ltb tick.0 (length a.nodes.items) tick.2))

    free : (k : ℕ) (n : Node) → slice_get (a.nodes.items ++ it ∷ []) k ≡ Some n → LeadsBelow (length a.nodes.items) n
    free k n is = elim (below_or_not k (length a.nodes.items)) [
      | inl lt ↦ old k n lt (sound k n (sym (front_of a.nodes.items it k lt) ∙ is)).leads
      | inr le ↦
          let fits = slice_get_within (a.nodes.items ++ it ∷ []) k n is in
          let end : k ≡ length a.nodes.items = omega (arith, fits, longer a.nodes.items it) in
          let this : it ≡ n = one_value (sym (last_of a.nodes.items it) ∙ ap (slice_get (a.nodes.items ++ it ∷ [])) (sym end) ∙ is) in
          subst (λ n. LeadsBelow (length a.nodes.items) n) this leads
    ]

-- ---- a tick whose successor is known

pub patched_sound :
    (a b : Builder) (hole to : ℕ) → here_of b ≡ here_of a → length b.nodes.items ≡ length a.nodes.items
    → ((e : ℕ) → (e ≡ hole → ⊥) → slice_get b.nodes.items e ≡ slice_get a.nodes.items e)
    → slice_get b.nodes.items hole ≡ Some (node.Tick to) → b.structs ≡ a.structs → b.registers ≡ a.registers
    → to < length a.nodes.items → IsSound a → IsSound b
patched_sound a b hole to same long others tick structs registers there before e n is = by (at_or_not e hole)
  where
    at_or_not : (i n : ℕ) → (i ≡ n) ⊎ (i ≡ n → ⊥)
    at_or_not i n = grind arith

    are : AreMore (counts_at a) (counts_at b)
    are = are_more a b same (omega (arith, long)) (omega (arith, ap (λ v. length v.items) structs)) (omega (arith, registers))

    by : (e ≡ hole) ⊎ (e ≡ hole → ⊥) → IsSoundNode (counts_at b) e n
    by (inr other) = sound_more (counts_at a) (counts_at b) are e n (before e n (sym (others e other) ∙ is))
    by (inl at) =
        let this : node.Tick to ≡ n = one_value (sym tick ∙ ap (slice_get b.nodes.items) (sym at) ∙ is) in
        let Is : Node → Type 0 = λ n. IsSoundNode (counts_at b) e n in
        subst Is this (record { leads = inr (to, refl, omega (arith, there, long)); uses = tt; names = tt })

-- ---- elements that are set

pub set_other : {X : Type 0} (xs : List X) (k e : ℕ) (x : X) → (e ≡ k → ⊥) → slice_get (set xs k x) e ≡ slice_get xs e
set_other [] k e x other = refl
set_other (y ∷ xs) zero zero x other = absurd (other refl)
set_other (y ∷ xs) zero (suc e) x other = refl
set_other (y ∷ xs) (suc k) zero x other = refl
set_other (y ∷ xs) (suc k) (suc e) x other = set_other xs k e x (λ same. other (ap suc same))

pub set_same : {X : Type 0} (xs : List X) (k : ℕ) (x : X) → k < length xs → slice_get (set xs k x) k ≡ Some x
set_same [] k x there = absurd (omega (arith, there))
set_same (y ∷ xs) zero x there = refl
set_same (y ∷ xs) (suc k) x there = set_same xs k x (omega (arith, there))
