-- How a run begins, behind the objects that are there from the start, beside further ones.
use Rattle.std.proofs.Common.{◌≡◌, ℕ, suc, List, [], ◌∷◌, ◌++◌, map, Option, Some, None, Bool, true, false, refl, sym, ap, ◌∙◌, subst, arith}
use Rattle.std.specs.Prelude.{◌+◌, if◌then◌else◌}
use Rattle.std.specs.List.{AllByRecursion}
use Rattle.std.specs.Str.{bytes_eq}
use Rattle.lt_model.specs.declared.cell.Address.{Address}
use Rattle.lt_model.specs.declared.cell.CellType.{CellType}
use Rattle.lt_model.specs.declared.cell.Content.{Content}
use Rattle.lt_model.specs.declared.cell.Content.TheVariants as content
use Rattle.lt_model.specs.declared.cell.Shape.{Shape}
use Rattle.lt_model.specs.declared.input.Place.{Place}
use Rattle.lt_model.specs.declared.input.BlockIn.{BlockIn}
use Rattle.lt_model.specs.declared.input.CellSet.{CellSet}
use Rattle.lt_model.specs.declared.input.CellSet.TheVariants as cellset
use Rattle.lt_model.specs.declared.scalar.DataModel.{DataModel}
use Rattle.lt_model.specs.Memory.{Memory, seal_block}
use Rattle.lt_model.specs.State.{untouched, Gives, Ends}
use Rattle.lt_ir.specs.declared.variable.Variable.TheVariants.{Parameter, Static as StaticObject}
use Rattle.lt_ir.specs.declared.code.Static.{Static}
use Rattle.lt_ir.specs.Running.{Bound, At, Answer, Step, ◌>>◌, gives, seals, block_among, if_living, absurdity}
use Rattle.lt_ir.specs.Starting.{Root, put, seal_statics, start_blocks, start_parameters, named, parameter_roots, static_roots, root_among, address_named, type_at, put_if_there, put_in, set_one, set_all, sets}
use Rattle.lt_object_laws.specs.Renamed.{renumbered}
use Rattle.lt_object_laws.specs.Laws.{HasName, IsNamed}
use Rattle.lt_object_laws.proofs.Numbers.{flag_at}
use Rattle.lt_object_laws.proofs.Memory as mem
use Rattle.lt_object_laws.proofs.Memory.{option_with}
use Rattle.lt_object_laws.proofs.Alike.{Other, Comparison, names_in, as_it_is, pointer_in, content_in, IsFurtherBlock, HasFurtherBounds, beside, Stands, Alike, Same, then_same, gives_same, if_same}
use Rattle.lt_object_laws.proofs.Machine.{among_in, created_same, begins_same, seals_same, stored_same}
use Rattle.lt_object_laws.proofs.Beginning.{StaticsWith, no_statics, a_static, a_further_static}

-- ---- roots

abbrev pub root_in : Other → Root → Root
root_in o root = record { name = root.name; block = names_in o root.block; cells = root.cells }

abbrev pub roots_in : Other → List Root → List Root
roots_in o roots = map (root_in o) roots

-- the same roots, with others that have no name
pub data RootsWith (o : Other) : List Root → List Root → Type 0 where
  no_roots : RootsWith o [] []
  a_root : {roots others : List Root} (root : Root) → RootsWith o roots others → RootsWith o (root ∷ roots) (root_in o root ∷ others)
  a_nameless_root : {roots others : List Root} (root : Root) → root.name ≡ [] → RootsWith o roots others → RootsWith o roots (root ∷ others)

later : (i n : ℕ) → suc i + n ≡ i + suc n
later i n = omega arith

none_left : (n : ℕ) → n ≡ n + 0
none_left n = omega arith

module _ (o : Other) where
  pub all_roots : (roots : List Root) → RootsWith o roots (roots_in o roots)
  all_roots [] = no_roots
  all_roots (root ∷ roots) = a_root root (all_roots roots)

  pub both_roots : {roots others more further : List Root} → RootsWith o roots others → RootsWith o more further → RootsWith o (roots ++ more) (others ++ further)
  both_roots no_roots h = h
  both_roots (a_root root d) h = a_root root (both_roots d h)
  both_roots (a_nameless_root root e d) h = a_nameless_root root e (both_roots d h)

  nameless : (name : List ℕ) → HasName name → bytes_eq [] name ≡ false
  nameless [] h = absurd h
  nameless (b ∷ name) h = refl

  pub found_root : {roots others : List Root} → RootsWith o roots others → (name : List ℕ) → HasName name → root_among others name ≡ option_with (root_in o) (root_among roots name)
  found_root no_roots name h = refl
  found_root (a_root {roots} {others} root d) name h = by (bytes_eq root.name name) (found_root d name h)
    where
      by : (b : Bool) → root_among others name ≡ option_with (root_in o) (root_among roots name)
          → (if b then Some (root_in o root) else root_among others name) ≡ option_with (root_in o) (if b then Some root else root_among roots name)
      by true g = refl
      by false g = g
  found_root (a_nameless_root {roots} {others} root e d) name h =
      ap (λ n. if bytes_eq n name then Some root else root_among others name) e ∙ ap (λ b. if b then Some root else root_among others name) (nameless name h) ∙ found_root d name h

  pub parameters_with : {scope other : List Bound} → HasFurtherBounds o scope other → (k : ℕ) (names : List (List ℕ)) (shapes : List Shape) {roots others : List Root} → RootsWith o roots others
      → RootsWith o (parameter_roots scope k names shapes roots) (parameter_roots other k names shapes others)
  parameters_with d k [] shapes h = h
  parameters_with d k (name ∷ names) [] h = h
  parameters_with {scope} {other} d k (name ∷ names) (shape ∷ shapes) {roots} {others} h =
      subst (λ found. RootsWith o (named name shape.cells (block_among scope (Parameter k)) (parameter_roots scope (suc k) names shapes roots)) (named name shape.cells found (parameter_roots other (suc k) names shapes others))) (sym (among_in o d (Parameter k)))
      (by (block_among scope (Parameter k)) (parameters_with d (suc k) names shapes h))
    where
      by : (found : Option ℕ) → RootsWith o (parameter_roots scope (suc k) names shapes roots) (parameter_roots other (suc k) names shapes others)
          → RootsWith o (named name shape.cells found (parameter_roots scope (suc k) names shapes roots)) (named name shape.cells (option_with (names_in o) found) (parameter_roots other (suc k) names shapes others))
      by None g = g
      by (Some n) g = a_root (record { name = name; block = n; cells = shape.cells }) g

  pub statics_with : {model : DataModel} {further : List Bool} {its others : List Static} → StaticsWith (names_in o) model further its others → (tail : List Bool) (i j : ℕ)
      → ((n : ℕ) → names_in o (i + n) ≡ j + renumbered (further ++ tail) n) → RootsWith o (static_roots i its) (static_roots j others)
  statics_with no_statics tail i j s = no_roots
  statics_with (a_static {further} {its} {others} it d) tail i j s =
      subst (λ k. RootsWith o (static_roots i (it ∷ its)) (record { name = it.block.name; block = k; cells = it.block.shape.cells } ∷ static_roots (suc j) others)) (ap (names_in o) (none_left i) ∙ s 0 ∙ sym (none_left j))
      (a_root (record { name = it.block.name; block = i; cells = it.block.shape.cells })
      (statics_with d tail (suc i) (suc j) (λ n. ap (names_in o) (later i n) ∙ s (suc n) ∙ sym (later j (renumbered (further ++ tail) n)))))
  statics_with (a_further_static {further} {its} {others} it name g d) tail i j s =
      a_nameless_root (record { name = it.block.name; block = j; cells = it.block.shape.cells }) name (statics_with d tail i (suc j) (λ n. s n ∙ sym (later j (renumbered (further ++ tail) n))))

  pub point_with : {roots others : List Root} → RootsWith o roots others → (p : Place) → HasName p.root → address_named others p ≡ pointer_in o (address_named roots p)
  point_with {roots} d p h =
      ap (λ (found : Option Root). elim (found) as (λ _. Option Address) [ None ↦ None | Some root ↦ Some (record { block = root.block; offset = p.offset }) ]) (found_root d p.root h) ∙ by (root_among roots p.root)
    where
      by : (found : Option Root) → elim (option_with (root_in o) found) as (λ _. Option Address) [ None ↦ None | Some root ↦ Some (record { block = root.block; offset = p.offset }) ]
          ≡ pointer_in o (elim (found) as (λ _. Option Address) [ None ↦ None | Some root ↦ Some (record { block = root.block; offset = p.offset }) ])
      by None = refl
      by (Some root) = refl

module _ (seen : Comparison) where
  abbrev S : {A : Type 0} → (Other → A → A) → Step A → Step A → Step A → Type 0
  S with s r1 r2 = Same seen with s r1 r2

  put_same : (m : DataModel) (block offset : ℕ) (ty : CellType) (c : Content) → S as_it_is (put m block offset ty c) (put m (names_in seen.one block) offset ty (content_in seen.one c)) (put m (names_in seen.two block) offset ty (content_in seen.two c))
  put_same m block offset ty c = then_same seen _ _ _ _ _ _ (stored_same seen false m ty (Some (record { block = block; offset = offset })) c untouched) (λ _. gives_same seen as_it_is tt)

  pub blocks_same : (its : List BlockIn) → S roots_in (start_blocks its) (start_blocks its) (start_blocks its)
  blocks_same [] = gives_same seen roots_in []
  blocks_same (it ∷ its) = then_same seen _ _ _ _ _ _ (created_same seen it.shape true) (λ block. then_same seen _ _ _ _ _ _ (blocks_same its) (λ roots. gives_same seen roots_in (record { name = it.name; block = block; cells = it.shape.cells } ∷ roots)))

  pub parameters_same : (k : ℕ) (shapes : List Shape) → S as_it_is (start_parameters k shapes) (start_parameters k shapes) (start_parameters k shapes)
  parameters_same k [] = gives_same seen as_it_is tt
  parameters_same k (shape ∷ shapes) = then_same seen _ _ _ _ _ _ (begins_same seen (Parameter k) shape true) (λ _. parameters_same (suc k) shapes)

  put_there_same : (m : DataModel) (block offset : ℕ) (ty : Option CellType) (c : Content)
      → S as_it_is (put_if_there m block offset ty c) (put_if_there m (names_in seen.one block) offset ty (content_in seen.one c)) (put_if_there m (names_in seen.two block) offset ty (content_in seen.two c))
  put_there_same m block offset None c = gives_same seen as_it_is tt
  put_there_same m block offset (Some ty) c = put_same m block offset ty c

  put_in_same : (m : DataModel) (root r1 r2 : Option Root) (offset : ℕ) (c c1 c2 : Content) → r1 ≡ option_with (root_in seen.one) root → r2 ≡ option_with (root_in seen.two) root → c1 ≡ content_in seen.one c → c2 ≡ content_in seen.two c
      → S as_it_is (put_in m root offset c) (put_in m r1 offset c1) (put_in m r2 offset c2)
  put_in_same m root r1 r2 offset c c1 c2 e1 e2 f1 f2 =
      subst (λ x. S as_it_is (put_in m root offset c) (put_in m x offset c1) (put_in m r2 offset c2)) (sym e1)
      (subst (λ x. S as_it_is (put_in m root offset c) (put_in m (option_with (root_in seen.one) root) offset c1) (put_in m x offset c2)) (sym e2)
      (subst (λ x. S as_it_is (put_in m root offset c) (put_in m (option_with (root_in seen.one) root) offset x) (put_in m (option_with (root_in seen.two) root) offset c2)) (sym f1)
      (subst (λ x. S as_it_is (put_in m root offset c) (put_in m (option_with (root_in seen.one) root) offset (content_in seen.one c)) (put_in m (option_with (root_in seen.two) root) offset x)) (sym f2) (by root))))
    where
      by : (root : Option Root) → S as_it_is (put_in m root offset c) (put_in m (option_with (root_in seen.one) root) offset (content_in seen.one c)) (put_in m (option_with (root_in seen.two) root) offset (content_in seen.two c))
      by None = gives_same seen as_it_is tt
      by (Some root) = put_there_same m root.block offset (type_at offset root.cells) c

  set_one_same : (m : DataModel) (roots r1 r2 : List Root) → RootsWith seen.one roots r1 → RootsWith seen.two roots r2 → (it : CellSet) → IsNamed it → S as_it_is (set_one m roots it) (set_one m r1 it) (set_one m r2 it)
  set_one_same m roots r1 r2 d1 d2 (cellset.Number p z) h =
      put_in_same m (root_among roots p.root) (root_among r1 p.root) (root_among r2 p.root) p.offset (content.Number z) (content.Number z) (content.Number z) (found_root seen.one d1 p.root h) (found_root seen.two d2 p.root h) refl refl
  set_one_same m roots r1 r2 d1 d2 (cellset.Point p None) h =
      put_in_same m (root_among roots p.root) (root_among r1 p.root) (root_among r2 p.root) p.offset (content.Address None) (content.Address None) (content.Address None) (found_root seen.one d1 p.root h) (found_root seen.two d2 p.root h) refl refl
  set_one_same m roots r1 r2 d1 d2 (cellset.Point p (Some target)) h =
      put_in_same m (root_among roots p.root) (root_among r1 p.root) (root_among r2 p.root) p.offset (content.Address (address_named roots target)) (content.Address (address_named r1 target)) (content.Address (address_named r2 target))
      (found_root seen.one d1 p.root h.0) (found_root seen.two d2 p.root h.0) (ap content.Address (point_with seen.one d1 target h.1)) (ap content.Address (point_with seen.two d2 target h.1))

  set_all_same : (m : DataModel) (roots r1 r2 : List Root) → RootsWith seen.one roots r1 → RootsWith seen.two roots r2 → (its : List CellSet) → AllByRecursion IsNamed its → S as_it_is (set_all m roots its) (set_all m r1 its) (set_all m r2 its)
  set_all_same m roots r1 r2 d1 d2 [] h = gives_same seen as_it_is tt
  set_all_same m roots r1 r2 d1 d2 (it ∷ its) h = then_same seen _ _ _ _ _ _ (set_one_same m roots r1 r2 d1 d2 it h.0) (λ _. set_all_same m roots r1 r2 d1 d2 its h.1)

  pub sets_same : (m : DataModel) (statics t1 t2 : List Static) (names : List (List ℕ)) (shapes : List Shape) (its : List CellSet) → AllByRecursion IsNamed its
      → RootsWith seen.one (static_roots 0 statics) (static_roots 0 t1) → RootsWith seen.two (static_roots 0 statics) (static_roots 0 t2)
      → (roots r1 r2 : List Root) → RootsWith seen.one roots r1 → RootsWith seen.two roots r2 → S as_it_is (sets m statics names shapes its roots) (sets m t1 names shapes its r1) (sets m t2 names shapes its r2)
  sets_same m statics t1 t2 names shapes its h g1 g2 roots r1 r2 d1 d2 = record {
    alike = λ at s1 s2 m1 m2 h1 h2.
        (set_all_same m (parameter_roots at.scope 0 names shapes (roots ++ static_roots 0 statics)) (parameter_roots s1 0 names shapes (r1 ++ static_roots 0 t1)) (parameter_roots s2 0 names shapes (r2 ++ static_roots 0 t2))
        (parameters_with seen.one h1.bounds 0 names shapes (both_roots seen.one d1 g1)) (parameters_with seen.two h2.bounds 0 names shapes (both_roots seen.two d2 g2)) its h).alike at s1 s2 m1 m2 h1 h2;
    grows = λ at.
        let them = parameter_roots at.scope 0 names shapes (roots ++ static_roots 0 statics) in
        (set_all_same m them (roots_in seen.one them) (roots_in seen.two them) (all_roots seen.one them) (all_roots seen.two them) its h).grows at;
  }

  -- ---- objects are sealed

  -- a further object is sealed in the first other alone
  sealed_alone : (k : ℕ) → flag_at seen.one.statics k ≡ true → (at : At) (scope : List Bound) (memory : Memory) → Stands seen.one seen.cells at scope memory
      → (after : Memory) × (seals (StaticObject k) (beside at scope memory) ≡ Gives tt (beside at scope after)) × Stands seen.one seen.cells at scope after
  sealed_alone k flag at scope memory h = by (block_among scope (StaticObject k)) refl (h.there k flag)
    where
      by : (found : Option ℕ) → block_among scope (StaticObject k) ≡ found → IsFurtherBlock seen.one found
          → (after : Memory) × (seals (StaticObject k) (beside at scope memory) ≡ Gives tt (beside at scope after)) × Stands seen.one seen.cells at scope after
      by None q g = absurd g
      by (Some n) q g = (
        seal_block memory n,
        ap (λ found. sealing (if_living memory found)) q ∙ ap (λ b. sealing (if b then Some n else None)) (mem.further_alive (names_in seen.one) h.blocks n g),
        record { bounds = h.bounds; there = h.there; blocks = mem.further_sealed (names_in seen.one) h.blocks n g },
      )
        where
          sealing : Option ℕ → Answer (Unit {0})
          sealing found = elim (found) as (λ _. Answer (Unit {0})) [ None ↦ absurdity (beside at scope memory) | Some block ↦ Gives tt (record (beside at scope memory) { memory = seal_block memory block }) ]

  alone_first : (b : Bool) (k : ℕ) → flag_at seen.one.statics k ≡ true → (s r1 r2 : Step (Unit {0})) → S as_it_is s r1 r2 → S as_it_is s ((if b then gives tt else seals (StaticObject k)) >> r1) r2
  alone_first true k flag s r1 r2 h = record { alike = λ at s1 s2 m1 m2 h1 h2. h.alike at s1 s2 m1 m2 h1 h2; grows = h.grows }
  alone_first false k flag s r1 r2 h = record {
    alike = λ at s1 s2 m1 m2 h1 h2.
        let it = sealed_alone k flag at s1 m1 h1 in
        subst (λ (m : Answer (Unit {0})). Alike seen as_it_is (s at) (elim (m) as (λ _. Answer (Unit {0})) [ Gives a at1 ↦ r1 at1 | Ends end at1 ↦ Ends end at1 ]) (r2 (beside at s2 m2))) (sym it.1) (h.alike at s1 s2 it.0 m2 it.2 h2);
    grows = h.grows;
  }

  pub seal_all_same : {model : DataModel} {further : List Bool} {its others : List Static} → StaticsWith (names_in seen.one) model further its others → (i j : ℕ)
      → ((n : ℕ) → renumbered seen.one.statics (i + n) ≡ j + renumbered further n) → ((n : ℕ) → flag_at seen.one.statics (j + n) ≡ flag_at further n) → ((n : ℕ) → renumbered seen.two.statics n ≡ n)
      → S as_it_is (seal_statics i its) (seal_statics j others) (seal_statics i its)
  seal_all_same no_statics i j s f t = gives_same seen as_it_is tt
  seal_all_same (a_static {further} {its} {others} it d) i j s f t =
      then_same seen _ _ _ _ _ _
      (if_same seen it.writable _ _ _ _ _ _ (gives_same seen as_it_is tt)
      (subst (λ k. S as_it_is (seals (StaticObject i)) (seals (StaticObject k)) (seals (StaticObject i))) (ap (renumbered seen.one.statics) (none_left i) ∙ s 0 ∙ sym (none_left j))
      (subst (λ k. S as_it_is (seals (StaticObject i)) (seals (StaticObject (renumbered seen.one.statics i))) (seals (StaticObject k))) (t i) (seals_same seen (StaticObject i)))))
      (λ _. seal_all_same d (suc i) (suc j) (λ n. ap (renumbered seen.one.statics) (later i n) ∙ s (suc n) ∙ sym (later j (renumbered further n))) (λ n. ap (flag_at seen.one.statics) (later j n) ∙ f (suc n)) t)
  seal_all_same (a_further_static {further} {its} {others} it name g d) i j s f t =
      alone_first it.writable j (ap (flag_at seen.one.statics) (none_left j) ∙ f 0) (seal_statics i its) (seal_statics (suc j) others) (seal_statics i its)
      (seal_all_same d i (suc j) (λ n. s n ∙ sym (later j (renumbered further n))) (λ n. ap (flag_at seen.one.statics) (later j n) ∙ f (suc n)) t)
