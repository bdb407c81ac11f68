-- Answers of a run and of two others with further blocks, and steps that give such answers in such states.
use Rattle.std.proofs.Common.{◌≡◌, ◌<◌, ℕ, List, [], ◌∷◌, ◌++◌, map, length, Option, Some, None, Bool, true, false, refl, sym, ap, ◌∙◌, subst}
use Rattle.std.proofs.lemmas.List.{map-append}
use Rattle.std.specs.Prelude.{◌&&◌, ◌||◌, nat_eq, if◌then◌else◌, Result, Ok, Err}
use Rattle.std.specs.List.{list_any}
use Rattle.lt_model.specs.declared.cell.Address.{Address}
use Rattle.lt_model.specs.declared.cell.Content.{Content}
use Rattle.lt_model.specs.declared.operator.Ub.{Ub}
use Rattle.lt_model.specs.Memory.{Memory}
use Rattle.lt_model.specs.State.{CellName, Footprint, Valued, Gives, Ends, same_cell, meets, clash, joined, settle}
use Rattle.lt_model.specs.declared.run.End.{End}
use Rattle.lt_model.specs.declared.run.End.TheVariants.{Undefined, Cells}
use Rattle.lt_ir.specs.declared.variable.Variable.{Variable}
use Rattle.lt_ir.specs.declared.variable.Variable.TheVariants.{Parameter, Local, Static as StaticObject}
use Rattle.lt_ir.specs.Running.{Bound, At, Answer, Step, ◌>>=◌, gives, over, defined, block_among}
use Rattle.lt_ir.specs.Evaluation.{grown, settled_in}
use Rattle.lt_object_laws.specs.Renamed.{renumbered}
use Rattle.lt_object_laws.specs.Beside.{address_with, content_with, HasFurtherBlocks}
use Rattle.lt_object_laws.proofs.Numbers.{tests_same, flag_at}
use Rattle.lt_object_laws.proofs.Memory.{result_with}
use Rattle.lt_object_laws.proofs.Blocks.{blocks_in, Grows, more_behind, then_grows, gives_grows, over_grows}

-- a run with further blocks: which of its blocks are further ones, and which of its objects that are there from the start
pub record Other : Type 0 where
  pub blocks : List Bool
  pub statics : List Bool

-- two of them, whose further blocks have as many living cells
pub record Comparison : Type 0 where
  pub one : Other
  pub two : Other
  pub cells : ℕ

-- ---- what is renamed

abbrev pub names_in : Other → ℕ → ℕ
names_in o = renumbered o.blocks

abbrev pub as_it_is : {A : Type 0} → Other → A → A
as_it_is o a = a

abbrev pub block_in : Other → ℕ → ℕ
block_in o n = renumbered o.blocks n

abbrev pub pointer_in : Other → Option Address → Option Address
pointer_in o a = address_with (renumbered o.blocks) a

abbrev pub content_in : Other → Content → Content
content_in o c = content_with (renumbered o.blocks) c

abbrev pub contents_in : Other → List Content → List Content
contents_in o cs = map (content_with (renumbered o.blocks)) cs

abbrev pub name_in : Other → CellName → CellName
name_in o cell = record { block = renumbered o.blocks cell.block; offset = cell.offset }

abbrev pub footprint_in : Other → Footprint → Footprint
footprint_in o p = record { reads = map (name_in o) p.reads; settled = map (name_in o) p.settled; pending = map (name_in o) p.pending }

abbrev pub valued_in : {A : Type 0} → (Other → A → A) → Other → Valued A → Valued A
valued_in with o x = record { value = with o x.value; footprint = footprint_in o x.footprint }

abbrev pub variable_in : Other → Variable → Variable
variable_in o (Parameter k) = Parameter k
variable_in o (Local k) = Local k
variable_in o (StaticObject k) = StaticObject (renumbered o.statics k)

abbrev pub bound_in : Other → Bound → Bound
bound_in o bound = record { variable = variable_in o bound.variable; block = renumbered o.blocks bound.block }

-- a block that is a further one
abbrev pub IsFurtherBlock : Other → Option ℕ → Type 0
IsFurtherBlock o None = ⊥
IsFurtherBlock o (Some block) = flag_at o.blocks block ≡ true

-- each further object that is there from the start is in scope, and its block is a further one
abbrev pub AreThere : Other → List Bound → Type 0
AreThere o scope = (k : ℕ) → flag_at o.statics k ≡ true → IsFurtherBlock o (block_among scope (StaticObject k))

-- the variables in scope, with further objects that are there from the start
pub data HasFurtherBounds (o : Other) : List Bound → List Bound → Type 0 where
  no_bounds : HasFurtherBounds o [] []
  a_bound : {scope other : List Bound} (bound : Bound) → HasFurtherBounds o scope other → HasFurtherBounds o (bound ∷ scope) (bound_in o bound ∷ other)
  a_further_bound : {scope other : List Bound} (k block : ℕ) → ((n : ℕ) → nat_eq k (renumbered o.statics n) ≡ false)
      → HasFurtherBounds o scope other → HasFurtherBounds o scope (record { variable = StaticObject k; block = block } ∷ other)

-- ---- states

abbrev pub beside : At → List Bound → Memory → At
beside at scope memory = record at { scope = scope; memory = memory }

pub record Stands (o : Other) (cells : ℕ) (at : At) (scope : List Bound) (memory : Memory) : Type 0 where
  pub bounds : HasFurtherBounds o at.scope scope
  pub there : AreThere o scope
  pub blocks : HasFurtherBlocks (renumbered o.blocks) o.blocks [] cells at.memory memory

-- ---- answers

module _ (seen : Comparison) where
  -- Both others give the same, renamed, or end in the same way; or there is no room for the cells of both, which are some, at a block that the run
  -- makes.
  pub data Alike {A : Type 0} (with : Other → A → A) : Answer A → Answer A → Answer A → Type 0 where
    all_give : {a : A} {at : At} {s1 s2 : List Bound} {m1 m2 : Memory} → Stands seen.one seen.cells at s1 m1 → Stands seen.two seen.cells at s2 m2
        → Alike with (Gives a at) (Gives (with seen.one a) (beside at s1 m1)) (Gives (with seen.two a) (beside at s2 m2))
    all_end : {end : End} {at : At} {s1 s2 : List Bound} {m1 m2 : Memory} → Stands seen.one seen.cells at s1 m1 → Stands seen.two seen.cells at s2 m2
        → Alike with (Ends end at) (Ends end (beside at s1 m1)) (Ends end (beside at s2 m2))
    no_room : {m : Answer A} {at1 at2 : At} (n : ℕ) → (seen.cells ≡ 0 → ⊥) → length at2.memory ≡ names_in seen.two n → n < blocks_in m → Alike with m (Ends Cells at1) (Ends Cells at2)

  -- three steps that give such answers in such states; the first loses no block
  pub record Same {A : Type 0} (with : Other → A → A) (s r1 r2 : Step A) : Type 0 where
    pub alike : (at : At) (s1 s2 : List Bound) (m1 m2 : Memory) → Stands seen.one seen.cells at s1 m1 → Stands seen.two seen.cells at s2 m2
        → Alike with (s at) (r1 (beside at s1 m1)) (r2 (beside at s2 m2))
    pub grows : Grows s

  -- all go on
  pub alike_then : {A B : Type 0} {with : Other → A → A} {on : Other → B → B} (m n1 n2 : Answer A) (f g1 g2 : A → Step B) → Alike with m n1 n2
      → ((a : A) → Same on (f a) (g1 (with seen.one a)) (g2 (with seen.two a)))
      → Alike on (elim (m) [ Gives x at ↦ f x at | Ends end at ↦ Ends end at ]) (elim (n1) [ Gives x at ↦ g1 x at | Ends end at ↦ Ends end at ]) (elim (n2) [ Gives x at ↦ g2 x at | Ends end at ↦ Ends end at ])
  alike_then m n1 n2 f g1 g2 (all_give {a} {at} {s1} {s2} {m1} {m2} h1 h2) k = (k a).alike at s1 s2 m1 m2 h1 h2
  alike_then m n1 n2 f g1 g2 (all_end h1 h2) k = all_end h1 h2
  alike_then m n1 n2 f g1 g2 (no_room n some e lt) k = no_room n some e (more_behind m f n lt (λ a. (k a).grows))

  pub then_same : {A B : Type 0} {with : Other → A → A} {on : Other → B → B} (s r1 r2 : Step A) (f g1 g2 : A → Step B) → Same with s r1 r2
      → ((a : A) → Same on (f a) (g1 (with seen.one a)) (g2 (with seen.two a))) → Same on (s >>= f) (r1 >>= g1) (r2 >>= g2)
  then_same s r1 r2 f g1 g2 h k = record {
    alike = λ at s1 s2 m1 m2 h1 h2. alike_then (s at) (r1 (beside at s1 m1)) (r2 (beside at s2 m2)) f g1 g2 (h.alike at s1 s2 m1 m2 h1 h2) k;
    grows = then_grows s f h.grows (λ a. (k a).grows);
  }

  pub gives_same : {A : Type 0} (with : Other → A → A) (a : A) → Same with (gives a) (gives (with seen.one a)) (gives (with seen.two a))
  gives_same with a = record { alike = λ at s1 s2 m1 m2 h1 h2. all_give h1 h2; grows = gives_grows a }

  -- the values that the others give are that one renamed
  pub gives_as : {A : Type 0} (with : Other → A → A) (a a1 a2 : A) → a1 ≡ with seen.one a → a2 ≡ with seen.two a → Same with (gives a) (gives a1) (gives a2)
  gives_as with a a1 a2 e1 e2 =
      subst (λ x. Same with (gives a) (gives x) (gives a2)) (sym e1) (subst (λ x. Same with (gives a) (gives (with seen.one a)) (gives x)) (sym e2) (gives_same with a))

  pub over_same : {A : Type 0} (with : Other → A → A) (x : End) → Same with (over x) (over x) (over x)
  over_same {A} with x = record { alike = λ at s1 s2 m1 m2 h1 h2. all_end h1 h2; grows = over_grows A x }

  pub if_same : {A : Type 0} {with : Other → A → A} (b : Bool) (s r1 r2 t u1 u2 : Step A) → Same with s r1 r2 → Same with t u1 u2
      → Same with (if b then s else t) (if b then r1 else u1) (if b then r2 else u2)
  if_same true s r1 r2 t u1 u2 h k = h
  if_same false s r1 r2 t u1 u2 h k = k

  pub defined_same : {A : Type 0} (with : Other → A → A) (x x1 x2 : Result A Ub) → x1 ≡ result_with (with seen.one) x → x2 ≡ result_with (with seen.two) x
      → Same with (defined x) (defined x1) (defined x2)
  defined_same with x x1 x2 e1 e2 =
      subst (λ z. Same with (defined x) (defined z) (defined x2)) (sym e1) (subst (λ z. Same with (defined x) (defined (result_with (with seen.one) x)) (defined z)) (sym e2) (by x))
    where
      by : (x : Result _ Ub) → Same with (defined x) (defined (result_with (with seen.one) x)) (defined (result_with (with seen.two) x))
      by (Ok a) = gives_same with a
      by (Err kind) = over_same with (Undefined kind)

-- ---- footprints

module _ (o : Other) where
  any_of : (cell : CellName) (cells : List CellName) → list_any (same_cell (name_in o cell)) (map (name_in o) cells) ≡ list_any (same_cell cell) cells
  any_of cell [] = refl
  any_of cell (c ∷ cs) =
      ap (λ t. t && nat_eq cell.offset c.offset || list_any (same_cell (name_in o cell)) (map (name_in o) cs)) (tests_same o.blocks cell.block c.block)
      ∙ ap (λ t. nat_eq cell.block c.block && nat_eq cell.offset c.offset || t) (any_of cell cs)

  pub meets_in : (cells others : List CellName) → meets (map (name_in o) cells) (map (name_in o) others) ≡ meets cells others
  meets_in [] others = refl
  meets_in (c ∷ cs) others =
      ap (λ t. t || meets (map (name_in o) cs) (map (name_in o) others)) (any_of c others) ∙ ap (λ t. list_any (same_cell c) others || t) (meets_in cs others)

  meets_both : (a b cells : List CellName) → meets (map (name_in o) a ++ map (name_in o) b) (map (name_in o) cells) ≡ meets (a ++ b) cells
  meets_both a b cells = ap (λ them. meets them (map (name_in o) cells)) (sym (map-append (name_in o) a b)) ∙ meets_in (a ++ b) cells

  pub clash_in : (p q : Footprint) → clash (footprint_in o p) (footprint_in o q) ≡ clash p q
  clash_in p q =
      ap (λ t. t || meets (map (name_in o) q.settled ++ map (name_in o) q.pending) (map (name_in o) p.reads) || meets (map (name_in o) p.settled ++ map (name_in o) p.pending) (map (name_in o) q.settled ++ map (name_in o) q.pending)) (meets_both p.settled p.pending q.reads)
      ∙ ap (λ t. meets (p.settled ++ p.pending) q.reads || t || meets (map (name_in o) p.settled ++ map (name_in o) p.pending) (map (name_in o) q.settled ++ map (name_in o) q.pending)) (meets_both q.settled q.pending p.reads)
      ∙ ap (λ t. meets (p.settled ++ p.pending) q.reads || meets (q.settled ++ q.pending) p.reads || t)
      (ap (λ them. meets (map (name_in o) p.settled ++ map (name_in o) p.pending) them) (sym (map-append (name_in o) q.settled q.pending)) ∙ meets_both p.settled p.pending (q.settled ++ q.pending))

  pub joined_in : (p q : Footprint) → joined (footprint_in o p) (footprint_in o q) ≡ footprint_in o (joined p q)
  joined_in p q =
      ap (λ them. record { reads = them; settled = map (name_in o) p.settled ++ map (name_in o) q.settled; pending = map (name_in o) p.pending ++ map (name_in o) q.pending }) (sym (map-append (name_in o) p.reads q.reads))
      ∙ ap (λ them. record { reads = map (name_in o) (p.reads ++ q.reads); settled = them; pending = map (name_in o) p.pending ++ map (name_in o) q.pending }) (sym (map-append (name_in o) p.settled q.settled))
      ∙ ap (λ them. record { reads = map (name_in o) (p.reads ++ q.reads); settled = map (name_in o) (p.settled ++ q.settled); pending = them }) (sym (map-append (name_in o) p.pending q.pending))

  settle_in : (p : Footprint) → settle (footprint_in o p) ≡ footprint_in o (settle p)
  settle_in p = ap (λ them. record { reads = map (name_in o) p.reads; settled = them; pending = [] }) (sym (map-append (name_in o) p.settled p.pending))

  pub grown_in : (k : Bool) (p q : Footprint) → grown k (footprint_in o p) (footprint_in o q) ≡ footprint_in o (grown k p q)
  grown_in true p q = joined_in p q
  grown_in false p q = refl

  pub settled_as : (k : Bool) (p : Footprint) → settled_in k (footprint_in o p) ≡ footprint_in o (settled_in k p)
  settled_as true p = settle_in p
  settled_as false p = refl

  -- a footprint that grows behind one that is settled
  pub behind_settled : (k : Bool) (p q : Footprint) → grown k (settled_in k (footprint_in o p)) (footprint_in o q) ≡ footprint_in o (grown k (settled_in k p) q)
  behind_settled k p q = ap (λ f. grown k f (footprint_in o q)) (settled_as k p) ∙ grown_in k (settled_in k p) q

  -- one that grows by a settled one
  pub by_settled : (k : Bool) (p q : Footprint) → grown k (footprint_in o p) (settled_in k (footprint_in o q)) ≡ footprint_in o (grown k p (settled_in k q))
  by_settled k p q = ap (λ f. grown k (footprint_in o p) f) (settled_as k q) ∙ grown_in k p (settled_in k q)
