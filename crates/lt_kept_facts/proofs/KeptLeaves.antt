-- Steps that go over no nodes leave the same known in both texts.
use Rattle.std.proofs.Common.{◌≡◌, refl, sym, ap, ◌∙◌, subst, inr, ℕ, ℤ, pos, Bool, true, false, if◌then◌else◌, List, [], ◌++◌, Option, Some, None, arith}
use Rattle.std.proofs.lemmas.List.{append-nil}
use Rattle.std.specs.Prelude.{◌+ℤ◌, map, option_map, unwrap_or}
use Rattle.lt_tree.specs.Nodes.{Node}
use Rattle.lt_tree.specs.Typing.Types.{CType}
use Rattle.lt_tree.specs.Typing.Constants.{TypedConstant, constant_of, address, varying, is_form}
use Rattle.lt_tree.specs.Typing.Extents.{Member}
use Rattle.lt_tree.specs.Typing.Rules.{Rule, least}
use Rattle.lt_tree.specs.Typing.Entities.{Known, Fact, Frame, Tagged, a_struct, an_enum, an_enumerator, Entity, an_object, a_function, a_typedef, tag_here, meaning_of}
use Rattle.lt_tree.specs.Typing.Steps.{Outcome, Goes, Breaks, goes_on, left, marked_again, unless_broken, binds, gives, ◌>>◌}
use Rattle.lt_tree.specs.Typing.Expressions.{Typed, Use}
use Rattle.lt_tree.specs.Typing.Operations.{judge_name, judge_constant, constancy_of_object, lives_from_the_start, function_named}
use Rattle.lt_tree.specs.Typing.NodeEnds.{text_at, end_of_enumerator, without_parameters}
use Rattle.lt_tree.specs.Typing.Specifying.{OpenStruct, open_tagged, open_struct, is_complete_struct, with_members, close_struct, open_enum, close_enum, struct_tagged, enumerator_faults}
use Rattle.lt_tree.specs.Typing.Declarators.{Parameters, Declares, binds_parameter}
use Rattle.lt_object_laws.specs.Renamed.{renumbered}
use Rattle.lt_mark_typing.specs.Renumbered.{entity_with, frames_with, parameters_with}
use Rattle.lt_mark_typing.specs.Further.{Extends, Agrees}
use Rattle.lt_mark_typing.specs.Beside.{IsBeside, Follows, goes, breaks}
use Rattle.lt_mark_typing.proofs.Numbers.{agrees_before, agrees_so_far}
use Rattle.lt_mark_typing.proofs.Going.{with_others}
use Rattle.lt_mark_typing.proofs.Names.{meaning_known}
use Rattle.lt_mark_typing.proofs.ObjectsThere.{type_known}
use Rattle.lt_mark_typing.proofs.Steps.{SameDeclares, declared_as, frames_beside}
use Rattle.lt_mark_typing.proofs.Declarators as d
use Rattle.lt_mark_typing.proofs.Tags as t
use Rattle.lt_kept_facts.proofs.SeenAlike.{SeenAlike, alike_itself}
use Rattle.lt_kept_facts.proofs.SeenOperators.{alike_places}
use Rattle.lt_kept_facts.proofs.KeptSteps.{Same, Part, Keeps, went, first_broke, second_broke, Piece, done, moved, joined, after, so}

-- what is declared has the same name and type
abbrev pub DeclaresSame : Declares → Declares → Type 0
DeclaresSame a b = b ≡ record a { node = b.node; parameters = b.parameters }

-- ---- objects

object_none : (k : Known) (n : ℕ) → is_form (constancy_of_object k n) ≡ false
object_none k n = by (lives_from_the_start k n)
  where
    by : (b : Bool) → is_form (if b then address n 0 else varying) ≡ false
    by true = refl
    by false = refl

-- ---- steps that neither go over nodes nor note facts

-- behind it the next node has the same number, and as much is noted
abbrev pub Stays : {A : Type 0} → Known → Outcome A → Type 0
Stays known (Goes a behind) = (behind.next ≡ known.next) × (behind.facts ≡ known.facts)
Stays known (Breaks rule node) = Unit {0}

pub still_part : (known behind : Known) → (behind.next ≡ known.next) × (behind.facts ≡ known.facts) → Part known.next known.facts [] behind
still_part known behind s = record { more = []; counts = omega (arith, s.0); noted = s.1 ∙ sym (append-nil known.facts); within = tt; ends = tt }

struct_stays : (tag : List ℕ) (found : Option Tagged) (known : Known) → Stays known (struct_tagged tag found known)
struct_stays tag None known = (refl, refl)
struct_stays tag (Some (a_struct n)) known = (refl, refl)
struct_stays tag (Some (an_enum is_complete)) known = (refl, refl)

opened_stays : (tag : Option (List ℕ)) (known : Known) → Stays known (open_struct tag known)
opened_stays None known = (refl, refl)
opened_stays (Some tag) known = by (tag_here tag known)
  where
    by : (found : Option Tagged) → Stays known (open_tagged tag found known)
    by None = (refl, refl)
    by (Some (a_struct n)) = (refl, refl)
    by (Some (an_enum is_complete)) = (refl, refl)

closed_stays : (opened : OpenStruct) (list : List Member) (known : Known) → Stays known (close_struct opened list known)
closed_stays opened list known = by (is_complete_struct known.structs opened.number)
  where
    by : (b : Bool)
        → (((if b then (λ (known : Known). known) else with_members opened.number list) known).next ≡ known.next) × (((if b then (λ (known : Known). known) else with_members opened.number list) known).facts ≡ known.facts)
    by true = (refl, refl)
    by false = (refl, refl)

enum_stays : (tag : Option (List ℕ)) (known : Known) → Stays known (open_enum tag known)
enum_stays None known = (refl, refl)
enum_stays (Some tag) known = (refl, refl)

enum_closed_stays : (tag : Option (List ℕ)) (faults : List Rule) (known : Known) → Stays known (close_enum tag faults known)
enum_closed_stays None faults known = (refl, refl)
enum_closed_stays (Some tag) faults known = (refl, refl)

enumerator_stays : (n : ℕ) (name : List ℕ) (z : Option ℤ) (known : Known) → Stays known (end_of_enumerator n name z known)
enumerator_stays n name z known = by (least (enumerator_faults known name z))
  where
    by : (rule : Option Rule) → Stays known (goes_on (unless_broken rule n known) (λ u. binds name (an_enumerator (unwrap_or z (pos 0))) >> gives (unwrap_or z (pos 0) +ℤ pos 1)))
    by None = (refl, refl)
    by (Some rule) = tt

parameter_stays : (is_definition is_register : Bool) (n : ℕ) (name : Option (List ℕ)) (t : CType) (known : Known) → Stays known (binds_parameter is_definition is_register n name t known)
parameter_stays is_definition is_register n None t known = (refl, refl)
parameter_stays is_definition is_register n (Some name) t known = (refl, refl)

-- ---- both texts

beside_unmarked : {new : ℕ → Bool} {ids : List ℕ} {further : List Bool} {k l : Known} (was other : Bool) → other ≡ was → IsBeside new ids further k l
    → IsBeside new ids further (record k { is_unmarked = was }) (record l { is_unmarked = other })
beside_unmarked {k = k} {l} was other e b = record {
  same = λ r a. ap (λ (it : Known). record it { is_unmarked = other }) (b.same r a) ∙ ap (λ u. with_others r (record k { is_unmarked = u }) l.next l.objects l.functions l.labels l.facts) e;
  objects = b.objects;
  functions = b.functions;
  labels = b.labels;
}

module _ {F G : List Fact} {new : ℕ → Bool} where
  -- what comes is what is known to come
  pub also : {A B : Type 0} {ids : List ℕ} {further : List Bool} {R : A → B → Type 0} {T : (ℕ → ℕ) → A → B → Type 0} {k j : ℕ} {facts others : List Fact} {xs ys : List Node} {o : Outcome A} {p : Outcome B}
      → Follows new ids further T o p → Keeps F G new ids further R k facts xs j others ys o p → Keeps F G new ids further (λ a b. R a b × (r : ℕ → ℕ) × T r a b) k facts xs j others ys o p
  also (goes behind e t s) (went g r b p q h) = went e (r, renumbered behind, t (renumbered behind) (agrees_so_far behind)) s p q h
  also breaks d = first_broke

  at_by : {A B C D : Type 0} {used last : List ℕ} {further : List Bool} {R : A → B → Type 0} {T : (ℕ → ℕ) → A → B → Type 0} {Q : C → D → Type 0} {k j : ℕ} {facts others : List Fact} {xs ys xs' ys' : List Node} {f : A → Known → Outcome C} {g : B → Known → Outcome D}
      (o o' : Outcome A) (p p' : Outcome B) → o ≡ o' → p ≡ p' → Follows new used further T o' p' → Keeps F G new used further R k facts xs j others ys o' p'
      → ((a : A) (b : B) (m n : Known) → o ≡ Goes a m → p ≡ Goes b n → R a b → (behind : List Bool) → Extends further behind → ((r : ℕ → ℕ) → Agrees r behind → T r a b) → IsBeside new used behind m n
      → Keeps F G new last behind Q m.next m.facts xs' n.next n.facts ys' (f a m) (g b n))
      → Keeps F G new last further Q k facts (xs ++ xs') j others (ys ++ ys') (goes_on o' f) (goes_on p' g)
  at_by o (Goes a m) p (Goes b n) e i (goes behind v t s) (went w r there p' q' h) c = moved v p' q' h (c a b m n e i r behind v t s)
  at_by o (Breaks rule node) p p' e i d w c = first_broke
  at_by o o' p (Breaks rule node) e i d w c = second_broke

  -- a piece, and one behind it, with what is known to come
  pub joined_at : {A B C D : Type 0} {used last : List ℕ} {further : List Bool} {R : A → B → Type 0} {T : (ℕ → ℕ) → A → B → Type 0} {Q : C → D → Type 0} {k j : ℕ} {facts others : List Fact} {xs ys xs' ys' : List Node} {o : Outcome A} {p : Outcome B} {f : A → Known → Outcome C} {g : B → Known → Outcome D}
      → Follows new used further T o p → Keeps F G new used further R k facts xs j others ys o p
      → ((a : A) (b : B) (m n : Known) → o ≡ Goes a m → p ≡ Goes b n → R a b → (behind : List Bool) → Extends further behind → ((r : ℕ → ℕ) → Agrees r behind → T r a b) → IsBeside new used behind m n
      → Keeps F G new last behind Q m.next m.facts xs' n.next n.facts ys' (f a m) (g b n))
      → Keeps F G new last further Q k facts (xs ++ xs') j others (ys ++ ys') (goes_on o f) (goes_on p g)
  joined_at {o = o} {p = p} d w c = at_by o o p p refl refl d w c

  pub joined_same : {A C D : Type 0} {ids after : List ℕ} {further : List Bool} {Q : C → D → Type 0} {k j : ℕ} {facts others : List Fact} {xs ys xs' ys' : List Node} {o p : Outcome A} {f : A → Known → Outcome C} {g : A → Known → Outcome D}
      → Keeps F G new ids further Same k facts xs j others ys o p
      → ((a : A) (m n : Known) → o ≡ Goes a m → (behind : List Bool) → IsBeside new ids behind m n → Keeps F G new after behind Q m.next m.facts xs' n.next n.facts ys' (f a m) (g a n))
      → Keeps F G new after further Q k facts (xs ++ xs') j others (ys ++ ys') (goes_on o f) (goes_on p g)
  joined_same {after = last} {Q = Q} {xs' = xs'} {ys' = ys'} {f = f} {g = g} d t =
      joined d (λ a b m n e i r behind s. subst (λ it. Keeps F G new last behind Q m.next m.facts xs' n.next n.facts ys' (f a m) (g it n)) (sym r) (t a m n e behind s))

  pub after_same : {A C D : Type 0} {ids behind : List ℕ} {further : List Bool} {Q : C → D → Type 0} {k j : ℕ} {facts others : List Fact} {xs ys : List Node} {o p : Outcome A} {f : A → Known → Outcome C} {g : A → Known → Outcome D}
      → Keeps F G new ids further Same k facts xs j others ys o p
      → ((a : A) (m n : Known) → o ≡ Goes a m → (flags : List Bool) → IsBeside new ids flags m n → Keeps F G new behind flags Q m.next m.facts [] n.next n.facts [] (f a m) (g a n))
      → Keeps F G new behind further Q k facts xs j others ys (goes_on o f) (goes_on p g)
  after_same {behind = last} {Q = Q} {f = f} {g = g} d t = after d (λ a b m n e i r flags s. subst (λ it. Keeps F G new last flags Q m.next m.facts [] n.next n.facts [] (f a m) (g it n)) (sym r) (t a m n e flags s))

  pub joined_declares : {C D : Type 0} {ids after : List ℕ} {further : List Bool} {Q : C → D → Type 0} {k j : ℕ} {facts others : List Fact} {xs ys xs' ys' : List Node} {o p : Outcome Declares} {f : Declares → Known → Outcome C} (g : Declares → Known → Outcome D)
      → Keeps F G new ids further DeclaresSame k facts xs j others ys o p
      → ((a : Declares) (i : ℕ) (parameters : Option Parameters) (m n : Known) → o ≡ Goes a m → (behind : List Bool) → IsBeside new ids behind m n
      → Keeps F G new after behind Q m.next m.facts xs' n.next n.facts ys' (f a m) (g (record a { node = i; parameters = parameters }) n))
      → Keeps F G new after further Q k facts (xs ++ xs') j others (ys ++ ys') (goes_on o f) (goes_on p g)
  joined_declares {after = last} {Q = Q} {xs' = xs'} {ys' = ys'} {f = f} g d t =
      joined d (λ a b m n e i r behind s. subst (λ it. Keeps F G new last behind Q m.next m.facts xs' n.next n.facts ys' (f a m) (g it n)) (sym r) (t a b.node b.parameters m n e behind s))

  -- with the parameters that are declared
  pub joined_declares_at : {C D : Type 0} {ids after : List ℕ} {further : List Bool} {R : Declares → Declares → Type 0} {Q : C → D → Type 0} {k j : ℕ} {facts others : List Fact} {xs ys xs' ys' : List Node} {o p : Outcome Declares} {f : Declares → Known → Outcome C} (g : Declares → Known → Outcome D)
      → Follows new ids further SameDeclares o p → Keeps F G new ids further R k facts xs j others ys o p
      → ((a : Declares) (i : ℕ) (parameters : Option Parameters) (m n : Known) → o ≡ Goes a m → (behind : List Bool) → ((r : ℕ → ℕ) → Agrees r behind → parameters ≡ option_map (parameters_with r) a.parameters) → IsBeside new ids behind m n
      → Keeps F G new after behind Q m.next m.facts xs' n.next n.facts ys' (f a m) (g (record a { node = i; parameters = parameters }) n))
      → Keeps F G new after further Q k facts (xs ++ xs') j others (ys ++ ys') (goes_on o f) (goes_on p g)
  joined_declares_at {after = last} {Q = Q} {xs' = xs'} {ys' = ys'} {f = f} g d w t =
      joined_at d w (λ a b m n e i r behind v s there. subst (λ it. Keeps F G new last behind Q m.next m.facts xs' n.next n.facts ys' (f a m) (g it n)) (sym (declared_as a b (renumbered behind) (s (renumbered behind) (agrees_so_far behind))))
      (t a b.node b.parameters m n e behind (λ q u. ap (λ (it : Declares). it.parameters) (s q u)) there))

  pub unmarked : {A B : Type 0} {ids : List ℕ} {further : List Bool} {R : A → B → Type 0} {k j : ℕ} {facts others : List Fact} {xs ys : List Node} {o : Outcome A} {p : Outcome B} (was other : Bool) → other ≡ was
      → Keeps F G new ids further R k facts xs j others ys o p → Keeps F G new ids further R k facts xs j others ys (marked_again was o) (marked_again other p)
  unmarked was other e (went g r b p q h) = went g r (beside_unmarked was other e b) (record { more = p.more; counts = p.counts; noted = p.noted; within = p.within; ends = p.ends })
      (record { more = q.more; counts = q.counts; noted = q.noted; within = q.within; ends = q.ends }) h
  unmarked was other e first_broke = first_broke
  unmarked was other e second_broke = second_broke

  pub scoped : {A B : Type 0} {ids : List ℕ} {further : List Bool} {R : A → B → Type 0} {k j : ℕ} {facts others : List Fact} {xs ys : List Node} {o : Outcome A} {p : Outcome B} (frames inner : List Frame)
      → ((r : ℕ → ℕ) → Agrees r further → inner ≡ frames_with r frames) → Keeps F G new ids further R k facts xs j others ys o p
      → Keeps F G new ids further R k facts xs j others ys (goes_on (left frames o) (λ r known. Goes r.0 known)) (goes_on (left inner p) (λ r known. Goes r.0 known))
  scoped frames inner e (went g r b p q h) = went g r (frames_beside frames inner (λ n a. e n (agrees_before g a)) b) (record { more = p.more; counts = p.counts; noted = p.noted; within = p.within; ends = p.ends })
      (record { more = q.more; counts = q.counts; noted = q.noted; within = q.within; ends = q.ends }) h
  scoped frames inner e first_broke = first_broke
  scoped frames inner e second_broke = second_broke

  module _ {ids : List ℕ} {further : List Bool} where
    pub still : {A B : Type 0} {T : (ℕ → ℕ) → A → B → Type 0} (k l : Known) {o : Outcome A} {p : Outcome B} → Follows new ids further T o p → Stays k o → Stays l p
        → Piece F G new ids further (λ a b. (r : ℕ → ℕ) × T r a b) k [] l [] o p
    still k l (goes {known = m} {other = n} behind e t b) s u = went e (renumbered behind, t (renumbered behind) (agrees_so_far behind)) b (still_part k m s) (still_part l n u) (λ f g. refl)
    still k l breaks s u = first_broke

    pub still_same : {A : Type 0} (k l : Known) {o p : Outcome A} → Follows new ids further (λ r (a b : A). b ≡ a) o p → Stays k o → Stays l p → Piece F G new ids further Same k [] l [] o p
    still_same k l d s u = so (λ a b r. r.1) (still k l d s u)

    -- ---- structs and enums

    pub struct_found : (tag : List ℕ) (found other : Option Tagged) {k l : Known} → other ≡ found → IsBeside new ids further k l → Piece F G new ids further Same k [] l [] (struct_tagged tag found k) (struct_tagged tag other l)
    struct_found tag found other {k} {l} e b = subst (λ it. Piece F G new ids further Same k [] l [] (struct_tagged tag found k) (struct_tagged tag it l)) (sym e)
        (still_same k l (t.struct_found tag found b) (struct_stays tag found k) (struct_stays tag found l))

    pub opened_struct : (tag : Option (List ℕ)) {k l : Known} → IsBeside new ids further k l → Piece F G new ids further Same k [] l [] (open_struct tag k) (open_struct tag l)
    opened_struct tag {k} {l} b = still_same k l (t.opened_struct tag b) (opened_stays tag k) (opened_stays tag l)

    pub closed_struct : (opened : OpenStruct) (list : List Member) {k l : Known} → IsBeside new ids further k l → Piece F G new ids further Same k [] l [] (close_struct opened list k) (close_struct opened list l)
    closed_struct opened list {k} {l} b = still_same k l (t.closed_struct opened list b) (closed_stays opened list k) (closed_stays opened list l)

    pub opened_enum : (tag : Option (List ℕ)) {k l : Known} → IsBeside new ids further k l → Piece F G new ids further Same k [] l [] (open_enum tag k) (open_enum tag l)
    opened_enum tag {k} {l} b = still_same k l (t.opened_enum tag b) (enum_stays tag k) (enum_stays tag l)

    pub closed_enum : (tag : Option (List ℕ)) (faults : List Rule) {k l : Known} → IsBeside new ids further k l → Piece F G new ids further Same k [] l [] (close_enum tag faults k) (close_enum tag faults l)
    closed_enum tag faults {k} {l} b = still_same k l (t.closed_enum tag faults b) (enum_closed_stays tag faults k) (enum_closed_stays tag faults l)

    pub enumerator_ended : (n m : ℕ) (name : List ℕ) (z : Option ℤ) {k l : Known} → IsBeside new ids further k l → Piece F G new ids further Same k [] l [] (end_of_enumerator n name z k) (end_of_enumerator m name z l)
    enumerator_ended n m name z {k} {l} b = still_same k l (t.enumerator_ended n m name z b) (enumerator_stays n name z k) (enumerator_stays m name z l)

    -- ---- parameters

    pub parameter_bound : (is_definition is_register : Bool) (n m : ℕ) (name : Option (List ℕ)) (t : CType) {k l : Known} → IsBeside new ids further k l
        → Piece F G new ids further (λ (x y : List ℕ). (r : ℕ → ℕ) × (y ≡ map r x)) k [] l [] (binds_parameter is_definition is_register n name t k) (binds_parameter is_definition is_register m name t l)
    parameter_bound is_definition is_register n m name t {k} {l} b = still k l (d.parameter_bound is_definition is_register n m name t b) (parameter_stays is_definition is_register n name t k) (parameter_stays is_definition is_register m name t l)

    pub no_more_parameters : {k l : Known} → IsBeside new ids further k l → Piece F G new ids further (λ (x y : Parameters). Unit {0}) k [] l [] (without_parameters k) (without_parameters l)
    no_more_parameters b = done {R = λ (x y : Parameters). Unit {0}} tt b

-- ---- names and constants

module _ {new : ℕ → Bool} {ids : List ℕ} {further : List Bool} {k l : Known} (b : IsBeside new ids further k l) where
  other_is : l ≡ with_others (renumbered further) k l.next l.objects l.functions l.labels l.facts
  other_is = b.same (renumbered further) (agrees_so_far further)

  named_seen : (role : Use) (w : List ℕ) (found : Option Entity) → SeenAlike (judge_name role w found k).typed (judge_name role w (option_map (entity_with (renumbered further)) found) l).typed
  unfolding judge_name
  named_seen role w None = alike_itself (judge_name role w None k).typed tt
  named_seen role w (Some (a_typedef t)) = alike_itself (judge_name role w (Some (a_typedef t)) k).typed tt
  named_seen role w (Some (an_enumerator z)) = alike_itself (judge_name role w (Some (an_enumerator z)) k).typed tt
  named_seen role w (Some a_function) = subst (λ (it : Typed). SeenAlike (function_named k w) it) (sym (ap (λ (it : Known). function_named it w) other_is)) (alike_itself (function_named k w) tt)
  named_seen role w (Some (an_object n is_register)) =
      let m : ℕ = renumbered further n in
      record {
        kind = (alike_places (constancy_of_object k n) (constancy_of_object l m) (type_known b (renumbered further) (agrees_so_far further) n) (object_none k n) (object_none l m)).kind;
        erased = inr (object_none k n, object_none l m);
        integer = tt;
        address = object_none k n;
      }

  pub name_seen : (role : Use) (w : List ℕ) → SeenAlike (judge_name role w (meaning_of w k) k).typed (judge_name role w (meaning_of w l) l).typed
  name_seen role w = subst (λ found. SeenAlike (judge_name role w (meaning_of w k) k).typed (judge_name role w found l).typed) (sym (meaning_known b (renumbered further) (agrees_so_far further) w)) (named_seen role w (meaning_of w k))

  constant_itself : (found : Option TypedConstant) → SeenAlike (judge_constant found).typed (judge_constant found).typed
  unfolding judge_constant
  constant_itself None = alike_itself (judge_constant None).typed tt
  constant_itself (Some it) = alike_itself (judge_constant (Some it)).typed tt

  pub constant_seen : (text : List ℕ) → SeenAlike (judge_constant (constant_of k.model text)).typed (judge_constant (constant_of l.model text)).typed
  constant_seen text = subst (λ m. SeenAlike (judge_constant (constant_of k.model text)).typed (judge_constant (constant_of m text)).typed) (sym (ap (λ (it : Known). it.model) other_is)) (constant_itself (constant_of k.model text))

pub text_seen : (k l : Known) (bytes : List ℕ) (n m : ℕ) → SeenAlike (text_at k bytes n).typed (text_at l bytes m).typed
unfolding text_at
text_seen k l bytes n m = alike_places (address n 0) (address m 0) refl refl refl
