-- How what is known changes, as declarations are gone over.
use Rattle.std.proofs.Common.{◌≡◌, ℕ, zero, suc, Bool, true, false, cond, List, [], ◌∷◌, ◌++◌, map, drop, Option, Some, None, Ok, refl, sym, ap, subst, ◌∙◌}
use Rattle.std.specs.Prelude.{is_some, option_map, slice_get, slice_set}
use Rattle.std.specs.Str.{bytes_eq}
use Rattle.std.proofs.lemmas.Option.{slice_get-map}
use Rattle.lt_model.specs.Layout.{then_some}
use Rattle.lt_tree.specs.declared.typed.types.TypeId.{TypeId}
use Rattle.lt_tree.specs.declared.typed.entity.Object.{Object}
use Rattle.lt_tree.specs.declared.typed.entity.Declared.{Declared}
use Rattle.lt_tree.specs.declared.typed.entity.Function.{Function}
use Rattle.lt_tree.specs.declared.typed.statement.Start.{Start}
use Rattle.lt_tree.specs.Typing.Types.{CType}
use Rattle.lt_tree.specs.Typing.TypeRows.{type_in, Continues}
use Rattle.lt_tree.specs.Typing.StatementView.{start_of}
use Rattle.lt_tree.specs.Typing.EntityView.{object_of, declared_of, function_of}
use Rattle.lt_tree.specs.Typing.Entities as k
use Rattle.lt_tree.specs.Typing.Entities.{Known, declared_among}
use Rattle.lt_tree.specs.Typing.Steps.{Goes, changes, gives}
use Rattle.lt_tree.specs.Typing.Declaring as typing
use Rattle.lt_env.specs.Symbols.{declared_at, with_declared, with_start}
use Rattle.lt_env.specs.declared.walker.Walker.{Walker}
use Rattle.lt_env.specs.Going.{Gives, types_in, known_of, done}
use Rattle.lt_env.proofs.Goings.{as_long}
use Rattle.lt_type.proofs.Turns.{shown_more}

-- something that is known was changed
pub changed : {s0 s1 : Walker} {u : Unit {0}} (f : List CType → Known → Known) → types_in s1 ≡ types_in s0 → s1.names ≡ s0.names
    → ((types : List CType) → known_of types s1 ≡ f types (known_of types s0)) → Gives done s0 s1 (Ok u) (λ types. changes (f types))
changed {s0 = s0} {s1 = s1} {u = u} f e n known = record {
  grows = subst (λ (t : List CType). Continues (types_in s0) t) (sym e) (as_long (types_in s0));
  keeps = (ap (λ v. drop 1 v.names) n, ap (λ v. drop 1 v.tags) n);
  ends = record { at = λ types h. ap (λ k. Goes tt k) (sym (known types)) };
}

-- ---- functions that are declared

among_some : (w : List ℕ) (types others : List CType) (list : List Declared) → is_some (declared_among w (map (declared_of types) list)) ≡ is_some (declared_among w (map (declared_of others) list))
among_some w types others [] = refl
among_some w types others (d ∷ ds) =
    let P : Bool → Type 0 = λ same.
    is_some (cond same (Some (type_in types d.ty)) (declared_among w (map (declared_of types) ds)))
    ≡ is_some (cond same (Some (type_in others d.ty)) (declared_among w (map (declared_of others) ds))) in
    elim (bytes_eq d.name w) as P [ true ↦ refl | false ↦ among_some w types others ds ]

declared_by : (types : List CType) (name : List ℕ) (ty : TypeId) (list : List Declared) (known : Known) (a b : Option CType) → is_some a ≡ is_some b → known.declared ≡ map (declared_of types) list
    → record known { declared = map (declared_of types) (elim a [ None ↦ list ++ record { name = name; ty = ty } ∷ [] | Some t ↦ list ]) }
    ≡ elim b [ None ↦ record known { declared = known.declared ++ record { name = name; type = type_in types ty } ∷ [] } | Some t ↦ known ]
declared_by types name ty list known None None e h =
    ap (λ l. record known { declared = l }) (shown_more (declared_of types) list (record { name = name; ty = ty }) ∙ ap (λ l. l ++ record { name = name; type = type_in types ty } ∷ []) (sym h))
declared_by types name ty list known None (Some t) e h = absurd cc
declared_by types name ty list known (Some t) None e h = absurd cc
declared_by types name ty list known (Some t) (Some u) e h = ap (λ l. record known { declared = l }) (sym h)

pub one_declared : (types : List CType) (s : Walker) (name : List ℕ) (ty : TypeId) (new : List Declared) → new ≡ with_declared name ty s.declared
    → known_of types (record s { declared = new }) ≡ typing.with_declared name (type_in types ty) (known_of types s)
one_declared types s name ty new is =
    ap (λ l. record (known_of types s) { declared = map (declared_of types) l }) is
    ∙ declared_by types name ty s.declared (known_of types s) _ _ (among_some name [] types s.declared) refl

-- ---- objects

set_shown : {X A : Type 0} (f : X → A) (list : List X) (n : ℕ) (x : X) → map f (slice_set list n x) ≡ slice_set (map f list) n (f x)
set_shown f [] n x = refl
set_shown f (y ∷ list) zero x = refl
set_shown f (y ∷ list) (suc n) x = ap (λ l. f y ∷ l) (set_shown f list n x)

started_by : (types : List CType) (list : List Object) (n : ℕ) (ty : TypeId) (start : Option Start) (known : Known) (a : Option Object) → known.objects ≡ map (object_of types) list
    → record known { objects = map (object_of types) (elim a [ None ↦ list | Some object ↦ slice_set list n (record object { ty = ty; start = start }) ]) }
    ≡ elim (option_map (object_of types) a) [ None ↦ known | Some object ↦ record known { objects = slice_set known.objects n (record object { type = type_in types ty; start = option_map (start_of types) start }) } ]
started_by types list n ty start known None h = ap (λ l. record known { objects = l }) (sym h)
started_by types list n ty start known (Some object) h =
    ap (λ l. record known { objects = l }) (set_shown (object_of types) list n (record object { ty = ty; start = start }) ∙ ap (λ l. slice_set l n (object_of types (record object { ty = ty; start = start }))) (sym h))

pub one_started : (types : List CType) (s : Walker) (n : ℕ) (ty : TypeId) (start : Option Start) (new : List Object) → new ≡ with_start n ty start s.objects
    → known_of types (record s { objects = new }) ≡ typing.with_start n (option_map (start_of types) start) (type_in types ty) (known_of types s)
one_started types s n ty start new is =
    ap (λ l. record (known_of types s) { objects = map (object_of types) l }) is
    ∙ started_by types s.objects n ty start (known_of types s) (slice_get s.objects n) refl
    ∙ ap
    (λ a. elim a [ None ↦ known_of types s | Some object ↦ record (known_of types s) { objects = slice_set (map (object_of types) s.objects) n (record object { type = type_in types ty; start = option_map (start_of types) start }) } ])
    (sym (slice_get-map (object_of types) s.objects n))

type_shown : (types : List CType) (a : Option Object) → then_some (option_map (object_of types) a) (λ object. Some object.type) ≡ option_map (type_in types) (then_some a (λ object. Some object.ty))
type_shown types None = refl
type_shown types (Some object) = refl

pub object_type : (types : List CType) (list : List Object) (n : ℕ) (r : Option TypeId) → r ≡ then_some (slice_get list n) (λ object. Some object.ty)
    → then_some (slice_get (map (object_of types) list) n) (λ object. Some object.type) ≡ option_map (type_in types) r
object_type types list n r is =
    ap (λ (a : Option k.Object). then_some a (λ object. Some object.type)) (slice_get-map (object_of types) list n)
    ∙ type_shown types (slice_get list n)
    ∙ ap (option_map (type_in types)) (sym is)

-- ---- functions with bodies

pub one_function : (types : List CType) (s : Walker) (function : Function) (new : List Function) → new ≡ s.functions ++ function ∷ []
    → known_of types (record s { functions = new }) ≡ record (known_of types s) { functions = map (function_of types) s.functions ++ function_of types function ∷ [] }
one_function types s function new is = ap (λ l. record (known_of types s) { functions = l }) (ap (map (function_of types)) is ∙ shown_more (function_of types) s.functions function)

-- ---- objects that are linked

shared_by : (life : k.Life) (node : ℕ) (name : List ℕ) (t : CType) (b : Bool) (found : Option ℕ) (n : ℕ) (known : Known) → k.is_linked life ≡ b → cond b found None ≡ Some n → gives n known ≡ typing.object_for life node name t found known
shared_by life node name t true None n known e f = absurd cc
shared_by life node name t true (Some m) n known e f = ap (λ i. gives i known) (cc) ∙ sym (ap (λ (b : Bool). cond b (gives m) (typing.new_object life node name t) known) e)
shared_by life node name t false found n known e f = absurd cc

pub shared_object : (life : k.Life) (node : ℕ) (name : List ℕ) (t : CType) (found linked shared : Option ℕ) (n : ℕ) (known : Known) → found ≡ linked → shared ≡ cond (k.is_linked life) found None → shared ≡ Some n
    → gives n known ≡ typing.object_for life node name t linked known
shared_object life node name t found linked shared n known e f g =
    shared_by life node name t (k.is_linked life) found n known refl (sym f ∙ g) ∙ ap (λ o. typing.object_for life node name t o known) e

none_by : (life : k.Life) (node : ℕ) (name : List ℕ) (t : CType) (b : Bool) (found : Option ℕ) (known : Known) → k.is_linked life ≡ b → cond b found None ≡ None → typing.new_object life node name t known ≡ typing.object_for life node name t found known
none_by life node name t b None known e f = refl
none_by life node name t true (Some m) known e f = absurd cc
none_by life node name t false (Some m) known e f = sym (ap (λ (b : Bool). cond b (gives m) (typing.new_object life node name t) known) e)

pub no_shared_object : (life : k.Life) (node : ℕ) (name : List ℕ) (t : CType) (found linked shared : Option ℕ) (known : Known) → found ≡ linked → shared ≡ cond (k.is_linked life) found None → shared ≡ None
    → typing.new_object life node name t known ≡ typing.object_for life node name t linked known
no_shared_object life node name t found linked shared known e f g =
    none_by life node name t (k.is_linked life) found known refl (sym f ∙ g) ∙ ap (λ o. typing.object_for life node name t o known) e
