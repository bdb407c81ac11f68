-- Where no label stands.
use Rattle.std.proofs.Common.{◌≡◌, inl, refl, sym, ap, ◌∙◌, subst, ℕ, ◌+◌, ◌<◌, ◌≤◌, List, [], ◌∷◌, ◌++◌, length, Bool, true, false, not, if◌then◌else◌, Option, arith}
use Rattle.std.specs.List.{list_any}
use Rattle.std.proofs.lemmas.Bool.{false≢true}
use Rattle.std.proofs.lemmas.Bool.Decides.{nat_tests}
use Rattle.lt_tree.specs.Tree as c
use Rattle.lt_tree.specs.Nodes.{Node, an_expression, in_expression, in_mark, in_declaration, in_statement, in_items, in_external}
use Rattle.lt_tree.specs.Typing.Programs.{Program}
use Rattle.lt_objectives.specs.Places.{sites, Span, span, covers, is_constant, is_open, storage_of, makes_static, makes_static_in_for, closed_by_form, closed}
use Rattle.lt_sites.proofs.Nodes.{expression_node}
use Rattle.lt_objective_places.specs.Stands.{IsAmong, IsWithin, GoOn, AreClosed}
use Rattle.lt_objective_places.proofs.Among.{in_second, any_of}
use Rattle.lt_objective_places.proofs.Roles.{site_there}

covers_it : (n first size : ℕ) → IsWithin first size n → covers n (span first size) ≡ true
covers_it n first size w = let low : first ≤ n = w.0 in let high : n < first + size = w.1 in grind (arith, nat_tests)

-- what a node closes is closed
closed_at : {unit : c.Unit} {k : ℕ} {x : Node} {xs : List Node} (program : Program) (first size : ℕ) → IsAmong (span first size) (closed unit program (record { number = k; node = x })) → GoOn unit k (x ∷ xs)
    → AreClosed unit program first size
closed_at {unit} {k} {x} {xs} program first size is s =
    λ n w. ap not (any_of (λ site. list_any (covers n) (closed unit program site)) (record { number = k; node = x }) (sites unit) (site_there s)
    (any_of (covers n) (span first size) (closed unit program (record { number = k; node = x })) is (covers_it n first size w)))

chosen : {X : Type 0} (b : Bool) (x : X) (rest : List X) → b ≡ true → IsAmong x ((if b then x ∷ [] else []) ++ rest)
chosen true x rest is = inl refl
chosen false x rest is = absurd cc

-- a part of what is closed
pub part_closed : (unit : c.Unit) (program : Program) (k size j more : ℕ) → k ≤ j → j + more ≤ k + size → AreClosed unit program k size → AreClosed unit program j more
part_closed unit program k size j more first last are = λ n w. let low : j ≤ n = w.0 in let high : n < j + more = w.1 in are n (omega arith, omega arith)

-- ---- declarations of objects that are there from the start

pub declared_closed : {unit : c.Unit} {k : ℕ} (program : Program) (d : c.Declaration) → GoOn unit k (in_external (c.Declared d)) → AreClosed unit program k (1 + length (in_declaration d))
declared_closed {unit} {k} program d s = closed_at program k (1 + length (in_declaration d)) (inl refl) s

pub static_closed : {unit : c.Unit} {k : ℕ} (program : Program) (d : c.Declaration) (items : c.Items) → list_any makes_static (storage_of d.specifiers) ≡ true → GoOn unit k (in_items (c.a_declaration d items))
    → AreClosed unit program (k + 1) (length (in_declaration d))
static_closed {unit} {k} program d items is s =
    closed_at program (k + 1) (length (in_declaration d)) (chosen (list_any makes_static (storage_of d.specifiers)) (span (k + 1) (length (in_declaration d))) [] is) s

pub static_in_for_closed : {unit : c.Unit} {k : ℕ} (program : Program) (d : c.Declaration) (test step : Option c.Expression) (x : c.Statement) → list_any makes_static_in_for (storage_of d.specifiers) ≡ true
    → GoOn unit k (in_statement (c.For (c.Declares d) test step x)) → AreClosed unit program (k + 1) (length (in_declaration d))
static_in_for_closed {unit} {k} program d test step x is s =
    closed_at program (k + 1) (length (in_declaration d)) (chosen (list_any makes_static_in_for (storage_of d.specifiers)) (span (k + 1) (length (in_declaration d))) [] is) s

-- ---- operands of `sizeof`, marks and integer constant expressions

pub sizeof_closed : {unit : c.Unit} {k : ℕ} (program : Program) (e : c.Expression) → GoOn unit k (in_expression (c.SizeofExpr e)) → AreClosed unit program k (1 + length (in_expression e))
sizeof_closed {unit} {k} program e s = closed_at program k (1 + length (in_expression e)) (inl refl) s

pub sizeof_type_closed : {unit : c.Unit} {k : ℕ} (program : Program) (type : c.Specifiers) (d : c.Declarator) → GoOn unit k (in_expression (c.SizeofType type d))
    → AreClosed unit program k (length (in_expression (c.SizeofType type d)))
sizeof_type_closed {unit} {k} program type d s = closed_at program k (length (in_expression (c.SizeofType type d))) (inl refl) s

pub mark_closed : {unit : c.Unit} {k : ℕ} (program : Program) (m : c.Mark) → GoOn unit k (in_mark m) → AreClosed unit program k (length (in_mark m))
mark_closed {unit} {k} program (c.mark e id tag bound) s = closed_at program k (length (in_mark (c.mark e id tag bound))) (inl refl) s

pub constant_closed : {unit : c.Unit} {k : ℕ} (program : Program) (e : c.Expression) → is_constant unit program k ≡ true → GoOn unit k (in_expression e) → AreClosed unit program k (length (in_expression e))
constant_closed {unit} {k} program e is s =
    let its = span k (length (in_expression e)) in
    let begun : GoOn unit k (an_expression e ∷ _) = subst (GoOn unit k) (expression_node e) s in
    let value : IsAmong its (if is_constant unit program k then its ∷ [] else []) = by_value (is_constant unit program k) its is in
    closed_at program k (length (in_expression e)) (in_second its (closed_by_form k (an_expression e)) (if is_constant unit program k then its ∷ [] else []) value) begun
  where
    by_value : (b : Bool) (x : Span) → b ≡ true → IsAmong x (if b then x ∷ [] else [])
    by_value true x is = inl refl
    by_value false x is = absurd cc

-- so an expression at which a label stands is no constant
pub open_varies : {unit : c.Unit} {k : ℕ} (program : Program) (e : c.Expression) → GoOn unit k (in_expression e) → is_open unit program k ≡ true → is_constant unit program k ≡ false
open_varies {unit} {k} program e s opened = by_value (is_constant unit program k) refl
  where
    by_value : (b : Bool) → is_constant unit program k ≡ b → is_constant unit program k ≡ false
    by_value true is = absurd (false≢true (sym (constant_closed program e is s k (omega arith, omega (arith, ap length (expression_node e)))) ∙ opened))
    by_value false is = is
