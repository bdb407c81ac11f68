-- What stands at the front of declarators, and behind them.
use Rattle.std.specs.Prelude.{◌≡◌, ℕ, Bool, true, false, not, List, ◌∷◌, Option, refl}
use Rattle.std.proofs.Common.{ap}
use Rattle.std.proofs.lemmas.Bool.{or_right}
use Rattle.lt_tree.specs.declared.terminal.Terminal.TheVariants as k
use Rattle.lt_tree.specs.Tree as c
use Rattle.lt_tree.specs.Symbols as s
use Rattle.lt_tree.specs.Symbols.{Symbol}
use Rattle.lt_tree.specs.Scope.{Scope}
use Rattle.lt_tree.specs.Ahead.{Naming, named, untyped, nameless, either, same_terminal, sees, begins_specifier, begins_declarator, begins_suffix, begins_parameters, begins_direct, opens_parameters}
use Rattle.lt_tree.specs.Grammar as g
use Rattle.lt_tree.specs.Grammar.{AreSpecifiers, IsDirect, ArePointers, AreSuffixes, AreParameters, IsParameterList}
use Rattle.lt_print.proofs.ReadPieces.{Ends, by_parenthesis, by_comma, by_semicolon, by_equal, by_colon, by_brace}

-- ---- where a declarator ends

pub ends_declarator : {rest : List Symbol} → Ends rest → begins_declarator rest ≡ false
unfolding same_terminal
ends_declarator by_parenthesis = refl
ends_declarator by_comma = refl
ends_declarator by_semicolon = refl
ends_declarator by_equal = refl
ends_declarator by_colon = refl
ends_declarator by_brace = refl

pub ends_suffix : {rest : List Symbol} → Ends rest → begins_suffix rest ≡ false
unfolding same_terminal
ends_suffix by_parenthesis = refl
ends_suffix by_comma = refl
ends_suffix by_semicolon = refl
ends_suffix by_equal = refl
ends_suffix by_colon = refl
ends_suffix by_brace = refl

pub ends_direct : (scope : Scope) {rest : List Symbol} → Ends rest → begins_direct scope rest ≡ false
ends_direct scope by_parenthesis = refl
ends_direct scope by_comma = refl
ends_direct scope by_semicolon = refl
ends_direct scope by_equal = refl
ends_direct scope by_colon = refl
ends_direct scope by_brace = refl

pub ends_specifier : (scope : Scope) (typed : Bool) {rest : List Symbol} → Ends rest → begins_specifier scope typed rest ≡ false
ends_specifier scope typed by_parenthesis = refl
ends_specifier scope typed by_comma = refl
ends_specifier scope typed by_semicolon = refl
ends_specifier scope typed by_equal = refl
ends_specifier scope typed by_colon = refl
ends_specifier scope typed by_brace = refl

-- neither a star nor a qualifier
pub record NoStar (ts : List Symbol) : Type 0 where
  pub star : sees k.Star ts ≡ false
  pub constant : sees k.Const ts ≡ false
  pub volatile : sees k.Volatile ts ≡ false

ends_no_star : {rest : List Symbol} → Ends rest → NoStar rest
unfolding same_terminal
ends_no_star by_parenthesis = record { star = refl; constant = refl; volatile = refl }
ends_no_star by_comma = record { star = refl; constant = refl; volatile = refl }
ends_no_star by_semicolon = record { star = refl; constant = refl; volatile = refl }
ends_no_star by_equal = record { star = refl; constant = refl; volatile = refl }
ends_no_star by_colon = record { star = refl; constant = refl; volatile = refl }
ends_no_star by_brace = record { star = refl; constant = refl; volatile = refl }

-- ---- where a declarator begins

suffixes_no_star : {scope : Scope} {ts rest : List Symbol} {outer parts : c.Parts} {spots more : List ℕ}
    → AreSuffixes scope ts outer parts rest spots more → Ends rest → NoStar ts
unfolding same_terminal
suffixes_no_star (g.no_suffix x) e = ends_no_star e
suffixes_no_star (g.unsized_array x) e = record { star = refl; constant = refl; volatile = refl }
suffixes_no_star (g.array x y) e = record { star = refl; constant = refl; volatile = refl }
suffixes_no_star (g.function x y) e = record { star = refl; constant = refl; volatile = refl }

pub direct_no_star : {scope : Scope} {naming : Naming} {ts rest : List Symbol} {outer parts : c.Parts} {w : Option (List ℕ)} {spots more : List ℕ}
    → IsDirect scope naming ts outer w parts rest spots more → Ends rest → NoStar ts
unfolding same_terminal
direct_no_star (g.by_name x y) e = record { star = refl; constant = refl; volatile = refl }
direct_no_star (g.by_nothing a b x) e = suffixes_no_star x e
direct_no_star (g.nested inner a x i y) e = record { star = refl; constant = refl; volatile = refl }

-- no qualifier
pub pointers_unqualified : {scope : Scope} {naming : Naming} {ts rest : List Symbol} {outer parts : c.Parts} {w : Option (List ℕ)} {spots more : List ℕ}
    → ArePointers scope naming ts outer w parts rest spots more → Ends rest → (sees k.Const ts ≡ false) × (sees k.Volatile ts ≡ false)
unfolding same_terminal
pointers_unqualified (g.pointer q x) e = (refl, refl)
pointers_unqualified (g.no_pointer a x) e = let n = direct_no_star x e in (n.constant, n.volatile)

-- a star begins no parameters
pub star_opens : (naming : Naming) (scope : Scope) (at : ℕ) (ts : List Symbol) → opens_parameters naming scope (s.sign k.Star at ∷ ts) ≡ false
unfolding same_terminal
star_opens named scope at ts = refl
star_opens untyped scope at ts = refl
star_opens nameless scope at ts = refl
star_opens either scope at ts = refl

-- ---- parameters

pub specifiers_begin : {scope : Scope} {ts rest : List Symbol} {ss : c.Specifiers} {spots more : List ℕ} → AreSpecifiers scope ts ss rest spots more → begins_specifier scope false ts ≡ true
specifiers_begin (g.some_specifiers b x) = b

pub list_begins : {scope : Scope} {ts rest : List Symbol} {ps : c.ParameterList} {spots more : List ℕ} → IsParameterList scope ts ps rest spots more → begins_specifier scope false ts ≡ true
list_begins (g.last_parameter x y) = specifiers_begin x
list_begins (g.more_parameters x y z) = specifiers_begin x

pub parameters_begin : {scope : Scope} {ts rest : List Symbol} {ps : c.Parameters} {spots more : List ℕ} → AreParameters scope ts ps rest spots more → begins_parameters scope ts ≡ true
unfolding same_terminal
parameters_begin g.unstated = refl
parameters_begin g.void_alone = refl
parameters_begin {ts} (g.listed a x) = or_right (sees k.CloseParen ts) _ (list_begins x)
parameters_begin {ts} (g.open_list x) = or_right (sees k.CloseParen ts) _ (list_begins x)

-- a list of parameters begins no direct declarator
pub parameters_no_direct : {scope : Scope} (at : ℕ) {ts rest : List Symbol} {ps : c.Parameters} {spots more : List ℕ}
    → AreParameters scope ts ps rest spots more → begins_direct scope (s.sign k.OpenParen at ∷ ts) ≡ false
parameters_no_direct at x = ap not (parameters_begin x)
