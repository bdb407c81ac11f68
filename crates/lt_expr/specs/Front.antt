-- What a reader reads from and gives, and the readers of single symbols.
use Rattle.std.specs.Prelude.{ℕ, Bool, true, false, ◌&&◌, ◌||◌, not, if◌then◌else◌, List, [], ◌∷◌, drop, Option, Some, None, option_map, nat_le}
use Rattle.lt_model.specs.declared.operator.Op.{Op}
use Rattle.lt_tree.specs.declared.terminal.Terminal.{Terminal}
use Rattle.lt_tree.specs.declared.terminal.Terminal.TheVariants as t
use Rattle.lt_tree.specs.Tree as c
use Rattle.lt_tree.specs.Comma.{is_comma}
use Rattle.lt_tree.specs.Symbols.{Symbol, name, constant, literal}
use Rattle.lt_tree.specs.Scope.{Scope, is_type}
use Rattle.lt_tree.specs.Operators.{Infix, infix_of, assignment_of}
use Rattle.lt_tree.specs.Ahead.{Naming, takes_name, takes_none, opens_parameters, terminal_at, sees, begins_specifier}
use Rattle.lt_expr.specs.Literals.{value_of, text_of}

-- The symbols that are left, and the ends: for each node that was read the byte that it begins at, the node that ended last before all others.
abbrev pub Rest : Type 0
Rest = List Symbol × List ℕ

abbrev pub Reader : Type 0 → Type 0
Reader A = Rest → Option (A × Rest)

infixl 10 ◌>>=◌
abbrev pub ◌>>=◌ : {A B : Type 0} → Option A → (A → Option B) → Option B
None >>= f = None
(Some x) >>= f = f x

-- by what there is, if there is something
abbrev pub if_some : {A B : Type 0} → Option A → (A → B) → B → B
if_some None go otherwise = otherwise
if_some (Some x) go otherwise = go x

-- behind the first symbol
abbrev pub behind : Rest → Rest
behind r = (drop 1 r.0, r.1)

-- a node that begins at this byte ends
abbrev pub ended : ℕ → Rest → Rest
ended at r = (r.0, at ∷ r.1)

-- the node that ended last is none
abbrev pub reopened : c.Expression → Rest → Rest
reopened e r = if is_comma e then (r.0, drop 1 r.1) else r

-- ---- single symbols

abbrev pub expect : Terminal → Rest → Option Rest
expect k r = if sees k r.0 then Some (behind r) else None

abbrev pub first_name : List Symbol → Option (List ℕ)
first_name (name w at ∷ ts) = Some w
first_name _ = None

abbrev pub first_constant : List Symbol → Option (List ℕ)
first_constant (constant w at ∷ ts) = Some w
first_constant _ = None

abbrev pub first_value : List Symbol → Option (List ℕ)
first_value (literal w at ∷ ts) = value_of w
first_value _ = None

-- NAME
unfoldable pub name_at : Reader (List ℕ)
name_at r = option_map (λ w. (w, behind r)) (first_name r.0)

-- ',' CONSTANT
unfoldable pub id_at : Reader (List ℕ)
id_at r = expect t.Comma r >>= λ a. option_map (λ w. (w, behind a)) (first_constant a.0)

-- ',' STRING
unfoldable pub tag_at : Reader (List ℕ)
tag_at r = expect t.Comma r >>= λ a. option_map (λ w. (w, behind a)) (first_value a.0)

-- NAME | CONSTANT | STRING+, a node
unfoldable pub leaf : Scope → Reader c.Expression
leaf scope ([], ends) = None
leaf scope (name w at ∷ ts, ends) = if is_type scope w then None else Some (c.Name w, ended at (ts, ends))
leaf scope (constant w at ∷ ts, ends) = Some (c.Constant w, ended at (ts, ends))
leaf scope (literal w at ∷ ts, ends) = option_map (λ x. (c.Text x.0, ended at (x.1, ends))) (text_of (literal w at ∷ ts))
leaf scope (_ ∷ ts, ends) = None

-- ---- what stands in front decides

abbrev pub begins_mark : List Symbol → Bool
begins_mark ts = sees t.Label ts || sees t.LabelBind ts

-- '(' and a type name
abbrev pub begins_cast : Scope → List Symbol → Bool
begins_cast scope ts = sees t.OpenParen ts && begins_specifier scope false (drop 1 ts)

-- '(' and a declarator
abbrev pub begins_nested : Naming → Scope → List Symbol → Bool
begins_nested naming scope ts = sees t.OpenParen ts && not (opens_parameters naming scope (drop 1 ts))

-- one more suffix of an expression
abbrev pub begins_postfix : List Symbol → Bool
begins_postfix ts =
    sees t.OpenIndex ts || sees t.OpenParen ts || sees t.Dot ts || sees t.Arrow ts || sees t.Increment ts || sees t.Decrement ts

-- the assignment in front, where no cast stands before it
abbrev pub assignment_behind : Bool → List Symbol → Option (Option Op)
assignment_behind true ts = None
assignment_behind false ts = assignment_of (terminal_at ts)

-- the operator, if it binds at least so tightly
abbrev pub if_tight : ℕ → Option (Infix × ℕ) → Option (Infix × ℕ)
if_tight least None = None
if_tight least (Some o) = if nat_le least o.1 then Some o else None

unfoldable pub operator_at : ℕ → List Symbol → Option (Infix × ℕ)
operator_at least ts = if_tight least (infix_of (terminal_at ts))

-- NAME, or nothing, as a declarator has it
abbrev pub own_name : Naming → Scope → Reader (Option (List ℕ))
own_name naming scope (name w at ∷ ts, ends) = if takes_name naming scope w then Some (Some w, (ts, ends)) else None
own_name naming scope r = if takes_none naming then Some (None, r) else None

-- NAME?
abbrev pub optional_name : Reader (Option (List ℕ))
optional_name (name w at ∷ ts, ends) = Some (Some w, (ts, ends))
optional_name r = Some (None, r)

-- more parameters behind a comma
abbrev pub goes_on_with_parameter : List Symbol → Bool
goes_on_with_parameter ts = sees t.Comma ts && not (sees t.Ellipsis (drop 1 ts))

-- qualifier*
abbrev pub qualifiers : List Symbol → c.Qualifiers × List Symbol
qualifiers [] = (record { constant = false; volatile = false }, [])
qualifiers (s ∷ ts) =
    if sees t.Const (s ∷ ts) then (record (qualifiers ts).0 { constant = true }, (qualifiers ts).1)
    else (if sees t.Volatile (s ∷ ts) then (record (qualifiers ts).0 { volatile = true }, (qualifiers ts).1)
    else (record { constant = false; volatile = false }, s ∷ ts))
