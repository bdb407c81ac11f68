-- Parts that were filled before don't matter to what initialisers fill behind them.
use Rattle.std.proofs.Common.{◌≡◌, ℕ, ◌+◌, Bool, true, false, List, [], ◌∷◌, Option, Some, None, if◌then◌else◌, refl, ap, ◌∙◌, append_assoc}
use Rattle.lt_tree.specs.Tree as c
use Rattle.lt_tree.specs.Typing.Types.{struct_of}
use Rattle.lt_tree.specs.Typing.TypedTree.{StartPart}
use Rattle.lt_tree.specs.Typing.Entities.{Known}
use Rattle.lt_tree.specs.Typing.Rules.{broken_if, bad_initialiser}
use Rattle.lt_tree.specs.Typing.Steps.{Outcome, Goes, Breaks, Walk, goes_on, gives, settle}
use Rattle.lt_tree.specs.Typing.Expressions.{Typed, as_value, own_type}
use Rattle.lt_tree.specs.Typing.ExpressionTyping.{expression}
use Rattle.lt_tree.specs.Typing.Filling.{Run, Filling, opened, is_character_array, is_struct_of, is_too_long_for, letters_of, value_faults, value_part, text_in}
use Rattle.lt_tree.specs.Typing.InitialiserTyping.{literal_alone, filled_by, fill_value, value_initialiser, fill_text, initialiser_without_braces, filling_for, faults_of_list, behind_list, initialiser, initialisers}
use Rattle.lt_unit.specs.Fillings.{behind_parts}

-- parts before those that were filled
abbrev carried : List StartPart → Outcome Filling → Outcome Filling
carried parts o = goes_on o (λ f. gives (behind_parts parts f))

one_step : (o : Outcome (Unit {0})) (parts : List StartPart) (g h : Filling) → g ≡ behind_parts parts h → goes_on o (λ u. gives g) ≡ carried parts (goes_on o (λ u. gives h))
one_step (Goes u k) parts g h e = ap (λ f. Goes f k) e
one_step (Breaks rule node) parts g h e = refl

two_steps : (o : Outcome (Unit {0})) (step : Walk (Unit {0})) (parts : List StartPart) (g h : Filling) → g ≡ behind_parts parts h
    → goes_on o (λ u k. goes_on (step k) (λ v. gives g)) ≡ carried parts (goes_on o (λ u k. goes_on (step k) (λ v. gives h)))
two_steps (Goes u k) step parts g h e = one_step (step k) parts g h e
two_steps (Breaks rule node) step parts g h e = refl

more_filled : (parts : List StartPart) (f : Filling) (part : StartPart) (rest : List Run) → filled_by (behind_parts parts f) part rest ≡ behind_parts parts (filled_by f part rest)
more_filled parts f part rest = ap (λ l. record f { left = rest; parts = l }) (append_assoc parts f.parts (part ∷ []))

value_filled_behind : (node : ℕ) (is_static : Bool) (parts : List StartPart) (f : Filling) (x : Typed) (known : Known) (runs : List Run) (k : Known)
    → fill_value node is_static (behind_parts parts f) x known runs k ≡ carried parts (fill_value node is_static f x known runs k)
value_filled_behind node is_static parts f x known [] k = refl
value_filled_behind node is_static parts f x known (run ∷ rest) k =
    one_step (settle node (value_faults known is_static run.type x) k) parts _ _ (more_filled parts f (value_part known is_static run.offset run.type x) rest)

value_on : (o : Outcome Typed) (node : ℕ) (is_static : Bool) (parts : List StartPart) (f : Filling)
    → goes_on o (λ x k. fill_value node is_static (behind_parts parts f) x k (opened k (is_struct_of (struct_of (own_type x))) f.left) k)
    ≡ carried parts (goes_on o (λ x k. fill_value node is_static f x k (opened k (is_struct_of (struct_of (own_type x))) f.left) k))
value_on (Goes x k) node is_static parts f = value_filled_behind node is_static parts f x k (opened k (is_struct_of (struct_of (own_type x))) f.left) k
value_on (Breaks rule n) node is_static parts f = refl

value_behind : (node : ℕ) (is_static : Bool) (parts : List StartPart) (f : Filling) (e : c.Expression) (k : Known)
    → value_initialiser node is_static (behind_parts parts f) e k ≡ carried parts (value_initialiser node is_static f e k)
value_behind node is_static parts f e k = value_on (expression e as_value k) node is_static parts f

either_behind : (b : Bool) (parts : List StartPart) (x y : Walk Filling) (more less : Walk Filling) (k : Known) → more k ≡ carried parts (x k) → less k ≡ carried parts (y k)
    → (if b then more else less) k ≡ carried parts ((if b then x else y) k)
either_behind true parts x y more less k e f = e
either_behind false parts x y more less k e f = f

text_behind : (node : ℕ) (is_static : Bool) (parts : List StartPart) (f : Filling) (e : c.Expression) (bytes : List ℕ) (runs : List Run) (k : Known)
    → fill_text node is_static (behind_parts parts f) e bytes runs k ≡ carried parts (fill_text node is_static f e bytes runs k)
text_behind node is_static parts f e bytes [] k = value_behind node is_static parts f e k
text_behind node is_static parts f e bytes (run ∷ rest) k =
    either_behind (is_character_array run.type) parts _ _ _ _ k
    (two_steps (literal_alone bytes k) (settle node (broken_if bad_initialiser (is_too_long_for run.type bytes))) parts _ _ (more_filled parts f (letters_of run.offset run.type bytes) rest))
    (value_behind node is_static parts f e k)

without_braces_behind : (node : ℕ) (is_static : Bool) (parts : List StartPart) (f : Filling) (e : c.Expression) (text : Option (List ℕ)) (k : Known)
    → initialiser_without_braces node is_static (behind_parts parts f) e text k ≡ carried parts (initialiser_without_braces node is_static f e text k)
without_braces_behind node is_static parts f e None k = value_behind node is_static parts f e k
without_braces_behind node is_static parts f e (Some bytes) k = text_behind node is_static parts f e bytes (opened k is_character_array f.left) k

list_behind_is : (parts : List StartPart) (known : Known) (f inner : Filling) (runs : List Run) → behind_list known (behind_parts parts f) inner runs ≡ behind_parts parts (behind_list known f inner runs)
list_behind_is parts known f inner [] = refl
list_behind_is parts known f inner (run ∷ runs) = ap (λ l. record (behind_list known f inner (run ∷ runs)) { parts = l }) (append_assoc parts f.parts inner.parts)

braces_behind : (o : Outcome Filling) (node : ℕ) (list : c.Initialisers) (parts : List StartPart) (known : Known) (f : Filling) (runs : List Run)
    → goes_on o (λ inner k. goes_on (settle node (faults_of_list list inner runs) k) (λ u. gives (behind_list known (behind_parts parts f) inner runs)))
    ≡ carried parts (goes_on o (λ inner k. goes_on (settle node (faults_of_list list inner runs) k) (λ u. gives (behind_list known f inner runs))))
braces_behind (Goes inner k) node list parts known f runs = one_step (settle node (faults_of_list list inner runs) k) parts _ _ (list_behind_is parts known f inner runs)
braces_behind (Breaks rule n) node list parts known f runs = refl

initialiser_behind : (i : c.Initialiser) (is_static : Bool) (parts : List StartPart) (f : Filling) (k : Known)
    → initialiser i is_static (behind_parts parts f) k ≡ carried parts (initialiser i is_static f k)
initialiser_behind (c.Value e) is_static parts f k = without_braces_behind k.next is_static parts f e (text_in e) (record k { next = k.next + 1 })
initialiser_behind (c.Braces list) is_static parts f k =
    braces_behind (initialisers list is_static (filling_for (record k { next = k.next + 1 }) list f.left) (record k { next = k.next + 1 })) k.next list parts (record k { next = k.next + 1 }) f f.left

rest_behind : (o : Outcome Filling) (rest : Filling → Walk Filling) (parts : List StartPart) → ((f : Filling) (k : Known) → rest (behind_parts parts f) k ≡ carried parts (rest f k))
    → goes_on (carried parts o) rest ≡ carried parts (goes_on o rest)
rest_behind (Goes f k) rest parts e = e f k
rest_behind (Breaks rule node) rest parts e = refl

-- the same parts are filled behind others
pub initialisers_behind : (list : c.Initialisers) (is_static : Bool) (parts : List StartPart) (f : Filling) (k : Known)
    → initialisers list is_static (behind_parts parts f) k ≡ goes_on (initialisers list is_static f k) (λ g. gives (behind_parts parts g))
initialisers_behind c.no_initialisers is_static parts f k = refl
initialisers_behind (c.an_initialiser first rest) is_static parts f k =
    ap (λ o. goes_on o (λ next. initialisers rest is_static next)) (initialiser_behind first is_static parts f k)
    ∙ rest_behind (initialiser first is_static f k) (λ next. initialisers rest is_static next) parts (λ g j. initialisers_behind rest is_static parts g j)
