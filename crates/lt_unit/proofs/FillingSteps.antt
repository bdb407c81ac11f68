-- An initialiser fills the part in front, if there is one.
use Rattle.std.proofs.Common.{◌≡◌, ℕ, Bool, true, false, List, [], ◌∷◌, ◌++◌, Some, if◌then◌else◌, refl, sym, ap, ◌∙◌}
use Rattle.std.specs.Global.{Vec}
use Rattle.lt_tree.specs.declared.declaration.Initialiser.{Initialiser}
use Rattle.lt_tree.specs.declared.declaration.Initialiser.TheVariants as form
use Rattle.lt_tree.specs.UnitView.{initialiser_of, initialisers_in}
use Rattle.lt_tree.proofs.UnitRows.{braces_is}
use Rattle.lt_tree.specs.Tree as c
use Rattle.lt_tree.specs.Typing.Types.{CType, struct_of}
use Rattle.lt_tree.specs.Typing.TypedTree.{StartPart}
use Rattle.lt_tree.specs.Typing.Rules.{broken_if, bad_initialiser}
use Rattle.lt_tree.specs.Typing.Entities.{Known}
use Rattle.lt_tree.specs.Typing.Steps.{Outcome, Goes, Breaks, Walk, ◌>>=◌, ◌>>◌, goes_on, gives, here, settle}
use Rattle.lt_tree.specs.Typing.Expressions.{Typed, own_type}
use Rattle.lt_tree.specs.Typing.Filling.{Run, Filling, behind_first, opened, is_character_array, is_struct_of, is_too_long_for, letters_of, filling_of, list_faults}
use Rattle.lt_tree.specs.Typing.InitialiserTyping.{literal_alone, filled_by, fill_value, value_initialiser, fill_text, initialiser_without_braces, filling_for, faults_of_list, behind_list, initialisers}
use Rattle.lt_unit.specs.LeftParts.{begins_with_characters}
use Rattle.lt_unit.specs.Fillings.{behind_parts, value_filled, value_in_front, text_filled, list_filled, surplus_filled}
use Rattle.lt_unit.proofs.PartsBehind.{initialisers_behind}

abbrev pub filling : List Run → List StartPart → Bool → Filling
filling left parts has_surplus = record { left = left; parts = parts; has_surplus = has_surplus }

-- ---- values

pub value_none : (node : ℕ) (is_static : Bool) (left after : List Run) (parts : List StartPart) (b : Bool) (x : Typed) (k : Known)
    → opened k (is_struct_of (struct_of (own_type x))) left ≡ [] → after ≡ left
    → value_in_front node is_static (filling left parts b) x k ≡ Goes (filling after parts true) k
value_none node is_static left after parts b x k e f =
    ap (λ l. fill_value node is_static (filling left parts b) x k l k) e ∙ ap (λ l. Goes (filling l parts true) k) (sym f)

pub value_some : (node : ℕ) (is_static : Bool) (left after : List Run) (parts : List StartPart) (b : Bool) (x : Typed) (k : Known) (run : Run)
    → opened k (is_struct_of (struct_of (own_type x))) left ≡ run ∷ after
    → value_in_front node is_static (filling left parts b) x k ≡ value_filled node is_static (filling after parts b) run.offset run.type x k
value_some node is_static left after parts b x k run e =
    ap (λ l. fill_value node is_static (filling left parts b) x k l k) e

-- ---- string literals

abbrev text_walk : ℕ → Filling → List ℕ → Run → List Run → Walk Filling
text_walk node f bytes run rest = do
  literal_alone bytes
  settle node (broken_if bad_initialiser (is_too_long_for run.type bytes))
  gives (filled_by f (letters_of run.offset run.type bytes) rest)

no_characters : (node : ℕ) (is_static : Bool) (f : Filling) (e : c.Expression) (bytes : List ℕ) (runs : List Run) (k : Known) → begins_with_characters runs ≡ false
    → fill_text node is_static f e bytes runs k ≡ value_initialiser node is_static f e k
no_characters node is_static f e bytes [] k is = refl
no_characters node is_static f e bytes (run ∷ rest) k is = ap (λ b. (if b then text_walk node f bytes run rest else value_initialiser node is_static f e) k) is

pub text_none : (node : ℕ) (is_static : Bool) (left after : List Run) (parts : List StartPart) (b : Bool) (e : c.Expression) (bytes : List ℕ) (k : Known)
    → begins_with_characters (opened k is_character_array left) ≡ false → after ≡ left
    → initialiser_without_braces node is_static (filling left parts b) e (Some bytes) k ≡ value_initialiser node is_static (filling after parts b) e k
text_none node is_static left after parts b e bytes k is f =
    no_characters node is_static (filling left parts b) e bytes (opened k is_character_array left) k is ∙ ap (λ l. value_initialiser node is_static (filling l parts b) e k) (sym f)

its_characters : (node : ℕ) (is_static : Bool) (left rest : List Run) (parts : List StartPart) (b : Bool) (e : c.Expression) (bytes : List ℕ) (run : Run) (k : Known) → is_character_array run.type ≡ true
    → fill_text node is_static (filling left parts b) e bytes (run ∷ rest) k ≡ text_filled node (filling rest parts b) run.offset run.type bytes k
its_characters node is_static left rest parts b e bytes run k is =
    ap (λ c. (if c then text_filled node (filling rest parts b) run.offset run.type bytes else value_initialiser node is_static (filling left parts b) e) k) is

pub text_some : (node : ℕ) (is_static : Bool) (left after : List Run) (parts : List StartPart) (b : Bool) (e : c.Expression) (bytes : List ℕ) (k : Known) (run : Run)
    → opened k is_character_array left ≡ run ∷ after → is_character_array run.type ≡ true
    → initialiser_without_braces node is_static (filling left parts b) e (Some bytes) k ≡ text_filled node (filling after parts b) run.offset run.type bytes k
text_some node is_static left after parts b e bytes k run is t =
    ap (λ l. fill_text node is_static (filling left parts b) e bytes l k) is ∙ its_characters node is_static left after parts b e bytes run k t

-- ---- lists

-- a list, once its node has begun
abbrev pub list_walk : ℕ → c.Initialisers → Bool → Filling → Walk Filling
list_walk node list is_static f = do
  known ← here
  inner ← initialisers list is_static (filling_for known list f.left)
  settle node (faults_of_list list inner f.left)
  gives (behind_list known f inner f.left)

pub list_none : (node : ℕ) (list : c.Initialisers) (is_static : Bool) (left after : List Run) (parts : List StartPart) (b : Bool) (k : Known)
    → left ≡ [] → after ≡ [] → list_walk node list is_static (filling left parts b) k ≡ surplus_filled is_static (filling after parts b) list k
list_none node list is_static left after parts b k e f =
    ap (λ l. list_walk node list is_static (filling l parts b) k) e ∙ ap (λ l. surplus_filled is_static (filling l parts b) list k) (sym f)

inner_on : (o : Outcome Filling) (node : ℕ) (list : c.Initialisers) (t : CType) (left : List Run) (parts : List StartPart) (b : Bool)
    → goes_on o (λ inner k. goes_on (settle node (list_faults t list inner) k) (λ u. gives (filling left (parts ++ inner.parts) b)))
    ≡ goes_on (goes_on o (λ f. gives (behind_parts parts f))) (λ inner k. goes_on (settle node (list_faults t list inner) k) (λ u. gives (filling left inner.parts b)))
inner_on (Goes inner k) node list t left parts b = refl
inner_on (Breaks rule n) node list t left parts b = refl

first_list : (node : ℕ) (list : c.Initialisers) (is_static : Bool) (run : Run) (runs : List Run) (parts : List StartPart) (b : Bool) (k : Known)
    → list_walk node list is_static (filling (run ∷ runs) parts b) k ≡ list_filled node is_static (filling (behind_first k run ++ runs) parts b) run.offset run.type list k
first_list node list is_static run runs parts b k =
    inner_on (initialisers list is_static (filling_of k run.offset run.type list) k) node list run.type (behind_first k run ++ runs) parts b
    ∙ ap (λ o. goes_on o (λ inner j. goes_on (settle node (list_faults run.type list inner) j) (λ u. gives (filling (behind_first k run ++ runs) inner.parts b))))
    (sym (initialisers_behind list is_static parts (filling_of k run.offset run.type list) k))

pub list_some : (node : ℕ) (list : c.Initialisers) (is_static : Bool) (left after : List Run) (parts : List StartPart) (b : Bool) (k : Known) (run : Run) (runs : List Run)
    → left ≡ run ∷ runs → after ≡ behind_first k run ++ runs
    → list_walk node list is_static (filling left parts b) k ≡ list_filled node is_static (filling after parts b) run.offset run.type list k
list_some node list is_static left after parts b k run runs e f =
    ap (λ l. list_walk node list is_static (filling l parts b) k) e
    ∙ first_list node list is_static run runs parts b k
    ∙ ap (λ l. list_filled node is_static (filling l parts b) run.offset run.type list k) (sym f)

-- ---- lists as they lie in memory

pub braces_seen : (i : Initialiser) (v : Vec Initialiser) (list : List Initialiser) → i ≡ form.List v → list ≡ v.items → c.Braces (initialisers_in list) ≡ initialiser_of i
braces_seen i v list is all = ap (λ l. c.Braces (initialisers_in l)) all ∙ sym (braces_is v) ∙ sym (ap initialiser_of is)
