-- Lists that a loop reads: one more at the end of what was read is one more before what is read still.
use Rattle.std.proofs.Common.{◌≡◌, List, [], ◌∷◌, ◌++◌, map, Option, Some, None, refl, ap}
use Rattle.lt_tree.specs.declared.declaration.Initialiser.{Initialiser}
use Rattle.lt_tree.specs.declared.statement.Item.{Item}
use Rattle.lt_tree.specs.declared.statement.Item.TheBlock as at
use Rattle.lt_tree.specs.declared.statement.SwitchCase.{SwitchCase}
use Rattle.lt_tree.specs.Tree as c
use Rattle.lt_tree.specs.View.{mark_of}
use Rattle.lt_tree.specs.UnitView.{initialiser_of, initialisers_in, declaration_of, statement_of, label_of, items_in, cases_in}
use Rattle.lt_expr.specs.Front.{Rest, ◌>>=◌}
use Rattle.lt_expr.specs.Fronts.{after}
use Rattle.lt_decl.specs.Items.{item_before}
use Rattle.lt_decl.specs.ItemView.{item_of, case_of}
use Rattle.lt_decl.proofs.Fronts.{initialisers_before, items_before, cases_before}

-- what is put before what is read, put together
after_turn : {A : Type 0} (put before one : A → A) → ((x : A) → put x ≡ before (one x)) → (read : Option (A × Rest)) → after put read ≡ after before (read >>= λ y. Some (one y.0, y.1))
after_turn put before one same None = refl
after_turn put before one same (Some y) = ap (λ x. Some (x, y.1)) (same y.0)

after_same : {A : Type 0} (put : A → A) → ((x : A) → put x ≡ x) → (read : Option (A × Rest)) → after put read ≡ read
after_same put same None = refl
after_same put same (Some y) = ap (λ x. Some (x, y.1)) (same y.0)

-- ---- initialisers

initialisers_push : (front : List Initialiser) (i : Initialiser) (rest : c.Initialisers) → initialisers_before (initialisers_in (front ++ i ∷ [])) rest ≡ initialisers_before (initialisers_in front) (c.an_initialiser (initialiser_of i) rest)
initialisers_push [] i rest = refl
initialisers_push (x ∷ front) i rest = ap (c.an_initialiser (initialiser_of x)) (initialisers_push front i rest)

initialisers_last : (front : List Initialiser) (i : Initialiser) → initialisers_before (initialisers_in front) (c.an_initialiser (initialiser_of i) c.no_initialisers) ≡ initialisers_in (front ++ i ∷ [])
initialisers_last [] i = refl
initialisers_last (x ∷ front) i = ap (c.an_initialiser (initialiser_of x)) (initialisers_last front i)

pub more_initialisers : (front : List Initialiser) (i : Initialiser) (read : Option (c.Initialisers × Rest)) → after (initialisers_before (initialisers_in (front ++ i ∷ []))) read ≡ after (initialisers_before (initialisers_in front)) (read >>= λ y. Some (c.an_initialiser (initialiser_of i) y.0, y.1))
more_initialisers front i read = after_turn (initialisers_before (initialisers_in (front ++ i ∷ []))) (initialisers_before (initialisers_in front)) (c.an_initialiser (initialiser_of i)) (initialisers_push front i) read

pub last_initialisers : (front : List Initialiser) (i : Initialiser) (r : Rest) → after (initialisers_before (initialisers_in front)) (Some (c.an_initialiser (initialiser_of i) c.no_initialisers, r)) ≡ Some (initialisers_in (front ++ i ∷ []), r)
last_initialisers front i r = ap (λ x. Some (x, r)) (initialisers_last front i)

pub no_initialisers : (read : Option (c.Initialisers × Rest)) → after (initialisers_before c.no_initialisers) read ≡ read
no_initialisers read = after_same (initialisers_before c.no_initialisers) (λ x. refl) read

-- ---- lists of the library

listed_push : {X A : Type 0} (f : X → A) (front : List X) (x : X) (rest : List A) → map f (front ++ x ∷ []) ++ rest ≡ map f front ++ f x ∷ rest
listed_push f [] x rest = refl
listed_push f (y ∷ front) x rest = ap (λ zs. f y ∷ zs) (listed_push f front x rest)

listed_last : {X A : Type 0} (f : X → A) (front : List X) (x : X) → map f front ++ f x ∷ [] ≡ map f (front ++ x ∷ [])
listed_last f [] x = refl
listed_last f (y ∷ front) x = ap (λ zs. f y ∷ zs) (listed_last f front x)

listed_all : {X A : Type 0} (f : X → A) (front : List X) → map f front ++ [] ≡ map f front
listed_all f [] = refl
listed_all f (y ∷ front) = ap (λ zs. f y ∷ zs) (listed_all f front)

pub more_listed : {X A : Type 0} (f : X → A) (front : List X) (x : X) (read : Option (List A × Rest)) → after (λ rest. map f (front ++ x ∷ []) ++ rest) read ≡ after (λ rest. map f front ++ rest) (read >>= λ y. Some (f x ∷ y.0, y.1))
more_listed f front x read = after_turn (λ rest. map f (front ++ x ∷ []) ++ rest) (λ rest. map f front ++ rest) (λ rest. f x ∷ rest) (listed_push f front x) read

pub last_listed : {X A : Type 0} (f : X → A) (front : List X) (x : X) (r : Rest) → after (λ rest. map f front ++ rest) (Some (f x ∷ [], r)) ≡ Some (map f (front ++ x ∷ []), r)
last_listed f front x r = ap (λ xs. Some (xs, r)) (listed_last f front x)

pub all_listed : {X A : Type 0} (f : X → A) (front : List X) (r : Rest) → after (λ rest. map f front ++ rest) (Some ([], r)) ≡ Some (map f front, r)
all_listed f front r = ap (λ xs. Some (xs, r)) (listed_all f front)

pub none_listed : {A : Type 0} (read : Option (List A × Rest)) → after (λ rest. [] ++ rest) read ≡ read
none_listed read = after_same (λ rest. [] ++ rest) (λ x. refl) read

-- ---- items

items_push : (front : List Item) (i : Item) (rest : c.Items) → items_before (items_in (front ++ i ∷ [])) rest ≡ items_before (items_in front) (item_before (item_of i) rest)
items_push [] (at.Declaration d) rest = refl
items_push [] (at.Statement x) rest = refl
items_push [] (at.Mark m) rest = refl
items_push (at.Declaration d ∷ front) i rest = ap (c.a_declaration (declaration_of d)) (items_push front i rest)
items_push (at.Statement x ∷ front) i rest = ap (c.a_statement (statement_of x)) (items_push front i rest)
items_push (at.Mark m ∷ front) i rest = ap (c.a_label (mark_of m)) (items_push front i rest)

items_all : (front : List Item) → items_before (items_in front) c.no_items ≡ items_in front
items_all [] = refl
items_all (at.Declaration d ∷ front) = ap (c.a_declaration (declaration_of d)) (items_all front)
items_all (at.Statement x ∷ front) = ap (c.a_statement (statement_of x)) (items_all front)
items_all (at.Mark m ∷ front) = ap (c.a_label (mark_of m)) (items_all front)

pub more_items : (front : List Item) (i : Item) (read : Option (c.Items × Rest)) → after (items_before (items_in (front ++ i ∷ []))) read ≡ after (items_before (items_in front)) (read >>= λ y. Some (item_before (item_of i) y.0, y.1))
more_items front i read = after_turn (items_before (items_in (front ++ i ∷ []))) (items_before (items_in front)) (item_before (item_of i)) (items_push front i) read

pub all_items : (front : List Item) (r : Rest) → after (items_before (items_in front)) (Some (c.no_items, r)) ≡ Some (items_in front, r)
all_items front r = ap (λ xs. Some (xs, r)) (items_all front)

pub no_items : (read : Option (c.Items × Rest)) → after (items_before c.no_items) read ≡ read
no_items read = after_same (items_before c.no_items) (λ x. refl) read

-- ---- cases

cases_push : (front : List SwitchCase) (s : SwitchCase) (rest : c.Cases) → cases_before (cases_in (front ++ s ∷ [])) rest ≡ cases_before (cases_in front) (c.a_case (case_of s).0 (case_of s).1 rest)
cases_push [] s rest = refl
cases_push (x ∷ front) s rest = ap (c.a_case (map label_of x.labels.items) (statement_of x.statement)) (cases_push front s rest)

cases_all : (front : List SwitchCase) → cases_before (cases_in front) c.no_cases ≡ cases_in front
cases_all [] = refl
cases_all (x ∷ front) = ap (c.a_case (map label_of x.labels.items) (statement_of x.statement)) (cases_all front)

pub more_cases : (front : List SwitchCase) (s : SwitchCase) (read : Option (c.Cases × Rest)) → after (cases_before (cases_in (front ++ s ∷ []))) read ≡ after (cases_before (cases_in front)) (read >>= λ y. Some (c.a_case (case_of s).0 (case_of s).1 y.0, y.1))
more_cases front s read = after_turn (cases_before (cases_in (front ++ s ∷ []))) (cases_before (cases_in front)) (c.a_case (case_of s).0 (case_of s).1) (cases_push front s) read

pub all_cases : (front : List SwitchCase) (r : Rest) → after (cases_before (cases_in front)) (Some (c.no_cases, r)) ≡ Some (cases_in front, r)
all_cases front r = ap (λ xs. Some (xs, r)) (cases_all front)

pub no_cases : (read : Option (c.Cases × Rest)) → after (cases_before c.no_cases) read ≡ read
no_cases read = after_same (cases_before c.no_cases) (λ x. refl) read
