-- What one more entry makes of a map by names.
use Rattle.std.proofs.Common.{◌+◌, ◌<◌, length, take, get_or, ◌≡◌, ℕ, Bor, Bool, true, false, ◌||◌, cond, List, [], ◌∷◌, ◌++◌, map, Option, Some, None, refl, sym, ap, ◌∙◌}
use Rattle.std.specs.Global.{Vec}
use Rattle.std.specs.HashMap as hash
use Rattle.std.specs.HashMap.{HashMap}
use Rattle.std.specs.Prelude.{is_some}
use Rattle.std.specs.Option.{option_copied}
use Rattle.std.specs.List.{list_any}
use Rattle.std.specs.Str.{bytes_eq}
use Rattle.std.specs.Cmp.Lexicographic.{nat_list_eq_equiv}
use Rattle.std.proofs.lemmas.List.{take_more}
use Rattle.std.proofs.lemmas.List.Folds.{list_any-append}
use Rattle.lt_scope.proofs.Standings.{same_keys, changed}
use Rattle.lt_tree.specs.Typing.Entities.{or_else}
use Rattle.lt_env.specs.NameMaps.{at_name, member, Agrees, HasNames}

-- ---- names that are there or not

joined : (here before : Bool) (o : Option (Unit {0})) → cond here (Some tt) (cond before (Some tt) o) ≡ cond (before || (here || false)) (Some tt) o
joined true true o = refl
joined true false o = refl
joined false true o = refl
joined false false o = refl

-- what is kept of one more item behind others
pub one_kept : {X : Type 0} (test : X → Bool) (xs ys : List X) (x : X) (o now before : Option (Unit {0})) → before ≡ cond (list_any test xs) (Some tt) o → ys ≡ xs ++ x ∷ [] → now ≡ cond (test x) (Some tt) before
    → now ≡ cond (list_any test ys) (Some tt) o
one_kept test xs ys x o now before had more is =
    is
    ∙ ap (cond (test x) (Some tt)) had
    ∙ joined (test x) (list_any test xs) o
    ∙ ap (λ b. cond b (Some tt) o) (sym (list_any-append test xs (x ∷ [])))
    ∙ ap (λ zs. cond (list_any test zs) (Some tt) o) (sym more)

-- one more item behind others, which stands under this name
pub one_more : {X S : Type 0} (test : List ℕ → X → Bool) (xs ys : List X) (x : X) (m n : HashMap (Vec ℕ) (Unit {0}) S) (name : List ℕ) → Agrees m (λ w. member (list_any (test w) xs)) → ys ≡ xs ++ x ∷ []
    → ((w : List ℕ) → bytes_eq name w ≡ test w x) → hash.UpdatesBy same_keys (λ key. bytes_eq name key.items) m n (Some tt) → Agrees n (λ w. member (list_any (test w) ys))
one_more test xs ys x m n name a more is h = record {
  at = λ w. one_kept (test w) xs ys x None (at_name n w) (at_name m w) (a.at w) more (changed name m n (Some tt) h w ∙ ap (λ b. cond b (Some tt) (at_name m w)) (is w));
}

pub same_name : (name kept w : List ℕ) → name ≡ kept → bytes_eq name w ≡ bytes_eq kept w
same_name name kept w e = ap (λ n. bytes_eq n w) e

pub same_name_back : (name kept w : List ℕ) → name ≡ kept → bytes_eq name w ≡ bytes_eq w kept
same_name_back name kept w e = ap (λ n. bytes_eq n w) e ∙ nat_list_eq_equiv.symm kept w

pub listed : {X Y : Type 0} (p : Y → Bool) (f : X → Y) (xs : List X) → list_any p (map f xs) ≡ list_any (λ x. p (f x)) xs
listed p f [] = refl
listed p f (x ∷ xs) = ap (λ b. p (f x) || b) (listed p f xs)

pub some_copied : {X : Type 0} (r : Option (Bor X)) → is_some r ≡ is_some (option_copied r)
some_copied None = refl
some_copied (Some x) = refl

pub some_member : (b : Bool) → is_some (member b) ≡ b
some_member true = refl
some_member false = refl

-- what a map has is there
pub is_there : {S : Type 0} (there : List ℕ → Bool) (m : HashMap (Vec ℕ) (Unit {0}) S) (w : List ℕ) (r : Option (Bor (Unit {0}))) → Agrees m (λ w. member (there w)) → option_copied r ≡ at_name m w → is_some r ≡ there w
is_there there m w r a e = some_copied r ∙ ap is_some (e ∙ a.at w) ∙ some_member (there w)

-- the names of a list, one after the other
pub no_names_yet : {S : Type 0} (m : HashMap (Vec ℕ) (Unit {0}) S) → HasNames [] m m
no_names_yet m = record { at = λ w. refl }

pub one_name : {S : Type 0} (m n o : HashMap (Vec ℕ) (Unit {0}) S) (names : List (List ℕ)) (i : ℕ) (name key : List ℕ) → i < length names → name ≡ get_or names i name → key ≡ name → HasNames (take i names) m n
    → hash.UpdatesBy same_keys (λ k. bytes_eq key k.items) n o (Some tt) → HasNames (take (i + 1) names) m o
one_name m n o names i name key within is same had h = record {
  at = λ w.
      one_kept (bytes_eq w) (take i names) (take (i + 1) names) name (at_name m w) (at_name o w) (at_name n w) (had.at w) (take_more names i name within ∙ ap (λ x. take i names ++ x ∷ []) (sym is))
      (changed key n o (Some tt) h w ∙ ap (λ b. cond b (Some tt) (at_name n w)) (same_name_back key name w same));
}

-- ---- names that have something

-- what is put behind what is found before it
pub put_behind : {V : Type 0} (same : Bool) (v : V) (before : Option V) → (same ≡ true → before ≡ None) → cond same (Some v) before ≡ or_else before (cond same (Some v) None)
put_behind true v before none = ap (λ b. or_else b (Some v)) (sym (none refl))
put_behind false v None none = refl
put_behind false v (Some x) none = refl

pub is_absent : {V : Type 0} (r : Option (Bor V)) (o : Option V) → option_copied r ≡ o → is_some r ≡ false → o ≡ None
is_absent None o e f = sym e
is_absent (Some x) o e f = absurd cc

pub is_present : {V : Type 0} (r : Option (Bor V)) (o : Option V) → option_copied r ≡ o → is_some r ≡ true → is_some o ≡ true
is_present r o e t = ap is_some (sym e) ∙ sym (some_copied r) ∙ t
