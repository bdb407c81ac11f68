-- The nodes of what some symbols derive need no more symbols than these; some are left over.
use Rattle.std.proofs.Common.{◌≡◌, ◌≤◌, ℕ, suc, ◌+◌, ◌-◌, false, true, List, [], ◌∷◌, ◌++◌, length, Option, Some, None, refl, sym, ap, ◌∙◌, append_assoc, inl, inr, arith}
use Rattle.std.proofs.lemmas.List.{append-nil}
use Rattle.std.specs.Prelude.{◌⊎◌, option_map, option_and_then}
use Rattle.lt_tree.specs.declared.specifier.BasicType.{BasicType}
use Rattle.lt_tree.specs.declared.specifier.TypeWord.{TypeWord}
use Rattle.lt_tree.specs.Tree as c
use Rattle.lt_tree.specs.Comma.{followed_by}
use Rattle.lt_tree.specs.Symbols.{Symbol}
use Rattle.lt_tree.specs.TypeWords.{words_alone, gathered, or_as_they_stand, basic_of}
use Rattle.lt_tree.specs.Operators.{Infix, operation, arithmetic, connective}
use Rattle.lt_tree.specs.Grammar as g
use Rattle.lt_tree.specs.Nodes.{Node, in_expression, in_expressions, in_mark, in_bindings, in_types, in_declarator, in_parts}
use Rattle.lt_label_counts.specs.Needs.{own_need, in_mark_behind, needs}

-- Of the symbols up to the rest so many are left over, whatever nodes follow.
pub record Fits (spare : ℕ) (xs : List Node) (ts rest : List Symbol) : Type 0 where
  pub fits : (ys : List Node) → spare + needs 0 (xs ++ ys) + length rest ≤ length ts + needs 0 ys

pub nothing : {ts : List Symbol} → Fits 0 [] ts ts
nothing = record { fits = λ ys. omega arith }

-- one symbol more in front, or behind
pub front : {n : ℕ} {xs : List Node} {s : Symbol} {ts rest : List Symbol} → Fits n xs ts rest → Fits (suc n) xs (s ∷ ts) rest
front f = record { fits = λ ys. let h = f.fits ys in omega (arith, h) }

pub back : {n : ℕ} {xs : List Node} {s : Symbol} {ts rest : List Symbol} → Fits n xs ts (s ∷ rest) → Fits (suc n) xs ts rest
back f = record { fits = λ ys. let h = f.fits ys in omega (arith, h) }

-- one that is not wanted
pub past : {n : ℕ} {xs : List Node} {s : Symbol} {ts rest : List Symbol} → Fits n xs ts rest → Fits n xs (s ∷ ts) rest
past f = record { fits = λ ys. let h = f.fits ys in omega (arith, h) }

pub upto : {n : ℕ} {xs : List Node} {s : Symbol} {ts rest : List Symbol} → Fits n xs ts (s ∷ rest) → Fits n xs ts rest
upto f = record { fits = λ ys. let h = f.fits ys in omega (arith, h) }

pub fewer : {n : ℕ} {xs : List Node} {ts rest : List Symbol} → Fits (suc n) xs ts rest → Fits n xs ts rest
fewer f = record { fits = λ ys. let h = f.fits ys in omega (arith, h) }

pub at_least_none : {n : ℕ} {xs : List Node} {ts rest : List Symbol} → Fits n xs ts rest → Fits 0 xs ts rest
at_least_none f = record { fits = λ ys. let h = f.fits ys in omega (arith, h) }

-- two parts that follow each other
pub both : {n : ℕ} {xs ys : List Node} {ts us rest : List Symbol} → Fits n xs ts us → Fits 0 ys us rest → Fits n (xs ++ ys) ts rest
both {n} {xs} {ys} {ts} {us} {rest} f g = record {
  fits = λ zs.
      let h : n + needs 0 (xs ++ (ys ++ zs)) + length us ≤ length ts + needs 0 (ys ++ zs) = f.fits (ys ++ zs) in
      let k = g.fits zs in
      rw (append_assoc xs ys zs) (omega (arith, h, k));
}

pub both_spare : {xs ys : List Node} {ts us rest : List Symbol} → Fits 1 xs ts us → Fits 1 ys us rest → Fits 2 (xs ++ ys) ts rest
both_spare {xs} {ys} {ts} {us} {rest} f g = record {
  fits = λ zs.
      let h : 1 + needs 0 (xs ++ (ys ++ zs)) + length us ≤ length ts + needs 0 (ys ++ zs) = f.fits (ys ++ zs) in
      let k = g.fits zs in
      rw (append_assoc xs ys zs) (omega (arith, h, k));
}

pub both_one : {xs ys : List Node} {ts us rest : List Symbol} → Fits 0 xs ts us → Fits 1 ys us rest → Fits 1 (xs ++ ys) ts rest
both_one {xs} {ys} {ts} {us} {rest} f g = record {
  fits = λ zs.
      let h : 0 + needs 0 (xs ++ (ys ++ zs)) + length us ≤ length ts + needs 0 (ys ++ zs) = f.fits (ys ++ zs) in
      let k = g.fits zs in
      rw (append_assoc xs ys zs) (omega (arith, h, k));
}

pub first_needs : (x : Node) (ys : List Node) → in_mark_behind x ≡ 0 → needs 0 (x ∷ ys) ≡ own_need x + needs 0 ys
first_needs x ys e = ap (λ n. own_need x + needs n ys) e

-- a node that needs nothing, one symbol or two, and what is below it
pub light : {n : ℕ} {x : Node} {xs : List Node} {ts rest : List Symbol} → own_need x ≡ 0 → in_mark_behind x ≡ 0 → Fits n xs ts rest → Fits n (x ∷ xs) ts rest
light {n} {x} {xs} e d f = record { fits = λ ys. let h = f.fits ys in let k = first_needs x (xs ++ ys) d in omega (arith, h, k, e) }

pub one : {n : ℕ} {x : Node} {xs : List Node} {ts rest : List Symbol} → own_need x ≡ 1 → in_mark_behind x ≡ 0 → Fits (suc n) xs ts rest → Fits n (x ∷ xs) ts rest
one {n} {x} {xs} e d f = record { fits = λ ys. let h = f.fits ys in let k = first_needs x (xs ++ ys) d in omega (arith, h, k, e) }

pub two : {n : ℕ} {x : Node} {xs : List Node} {ts rest : List Symbol} → own_need x ≡ 2 → in_mark_behind x ≡ 0 → Fits (suc (suc n)) xs ts rest → Fits n (x ∷ xs) ts rest
two {n} {x} {xs} e d f = record { fits = λ ys. let h = f.fits ys in let k = first_needs x (xs ++ ys) d in omega (arith, h, k, e) }

-- below a node that needs one
pub below : {n : ℕ} {x : Node} {xs : List Node} {ts rest : List Symbol} → own_need x ≡ 1 → in_mark_behind x ≡ 0 → Fits n (x ∷ xs) ts rest → Fits (suc n) xs ts rest
below {n} {x} {xs} e d f = record { fits = λ ys. let h = f.fits ys in let k = first_needs x (xs ++ ys) d in omega (arith, h, k, e) }

-- ---- marks

passed : (xs ys : List Node) → needs (length xs) (xs ++ ys) ≡ needs 0 ys
passed [] ys = refl
passed (x ∷ xs) ys = passed xs ys

-- a mark needs nothing
pub mark_needs : (m : c.Mark) (ys : List Node) → needs 0 (in_mark m ++ ys) ≡ needs 0 ys
mark_needs (c.mark e id tag bound) ys =
    let inside = in_expression e ++ in_bindings bound in
    let many : suc (length inside) - 1 ≡ length inside = omega arith in
    let none : 0 + needs (suc (length inside) - 1) (inside ++ ys) ≡ needs (suc (length inside) - 1) (inside ++ ys) = omega arith in
    none ∙ ap (λ n. needs n (inside ++ ys)) many ∙ passed inside ys

pub marked : {n : ℕ} {e : c.Expression} {id tag : List ℕ} {bound : c.Bindings} {ts rest : List Symbol} → Fits n (in_expression e ++ in_bindings bound) ts rest → Fits n (in_mark (c.mark e id tag bound)) ts rest
marked {n} {e} {id} {tag} {bound} f = record { fits = λ ys. let h = f.fits [] in let k = mark_needs (c.mark e id tag bound) ys in omega (arith, h, k) }

-- ---- what the trees of some rules have in them

pub in_operation : (op : Infix) (left right : c.Expression) {ts rest : List Symbol}
    → Fits 1 (in_expression left ++ in_expression right) ts rest → Fits 0 (in_expression (operation op left right)) ts rest
in_operation (arithmetic op) left right f = one refl refl f
in_operation (connective op) left right f = one refl refl f

in_followed : (first parts : c.Expressions) → in_expressions (followed_by first parts) ≡ in_expressions first ++ in_expressions parts
in_followed c.no_expressions parts = refl
in_followed (c.an_expression first rest) parts = rw (in_followed rest parts) (sym (append_assoc (in_expression first) (in_expressions rest) (in_expressions parts)))

pub in_longer : (first parts : c.Expressions) {ts us rest : List Symbol}
    → Fits 0 (in_expression (c.Comma first)) ts us → Fits 0 (in_expressions parts) us rest → Fits 0 (in_expression (c.Comma (followed_by first parts))) ts rest
in_longer first parts f g = one refl refl (rw (in_followed first parts) (both (below refl refl f) g))

-- type words have no nodes
words_have_none : (types : c.TypeSpecifiers) (words : List TypeWord) → words_alone types ≡ Some words → in_types types ≡ []
words_have_none c.no_types words e = refl
words_have_none (c.a_type (c.Word word) rest) words e = rest_of (words_alone rest) refl (λ ws f. words_have_none rest ws f) e
  where
    rest_of : (o : Option (List TypeWord)) → words_alone rest ≡ o → ((ws : List TypeWord) → words_alone rest ≡ Some ws → in_types rest ≡ [])
        → option_map (λ ws. word ∷ ws) o ≡ Some words → in_types rest ≡ []
    rest_of None f below e = absurd cc
    rest_of (Some ws) f below e = below ws f
words_have_none (c.a_type (c.Basic t) rest) words e = absurd cc
words_have_none (c.a_type (c.StructTag w) rest) words e = absurd cc
words_have_none (c.a_type (c.Struct w ms) rest) words e = absurd cc
words_have_none (c.a_type (c.EnumTag w) rest) words e = absurd cc
words_have_none (c.a_type (c.Enum w es) rest) words e = absurd cc
words_have_none (c.a_type (c.Named w) rest) words e = absurd cc

in_gathered : (types : c.TypeSpecifiers) → in_types (gathered types) ≡ in_types types
in_gathered types = by_words (words_alone types) refl
  where
    by_type : (words : List TypeWord) → words_alone types ≡ Some words → (o : Option BasicType) → in_types (or_as_they_stand types o) ≡ in_types types
    by_type words e None = refl
    by_type words e (Some type) = sym (words_have_none types words e)

    by_words : (o : Option (List TypeWord)) → words_alone types ≡ o → in_types (or_as_they_stand types (option_and_then basic_of o)) ≡ in_types types
    by_words None e = refl
    by_words (Some words) e = by_type words e (basic_of words)

pub in_specifiers_gathered : (types : c.TypeSpecifiers) {n : ℕ} {ts rest : List Symbol} → Fits n (in_types types) ts rest → Fits n (in_types (gathered types)) ts rest
in_specifiers_gathered types f = rw (in_gathered types) f

-- ---- declarators

-- a name is written or there are more parts than the outer ones, and then there is a symbol for it
abbrev pub IsWritten : Option (List ℕ) → (outer parts : c.Parts) → ℕ → Type 0
IsWritten name outer parts spare = (1 ≤ spare) ⊎ ((name ≡ None) × (parts ≡ outer))

-- what a declarator's parts have before the outer ones
pub record Adds (name : Option (List ℕ)) (outer parts : c.Parts) (ts rest : List Symbol) : Type 0 where
  pub own : List Node
  pub spare : ℕ
  pub extends : in_parts parts ≡ own ++ in_parts outer
  pub fits : Fits spare own ts rest
  pub written : IsWritten name outer parts spare

pub adds_nothing : {outer : c.Parts} {ts : List Symbol} → Adds None outer outer ts ts
adds_nothing = record { own = []; spare = 0; extends = refl; fits = nothing; written = inr (refl, refl) }

-- an array's length or a list of parameters, and the suffixes behind it
pub adds_suffix : (xs : List Node) {outer parts wider : c.Parts} {ts us rest : List Symbol}
    → in_parts wider ≡ xs ++ in_parts parts → Fits 1 xs ts us → Adds None outer parts us rest → Adds None outer wider ts rest
adds_suffix xs {outer} e f a = record {
  own = xs ++ a.own;
  spare = 1;
  extends = e ∙ (ap (λ (l : List Node). xs ++ l) a.extends ∙ sym (append_assoc xs a.own (in_parts outer)));
  fits = both f (at_least_none a.fits);
  written = inl (omega arith);
}

-- a name and its suffixes, or suffixes alone
pub adds_name : {w : List ℕ} {s : Symbol} {outer parts : c.Parts} {ts rest : List Symbol} → Adds None outer parts ts rest → Adds (Some w) outer parts (s ∷ ts) rest
adds_name a = record { own = a.own; spare = suc a.spare; extends = a.extends; fits = front a.fits; written = inl (omega arith) }

-- a declarator in parentheses, and the suffixes behind it
pub adds_nested : {name : Option (List ℕ)} {s : Symbol} {outer suffixed parts : c.Parts} {ts us rest : List Symbol}
    → Adds name suffixed parts ts us → Adds None outer suffixed us rest → Adds name outer parts (s ∷ ts) rest
adds_nested {outer} {suffixed} {parts} a b = record {
  own = a.own ++ b.own;
  spare = 1;
  extends = a.extends ∙ (ap (λ (l : List Node). a.own ++ l) b.extends ∙ sym (append_assoc a.own b.own (in_parts outer)));
  fits = front (both (at_least_none a.fits) (at_least_none b.fits));
  written = inl (omega arith);
}

pub adds_upto : {name : Option (List ℕ)} {outer parts : c.Parts} {s : Symbol} {ts rest : List Symbol} → Adds name outer parts ts (s ∷ rest) → Adds name outer parts ts rest
adds_upto a = record { own = a.own; spare = a.spare; extends = a.extends; fits = upto a.fits; written = a.written }

pub adds_pointer : {name : Option (List ℕ)} {q : c.Qualifiers} {s : Symbol} {outer parts : c.Parts} {ts us rest : List Symbol} → Fits 0 [] ts us → Adds name (c.Pointer q outer) parts us rest → Adds name outer parts (s ∷ ts) rest
adds_pointer f a = record {
  own = a.own;
  spare = suc a.spare;
  extends = a.extends;
  fits = front (record { fits = λ ys. let h = a.fits.fits ys in let k = f.fits [] in omega (arith, h, k) });
  written = inl (omega arith);
}

-- a declarator that is written is a node
pub in_written : (name : Option (List ℕ)) (parts : c.Parts) {ts rest : List Symbol}
    → g.is_missing name parts ≡ false → Adds name c.no_parts parts ts rest → Fits 0 (in_declarator (c.declarator name parts)) ts rest
in_written name parts {ts} {rest} e a = by_cases name parts e (fitting a.written)
  where
    missing : (name : Option (List ℕ)) (parts : c.Parts) → name ≡ None → parts ≡ c.no_parts → g.is_missing name parts ≡ true
    missing None c.no_parts d f = refl
    missing None (c.Pointer q rest) d f = absurd cc
    missing None (c.Array length rest) d f = absurd cc
    missing None (c.Function ps rest) d f = absurd cc
    missing (Some w) parts d f = absurd cc

    fitting : IsWritten name c.no_parts parts a.spare → Fits 1 (in_parts parts) ts rest
    fitting (inl h) = rw (a.extends, append-nil a.own) (record { fits = λ ys. let k = a.fits.fits ys in omega (arith, h, k) })
    fitting (inr h) = let d : g.is_missing name parts ≡ true = missing name parts h.0 h.1 in absurd cc

    by_cases : (name : Option (List ℕ)) (parts : c.Parts) → g.is_missing name parts ≡ false → Fits 1 (in_parts parts) ts rest
        → Fits 0 (in_declarator (c.declarator name parts)) ts rest
    by_cases None c.no_parts e f = absurd cc
    by_cases (Some w) parts e f = one refl refl f
    by_cases None (c.Pointer q rest) e f = one refl refl f
    by_cases None (c.Array length rest) e f = one refl refl f
    by_cases None (c.Function ps rest) e f = one refl refl f
