-- Declarations with marks added are typed again.
use Rattle.std.proofs.Common.{◌≡◌, ℕ, List, [], ◌∷◌, Option, Some, None, Bool, true, false, refl, sym, ap, ◌∙◌, subst}
use Rattle.std.specs.Prelude.{◌++◌, if◌then◌else◌}
use Rattle.lt_tree.specs.declared.specifier.Storage.{Storage}
use Rattle.lt_tree.specs.Tree as c
use Rattle.lt_tree.specs.Typing.TypedTree.{Local}
use Rattle.lt_tree.specs.Typing.Entities.{Known, automatic, type_of_object}
use Rattle.lt_tree.specs.Typing.ExpressionTyping.{specifiers}
use Rattle.lt_tree.specs.Typing.Specifying.{Specified, alone, elsewhere}
use Rattle.lt_tree.specs.Typing.Declarators.{Declares}
use Rattle.lt_tree.specs.Typing.Declaring.{an_object_of, kind_of, declaration_faults, length_faults, with_start}
use Rattle.lt_tree.specs.Typing.InitialiserTyping.{object_initialiser}
use Rattle.lt_tree.specs.Typing.DeclarationTyping.{DeclaredLocals, started_object, declare, init_declarators, has_no_declarator, declaration_by}
use Rattle.lt_mark_laws.specs.Added.{AddsLocals}
use Rattle.lt_mark_laws.proofs.Itself as unmarked
use Rattle.lt_object_laws.specs.Renamed.{renumbered, locals_with}
use Rattle.lt_mark_typing.specs.Further.{Agrees}
use Rattle.lt_mark_typing.specs.Beside.{IsBeside, Follows}
use Rattle.lt_mark_typing.specs.PlacedInitialisers as p
use Rattle.lt_mark_typing.specs.PlacedInitialisers.{AddsToObject, AddsToStartOf, AddsToDeclarators, AddsToDeclaration}
use Rattle.lt_mark_typing.proofs.Numbers.{agrees_so_far, later}
use Rattle.lt_mark_typing.proofs.Going.{bind, bind_at, goes_here}
use Rattle.lt_mark_typing.proofs.Steps.{Same, bind_same_at, bind_declares_at}
use Rattle.lt_mark_typing.proofs.Unchanged.{of_specifiers, of_declarator}
use Rattle.lt_mark_typing.proofs.ObjectsThere.{type_known}
use Rattle.lt_mark_typing.proofs.Linked.{kind_known, declaration_known}
use Rattle.lt_mark_typing.proofs.Filled.{locals_joined}
use Rattle.lt_mark_typing.proofs.Declared.{SameNumber, object_declared, start_beside}
use Rattle.lt_mark_typing.proofs.Declarations.{declare_if_named, of_init}
use Rattle.lt_mark_typing.proofs.Initialisers.{AddsStarted, of_object}

-- the local objects that are declared, and what the declaration breaks
abbrev pub AddsLocalsWith : (ℕ → Bool) → (ℕ → ℕ) → List Local → List Local → Type 0
AddsLocalsWith new r xs ys = AddsLocals new (locals_with r xs) ys

pub record AddsDeclared (new : ℕ → Bool) (r : ℕ → ℕ) (a b : DeclaredLocals) : Type 0 where
  pub locals : AddsLocals new (locals_with r a.locals) b.locals
  pub faults : b.faults ≡ a.faults

module _ (new : ℕ → Bool) where
  all_locals : (xs ys us vs : List Local) → AddsLocals new xs ys → AddsLocals new us vs → AddsLocals new (xs ++ us) (ys ++ vs)
  all_locals [] [] us vs h g = g
  all_locals (x ∷ xs) (y ∷ ys) us vs h g = (h.0, all_locals xs ys us vs h.1 g)
  all_locals [] (y ∷ ys) us vs h g = absurd h
  all_locals (x ∷ xs) [] us vs h g = absurd h

  locals_both : (r : ℕ → ℕ) (xs ys us vs : List Local) → AddsLocalsWith new r xs ys → AddsLocalsWith new r us vs → AddsLocalsWith new r (xs ++ us) (ys ++ vs)
  locals_both r xs ys us vs h g = subst (λ l. AddsLocals new l (ys ++ vs)) (sym (locals_joined r xs us)) (all_locals (locals_with r xs) ys (locals_with r us) vs h g)

module _ {new : ℕ → Bool} where
  started_adds : {used after : List ℕ} {further : List Bool} {k : Known} (n m : ℕ) (it other : c.Initialiser) → AddsToObject new used after k (type_of_object k n) it other → {j : Known}
      → ((r : ℕ → ℕ) → Agrees r further → SameNumber r n m) → IsBeside new used further k j
      → Follows new after further (AddsLocalsWith new) (started_object automatic n (Some it) k) (started_object automatic m (Some other) j)
  started_adds {used} {after} {further} {k} n m it other d {j} s b =
      bind (subst (λ t. Follows new after further (AddsStarted new) (object_initialiser false (type_of_object k n) length_faults it k) (object_initialiser false t length_faults other j))
      (sym (ap (type_of_object j) (s (renumbered further) (agrees_so_far further)) ∙ type_known b (renumbered further) (agrees_so_far further) n)) (of_object d b))
      (λ x y k j behind e q b. goes_here (λ r a. ((sym (later e s r a), ((q r a).zeroed, (q r a).parts)), tt))
      (subst (λ t. IsBeside new after behind (with_start n None x.type k) (with_start m None t j)) (sym (q (renumbered behind) (agrees_so_far behind)).type)
      (start_beside n m None None x.type (later e s) (λ r a. refl) b)))

  pub of_start_of : {used after : List ℕ} {further : List Bool} {k : Known} (n : ℕ) (it : Specified) (declared : Declares) (i other : c.Initialiser) → AddsToStartOf new used after it declared k i other → {j : Known}
      → IsBeside new used further k j
      → Follows new after further (AddsLocalsWith new) (declare_if_named it declared.node declared.type (Some i) k declared.name k) (declare_if_named it n declared.type (Some other) j declared.name j)
  of_start_of {used} {after} {further} {k} n it declared i other h {j} b =
      let name = h.0 in
      subst (λ found. Follows new after further (AddsLocalsWith new) (declare_if_named it declared.node declared.type (Some i) k found k) (declare_if_named it n declared.type (Some other) j found j)) (sym h.2)
      (subst (λ what. Follows new after further (AddsLocalsWith new) (declare what declared.node name declared.type (Some i) k) (declare (kind_of j it.storage declared.type) n name declared.type (Some other) j)) (sym h.3)
      (subst (λ what. Follows new after further (AddsLocalsWith new) (declare (an_object_of automatic h.1) declared.node name declared.type (Some i) k) (declare what n name declared.type (Some other) j))
      (sym (kind_known b (renumbered further) (agrees_so_far further) it.storage declared.type ∙ h.3))
      (bind_at (object_declared automatic h.1 declared.node n name declared.type b) (λ a a' m o behind q e s b. started_adds a a' i other (h.4 a m q) s b))))

  of_declarators : {used after : List ℕ} {further : List Bool} {it : Specified} {k : Known} {ds es : List c.InitDeclarator} → AddsToDeclarators new used after it k ds es → {j : Known} → IsBeside new used further k j
      → Follows new after further (AddsLocalsWith new) (init_declarators it ds k) (init_declarators it es j)
  of_declarators p.no_declarators b = goes_here (λ r a. tt) b
  of_declarators (p.a_declarator {it = it} {d = d} h f) b =
      bind_at (of_init it d h b) (λ first first' m n behind q e s b. bind (of_declarators (f first m q) b) (λ rest rest' m n last e' t b.
      goes_here (λ r a. locals_both new r first first' rest rest' (subst (λ l. AddsLocals new (locals_with r first) l) (sym (later e' s r a)) (unmarked.locals new (locals_with r first))) (t r a)) b))
  of_declarators (p.an_initialised {it = it} {d = d} {i = i} {j = other} h f g) b =
      bind_at (bind_declares_at (λ declared known. declare_if_named it declared.node declared.type (Some other) known declared.name known)
      (of_declarator d it false (declaration_faults it.storage true) (λ name further k j r a b built. declaration_known b r a it.storage true name built) h b)
      (λ declared n parameters m o behind q e s b. of_start_of n it declared i other (f declared m q) b))
      (λ first first' m n behind q e l b. bind (of_declarators (g first m q) b) (λ rest rest' m n last e' t b. goes_here (λ r a. locals_both new r first first' rest rest' (later e' l r a) (t r a)) b))

  pub of_declaration_with : {effective : Option Storage → Option Storage} {used after : List ℕ} {further : List Bool} {k : Known} {d e : c.Declaration} → AddsToDeclaration new effective used after k d e → {j : Known}
      → IsBeside new used further k j → Follows new after further (AddsDeclared new) (declaration_by effective d k) (declaration_by effective e j)
  of_declaration_with {further = further} (p.a_declaration {used = us} {after = after} {known = k} {s = s} {ds = ds} {es = es} h e f) {j} b =
      bind_same_at (subst (λ t. Follows new us further (Same {A = Specified}) (specifiers s (if has_no_declarator ds then alone else elsewhere) k) (specifiers s (if t then alone else elsewhere) j)) (sym e)
      (of_specifiers s (if has_no_declarator ds then alone else elsewhere) h b))
      (λ it m n behind q x b. bind (of_declarators (f it m q) b) (λ them those m n last z t b. goes_here (λ r a. record { locals = t r a; faults = ap (λ u. if u then it.faults else []) e }) b))
