-- An expression of which predicates may copy each node is simple where the tags are in scope.
use Rattle.std.proofs.Common.{◌≡◌, refl, sym, subst, ℕ, Bool, true, false, ◌&&◌, List, [], ◌∷◌, ◌++◌, Option}
use Rattle.std.specs.Prelude.{◌||◌}
use Rattle.std.specs.List.{AllByRecursion, list_all, list_any}
use Rattle.std.specs.Str.{bytes_eq}
use Rattle.std.proofs.lemmas.Slice.Eq.{bytes_eq-Decides}
use Rattle.lt_tree.specs.Tree as c
use Rattle.lt_tree.specs.Nodes.{Node, if_written, in_expression, in_expressions, in_marks, in_mark, in_bindings, in_specifiers, in_declarator, in_parts, in_parameters, in_parameter_list}
use Rattle.lt_tree.specs.Typing.Entities.{Frame}
use Rattle.lt_objectives.specs.Tags.{Tags, is_known_type, are_known_types, are_known, is_known_declarator, are_known_parts, are_known_parameters, is_known_list, fits, fitting}
use Rattle.lt_erased_typing.specs.Erasable.{IsKnownType, AreKnownTypes, AreKnown}
use Rattle.lt_erased_typing.specs.Simple.{IsSimpleWith, AreSimple, AreSimpleMarks, IsSimpleMark, AreSimpleBindings, IsSimpleDeclarator, AreSimpleParts, AreSimpleParameters, IsSimpleList}
use Rattle.lt_simple_copies.specs.Scopes.{IsInScope, AreInScope}

-- each of these nodes may be copied
abbrev pub AllFit : Tags → List Node → Type 0
AllFit tags nodes = AllByRecursion (λ node. fits tags node ≡ true) nodes

both : (a b : Bool) → (a && b) ≡ true → (a ≡ true) × (b ≡ true)
both true b is = (refl, is)
both false b is = absurd cc

pub all_fit_of : (tags : Tags) (nodes : List Node) → list_all (λ it. it) (fitting tags nodes) ≡ true → AllFit tags nodes
all_fit_of tags [] is = tt
all_fit_of tags (node ∷ nodes) is =
    let parts : (fits tags node ≡ true) × (list_all (λ it. it) (fitting tags nodes) ≡ true) = both (fits tags node) (list_all (λ it. it) (fitting tags nodes)) is in
    (parts.0, all_fit_of tags nodes parts.1)

-- the nodes of two parts, one behind the other
split : (tags : Tags) (xs ys : List Node) → AllFit tags (xs ++ ys) → AllFit tags xs × AllFit tags ys
split tags [] ys all = (tt, all)
split tags (x ∷ xs) ys all = let rest : AllFit tags xs × AllFit tags ys = split tags xs ys all.1 in ((all.0, rest.0), rest.1)

-- ---- type names

among : (frames : List Frame) (tag other : List ℕ) (rest : Bool) (same : Bool) → bytes_eq tag other ≡ same
    → (same || rest) ≡ true → IsInScope frames other → (rest ≡ true → IsInScope frames tag) → IsInScope frames tag
among frames tag other rest true is found here others = subst (IsInScope frames) (sym ((bytes_eq-Decides tag other).0 is)) here
among frames tag other rest false is found here others = others found

known_tag : (frames : List Frame) (tag : List ℕ) (tags : Tags) → AreInScope frames tags → list_any (bytes_eq tag) tags ≡ true → IsInScope frames tag
known_tag frames tag [] there found = absurd cc
known_tag frames tag (other ∷ tags) there found =
    among frames tag other (list_any (bytes_eq tag) tags) (bytes_eq tag other) refl found there.0 (known_tag frames tag tags there.1)

known_type : (frames : List Frame) (tags : Tags) → AreInScope frames tags → (it : c.TypeSpecifier) → is_known_type tags it ≡ true → IsKnownType frames it
known_type frames tags there (c.StructTag tag) is = known_tag frames tag tags there is
known_type frames tags there (c.Struct _ _) is = absurd cc
known_type frames tags there (c.Enum _ _) is = absurd cc
known_type frames tags there _ is = tt

known_types : (frames : List Frame) (tags : Tags) → AreInScope frames tags → (them : c.TypeSpecifiers) → are_known_types tags them ≡ true → AreKnownTypes frames them
known_types frames tags there c.no_types is = tt
known_types frames tags there (c.a_type first rest) is =
    let parts : (is_known_type tags first ≡ true) × (are_known_types tags rest ≡ true) = both (is_known_type tags first) (are_known_types tags rest) is in
    (known_type frames tags there first parts.0, known_types frames tags there rest parts.1)

known_specifiers : (frames : List Frame) (tags : Tags) → AreInScope frames tags → (s : c.Specifiers) → are_known tags s ≡ true → AreKnown frames s
known_specifiers frames tags there (c.specifiers words types) is = known_types frames tags there types is

-- ---- expressions

-- the nodes of a declarator's parts, behind its own
parts_of : (tags : Tags) (name : Option (List ℕ)) (ps : c.Parts) → AllFit tags (in_declarator (c.declarator name ps)) → AllFit tags (in_parts ps)
parts_of tags name ps all = (split tags (if_written name ps) (in_parts ps) all).1

mutual
  pub simple : (frames : List Frame) (tags : Tags) → AreInScope frames tags → (e : c.Expression) → AllFit tags (in_expression e) → IsSimpleWith true frames e
  simple frames tags there (c.Name name) all = tt
  simple frames tags there (c.Constant text) all = tt
  simple frames tags there (c.Text bytes) all = refl
  simple frames tags there (c.Index whole index) all =
      let nodes : AllFit tags (in_expression whole) × AllFit tags (in_expression index) = split tags (in_expression whole) (in_expression index) all.1 in
      (simple frames tags there whole nodes.0, simple frames tags there index nodes.1)
  simple frames tags there (c.Call callee arguments) all = tt
  simple frames tags there (c.Member whole name) all = simple frames tags there whole all.1
  simple frames tags there (c.Arrow pointer name) all = simple frames tags there pointer all.1
  simple frames tags there (c.PostInc target) all = tt
  simple frames tags there (c.PostDec target) all = tt
  simple frames tags there (c.PreInc target) all = tt
  simple frames tags there (c.PreDec target) all = tt
  simple frames tags there (c.Unary op operand) all = simple frames tags there operand all.1
  simple frames tags there (c.SizeofExpr operand) all = simple frames tags there operand all.1
  simple frames tags there (c.SizeofType s d) all =
      let names : (are_known tags s ≡ true) × (is_known_declarator tags d ≡ true) = both (are_known tags s) (is_known_declarator tags d) all.0 in
      let nodes : AllFit tags (in_specifiers s) × AllFit tags (in_declarator d) = split tags (in_specifiers s) (in_declarator d) all.1 in
      (known_specifiers frames tags there s names.0, simple_declarator frames tags there d names.1 nodes.1)
  simple frames tags there (c.Cast s d operand) all =
      let names : (are_known tags s ≡ true) × (is_known_declarator tags d ≡ true) = both (are_known tags s) (is_known_declarator tags d) all.0 in
      let nodes : AllFit tags (in_specifiers s ++ in_declarator d) × AllFit tags (in_expression operand) = split tags (in_specifiers s ++ in_declarator d) (in_expression operand) all.1 in
      let inner : AllFit tags (in_specifiers s) × AllFit tags (in_declarator d) = split tags (in_specifiers s) (in_declarator d) nodes.0 in
      (known_specifiers frames tags there s names.0, simple_declarator frames tags there d names.1 inner.1, simple frames tags there operand nodes.1)
  simple frames tags there (c.Binary op left right) all =
      let nodes : AllFit tags (in_expression left) × AllFit tags (in_expression right) = split tags (in_expression left) (in_expression right) all.1 in
      (simple frames tags there left nodes.0, simple frames tags there right nodes.1)
  simple frames tags there (c.Logical op left right) all =
      let nodes : AllFit tags (in_expression left) × AllFit tags (in_expression right) = split tags (in_expression left) (in_expression right) all.1 in
      (simple frames tags there left nodes.0, simple frames tags there right nodes.1)
  simple frames tags there (c.Conditional test left right) all =
      let nodes : AllFit tags (in_expression test ++ in_expression left) × AllFit tags (in_expression right) = split tags (in_expression test ++ in_expression left) (in_expression right) all.1 in
      let inner : AllFit tags (in_expression test) × AllFit tags (in_expression left) = split tags (in_expression test) (in_expression left) nodes.0 in
      (simple frames tags there test inner.0, simple frames tags there left inner.1, simple frames tags there right nodes.1)
  simple frames tags there (c.Assign op target value) all = tt
  simple frames tags there (c.Comma c.no_expressions) all = absurd (let no : false ≡ true = all.0 in cc)
  simple frames tags there (c.Comma (c.an_expression first c.no_expressions)) all = absurd (let no : false ≡ true = all.0 in cc)
  simple frames tags there (c.Comma (c.an_expression first (c.an_expression second rest))) all = simple_expressions frames tags there (c.an_expression first (c.an_expression second rest)) all.1
  simple frames tags there (c.Marked c.no_marks value) all = absurd (let no : false ≡ true = all.0 in cc)
  simple frames tags there (c.Marked (c.a_mark first rest) value) all =
      let nodes : AllFit tags (in_marks (c.a_mark first rest)) × AllFit tags (in_expression value) = split tags (in_marks (c.a_mark first rest)) (in_expression value) all.1 in
      (simple_marks frames tags there (c.a_mark first rest) nodes.0, simple frames tags there value nodes.1)
  simple frames tags there (c.Decide operand when_true when_false tag) all = simple frames tags there operand all.1
  simple frames tags there (c.After operand id tag) all = simple frames tags there operand all.1

  simple_expressions : (frames : List Frame) (tags : Tags) → AreInScope frames tags → (them : c.Expressions) → AllFit tags (in_expressions them) → AreSimple true frames them
  simple_expressions frames tags there c.no_expressions all = tt
  simple_expressions frames tags there (c.an_expression first rest) all =
      let nodes : AllFit tags (in_expression first) × AllFit tags (in_expressions rest) = split tags (in_expression first) (in_expressions rest) all in
      (simple frames tags there first nodes.0, simple_expressions frames tags there rest nodes.1)

  simple_marks : (frames : List Frame) (tags : Tags) → AreInScope frames tags → (them : c.Marks) → AllFit tags (in_marks them) → AreSimpleMarks true frames them
  simple_marks frames tags there c.no_marks all = tt
  simple_marks frames tags there (c.a_mark first rest) all =
      let nodes : AllFit tags (in_mark first) × AllFit tags (in_marks rest) = split tags (in_mark first) (in_marks rest) all in
      (simple_mark frames tags there first nodes.0, simple_marks frames tags there rest nodes.1)

  simple_mark : (frames : List Frame) (tags : Tags) → AreInScope frames tags → (it : c.Mark) → AllFit tags (in_mark it) → IsSimpleMark true frames it
  simple_mark frames tags there (c.mark predicate id tag bound) all =
      let nodes : AllFit tags (in_expression predicate) × AllFit tags (in_bindings bound) = split tags (in_expression predicate) (in_bindings bound) all.1 in
      (simple frames tags there predicate nodes.0, simple_bindings frames tags there bound nodes.1)

  simple_bindings : (frames : List Frame) (tags : Tags) → AreInScope frames tags → (them : c.Bindings) → AllFit tags (in_bindings them) → AreSimpleBindings true frames them
  simple_bindings frames tags there c.no_bindings all = tt
  simple_bindings frames tags there (c.a_binding name value rest) all =
      let nodes : AllFit tags (in_expression value) × AllFit tags (in_bindings rest) = split tags (in_expression value) (in_bindings rest) all in
      (simple frames tags there value nodes.0, simple_bindings frames tags there rest nodes.1)

  simple_declarator : (frames : List Frame) (tags : Tags) → AreInScope frames tags → (d : c.Declarator) → is_known_declarator tags d ≡ true → AllFit tags (in_declarator d)
      → IsSimpleDeclarator true frames d
  simple_declarator frames tags there (c.declarator name ps) known all = simple_parts frames tags there ps known (parts_of tags name ps all)

  simple_parts : (frames : List Frame) (tags : Tags) → AreInScope frames tags → (them : c.Parts) → are_known_parts tags them ≡ true → AllFit tags (in_parts them) → AreSimpleParts true frames them
  simple_parts frames tags there c.no_parts known all = tt
  simple_parts frames tags there (c.Pointer qualifiers rest) known all = simple_parts frames tags there rest known all
  simple_parts frames tags there (c.Array c.absent rest) known all = simple_parts frames tags there rest known all
  simple_parts frames tags there (c.Array (c.present length) rest) known all =
      let nodes : AllFit tags (in_expression length) × AllFit tags (in_parts rest) = split tags (in_expression length) (in_parts rest) all in
      (simple frames tags there length nodes.0, simple_parts frames tags there rest known nodes.1)
  simple_parts frames tags there (c.Function them rest) known all =
      let names : (are_known_parameters tags them ≡ true) × (are_known_parts tags rest ≡ true) = both (are_known_parameters tags them) (are_known_parts tags rest) known in
      let nodes : AllFit tags (in_parameters them) × AllFit tags (in_parts rest) = split tags (in_parameters them) (in_parts rest) all in
      (refl, simple_parameters frames tags there them names.0 nodes.0, simple_parts frames tags there rest names.1 nodes.1)

  simple_parameters : (frames : List Frame) (tags : Tags) → AreInScope frames tags → (them : c.Parameters) → are_known_parameters tags them ≡ true → AllFit tags (in_parameters them)
      → AreSimpleParameters true frames them
  simple_parameters frames tags there c.Unstated known all = tt
  simple_parameters frames tags there c.Void known all = tt
  simple_parameters frames tags there (c.Listed list) known all = simple_list frames tags there list known all
  simple_parameters frames tags there (c.Open list) known all = simple_list frames tags there list known all

  simple_list : (frames : List Frame) (tags : Tags) → AreInScope frames tags → (them : c.ParameterList) → is_known_list tags them ≡ true → AllFit tags (in_parameter_list them)
      → IsSimpleList true frames them
  simple_list frames tags there c.no_parameters known all = tt
  simple_list frames tags there (c.a_parameter s d rest) known all =
      let names : ((are_known tags s && is_known_declarator tags d) ≡ true) × (is_known_list tags rest ≡ true) = both (are_known tags s && is_known_declarator tags d) (is_known_list tags rest) known in
      let heads : (are_known tags s ≡ true) × (is_known_declarator tags d ≡ true) = both (are_known tags s) (is_known_declarator tags d) names.0 in
      let nodes : AllFit tags (in_specifiers s ++ in_declarator d) × AllFit tags (in_parameter_list rest) = split tags (in_specifiers s ++ in_declarator d) (in_parameter_list rest) all in
      let inner : AllFit tags (in_specifiers s) × AllFit tags (in_declarator d) = split tags (in_specifiers s) (in_declarator d) nodes.0 in
      (known_specifiers frames tags there s heads.0, simple_declarator frames tags there d heads.1 inner.1, simple_list frames tags there rest names.1 nodes.1)
