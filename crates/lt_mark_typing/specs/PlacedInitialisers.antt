-- Initialisers and declarations with marks added, each where it may stand. None is added where an object is there from the start.
use Rattle.std.specs.Prelude.{◌≡◌, ℕ, Bool, true, false, List, [], ◌∷◌, Option, Some, None}
use Rattle.lt_tree.specs.declared.specifier.Storage.{Storage}
use Rattle.lt_tree.specs.Tree as c
use Rattle.lt_tree.specs.Nodes.{in_specifiers, in_declarator, in_initialiser, in_init_declarator}
use Rattle.lt_tree.specs.Typing.Types.{CType}
use Rattle.lt_tree.specs.Typing.TypedTree.{Local}
use Rattle.lt_tree.specs.Typing.Entities.{Known, automatic, type_of_object}
use Rattle.lt_tree.specs.Typing.Steps.{Goes}
use Rattle.lt_tree.specs.Typing.Expressions.{as_value}
use Rattle.lt_tree.specs.Typing.Specifying.{Specified, alone, elsewhere}
use Rattle.lt_tree.specs.Typing.Declarators.{Declares}
use Rattle.lt_tree.specs.Typing.Declaring.{kind_of, an_object_of, declaration_faults, declare_object}
use Rattle.lt_tree.specs.Typing.ExpressionTyping.{specifiers, declarator}
use Rattle.lt_tree.specs.Typing.Filling.{Filling, text_in, only_text, begins_with_braces, filling_of}
use Rattle.lt_tree.specs.Typing.InitialiserTyping.{filling_for, initialiser}
use Rattle.lt_tree.specs.Typing.DeclarationTyping.{init_declarator, has_no_declarator}
use Rattle.std.specs.Prelude.{if◌then◌else◌}
use Rattle.lt_mark_typing.specs.Beside.{in_use}
use Rattle.lt_mark_typing.specs.Placed.{AreOld, entered, AddsTo}

mutual
  -- an initialiser for what is left to be filled here
  pub data AddsToInitialiser (new : ℕ → Bool) : List ℕ → List ℕ → Known → Filling → c.Initialiser → c.Initialiser → Type 0 where
    as_it_is : {used : List ℕ} {known : Known} {filling : Filling} {it : c.Initialiser} → AreOld new (in_initialiser it) → AddsToInitialiser new used used known filling it it
    Value : {used after : List ℕ} {known : Known} {filling : Filling} {it other : c.Expression}
        → text_in it ≡ None → text_in other ≡ None → AddsTo new (in_use as_value) used after (entered known) it other
        → AddsToInitialiser new used after known filling (c.Value it) (c.Value other)
    Braces : {used after : List ℕ} {known : Known} {filling : Filling} {is js : c.Initialisers}
        → only_text js ≡ only_text is → begins_with_braces js ≡ begins_with_braces is
        → AddsToInitialisers new used after (entered known) (filling_for (entered known) is filling.left) is js
        → AddsToInitialiser new used after known filling (c.Braces is) (c.Braces js)

  pub data AddsToInitialisers (new : ℕ → Bool) : List ℕ → List ℕ → Known → Filling → c.Initialisers → c.Initialisers → Type 0 where
    no_initialisers : {used : List ℕ} {known : Known} {filling : Filling} → AddsToInitialisers new used used known filling c.no_initialisers c.no_initialisers
    an_initialiser : {used between after : List ℕ} {known : Known} {filling : Filling} {i j : c.Initialiser} {is js : c.Initialisers}
        → AddsToInitialiser new used between known filling i j
        → ((filled : Filling) (next : Known) → initialiser i false filling known ≡ Goes filled next → AddsToInitialisers new between after next filled is js)
        → AddsToInitialisers new used after known filling (c.an_initialiser i is) (c.an_initialiser j js)

-- the initialiser of a whole object of this type that is created where its declaration is reached
pub data AddsToObject (new : ℕ → Bool) : List ℕ → List ℕ → Known → CType → c.Initialiser → c.Initialiser → Type 0 where
  Value : {used after : List ℕ} {known : Known} {t : CType} {it other : c.Expression}
      → text_in it ≡ None → text_in other ≡ None → AddsTo new (in_use as_value) used after (entered known) it other → AddsToObject new used after known t (c.Value it) (c.Value other)
  Braces : {used after : List ℕ} {known : Known} {t : CType} {is js : c.Initialisers}
      → only_text js ≡ only_text is → begins_with_braces js ≡ begins_with_braces is
      → AddsToInitialisers new used after (entered known) (filling_of (entered known) 0 t is) is js → AddsToObject new used after known t (c.Braces is) (c.Braces js)

-- the initialiser of what is declared so, which is an automatic object
abbrev pub AddsToStartOf : (ℕ → Bool) → List ℕ → List ℕ → Specified → Declares → Known → c.Initialiser → c.Initialiser → Type 0
AddsToStartOf new used after it declared known i j =
    (name : List ℕ) × (is_register : Bool) × (declared.name ≡ Some name) × (kind_of known it.storage declared.type ≡ an_object_of automatic is_register)
    × ((n : ℕ) (next : Known) → declare_object automatic is_register declared.node name declared.type known ≡ Goes n next → AddsToObject new used after next (type_of_object next n) i j)

pub data AddsToDeclarators (new : ℕ → Bool) : List ℕ → List ℕ → Specified → Known → List c.InitDeclarator → List c.InitDeclarator → Type 0 where
  no_declarators : {used : List ℕ} {it : Specified} {known : Known} → AddsToDeclarators new used used it known [] []
  a_declarator : {used after : List ℕ} {it : Specified} {known : Known} {d : c.InitDeclarator} {ds es : List c.InitDeclarator}
      → AreOld new (in_init_declarator d) → ((locals : List Local) (next : Known) → init_declarator it d known ≡ Goes locals next → AddsToDeclarators new used after it next ds es)
      → AddsToDeclarators new used after it known (d ∷ ds) (d ∷ es)
  an_initialised : {used between after : List ℕ} {it : Specified} {known : Known} {d : c.Declarator} {i j : c.Initialiser} {ds es : List c.InitDeclarator}
      → AreOld new (in_declarator d)
      → ((declared : Declares) (next : Known) → declarator d it false (declaration_faults it.storage true) known ≡ Goes declared next → AddsToStartOf new used between it declared next i j)
      → ((locals : List Local) (next : Known) → init_declarator it (record { declarator = d; initialiser = Some i }) known ≡ Goes locals next → AddsToDeclarators new between after it next ds es)
      → AddsToDeclarators new used after it known (record { declarator = d; initialiser = Some i } ∷ ds) (record { declarator = d; initialiser = Some j } ∷ es)

-- a declaration, where so much of its storage class has an effect
pub data AddsToDeclaration (new : ℕ → Bool) (effective : Option Storage → Option Storage) : List ℕ → List ℕ → Known → c.Declaration → c.Declaration → Type 0 where
  a_declaration : {used after : List ℕ} {known : Known} {s : c.Specifiers} {ds es : List c.InitDeclarator}
      → AreOld new (in_specifiers s) → has_no_declarator es ≡ has_no_declarator ds
      → ((it : Specified) (next : Known) → specifiers s (if has_no_declarator ds then alone else elsewhere) known ≡ Goes it next
      → AddsToDeclarators new used after (record it { storage = effective it.storage }) next ds es)
      → AddsToDeclaration new effective used after known (record { specifiers = s; declarators = ds }) (record { specifiers = s; declarators = es })
