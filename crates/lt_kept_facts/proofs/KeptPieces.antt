-- What declarations and statements keep: the same is noted of their nodes outside of marks, with marks added and without.
use Rattle.std.specs.Prelude.{ℕ, Bool, List, Option}
use Rattle.lt_tree.specs.declared.specifier.Storage.{Storage}
use Rattle.lt_tree.specs.Tree as c
use Rattle.lt_tree.specs.Nodes.{in_declaration, in_items}
use Rattle.lt_tree.specs.Typing.TypedTree.{Items}
use Rattle.lt_tree.specs.Typing.Entities.{Known, Fact}
use Rattle.lt_tree.specs.Typing.DeclarationTyping.{DeclaredLocals, declaration_by}
use Rattle.lt_tree.specs.Typing.StatementTyping.{Around, items}
use Rattle.lt_mark_typing.specs.Beside.{IsBeside}
use Rattle.lt_mark_typing.specs.Placed.{AreOld}
use Rattle.lt_mark_typing.specs.PlacedInitialisers.{AddsToDeclaration}
use Rattle.lt_mark_typing.specs.PlacedItems.{AddsToItems}
use Rattle.lt_kept_facts.proofs.KeptSteps.{Piece}

-- a declaration as it is
abbrev pub OldDeclarationsKeep : (F G : List Fact) → (ℕ → Bool) → Type 0
OldDeclarationsKeep F G new =
    (effective : Option Storage → Option Storage) (ids : List ℕ) (further : List Bool) (k l : Known) (d : c.Declaration) → AreOld new (in_declaration d) → IsBeside new ids further k l
    → Piece F G new ids further (λ (x y : DeclaredLocals). Unit {0}) k (in_declaration d) l (in_declaration d) (declaration_by effective d k) (declaration_by effective d l)

-- a declaration with marks added in its initialisers
abbrev pub DeclarationsKeep : (F G : List Fact) → (ℕ → Bool) → Type 0
DeclarationsKeep F G new =
    (effective : Option Storage → Option Storage) (ids after : List ℕ) (further : List Bool) (k l : Known) (d e : c.Declaration) → AddsToDeclaration new effective ids after k d e → IsBeside new ids further k l
    → Piece F G new after further (λ (x y : DeclaredLocals). Unit {0}) k (in_declaration d) l (in_declaration e) (declaration_by effective d k) (declaration_by effective e l)

-- the items of a block with marks added
abbrev pub ItemsKeep : (F G : List Fact) → (ℕ → Bool) → Type 0
ItemsKeep F G new =
    (around : Around) (ids after : List ℕ) (further : List Bool) (k l : Known) (them others : c.Items) → AddsToItems new ids after around k them others → IsBeside new ids further k l
    → Piece F G new after further (λ (x y : Items). Unit {0}) k (in_items them) l (in_items others) (items them around k) (items others around l)
