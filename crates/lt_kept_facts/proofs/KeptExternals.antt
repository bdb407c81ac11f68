-- Externals and units with marks added in the bodies of functions note the same of their nodes.
use Rattle.std.proofs.Common.{◌≡◌, refl, ap, ◌∙◌, ℕ, Bool, true, List, [], ◌∷◌, ◌++◌, Option, option_map}
use Rattle.std.specs.Prelude.{unwrap_or}
use Rattle.lt_tree.specs.Tree as c
use Rattle.lt_tree.specs.Nodes.{an_external, in_mark, in_specifiers, in_declarator, in_items, in_external, nodes}
use Rattle.lt_tree.specs.Typing.Types.{CType}
use Rattle.lt_tree.specs.Typing.Entities.{Known, Fact, a_function, bind_name}
use Rattle.lt_tree.specs.Typing.Specifying.{elsewhere}
use Rattle.lt_tree.specs.Typing.Declarators.{Parameters, Declares}
use Rattle.lt_tree.specs.Typing.Declaring.{definition_faults, with_declared}
use Rattle.lt_tree.specs.Typing.ExpressionTyping.{mark}
use Rattle.lt_tree.specs.Typing.UnitTyping.{around_body, frame_of, objects_of, defines, external, externals}
use Rattle.lt_tree_laws.specs.Typing.NodeNumbers.{GoesOver}
use Rattle.lt_typed_nodes.specs.Laws.{NotesItsNodes}
use Rattle.lt_mark_typing.specs.Renumbered.{parameters_with, frames_with}
use Rattle.lt_mark_typing.specs.Further.{Agrees}
use Rattle.lt_mark_typing.specs.Beside.{IsBeside}
use Rattle.lt_mark_typing.specs.Laws.{ExpressionsAreTypedAgain}
use Rattle.lt_mark_typing.specs.Placed.{entered}
use Rattle.lt_mark_typing.specs.PlacedItems.{AddsToItems}
use Rattle.lt_mark_typing.specs.PlacedUnits as p
use Rattle.lt_mark_typing.specs.PlacedUnits.{in_body, AddsToExternal, AddsToUnit}
use Rattle.lt_mark_typing.proofs.Going.{entered_beside}
use Rattle.lt_mark_typing.proofs.Names.{frames_known}
use Rattle.lt_mark_typing.proofs.Steps.{frames_beside}
use Rattle.lt_mark_typing.proofs.Unchanged.{of_declarator}
use Rattle.lt_mark_typing.proofs.Declared.{function_beside}
use Rattle.lt_mark_typing.proofs.Units as u
use Rattle.lt_mark_typing.proofs.Units.{frame_there, definition_known}
use Rattle.lt_kept_facts.proofs.KeptPieces.{OldDeclarationsKeep, DeclarationsKeep}
use Rattle.lt_kept_facts.proofs.KeptSteps.{Part, Piece, done, joined, after, grouped, judges, unnoted}
use Rattle.lt_kept_facts.proofs.KeptLeaves.{still_part, joined_same, joined_declares_at}
use Rattle.lt_kept_facts.proofs.KeptNoted.{Noted, moved, noted_within, with_functions, with_known}
use Rattle.lt_kept_facts.proofs.KeptOld.{of_specs, of_decl}
use Rattle.lt_kept_facts.proofs.KeptDeclared.{function_stays}
use Rattle.lt_kept_facts.proofs.KeptStatements.{items_keep}

-- what is known where a function of this name and type is declared
abbrev function_in : List ℕ → CType → Known → Known
function_in name t known = bind_name name a_function (with_declared name t known)

function_part : (name : List ℕ) (t : CType) (k : Known) → Part k.next k.facts [] (function_in name t k)
function_part name t k = still_part k (function_in name t k) (function_stays name t k)

module _ {F G : List Fact} {new : ℕ → Bool} (numbered : (it : c.Mark) (known : Known) → GoesOver (in_mark it) known (mark it known)) (noting : (it : c.Mark) (known : Known) → NotesItsNodes known (mark it known))
    (again : ExpressionsAreTypedAgain) (old : OldDeclarationsKeep F G new) (declared : DeclarationsKeep F G new) where
  -- a function with its body
  of_definition : {ids last : List ℕ} {further : List Bool} (n m i : ℕ) (it : Declares) (parameters : Option Parameters) {is js : c.Items} (k l : Known) → AddsToItems new ids last (around_body it.type) (in_body it k) is js
      → ((r : ℕ → ℕ) → Agrees r further → parameters ≡ option_map (parameters_with r) it.parameters) → IsBeside new ids further k l
      → Noted F G k.next k.facts (in_items is) l.next l.facts (in_items js) (defines n (unwrap_or it.name []) it is k) (defines m (unwrap_or it.name []) (record it { node = i; parameters = parameters }) js l)
  of_definition {ids} {last} {further} n m i it parameters {is} {js} k l d e b =
      let name = unwrap_or it.name [] in
      let first : Known = function_in name it.type k in
      let second : Known = function_in name it.type l in
      let there : IsBeside new ids further first second = function_beside name it.type b in
      let inside : IsBeside new ids further (in_body it k) (record second { frames = frame_of parameters ∷ second.frames }) =
      frames_beside (frame_of it.parameters ∷ first.frames) (frame_of parameters ∷ second.frames)
      (λ r g. ap (λ frames. frame_of parameters ∷ frames) (frames_known there r g) ∙ ap (λ them. frame_of them ∷ frames_with r first.frames) (e r g) ∙ ap (λ frame. frame ∷ frames_with r first.frames) (frame_there r it.parameters)) there in
      moved (function_part name it.type k) (function_part name it.type l) (λ f g. refl)
      (with_functions (λ x k. k.functions ++ record { node = n; name = name; type = it.type; parameters = objects_of it.parameters; body = x.0 } ∷ []) (λ y l. l.functions ++ record { node = m; name = name; type = it.type; parameters = objects_of parameters; body = y.0 } ∷ [])
      (noted_within first.frames second.frames (items_keep numbered noting again declared (around_body it.type) ids last further (in_body it k) (record second { frames = frame_of parameters ∷ second.frames }) is js d inside)))

  pub of_external : {ids last : List ℕ} {further : List Bool} {k : Known} {x y : c.External} → AddsToExternal new ids last k x y → (l : Known) → IsBeside new ids further k l
      → Piece F G new last further (λ (v w : Unit {0}). Unit {0}) k (in_external x) l (in_external y) (external x k) (external y l)
  of_external (p.Defines {known = k} {s} {d} {is} {js} g h f) l b = unnoted (an_external (c.Defines s d is)) (an_external (c.Defines s d js)) refl refl (λ whole n zs. refl) (λ whole n zs. refl)
      (grouped (in_specifiers s) (in_declarator d) (in_items is) (in_specifiers s) (in_declarator d) (in_items js)
      (joined_same (of_specs numbered noting s elsewhere (entered k) (entered l) g (entered_beside b)) (λ it m n q flags b.
      joined_declares_at (λ declared n. defines l.next (unwrap_or declared.name []) declared js n)
      (of_declarator d it true (definition_faults it.storage) (λ name further k j r g b built. definition_known b r g it.storage name built) h b)
      (of_decl numbered noting d it true (definition_faults it.storage) (λ name further k j r g b built. definition_known b r g it.storage name built) m n h b)
      (λ declared i parameters m' n r flags e b. with_known (u.of_definition k.next l.next i declared parameters is js (f it m declared m' q r) e b) (of_definition k.next l.next i declared parameters m' n (f it m declared m' q r) e b)))))
  of_external {further = further} (p.Declared {known = k} {d} h) l b = unnoted (an_external (c.Declared d)) (an_external (c.Declared d)) refl refl (λ whole n zs. refl) (λ whole n zs. refl)
      (after (old (λ class. class) _ further (entered k) (entered l) d h (entered_beside b)) (λ it other m n q q' r flags b. judges k.next l.next it.faults other.faults b))

  pub of_externals : {ids last : List ℕ} {further : List Bool} {k : Known} {xs ys : List c.External} → AddsToUnit new ids last k xs ys → (l : Known) → IsBeside new ids further k l
      → Piece F G new last further (λ (v w : Unit {0}). Unit {0}) k (nodes xs) l (nodes ys) (externals xs k) (externals ys l)
  of_externals p.no_externals l b = done tt b
  of_externals (p.an_external d f) l b = joined (of_external d l b) (λ v w m n q q' r flags b. of_externals (f v m q) n b)
