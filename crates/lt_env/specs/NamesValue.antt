-- The names and tags in scope, as contracts see them.
use Rattle.std.specs.Prelude.{◌≡◌, List, drop}
use Rattle.lt_scope.specs.Names as scope
use Rattle.lt_tree.specs.declared.typed.entity.Entity.{Entity}
use Rattle.lt_tree.specs.declared.typed.entity.Tagged.{Tagged}
use Rattle.lt_tree.specs.Typing.Types.{CType}
use Rattle.lt_tree.specs.Typing.EntityView.{entity_of, tagged_of}
use Rattle.lt_tree.specs.Typing.Entities.{Frame}
use Rattle.lt_env.specs.ScopeFrames.{frame_of, frames_of}

-- frames of names and frames of tags, as many of each, the innermost first
pub record NamesValue : Type 0 where
  pub names : List (List (scope.Bound Entity))
  pub tags : List (List (scope.Bound Tagged))

-- the frames that they stand for, where rows stand for these types
abbrev pub frames_at : List CType → NamesValue → List Frame
frames_at types value = frames_of (entity_of types) tagged_of value.names value.tags

-- what one frame declares
pub record NameFrameValue : Type 0 where
  pub names : List (scope.Bound Entity)
  pub tags : List (scope.Bound Tagged)

abbrev pub frame_at : List CType → NameFrameValue → Frame
frame_at types value = frame_of (entity_of types) tagged_of value.names value.tags

-- the frames around the innermost one are the same
abbrev pub KeepsOuter : NamesValue → NamesValue → Type 0
KeepsOuter old new = (drop 1 new.names ≡ drop 1 old.names) × (drop 1 new.tags ≡ drop 1 old.tags)
