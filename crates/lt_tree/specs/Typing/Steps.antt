-- How a unit is gone over: its nodes are numbered in the order of the walk, from parent to child, and judged in the order in which they end, so
-- that the first rule which is broken is the answer.
use Rattle.std.specs.Prelude.{ℕ, ◌+◌, Bool, true, List, [], ◌∷◌, ◌++◌, length, Option, Some, None}
use Rattle.lt_tree.specs.Typing.Rules.{Rule, least}
use Rattle.lt_tree.specs.Typing.Entities.{Known, Frame, no_names, innermost, Object, Fact, Label, Entity, Tagged, bind_name, bind_tag}

-- what going over a part of a unit gives: something, and what is known behind it; or a broken rule, and the number of its node
pub data Outcome (A : Type 0) : Type 0 where
  Goes : A → Known → Outcome A
  Breaks : Rule → ℕ → Outcome A

abbrev pub Walk : Type 0 → Type 0
Walk A = Known → Outcome A

abbrev pub goes_on : {A B : Type 0} → Outcome A → (A → Walk B) → Outcome B
goes_on (Goes a known) rest = rest a known
goes_on (Breaks rule node) rest = Breaks rule node

infixl 10 ◌>>=◌
abbrev pub ◌>>=◌ : {A B : Type 0} → Walk A → (A → Walk B) → Walk B
first >>= rest = λ known. goes_on (first known) rest

infixl 10 ◌>>◌
abbrev pub ◌>>◌ : {A B : Type 0} → Walk A → Walk B → Walk B
first >> rest = λ known. goes_on (first known) (λ _. rest)

abbrev pub gives : {A : Type 0} → A → Walk A
gives a = λ known. Goes a known

-- what is known here
abbrev pub here : Walk Known
here = λ known. Goes known known

abbrev pub changes : (Known → Known) → Walk (Unit {0})
changes f = λ known. Goes tt (f known)

-- ---- nodes

-- the number of the node that begins here
abbrev pub enter : Walk ℕ
enter = λ known. Goes known.next (record known { next = known.next + 1 })

abbrev pub unless_broken : Option Rule → ℕ → Walk (Unit {0})
unless_broken None node = gives tt
unless_broken (Some rule) node = λ known. Breaks rule node

-- a node ends where these rules are broken: the least of them counts
abbrev pub settle : ℕ → List Rule → Walk (Unit {0})
settle node rules = unless_broken (least rules) node

-- ---- scopes

abbrev pub left : {A : Type 0} → List Frame → Outcome A → Outcome (A × Frame)
left frames (Goes a known) = Goes (a, innermost known.frames) (record known { frames = frames })
left frames (Breaks rule node) = Breaks rule node

-- in a frame like this one, which is left again; also what the frame is then
abbrev pub within : {A : Type 0} → Frame → Walk A → Walk (A × Frame)
within frame part = λ known. left known.frames (part (record known { frames = frame ∷ known.frames }))

-- in a block of its own, C11 6.2.1p4
abbrev pub in_block : {A : Type 0} → Walk A → Walk A
in_block part = within no_names part >>= (λ r. gives r.0)

abbrev pub marked_again : {A : Type 0} → Bool → Outcome A → Outcome A
marked_again was (Goes a known) = Goes a (record known { is_unmarked = was })
marked_again was (Breaks rule node) = Breaks rule node

-- in a constant expression or in the operand of `sizeof`, where no mark stands
abbrev pub without_marks : {A : Type 0} → Walk A → Walk A
without_marks part = λ known. marked_again known.is_unmarked (part (record known { is_unmarked = true }))

-- ---- what is found

-- one more object, and its number
abbrev pub add_object : Object → Walk ℕ
add_object object = λ known. Goes (length known.objects) (record known { objects = known.objects ++ object ∷ [] })

abbrev pub binds : List ℕ → Entity → Walk (Unit {0})
binds name entity = changes (bind_name name entity)

abbrev pub tags : List ℕ → Tagged → Walk (Unit {0})
tags name tagged = changes (bind_tag name tagged)

abbrev pub adds_label : Label → Walk (Unit {0})
adds_label label = changes (λ known. record known { labels = known.labels ++ label ∷ [] })

abbrev pub notes : Fact → Walk (Unit {0})
notes fact = changes (λ known. record known { facts = known.facts ++ fact ∷ [] })
