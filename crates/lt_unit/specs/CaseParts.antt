-- What one statement of a `switch` gives, with its labels.
use Rattle.std.specs.Prelude.{List, Option}
use Rattle.lt_model.specs.declared.scalar.Scalar.{Scalar}
use Rattle.lt_tree.specs.Tree as c
use Rattle.lt_tree.specs.Typing.TypedTree as e
use Rattle.lt_tree.specs.Typing.Steps.{Walk, ◌>>=◌, gives, in_block}
use Rattle.lt_tree.specs.Typing.StatementTyping.{Around, Seen, labels, statement}

-- the labels, the statement, and what the labels up to here have
pub record CaseMade : Type 0 where
  pub labels : List e.Label
  pub body : e.Statement
  pub seen : Seen

abbrev pub case_made : List e.Label → e.Statement → Seen → CaseMade
case_made labels body seen = record { labels = labels; body = body; seen = seen }

abbrev pub case_walk : List c.Label → c.Statement → Option Scalar → Seen → Around → Walk CaseMade
case_walk list first s seen around = do
  it ← labels list s seen
  body ← in_block (statement first around)
  gives (case_made it.labels body it.seen)
