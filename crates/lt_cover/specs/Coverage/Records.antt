-- The rows that CSV reads of a text, in the midst of it.
use Rattle.std.specs.Prelude.{◌≡◌, ◌++◌, ℕ, List, [], ◌∷◌, MatchOption}
use Rattle.csv.specs.Machine.{Read, next_record}
use Rattle.csv.specs.Reading.{AreRecords, default_config}
use Rattle.csv.specs.declared.parser.State.{State}
use Rattle.csv.specs.declared.parser.State.TheVariants as st
use Rattle.csv.specs.declared.parser.Action.{Action}
use Rattle.csv.specs.declared.parser.Action.TheVariants as act
use Rattle.lt_cover.specs.declared.records.Position.{Position}
use Rattle.lt_cover.specs.declared.records.Position.TheVariants.{RowStart, FieldStart, InField, InQuotes, BehindQuote, BehindReturn}
use Rattle.lt_cover.specs.declared.records.Effect.{Effect}
use Rattle.lt_cover.specs.declared.records.Effect.TheVariants.{Nothing, JoinsField, EndsField, EndsRow}
use Rattle.lt_cover.specs.declared.records.Records.{Records}

-- the same in the words of CSV
abbrev pub state_of : Position → State
state_of RowStart = st.StartRecord
state_of FieldStart = st.StartField
state_of InField = st.InField
state_of InQuotes = st.InQuoted
state_of BehindQuote = st.AfterQuote
state_of BehindReturn = st.AfterCr

abbrev pub action_of : Effect → Action
action_of Nothing = act.Skip
action_of JoinsField = act.Copy
action_of EndsField = act.EndField
action_of EndsRow = act.EndRecord

abbrev pub taken : Position × Effect → State × Action
taken to = (state_of to.0, action_of to.1)

-- These are the rows of the rest of a text, the first of which has these fields and bytes already.
abbrev pub AreRowsOfRest : State → List (List ℕ) → List ℕ → List ℕ → List (List (List ℕ)) → Type 0
AreRowsOfRest state fields bytes rest rows =
    MatchOption (next_record default_config state fields bytes rest)
    (rows ≡ [])
    (λ (row : Read). (later : List (List (List ℕ))) × (rows ≡ row.0 ∷ later) × AreRecords default_config row.1 row.2 later)

-- These are all rows: those read so far, and those of the rest.
abbrev pub Completes : Records → List ℕ → List (List (List ℕ)) → Type 0
Completes records rest all =
    (more : List (List (List ℕ))) × (all ≡ records.rows.items ++ more)
    × AreRowsOfRest (state_of records.position) records.fields.items records.bytes.items rest more
