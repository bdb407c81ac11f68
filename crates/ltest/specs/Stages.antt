-- What each stage of a command gives: what a file stands for, or why it stands for nothing.
use Rattle.std.specs.Prelude.{◌≡◌, ℕ, List, length, Option, Some, None, Result, Ok, Err}
use Rattle.lt_model.specs.declared.scalar.DataModel.{DataModel}
use Rattle.lt_token.specs.Answer.{IsAnswer, lexed}
use Rattle.lt_tree.specs.UnitView.{unit_of}
use Rattle.lt_tree.specs.Typing.ProgramView.{program_of}
use Rattle.lt_tree.specs.Typing.UnitTyping.{IsProgramOf}
use Rattle.lt_tree.specs.declared.typed.program.Program.{Program}
use Rattle.lt_lex.specs.Lexed.{tokens_of}
use Rattle.lt_lex.specs.declared.tokens.Tokens.{Tokens}
use Rattle.lt_decl.specs.declared.parse.Parsed.{Parsed}
use Rattle.lt_entry.specs.declared.test.Suite.{Suite}
use Rattle.lt_entry.specs.Suites.{IsSuite}
use Rattle.lt_input_names.specs.Blocks.{specification_of}
use Rattle.lt_input_names.specs.declared.block.Specification.{Specification}
use Rattle.lt_cover.specs.Coverage.Table.{Table}
use Rattle.lt_cover.specs.Coverage.Text.{IsCoverText}
use Rattle.lt_answers.specs.Programs.{Spells, SpellsNone, HasNoProgram}
use Rattle.lt_answers.specs.Entries.{Specifies, SpecifiesNone, IsNoSuite, IsOld, IsNoOld, IsNoCoverage}
use Rattle.lt_answers.specs.Replays.{Sources, IsCovered, IsMerged, AreMixed, Refuses}
use Rattle.lt_answers.specs.declared.status.Refusal.{Refusal}
use Rattle.ltest.specs.declared.stops.TextStop.{TextStop}
use Rattle.ltest.specs.declared.stops.TextStop.TheVariants.{Refused, NoMemory}

-- Why nothing is given: a refusal of which this holds, or want of memory.
abbrev pub StopsBy : (Refusal → Type 0) → TextStop → Type 0
StopsBy Is (Refused why) = Is why
StopsBy Is NoMemory = Unit {0}

-- ---- programs

-- These are the tokens of the text, and its length is known.
abbrev pub AreTokensOf : List ℕ → Tokens → Type 0
AreTokensOf text tokens = IsAnswer text (lexed (tokens_of tokens)) × (tokens.length ≡ length text)

-- the tokens of a text, or why it has none
abbrev pub GivesTokens : List ℕ → Result Tokens TextStop → Type 0
GivesTokens text (Ok tokens) = AreTokensOf text tokens
GivesTokens text (Err stop) = StopsBy (SpellsNone text) stop

-- The text spells the unit, whose nodes begin at the spots.
abbrev pub SpellsParsed : List ℕ → Parsed → Type 0
SpellsParsed text parsed = Spells text (unit_of parsed.unit) parsed.spots.items

-- the unit that a text spells, or why it spells none
abbrev pub GivesUnit : List ℕ → Result Parsed TextStop → Type 0
GivesUnit text (Ok parsed) = SpellsParsed text parsed
GivesUnit text (Err stop) = StopsBy (SpellsNone text) stop

-- the typed program of a unit, or why a text that spells the unit has none
abbrev pub TypesUnit : DataModel → Parsed → Result Program TextStop → Type 0
TypesUnit model parsed (Ok program) = IsProgramOf model (unit_of parsed.unit) (program_of program)
TypesUnit model parsed (Err stop) = (text : List ℕ) → SpellsParsed text parsed → StopsBy (HasNoProgram model text) stop

-- ---- specifications and suites

-- It is the specification that the file of `--entry` says, or the default one where there is none.
abbrev pub IsSpecified : Program → Option (List ℕ) → Specification → Type 0
IsSpecified program text it = Specifies (program_of program) text (specification_of program it)

-- the specification, or why there is none
abbrev pub GivesSpecification : Program → Option (List ℕ) → Result Specification TextStop → Type 0
GivesSpecification program text (Ok it) = IsSpecified program text it
GivesSpecification program text (Err stop) = StopsBy (SpecifiesNone (program_of program) text) stop

-- The text says the suite, on this specification.
abbrev pub SaysSuite : Program → Specification → List ℕ → Suite → Type 0
SaysSuite program it text suite = IsSuite (program_of program) (specification_of program it) text suite

-- the suite that a text says, or its first bad line
abbrev pub GivesSuite : Program → Specification → List ℕ → Result Suite TextStop → Type 0
GivesSuite program it text (Ok suite) = SaysSuite program it text suite
GivesSuite program it text (Err stop) = StopsBy (IsNoSuite (program_of program) (specification_of program it) text) stop

-- ---- coverage

-- the coverage for which a text stands, or its first bad row
abbrev pub GivesCoverage : List ℕ → Result Table TextStop → Type 0
GivesCoverage text (Ok table) = IsCoverText text table
GivesCoverage text (Err stop) = StopsBy (IsNoCoverage text) stop

-- the old coverage, if there is a file of `--cover`, or the first bad row of that file
abbrev pub GivesOld : Option (List ℕ) → Result (Option Table) TextStop → Type 0
GivesOld text (Ok old) = IsOld text old
GivesOld text (Err stop) = StopsBy (IsNoOld text) stop

-- The new coverage and the old one have no merge, and this is the refusal.
abbrev pub HaveNoMerge : Table → Option Table → Refusal → Type 0
HaveNoMerge new None why = ⊥
HaveNoMerge new (Some old) why = AreMixed new old why

-- the new coverage, merged with the old one where there is one, or the first on which they don't agree
abbrev pub GivesMerge : Table → Option Table → Result Table TextStop → Type 0
GivesMerge new old (Ok table) = IsMerged new old table
GivesMerge new old (Err stop) = StopsBy (HaveNoMerge new old) stop

-- the coverage of a replay, or the first reason why it is refused
abbrev pub GivesCovered : Sources → Result Table TextStop → Type 0
GivesCovered from (Ok table) = IsCovered from table
GivesCovered from (Err stop) = StopsBy (Refuses from) stop
