-- What a status tells the outside: the code that the process ends with, and a line on standard error.
use Rattle.std.specs.Prelude.{ℕ, List, [], ◌++◌, codes}
use Rattle.std.specs.Fmt.{decimal}
use Rattle.std.specs.Str.Lossy.{utf8_lossy}
use Rattle.lt_answers.specs.declared.status.Status.{Status}
use Rattle.lt_answers.specs.declared.status.Status.TheVariants.{Done, Refused, Usage, Absent, TooLong, ReadFault, WriteFault, NoMemory}
use Rattle.lt_answers.specs.declared.status.Refusal.{Refusal}
use Rattle.lt_answers.specs.declared.status.Refusal.TheVariants.{Lex, Unsupported, TooNested, Syntax, Typing, NoEntry, Spec, Suite, Cover, Mixed, MixedHyper, MixedTest, Grown}

abbrev pub code_of : Status → ℕ
code_of Done = 0
code_of (Refused why) = 1
code_of Usage = 2
code_of (Absent name) = 3
code_of (TooLong name len) = 4
code_of ReadFault = 7
code_of WriteFault = 8
code_of NoMemory = 9

abbrev pub refusal_message : Refusal → List ℕ
refusal_message (Lex at) = codes "no token at byte " ++ decimal at
refusal_message (Unsupported word at) = utf8_lossy word ++ codes " at byte " ++ decimal at ++ codes " is not supported"
refusal_message (TooNested at) = codes "nested too deeply at byte " ++ decimal at
refusal_message (Syntax at) = codes "syntax fault at byte " ++ decimal at
refusal_message (Typing rule at) = codes "rule " ++ decimal rule ++ codes " is broken at byte " ++ decimal at
refusal_message NoEntry = codes "no entry function"
refusal_message (Spec line) = codes "entry file, line " ++ decimal line
refusal_message (Suite line) = codes "suite, line " ++ decimal line
refusal_message (Cover row) = codes "coverage file, row " ++ decimal row
refusal_message (Mixed id) = codes "coverage of other label " ++ decimal id
refusal_message (MixedHyper id) = codes "coverage of other hyperlabel " ++ decimal id
refusal_message (MixedTest name) = codes "coverage of other test " ++ utf8_lossy name
refusal_message (Grown nest) = codes "annotated text nests " ++ decimal nest ++ codes " deep"

-- the message of a status; that of one that is done is empty
abbrev pub message_of : Status → List ℕ
message_of Done = []
message_of (Refused why) = codes "ltest: " ++ refusal_message why
message_of Usage = codes "ltest: usage: ltest COMMAND and its words"
message_of (Absent name) = codes "ltest: no file " ++ utf8_lossy name
message_of (TooLong name len) = codes "ltest: file " ++ utf8_lossy name ++ codes " has " ++ decimal len ++ codes " bytes"
message_of ReadFault = codes "ltest: reading failed"
message_of WriteFault = codes "ltest: writing failed"
message_of NoMemory = codes "ltest: out of memory"
