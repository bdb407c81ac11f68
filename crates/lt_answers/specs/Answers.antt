-- What a command does, between the files that the shelf holds and what is put on the sink.
use Rattle.std.specs.Prelude.{◌≡◌, ◌<◌, ◌≤◌, ◌⊎◌, ℕ, List, [], ◌∷◌, ◌++◌, length, Option, Some, None, option_to_list, IfSome, Contains}
use Rattle.lt_outside.specs.Count.{raised, Rose}
use Rattle.lt_outside.specs.Shelf.{Files}
use Rattle.lt_outside.specs.Sink.{Appends, AppendsPart}
use Rattle.lt_command.specs.Plan.{Plan, ReplayPlan, replay, convert, annotate}
use Rattle.lt_answers.specs.Entries.{IsNoCoverage}
use Rattle.lt_answers.specs.Replays.{Sources, IsReplay, IsConversion, Refuses}
use Rattle.lt_answers.specs.Annotations.{IsAnnotation, RefusesAnnotation}
use Rattle.lt_answers.specs.declared.status.Status.{Status}
use Rattle.lt_answers.specs.declared.status.Status.TheVariants.{Done, Refused, Absent, TooLong, ReadFault, WriteFault, NoMemory}
use Rattle.lt_answers.specs.declared.status.Refusal.{Refusal}
use Rattle.lt_answers.specs.declared.status.Refusal.TheVariants.{Syntax}

-- ---- files

-- the most bytes of a file that is read
abbrev pub most_bytes : ℕ
most_bytes = 4194304

-- The name stands for these bytes, and they aren't too many.
pub record IsRead (files : Files) (name bytes : List ℕ) : Type 0 where
  pub is : files name ≡ Some bytes
  pub short : length bytes ≤ most_bytes

-- The file that the name stands for is too long.
pub record IsLong (files : Files) (name : List ℕ) (len : ℕ) : Type 0 where
  pub bytes : List ℕ
  pub is : files name ≡ Some bytes
  pub its_len : length bytes ≡ len
  pub long : most_bytes < len

-- the files of a command, in the order in which they are read
abbrev pub names_of : Plan → List (List ℕ)
names_of (replay asked) = asked.file ∷ asked.suite ∷ option_to_list asked.entry ++ option_to_list asked.cover
names_of (convert file) = file ∷ []
names_of (annotate asked) = asked.file ∷ []

-- The first of these names that has no file, or too long a one, is told.
pub data Misses (files : Files) : List (List ℕ) → Status → Type 0 where
  no_file : {name : List ℕ} {names : List (List ℕ)} → files name ≡ None → Misses files (name ∷ names) (Absent name)
  long_file : {name : List ℕ} {names : List (List ℕ)} {len : ℕ} → IsLong files name len → Misses files (name ∷ names) (TooLong name len)
  later_file : {name bytes : List ℕ} {names : List (List ℕ)} {status : Status} → IsRead files name bytes → Misses files names status
      → Misses files (name ∷ names) status

-- The first of these files is there and isn't too long.
abbrev pub FirstIsRead : Files → List (List ℕ) → Type 0
FirstIsRead files [] = ⊥
FirstIsRead files (name ∷ names) = (bytes : List ℕ) × IsRead files name bytes

-- A miss names a file of the command, also where the shelf doesn't tell what it holds.
abbrev pub NamesFile : List (List ℕ) → Status → Type 0
NamesFile names (Absent name) = Contains names name
NamesFile names (TooLong name len) = Contains names name × (most_bytes < len)
NamesFile names _ = Unit {0}

-- The file of an option is read, where the option is given.
abbrev pub IsReadIf : Files → Option (List ℕ) → Option (List ℕ) → Type 0
IsReadIf files (Some name) (Some bytes) = IsRead files name bytes
IsReadIf files None None = Unit {0}
IsReadIf files _ _ = ⊥

-- All files of a replay are read.
pub record AreRead (files : Files) (asked : ReplayPlan) (from : Sources) : Type 0 where
  pub file : IsRead files asked.file from.file
  pub suite : IsRead files asked.suite from.suite
  pub entry : IsReadIf files asked.entry from.entry
  pub cover : IsReadIf files asked.cover from.cover
  pub model : from.model ≡ asked.model
  pub steps : from.steps ≡ asked.steps

-- ---- answers

-- The text of a command, where the shelf tells what it holds.
abbrev pub IsTextIn : Files → Plan → List ℕ → Type 0
IsTextIn files (replay asked) out = (from : Sources) × AreRead files asked from × IsReplay from out
IsTextIn files (convert file) out = (bytes : List ℕ) × IsRead files file bytes × IsConversion bytes out
IsTextIn files (annotate asked) out = (bytes : List ℕ) × IsRead files asked.file bytes × IsAnnotation asked.model asked.criteria bytes out

-- The refusal of a command, where all its files are read.
abbrev pub IsRefused : Files → Plan → Refusal → Type 0
IsRefused files (replay asked) why = (from : Sources) × AreRead files asked from × Refuses from why
IsRefused files (convert file) why = (bytes : List ℕ) × IsRead files file bytes × IsNoCoverage bytes why
IsRefused files (annotate asked) why = (bytes : List ℕ) × IsRead files asked.file bytes × RefusesAnnotation asked.model asked.criteria bytes why

-- The answer that is due over these files, faults and want of memory aside.
pub data IsDue (files : Files) (plan : Plan) : Status → Type 0 where
  due_miss : {status : Status} → Misses files (names_of plan) status → IsDue files plan status
  due_refusal : {why : Refusal} → IsRefused files plan why → IsDue files plan (Refused why)
  due_text : (out : List ℕ) → IsTextIn files plan out → IsDue files plan Done

-- Two answers count as the same: they are equal, but for the place that a syntax fault names, which is open.
abbrev pub IsSame : Status → Status → Type 0
IsSame (Refused (Syntax at)) (Refused (Syntax other)) = Unit {0}
IsSame one other = one ≡ other

-- A fault of reading or writing, or want of memory: these may come in place of the answer that is due.
abbrev pub IsOutside : Status → Type 0
IsOutside ReadFault = Unit {0}
IsOutside WriteFault = Unit {0}
IsOutside NoMemory = Unit {0}
IsOutside _ = ⊥

-- how often the shelf's reads missed or failed, and the sink's puts failed
pub record Counts : Type 0 where
  pub missed : ℕ
  pub read_faults : ℕ
  pub put_faults : ℕ

-- An answer that tells of a miss or a fault comes only where its count rose.
abbrev pub HasCause : Status → Counts → Counts → Type 0
HasCause (Absent name) before now = Rose before.missed now.missed
HasCause (TooLong name len) before now = Rose before.missed now.missed
HasCause ReadFault before now = Rose before.read_faults now.read_faults
HasCause WriteFault before now = Rose before.put_faults now.put_faults
HasCause _ before now = Unit {0}

-- The same of reading alone.
abbrev pub HasReadCause : Status → ℕ → ℕ → ℕ → ℕ → Type 0
HasReadCause (Absent name) missed missed' faults faults' = Rose missed missed'
HasReadCause (TooLong name len) missed missed' faults faults' = Rose missed missed'
HasReadCause ReadFault missed missed' faults faults' = Rose faults faults'
HasReadCause _ missed missed' faults faults' = Unit {0}

-- How many puts a command makes that ends so: one where it is done or writing failed, none or one where memory lacked, and
-- none on any other answer.
abbrev pub HasPuts : Status → ℕ → ℕ → Type 0
HasPuts Done before now = now ≡ raised before
HasPuts WriteFault before now = now ≡ raised before
HasPuts NoMemory before now = (now ≡ before) ⊎ (now ≡ raised before)
HasPuts _ before now = now ≡ before

-- ---- what is put

-- Where the shelf tells what it holds, this is the text of the command.
abbrev pub IsText : Option Files → Plan → List ℕ → Type 0
IsText told plan out = IfSome told (λ files. IsTextIn files plan out)

-- The whole text was put.
pub record IsPut (told : Option Files) (plan : Option Plan) (taken taken' : Option (List ℕ)) : Type 0 where
  pub asked : Plan
  pub is_asked : plan ≡ Some asked
  pub out : List ℕ
  pub text : IsText told asked out
  pub put : Appends taken taken' out

-- A front of the text was put.
pub record IsFrontPut (told : Option Files) (plan : Option Plan) (taken taken' : Option (List ℕ)) : Type 0 where
  pub asked : Plan
  pub is_asked : plan ≡ Some asked
  pub out : List ℕ
  pub text : IsText told asked out
  pub put : AppendsPart taken taken' out

-- ---- steps of a command

-- Where the shelf tells what it holds, these are the bytes of the name.
abbrev pub Gave : Option Files → List ℕ → List ℕ → Type 0
Gave told name bytes = IfSome told (λ files. IsRead files name bytes)

-- The same of an option's file, and of all files of a replay.
abbrev pub GaveIf : Option Files → Option (List ℕ) → Option (List ℕ) → Type 0
GaveIf told name bytes = IfSome told (λ files. IsReadIf files name bytes)

abbrev pub GaveAll : Option Files → ReplayPlan → Sources → Type 0
GaveAll told asked from = IfSome told (λ files. AreRead files asked from)

-- Reading the files of these names, one after the other, ends with this status.
abbrev pub ReadEnds : Option Files → List (List ℕ) → Status → Type 0
ReadEnds told names (Absent name) = IfSome told (λ files. Misses files names (Absent name))
ReadEnds told names (TooLong name len) = IfSome told (λ files. Misses files names (TooLong name len))
ReadEnds told names ReadFault = IfSome told (λ files. FirstIsRead files names)
ReadEnds told names NoMemory = Unit {0}
ReadEnds told names _ = ⊥

-- Reading and understanding end with this status, where no text comes.
abbrev pub Ends : Option Files → Plan → Status → Type 0
Ends told plan (Absent name) = IfSome told (λ files. IsDue files plan (Absent name))
Ends told plan (TooLong name len) = IfSome told (λ files. IsDue files plan (TooLong name len))
Ends told plan (Refused why) = IfSome told (λ files. IsDue files plan (Refused why))
Ends told plan ReadFault = IfSome told (λ files. FirstIsRead files (names_of plan))
Ends told plan NoMemory = Unit {0}
Ends told plan _ = ⊥

-- Putting the text ends with this status.
abbrev pub PutEnds : Option (List ℕ) → Option (List ℕ) → List ℕ → Status → Type 0
PutEnds taken taken' text Done = Appends taken taken' text
PutEnds taken taken' text WriteFault = AppendsPart taken taken' text
PutEnds taken taken' text NoMemory = taken' ≡ taken
PutEnds taken taken' text _ = ⊥
