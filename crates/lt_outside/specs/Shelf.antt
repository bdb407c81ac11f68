-- What a shelf of files does.
use Rattle.std.specs.Prelude.{◌≡◌, ◌≢◌, ◌<◌, ◌≤◌, ℕ, Bool, nat_lt, if◌then◌else◌, List, length, Option, Some, None, Result, Ok, Err}
use Rattle.lt_outside.specs.Count.{raised}
use Rattle.lt_outside.specs.declared.shelf.ReadStop.{ReadStop}
use Rattle.lt_outside.specs.declared.shelf.ReadStop.TheVariants.{Absent, TooLong, Failed, NoMemory}

-- what stands under each name
abbrev pub Files : Type 0
Files = List ℕ → Option (List ℕ)

-- Over these files a read of the name, of at most so many bytes, may stop so.
abbrev pub MayStop : Files → List ℕ → ℕ → ReadStop → Type 0
MayStop files name most Absent = files name ≡ None
MayStop files name most (TooLong len) = (bytes : List ℕ) × (files name ≡ Some bytes) × (length bytes ≡ len) × (most < len)
MayStop files name most Failed = (bytes : List ℕ) × (files name ≡ Some bytes) × (length bytes ≤ most)
MayStop files name most NoMemory = Unit {0}

-- The stop is a miss: there is no such file, or it is too long.
abbrev pub IsMiss : ReadStop → Type 0
IsMiss Absent = Unit {0}
IsMiss (TooLong len) = Unit {0}
IsMiss Failed = ⊥
IsMiss NoMemory = ⊥

-- A length that a stop names is above what was asked for at most.
abbrev pub IsOver : ℕ → ReadStop → Type 0
IsOver most Absent = Unit {0}
IsOver most (TooLong len) = most < len
IsOver most Failed = Unit {0}
IsOver most NoMemory = Unit {0}

-- All names but this one keep their bytes.
abbrev pub KeepsOthers : Files → Files → List ℕ → Type 0
KeepsOthers old new name = (other : List ℕ) → other ≢ name → new other ≡ old other

-- The name has these bytes now, and all other names keep theirs.
abbrev pub Puts : Files → Files → List ℕ → List ℕ → Type 0
Puts old new name bytes = (new name ≡ Some bytes) × KeepsOthers old new name

-- What a read of a file gives, want of memory aside. The bool says that the call is to fail, which it does only
-- where the file is there and is short enough.
abbrev pub read_answer : Option (List ℕ) → ℕ → Bool → Result (List ℕ) ReadStop
read_answer None most fails = Err Absent
read_answer (Some bytes) most fails =
    if nat_lt most (length bytes) then Err (TooLong (length bytes)) else (if fails then Err Failed else Ok bytes)

-- the count of misses after such an answer
abbrev pub misses_after : Result (List ℕ) ReadStop → ℕ → ℕ
misses_after (Ok bytes) misses = misses
misses_after (Err Absent) misses = raised misses
misses_after (Err (TooLong len)) misses = raised misses
misses_after (Err Failed) misses = misses
misses_after (Err NoMemory) misses = misses

-- the count of reads that failed after such an answer
abbrev pub faults_after : Result (List ℕ) ReadStop → ℕ → ℕ
faults_after (Ok bytes) faults = faults
faults_after (Err Absent) faults = faults
faults_after (Err (TooLong len)) faults = faults
faults_after (Err Failed) faults = raised faults
faults_after (Err NoMemory) faults = faults
