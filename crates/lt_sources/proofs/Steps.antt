-- Files read one after the other: what the step that stops ends with is what reading all of them ends with.
use Rattle.std.proofs.Common.{◌≡◌, ℕ, List, [], ◌∷◌, ◌++◌, Option, Some, None, option_to_list}
use Rattle.std.proofs.lemmas.List.Elements.{Contains-append_left, Contains-append_right}
use Rattle.lt_outside.specs.Shelf.{Files}
use Rattle.lt_command.specs.Plan.{ReplayPlan, replay}
use Rattle.lt_answers.specs.Answers.{names_of, Gave, GaveIf, GaveAll, ReadEnds, NamesFile}
use Rattle.lt_answers.specs.Replays.{Sources}
use Rattle.lt_answers.specs.declared.status.Status.{Status}
use Rattle.lt_answers.specs.declared.status.Status.TheVariants.{Done, Refused, Usage, Absent, TooLong, ReadFault, WriteFault, NoMemory}
use Rattle.lt_answers.proofs.Due.{first_file_ends, later_files_end, option_ends, behind_option}

-- ---- how reading ends

pub ends_at_file : (told : Option Files) (asked : ReplayPlan) (status : Status) → ReadEnds told (asked.file ∷ []) status → ReadEnds told (names_of (replay asked)) status
ends_at_file told asked status h = first_file_ends told asked.file (asked.suite ∷ option_to_list asked.entry ++ option_to_list asked.cover) status h

pub ends_at_suite : (told : Option Files) (asked : ReplayPlan) (file : List ℕ) (status : Status) → Gave told asked.file file
    → ReadEnds told (asked.suite ∷ []) status → ReadEnds told (names_of (replay asked)) status
ends_at_suite told asked file status f h =
    later_files_end told asked.file file (asked.suite ∷ option_to_list asked.entry ++ option_to_list asked.cover) status f
    (first_file_ends told asked.suite (option_to_list asked.entry ++ option_to_list asked.cover) status h)

pub ends_at_entry : (told : Option Files) (asked : ReplayPlan) (file suite : List ℕ) (status : Status) → Gave told asked.file file → Gave told asked.suite suite
    → ReadEnds told (option_to_list asked.entry) status → ReadEnds told (names_of (replay asked)) status
ends_at_entry told asked file suite status f s h =
    later_files_end told asked.file file (asked.suite ∷ option_to_list asked.entry ++ option_to_list asked.cover) status f
    (later_files_end told asked.suite suite (option_to_list asked.entry ++ option_to_list asked.cover) status s
    (option_ends told asked.entry (option_to_list asked.cover) status h))

pub ends_at_cover : (told : Option Files) (asked : ReplayPlan) (file suite : List ℕ) (entry : Option (List ℕ)) (status : Status) → Gave told asked.file file
    → Gave told asked.suite suite → GaveIf told asked.entry entry → ReadEnds told (option_to_list asked.cover) status → ReadEnds told (names_of (replay asked)) status
ends_at_cover told asked file suite entry status f s e h =
    later_files_end told asked.file file (asked.suite ∷ option_to_list asked.entry ++ option_to_list asked.cover) status f
    (later_files_end told asked.suite suite (option_to_list asked.entry ++ option_to_list asked.cover) status s
    (behind_option told asked.entry entry (option_to_list asked.cover) status e h))

-- ---- which names are told

-- a name among some is one among more
pub named_left : (names others : List (List ℕ)) (status : Status) → NamesFile names status → NamesFile (names ++ others) status
named_left names others (Absent n) h = Contains-append_left names others n h
named_left names others (TooLong n len) h = (Contains-append_left names others n h.0, h.1)
named_left names others Done h = tt
named_left names others (Refused why) h = tt
named_left names others Usage h = tt
named_left names others ReadFault h = tt
named_left names others WriteFault h = tt
named_left names others NoMemory h = tt

pub named_right : (names others : List (List ℕ)) (status : Status) → NamesFile others status → NamesFile (names ++ others) status
named_right names others (Absent n) h = Contains-append_right names others n h
named_right names others (TooLong n len) h = (Contains-append_right names others n h.0, h.1)
named_right names others Done h = tt
named_right names others (Refused why) h = tt
named_right names others Usage h = tt
named_right names others ReadFault h = tt
named_right names others WriteFault h = tt
named_right names others NoMemory h = tt

pub names_suite : (asked : ReplayPlan) (status : Status) → NamesFile (asked.suite ∷ []) status → NamesFile (names_of (replay asked)) status
names_suite asked status h = named_right (asked.file ∷ []) (asked.suite ∷ option_to_list asked.entry ++ option_to_list asked.cover) status
    (named_left (asked.suite ∷ []) (option_to_list asked.entry ++ option_to_list asked.cover) status h)

pub names_entry : (asked : ReplayPlan) (status : Status) → NamesFile (option_to_list asked.entry) status → NamesFile (names_of (replay asked)) status
names_entry asked status h = named_right (asked.file ∷ asked.suite ∷ []) (option_to_list asked.entry ++ option_to_list asked.cover) status
    (named_left (option_to_list asked.entry) (option_to_list asked.cover) status h)

pub names_cover : (asked : ReplayPlan) (status : Status) → NamesFile (option_to_list asked.cover) status → NamesFile (names_of (replay asked)) status
names_cover asked status h = named_right (asked.file ∷ asked.suite ∷ []) (option_to_list asked.entry ++ option_to_list asked.cover) status
    (named_right (option_to_list asked.entry) (option_to_list asked.cover) status h)

-- ---- all files

-- each file as it was read
pub all_given : (told : Option Files) (asked : ReplayPlan) (from : Sources) → Gave told asked.file from.file → Gave told asked.suite from.suite
    → GaveIf told asked.entry from.entry → GaveIf told asked.cover from.cover → from.model ≡ asked.model → from.steps ≡ asked.steps → GaveAll told asked from
all_given None asked from f s e c m n = tt
all_given (Some files) asked from f s e c m n = record { file = f; suite = s; entry = e; cover = c; model = m; steps = n }
