-- Which answer is due, and that no two are.
use Rattle.std.proofs.Common.{◌≡◌, ◌⊎◌, ℕ, List, [], ◌∷◌, ◌++◌, Option, Some, None, option_to_list, refl, sym, subst, inl, inr}
use Rattle.lt_outside.specs.Shelf.{Files}
use Rattle.lt_command.specs.Plan.{Plan, ReplayPlan, AnnotatePlan, replay, convert, annotate}
use Rattle.lt_answers.specs.Laws.{Laws}
use Rattle.lt_answers.specs.Replays.{Sources, IsReplay, Refuses, IsConversion}
use Rattle.lt_answers.specs.Entries.{IsNoCoverage}
use Rattle.lt_answers.specs.Annotations.{IsAnnotation, RefusesAnnotation}
use Rattle.lt_answers.specs.Answers.{IsDue, due_miss, due_refusal, due_text, Misses, later_file, FirstIsRead, GaveIf, names_of, IsTextIn, IsRefused, IsSame, IsOutside, IsText, Gave, GaveAll, ReadEnds, Ends, PutEnds}
use Rattle.lt_answers.specs.declared.status.Status.{Status}
use Rattle.lt_answers.specs.declared.status.Status.TheVariants.{Done, Refused, Usage, Absent, TooLong, ReadFault, WriteFault, NoMemory}
use Rattle.lt_answers.specs.declared.status.Refusal.{Refusal}
use Rattle.lt_answers.proofs.Same.{same_of, same_why}
use Rattle.lt_answers.proofs.Missing.{misses_once, same_sources, same_read, replay_not_missed, file_not_missed, none_missed, first_missed}
use Rattle.lt_answers.proofs.Once.{refused_once, replayed_or_refused, no_coverage_once, coverage_or_none}
use Rattle.lt_answers.proofs.Annotated.{annotation_refused_once, annotated_or_refused}

-- ---- no two are due

missed_or_text : (files : Files) (plan : Plan) (s : Status) (out : List ℕ) → Misses files (names_of plan) s → IsTextIn files plan out → ⊥
missed_or_text files (replay asked) s out m t = replay_not_missed files asked t.0 s t.1 m
missed_or_text files (convert file) s out m t = file_not_missed files file t.0 s t.1 m
missed_or_text files (annotate asked) s out m t = file_not_missed files asked.file t.0 s t.1 m

missed_or_refused : (files : Files) (plan : Plan) (s : Status) (why : Refusal) → Misses files (names_of plan) s → IsRefused files plan why → ⊥
missed_or_refused files (replay asked) s why m t = replay_not_missed files asked t.0 s t.1 m
missed_or_refused files (convert file) s why m t = file_not_missed files file t.0 s t.1 m
missed_or_refused files (annotate asked) s why m t = file_not_missed files asked.file t.0 s t.1 m

refused_same : (laws : Laws) (files : Files) (plan : Plan) (why other : Refusal) → IsRefused files plan why → IsRefused files plan other → IsSame (Refused why) (Refused other)
refused_same laws files (replay asked) why other h k =
    refused_once laws h.0 why other h.2 (subst (λ from. Refuses from other) (sym (same_sources files asked h.0 k.0 h.1 k.1)) k.2)
refused_same laws files (convert file) why other h k =
    same_why why other (no_coverage_once laws h.0 why other h.2 (subst (λ bytes. IsNoCoverage bytes other) (sym (same_read h.1 k.1)) k.2))
refused_same laws files (annotate asked) why other h k =
    annotation_refused_once laws asked.model asked.criteria h.0 why other h.2
    (subst (λ bytes. RefusesAnnotation asked.model asked.criteria bytes other) (sym (same_read h.1 k.1)) k.2)

text_or_refused : (laws : Laws) (files : Files) (plan : Plan) (out : List ℕ) (why : Refusal) → IsTextIn files plan out → IsRefused files plan why → ⊥
text_or_refused laws files (replay asked) out why h k =
    replayed_or_refused laws h.0 out why h.2 (subst (λ from. Refuses from why) (sym (same_sources files asked h.0 k.0 h.1 k.1)) k.2)
text_or_refused laws files (convert file) out why h k =
    coverage_or_none laws h.0 h.2.table why h.2.stands (subst (λ bytes. IsNoCoverage bytes why) (sym (same_read h.1 k.1)) k.2)
text_or_refused laws files (annotate asked) out why h k =
    annotated_or_refused laws asked.model asked.criteria h.0 out why h.2
    (subst (λ bytes. RefusesAnnotation asked.model asked.criteria bytes why) (sym (same_read h.1 k.1)) k.2)

at_missed : (files : Files) (plan : Plan) (s t : Status) → Misses files (names_of plan) s → IsDue files plan t → IsSame s t
at_missed files plan s t m (due_miss n) = same_of s t (misses_once files (names_of plan) s t m n)
at_missed files plan s t m (due_refusal {why = why} r) = absurd (missed_or_refused files plan s why m r)
at_missed files plan s t m (due_text out r) = absurd (missed_or_text files plan s out m r)

at_refused : (laws : Laws) (files : Files) (plan : Plan) (why : Refusal) (t : Status) → IsRefused files plan why → IsDue files plan t → IsSame (Refused why) t
at_refused laws files plan why t r (due_miss n) = absurd (missed_or_refused files plan t why n r)
at_refused laws files plan why t r (due_refusal {why = other} q) = refused_same laws files plan why other r q
at_refused laws files plan why t r (due_text out q) = absurd (text_or_refused laws files plan out why q r)

at_done : (laws : Laws) (files : Files) (plan : Plan) (out : List ℕ) (t : Status) → IsTextIn files plan out → IsDue files plan t → IsSame Done t
at_done laws files plan out t r (due_miss n) = absurd (missed_or_text files plan t out n r)
at_done laws files plan out t r (due_refusal {why = why} q) = absurd (text_or_refused laws files plan out why r q)
at_done laws files plan out t r (due_text other q) = refl

pub due_once : (laws : Laws) (files : Files) (plan : Plan) (s t : Status) → IsDue files plan s → IsDue files plan t → IsSame s t
due_once laws files plan s t (due_miss m) d = at_missed files plan s t m d
due_once laws files plan s t (due_refusal {why = why} r) d = at_refused laws files plan why t r d
due_once laws files plan s t (due_text out r) d = at_done laws files plan out t r d

-- where an answer is one that is due, it is the one that is due
pub exactly : (laws : Laws) (files : Files) (plan : Plan) (status s : Status) → IsOutside status ⊎ IsDue files plan status → IsDue files plan s → IsOutside status ⊎ IsSame status s
exactly laws files plan status s (inl o) d = inl o
exactly laws files plan status s (inr h) d = inr (due_once laws files plan status s h d)

-- ---- what the steps end with is due

-- where reading stops, that is due
pub ends_of_reading : (told : Option Files) (plan : Plan) (status : Status) → ReadEnds told (names_of plan) status → Ends told plan status
ends_of_reading None plan (Absent n) h = tt
ends_of_reading (Some files) plan (Absent n) h = due_miss h
ends_of_reading None plan (TooLong n len) h = tt
ends_of_reading (Some files) plan (TooLong n len) h = due_miss h
ends_of_reading None plan ReadFault h = tt
ends_of_reading (Some files) plan ReadFault h = h
ends_of_reading told plan NoMemory h = tt
ends_of_reading told plan Done h = absurd h
ends_of_reading told plan (Refused why) h = absurd h
ends_of_reading told plan Usage h = absurd h
ends_of_reading told plan WriteFault h = absurd h

pub replay_refused : (told : Option Files) (asked : ReplayPlan) (from : Sources) (why : Refusal) → GaveAll told asked from → Refuses from why → Ends told (replay asked) (Refused why)
replay_refused None asked from why g h = tt
replay_refused (Some files) asked from why g h = due_refusal (from, g, h)

pub replay_text : (told : Option Files) (asked : ReplayPlan) (from : Sources) (out : List ℕ) → GaveAll told asked from → IsReplay from out → IsText told (replay asked) out
replay_text None asked from out g h = tt
replay_text (Some files) asked from out g h = (from, g, h)

pub conversion_refused : (told : Option Files) (file bytes : List ℕ) (why : Refusal) → Gave told file bytes → IsNoCoverage bytes why → Ends told (convert file) (Refused why)
conversion_refused None file bytes why g h = tt
conversion_refused (Some files) file bytes why g h = due_refusal (bytes, g, h)

pub conversion_text : (told : Option Files) (file bytes out : List ℕ) → Gave told file bytes → IsConversion bytes out → IsText told (convert file) out
conversion_text None file bytes out g h = tt
conversion_text (Some files) file bytes out g h = (bytes, g, h)

pub annotation_refused : (told : Option Files) (asked : AnnotatePlan) (bytes : List ℕ) (why : Refusal) → Gave told asked.file bytes
    → RefusesAnnotation asked.model asked.criteria bytes why → Ends told (annotate asked) (Refused why)
annotation_refused None asked bytes why g h = tt
annotation_refused (Some files) asked bytes why g h = due_refusal (bytes, g, h)

pub annotation_text : (told : Option Files) (asked : AnnotatePlan) (bytes out : List ℕ) → Gave told asked.file bytes
    → IsAnnotation asked.model asked.criteria bytes out → IsText told (annotate asked) out
annotation_text None asked bytes out g h = tt
annotation_text (Some files) asked bytes out g h = (bytes, g, h)

-- what reading and understanding end with is due, where the shelf tells
pub due_of_ends : (told : Option Files) (plan : Plan) (files : Files) (status : Status) → Ends told plan status → told ≡ Some files → IsOutside status ⊎ IsDue files plan status
due_of_ends None plan files status h e = absurd (cc)
due_of_ends (Some held) plan files (Absent n) h e = let same : held ≡ files = cc in inr (subst (λ fs. IsDue fs plan (Absent n)) same h)
due_of_ends (Some held) plan files (TooLong n len) h e = let same : held ≡ files = cc in inr (subst (λ fs. IsDue fs plan (TooLong n len)) same h)
due_of_ends (Some held) plan files (Refused why) h e = let same : held ≡ files = cc in inr (subst (λ fs. IsDue fs plan (Refused why)) same h)
due_of_ends (Some held) plan files ReadFault h e = inl tt
due_of_ends (Some held) plan files NoMemory h e = inl tt
due_of_ends (Some held) plan files Done h e = absurd h
due_of_ends (Some held) plan files Usage h e = absurd h
due_of_ends (Some held) plan files WriteFault h e = absurd h

done_is_due : (told : Option Files) (plan : Plan) (files : Files) (out : List ℕ) → IsText told plan out → told ≡ Some files → IsDue files plan Done
done_is_due None plan files out h e = absurd (cc)
done_is_due (Some held) plan files out h e = let same : held ≡ files = cc in subst (λ fs. IsDue fs plan Done) same (due_text out h)

-- what putting the text ends with is due, where the shelf tells
pub due_of_put : (told : Option Files) (plan : Plan) (files : Files) (taken taken' : Option (List ℕ)) (out : List ℕ) (status : Status) → IsText told plan out → told ≡ Some files → PutEnds taken taken' out status → IsOutside status ⊎ IsDue files plan status
due_of_put told plan files taken taken' out Done t e h = inr (done_is_due told plan files out t e)
due_of_put told plan files taken taken' out WriteFault t e h = inl tt
due_of_put told plan files taken taken' out NoMemory t e h = inl tt
due_of_put told plan files taken taken' out (Refused why) t e h = absurd h
due_of_put told plan files taken taken' out Usage t e h = absurd h
due_of_put told plan files taken taken' out (Absent name) t e h = absurd h
due_of_put told plan files taken taken' out (TooLong name len) t e h = absurd h
due_of_put told plan files taken taken' out ReadFault t e h = absurd h

-- what the words ask for is one plan
pub same_plan : (x y : Plan) (w : Option Plan) → w ≡ Some x → w ≡ Some y → x ≡ y
same_plan x y w p q = cc

-- a fault of reading where the first file is there
pub first_of_ends : (told : Option Files) (plan : Plan) (files : Files) → Ends told plan ReadFault → told ≡ Some files → FirstIsRead files (names_of plan)
first_of_ends None plan files h e = absurd (cc)
first_of_ends (Some held) plan files h e = let same : held ≡ files = cc in subst (λ fs. FirstIsRead fs (names_of plan)) same h

-- ---- files one after the other

-- what reading the first file ends with
pub first_file_ends : (told : Option Files) (name : List ℕ) (names : List (List ℕ)) (status : Status) → ReadEnds told (name ∷ []) status → ReadEnds told (name ∷ names) status
first_file_ends None name names (Absent n) h = tt
first_file_ends (Some files) name names (Absent n) h = first_missed files name names (Absent n) h
first_file_ends None name names (TooLong n len) h = tt
first_file_ends (Some files) name names (TooLong n len) h = first_missed files name names (TooLong n len) h
first_file_ends None name names ReadFault h = tt
first_file_ends (Some files) name names ReadFault h = h
first_file_ends told name names NoMemory h = tt
first_file_ends told name names Done h = absurd h
first_file_ends told name names (Refused why) h = absurd h
first_file_ends told name names Usage h = absurd h
first_file_ends told name names WriteFault h = absurd h

-- what reading later files ends with, where the first was read
pub later_files_end : (told : Option Files) (name bytes : List ℕ) (names : List (List ℕ)) (status : Status) → Gave told name bytes → ReadEnds told names status → ReadEnds told (name ∷ names) status
later_files_end None name bytes names (Absent n) g h = tt
later_files_end (Some files) name bytes names (Absent n) g h = later_file g h
later_files_end None name bytes names (TooLong n len) g h = tt
later_files_end (Some files) name bytes names (TooLong n len) g h = later_file g h
later_files_end None name bytes names ReadFault g h = tt
later_files_end (Some files) name bytes names ReadFault g h = (bytes, g)
later_files_end told name bytes names NoMemory g h = tt
later_files_end told name bytes names Done g h = absurd h
later_files_end told name bytes names (Refused why) g h = absurd h
later_files_end told name bytes names Usage g h = absurd h
later_files_end told name bytes names WriteFault g h = absurd h

-- the same of the file of an option
pub option_ends : (told : Option Files) (name : Option (List ℕ)) (names : List (List ℕ)) (status : Status) → ReadEnds told (option_to_list name) status → ReadEnds told (option_to_list name ++ names) status
option_ends told (Some name) names status h = first_file_ends told name names status h
option_ends None None names (Absent n) h = tt
option_ends (Some files) None names (Absent n) h = absurd (none_missed files (Absent n) h)
option_ends None None names (TooLong n len) h = tt
option_ends (Some files) None names (TooLong n len) h = absurd (none_missed files (TooLong n len) h)
option_ends None None names ReadFault h = tt
option_ends (Some files) None names ReadFault h = absurd h
option_ends told None names NoMemory h = tt
option_ends told None names Done h = absurd h
option_ends told None names (Refused why) h = absurd h
option_ends told None names Usage h = absurd h
option_ends told None names WriteFault h = absurd h

-- where nothing is told, nothing is said of names
unread_ends : (name : List ℕ) (names : List (List ℕ)) (status : Status) → ReadEnds None names status → ReadEnds None (name ∷ names) status
unread_ends name names (Absent n) h = tt
unread_ends name names (TooLong n len) h = tt
unread_ends name names ReadFault h = tt
unread_ends name names NoMemory h = tt
unread_ends name names Done h = absurd h
unread_ends name names (Refused why) h = absurd h
unread_ends name names Usage h = absurd h
unread_ends name names WriteFault h = absurd h

pub behind_option : (told : Option Files) (name bytes : Option (List ℕ)) (names : List (List ℕ)) (status : Status) → GaveIf told name bytes → ReadEnds told names status → ReadEnds told (option_to_list name ++ names) status
behind_option told (Some name) (Some bytes) names status g h = later_files_end told name bytes names status g h
behind_option told None bytes names status g h = h
behind_option None (Some name) None names status g h = unread_ends name names status h
behind_option (Some files) (Some name) None names status g h = absurd g
