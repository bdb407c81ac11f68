-- What files say once, they say always.
use Rattle.std.proofs.Common.{◌≡◌, ℕ, List, [], ◌∷◌, ◌++◌, length, Option, Some, None, refl, sym, ap, ◌∙◌, subst, arith, option_to_list}
use Rattle.std.specs.Prelude.{IfSome}
use Rattle.lt_outside.specs.Shelf.{Files, MayStop}
use Rattle.lt_outside.specs.declared.shelf.ReadStop.TheVariants.{Failed, TooLong as TooLongRead}
use Rattle.lt_command.specs.Plan.{ReplayPlan, replay}
use Rattle.lt_answers.specs.Replays.{Sources}
use Rattle.lt_answers.specs.Answers.{IsRead, IsLong, Misses, no_file, long_file, later_file, IsReadIf, AreRead, names_of, most_bytes, ReadEnds}
use Rattle.lt_answers.specs.declared.status.Status.{Status}
use Rattle.lt_answers.specs.declared.status.Status.TheVariants.{Absent, TooLong, ReadFault}

same_bytes : (files : Files) (name a b : List ℕ) → files name ≡ Some a → files name ≡ Some b → a ≡ b
same_bytes files name a b p q = cc

read_none : {files : Files} {name bytes : List ℕ} → IsRead files name bytes → files name ≡ None → ⊥
read_none r e = cc (r.is, e)

long_none : {files : Files} {name : List ℕ} {len : ℕ} → IsLong files name len → files name ≡ None → ⊥
long_none l e = cc (l.is, e)

read_long : {files : Files} {name bytes : List ℕ} {len : ℕ} → IsRead files name bytes → IsLong files name len → ⊥
read_long {files = files} {name = name} {bytes = bytes} r l =
    let same : length bytes ≡ length l.bytes = ap length (same_bytes files name bytes l.bytes r.is l.is) in
    let short = r.short in let long = l.long in let is = l.its_len in omega arith

long_same : {files : Files} {name : List ℕ} {len len' : ℕ} → IsLong files name len → IsLong files name len' → len ≡ len'
long_same {files = files} {name = name} l m = sym l.its_len ∙ ap length (same_bytes files name l.bytes m.bytes l.is m.is) ∙ m.its_len

pub same_read : {files : Files} {name a b : List ℕ} → IsRead files name a → IsRead files name b → a ≡ b
same_read {files = files} {name = name} {a = a} {b = b} r q = same_bytes files name a b r.is q.is

at_no_file : {files : Files} {name : List ℕ} {names : List (List ℕ)} (s : Status) → files name ≡ None → Misses files (name ∷ names) s → s ≡ Absent name
at_no_file s e (no_file e') = refl
at_no_file s e (long_file l') = absurd (long_none l' e)
at_no_file s e (later_file r' m') = absurd (read_none r' e)

at_long_file : {files : Files} {name : List ℕ} {names : List (List ℕ)} {len : ℕ} (s : Status) → IsLong files name len → Misses files (name ∷ names) s → s ≡ TooLong name len
at_long_file s l (no_file e') = absurd (long_none l e')
at_long_file {name = name} s l (long_file l') = ap (λ k. TooLong name k) (long_same l' l)
at_long_file s l (later_file r' m') = absurd (read_long r' l)

at_later_file : {files : Files} {name bytes : List ℕ} {names : List (List ℕ)} (s : Status) → IsRead files name bytes → Misses files (name ∷ names) s → Misses files names s
at_later_file s r (no_file e') = absurd (read_none r e')
at_later_file s r (long_file l') = absurd (read_long r l')
at_later_file s r (later_file r' m') = m'

-- at most one miss is the first
pub misses_once : (files : Files) (names : List (List ℕ)) (s t : Status) → Misses files names s → Misses files names t → s ≡ t
misses_once files [] s t m n = elim m [ ]
misses_once files (name ∷ names) s t (no_file e) n = sym (at_no_file t e n)
misses_once files (name ∷ names) s t (long_file l) n = sym (at_long_file t l n)
misses_once files (name ∷ names) s t (later_file r m) n = misses_once files names s t m (at_later_file t r n)

-- ---- files that are read aren't missed

pub none_missed : (files : Files) (s : Status) → Misses files [] s → ⊥
none_missed files s m = elim m [ ]

-- the file of an option is read before those of other names, where they aren't missed
if_read : (files : Files) (name bytes : Option (List ℕ)) (names : List (List ℕ)) (s : Status) → IsReadIf files name bytes
    → Misses files (option_to_list name ++ names) s → Misses files names s
if_read files (Some name) (Some bytes) names s r m = at_later_file s r m
if_read files None None names s r m = m
if_read files (Some name) None names s r m = absurd r
if_read files None (Some bytes) names s r m = absurd r

last_read : (files : Files) (name bytes : Option (List ℕ)) (s : Status) → IsReadIf files name bytes → Misses files (option_to_list name) s → ⊥
last_read files (Some name) (Some bytes) s r m = none_missed files s (at_later_file s r m)
last_read files None None s r m = none_missed files s m
last_read files (Some name) None s r m = absurd r
last_read files None (Some bytes) s r m = absurd r

pub replay_not_missed : (files : Files) (asked : ReplayPlan) (from : Sources) (s : Status) → AreRead files asked from → Misses files (names_of (replay asked)) s → ⊥
replay_not_missed files asked from s r m =
    last_read files asked.cover from.cover s r.cover
    (if_read files asked.entry from.entry (option_to_list asked.cover) s r.entry (at_later_file s r.suite (at_later_file s r.file m)))

-- the only file of a command
pub file_not_missed : (files : Files) (file bytes : List ℕ) (s : Status) → IsRead files file bytes → Misses files (file ∷ []) s → ⊥
file_not_missed files file bytes s r m = none_missed files s (at_later_file s r m)

-- ---- the same files

same_if : (files : Files) (name a b : Option (List ℕ)) → IsReadIf files name a → IsReadIf files name b → a ≡ b
same_if files (Some name) (Some a) (Some b) r q = ap Some (same_read r q)
same_if files None None None r q = refl
same_if files (Some name) None b r q = absurd r
same_if files (Some name) (Some a) None r q = absurd q
same_if files None (Some a) b r q = absurd r
same_if files None None (Some b) r q = absurd q

pub same_sources : (files : Files) (asked : ReplayPlan) (from other : Sources) → AreRead files asked from → AreRead files asked other → from ≡ other
same_sources files asked from other r q =
    let file : from.file ≡ other.file = same_read r.file q.file in
    let suite : from.suite ≡ other.suite = same_read r.suite q.suite in
    let entry : from.entry ≡ other.entry = same_if files asked.entry from.entry other.entry r.entry q.entry in
    let cover : from.cover ≡ other.cover = same_if files asked.cover from.cover other.cover r.cover q.cover in
    ap (λ x. record from { file = x }) file
    ∙ ap (λ x. record from { file = other.file; suite = x }) suite
    ∙ ap (λ x. record from { file = other.file; suite = other.suite; entry = x }) entry
    ∙ ap (λ x. record from { file = other.file; suite = other.suite; entry = other.entry; cover = x }) cover
    ∙ ap (λ x. record other { model = x; steps = from.steps }) (r.model ∙ sym q.model)
    ∙ ap (λ x. record other { steps = x }) (r.steps ∙ sym q.steps)

-- what is missed as the only file is missed as the first one
pub first_missed : (files : Files) (name : List ℕ) (names : List (List ℕ)) (s : Status) → Misses files (name ∷ []) s → Misses files (name ∷ names) s
first_missed files name names s (no_file e) = no_file e
first_missed files name names s (long_file l) = long_file l
first_missed files name names s (later_file r m) = absurd (none_missed files s m)

-- what a read that missed tells
pub absent_ends : (told : Option Files) (name n : List ℕ) → n ≡ name → IfSome told (λ files. files name ≡ None) → ReadEnds told (name ∷ []) (Absent n)
absent_ends None name n e h = tt
absent_ends (Some files) name n e h = subst (λ m. Misses files (name ∷ []) (Absent m)) (sym e) (no_file h)

pub long_ends : (told : Option Files) (name n : List ℕ) (len : ℕ) → n ≡ name → IfSome told (λ files. MayStop files name most_bytes (TooLongRead len)) → ReadEnds told (name ∷ []) (TooLong n len)
long_ends None name n len e h = tt
long_ends (Some files) name n len e h =
    subst (λ m. Misses files (name ∷ []) (TooLong m len)) (sym e) (long_file (record { bytes = h.0; is = h.1; its_len = h.2; long = h.3 }))

pub failed_ends : (told : Option Files) (name : List ℕ) → IfSome told (λ files. MayStop files name most_bytes Failed) → ReadEnds told (name ∷ []) ReadFault
failed_ends None name h = tt
failed_ends (Some files) name h = (h.0, record { is = h.1; short = h.2 })
