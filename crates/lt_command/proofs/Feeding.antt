-- The words of a command give `clap` what they say.
use Rattle.std.proofs.Common.{◌≡◌, ℕ, suc, zero, ◌+◌, ◌++◌, ◌==◌, ◌&&◌, ◌≤◌, ◌⊎◌, inl, inr, Bool, true, false, not, List, [], ◌∷◌, length, take, drop, refl, ap, sym, ◌∙◌, Option, Some, None, codes, subst, arith}
use Rattle.std.specs.Prelude.{option_map, slice_get}
use Rattle.std.specs.List.{list_any, before_first, after_first, position_or_len}
use Rattle.std.specs.Str.{bytes_eq}
use Rattle.std.proofs.lemmas.Bool.{false≢true}
use Rattle.std.proofs.lemmas.Bool.Decides.{nat_tests}
use Rattle.std.proofs.lemmas.Slice.Eq.{bytes_eq-Decides}
use Rattle.clap.specs.Words.{Text}
use Rattle.clap.specs.Lexer.{long_of}
use Rattle.lt_command.specs.Parts.{Parts, Setting, add_option, add_positional, has_name, is_among, is_equals, is_joined, is_value, parts_of, parts_behind, stand_once, value_of, with_option}
use Rattle.lt_command.proofs.Uses.{Fed, nothing, positional, joined, apart, Values, set_at}
use Rattle.lt_command.proofs.Walking.{Form, IsForm, IsNoFile, IsOption, name_for, same_text}

-- the first of two values
abbrev pub or_else : Option Text → Option Text → Option Text
or_else (Some v) o = Some v
or_else None o = o

-- the values of the two positionals, where the first of these is the k-th
abbrev pub file_in : ℕ → List Text → Option Text
file_in (suc zero) words = slice_get words 0
file_in _ words = None

abbrev pub suite_in : ℕ → List Text → Option Text
suite_in (suc zero) words = slice_get words 1
suite_in (suc (suc zero)) words = slice_get words 0
suite_in _ words = None

-- nothing is said twice
pub record AreFresh (k : ℕ) (f : Values) (p : Parts) : Type 0 where
  pub options : (id : Text) → IsNoFile id → (value_of (name_for id) p.options ≡ None) ⊎ (f id ≡ None)
  pub file : k ≤ 1 → f (codes "FILE") ≡ None
  pub suite : k ≤ 2 → f (codes "SUITE") ≡ None

pub record Feeds (form : Form) (words : List Text) (k : ℕ) (f : Values) (p : Parts) : Type 0 where
  pub said : Values
  pub fed : Fed form.arguments form.past k f words said
  pub options : (id : Text) → IsNoFile id → said id ≡ or_else (f id) (value_of (name_for id) p.options)
  pub file : said (codes "FILE") ≡ or_else (f (codes "FILE")) (file_in k p.positionals)
  pub suite : said (codes "SUITE") ≡ or_else (f (codes "SUITE")) (suite_in k p.positionals)

abbrev pub FeedAt : Form → List Text → Parts → Type 0
FeedAt form words p =
    (k : ℕ) (f : Values) → 1 ≤ k → k + length p.positionals ≡ form.past → stand_once form.names p.options ≡ true → AreFresh k f p → Feeds form words k f p

abbrev Feed : Form → List Text → Type 0
Feed form words = (p : Parts) → parts_of words ≡ Some p → FeedAt form words p

abbrev no_parts : Parts
no_parts = record { positionals = []; options = [] }

or_none : (o : Option Text) → o ≡ or_else o None
or_none None = refl
or_none (Some v) = refl

no_file_in : (k : ℕ) → file_in k [] ≡ None
no_file_in zero = refl
no_file_in (suc zero) = refl
no_file_in (suc (suc k)) = refl

no_suite_in : (k : ℕ) → suite_in k [] ≡ None
no_suite_in zero = refl
no_suite_in (suc zero) = refl
no_suite_in (suc (suc zero)) = refl
no_suite_in (suc (suc (suc k))) = refl

feed_nothing : (form : Form) → FeedAt form [] no_parts
feed_nothing form k f low count once fresh =
    let is_past : form.past ≡ k = omega arith in
    record {
      said = f;
      fed = subst (λ (n : ℕ). Fed form.arguments form.past n f [] f) is_past nothing;
      options = λ id no_file. or_none (f id);
      file = or_none _ ∙ ap (or_else (f (codes "FILE"))) (sym (no_file_in k));
      suite = or_none _ ∙ ap (or_else (f (codes "SUITE"))) (sym (no_suite_in k));
    }

-- one more positional
feed_positional : (form : Form) → IsForm form → (b : ℕ) (bytes : Text) (rest : List Text) (q : Parts) → (b == 45) ≡ false → FeedAt form rest q
    → FeedAt form ((b ∷ bytes) ∷ rest) (add_positional (b ∷ bytes) q)
feed_positional form is b bytes rest q no_dash below zero f low count once fresh = absurd (omega arith)
feed_positional form is b bytes rest q no_dash below (suc zero) f low count once fresh =
    let none : f (codes "FILE") ≡ None = fresh.file (omega arith) in
    let more = below 2 (set_at f (codes "FILE") (b ∷ bytes)) (omega arith) (omega arith) once (record {
      options = λ id no_file. rw no_file.file (fresh.options id no_file);
      file = λ h. absurd (omega arith);
      suite = λ h. fresh.suite (omega arith);
    }) in
    record {
      said = more.said;
      fed = positional is.file.plain no_dash is.file.index none refl more.fed;
      options = λ id no_file. more.options id no_file ∙ rw no_file.file refl;
      file = more.file ∙ rw none refl;
      suite = more.suite;
    }
feed_positional form is b bytes rest q no_dash below (suc (suc zero)) f low count once fresh =
    let suite = is.suite (omega arith) in
    let none : f (codes "SUITE") ≡ None = fresh.suite (omega arith) in
    let more = below 3 (set_at f (codes "SUITE") (b ∷ bytes)) (omega arith) (omega arith) once (record {
      options = λ id no_file. rw no_file.suite (fresh.options id no_file);
      file = λ h. absurd (omega arith);
      suite = λ h. absurd (omega arith);
    }) in
    record {
      said = more.said;
      fed = positional suite.plain no_dash suite.index none refl more.fed;
      options = λ id no_file. more.options id no_file ∙ rw no_file.suite refl;
      file = more.file;
      suite = more.suite ∙ rw none refl;
    }
feed_positional form is b bytes rest q no_dash below (suc (suc (suc k))) f low count once fresh = absurd (omega (arith, is.past))

-- ---- one more option

record AllThree (a b d : Bool) : Type 0 where
  first : a ≡ true
  second : b ≡ false
  third : d ≡ true

all_three : (a b d : Bool) → (a && not b && d) ≡ true → AllThree a b d
all_three true false true h = record { first = refl; second = refl; third = refl }
all_three true false false h = absurd (false≢true h)
all_three true true d h = absurd (false≢true h)
all_three false b d h = absurd (false≢true h)

absent_value : (name : Text) (options : List Setting) → list_any (has_name name) options ≡ false → value_of name options ≡ None
absent_value name [] h = refl
absent_value name (o ∷ options) h = go (has_name name o) refl h (absent_value name options)
  where
    go : (t : Bool) → has_name name o ≡ t → list_any (has_name name) (o ∷ options) ≡ false → (list_any (has_name name) options ≡ false → value_of name options ≡ None)
        → value_of name (o ∷ options) ≡ None
    go true t h rest = let bad : true ≡ false = rw t at h in cc
    go false t h rest = rw t (rest (rw t at h))

Step : Form → Text → Text → List Text → List Text → Type 0
Step form id v words rest =
    (k : ℕ) (f g : Values) → f id ≡ None → Fed form.arguments form.past k (set_at f id v) rest g → Fed form.arguments form.past k f words g

feed_option_of : (form : Form) (id v : Text) (words rest : List Text) (q : Parts) → IsOption form.arguments id → FeedAt form rest q → Step form id v words rest
    → FeedAt form words (add_option (name_for id) v q)
unfolding Step
feed_option_of form id v words rest q o below step k f low count once fresh =
    let itself : bytes_eq id id ≡ true = (bytes_eq-Decides id id).1 refl in
    let parts = all_three (is_among (name_for id) form.names) (list_any (has_name (name_for id)) q.options) (stand_once form.names q.options) once in
    let absent = absent_value (name_for id) q.options parts.second in
    let none : f id ≡ None = elim (fresh.options id o.word.no_file) [ inl h ↦ absurd (some_none v (rw itself at h)) | inr h ↦ h ] in
    let more = below k (set_at f id v) low count parts.third (record {
      options = λ other no_file. fresh_at other (bytes_eq id other) refl absent (fresh.options other no_file);
      file = λ h. rw o.word.file (fresh.file h);
      suite = λ h. rw o.word.suite (fresh.suite h);
    }) in
    record {
      said = more.said;
      fed = step k f more.said none more.fed;
      options = λ other no_file. said_at other (bytes_eq id other) refl none (more.said other) (more.options other no_file);
      file = more.file ∙ rw o.word.file refl;
      suite = more.suite ∙ rw o.word.suite refl;
    }
  where
    some_none : (v : Text) → Some v ≡ None → ⊥
    some_none v h = cc

    fresh_at : (other : Text) (t : Bool) → bytes_eq id other ≡ t → value_of (name_for id) q.options ≡ None
        → (value_of (name_for other) (record { name = name_for id; value = v } ∷ q.options) ≡ None) ⊎ (f other ≡ None)
        → (value_of (name_for other) q.options ≡ None) ⊎ (set_at f id v other ≡ None)
    fresh_at other true t absent h = inl (ap (λ (w : Text). value_of (name_for w) q.options) (sym (same_text id other t)) ∙ absent)
    fresh_at other false t absent h = rw t (rw t at h)

    said_at : (other : Text) (t : Bool) → bytes_eq id other ≡ t → f id ≡ None → (said : Option Text) → said ≡ or_else (set_at f id v other) (value_of (name_for other) q.options)
        → said ≡ or_else (f other) (value_of (name_for other) (record { name = name_for id; value = v } ∷ q.options))
    said_at other true t none said h =
        let other_none : f other ≡ None = ap f (sym (same_text id other t)) ∙ none in
        rw (other_none, t) (rw t at h)
    said_at other false t none said h = rw t (rw t at h)

feed_option : (form : Form) → IsForm form → (name v : Text) (words rest : List Text) (q : Parts) → FeedAt form rest q
    → ((id : Text) → IsOption form.arguments id → name ≡ name_for id → Step form id v words rest) → FeedAt form words (add_option name v q)
feed_option form is name v words rest q below step k f low count once fresh =
    let parts = all_three (is_among name form.names) (list_any (has_name name) q.options) (stand_once form.names q.options) once in
    let n = is.option name parts.first in
    let its = feed_option_of form n.id v words rest q n.option below (step n.id n.option n.is) in
    subst (λ (w : Text). FeedAt form words (add_option w v q)) (sym n.is) its k f low count once fresh

-- ---- all words

mapped_some : {A B : Type 0} (f : A → B) (o : Option A) (p : B) → option_map f o ≡ Some p → (q : A) × (o ≡ Some q) × (f q ≡ p)
mapped_some f None p h = cc
mapped_some f (Some q) p h = (q, refl, (cc))

feed_first : (form : Form) → IsForm form → (word : Text) (rest : List Text) → Feed form rest → is_value word ≡ true → (p : Parts)
    → option_map (add_positional word) (parts_of rest) ≡ Some p → FeedAt form (word ∷ rest) p
feed_first form is [] rest below value p h = absurd (false≢true value)
feed_first form is (b ∷ bytes) rest below value p h =
    let made = mapped_some (add_positional (b ∷ bytes)) (parts_of rest) p h in
    let no_dash : (b == 45) ≡ false = not_true (b == 45) value in
    subst (FeedAt form ((b ∷ bytes) ∷ rest)) made.2 (feed_positional form is b bytes rest made.0 no_dash (below made.0 made.1))
  where
    not_true : (t : Bool) → not t ≡ true → t ≡ false
    not_true true h = absurd (false≢true h)
    not_true false h = refl

feed_valued : (form : Form) → IsForm form → (name v : Text) (words rest : List Text) → Feed form rest
    → (is_value v ≡ true → (id : Text) → IsOption form.arguments id → name ≡ name_for id → Step form id v words rest)
    → (p : Parts) → with_option name v (parts_of rest) ≡ Some p → FeedAt form words p
feed_valued form is name v words rest below step p h = go (is_value v) refl h
  where
    go : (t : Bool) → is_value v ≡ t → with_option name v (parts_of rest) ≡ Some p → FeedAt form words p
    go false t h = let bad : None ≡ Some p = rw t at h in cc
    go true t h =
        let made = mapped_some (add_option name v) (parts_of rest) p (rw t at h) in
        subst (FeedAt form words) made.2 (feed_option form is name v words rest made.0 (below made.0 made.1) (step t))

one_further : (n x : ℕ) (xs : Text) → take (1 + n) (x ∷ xs) ++ 61 ∷ drop (1 + n + 1) (x ∷ xs) ≡ x ∷ (take n xs ++ 61 ∷ drop (n + 1) xs)
one_further n x xs =
    let a : 1 + n + 1 ≡ suc (n + 1) = omega arith in
    let b : 1 + n ≡ suc n = omega arith in
    rw (a, b) refl

joined_is : (word : Text) → is_joined word ≡ true → word ≡ before_first is_equals word ++ 61 ∷ after_first is_equals word
joined_is [] h = absurd (false≢true h)
joined_is (x ∷ xs) h = go (is_equals x) refl h (joined_is xs)
  where
    go : (t : Bool) → is_equals x ≡ t → is_joined (x ∷ xs) ≡ true → (is_joined xs ≡ true → xs ≡ before_first is_equals xs ++ 61 ∷ after_first is_equals xs)
        → x ∷ xs ≡ before_first is_equals (x ∷ xs) ++ 61 ∷ after_first is_equals (x ∷ xs)
    go true t h below = let is : x ≡ 61 = grind (arith, nat_tests) in rw t (ap (λ (n : ℕ). n ∷ xs) is)
    go false t h below = rw t (ap (λ (bs : Text). x ∷ bs) (below (rw t at h)) ∙ sym (one_further (position_or_len is_equals xs) x xs))

step_joined_word : (form : Form) (word : Text) (rest : List Text) → is_joined word ≡ true → (id : Text) → IsOption form.arguments id → before_first is_equals word ≡ name_for id
    → Step form id (after_first is_equals word) (word ∷ rest) rest
unfolding Step
step_joined_word form word rest j id o name k f g none fed =
    let v = after_first is_equals word in
    let is : name_for id ++ 61 ∷ v ≡ word = sym (joined_is word j ∙ ap (λ (w : Text). w ++ 61 ∷ after_first is_equals word) name) in
    joined o.plain (ap (λ (w : Text). bytes_eq w (45 ∷ 45 ∷ [])) (sym is) ∙ o.word.no_dashes_joined v) (ap long_of (sym is) ∙ o.word.joined v) o.by_long none fed

step_apart_words : (form : Form) (word v : Text) (rest : List Text) → is_value v ≡ true → (id : Text) → IsOption form.arguments id → word ≡ name_for id → Step form id v (word ∷ v ∷ rest) rest
unfolding Step
step_apart_words form word [] rest is id o name k f g none fed = absurd (false≢true is)
step_apart_words form word (b ∷ bytes) rest is id o name k f g none fed =
    apart o.plain (ap (λ (w : Text). bytes_eq w (45 ∷ 45 ∷ [])) name ∙ o.word.no_dashes) (ap long_of name ∙ o.word.apart) o.by_long (not_true (b == 45) is) none fed
  where
    not_true : (t : Bool) → not t ≡ true → t ≡ false
    not_true true h = absurd (false≢true h)
    not_true false h = refl

-- all but the first word are read, if that is an option in one word; and if it is one in two
abbrev FeedBehind : Form → List Text → Type 0
FeedBehind form [] = Unit {0}
FeedBehind form (v ∷ rest) = Feed form rest

feed_behind : (form : Form) → IsForm form → (word : Text) (rest : List Text) → FeedBehind form rest → (p : Parts) → parts_behind word rest ≡ Some p → FeedAt form (word ∷ rest) p
feed_behind form is word [] below p h = cc
feed_behind form is word (v ∷ rest) below p h = feed_valued form is word v (word ∷ v ∷ rest) rest below (step_apart_words form word v rest) p h

feed_word : (form : Form) → IsForm form → (word : Text) (rest : List Text) → Feed form rest → FeedBehind form rest → Feed form (word ∷ rest)
feed_word form is word rest below behind p h = go (is_value word) (is_joined word) refl refl h
  where
    go : (a b : Bool) → is_value word ≡ a → is_joined word ≡ b → parts_of (word ∷ rest) ≡ Some p → FeedAt form (word ∷ rest) p
    go true b ha hb h = feed_first form is word rest below ha p (rw ha at h)
    go false true ha hb h =
        feed_valued form is (before_first is_equals word) (after_first is_equals word) (word ∷ rest) rest below (λ value. step_joined_word form word rest hb) p (rw (ha, hb) at h)
    go false false ha hb h = feed_behind form is word rest behind p (rw (ha, hb) at h)

pub feed : (form : Form) → IsForm form → (words : List Text) (p : Parts) → parts_of words ≡ Some p → FeedAt form words p
feed form is [] p h = let made : no_parts ≡ p = cc in subst (FeedAt form []) made (feed_nothing form)
feed form is (word ∷ []) p h = feed_word form is word [] (feed form is []) tt p h
feed form is (word ∷ v ∷ rest) p h = feed_word form is word (v ∷ rest) (feed form is (v ∷ rest)) (feed form is rest) p h
