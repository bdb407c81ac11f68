-- What is found behind words that are read one by one.
use Rattle.std.proofs.Common.{◌≡◌, ℕ, suc, ◌+◌, ◌++◌, ◌==◌, ◌&&◌, ◌||◌, Bool, true, false, List, [], ◌∷◌, refl, ap, ap₂, sym, ◌∙◌, Option, Some, None, is_some, subst}
use Rattle.std.specs.Prelude.{fold, slice_get, if◌then◌else◌, min}
use Rattle.std.specs.Str.{bytes_eq}
use Rattle.std.proofs.lemmas.List.{append-nil}
use Rattle.std.proofs.lemmas.List.Folds.{list_any-append}
use Rattle.std.proofs.lemmas.Slice.Eq.{bytes_eq-Decides}
use Rattle.clap.specs.Words.{Row, Rule, Text, first_of, Shape}
use Rattle.clap.specs.Lexer.{long_of, short_of, usize_max}
use Rattle.clap.specs.Walk.{Held, Walk, action_of, arg_by_id, arg_by_index, arg_by_long, at_row, has_row, idle, is_multiple, is_pending, more_values, most_values, reading_by, reacted, settled, takes_several, takes_values, used, used_as, walked, with_values, without}
use Rattle.clap.specs.Takes.{settle_passes, turn_passes, use_passes, walk_passes}
use Rattle.clap.specs.declared.builder.action.ArgAction.{ArgAction}
use Rattle.clap.specs.declared.builder.action.ArgAction.TheVariants.{Set}
use Rattle.clap.specs.declared.parser.matches.ValueSource.TheVariants.{CommandLine}
use Rattle.clap.specs.declared.builder.value_parser.Reading.{Reading}
use Rattle.clap.specs.declared.builder.value_parser.Reading.TheVariants.{AsWritten}

-- each use of the argument is one value of it
pub record IsPlainRule (c : List Rule) (a : Rule) : Type 0 where
  pub action : action_of a ≡ Set
  pub reading : reading_by a ≡ AsWritten
  pub most : most_values a ≡ 1
  pub several : takes_several a ≡ false
  pub multiple : is_multiple a ≡ false
  pub trailing : a.trailing_var_arg ≡ false
  pub by_id : arg_by_id c a.id ≡ Some a
  pub passes : (v : Text) (rows : List Row) → has_row a.id rows ≡ false → use_passes false a (v ∷ []) rows ≡ true

abbrev pub Values : Type 0
Values = Text → Option Text

-- the same values, and this one for this id
abbrev pub set_at : Values → Text → Text → Values
set_at f id v = λ other. if bytes_eq id other then Some v else f other

pub record AreValues (f : Values) (rows : List Row) : Type 0 where
  pub values : (id : Text) → first_of id rows ≡ f id
  pub stand : (id : Text) → has_row id rows ≡ is_some (f id)

pub record Holds (c : List Rule) (f : Values) (h : Held) : Type 0 where
  pub rows : AreValues f (settled c h).rows
  pub passes : settle_passes c false h ≡ true

-- ---- rows

at_no_row : (id : Text) (change : Row → List Row) (missing rows : List Row) → has_row id rows ≡ false → at_row id change missing rows ≡ rows ++ missing
at_no_row id change missing [] h = refl
at_no_row id change missing (r ∷ rows) h = go (bytes_eq r.id id) refl h (at_no_row id change missing rows)
  where
    go : (t : Bool) → bytes_eq r.id id ≡ t → has_row id (r ∷ rows) ≡ false → (has_row id rows ≡ false → at_row id change missing rows ≡ rows ++ missing)
        → at_row id change missing (r ∷ rows) ≡ r ∷ rows ++ missing
    go true t h rest = let bad : true ≡ false = rw t at h in cc
    go false t h rest = rw t (ap (λ (rs : List Row). r ∷ rs) (rest (rw t at h)))

abbrev row_for : Text → Text → Row
row_for id v = record { id = id; values = v ∷ []; count = None; source = Some CommandLine; reading = AsWritten }

used_fresh : (c : List Rule) (a : Rule) (v : Text) (rows : List Row) → IsPlainRule c a → has_row a.id rows ≡ false
    → used a (v ∷ []) rows ≡ rows ++ row_for a.id v ∷ []
used_fresh c a v rows p fresh =
    let as_set : used a (v ∷ []) rows ≡ used_as Set a.id AsWritten (v ∷ []) rows =
    ap₂ (λ (t : ArgAction) (how : Reading). used_as t a.id how (v ∷ []) rows) p.action p.reading in
    let none : without a.id rows ≡ rows = at_no_row a.id (λ _. []) [] rows fresh ∙ append-nil rows in
    as_set ∙ ap (with_values a.id AsWritten CommandLine (v ∷ [])) none ∙ at_no_row a.id (more_values CommandLine (v ∷ [])) (row_for a.id v ∷ []) rows fresh

first_other : (id : Text) (r : Row) (rows : List Row) → bytes_eq r.id id ≡ false → first_of id (rows ++ r ∷ []) ≡ first_of id rows
first_other id r [] h = rw h refl
first_other id r (x ∷ rows) h = go (bytes_eq x.id id) refl (first_other id r rows h)
  where
    go : (t : Bool) → bytes_eq x.id id ≡ t → first_of id (rows ++ r ∷ []) ≡ first_of id rows → first_of id (x ∷ rows ++ r ∷ []) ≡ first_of id (x ∷ rows)
    go true t rest = rw t refl
    go false t rest = rw t rest

first_new : (id : Text) (r : Row) (rows : List Row) → has_row id rows ≡ false → bytes_eq r.id id ≡ true → first_of id (rows ++ r ∷ []) ≡ slice_get r.values 0
first_new id r [] fresh h = rw h refl
first_new id r (x ∷ rows) fresh h = go (bytes_eq x.id id) refl fresh (λ f. first_new id r rows f h)
  where
    go : (t : Bool) → bytes_eq x.id id ≡ t → has_row id (x ∷ rows) ≡ false → (has_row id rows ≡ false → first_of id (rows ++ r ∷ []) ≡ slice_get r.values 0)
        → first_of id (x ∷ rows ++ r ∷ []) ≡ slice_get r.values 0
    go true t fresh rest = let bad : true ≡ false = rw t at fresh in cc
    go false t fresh rest = rw t (rest (rw t at fresh))

has_or : (id : Text) (r : Row) (rows : List Row) → has_row id (rows ++ r ∷ []) ≡ (has_row id rows || (bytes_eq r.id id || false))
has_or id r rows = list_any-append (λ (x : Row). bytes_eq x.id id) rows (r ∷ [])

or_true : (b : Bool) → (b || true) ≡ true
or_true true = refl
or_true false = refl

or_false : (b : Bool) → (b || false) ≡ b
or_false true = refl
or_false false = refl

with_one_more : (f : Values) (rows : List Row) (id v : Text) → AreValues f rows → f id ≡ None → AreValues (set_at f id v) (rows ++ row_for id v ∷ [])
with_one_more f rows id v h none = record {
  values = λ other. one other (bytes_eq id other) refl;
  stand = λ other. two other (bytes_eq id other) refl;
}
  where
    fresh : has_row id rows ≡ false
    fresh = h.stand id ∙ ap (λ (o : Option Text). is_some o) none

    one : (other : Text) (t : Bool) → bytes_eq id other ≡ t → first_of other (rows ++ row_for id v ∷ []) ≡ set_at f id v other
    one other true t =
        let same : id ≡ other = (bytes_eq-Decides id other).0 t in
        let its_fresh : has_row other rows ≡ false = ap (λ (w : Text). has_row w rows) (sym same) ∙ fresh in
        rw t (first_new other (row_for id v) rows its_fresh t)
    one other false t = rw t (first_other other (row_for id v) rows t ∙ h.values other)

    two : (other : Text) (t : Bool) → bytes_eq id other ≡ t → has_row other (rows ++ row_for id v ∷ []) ≡ is_some (set_at f id v other)
    two other true t = has_or other (row_for id v) rows ∙ rw t (or_true (has_row other rows))
    two other false t = has_or other (row_for id v) rows ∙ rw t (or_false (has_row other rows) ∙ h.stand other)

-- one more use
pub used_holds : (c : List Rule) (a : Rule) (f : Values) (v : Text) (rows : List Row) → IsPlainRule c a → AreValues f rows → f a.id ≡ None
    → AreValues (set_at f a.id v) (used a (v ∷ []) rows)
used_holds c a f v rows p h none =
    let fresh : has_row a.id rows ≡ false = h.stand a.id ∙ ap (λ (o : Option Text). is_some o) none in
    subst (AreValues (set_at f a.id v)) (sym (used_fresh c a v rows p fresh)) (with_one_more f rows a.id v h none)

-- ---- steps of the walk

pub and_false : (b : Bool) → (b && false) ≡ false
and_false true = refl
and_false false = refl

-- where the walk stands between words, where no option waits
abbrev pub at : Held → ℕ → Walk
at h k = record { held = h; waiting = idle; position = k; is_trailing = false; stopped = None }

-- the value of a positional that is read, and of an option that was
pub pushed_holds : (c : List Rule) (a : Rule) (f : Values) (v : Text) (h : Held) → IsPlainRule c a → Holds c f h → f a.id ≡ None
    → Holds c (set_at f a.id v) (record h { rows = (settled c h).rows; pending = Some (a.id, v ∷ []) })
pushed_holds c a f v h p holds none =
    let fresh : has_row a.id (settled c h).rows ≡ false = holds.rows.stand a.id ∙ ap (λ (o : Option Text). is_some o) none in
    record {
      rows = rw p.by_id (used_holds c a f v (settled c h).rows p holds.rows none);
      passes = rw p.by_id (p.passes v (settled c h).rows fresh);
    }

pub reacted_holds : (c : List Rule) (a : Rule) (f : Values) (v : Text) (h : Held) → IsPlainRule c a → Holds c f h → f a.id ≡ None
    → Holds c (set_at f a.id v) (reacted c a (v ∷ []) h)
reacted_holds c a f v h p holds none = record {
  rows = used_holds c a f v (settled c h).rows p holds.rows none;
  passes = refl;
}

no_dashes_in : (b : ℕ) (bytes : Text) → (b == 45) ≡ false → bytes_eq (b ∷ bytes) (45 ∷ 45 ∷ []) ≡ false
no_dashes_in b bytes h = rw h refl

no_long_in : (b : ℕ) (bytes : Text) → (b == 45) ≡ false → long_of (b ∷ bytes) ≡ None
no_long_in b bytes h = rw h refl

no_short_in : (b : ℕ) (bytes : Text) → (b == 45) ≡ false → short_of (b ∷ bytes) ≡ None
no_short_in b bytes h = rw h refl

pub step_positional : (c : List Rule) (a : Rule) (k b : ℕ) (bytes : Text) (h : Held) → IsPlainRule c a → (b == 45) ≡ false → arg_by_index c k ≡ Some a
    → walked c [] (at h k) (b ∷ bytes) ≡ at (record h { rows = (settled c h).rows; pending = Some (a.id, (b ∷ bytes) ∷ []) }) (min (k + 1) usize_max)
unfolding walked
step_positional c a k b bytes h p no_dash index =
    let dashes = no_dashes_in b bytes no_dash in
    let long = no_long_in b bytes no_dash in
    let short = no_short_in b bytes no_dash in
    rw (dashes, long, short, index, p.multiple, p.trailing, p.several, and_false (is_pending a h.pending)) refl

pub step_joined : (c : List Rule) (a : Rule) (k : ℕ) (w v : Text) (h : Held) → IsPlainRule c a → bytes_eq w (45 ∷ 45 ∷ []) ≡ false
    → long_of w ≡ Some (a.id, Some v) → arg_by_long c a.id ≡ Some a
    → walked c [] (at h k) w ≡ at (reacted c a (v ∷ []) h) k
unfolding walked
step_joined c a k w v h p no_dashes long by_long = rw (no_dashes, long, by_long, p.most) refl

pub step_apart : (c : List Rule) (a : Rule) (k b : ℕ) (w bytes : Text) (h : Held) → IsPlainRule c a → bytes_eq w (45 ∷ 45 ∷ []) ≡ false
    → long_of w ≡ Some (a.id, None) → arg_by_long c a.id ≡ Some a → (b == 45) ≡ false
    → walked c [] (walked c [] (at h k) w) (b ∷ bytes) ≡ at (record h { rows = (settled c h).rows; pending = Some (a.id, (b ∷ bytes) ∷ []) }) k
unfolding walked
step_apart c a k b w bytes h p no_dashes long by_long no_dash =
    let same : bytes_eq a.id a.id ≡ true = (bytes_eq-Decides a.id a.id).1 refl in
    let dashes = no_dashes_in b bytes no_dash in
    let long_b = no_long_in b bytes no_dash in
    let short_b = no_short_in b bytes no_dash in
    rw (no_dashes, long, by_long, p.most, dashes, long_b, short_b, p.by_id, same, p.most) refl

-- ---- what the walk refuses

pub passes_positional : (s : Shape) (f : Values) (a : Rule) (k b : ℕ) (bytes : Text) (h : Held) → s.args_override_self ≡ false → IsPlainRule s.rules a
    → Holds s.rules f h → (b == 45) ≡ false → arg_by_index s.rules k ≡ Some a → turn_passes s [] (at h k) (b ∷ bytes) ≡ true
passes_positional s f a k b bytes h once p holds no_dash index =
    let dashes = no_dashes_in b bytes no_dash in
    let long = no_long_in b bytes no_dash in
    let short = no_short_in b bytes no_dash in
    rw (dashes, long, short, index, p.several, and_false (is_pending a h.pending), once) holds.passes

pub passes_joined : (s : Shape) (f : Values) (a : Rule) (k : ℕ) (w v : Text) (h : Held) → s.args_override_self ≡ false → IsPlainRule s.rules a
    → Holds s.rules f h → f a.id ≡ None → bytes_eq w (45 ∷ 45 ∷ []) ≡ false
    → long_of w ≡ Some (a.id, Some v) → arg_by_long s.rules a.id ≡ Some a → turn_passes s [] (at h k) w ≡ true
passes_joined s f a k w v h once p holds none no_dashes long by_long =
    let fresh : has_row a.id (settled s.rules h).rows ≡ false = holds.rows.stand a.id ∙ ap (λ (o : Option Text). is_some o) none in
    let used_well = p.passes v (settled s.rules h).rows fresh in
    let takes : takes_values a ≡ true = rw p.most refl in
    rw (no_dashes, long, by_long, takes, once, holds.passes, used_well) refl

pub passes_name : (s : Shape) (f : Values) (a : Rule) (k : ℕ) (w : Text) (h : Held) → s.args_override_self ≡ false → IsPlainRule s.rules a
    → Holds s.rules f h → bytes_eq w (45 ∷ 45 ∷ []) ≡ false
    → long_of w ≡ Some (a.id, None) → arg_by_long s.rules a.id ≡ Some a → turn_passes s [] (at h k) w ≡ true
passes_name s f a k w h once p holds no_dashes long by_long =
    rw (no_dashes, long, by_long, p.most, once, holds.passes) refl

pub passes_value : (s : Shape) (a : Rule) (k b : ℕ) (w bytes : Text) (h : Held) → IsPlainRule s.rules a → bytes_eq w (45 ∷ 45 ∷ []) ≡ false
    → long_of w ≡ Some (a.id, None) → arg_by_long s.rules a.id ≡ Some a → (b == 45) ≡ false
    → turn_passes s [] (walked s.rules [] (at h k) w) (b ∷ bytes) ≡ true
unfolding walked
passes_value s a k b w bytes h p no_dashes long by_long no_dash =
    let dashes = no_dashes_in b bytes no_dash in
    let long_b = no_long_in b bytes no_dash in
    let short_b = no_short_in b bytes no_dash in
    rw (no_dashes, long, by_long, p.most, dashes, long_b, short_b) refl

-- ---- all words

-- the words say, from the k-th positional on, so much more than f that g is said; no positional has the number past
pub data Fed (c : List Rule) (past : ℕ) : ℕ → Values → List Text → Values → Type 0 where
  nothing : {f : Values} → Fed c past past f [] f
  positional : {a : Rule} {k b : ℕ} {bytes : Text} {rest : List Text} {f g : Values} → IsPlainRule c a → (b == 45) ≡ false → arg_by_index c k ≡ Some a → f a.id ≡ None
      → min (k + 1) usize_max ≡ suc k → Fed c past (suc k) (set_at f a.id (b ∷ bytes)) rest g → Fed c past k f ((b ∷ bytes) ∷ rest) g
  joined : {a : Rule} {k : ℕ} {w v : Text} {rest : List Text} {f g : Values} → IsPlainRule c a → bytes_eq w (45 ∷ 45 ∷ []) ≡ false → long_of w ≡ Some (a.id, Some v)
      → arg_by_long c a.id ≡ Some a → f a.id ≡ None → Fed c past k (set_at f a.id v) rest g → Fed c past k f (w ∷ rest) g
  apart : {a : Rule} {k b : ℕ} {w bytes : Text} {rest : List Text} {f g : Values} → IsPlainRule c a → bytes_eq w (45 ∷ 45 ∷ []) ≡ false → long_of w ≡ Some (a.id, None)
      → arg_by_long c a.id ≡ Some a → (b == 45) ≡ false → f a.id ≡ None → Fed c past k (set_at f a.id (b ∷ bytes)) rest g → Fed c past k f (w ∷ (b ∷ bytes) ∷ rest) g

-- how a walk that goes well ends
pub record Ends (s : Shape) (past k : ℕ) (h : Held) (words : List Text) (g : Values) : Type 0 where
  pub end : Held
  pub walked_to : fold (walked s.rules []) (at h k) words ≡ at end past
  pub holds : Holds s.rules g end
  pub passes : walk_passes s [] (at h k) words ≡ true

pub fed_ends : (s : Shape) (past k : ℕ) (f g : Values) (words : List Text) (h : Held) → s.args_override_self ≡ false → Fed s.rules past k f words g → Holds s.rules f h → Ends s past k h words g
unfolding walk_passes
fed_ends s past k f g words h once nothing holds = record { end = h; walked_to = refl; holds = holds; passes = refl }
fed_ends s past k f g words h once (positional {a = a} {b = b} {bytes = bytes} {rest = rest} p no_dash index none next fed) holds =
    let step = step_positional s.rules a k b bytes h p no_dash index ∙ ap (at (record h { rows = (settled s.rules h).rows; pending = Some (a.id, (b ∷ bytes) ∷ []) })) next in
    let rest_ends = fed_ends s past (suc k) _ g rest _ once fed (pushed_holds s.rules a f (b ∷ bytes) h p holds none) in
    record {
      end = rest_ends.end;
      walked_to = ap (λ (w : Walk). fold (walked s.rules []) w rest) step ∙ rest_ends.walked_to;
      holds = rest_ends.holds;
      passes = rw (passes_positional s f a k b bytes h once p holds no_dash index, step) rest_ends.passes;
    }
fed_ends s past k f g words h once (joined {a = a} {w = w} {v = v} {rest = rest} p no_dashes long by_long none fed) holds =
    let step = step_joined s.rules a k w v h p no_dashes long by_long in
    let rest_ends = fed_ends s past k _ g rest _ once fed (reacted_holds s.rules a f v h p holds none) in
    record {
      end = rest_ends.end;
      walked_to = ap (λ (w : Walk). fold (walked s.rules []) w rest) step ∙ rest_ends.walked_to;
      holds = rest_ends.holds;
      passes = rw (passes_joined s f a k w v h once p holds none no_dashes long by_long, step) rest_ends.passes;
    }
fed_ends s past k f g words h once (apart {a = a} {b = b} {w = w} {bytes = bytes} {rest = rest} p no_dashes long by_long no_dash none fed) holds =
    let step = step_apart s.rules a k b w bytes h p no_dashes long by_long no_dash in
    let rest_ends = fed_ends s past k _ g rest _ once fed (pushed_holds s.rules a f (b ∷ bytes) h p holds none) in
    record {
      end = rest_ends.end;
      walked_to = ap (λ (w : Walk). fold (walked s.rules []) w rest) step ∙ rest_ends.walked_to;
      holds = rest_ends.holds;
      passes = rw (passes_name s f a k w h once p holds no_dashes long by_long, passes_value s a k b w bytes h p no_dashes long by_long no_dash, step) rest_ends.passes;
    }
