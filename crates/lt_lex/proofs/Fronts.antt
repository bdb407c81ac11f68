-- The scanned piece is the longest.
use Rattle.std.proofs.Common.{◌≡◌, ℕ, suc, ◌+◌, ◌<◌, ◌≤◌, max, Bool, true, false, not, cond, ◌&&◌, eqb, List, [], ◌∷◌, ◌++◌, length, take, drop, Option, Some, None, refl, sym, ap, subst, ◌∙◌, arith, inl, inr, ◌⊎◌}
use Rattle.std.specs.Prelude.{nat_eq}
use Rattle.std.specs.Option.{option_map}
use Rattle.std.specs.List.{list_all, prefix_len, starts_with}
use Rattle.std.specs.Char.{is_ascii_digit}
use Rattle.std.specs.Str.{bytes_eq}
use Rattle.std.proofs.lemmas.Bool.{and_parts, or_cases, eqb-true, or_left, or_right, cases_lt, not-true}
use Rattle.std.proofs.lemmas.Bool.Decides.{Decides-eqb}
use Rattle.std.proofs.lemmas.Slice.Eq.{starts_is, bytes_eq-Decides}
use Rattle.std.proofs.lemmas.List.{take_at, length-append, length-drop}
use Rattle.lt_token.specs.declared.piece.Class.{Class}
use Rattle.lt_token.specs.declared.piece.Class.TheVariants as class
use Rattle.lt_token.specs.declared.piece.Form.{Form}
use Rattle.lt_token.specs.declared.piece.Form.TheVariants as form
use Rattle.lt_token.specs.declared.piece.Part.TheVariants as part
use Rattle.lt_token.specs.Bytes.{class_of, is_word_byte, is_blank, is_in_line, quote, apostrophe}
use Rattle.lt_token.specs.Parts.{first_digit, is_whole_after, ends_at, is_closed_after}
use Rattle.lt_token.specs.Words.{is_among, punctuators, literal_prefixes}
use Rattle.lt_token.specs.Pieces.{is_literal, is_prefixed, is_fraction, is_line_comment, is_block_comment, is_piece_at, is_piece}
use Rattle.lt_lex.specs.Front.{reach, longest_front, punctuator, literal_len, prefixed, word, dot, slash, front_at, front}
use Rattle.lt_lex.proofs.Reach.{reach_closed, closed_is, Far, covers as reach_covers, reaches}

-- ---- runs of bytes

run_covers : (p : ℕ → Bool) (other rest : List ℕ) → list_all p other ≡ true → length other ≤ prefix_len p (other ++ rest)
run_covers p [] rest h = omega arith
run_covers p (b ∷ bs) rest h =
    let both = and_parts (p b) (list_all p bs) h in
    let more = run_covers p bs rest both.1 in
    rw both.0 (omega arith)

pub run_passes : (p : ℕ → Bool) (bs : List ℕ) → list_all p (take (prefix_len p bs) bs) ≡ true
run_passes p [] = refl
run_passes p (b ∷ bs) = step (p b) refl (run_passes p bs)
  where
    step : (t : Bool) → p b ≡ t → list_all p (take (prefix_len p bs) bs) ≡ true → list_all p (take (cond t (1 + prefix_len p bs) 0) (b ∷ bs)) ≡ true
    step true e more = let k : 1 + prefix_len p bs ≡ suc (prefix_len p bs) = omega arith in rw (k, e, more) refl
    step false e more = refl

-- a run that ends inside of the bytes stays as it is, whatever follows them
run_stays : (p : ℕ → Bool) (w rest : List ℕ) → 0 < length (drop (prefix_len p w) w)
    → (prefix_len p (w ++ rest) ≡ prefix_len p w) × (take (prefix_len p w) (w ++ rest) ≡ take (prefix_len p w) w) × (drop (prefix_len p w) (w ++ rest) ≡ drop (prefix_len p w) w ++ rest)
run_stays p [] rest h = absurd (omega (arith, h))
run_stays p (b ∷ bs) rest h = step (p b) refl h (run_stays p bs rest)
  where
    step : (t : Bool) → p b ≡ t → 0 < length (drop (cond t (1 + prefix_len p bs) 0) (b ∷ bs))
        → (0 < length (drop (prefix_len p bs) bs) → (prefix_len p (bs ++ rest) ≡ prefix_len p bs) × (take (prefix_len p bs) (bs ++ rest) ≡ take (prefix_len p bs) bs) × (drop (prefix_len p bs) (bs ++ rest) ≡ drop (prefix_len p bs) bs ++ rest))
        → (cond t (1 + prefix_len p (bs ++ rest)) 0 ≡ cond t (1 + prefix_len p bs) 0)
        × (take (cond t (1 + prefix_len p bs) 0) (b ∷ bs ++ rest) ≡ take (cond t (1 + prefix_len p bs) 0) (b ∷ bs))
        × (drop (cond t (1 + prefix_len p bs) 0) (b ∷ bs ++ rest) ≡ drop (cond t (1 + prefix_len p bs) 0) (b ∷ bs) ++ rest)
    step true e h more =
        let k : 1 + prefix_len p bs ≡ suc (prefix_len p bs) = omega arith in
        let h' : 0 < length (drop (prefix_len p bs) bs) = subst (λ (n : ℕ). 0 < length (drop n (b ∷ bs))) k h in
        let m = more h' in
        rw k (omega (arith, m.0), ap (λ (x : List ℕ). b ∷ x) m.1, m.2)
    step false e h more = (refl, refl, refl)

-- ---- punctuators

-- the longest that begins the text is at least as long as each of the words at its front
longest_covers : (ws : List (List ℕ)) (other rest : List ℕ) → is_among other ws ≡ true → length other ≤ longest_front ws (other ++ rest)
longest_covers [] other rest h = absurd cc
longest_covers (v ∷ ws) other rest h =
    step (starts_with nat_eq (other ++ rest) v) refl (or_cases (bytes_eq other v) (is_among other ws) h) (longest_covers ws other rest)
  where
    step : (t : Bool) → starts_with nat_eq (other ++ rest) v ≡ t → (bytes_eq other v ≡ true) ⊎ (is_among other ws ≡ true) → (is_among other ws ≡ true → length other ≤ longest_front ws (other ++ rest))
        → length other ≤ cond t (max (length v) (longest_front ws (other ++ rest))) (longest_front ws (other ++ rest))
    step true e (inl c) more = let k = (bytes_eq-Decides other v).0 c in omega (arith, ap length k)
    step true e (inr c) more = omega (arith, more c)
    step false e (inl c) more =
        let k = (bytes_eq-Decides other v).0 c in
        let s = (starts_is Decides-eqb (other ++ rest) v (starts_with nat_eq (other ++ rest) v) refl).1 rest (ap (λ (x : List ℕ). x ++ rest) k) in
        absurd cc
    step false e (inr c) more = more c

-- and it is one of them, unless none begins the text
pub longest_is : (ws : List (List ℕ)) (text : List ℕ) → (longest_front ws text ≡ 0) ⊎ ((longest_front ws text ≤ length text) × (is_among (take (longest_front ws text) text) ws ≡ true))
longest_is [] text = inl refl
longest_is (w ∷ ws) text = step (starts_with nat_eq text w) refl (longest_is ws text)
  where
    rest : ℕ
    rest = longest_front ws text

    -- the longer of the two
    longer : starts_with nat_eq text w ≡ true → (rest ≡ 0) ⊎ ((rest ≤ length text) × (is_among (take rest text) ws ≡ true)) → (m : ℕ) → m ≡ max (length w) rest
        → (m ≡ 0) ⊎ ((m ≤ length text) × (is_among (take m text) (w ∷ ws) ≡ true))
    longer e more m is =
        elim (cases_lt rest (length w)) [
          | inl lt ↦
              let k : m ≡ length w = omega arith in
              let parts = (starts_is Decides-eqb text w (starts_with nat_eq text w) refl).0 e in
              let front : take m text ≡ w = ap (take m) parts ∙ take_at w (drop (length w) text) m (sym k) in
              inr (omega (arith, ap length parts, length-append w (drop (length w) text)), or_left _ _ ((bytes_eq-Decides (take m text) w).1 front))
          | inr le ↦
              let k : m ≡ rest = omega arith in
              elim more [
                | inl z ↦ inl (k ∙ z)
                | inr h ↦ inr (omega (arith, h.0), or_right _ _ (ap (λ (n : ℕ). is_among (take n text) ws) k ∙ h.1))
              ]
        ]

    step : (t : Bool) → starts_with nat_eq text w ≡ t → (rest ≡ 0) ⊎ ((rest ≤ length text) × (is_among (take rest text) ws ≡ true))
        → (cond t (max (length w) rest) rest ≡ 0) ⊎ ((cond t (max (length w) rest) rest ≤ length text) × (is_among (take (cond t (max (length w) rest) rest) text) (w ∷ ws) ≡ true))
    step true e more = longer e more (max (length w) rest) refl
    step false e (inl z) = inl z
    step false e (inr m) = inr (m.0, or_right _ _ m.1)

-- ---- what punctuators begin with

-- one with a slash has two bytes at most, and no comment's; one with a point goes on without a digit
abbrev plain_slash : List ℕ → Bool
plain_slash [] = true
plain_slash (c ∷ cs) = not (eqb c 47) && not (eqb c 42)

abbrev plain_dot : List ℕ → Bool
plain_dot [] = true
plain_dot (c ∷ cs) = not (is_ascii_digit c)

abbrev may_begin : Class → List ℕ → Bool
may_begin class.Slash bs = plain_slash bs
may_begin class.Dot bs = plain_dot bs
may_begin class.Sign bs = true
may_begin _ bs = false

abbrev begins_well : List ℕ → Bool
begins_well [] = false
begins_well (b ∷ bs) = may_begin (class_of b) bs

all_begin_well : list_all begins_well punctuators ≡ true
unfolding punctuators
all_begin_well = refl

any_of_all : (p : List ℕ → Bool) (ws : List (List ℕ)) (w : List ℕ) → list_all p ws ≡ true → is_among w ws ≡ true → p w ≡ true
any_of_all p [] w all h = absurd cc
any_of_all p (v ∷ ws) w all h =
    let both = and_parts (p v) (list_all p ws) all in
    elim (or_cases (bytes_eq w v) (is_among w ws) h) [
      | inl e ↦ ap p ((bytes_eq-Decides w v).0 e) ∙ both.0
      | inr e ↦ any_of_all p ws w both.1 e
    ]

-- ---- each piece at the front is covered

-- the scan finds a piece at least as long
pub record Found (scan : Option (Form × ℕ)) (len : ℕ) : Type 0 where
  pub form : Form
  pub end : ℕ
  pub is_found : scan ≡ Some (form, end)
  pub long : len ≤ end

-- a reach of this form
far_found : (f : Form) (o : Option ℕ) (len : ℕ) → Far o len → Found (option_map (λ n. (f, n)) o) len
far_found f o len r = rw r.is_some (record { form = f; end = r.end; is_found = refl; long = r.long })

punctuator_covers : (b : ℕ) (other rest : List ℕ) → is_among (b ∷ other) punctuators ≡ true → Found (punctuator (b ∷ other ++ rest)) (suc (length other))
punctuator_covers b other rest h =
    let n = longest_front punctuators (b ∷ other ++ rest) in
    step n (longest_covers punctuators (b ∷ other) rest h) (eqb n 0) refl
  where
    step : (n : ℕ) → suc (length other) ≤ n → (t : Bool) → eqb n 0 ≡ t → Found (cond t None (Some (form.Punctuator, n))) (suc (length other))
    step n h true e = absurd (omega (arith, eqb-true n 0 e))
    step n h false e = record { form = form.Punctuator; end = n; is_found = refl; long = h }

literal_covers : (other rest : List ℕ) → is_literal other ≡ true → Far (literal_len (other ++ rest)) (length other)
literal_covers [] rest h = absurd cc
literal_covers (b ∷ bs) rest h =
    elim (or_cases (eqb b quote && is_closed_after part.Text bs) (eqb b apostrophe && is_whole_after part.Character bs) h) [
      | inl e ↦
          let both = and_parts (eqb b quote) (is_closed_after part.Text bs) e in
          let far = reach_closed part.Text 1 None bs rest (closed_is (ends_at part.Text bs) both.1) in
          let front : take (1 + length bs) (b ∷ bs ++ rest) ≡ b ∷ bs = take_at (b ∷ bs) rest (1 + length bs) (omega arith) in
          rw (both.0, far, front, both.1) (record { end = 1 + length bs; is_some = refl; long = omega arith })
      | inr e ↦
          let both = and_parts (eqb b apostrophe) (is_whole_after part.Character bs) e in
          let k = eqb-true b apostrophe both.0 in
          let r = reach_covers part.Character 1 None bs rest both.1 in
          rw k (record { end = r.end; is_some = r.is_some; long = omega (arith, r.long) })
    ]

literal_some : (w : List ℕ) → is_literal w ≡ true → 0 < length w
literal_some [] h = absurd cc
literal_some (b ∷ bs) h = omega arith

prefixed_covers : (n : ℕ) (o : Option ℕ) (m : ℕ) → Far o m → Found (Some (prefixed n o)) (n + m)
prefixed_covers n o m r = rw r.is_some (record { form = form.Prefixed; end = n + r.end; is_found = refl; long = omega (arith, r.long) })

-- a literal with a prefix at the front
literal_word_covers : (other rest : List ℕ) → is_prefixed other ≡ true → Found (Some (word (prefix_len is_word_byte (other ++ rest)) (other ++ rest))) (length other)
literal_word_covers other rest h =
    let n = prefix_len is_word_byte other in
    let both = and_parts (is_among (take n other) literal_prefixes) (is_literal (drop n other)) h in
    let stays = run_stays is_word_byte other rest (literal_some (drop n other) both.1) in
    let far = literal_covers (drop n other) rest both.1 in
    let found = prefixed_covers n (literal_len (drop n other ++ rest)) (length (drop n other)) far in
    rw (stays.0, stays.1, stays.2, both.0) (record { form = found.form; end = found.end; is_found = found.is_found; long = omega (arith, found.long, length-drop n other) })

-- no scan of a word is shorter than its run
word_least : (n : ℕ) (text : List ℕ) → Found (Some (word n text)) n
word_least n text = step (is_among (take n text) literal_prefixes) (literal_len (drop n text))
  where
    step : (t : Bool) (o : Option ℕ) → Found (Some (cond t (prefixed n o) (form.Word, n))) n
    step true None = record { form = form.Word; end = n; is_found = refl; long = omega arith }
    step true (Some m) = record { form = form.Prefixed; end = n + m; is_found = refl; long = omega arith }
    step false o = record { form = form.Word; end = n; is_found = refl; long = omega arith }

longer_found : (scan : Option (Form × ℕ)) (n m : ℕ) → m ≤ n → Found scan n → Found scan m
longer_found scan n m h f = record { form = f.form; end = f.end; is_found = f.is_found; long = omega (arith, f.long) }

fraction_covers : (cs rest text : List ℕ) → is_fraction cs ≡ true → Found (dot (cs ++ rest) text) (suc (length cs))
fraction_covers [] rest text h = absurd cc
fraction_covers (b ∷ bs) rest text h =
    let both = and_parts (is_ascii_digit b) (is_whole_after part.Fraction bs) h in
    let r = reach_covers part.Fraction 2 None bs rest both.1 in
    rw both.0 (far_found form.Number (reach part.Fraction 2 None (bs ++ rest)) (suc (suc (length bs))) (record { end = r.end; is_some = r.is_some; long = omega (arith, r.long) }))

line_covers : (cs rest text : List ℕ) → is_line_comment cs ≡ true → Found (slash (cs ++ rest) text) (suc (length cs))
line_covers [] rest text h = absurd cc
line_covers (b ∷ bs) rest text h =
    let both = and_parts (eqb b 47) (list_all is_in_line bs) h in
    let long = run_covers is_in_line bs rest both.1 in
    rw both.0 (record { form = form.LineComment; end = 2 + prefix_len is_in_line (bs ++ rest); is_found = refl; long = omega arith })

comment_covers : (cs rest text : List ℕ) → is_block_comment cs ≡ true → Found (slash (cs ++ rest) text) (suc (length cs))
comment_covers [] rest text h = absurd cc
comment_covers (b ∷ bs) rest text h =
    let both = and_parts (eqb b 42) (is_whole_after part.Comment bs) h in
    let k : b ≡ 42 = eqb-true b 42 both.0 in
    let r = reach_covers part.Comment 2 None bs rest both.1 in
    rw k (far_found form.BlockComment (reach part.Comment 2 None (bs ++ rest)) (suc (suc (length bs))) (record { end = r.end; is_some = r.is_some; long = omega (arith, r.long) }))

-- a piece with a slash or a point that is a punctuator
slash_plain : (cs text : List ℕ) → plain_slash cs ≡ true → slash cs text ≡ punctuator text
slash_plain [] text h = refl
slash_plain (c ∷ cs) text h =
    let both = and_parts (not (eqb c 47)) (not (eqb c 42)) h in
    let x = not-true (eqb c 47) both.0 in
    let y = not-true (eqb c 42) both.1 in
    rw (x, y) refl

dot_plain : (cs text : List ℕ) → plain_dot cs ≡ true → dot cs text ≡ punctuator text
dot_plain [] text h = refl
dot_plain (c ∷ cs) text h = let x = not-true (is_ascii_digit c) h in rw x refl

-- a lone slash or point at the front of a longer text
slash_least : (cs text : List ℕ) → Found (punctuator text) 1 → Found (slash cs text) 1
slash_least [] text p = p
slash_least (c ∷ cs) text p = step (eqb c 47) (eqb c 42)
  where
    step : (t u : Bool) → Found (cond t (Some (form.LineComment, 2 + prefix_len is_in_line cs)) (cond u (option_map (λ n. (form.BlockComment, n)) (reach part.Comment 2 None cs)) (punctuator text))) 1
    step true u = record { form = form.LineComment; end = 2 + prefix_len is_in_line cs; is_found = refl; long = omega arith }
    step false true = longer_found _ 2 1 (omega arith) (far_found form.BlockComment (reach part.Comment 2 None cs) 2 (reaches part.Comment 2 None cs refl))
    step false false = p

dot_least : (cs text : List ℕ) → Found (punctuator text) 1 → Found (dot cs text) 1
dot_least [] text p = p
dot_least (c ∷ cs) text p = step (is_ascii_digit c)
  where
    step : (t : Bool) → Found (cond t (option_map (λ n. (form.Number, n)) (reach part.Fraction 2 None cs)) (punctuator text)) 1
    step true = longer_found _ 2 1 (omega arith) (far_found form.Number (reach part.Fraction 2 None cs) 2 (reaches part.Fraction 2 None cs refl))
    step false = p

sign_covers : (k : Class) (fresh : Bool) (b : ℕ) (cs rest text : List ℕ) → may_begin k cs ≡ true → Found (punctuator text) (suc (length cs)) → Found (front_at fresh k b (cs ++ rest) text) (suc (length cs))
sign_covers class.Slash fresh b [] rest text may p = slash_least rest text p
sign_covers class.Slash fresh b (c ∷ cs) rest text may p = rw (slash_plain (c ∷ cs ++ rest) text may) p
sign_covers class.Dot fresh b [] rest text may p = dot_least rest text p
sign_covers class.Dot fresh b (c ∷ cs) rest text may p = rw (dot_plain (c ∷ cs ++ rest) text may) p
sign_covers class.Sign fresh b cs rest text may p = p
sign_covers k fresh b cs rest text may p = absurd cc

word_covers : (b : ℕ) (cs rest : List ℕ) → class_of b ≡ class.Letter → list_all is_word_byte cs ≡ true → Found (Some (word (prefix_len is_word_byte (b ∷ cs ++ rest)) (b ∷ cs ++ rest))) (suc (length cs))
word_covers b cs rest k h =
    let all : list_all is_word_byte (b ∷ cs) ≡ true = rw (k, h) refl in
    longer_found _ (prefix_len is_word_byte (b ∷ cs ++ rest)) (suc (length cs)) (run_covers is_word_byte (b ∷ cs) rest all) (word_least (prefix_len is_word_byte (b ∷ cs ++ rest)) (b ∷ cs ++ rest))

at_covers : (fresh : Bool) (f : Form) (k : Class) (b : ℕ) (cs rest : List ℕ) → class_of b ≡ k → is_piece_at fresh f k b cs ≡ true → Found (front_at fresh k b (cs ++ rest) (b ∷ cs ++ rest)) (suc (length cs))
at_covers fresh form.Word class.Letter b cs rest e h = word_covers b cs rest e h
at_covers fresh form.Prefixed class.Letter b cs rest e h = literal_word_covers (b ∷ cs) rest h
at_covers fresh form.Number class.Digit b cs rest e h = let r = reach_covers (first_digit b) 1 None cs rest h in far_found form.Number _ _ (record { end = r.end; is_some = r.is_some; long = omega (arith, r.long) })
at_covers fresh form.Number class.Dot b cs rest e h = fraction_covers cs rest (b ∷ cs ++ rest) h
at_covers fresh form.Blank class.Blank b cs rest e h = let long = run_covers is_blank cs rest h in record { form = form.Blank; end = 1 + prefix_len is_blank (cs ++ rest); is_found = refl; long = omega arith }
at_covers fresh form.Text class.Quote b cs rest e h = let r = reach_covers part.Text 1 None cs rest h in far_found form.Text _ _ (record { end = r.end; is_some = r.is_some; long = omega (arith, r.long) })
at_covers fresh form.Character class.Apostrophe b cs rest e h = let r = reach_covers part.Character 1 None cs rest h in far_found form.Character _ _ (record { end = r.end; is_some = r.is_some; long = omega (arith, r.long) })
at_covers fresh form.Marker class.Hash b cs rest e h =
    let both = and_parts fresh (list_all is_in_line cs) h in
    let long = run_covers is_in_line cs rest both.1 in
    rw both.0 (record { form = form.Marker; end = 1 + prefix_len is_in_line (cs ++ rest); is_found = refl; long = omega arith })
at_covers fresh form.LineComment class.Slash b cs rest e h = line_covers cs rest (b ∷ cs ++ rest) h
at_covers fresh form.BlockComment class.Slash b cs rest e h = comment_covers cs rest (b ∷ cs ++ rest) h
at_covers fresh f k b cs rest e h = absurd cc

-- each piece at the front is covered by the scan
pub covers : (fresh : Bool) (f : Form) (other rest : List ℕ) → is_piece fresh f other ≡ true → Found (front fresh (other ++ rest)) (length other)
unfolding front
covers fresh f [] rest h = absurd cc
covers fresh form.Punctuator (b ∷ bs) rest h =
    sign_covers (class_of b) fresh b bs rest (b ∷ bs ++ rest) (any_of_all begins_well punctuators (b ∷ bs) all_begin_well h) (punctuator_covers b bs rest h)
covers fresh f (b ∷ bs) rest h = at_covers fresh f (class_of b) b bs rest refl h
