-- What is scanned is a piece, and so the longest.
use Rattle.std.proofs.Common.{◌≡◌, ℕ, zero, suc, ◌+◌, ◌<◌, ◌≤◌, Bool, true, false, cond, ◌&&◌, eqb, List, [], ◌∷◌, ◌++◌, length, take, drop, Option, Some, None, refl, sym, ap, subst, ◌∙◌, arith, inl, inr, ◌⊎◌}
use Rattle.std.specs.Option.{option_map}
use Rattle.std.specs.List.{list_all, prefix_len}
use Rattle.std.specs.Char.{is_ascii_digit}
use Rattle.std.proofs.lemmas.Bool.{and_from, eqb-false, or_left, or_right}
use Rattle.std.proofs.lemmas.List.{take-append-drop, take-take, drop-take, length-take, length-drop}
use Rattle.std.proofs.Math.Seq.{take-nil}
use Rattle.std.proofs.lemmas.List.Sums.{prefix_len-le-length}
use Rattle.lt_token.specs.declared.piece.Class.{Class}
use Rattle.lt_token.specs.declared.piece.Class.TheVariants as class
use Rattle.lt_token.specs.declared.piece.Form.{Form}
use Rattle.lt_token.specs.declared.piece.Form.TheVariants as form
use Rattle.lt_token.specs.declared.piece.Part.{Part}
use Rattle.lt_token.specs.declared.piece.Part.TheVariants as part
use Rattle.lt_token.specs.Bytes.{class_of, is_word_byte, is_blank, is_in_line, quote, apostrophe}
use Rattle.lt_token.specs.Parts.{first_digit, is_whole_after, is_closed_after}
use Rattle.lt_token.specs.Lexemes.{is_closed_text}
use Rattle.lt_token.specs.Words.{is_among, punctuators, literal_prefixes}
use Rattle.lt_token.specs.Pieces.{is_literal, is_prefixed, is_piece, Longest, NoPiece}
use Rattle.lt_lex.specs.Front.{closed_len, reach, longest_front, punctuator, literal_len, prefixed, word, dot, slash, front_at, front}
use Rattle.lt_lex.proofs.Reach.{reached_new}
use Rattle.lt_lex.proofs.Fronts.{Found, covers, run_passes, longest_is}

record Sound (fresh : Bool) (text : List ℕ) (found : Form × ℕ) : Type 0 where
  fits : found.1 ≤ length text
  some : 0 < found.1
  is_one : is_piece fresh found.0 (take found.1 text) ≡ true

abbrev OnFound : (Form × ℕ → Type 0) → Option (Form × ℕ) → Type 0
OnFound P None = Unit {0}
OnFound P (Some found) = P found

run_sound : (fresh : Bool) (f : Form) (p : ℕ → Bool) (b : ℕ) (bs : List ℕ) → ((cs : List ℕ) → is_piece fresh f (b ∷ cs) ≡ list_all p cs) → Sound fresh (b ∷ bs) (f, 1 + prefix_len p bs)
run_sound fresh f p b bs is =
    let n : 1 + prefix_len p bs ≡ suc (prefix_len p bs) = omega arith in
    record { fits = omega (arith, prefix_len-le-length p bs); some = omega arith; is_one = rw n (is (take (prefix_len p bs) bs) ∙ run_passes p bs) }

-- a reach from behind the first byte
reach_sound : (fresh : Bool) (f : Form) (p : Part) (b : ℕ) (bs : List ℕ) → ((cs : List ℕ) → is_piece fresh f (b ∷ cs) ≡ is_whole_after p cs) → OnFound (Sound fresh (b ∷ bs)) (option_map (λ n. (f, n)) (reach p 1 None bs))
reach_sound fresh f p b bs is = step (reach p 1 None bs) refl
  where
    step : (o : Option ℕ) → reach p 1 None bs ≡ o → OnFound (Sound fresh (b ∷ bs)) (option_map (λ n. (f, n)) o)
    step None h = tt
    step (Some end) h =
        let r = reached_new p 1 bs end h in
        let n : end ≡ suc r.len = omega (arith, r.is_end) in
        record { fits = omega (arith, r.fits); some = omega arith; is_one = rw n (is (take r.len bs) ∙ r.is_one) }

-- and from behind the second
reach_sound_two : (fresh : Bool) (f : Form) (p : Part) (b c : ℕ) (bs : List ℕ) → ((cs : List ℕ) → is_piece fresh f (b ∷ c ∷ cs) ≡ is_whole_after p cs) → OnFound (Sound fresh (b ∷ c ∷ bs)) (option_map (λ n. (f, n)) (reach p 2 None bs))
reach_sound_two fresh f p b c bs is = step (reach p 2 None bs) refl
  where
    step : (o : Option ℕ) → reach p 2 None bs ≡ o → OnFound (Sound fresh (b ∷ c ∷ bs)) (option_map (λ n. (f, n)) o)
    step None h = tt
    step (Some end) h =
        let r = reached_new p 2 bs end h in
        let n : end ≡ suc (suc r.len) = omega (arith, r.is_end) in
        record { fits = omega (arith, r.fits); some = omega arith; is_one = rw n (is (take r.len bs) ∙ r.is_one) }

mark_is_piece : (fresh : Bool) (w : List ℕ) → 0 < length w → is_among w punctuators ≡ true → is_piece fresh form.Punctuator w ≡ true
mark_is_piece fresh [] some h = absurd (omega arith)
mark_is_piece fresh (b ∷ bs) some h = h

punctuator_sound : (fresh : Bool) (text : List ℕ) → OnFound (Sound fresh text) (punctuator text)
punctuator_sound fresh text = step (longest_front punctuators text) (longest_is punctuators text) (eqb (longest_front punctuators text) 0) refl
  where
    step : (n : ℕ) → (n ≡ 0) ⊎ ((n ≤ length text) × (is_among (take n text) punctuators ≡ true)) → (t : Bool) → eqb n 0 ≡ t → OnFound (Sound fresh text) (cond t None (Some (form.Punctuator, n)))
    step n is true e = tt
    step n (inl z) false e = absurd (eqb-false n 0 e z)
    step n (inr h) false e =
        let some : n ≡ 0 → ⊥ = eqb-false n 0 e in
        let long : 0 < length (take n text) = omega (arith, length-take n text, h.0) in
        record { fits = h.0; some = omega arith; is_one = mark_is_piece fresh (take n text) long h.1 }

-- ---- words

word_prefix : (b : ℕ) (bs : List ℕ) → class_of b ≡ class.Letter → prefix_len is_word_byte (b ∷ bs) ≡ suc (prefix_len is_word_byte bs)
word_prefix b bs k = rw k (omega arith)

literal_is : (text : List ℕ) (end : ℕ) → literal_len text ≡ Some end → (end ≤ length text) × (is_literal (take end text) ≡ true)
literal_is [] end h = absurd cc
literal_is (b ∷ bs) end h = step (eqb b quote) (eqb b apostrophe) refl refl h
  where
    closed : eqb b quote ≡ true → (o : Option ℕ) → reach part.Text 1 None bs ≡ o → closed_len o (b ∷ bs) ≡ Some end → (end ≤ length (b ∷ bs)) × (is_literal (take end (b ∷ bs)) ≡ true)
    closed e None is k = absurd cc
    closed e (Some n) is k = within (is_closed_text (take n (b ∷ bs))) refl k
      where
        within : (t : Bool) → is_closed_text (take n (b ∷ bs)) ≡ t → cond t (Some n) None ≡ Some end → (end ≤ length (b ∷ bs)) × (is_literal (take end (b ∷ bs)) ≡ true)
        within false f l = absurd cc
        within true f l =
            let r = reached_new part.Text 1 bs n is in
            let same : n ≡ end = cc in
            let m : n ≡ suc r.len = omega (arith, r.is_end) in
            let g = rw m at f in
            (omega (arith, r.fits), rw (← same, m) (or_left (eqb b quote && is_closed_after part.Text (take r.len bs)) (eqb b apostrophe && is_whole_after part.Character (take r.len bs)) (and_from (eqb b quote) (is_closed_after part.Text (take r.len bs)) e g)))

    step : (t u : Bool) → eqb b quote ≡ t → eqb b apostrophe ≡ u → cond t (closed_len (reach part.Text 1 None bs) (b ∷ bs)) (cond u (reach part.Character 1 None bs) None) ≡ Some end → (end ≤ length (b ∷ bs)) × (is_literal (take end (b ∷ bs)) ≡ true)
    step true u e f k = closed e (reach part.Text 1 None bs) refl k
    step false true e f k =
        let r = reached_new part.Character 1 bs end k in
        let n : end ≡ suc r.len = omega (arith, r.is_end) in
        (omega (arith, r.fits), rw n (or_right (eqb b quote && is_closed_after part.Text (take r.len bs)) (eqb b apostrophe && is_whole_after part.Character (take r.len bs)) (and_from (eqb b apostrophe) (is_whole_after part.Character (take r.len bs)) f r.is_one)))
    step false false e f k = absurd cc

stops_at_once : (p : ℕ → Bool) (b : ℕ) (bs : List ℕ) (m : ℕ) → p b ≡ false → prefix_len p (take m (b ∷ bs)) ≡ 0
stops_at_once p b bs zero e = refl
stops_at_once p b bs (suc m) e = rw e refl

-- a run ends where it did, however much of what follows is taken
run_cut : (p : ℕ → Bool) (text : List ℕ) (m : ℕ) → prefix_len p (take (prefix_len p text + m) text) ≡ prefix_len p text
run_cut p [] m = rw (take-nil {A = ℕ} (0 + m)) refl
run_cut p (b ∷ bs) m = step (p b) refl (run_cut p bs m)
  where
    step : (t : Bool) → p b ≡ t → prefix_len p (take (prefix_len p bs + m) bs) ≡ prefix_len p bs → prefix_len p (take (cond t (1 + prefix_len p bs) 0 + m) (b ∷ bs)) ≡ cond t (1 + prefix_len p bs) 0
    step true e more =
        let n : 1 + prefix_len p bs + m ≡ suc (prefix_len p bs + m) = omega arith in
        rw (n, e, more) refl
    step false e more = let n : 0 + m ≡ m = omega arith in rw n (stops_at_once p b bs m e)

-- the bytes of a word and of the literal behind it
cut_literal : (n m : ℕ) (text : List ℕ) → n ≡ prefix_len is_word_byte text → is_among (take n text) literal_prefixes ≡ true → is_literal (take m (drop n text)) ≡ true → is_prefixed (take (n + m) text) ≡ true
cut_literal n m text is among literal =
    let run : prefix_len is_word_byte (take (n + m) text) ≡ n = ap (λ (k : ℕ). prefix_len is_word_byte (take (k + m) text)) is ∙ run_cut is_word_byte text m ∙ sym is in
    let front : take n (take (n + m) text) ≡ take n text = take-take n (n + m) text (omega arith) in
    let back : drop n (take (n + m) text) ≡ take m (drop n text) = drop-take n m text in
    rw (run, front, back, among) literal

prefixed_piece : (fresh : Bool) (w : List ℕ) (b : ℕ) (bs : List ℕ) (k : ℕ) → w ≡ b ∷ bs → class_of b ≡ class.Letter → 0 < k → is_prefixed (take k w) ≡ true → is_piece fresh form.Prefixed (take k w) ≡ true
prefixed_piece fresh w b bs zero is e some h = absurd (omega arith)
prefixed_piece fresh w b bs (suc k) is e some h = rw is (rw e (subst (λ (x : List ℕ). is_prefixed (take (suc k) x) ≡ true) is h))

word_sound : (fresh : Bool) (b : ℕ) (bs : List ℕ) → class_of b ≡ class.Letter → Sound fresh (b ∷ bs) (word (prefix_len is_word_byte (b ∷ bs)) (b ∷ bs))
word_sound fresh b bs k = step (is_among (take n text) literal_prefixes) refl (literal_len (drop n text)) refl
  where
    text : List ℕ
    text = b ∷ bs

    n : ℕ
    n = prefix_len is_word_byte text

    plain : Sound fresh text (form.Word, n)
    plain =
        let e = word_prefix b bs k in
        record {
          fits = prefix_len-le-length is_word_byte text;
          some = omega (arith, e);
          is_one = rw (e, k) (run_passes is_word_byte bs);
        }

    step : (t : Bool) → is_among (take n text) literal_prefixes ≡ t → (o : Option ℕ) → literal_len (drop n text) ≡ o → Sound fresh text (cond t (prefixed n o) (form.Word, n))
    step false e o is = plain
    step true e None is = plain
    step true e (Some m) is =
        let l = literal_is (drop n text) m is in
        let some : 0 < n + m = omega (arith, word_prefix b bs k) in
        record {
          fits = omega (arith, l.0, length-drop n text, prefix_len-le-length is_word_byte text);
          some = some;
          is_one = prefixed_piece fresh text b bs (n + m) refl k some (cut_literal n m text refl e l.1);
        }

-- ---- comments, fractions and the rest

dot_sound : (fresh : Bool) (b : ℕ) (bs : List ℕ) → class_of b ≡ class.Dot → OnFound (Sound fresh (b ∷ bs)) (dot bs (b ∷ bs))
dot_sound fresh b [] k = punctuator_sound fresh (b ∷ [])
dot_sound fresh b (c ∷ cs) k = step (is_ascii_digit c) refl
  where
    step : (t : Bool) → is_ascii_digit c ≡ t → OnFound (Sound fresh (b ∷ c ∷ cs)) (cond t (option_map (λ n. (form.Number, n)) (reach part.Fraction 2 None cs)) (punctuator (b ∷ c ∷ cs)))
    step true e = reach_sound_two fresh form.Number part.Fraction b c cs (λ ds. rw (k, e) refl)
    step false e = punctuator_sound fresh (b ∷ c ∷ cs)

slash_sound : (fresh : Bool) (b : ℕ) (bs : List ℕ) → class_of b ≡ class.Slash → OnFound (Sound fresh (b ∷ bs)) (slash bs (b ∷ bs))
slash_sound fresh b [] k = punctuator_sound fresh (b ∷ [])
slash_sound fresh b (c ∷ cs) k = step (eqb c 47) (eqb c 42) refl refl
  where
    step : (t u : Bool) → eqb c 47 ≡ t → eqb c 42 ≡ u
        → OnFound (Sound fresh (b ∷ c ∷ cs)) (cond t (Some (form.LineComment, 2 + prefix_len is_in_line cs)) (cond u (option_map (λ n. (form.BlockComment, n)) (reach part.Comment 2 None cs)) (punctuator (b ∷ c ∷ cs))))
    step true u e f =
        let n : 2 + prefix_len is_in_line cs ≡ suc (suc (prefix_len is_in_line cs)) = omega arith in
        record { fits = omega (arith, prefix_len-le-length is_in_line cs); some = omega arith; is_one = rw (n, k, e, run_passes is_in_line cs) refl }
    step false true e f = reach_sound_two fresh form.BlockComment part.Comment b c cs (λ ds. rw (k, f) refl)
    step false false e f = punctuator_sound fresh (b ∷ c ∷ cs)

at_sound : (fresh : Bool) (b : ℕ) (bs : List ℕ) (k : Class) → class_of b ≡ k → OnFound (Sound fresh (b ∷ bs)) (front_at fresh k b bs (b ∷ bs))
at_sound fresh b bs class.Letter e = word_sound fresh b bs e
at_sound fresh b bs class.Digit e = reach_sound fresh form.Number (first_digit b) b bs (λ cs. rw e refl)
at_sound fresh b bs class.Dot e = dot_sound fresh b bs e
at_sound fresh b bs class.Blank e = run_sound fresh form.Blank is_blank b bs (λ cs. rw e refl)
at_sound fresh b bs class.Quote e = reach_sound fresh form.Text part.Text b bs (λ cs. rw e refl)
at_sound fresh b bs class.Apostrophe e = reach_sound fresh form.Character part.Character b bs (λ cs. rw e refl)
at_sound true b bs class.Hash e = run_sound true form.Marker is_in_line b bs (λ cs. rw e refl)
at_sound false b bs class.Hash e = tt
at_sound fresh b bs class.Slash e = slash_sound fresh b bs e
at_sound fresh b bs class.Sign e = punctuator_sound fresh (b ∷ bs)

front_sound : (fresh : Bool) (text : List ℕ) → OnFound (Sound fresh text) (front fresh text)
unfolding front
front_sound fresh [] = tt
front_sound fresh (b ∷ bs) = at_sound fresh b bs (class_of b) refl

-- ---- the law

some_is : (x y : Form × ℕ) → Some x ≡ Some y → x ≡ y
some_is x y e = cc

found_end : (o : Option (Form × ℕ)) (x : Form × ℕ) (len : ℕ) → o ≡ Some x → Found o len → len ≤ x.1
found_end o x len e c =
    let same = ap (λ (y : Form × ℕ). y.1) (some_is (c.form, c.end) x (sym c.is_found ∙ e)) in
    omega (arith, c.long, same)

found_none : (o : Option (Form × ℕ)) (len : ℕ) → o ≡ None → Found o len → ⊥
found_none o len e c = let d = c.is_found in cc

pub front_is_longest : (fresh : Bool) (text : List ℕ) (f : Form) (n : ℕ) → front fresh text ≡ Some (f, n) → Longest fresh text f (take n text) (drop n text)
front_is_longest fresh text f n e =
    let s = subst (OnFound (Sound fresh text)) e (front_sound fresh text) in
    record {
      parts = sym (take-append-drop n text);
      is_one = s.is_one;
      none_longer = λ g other rest' parts is. (
          let long = found_end (front fresh (other ++ rest')) (f, n) (length other) (ap (front fresh) (sym parts) ∙ e) (covers fresh g other rest' is) in
          omega (arith, s.fits, length-take n text));
    }

pub front_is_some : (fresh : Bool) (text : List ℕ) (f : Form) (n : ℕ) → front fresh text ≡ Some (f, n) → (0 < n) × (n ≤ length text)
front_is_some fresh text f n e = let s = subst (OnFound (Sound fresh text)) e (front_sound fresh text) in (s.some, s.fits)

pub front_none : (fresh : Bool) (text : List ℕ) → front fresh text ≡ None → NoPiece fresh text
front_none fresh text e = λ g other rest parts is. found_none (front fresh (other ++ rest)) (length other) (ap (front fresh) (sym parts) ∙ e) (covers fresh g other rest is)
