-- A stream has one first message, what goes out is read back, and what is malformed stays so.
use Rattle.std.proofs.Common.{◌≡◌, ◌∙◌, ◌<◌, ◌≤◌, ◌+◌, ◌-◌, ◌^◌, ◌++◌, ◌∷◌, [], ◌&&◌, ◌==◌, ◌⊎◌, inl, inr, ℕ, suc, Bool, true, false, not, List, Option, Some, None, ap, append_assoc, append-nil, arith, drop, length, length-append, nat_eq, refl, sym, take}
use Rattle.std.proofs.Math.Numerals.{one-add}
use Rattle.std.proofs.Math.Seq.{drop-append_seam, take-append-add, take-append_seam}
use Rattle.std.proofs.lemmas.Bool.{and_from, and_left, and_parts, cases_lt, cond-false, cond-true, le-leb, lt-ltb, ltb-false, ne_eqb, not-true, not_from_false, or_from}
use Rattle.std.proofs.lemmas.Fmt.{decimal_is_IsNumeral, decimal_nonempty, length-decimal-le}
use Rattle.std.proofs.lemmas.List.{drop_all, length-drop, take-append-le, take_all}
use Rattle.std.proofs.lemmas.Option.{none-some, same_Some}
use Rattle.std.proofs.lemmas.Str.Parse.{digit_from_value}
use Rattle.std.specs.Char.{is_ascii_digit}
use Rattle.std.specs.Cmp.Lexicographic.{pointwise}
use Rattle.std.specs.List.{list_all, prefix_len, starts_with, take_while}
use Rattle.std.specs.Option.{option_map}
use Rattle.std.specs.Prelude.{codes, decimal, if◌then◌else◌, nat_le, nat_lt}
use Rattle.std.specs.Str.Parse.{AllDigits, digits_value}
use Rattle.tfls_command.specs.Frames.{body_length, bytes_before, first_length, frame, head_end, head_length, is_blank, line_end, max_body, max_head, padded_length, told_length, value_length}
use Rattle.tfls_command.specs.Fronts.{front_by_head, front_by_length, front_of}
use Rattle.tfls_command.specs.Streams.{Begins}
use Rattle.tfls_command.specs.declared.front.Front.TheVariants.{Message, Partial, Malformed}
use Rattle.tfls_command.proofs.HeadLemmas.{fields_whole, if_false, if_true}
use Rattle.tfls_command.proofs.StreamLemmas.{head_is, mark_fits, mark_is}

-- a stream has one first message
pub one_message : (stream body rest other others : List ℕ) → Begins stream body rest → Begins stream other others → (body ≡ other) × (rest ≡ others)
one_message stream body rest other others one two =
    let far : length one.head ≡ length two.head = same_Some (length one.head) (length two.head) (sym one.ended ∙ two.ended) in
    let heads : one.head ≡ two.head = sym (front one.head (head_end ++ (body ++ rest)) one.whole) ∙ ap (λ n. take n stream) far ∙ front two.head (head_end ++ (other ++ others)) two.whole in
    let size : length body ≡ length other = same_Some (length body) (length other) (sym one.told ∙ ap told_length heads ∙ two.told) in
    let after : body ++ rest ≡ other ++ others = ap (drop 4) (sym (back one.head (head_end ++ (body ++ rest)) one.whole) ∙ ap (λ n. drop n stream) far ∙ back two.head (head_end ++ (other ++ others)) two.whole) in (
      sym (take-append_seam body rest) ∙ ap (take (length body)) after ∙ ap (λ n. take n (other ++ others)) size ∙ take-append_seam other others,
      sym (drop-append_seam body rest) ∙ ap (drop (length body)) after ∙ ap (λ n. drop n (other ++ others)) size ∙ drop-append_seam other others,
    )
  where
    front : (head more : List ℕ) → stream ≡ head ++ more → take (length head) stream ≡ head
    front head more e = ap (take (length head)) e ∙ take-append_seam head more

    back : (head more : List ℕ) → stream ≡ head ++ more → drop (length head) stream ≡ more
    back head more e = ap (drop (length head)) e ∙ drop-append_seam head more

-- ---- what goes out is read back

abbrev not_cr : ℕ → Bool
not_cr b = not (13 == b)

-- no mark begins before the first CR
before_end : (head more : List ℕ) → list_all not_cr head ≡ true → bytes_before head_end (head ++ (head_end ++ more)) ≡ Some (length head)
before_end [] more h = refl
before_end (b ∷ bs) more h =
    let w = and_parts (not_cr b) (list_all not_cr bs) h in
    if_false (starts_with nat_eq (b ∷ (bs ++ (head_end ++ more))) head_end) (Some 0) (option_map suc (bytes_before head_end (bs ++ (head_end ++ more)))) (and_left (13 == b) (starts_with nat_eq (bs ++ (head_end ++ more)) (10 ∷ 13 ∷ 10 ∷ [])) (not-true (13 == b) w.0))
    ∙ ap (option_map suc) (before_end bs more w.1)

no_line_end : (head : List ℕ) → list_all not_cr head ≡ true → bytes_before line_end head ≡ None
no_line_end [] h = refl
no_line_end (b ∷ bs) h =
    let w = and_parts (not_cr b) (list_all not_cr bs) h in
    if_false (starts_with nat_eq (b ∷ bs) line_end) (Some 0) (option_map suc (bytes_before line_end bs)) (and_left (13 == b) (starts_with nat_eq bs (10 ∷ [])) (not-true (13 == b) w.0))
    ∙ ap (option_map suc) (no_line_end bs w.1)

all_digits : (ds : List ℕ) → AllDigits 10 ds → list_all is_ascii_digit ds ≡ true
all_digits [] h = refl
all_digits (d ∷ ds) h =
    let r = digit_from_value d h.0 in
    and_from (is_ascii_digit d) (list_all is_ascii_digit ds) (and_from (nat_le 48 d) (nat_le d 57) (le-leb 48 d r.0) (le-leb d 57 r.1)) (all_digits ds h.1)

no_cr : (ds : List ℕ) → AllDigits 10 ds → list_all not_cr ds ≡ true
no_cr [] h = refl
no_cr (d ∷ ds) h =
    let r = digit_from_value d h.0 in
    and_from (not_cr d) (list_all not_cr ds) (not_from_false (13 == d) (ne_eqb 13 d (λ e. omega (arith, e, r.0)))) (no_cr ds h.1)

all_pass : (p : ℕ → Bool) (xs : List ℕ) → list_all p xs ≡ true → prefix_len p xs ≡ length xs
all_pass p [] h = refl
all_pass p (x ∷ xs) h =
    let w = and_parts (p x) (list_all p xs) h in
    cond-true (p x) (1 + prefix_len p xs) 0 w.0 ∙ ap (λ (n : ℕ). 1 + n) (all_pass p xs w.1) ∙ one-add (length xs)

-- after one space stand digits alone
value_of_digits : (ds : List ℕ) → 0 < length ds → AllDigits 10 ds → value_length (32 ∷ ds) ≡ body_length ds
value_of_digits [] some h = absurd (omega (arith, some))
value_of_digits (d ∷ ds) some h =
    let r = digit_from_value d h.0 in
    let all : list_all is_ascii_digit (d ∷ ds) ≡ true = all_digits (d ∷ ds) h in
    let not_blank : is_blank d ≡ false = or_from (d == 32) (d == 9) (ne_eqb d 32 (λ e. omega (arith, e, r.0))) (ne_eqb d 9 (λ e. omega (arith, e, r.0))) in
    let none : prefix_len is_blank (d ∷ ds) ≡ 0 = cond-false (is_blank d) (1 + prefix_len is_blank ds) 0 not_blank in
    let whole : prefix_len is_ascii_digit (d ∷ ds) ≡ length (d ∷ ds) = all_pass is_ascii_digit (d ∷ ds) all in
    let rest : drop (prefix_len is_ascii_digit (d ∷ ds)) (d ∷ ds) ≡ [] = ap (λ (n : ℕ). drop n (d ∷ ds)) whole ∙ drop_all (length (d ∷ ds)) (d ∷ ds) (omega arith) in
    ap (λ (n : ℕ). padded_length (drop (1 + n) (32 ∷ d ∷ ds))) none
    ∙ if_true (list_all is_blank (drop (prefix_len is_ascii_digit (d ∷ ds)) (d ∷ ds))) (body_length (take_while is_ascii_digit (d ∷ ds))) None (ap (list_all is_blank) rest)
    ∙ ap (λ (n : ℕ). body_length (take n (d ∷ ds))) whole
    ∙ ap body_length (take_all (length (d ∷ ds)) (d ∷ ds) (omega arith))

length_of_decimal : (n : ℕ) → n ≤ max_body → n < 2 ^ 64 → body_length (decimal n) ≡ Some n
length_of_decimal n le small =
    let is : digits_value 10 (decimal n) ≡ n = (decimal_is_IsNumeral n small).1 in
    let fits : digits_value 10 (decimal n) ≤ max_body = omega (arith, is, le) in
    if_true (nat_lt 0 (length (decimal n)) && nat_le (digits_value 10 (decimal n)) max_body) (Some (digits_value 10 (decimal n))) None (and_from (nat_lt 0 (length (decimal n))) (nat_le (digits_value 10 (decimal n)) max_body) (lt-ltb 0 (length (decimal n)) (decimal_nonempty n small)) (le-leb (digits_value 10 (decimal n)) max_body fits))
    ∙ ap Some is

abbrev head_of : ℕ → List ℕ
head_of n = codes "Content-Length: " ++ decimal n

head_tells : (n : ℕ) → n ≤ max_body → n < 2 ^ 64 → told_length (head_of n) ≡ Some n
head_tells n le small =
    let digits : AllDigits 10 (decimal n) = (decimal_is_IsNumeral n small).0.1 in
    ap first_length (fields_whole (head_of n) (no_line_end (head_of n) (no_cr (decimal n) digits)))
    ∙ value_of_digits (decimal n) (decimal_nonempty n small) digits
    ∙ length_of_decimal n le small

-- the first bytes of two texts
take_both : (n : ℕ) (xs ys : List ℕ) → take n (xs ++ ys) ≡ take n xs ++ take (n - length xs) ys
take_both n xs ys = by (cases_lt n (length xs))
  where
    by : (n < length xs) ⊎ (length xs ≤ n) → take n (xs ++ ys) ≡ take n xs ++ take (n - length xs) ys
    by (inl lt) =
        let none : n - length xs ≡ 0 = omega arith in
        let le : n ≤ length xs = omega arith in
        take-append-le n xs ys le ∙ sym (append-nil (take n xs)) ∙ ap (λ (k : ℕ). take n xs ++ take k ys) (sym none)
    by (inr le) =
        let sum : n ≡ length xs + (n - length xs) = omega arith in
        ap (λ (k : ℕ). take k (xs ++ ys)) sum ∙ take-append-add xs ys (n - length xs) ∙ ap (λ l. l ++ take (n - length xs) ys) (sym (take_all n xs le))

head_ends : (n : ℕ) (more : List ℕ) → n < 2 ^ 64 → head_length (head_of n ++ (head_end ++ more)) ≡ Some (length (head_of n))
head_ends n more small =
    let digits : AllDigits 10 (decimal n) = (decimal_is_IsNumeral n small).0.1 in
    let short : length (decimal n) ≤ 20 = length-decimal-le 20 n (omega arith) (omega (arith, small)) small in
    let size : length (head_of n) ≡ 16 + length (decimal n) = length-append (codes "Content-Length: ") (decimal n) in
    let rest = max_head - length (head_of n) in
    let sum : max_head ≡ length (head_of n) + (4 + (max_head - length (head_of n) - 4)) = omega (arith, size, short) in
    ap (bytes_before head_end) (ap (λ (k : ℕ). take k (head_of n ++ (head_end ++ more))) sum ∙ take-append-add (head_of n) (head_end ++ more) (4 + (max_head - length (head_of n) - 4)) ∙ ap (λ l. head_of n ++ l) (take-append-add head_end more (max_head - length (head_of n) - 4)))
    ∙ before_end (head_of n) (take (max_head - length (head_of n) - 4) more) (no_cr (decimal n) digits)

pub frame_begins : (body rest : List ℕ) → length body ≤ max_body → Begins (frame body ++ rest) body rest
frame_begins body rest le =
    let small : length body < 2 ^ 64 = omega (arith, le) in
    let whole : frame body ++ rest ≡ head_of (length body) ++ (head_end ++ (body ++ rest)) = simp append_assoc in
    record {
      head = head_of (length body);
      whole = whole;
      ended = ap head_length whole ∙ head_ends (length body) (body ++ rest) small;
      told = head_tells (length body) le small;
    }

-- ---- what is malformed stays so

-- a mark that was found is found there, whatever follows
before_more : (mark s t : List ℕ) (n : ℕ) → bytes_before mark s ≡ Some n → bytes_before mark (s ++ t) ≡ Some n
before_more mark [] t n h = absurd (none-some n h)
before_more mark (b ∷ bs) t n h = by (λ k e. before_more mark bs t k e) (starts_with nat_eq (b ∷ bs) mark) refl h
  where
    same : length mark ≤ length (b ∷ bs) → starts_with nat_eq (b ∷ (bs ++ t)) mark ≡ starts_with nat_eq (b ∷ bs) mark
    same le = ap (pointwise nat_eq mark) (take-append-le (length mark) (b ∷ bs) t le)

    further : ((k : ℕ) → bytes_before mark bs ≡ Some k → bytes_before mark (bs ++ t) ≡ Some k) → starts_with nat_eq (b ∷ bs) mark ≡ false → (o : Option ℕ) → bytes_before mark bs ≡ o → option_map suc o ≡ Some n → bytes_before mark (b ∷ (bs ++ t)) ≡ Some n
    further ih f None e g = absurd (none-some n g)
    further ih f (Some k) e g =
        let at = mark_is mark bs k e in
        let long : length mark ≤ length (drop k bs) = mark_fits (drop k bs) mark at.0 in
        let fits : length mark ≤ length (b ∷ bs) = omega (arith, long, length-drop k bs) in
        if_false (starts_with nat_eq (b ∷ (bs ++ t)) mark) (Some 0) (option_map suc (bytes_before mark (bs ++ t))) (same fits ∙ f)
        ∙ ap (option_map suc) (ih k e) ∙ g

    by : ((k : ℕ) → bytes_before mark bs ≡ Some k → bytes_before mark (bs ++ t) ≡ Some k) → (v : Bool) → starts_with nat_eq (b ∷ bs) mark ≡ v → (if v then Some 0 else option_map suc (bytes_before mark bs)) ≡ Some n → bytes_before mark (b ∷ (bs ++ t)) ≡ Some n
    by ih true e g =
        if_true (starts_with nat_eq (b ∷ (bs ++ t)) mark) (Some 0) (option_map suc (bytes_before mark (bs ++ t))) (same (mark_fits (b ∷ bs) mark e) ∙ e) ∙ g
    by ih false e g = further ih e (bytes_before mark bs) refl g

pub head_stays : (stream more : List ℕ) (n : ℕ) → head_length stream ≡ Some n → head_length (stream ++ more) ≡ Some n
head_stays stream more n h =
    ap (bytes_before head_end) (take_both max_head stream more) ∙ before_more head_end (take max_head stream) (take (max_head - length stream) more) n h

pub malformed_stays : (stream more body rest : List ℕ) → front_of stream ≡ Malformed → Begins (stream ++ more) body rest → ⊥
malformed_stays stream more body rest h b = by (head_length stream) refl h
  where
    long : (t : Bool) → nat_lt (length stream) max_head ≡ t → head_length stream ≡ None → (if t then Partial else Malformed) ≡ Malformed → ⊥
    long true e n g = (cc)
    long false e n g =
        let le : max_head ≤ length stream = ltb-false (length stream) max_head e in
        none-some (length b.head) (sym n ∙ sym (ap (bytes_before head_end) (take-append-le max_head stream more le)) ∙ b.ended)

    told : (n : ℕ) → head_length stream ≡ Some n → (t : Option ℕ) → told_length (take n stream) ≡ t → front_by_length stream (n + 4) t ≡ Malformed → ⊥
    told n e None f g =
        let at = head_is stream n e in
        let within : n ≤ length stream = omega (arith, at.within) in
        let far : n ≡ length b.head = same_Some n (length b.head) (sym (head_stays stream more n e) ∙ b.ended) in
        let head : b.head ≡ take n stream = sym (take-append_seam b.head (head_end ++ (body ++ rest))) ∙ ap (take (length b.head)) (sym b.whole) ∙ ap (λ (k : ℕ). take k (stream ++ more)) (sym far) ∙ take-append-le n stream more within in
        none-some (length body) (sym f ∙ ap told_length (sym head) ∙ b.told)
    told n e (Some m) f g = fits (nat_lt (length stream - (n + 4)) m) g
      where
        fits : (t : Bool) → (if t then Partial else Message (n + 4) (n + 4 + m)) ≡ Malformed → ⊥
        fits true k = (cc)
        fits false k = (cc)

    by : (o : Option ℕ) → head_length stream ≡ o → front_by_head stream o ≡ Malformed → ⊥
    by None e g = long (nat_lt (length stream) max_head) refl e g
    by (Some n) e g = told n e (told_length (take n stream)) refl g
