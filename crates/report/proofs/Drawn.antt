-- The choices of `Days`, by what was tested.
use Rattle.std.proofs.Common.{◌≡◌, ℕ, zero, suc, ◌+◌, ◌-◌, ◌*◌, ◌/◌, ◌<◌, ◌≤◌, min, nat_lt, Bool, true, false, ◌&&◌}
use Rattle.std.proofs.Common.{List, [], ◌++◌, codes, Option, refl, sym, ap, subst, ◌∙◌, arith, lt-ltb, le-ltb}
use Rattle.std.proofs.Common.{append_assoc, append-nil, zero-add, add-zero, Err}
use Rattle.std.specs.declared.result.Result.{Result}
use Rattle.std.specs.Result.{IsErr, IsErrAnd}
use Rattle.std.specs.List.{range_with_len}
use Rattle.std.specs.Io.KnownBytes.{Appends}
use Rattle.std.proofs.KnownBytes.{Appends-trans}
use Rattle.text.proofs.Choices.{if_yes, if_no}
use Rattle.textio.specs.Fronts.{WritesText}
use Rattle.textio.proofs.Fronts.{writes_after, writes_fails}
use Rattle.report.specs.Days.{day_length, days_of, is_any_lit, is_drawn, bars, bars_in, drawn_in, stretch_drawn}
use Rattle.report.specs.Rows.{span_of}
use Rattle.report.specs.Days.{at, note_of, each_from, after_each, days_between, row_drawn, row_after, day_name}
use Rattle.report.specs.Days.{row_ended, row_begun, head_begun, first_name, days_name, idle_days, rows_opened}
use Rattle.report.specs.declared.days.StretchNote.{StretchNote}
use Rattle.report.specs.declared.days.PageRow.{PageRow}
use Rattle.report.specs.declared.rows.Layout.{Layout}
use Rattle.report.specs.declared.rows.Span.{Span}
use Rattle.calendar.specs.declared.Moment.{Moment}

module _ {S : Type 0} (text : S → ℕ → List ℕ) (next : S → ℕ → S) where
  -- so many numbers, and then more
  each_parts : (s : S) (a i n : ℕ) → each_from text next s (range_with_len a (i + n))
      ≡ each_from text next s (range_with_len a i)
      ++ each_from text next (after_each next s (range_with_len a i)) (range_with_len (a + i) n)
  unfolding each_from after_each
  each_parts s a zero n = rw (zero-add n, add-zero a) refl
  each_parts s a (suc i) n =
      let count : suc i + n ≡ suc (i + n) = omega arith in
      let start : a + 1 + i ≡ a + suc i = omega arith in
      ap (λ m. each_from text next s (range_with_len a m)) count
      ∙ ap (λ t. text s a ++ t) (each_parts (next s a) (a + 1) i n)
      ∙ sym (append_assoc (text s a) (each_from text next (next s a) (range_with_len (a + 1) i))
      (each_from text next (after_each next (next s a) (range_with_len (a + 1) i)) (range_with_len (a + 1 + i) n)))
      ∙ ap (λ m. (text s a ++ each_from text next (next s a) (range_with_len (a + 1) i))
      ++ each_from text next (after_each next (next s a) (range_with_len (a + 1) i)) (range_with_len m n)) start

  -- the state after one more
  pub after_one : (s : S) (a i j m : ℕ) → j ≡ i + 1 → m ≡ a + i
      → after_each next s (range_with_len a j) ≡ next (after_each next s (range_with_len a i)) m
  unfolding after_each
  after_one s a zero j m more e = rw (more, e, add-zero a) refl
  after_one s a (suc i) j m more e =
      let count : j ≡ suc (i + 1) = omega (arith, more) in
      ap (λ n. after_each next s (range_with_len a n)) count
      ∙ after_one (next s a) (a + 1) i (i + 1) m refl (omega (arith, e))

  -- one turn more
  pub turn_more : (s : S) (a i j m : ℕ) (x y z : Option (List ℕ)) → j ≡ i + 1 → m ≡ a + i
      → Appends x y (each_from text next s (range_with_len a i))
      → Appends y z (text (after_each next s (range_with_len a i)) m)
      → Appends x z (each_from text next s (range_with_len a j))
  unfolding each_from
  turn_more s a i j m x y z more e p q =
      let t = after_each next s (range_with_len a i) in
      let one : each_from text next s (range_with_len a j) ≡ each_from text next s (range_with_len a i) ++ text t m
      = ap (λ n. each_from text next s (range_with_len a n)) more ∙ each_parts s a i 1
      ∙ ap (λ l. each_from text next s (range_with_len a i) ++ l) (append-nil (text t (a + i)))
      ∙ ap (λ n. each_from text next s (range_with_len a i) ++ text t n) (sym e) in
      subst (Appends x z) (sym one) (Appends-trans x y z _ _ p q)

  -- a turn that failed, of n
  pub turn_fails : {T U E : Type 0} {fails : E → Type 0} (s : S) (a i n m : ℕ) {x y z : Option (List ℕ)} {e : E}
      {r : Result U E} → m ≡ a + i → i < n → Appends x y (each_from text next s (range_with_len a i))
      → WritesText {T = T} fails y z (Err e) (text (after_each next s (range_with_len a i)) m)
      → IsErr r × IsErrAnd r (λ d. d ≡ e)
      → WritesText fails x z r (each_from text next s (range_with_len a n))
  unfolding each_from
  turn_fails {fails = fails} s a i n m {x} {y} {z} {r = r} is h p q failed =
      let t = after_each next s (range_with_len a i) in
      let most = n - (i + 1) in
      let rest = each_from text next (next t m) (range_with_len (a + i + 1) most) in
      let count : n ≡ i + suc most = omega (arith, h) in
      let whole = ap (λ k. each_from text next s (range_with_len a k)) count ∙ each_parts s a i (suc most)
      ∙ ap (λ k. each_from text next s (range_with_len a i)
      ++ (text t k ++ each_from text next (next t k) (range_with_len (a + i + 1) most))) (sym is) in
      subst (WritesText fails x z r) (sym whole) (writes_after _ p (writes_fails rest q failed))

module _ (s : Span) (lit : List Bool) (note : StretchNote) (first last from to x y : ℕ)
    (begins : x ≡ first - s.before * day_length)
    (ends : y ≡ min (last - s.before * day_length) ((s.last - s.before) * day_length)) where
  pub bars_in_none : y ≤ x → bars_in s lit note first last from to ≡ []
  unfolding bars_in
  bars_in_none h = if_no _ _ (le-ltb _ _ (rw (begins, ends) at h))

  pub bars_in_some : x < y
      → bars_in s lit note first last from to ≡ bars lit note from to (s.lead * day_length + x) (y - x)
  unfolding bars_in
  bars_in_some h = rw (begins, ends) (if_yes _ _ (lt-ltb _ _ (rw (begins, ends) at h)))

and_no : (b : Bool) → (b && false) ≡ false
and_no true = refl
and_no false = refl

module _ (v : Layout) (row : PageRow) (lit : List Bool) (from to first last : ℕ)
    (begins : first ≡ at v.began from) (ends : last ≡ at v.began to) where
  is_drawn_as : is_drawn lit (at v.began from) (at v.began to) ≡ is_drawn lit first last
  is_drawn_as = (λ i. is_drawn lit (sym begins i) (sym ends i))

  pub drawn_none : last ≤ first → stretch_drawn v row lit from to ≡ []
  unfolding stretch_drawn
  drawn_none h = if_no _ _ (is_drawn_as ∙ ap (λ b. b && is_any_lit lit) (le-ltb first last h))

  pub drawn_unlit : is_any_lit lit ≡ false → stretch_drawn v row lit from to ≡ []
  unfolding stretch_drawn
  drawn_unlit h = if_no _ _ (is_drawn_as ∙ (ap (λ b. nat_lt first last && b) h ∙ and_no _))

  pub drawn_some : first < last → is_any_lit lit ≡ true → stretch_drawn v row lit from to
      ≡ each_from (drawn_in v lit (note_of v.began v.long from to) first last from to)
      (row_after v (note_of v.began v.long from to) first last) row (days_between first last)
  unfolding stretch_drawn
  drawn_some h any =
      if_yes _ _ (is_drawn_as ∙ (ap (λ b. b && is_any_lit lit) (lt-ltb first last h) ∙ any))
      ∙ (λ i. let f = sym begins i in
      let l = sym ends i in
      let note = note_of v.began v.long from to in
      each_from (drawn_in v lit note f l from to) (row_after v note f l) row (days_between f l))

  pub row_some : first < last → is_any_lit lit ≡ true → row_drawn v row lit from to
      ≡ after_each (row_after v (note_of v.began v.long from to) first last) row (days_between first last)
  row_some h any =
      if_yes _ _ (is_drawn_as ∙ (ap (λ b. b && is_any_lit lit) (lt-ltb first last h) ∙ any))
      ∙ (λ i. let f = sym begins i in
      let l = sym ends i in
      after_each (row_after v (note_of v.began v.long from to) f l) row (days_between f l))

  pub row_undrawn : last ≤ first → row_drawn v row lit from to ≡ row
  row_undrawn h = if_no _ _ (is_drawn_as ∙ ap (λ b. b && is_any_lit lit) (le-ltb first last h))

  pub row_unlit : is_any_lit lit ≡ false → row_drawn v row lit from to ≡ row
  row_unlit h = if_no _ _ (is_drawn_as ∙ (ap (λ b. nat_lt first last && b) h ∙ and_no _))

module _ (began : Option Moment) (rows day : ℕ) where
  pub idle_none : day ≤ rows → idle_days began rows day ≡ []
  unfolding idle_days
  idle_none h = if_no _ _ (le-ltb rows day h)

  pub idle_some : rows < day → idle_days began rows day
      ≡ head_begun ++ (days_name began rows day ++ codes "</th><td colspan=\"3\">no lamp burnt</td></tr>\n")
  unfolding idle_days
  idle_some h = if_yes _ _ (lt-ltb rows day h)

  pub first_none : day ≤ rows + 1 → first_name began rows day ≡ []
  first_none h = if_no _ _ (le-ltb (rows + 1) day h)

  pub first_some : rows + 1 < day → first_name began rows day ≡ day_name began (rows + 1) ++ codes " to "
  first_some h = if_yes _ _ (lt-ltb (rows + 1) day h)

module _ (v : Layout) (lamps : ℕ) (row : PageRow) (day : ℕ) where
  pub opened_none : day ≤ row.last → rows_opened v lamps row day ≡ []
  unfolding rows_opened
  opened_none h = if_no _ _ (le-ltb row.last day h)

  pub opened_some : row.last < day → rows_opened v lamps row day ≡ row_ended v row
      ++ (idle_days v.began row.last (span_of v day).before ++ row_begun v lamps (span_of v day))
  unfolding rows_opened
  opened_some h = if_yes _ _ (lt-ltb row.last day h)

-- the day of the first second of a stretch is not after that of its last
pub days_of_after : (from to : ℕ) → from < to → from / day_length < days_of to
days_of_after from to h = grind arith
