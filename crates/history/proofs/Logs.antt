-- A log that was recorded says its entries, and a front of it says the first of them.
-- Assumes nothing.
use Rattle.std.specs.List.{list_all}
use Rattle.std.proofs.Common.{ℕ, zero, suc, ◌+◌, ◌≤◌, ◌≡◌, ◌≢◌, true, List, [], ◌∷◌, ◌++◌, arith}
use Rattle.std.proofs.Common.{length, map}
use Rattle.std.proofs.Common.{take, refl, sym, ap, ◌∙◌, Some, append_assoc, codes, ◌⊎◌, inl, inr}
use Rattle.std.proofs.lemmas.Bool.{false≢true}
use Rattle.std.proofs.lemmas.List.Elements.{All-nil, All-cons, All-take}
use Rattle.std.proofs.lemmas.Option.{same_Some}
use Prim.Native.Char.{code}
use Rattle.text.proofs.Choices.{both_left, both_right}
use Rattle.textio.specs.Lines.{lines_ended, cut_end}
use Rattle.textio.proofs.LinesEnded.{NoLf, ended_none, ended_first, cut_last, cut_later}
use Rattle.history.specs.Entries.{LogEntry, IsTypedEntry, is_sayable_entry, entry_text, entry_line, entry_in}
use Rattle.history.specs.Logs.{Sayable, log_text, entries_in}
use Rattle.history.proofs.EntriesBack.{entry_back}
use Rattle.history.proofs.Printable.{not_lf, entry_no_lf}

pub one_line : (e f : LogEntry) → IsTypedEntry e → is_sayable_entry e ≡ true → IsTypedEntry f
    → is_sayable_entry f ≡ true
    → entry_text e ≡ entry_text f
    → e ≡ f
one_line e f t h u k same = same_Some e f (sym (entry_back e t h) ∙ ap entry_in same ∙ entry_back f u k)

-- what has no LF has none at each place
pub no_lf : (t : List ℕ) → list_all not_lf t ≡ true → NoLf t
no_lf [] h = All-nil (λ b. b ≢ 10)
no_lf (b ∷ t) h =
    All-cons (λ b. b ≢ 10) b t (λ e. false≢true (sym (ap not_lf e) ∙ both_left (not_lf b) (list_all not_lf t) h))
    (no_lf t (both_right (not_lf b) (list_all not_lf t) h))

pub no_lines : lines_ended [] [] ≡ []
no_lines = ended_none [] [] (All-nil (λ b. b ≢ 10))

line_then : (e : LogEntry) (rest : List ℕ) → entry_line e ++ rest ≡ entry_text e ++ (code "\n" ∷ rest)
line_then e rest = append_assoc (entry_text e) (codes "\n") rest

pub log_back : (es : List LogEntry) → Sayable es → entries_in (log_text es) ≡ map Some es
log_back [] h = ap (map entry_in) no_lines
log_back (e ∷ es) (t, h, more) =
    ap entries_in (line_then e (log_text es))
    ∙ ap (map entry_in) (ended_first [] (entry_text e) (log_text es) (no_lf _ (entry_no_lf e h)))
    ∙ (λ i. entry_back e t h i ∷ log_back es more i)

pub log_whole : (es : List LogEntry) → Sayable es → cut_end [] (log_text es) ≡ []
log_whole [] h = cut_last [] [] (All-nil (λ b. b ≢ 10))
log_whole (e ∷ es) (t, h, more) =
    ap (cut_end []) (line_then e (log_text es))
    ∙ cut_later [] (entry_text e) (log_text es) (no_lf _ (entry_no_lf e h))
    ∙ log_whole es more

-- a front of a line and what follows it: within the line, or past its LF
take_within : (n : ℕ) (t rest : List ℕ) → n ≤ length t → take n (t ++ rest) ≡ take n t
take_within zero t rest h = refl
take_within (suc n) [] rest h = absurd (omega arith)
take_within (suc n) (b ∷ t) rest h = ap (λ (l : List ℕ). b ∷ l) (take_within n t rest (omega arith))

take_past : (k : ℕ) (t rest : List ℕ) → take (length t + k) (t ++ rest) ≡ t ++ take k rest
take_past k [] rest = ap (λ (n : ℕ). take n rest) (omega arith)
take_past k (b ∷ t) rest =
    let n : suc (length t) + k ≡ suc (length t + k) = omega arith in
    ap (λ (n : ℕ). take n (b ∷ (t ++ rest))) n ∙ ap (λ (l : List ℕ). b ∷ l) (take_past k t rest)

within_or_past : (n m : ℕ) → (n ≤ m) ⊎ ((k : ℕ) × (n ≡ m + suc k))
within_or_past zero m = inl (omega arith)
within_or_past (suc n) zero = inr (n, omega arith)
within_or_past (suc n) (suc m) =
    elim (within_or_past n m) [
      | inl h ↦ inl (omega arith)
      | inr (k, e) ↦ inr (k, omega arith)
    ]

-- of a line and what follows it: the line is the first; of a front, unless that ends within it
pub line_ended : (t rest : List ℕ) → list_all not_lf t ≡ true
    → lines_ended [] (t ++ (code "\n" ∷ rest)) ≡ t ∷ lines_ended [] rest
line_ended t rest h = ended_first [] t rest (no_lf t h)

pub line_cut : (t rest : List ℕ) → list_all not_lf t ≡ true → (n : ℕ)
    → (lines_ended [] (take n (t ++ (code "\n" ∷ rest))) ≡ [])
    ⊎ ((j : ℕ) × (lines_ended [] (take n (t ++ (code "\n" ∷ rest))) ≡ t ∷ lines_ended [] (take j rest)))
line_cut t rest h n =
    elim (within_or_past n (length t)) [
      | inl within ↦ inl (
          ap (lines_ended []) (take_within n t (code "\n" ∷ rest) within)
          ∙ ended_none [] (take n t) (All-take (λ b. b ≢ 10) n t (no_lf t h))
          )
      | inr (j, past) ↦ inr (
        j,
        ap (λ (m : ℕ). lines_ended [] (take m (t ++ (code "\n" ∷ rest)))) past
            ∙ ap (lines_ended []) (take_past (suc j) t (code "\n" ∷ rest))
            ∙ ended_first [] t (take j rest) (no_lf t h),
      )
    ]

-- a log that was cut
pub log_cut : (es : List LogEntry) → Sayable es → (n : ℕ)
    → (k : ℕ) × (k ≤ length es) × (entries_in (take n (log_text es)) ≡ map Some (take k es))
log_cut [] h zero = (0, omega arith, ap (map entry_in) no_lines)
log_cut [] h (suc n) = (0, omega arith, ap (map entry_in) no_lines)
log_cut (e ∷ es) (t, h, more) n =
    let whole = line_then e (log_text es) in
    elim (line_cut (entry_text e) (log_text es) (entry_no_lf e h) n) [
      | inl none ↦ (
        0,
        omega arith,
        ap (λ (l : List ℕ). entries_in (take n l)) whole ∙ ap (map entry_in) none,
      )
      | inr (j, one) ↦
          let (k, few, same) = log_cut es more j in (
            suc k,
            omega arith,
            ap (λ (l : List ℕ). entries_in (take n l)) whole
                ∙ ap (map entry_in) one
                ∙ (λ i. entry_back e t h i ∷ same i),
          )
    ]
