-- Texts one after the other, each after its count (RULES, Class 2), as the code reads them in a row.
--   TextsRead s i rest    i texts have been read from s
-- Assumes nothing.
use Rattle.std.specs.List.{list_all}
use Rattle.std.proofs.Common.{ℕ, zero, suc, ◌+◌, ◌-◌, ◌<◌, ◌≡◌, Bool, ◌&&◌, List, [], ◌∷◌, ◌++◌, length, take, Some}
use Rattle.std.proofs.Common.{None, sym, ap, ◌∙◌, arith, append_assoc, append-nil, length-append}
use Rattle.std.proofs.Math.Seq.{take-append_seam}
use Rattle.text.proofs.InTurn.{turns_snoc}
use Rattle.record.specs.Wanted.{counted_in}
use Rattle.record.proofs.CountedNames.{counted_none, counted_first, counted_many}
use Rattle.stored.specs.Sections.{text_section, texts_bytes, text, texts}
use Rattle.stored.proofs.Fields.{text_form, texts_form, text_spelled}

counted_back : (ts : List (List ℕ)) (rest : List ℕ) → counted_in (length ts) (texts_bytes ts ++ rest) ≡ ts
unfolding texts_bytes
counted_back [] rest = counted_none rest
counted_back (t ∷ ts) rest = grind (arith, append_assoc, counted_first, counted_back ts rest)

-- a text that is cut short cuts the texts short
texts_cut : (n : ℕ) (ts : List (List ℕ)) (rest : List ℕ) → length ts < n → text rest ≡ None
    → texts n (texts_bytes ts ++ rest) ≡ None
unfolding texts texts_bytes
texts_cut zero ts rest l e = grind arith
texts_cut (suc n) [] rest l e = grind (arith, e)
texts_cut (suc n) (t ∷ ts) rest l e =
    let left = texts_bytes ts ++ rest in
    grind (
      arith,
      append_assoc (text_section t) (texts_bytes ts) rest,
      (text_form t).again left,
      texts_cut n ts rest,
      e,
    )

-- one name more, and whether each is one
each_more : (f : List ℕ → Bool) (ts : List (List ℕ)) (t : List ℕ) → list_all f (ts ++ (t ∷ [])) ≡ (list_all f ts && f t)
each_more f [] t = grind arith
each_more f (s ∷ ts) t = grind (arith, each_more f ts t)

pub record TextsRead (s : List ℕ) (i : ℕ) (rest : List ℕ) : Type 0 where
  pub passed : s ≡ texts_bytes (counted_in i s) ++ rest

pub none_read : (s : List ℕ) → TextsRead s 0 s
unfolding texts_bytes
none_read s = record { passed = ap (λ (ts : List (List ℕ)). texts_bytes ts ++ s) (sym (counted_none s)) }

module _ {s : List ℕ} {i : ℕ} {rest : List ℕ} (r : TextsRead s i rest) where
  abbrev ts : List (List ℕ)
  ts = counted_in i s

  pub record OneRead (t left : List ℕ) : Type 0 where
    pub read : TextsRead s (i + 1) left
    pub each : (f : List ℕ → Bool) → list_all f (counted_in (i + 1) s) ≡ (list_all f ts && f t)

  pub one_read : {t left : List ℕ} → text rest ≡ Some (t, left) → OneRead t left
  unfolding texts_bytes
  one_read {t} {left} e =
      let us = ts ++ (t ∷ []) in
      let all : s ≡ texts_bytes us ++ left = grind (
        arith,
        r.passed,
        text_spelled e,
        append_assoc (texts_bytes ts) (text_section t) left,
        turns_snoc text_section ts t,
      ) in
      let many : length us ≡ i + 1 = omega (arith, length-append ts (t ∷ []), counted_many i s) in
      let more : counted_in (i + 1) s ≡ us = grind (arith, all, many, counted_back us left) in
      record {
        read = record { passed = all ∙ ap (λ (ks : List (List ℕ)). texts_bytes ks ++ left) (sym more) };
        each = λ f. ap (list_all f) more ∙ each_more f ts t;
      }

  pub front_counted : {n k : ℕ} → i ≡ n → k ≡ length s - length rest → counted_in n (take k s) ≡ ts
  front_counted {n} {k} e f =
      let long : k ≡ length (texts_bytes ts)
      = omega (arith, ap length r.passed, length-append (texts_bytes ts) rest) in
      let front : take k s ≡ texts_bytes ts = grind (arith, long, r.passed, take-append_seam (texts_bytes ts) rest) in
      grind (arith, e, front, counted_many i s, append-nil (texts_bytes ts), counted_back ts [])

  pub all_read : {n k : ℕ} → i ≡ n → k ≡ length s - length rest
      → texts n s ≡ Some (counted_in n (take k s), rest)
  all_read {n} {k} e f =
      grind (arith, e, front_counted e f, counted_many i s, r.passed, (texts_form ts).again rest)

  pub none_left : {n : ℕ} → i < n → text rest ≡ None → texts n s ≡ None
  none_left {n} l e = ap (texts n) r.passed ∙ texts_cut n ts rest (omega (arith, counted_many i s)) e

pub ruleset texts_read = (none_left)
