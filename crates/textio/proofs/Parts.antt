-- A line of a log by the parts in which it is read.
-- Assumes nothing.
use Rattle.std.proofs.lemmas.Grind.{common_steps}
use Rattle.std.proofs.Common.{Any, ◌≢◌, None, Some, IfSome, ℕ, zero, suc, ◌+◌, ◌<◌, ◌≤◌, ◌≡◌, refl, sym, ap, subst}
use Rattle.std.proofs.Common.{◌∙◌, Bool, true, false, List, [], ◌∷◌, ◌++◌, append-nil, append_assoc, arith, length}
use Rattle.std.proofs.Common.{take, length-append, length-take, ne_eqb, if◌then◌else◌}
use Rattle.std.specs.declared.option.Option.{Option}
use Rattle.std.specs.Io.KnownBytes.{Keeps, Consumes, IsAtEnd}
use Rattle.std.proofs.KnownBytes.{Consumes-nil, Consumes-kept, Consumes-trans}
use Rattle.std.proofs.lemmas.Bool.{false≢true}
use Rattle.std.proofs.lemmas.List.Elements.{All-nil, All-head, All-tail, All-append}
use Rattle.text.specs.Words.{◌is◌}
use Rattle.text.proofs.Choices.{if_no}
use Rattle.textio.specs.Lines.{LogLine, ended_line, lines_in, lines_of, count_most, HasEndlessLine}
use Rattle.textio.specs.NextLine.{TakesPart, ReadsPart, IsNextLine}
use Rattle.textio.proofs.LinesEnded.{NoLf, lines_none, lines_whole, lines_last}
use Rattle.textio.proofs.LinesSpelt.{texts_from, texts_all, texts_end, texts_more}

take_kept : (m : ℕ) (xs ys : List ℕ) → take m (take m xs ++ ys) ≡ take m (xs ++ ys)
take_kept zero xs ys = refl
take_kept (suc m) [] ys = refl
take_kept (suc m) (x ∷ xs) ys = ap (λ (l : List ℕ). x ∷ l) (take_kept m xs ys)

abbrev AnyEndless : List (List ℕ) → Type 0
AnyEndless ls = Any (λ (l : List ℕ). count_most ≤ length l) ls

first_here : (g : List ℕ) (ls : List (List ℕ)) → count_most ≤ length g → AnyEndless (g ∷ ls)
first_here g ls h = (0, g, omega arith, refl, h)

either : (lf : Bool) (g : List ℕ) (ls ms : List (List ℕ)) → count_most ≤ length g → AnyEndless ms
    → AnyEndless (if lf then g ∷ ls else ms)
either true g ls ms h k = first_here g ls h
either false g ls ms h k = k

-- a line that has begun so is the first
first_long : (g rest : List ℕ) → count_most ≤ length g → AnyEndless (texts_from g rest)
first_long g [] h =
    subst AnyEndless
    (sym (texts_end g ∙ if_no _ _ (ne_eqb (length g) 0 (λ e. omega (arith, h, e)))))
    (first_here g [] h)
first_long g (b ∷ bs) h =
    subst AnyEndless (sym (texts_more g b bs))
    (either (b is "\n") g (texts_from [] bs) (texts_from (g ++ (b ∷ [])) bs) h
    (first_long (g ++ (b ∷ [])) bs (omega (arith, h, length-append g (b ∷ [])))))

texts_begun : (g part rest : List ℕ) → NoLf part → texts_from g (part ++ rest) ≡ texts_from (g ++ part) rest
texts_begun g [] rest h = ap (λ (l : List ℕ). texts_from l rest) (sym (append-nil g))
texts_begun g (b ∷ part) rest h =
    texts_more g b (part ++ rest)
    ∙ if_no _ _ (ne_eqb b 10 (All-head (λ b. b ≢ 10) b part h))
    ∙ texts_begun (g ++ (b ∷ [])) part rest (All-tail (λ b. b ≢ 10) b part h)
    ∙ ap (λ (l : List ℕ). texts_from l rest) (append_assoc g (b ∷ []) part)

-- before anything is read
pub none_read : (a : Option (List ℕ)) (memory : List ℕ) → TakesPart a a 0 [] memory 0 []
none_read a memory = grind (arith, common_steps, All-nil, Consumes-nil)

-- two parts of one line, one after the other
pub joined : {old mid new : Option (List ℕ)} {m n held place : ℕ} {before after lf : List ℕ}
    → TakesPart old mid m [] before held [] → TakesPart mid new n (take held before) after place lf
    → length after ≡ length before → TakesPart old new (m + n) [] after place lf
joined {old} {mid} {new} {m} {n} {held} {place} {before} {after} {lf} p q long =
    let both : (p.part ++ []) ++ (q.part ++ lf) ≡ (p.part ++ q.part) ++ lf =
    ap (λ (l : List ℕ). l ++ (q.part ++ lf)) (append-nil p.part) ∙ sym (append_assoc p.part q.part lf) in
    let front : take held before ≡ take (length after) p.part = p.kept ∙ ap (λ (k : ℕ). take k p.part) (sym long) in
    record {
      part = p.part ++ q.part;
      some = omega (arith, length-append p.part q.part, p.some, q.some);
      one_line = All-append (λ b. b ≢ 10) p.part q.part p.one_line q.one_line;
      taken = subst (Consumes old new) both (Consumes-trans old mid new _ _ p.taken q.taken);
      kept = q.kept ∙ ap (λ (l : List ℕ). take (length after) (l ++ q.part)) front
          ∙ take_kept (length after) p.part q.part;
      inside = q.inside;
    }

-- where the next read fails
pub read_part : {old mid new : Option (List ℕ)} {n held : ℕ} {before after : List ℕ}
    → TakesPart old mid n before after held [] → Keeps mid new → ReadsPart old new
read_part {old} {mid} {new} p kept = record {
  part = p.part;
  one_line = p.one_line;
  taken = Consumes-kept old mid new p.part (subst (Consumes old mid) (append-nil p.part) p.taken) kept;
}

module _ (old new : Option (List ℕ)) (memory : List ℕ) where
  pub whole_line : (n held : ℕ) → TakesPart old new n [] memory held (10 ∷ [])
      → IfSome old (λ log. IsNextLine log new memory (Some (record { held = held; ended = true })))
  whole_line n held p = by old new p.taken
    where
      by : (a b : Option (List ℕ)) → Consumes a b (p.part ++ (10 ∷ []))
          → IfSome a (λ log. IsNextLine log b memory (Some (record { held = held; ended = true })))
      by None b taken = tt
      by (Some log) None taken = absurd taken
      by (Some log) (Some rest) taken =
          let e : log ≡ p.part ++ (10 ∷ rest) = taken ∙ append_assoc p.part (10 ∷ []) rest in record {
            first = ended_line p.part;
            later = rest;
            lines = ap lines_in e ∙ lines_whole p.part rest p.one_line;
            bytes = e;
            last = λ h. absurd (false≢true (sym h));
            kept = ap (λ (l : List ℕ). ended_line l) p.kept;
            left = refl;
          }

  module _ (mid : Option (List ℕ)) (n held : ℕ) (p : TakesPart old mid n [] memory held []) where
    pub last_line : IsAtEnd mid → Keeps mid new → 0 < held
        → IfSome old (λ log. IsNextLine log new memory (Some (record { held = held; ended = false })))
    last_line end keeps some = by old mid new p.taken end keeps
      where
        by : (a b c : Option (List ℕ)) → Consumes a b (p.part ++ []) → IsAtEnd b → Keeps b c
            → IfSome a (λ log. IsNextLine log c memory (Some (record { held = held; ended = false })))
        by None b c taken end keeps = tt
        by (Some log) None c taken end keeps = absurd taken
        by (Some log) (Some rest) None taken end keeps = absurd keeps
        by (Some log) (Some rest) (Some later) taken end keeps =
            let e : log ≡ p.part = taken ∙ ap (λ (l : List ℕ). (p.part ++ []) ++ l) end ∙ append-nil (p.part ++ [])
            ∙ append-nil p.part in
            let none : later ≡ [] = keeps ∙ end in
            let long : 0 < length p.part =
            omega (
              arith,
              some,
              ap length p.kept,
              length-take held memory,
              length-take (length memory) p.part,
              p.inside,
            ) in record {
              first = record { text = p.part; ended = false };
              later = later;
              lines = ap lines_in e ∙ lines_last p.part p.one_line long
                  ∙ ap (λ (ls : List LogLine). record { text = p.part; ended = false } ∷ ls)
                  (sym (ap lines_in none ∙ lines_none));
              bytes = e ∙ sym (append-nil p.part) ∙ ap (λ (l : List ℕ). p.part ++ l) (sym none);
              last = λ h. none;
              kept = ap (λ (l : List ℕ). record { text = l; ended = false }) p.kept;
              left = refl;
            }

    pub no_line : IsAtEnd mid → held ≡ 0 → 0 < length memory → IfSome old (λ log. IsNextLine log new memory None)
    no_line end none room = grind arith

    -- so many parts, of a byte at least each
    pub endless : count_most ≤ n → IfSome old HasEndlessLine
    endless many = by old mid p.taken
      where
        long : count_most ≤ length p.part
        long = omega (arith, many, p.some)

        by : (a b : Option (List ℕ)) → Consumes a b (p.part ++ []) → IfSome a HasEndlessLine
        by None b taken = tt
        by (Some log) None taken = absurd taken
        by (Some log) (Some rest) taken =
            subst AnyEndless
            (sym (ap lines_of (taken ∙ append_assoc p.part [] rest) ∙ sym (texts_all (p.part ++ rest))
            ∙ texts_begun [] p.part rest p.one_line))
            (first_long p.part rest long)
