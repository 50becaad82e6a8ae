-- What one write after another has written.
use Rattle.std.proofs.Common.{◌≡◌, ℕ, ◌+◌, min, List, ◌++◌, length, Ok, Err, sym, subst, ◌∙◌, arith}
use Rattle.std.specs.declared.option.Option.{Option}
use Rattle.std.specs.declared.result.Result.{Result}
use Rattle.std.specs.Result.{OnOk, IsErr, IfErr, IsErrAnd}
use Rattle.std.specs.Io.KnownBytes.{Appends}
use Rattle.std.proofs.KnownBytes.{Appends-nil, Appends-trans}
use Rattle.std.proofs.Math.Seq.{take-append-add, take-length}
use Rattle.std.proofs.lemmas.List.{take-append-le, take_min}
use Rattle.textio.specs.Fronts.{WritesFront, WritesText}

-- nothing is a front of any text
pub front_none : (a : Option (List ℕ)) (xs : List ℕ) → WritesFront a a xs
front_none a xs = record { count = 0; written = Appends-nil a }

pub front_then : (a b c : Option (List ℕ)) (xs ys : List ℕ) → Appends a b xs → WritesFront b c ys
    → WritesFront a c (xs ++ ys)
front_then a b c xs ys p q = record {
  count = length xs + q.count;
  written = subst (Appends a c) (sym (take-append-add xs ys q.count)) (Appends-trans a b c xs _ p q.written);
}

pub front_more : (a b : Option (List ℕ)) (xs ys : List ℕ) → WritesFront a b xs → WritesFront a b (xs ++ ys)
front_more a b xs ys p =
    let count = min p.count (length xs) in
    let same = take-append-le count xs ys (omega arith) ∙ take_min p.count xs in
    record { count = count; written = subst (Appends a b) (sym same) p.written }

whole_then : {U F : Type 0} (a b c : Option (List ℕ)) (r : Result U F) (xs ys : List ℕ) → Appends a b xs
    → OnOk r (Appends b c ys) → OnOk r (Appends a c (xs ++ ys))
whole_then a b c r xs ys h g = grind (arith, Appends-trans)

-- after a text that is written, the next call
pub writes_after : {U F : Type 0} {fails : F → Type 0} {a b c : Option (List ℕ)} {r : Result U F} (xs : List ℕ)
    {ys : List ℕ} → Appends a b xs → WritesText fails b c r ys → WritesText fails a c r (xs ++ ys)
writes_after xs p q = grind (arith, whole_then, front_then)

-- the same, where a call wrote it
pub writes_then : {T U E F : Type 0} {fails : E → Type 0} {ends : F → Type 0} {a b c : Option (List ℕ)} {v : T}
    {r : Result U F} {xs ys : List ℕ} → WritesText fails a b (Ok v) xs → WritesText ends b c r ys
    → WritesText ends a c r (xs ++ ys)
writes_then p q = writes_after _ p.whole q

-- all of it
pub writes_all : {T E : Type 0} {fails : E → Type 0} {a b : Option (List ℕ)} {v : T} (xs : List ℕ) → Appends a b xs
    → WritesText fails a b (Ok v) xs
writes_all {a = a} {b} xs p = record {
  whole = p;
  front = record { count = length xs; written = subst (Appends a b) (sym (take-length xs)) p };
  err = tt;
}

-- of what a call that failed hands on, what holds of its error
pub same_error : {U E : Type 0} (fails : E → Type 0) (s : Result U E) (e : E) → fails e → IsErrAnd s (λ x. x ≡ e)
    → IfErr s fails
same_error fails s e h g = grind arith

-- a call that failed, and with it the whole
pub writes_failed : {T U E : Type 0} {fails : E → Type 0} {a b : Option (List ℕ)} {e : E} {s : Result U E}
    {xs : List ℕ} → WritesText {T = T} fails a b (Err e) xs → IsErr s × IsErrAnd s (λ x. x ≡ e)
    → WritesText fails a b s xs
writes_failed {fails = fails} {e = e} {s} p q = grind arith

-- the same, where more was to follow
pub writes_fails : {T U E : Type 0} {fails : E → Type 0} {a b : Option (List ℕ)} {e : E} {s : Result U E}
    {xs : List ℕ} (ys : List ℕ) → WritesText {T = T} fails a b (Err e) xs → IsErr s × IsErrAnd s (λ x. x ≡ e)
    → WritesText fails a b s (xs ++ ys)
writes_fails {fails = fails} {e = e} {s} ys p q = grind (arith, front_more)

-- the last of the text, and the value that is then given
pub writes_last : {T U E : Type 0} {fails : E → Type 0} {a b c : Option (List ℕ)} {v : T} {w : U} (xs : List ℕ)
    {ys : List ℕ} → Appends a b xs → WritesText fails b c (Ok v) ys → WritesText fails a c (Ok w) (xs ++ ys)
writes_last xs p q = writes_all _ (Appends-trans _ _ _ xs _ p q.whole)
