-- What a loop over places has written, a text for each place.
use Rattle.std.proofs.Common.{◌≡◌, ℕ, zero, suc, ◌+◌, ◌-◌, ◌<◌, List, ◌++◌, refl, sym, ap, subst, ◌∙◌, append_assoc}
use Rattle.std.proofs.Common.{append-nil, zero-add, add-zero, Err, arith}
use Rattle.std.specs.declared.option.Option.{Option}
use Rattle.std.specs.declared.result.Result.{Result}
use Rattle.std.specs.Result.{IsErr, IsErrAnd}
use Rattle.std.specs.List.{flat_map, range_with_len}
use Rattle.std.specs.Io.KnownBytes.{Appends}
use Rattle.std.proofs.KnownBytes.{Appends-trans}
use Rattle.textio.specs.Fronts.{WritesText}
use Rattle.textio.proofs.Fronts.{writes_after, writes_fails}

-- so many numbers, and then more
each_parts : (f : ℕ → List ℕ) (s i n : ℕ) → flat_map f (range_with_len s (i + n))
    ≡ flat_map f (range_with_len s i) ++ flat_map f (range_with_len (s + i) n)
each_parts f s zero n = rw (zero-add n, add-zero s) refl
each_parts f s (suc i) n =
    let count : suc i + n ≡ suc (i + n) = omega arith in
    let start : s + 1 + i ≡ s + suc i = omega arith in
    ap (λ m. flat_map f (range_with_len s m)) count
    ∙ ap (λ t. f s ++ t) (each_parts f (s + 1) i n)
    ∙ sym (append_assoc (f s) (flat_map f (range_with_len (s + 1) i)) (flat_map f (range_with_len (s + 1 + i) n)))
    ∙ ap (λ m. (f s ++ flat_map f (range_with_len (s + 1) i)) ++ flat_map f (range_with_len m n)) start

each_one : (f : ℕ → List ℕ) (s i m : ℕ) → m ≡ s + i
    → flat_map f (range_with_len s (i + 1)) ≡ flat_map f (range_with_len s i) ++ f m
each_one f s i m e = grind (arith, each_parts, append-nil)

-- one turn more
pub each_more : (f : ℕ → List ℕ) (s i j m : ℕ) (a b c : Option (List ℕ)) → j ≡ i + 1 → m ≡ s + i
    → Appends a b (flat_map f (range_with_len s i)) → Appends b c (f m)
    → Appends a c (flat_map f (range_with_len s j))
each_more f s i j m a b c more e p q = grind (arith, each_one, Appends-trans)

-- a turn that failed, of n
pub each_fails : {T U E : Type 0} {fails : E → Type 0} (f : ℕ → List ℕ) (s i n m : ℕ) {a b c : Option (List ℕ)} {x : E}
    {z : Result U E} → m ≡ s + i → i < n → Appends a b (flat_map f (range_with_len s i))
    → WritesText {T = T} fails b c (Err x) (f m) → IsErr z × IsErrAnd z (λ y. y ≡ x)
    → WritesText fails a c z (flat_map f (range_with_len s n))
each_fails {fails = fails} f s i n m {a} {b} {c} {z = z} e h p q failed =
    let most = n - (i + 1) in
    let rest = flat_map f (range_with_len (s + i + 1) most) in
    let count : n ≡ i + suc most = omega (arith, h) in
    let whole = ap (λ k. flat_map f (range_with_len s k)) count ∙ each_parts f s i (suc most)
    ∙ ap (λ k. flat_map f (range_with_len s i) ++ (f k ++ rest)) (sym e) in
    subst (WritesText fails a c z) (sym whole) (writes_after _ p (writes_fails rest q failed))
