-- Values on a line, read from the front of bytes: a value, and the bytes after it (RULES, Commands and Controller).
--   f >>= g            g of what f gives, if it gives something
--   first_named code xs b  the first of xs whose code is the byte b
--   letter f           the value that the first byte names by f, and the bytes after it
--   strip_prefix t s   what follows the bytes t, if s begins with them
--   first_spelled text xs  the first of xs with whose text the bytes begin
--   preceded_by c read  the byte c, and then the value that `read` reads
--   pair_of mk f g     two values, one after the other, as the one that mk makes of them
--   values_in n f      n values, one after the other
--   whole_value read s  the value that all of s says
--   Ends s             where a word may end: no byte follows, or a space
--   Plain legal text x t    the bytes t say the legal value x as our own side writes it, and in no other way
--   Codec E legal text writes read     the law of a value: its own text says it if it is legal, and no value that is
--                      not legal is said; what says a value is read as that value, if E holds of what follows; and
--                      what is read says the value that was read
--   WholeCodec legal text writes read  the same law, where the value is all of a parameter
--   taken_value r      what a reader of the code returned, without the place in memory of the bytes after it
-- Assumes nothing.
use Rattle.std.specs.Prelude.{ℕ, zero, suc, ◌≡◌, Bool, true, List, [], ◌∷◌, ◌++◌, if◌then◌else◌}
use Rattle.std.specs.Prelude.{Option, Some, None, ◌==◌}
use Rattle.std.specs.Option.{option_or}
use Rattle.std.specs.Borrow.{Bor}
use Prim.Native.Char.{Char, code}
use Rattle.text.specs.Words.{◌is◌}

infixl 10 ◌>>=◌
abbrev pub ◌>>=◌ : {A B : Type 0} → Option A → (A → Option B) → Option B
None >>= f = None
(Some x) >>= f = f x

abbrev pub first_named : {A : Type 0} → (A → ℕ) → List A → ℕ → Option A
first_named of [] b = None
first_named of (x ∷ xs) b = if b == (of x) then Some x else first_named of xs b

abbrev pub letter : {A : Type 0} → (ℕ → Option A) → List ℕ → Option (A × List ℕ)
letter f [] = None
letter f (b ∷ s) = f b >>= λ x. Some (x, s)

abbrev pub strip_prefix : List ℕ → List ℕ → Option (List ℕ)
strip_prefix [] s = Some s
strip_prefix (c ∷ t) [] = None
strip_prefix (c ∷ t) (b ∷ s) = if b == c then strip_prefix t s else None

abbrev pub first_spelled : {A : Type 0} → (A → List ℕ) → List A → List ℕ → Option (A × List ℕ)
first_spelled text [] s = None
first_spelled text (x ∷ xs) s = option_or (strip_prefix (text x) s >>= λ rest. Some (x, rest)) (first_spelled text xs s)

abbrev pub preceded_by : {A : Type 0} → Char → (List ℕ → Option (A × List ℕ)) → List ℕ → Option (A × List ℕ)
preceded_by c read [] = None
preceded_by c read (b ∷ s) = if b is c then read s else None

abbrev pub pair_of : {A B C : Type 0} → (A → B → C) → (List ℕ → Option (A × List ℕ))
    → (List ℕ → Option (B × List ℕ))
    → List ℕ
    → Option (C × List ℕ)
pair_of mk f g s = f s >>= λ x. g x.1 >>= λ y. Some (mk x.0 y.0, y.1)

abbrev pub values_in : {A : Type 0} → ℕ → (List ℕ → Option (A × List ℕ)) → List ℕ → Option (List A × List ℕ)
values_in zero f s = Some ([], s)
values_in (suc n) f s = f s >>= λ x. values_in n f x.1 >>= λ xs. Some (x.0 ∷ xs.0, xs.1)

abbrev pub value_at_end : {A : Type 0} → A → List ℕ → Option A
value_at_end x [] = Some x
value_at_end x (b ∷ s) = None

abbrev pub whole_value : {A : Type 0} → (List ℕ → Option (A × List ℕ)) → List ℕ → Option A
whole_value read s = read s >>= λ r. value_at_end r.0 r.1

abbrev pub Ends : List ℕ → Type 0
Ends [] = Unit {0}
Ends (b ∷ s) = b ≡ code " "

abbrev pub Plain : {A : Type 0} → (A → Bool) → (A → List ℕ) → A → List ℕ → Type 0
Plain legal text x t = (legal x ≡ true) × (t ≡ text x)

pub record Codec
    {A : Type 0}
    (E : List ℕ → Type 0)
    (legal : A → Bool)
    (text : A → List ℕ)
    (writes : A → List ℕ → Type 0)
    (read : List ℕ → Option (A × List ℕ)) : Type 0 where
  pub own : (x : A) → legal x ≡ true → writes x (text x)
  pub told : (x : A) (t : List ℕ) → writes x t → legal x ≡ true
  pub back : (x : A) (t rest : List ℕ) → writes x t → E rest → read (t ++ rest) ≡ Some (x, rest)
  pub sound : (s : List ℕ) (x : A) (rest : List ℕ) → read s ≡ Some (x, rest)
      → (t : List ℕ) × writes x t × (s ≡ t ++ rest)

pub record WholeCodec
    {A : Type 0}
    (legal : A → Bool)
    (text : A → List ℕ)
    (writes : A → List ℕ → Type 0)
    (read : List ℕ → Option A) : Type 0 where
  pub own : (x : A) → legal x ≡ true → writes x (text x)
  pub told : (x : A) (t : List ℕ) → writes x t → legal x ≡ true
  pub back : (x : A) (s : List ℕ) → writes x s → read s ≡ Some x
  pub sound : (s : List ℕ) (x : A) → read s ≡ Some x → writes x s

abbrev pub taken_value : {A : Type 0} → Option (A × Bor (List ℕ)) → Option (A × List ℕ)
taken_value None = None
taken_value (Some x) = Some (x.0, x.1.now)
