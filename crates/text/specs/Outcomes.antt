-- The result of a call (RULES, The numbers a call gives): it is refused for an error, or served.
--   CallResult E A D        what a call gives: an error of E, or an answer of A; the bytes that it writes from the
--                           start of the memory that it borrows; and the record, of D, that it leaves
--   served_as a bs d        what a served call gives
--   refused_as d e          what a refused one gives: no bytes, and the record as it was
--   outcome_number why r    the number of what a call returns: 0 if it is served, else that of its error, by `why`
--   call_number why c       the same of a call's result
--   answer_number f r       the number that `f` has of the answer that a call returns: 0 if it is refused
--   number_answered c       the number that a call answers, as bytes taken, or a place: 0 if it is refused
--   with_length c           what a call returns that answers how many bytes it wrote
--   with_record c           what a call returns that answers the record that it leaves
-- Assumes nothing.
use Rattle.std.specs.Prelude.{ℕ, List, [], length, Result, Ok, Err}

pub record CallResult (E A D : Type 0) : Type 0 where
  pub says : Result A E
  pub bytes : List ℕ
  pub leaves : D

abbrev pub served_as : {E A D : Type 0} → A → List ℕ → D → CallResult E A D
served_as a bs d = record { says = Ok a; bytes = bs; leaves = d }

abbrev pub refused_as : {E A D : Type 0} → D → E → CallResult E A D
refused_as d e = record { says = Err e; bytes = []; leaves = d }

abbrev pub outcome_number : {A E : Type 0} → (E → ℕ) → Result A E → ℕ
outcome_number why (Ok a) = 0
outcome_number why (Err e) = why e

abbrev pub call_number : {E A D : Type 0} → (E → ℕ) → CallResult E A D → ℕ
call_number why c = outcome_number why c.says

abbrev pub answer_number : {A E : Type 0} → (A → ℕ) → Result A E → ℕ
answer_number f (Ok a) = f a
answer_number f (Err e) = 0

abbrev pub number_answered : {E D : Type 0} → CallResult E ℕ D → ℕ
number_answered c = answer_number (λ n. n) c.says

abbrev pub length_said : {E A : Type 0} → Result A E → List ℕ → Result ℕ E
length_said (Ok a) bs = Ok (length bs)
length_said (Err e) bs = Err e

abbrev pub with_length : {E A D : Type 0} → CallResult E A D → Result ℕ E
with_length c = length_said c.says c.bytes

abbrev pub record_said : {E A D : Type 0} → Result A E → D → Result D E
record_said (Ok a) d = Ok d
record_said (Err e) d = Err e

abbrev pub with_record : {E A D : Type 0} → CallResult E A D → Result D E
with_record c = record_said c.says c.leaves
