-- The calls that take a device record, and a run of them (RULES, Time: the history of demand 3 is the calls since an
-- accepted set-up that take a device record, each given the record that the last one returned).
--   Call            such a call with its arguments, at any place (RULES, Places); a call in place is the same call
--   after B d c     the record that the call c returns, given d
--   Gave            what a call gives beside the record: the reply is the first bytes of the memory, as many as the
--                   length says; the place is the one that an opening gives; 0 or nothing if the call has none
--   gave_by B d c   what the call c gives so, given d;    number_of B d c   its number
--   run B d cs      the record after the calls cs, from d on;    gave_all B d cs    what each of them gives
-- Assumes nothing.
use Rattle.std.specs.Prelude.{ℕ, Bool, List, [], ◌∷◌}
use Rattle.ours.specs.Board.{Board, Given, Lent}

pub data Call : Type 0 where
  opens : (random : ℕ) (memory : List ℕ) → Call
  closes : (place : ℕ) → Call
  receives : (place : ℕ) (bytes memory : List ℕ) → Call
  passes : (seconds : ℕ) → Call
  faults : (fault : Bool) → Call
  reports : (errors : List ℕ) → Call
  enables : (lamp : ℕ) (mark : Bool) → Call

pub record Gave : Type 0 where
  pub number : ℕ
  pub taken : ℕ
  pub place : ℕ
  pub length : ℕ
  pub memory : List ℕ

abbrev pub gave_lent : {R : Type 0} → ℕ → Lent R → Gave
gave_lent place r = record {
  number = r.number;
  taken = r.taken;
  place = place;
  length = r.length;
  memory = r.memory;
}

abbrev pub gave_number : {R : Type 0} → Given R → Gave
gave_number r = record { number = r.number; taken = 0; place = 0; length = 0; memory = [] }

module _ {R : Type 0} (B : Board R) where
  abbrev pub after : R → Call → R
  after d (opens random m) = (B.opening d random m).device
  after d (closes p) = (B.closing d p).device
  after d (receives p bs m) = (B.receive d p bs m).device
  after d (passes n) = (B.pass d n).device
  after d (faults fault) = (B.set_fault d fault).device
  after d (reports errors) = (B.set_errors d errors).device
  after d (enables lamp mark) = (B.set_mark d lamp mark).device

  abbrev pub gave_by : R → Call → Gave
  gave_by d (opens random m) = gave_lent (B.place_opened d random m) (B.opening d random m)
  gave_by d (closes p) = gave_number (B.closing d p)
  gave_by d (receives p bs m) = gave_lent 0 (B.receive d p bs m)
  gave_by d (passes n) = gave_number (B.pass d n)
  gave_by d (faults fault) = gave_number (B.set_fault d fault)
  gave_by d (reports errors) = gave_number (B.set_errors d errors)
  gave_by d (enables lamp mark) = gave_number (B.set_mark d lamp mark)

  abbrev pub number_of : R → Call → ℕ
  number_of d c = (gave_by d c).number

  abbrev pub run : R → List Call → R
  run d [] = d
  run d (c ∷ cs) = run (after d c) cs

  abbrev pub gave_all : R → List Call → List Gave
  gave_all d [] = []
  gave_all d (c ∷ cs) = gave_by d c ∷ gave_all (after d c) cs
