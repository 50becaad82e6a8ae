-- SETTINGS THAT SURVIVE A BOARD SWAP (RULES, Stored form), over any board: what is stored, what loads, and that the
-- hours go on. TO BELIEVE IT, believe, and nothing else: the stored form and what is stored of a record
-- (stored/specs/Form); what demand 3 says of a history (CountsSeconds, History); ours/specs/Board, and here Calls.
-- Which bytes load is in demand 1, row by row.
--   LoadsAs B s w ms    the bytes s load, and give the record of a set-up of w, with the marks ms
--   BoardSwap           the theorem
-- Assumes nothing.
use Rattle.std.specs.List.{list_all}
use Rattle.std.specs.Prelude.{ℕ, ◌+◌, ◌<◌, ◌≡◌, Bool, true, List, length, slice_index_or}
use Rattle.record.specs.Wanted.{Wanted}
use Rattle.record.specs.Rules.{is_at_most}
use Rattle.words.specs.Bytes.{◌at◌}
use Rattle.stored.specs.Form.{form_version, marked_form_of, old_form_of, stored_of, marks_stored, stored_form}
use Rattle.stored.specs.Loading.{started_with}
use Rattle.ours.specs.Board.{Board, bytes_written}
use Rattle.demands.specs.Calls.{Call, run}
use Rattle.demands.specs.History.{no_streams, history, marks_after, burning_seconds, lamp_with}
use Rattle.demands.specs.CountsSeconds.{Beginning, IsClass1, start_marks, IsAccepted, run_of, history_of}

pub record LoadsAs {R : Type 0} (B : Board R) (s : List ℕ) (w : Wanted) (ms : List Bool) : Type 0 where
  pub accepted : (B.load s).number ≡ 0
  pub fresh : B.shows (B.load s).device ≡ started_with w ms

pub record BoardSwap {R : Type 0} (B : Board R) : Type 0 where
  -- the form of the settings, with each lamp's seconds as they are now
  pub form_stored : (d : R) (m : List ℕ) → (B.store d m).number ≡ 0
      → bytes_written (B.store d m) ≡ stored_form (B.shows d)
  -- a load is a fresh set-up (RULES, Stored form): of what was stored
  pub stored_loads : (d : R) (m : List ℕ) → (B.store d m).number ≡ 0
      → LoadsAs B (bytes_written (B.store d m)) (stored_of (B.shows d)) (marks_stored (B.shows d))
  -- RULES, Lamps: version 1 "loads with all set": it is the set-up of its settings, which are of Class 1 (RULES, Class
  -- 2)
  pub old_form_sets_up : (w : Wanted) → IsClass1 w → B.load (old_form_of w) ≡ B.set_up w
  -- RULES, Class 2: version 2 loads "as Class 1", with its marks
  pub marked_form_loads : (w : Wanted) (ms : List Bool) → IsClass1 w → (B.load (marked_form_of w ms)).number ≡ 0
      → LoadsAs B (marked_form_of w ms) w ms
  -- "Versions 1 and 2 load as Class 1", whatever bytes these are
  pub older_class_1 : (s : List ℕ) → (B.load s).number ≡ 0 → (s at 0 ≡ form_version → ⊥)
      → (B.shows (B.load s).device).settings.class_number ≡ 1
  -- what loads, stored again, is the same bytes, of the newest version (RULES, Stored form: one set-up has one form)
  pub stored_again : (s : List ℕ) → list_all (is_at_most 255) s ≡ true → s at 0 ≡ form_version → (B.load s).number ≡ 0
      → stored_form (B.shows (B.load s).device) ≡ s
  -- no other bytes of that version load as that record (RULES, Stored form: each version has one form)
  pub one_form : (s t : List ℕ) → list_all (is_at_most 255) s ≡ true → list_all (is_at_most 255) t ≡ true →
      (B.load s).number ≡ 0
      → (B.load t).number ≡ 0 → s at 0 ≡ t at 0 → B.shows (B.load s).device ≡ B.shows (B.load t).device → s ≡ t
  -- a lamp's seconds after the swap: what it started with on the one board, and what it burnt on both
  pub hours_go_on : (b : Beginning) (w : Wanted) (cs es : List Call) (m : List ℕ) (place : ℕ) → IsAccepted B b w
      → place < length w.lamps
      → let old = run_of B b w cs in
      let new = (B.load (bytes_written (B.store old m))).device in
      (B.store old m).number ≡ 0
      → slice_index_or (B.shows (run B new es)).own.lamps place 0
      ≡ lamp_with
      (burning_seconds w (start_marks b w) place (history_of B b w cs)
      + burning_seconds w (marks_after (start_marks b w) (history_of B b w cs)) place (history B new no_streams es))
      (slice_index_or w.lamps place 0)
