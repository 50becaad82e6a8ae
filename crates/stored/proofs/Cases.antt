-- Loading by its cases: what it gives by the version, by what the form says and leaves, and by what set-up gave.
-- Assumes nothing.
use Rattle.std.proofs.Common.{ℕ, ◌<◌, ◌≡◌, Bool, true, false, ◌&&◌, ◌==◌, if◌then◌else◌, List, [], length, map}
use Rattle.std.proofs.Common.{replicate, Some, None, Result, Ok, Err, sym, ap, ◌∙◌, arith, OnOk}
use Rattle.std.specs.Result.{is_ok}
use Rattle.text.proofs.Choices.{if_yes, by_not}
use Rattle.record.specs.Limits.{lamps_most, is_class_number}
use Rattle.record.specs.Wanted.{Wanted}
use Rattle.record.specs.Record.{start_device, blank}
use Rattle.text.specs.Outcomes.{CallResult, served_as, refused_as}
use Rattle.record.specs.SetUp.{is_set_up, set_up}
use Rattle.record.specs.declared.types.Device.{Device}
use Rattle.record.specs.declared.set_up_error.SetUpError.{SetUpError}
use Rattle.record.specs.declared.types.Setting.TheVariants.{Inputs, Lamps}
use Rattle.record.proofs.Calls.{set_up_accepted, set_up_in_range}
use Rattle.record.proofs.OutOfRange.{each_in_range}
use Rattle.record.proofs.Rules.{lamps_few, inputs_class}
use Rattle.record.proofs.Started.{started_parts}
use Rattle.stored.proofs.Fields.{length-seconds_in}
use Rattle.text.specs.Flags.{is_raised, flag_of}
use Rattle.text.proofs.FlagsTold.{flags_replicate, flags_told}
use Rattle.stored.specs.Form.{FormSaid, form}
use Rattle.stored.specs.declared.error.LoadError.{LoadError}
use Rattle.stored.specs.declared.error.LoadError.TheVariants.{OtherVersion, CutShort, LeftOver, NotLegal}
use Rattle.stored.specs.Loading.{is_other_version, contents, loaded_from, is_marks_of, are_marks}
use Rattle.stored.specs.Loading.{started_with}
use Rattle.stored.proofs.Marks.{are_marks-map, all_are_marks, started_with-replicate}

-- by the version, and by what reading gives
module _ (s : List ℕ) where
  pub loaded_other : is_other_version s ≡ true → loaded_from s ≡ refused_as blank OtherVersion
  unfolding loaded_from
  loaded_other v = grind (arith, v)

  module _ (v : is_other_version s ≡ false) where
    pub loaded_cut : form s ≡ None → loaded_from s ≡ refused_as blank CutShort
    unfolding loaded_from
    loaded_cut e = grind (arith, v, e)

    module _ {f : FormSaid} {rest : List ℕ} (e : form s ≡ Some (f, rest)) where
      pub loaded_over : (length rest == 0) ≡ false → loaded_from s ≡ refused_as blank LeftOver
      unfolding loaded_from
      loaded_over h = rw (v, e, h)

      pub loaded_whole : (length rest == 0) ≡ true → loaded_from s ≡ contents f
      unfolding loaded_from
      loaded_whole h = grind (arith, v, e, h)

pub none_over : (t : Bool) (u : Unit {0}) → Ok u ≡ (if t then Ok tt else Err LeftOver) → t ≡ true
none_over t u e = grind (arith, e)

pub ruleset loaded_early = (loaded_other, loaded_cut, loaded_over)

-- ---- by what set-up gave

module _ (w : Wanted) where
  pub none_of_class : is_class_number w.class ≡ false → is_set_up w ≡ false
  none_of_class e = by_not (is_set_up w) (λ h. grind (arith, e, inputs_class _ _ (each_in_range w h Inputs)))

  pub too_many_lamps : lamps_most < length w.lamps → is_set_up w ≡ false
  too_many_lamps l = by_not (is_set_up w) (λ h. omega (arith, lamps_few _ (each_in_range w h Lamps)))

  pub record Sets (r : Result (Unit {0}) SetUpError) (d : Device) : Type 0 where
    pub taken : is_ok r ≡ is_set_up w
    pub made : OnOk r (d ≡ start_device w)

  pub set_up_sets : (r : Result (Unit {0}) SetUpError) (d : Device) → r ≡ (set_up w).says → d ≡ (set_up w).leaves
      → Sets r d
  set_up_sets r d h g = grind (arith, set_up_in_range, set_up_accepted)

  -- what a form says of it with these marks, and what a load of it gives where they may stand there
  abbrev pub saying : List ℕ → FormSaid
  saying marks = record { settings = w; marks = marks }

  abbrev pub started_if : Bool → List Bool → CallResult LoadError (Unit {0}) Device
  started_if t ms = if t then served_as tt [] (started_with w ms) else refused_as blank NotLegal

  module _ (ok : is_set_up w ≡ true) where
    abbrev n : ℕ
    n = length w.lamps

    contents_marked : (s : List ℕ) → contents (saying s) ≡ started_if (are_marks n s) (map is_raised s)
    contents_marked s = ap (λ (t : Bool). started_if (t && are_marks n s) (map is_raised s)) ok

    pub contents_of : (ms : List Bool) → contents (saying (map flag_of ms)) ≡ started_if (is_marks_of n ms) ms
    contents_of ms = contents_marked (map flag_of ms) ∙ (λ j. started_if (are_marks-map n ms j) (flags_told ms j))

    -- as the code tests them on the device that was set up
    pub contents_tested : {d : Device} → d ≡ start_device w → {m s : List ℕ} → m ≡ s → {t : Bool}
        → t ≡ are_marks d.settings.lamp_count s → contents (saying m) ≡ started_if t (map is_raised s)
    contents_tested made {m} {s} same e = grind (arith, started_parts)

    -- in the version that has none, each of its lamps is enabled
    pub contents_unmarked : contents (saying (replicate n 1)) ≡ served_as tt [] (start_device w)
    contents_unmarked =
        ap (λ (s : List ℕ). contents (saying s)) (sym (flags_replicate n))
        ∙ contents_of (replicate n true)
        ∙ if_yes _ _ (all_are_marks n (lamps_few w.lamps (each_in_range w ok Lamps)))
        ∙ ap (λ (d : Device). served_as tt [] d) (started_with-replicate w ok)

pub ruleset said_contents = (contents_unmarked)

pub ruleset not_set_up = (none_of_class, too_many_lamps, length-seconds_in)
